-- The bytes of a report, as functions of the entries that it shows.
use Rattle.std.specs.Prelude.{ℕ, List, [], ◌∷◌, ◌++◌}
use Rattle.kt_base.specs.declared.entry.Entry.{Entry}

-- `Layout`: the bytes of a report as functions of the entries that it shows. The properties or
-- outputs of the entries are read one entry at a time. `first shown` are the bytes up to the end of
-- the entries `shown`. `next shown e` are the bytes after `first shown` that are written before the
-- properties or outputs of the entry `e` are read. `last` are the bytes after all entries.
pub record Layout : Type 0 where
  pub first : List Entry → List ℕ
  pub next : List Entry → Entry → List ℕ
  pub last : List ℕ

-- `bytes_up_to layout shown rest`: the bytes of a report with the layout `layout` after the entries
-- `shown` were written. They end where the properties or outputs of the first entry of `rest` are
-- read. If `rest` is empty, they end at the end of the report.
abbrev pub bytes_up_to : Layout → List Entry → List Entry → List ℕ
bytes_up_to layout shown [] = layout.first shown ++ layout.last
bytes_up_to layout shown (e ∷ rest) = layout.first shown ++ layout.next shown e
