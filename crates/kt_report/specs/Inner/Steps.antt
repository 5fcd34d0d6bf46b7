-- The steps of writing a report whose properties or outputs are read one entry at a time.
use Rattle.std.specs.Prelude.{ℕ, Bool, true, false, List, [], ◌≡◌, Option, Result, Ok, Err}
use Rattle.kt_base.specs.Emits.{Emits}
use Rattle.kt_base.specs.declared.entry.Entry.{Entry}
use Rattle.kt_base.specs.declared.verdict.Kind.{Kind}
use Rattle.kt_report.specs.Details.{IsReportResult, ReadsDetails}
use Rattle.kt_report.specs.Layouts.{Layout}
use Rattle.kt_report.specs.Texts.{last_kind, sections_layout, titled_lines}
use Rattle.kt_report.specs.declared.write_report_error.WriteReportError.{WriteReportError}
use Rattle.kt_report.specs.declared.write_report_error.WriteReportError.TheVariants.{Details, Report}

module _ {S F : Type 0} (reads : S → Entry → Result Entry F → S → Type 0) (old : S) (was now : Option (List ℕ)) (new : S) where
  -- `WritesFirst layout due`: a report with the layout `layout` was written up to the end of the
  -- entries `due`. It has the properties or outputs that were read for each entry. `reads` is the
  -- relation of one read. The reads lead from the state `old` to the state `new`, and the writes
  -- change the writer's contents from `was` to `now`.
  abbrev pub WritesFirst : Layout → List Entry → Type 0
  WritesFirst layout due = (shown : List Entry) × ReadsDetails reads old due shown new × Emits was now false (layout.first shown)

  module _ {E : Type 0} (text : Entry → List ℕ) where
    -- `IsEntryResult e answer`: the properties or outputs of the entry `e` were read, and then its
    -- text was written. The function `text` returns the text of an entry with these details. If
    -- `answer` is an error, the read or the write failed with this error. After a failed read,
    -- nothing was written. The read leads from the state `old` to `new`, keeps the kind of the
    -- verdict, and is described by `reads`. The write changes the writer's contents from `was` to
    -- `now`.
    abbrev pub IsEntryResult : Entry → Result (Unit {0}) (WriteReportError F E) → Type 0
    IsEntryResult e (Ok done) = (full : Entry) × reads old e (Ok full) new × (full.verdict.kind ≡ e.verdict.kind) × Emits was now false (text full)
    IsEntryResult e (Err (Details fault)) = reads old e (Err fault) new × (now ≡ was)
    IsEntryResult e (Err (Report fault)) = (full : Entry) × reads old e (Ok full) new × (full.verdict.kind ≡ e.verdict.kind) × Emits was now true (text full)

    -- `WritesEntry e answer`: a record of the fact `IsEntryResult e answer`: the properties or
    -- outputs of the entry `e` were read and its text was written. Otherwise, `answer` is the error
    -- of this read or write.
    pub record WritesEntry (e : Entry) (answer : Result (Unit {0}) (WriteReportError F E)) : Type 0 where
      pub ends : IsEntryResult e answer

  module _ {E : Type 0} (verbose : Bool) (before : Option Kind) (due : List Entry) where
    -- `IsEntriesResult answer`: the lines of the entries `due` were written after an entry of the
    -- kind `before`, if any, with the titles of their sections. The lines have properties if
    -- `verbose` is true. `answer` is the kind of the last entry, or `before` without entries. If a
    -- read or a write failed, `answer` is its error. `reads` is the relation of one read. The reads
    -- lead from the state `old` to the state `new`, and the writes change the writer's contents
    -- from `was` to `now`.
    abbrev pub IsEntriesResult : Result (Option Kind) (WriteReportError F E) → Type 0
    IsEntriesResult (Ok last) = (shown : List Entry) × ReadsDetails reads old due shown new × (last ≡ last_kind before shown) × Emits was now false (titled_lines verbose before shown)
    IsEntriesResult (Err stop) = IsReportResult reads (sections_layout verbose before []) due old was now new (Err stop)

    -- `WritesEntries answer`: a record of the fact `IsEntriesResult answer`: entries were written
    -- with the titles of their sections, or `answer` is the error of a read or of a write.
    pub record WritesEntries (answer : Result (Option Kind) (WriteReportError F E)) : Type 0 where
      pub ends : IsEntriesResult answer
