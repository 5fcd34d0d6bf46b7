-- The runs that the trees of a store represent, and the columns of their tables.
use Rattle.std.specs.Prelude.{◌≡◌, false, List, ℕ, suc, [], ◌∷◌, ⊤, Some}
use Rattle.kt_store.specs.Files.{StaysNumbered}
use Rattle.kt_store.specs.Runs.{AreNumbered, AreOrdered, IsSchema2Of, IsSchema2OfOne}
use Rattle.kt_store.specs.Seeks.{HasCommitted}
use Rattle.kt_store.specs.declared.result_store.StoreSpec as store
use Rattle.sqlite_schema.specs.Names.{column_named}
use Rattle.sqlite_schema.specs.declared.schema.Table.{Table}
use Rattle.kt_store.specs.Types.{Ghosts, IsClean, Run, Trees, View}

-- `HasRuns v runs`: in the state `v`, a store shows the trees of a database of schema 2 with
-- exactly `runs`. Nothing is stated if a failed call has broken the store, or if the disk has
-- returned wrong data.
abbrev pub HasRuns : View → List Run → Type 0
HasRuns v runs = IsClean v → v.is_broken ≡ false → IsSchema2Of runs v.trees

-- `HoldsForTrees g old new P`: `P` holds for the runs that the trees of the store `old` represent.
-- `new` is the store after a call. Nothing is stated if the disk has returned wrong data up to
-- `new`. `g` is the specification of the store.
abbrev pub HoldsForTrees : {S : Type 0} → Ghosts S → S → S → (List Run → Type 0) → Type 0
HoldsForTrees g old new P = (runs : List Run) → HasRuns (g.view old) runs → IsClean (g.view new) → P runs

module _ {S : Type 0} (g : Ghosts S) where
  -- `spec_over_trees g Has`: the specification of a results store over a store of B-trees. The
  -- results store represents a list of runs if they are numbered from 1, and `Has` holds for the
  -- state of the B-trees and these runs. The entries of each run must also ascend by position,
  -- unless the disk has returned wrong data. `g` is the specification of the store of B-trees.
  abbrev pub spec_over_trees : (View → List Run → Type 0) → store.Ghosts S
  spec_over_trees Has = record {
    answers = λ old _ new. StaysNumbered (g.view old) (g.view new);
    stands = λ s runs. Has (g.view s) runs × AreNumbered 1 runs × (IsClean (g.view s) → AreOrdered runs);
    sound = λ s. IsClean (g.view s);
    leaves = λ s may. IsClean (g.view s) → (trees : Trees) → g.recovers s trees → IsSchema2OfOne may trees;
    numbered = λ s runs h. h.1;
    ordered = λ s runs h sound. h.2 sound;
  }

  -- `read_only_spec g`: the specification of a store that is only read. It represents the runs that
  -- its trees show. `g` is the specification of its trees.
  abbrev pub read_only_spec : store.Ghosts S
  read_only_spec = spec_over_trees HasRuns

  -- `runs_file_spec g`: the specification of a store that is read and written. It represents the
  -- runs of its last commit. `g` is the specification of its trees.
  abbrev pub runs_file_spec : store.Ghosts S
  runs_file_spec = spec_over_trees HasCommitted

-- `AreNamed table at names`: from the index `at` on, the columns of `table` have the names `names`,
-- in order.
abbrev pub AreNamed : Table → ℕ → List (List ℕ) → Type 0
AreNamed table at [] = ⊤
AreNamed table at (name ∷ names) = (column_named table name ≡ Some at) × AreNamed table (suc at) names
