-- Definitions for private functions of the second step: the cases of the programs, and their
-- selection.
use Rattle.std.specs.Prelude.{ℕ, List, map, Result}
use Rattle.kt_plan.specs.Types.{Asked, Candidate, CaseSelection, Filter, Settings, SelectionError}
use Rattle.kt_base.specs.Chains.{Chain}
use Rattle.kt_suite.specs.Selecting.{passing_positions, is_selected}
use Rattle.kt_plan.specs.Stops.{HoldsOrNoMemory, IsNoMemoryError}
use Rattle.kt_plan.specs.Reply.{Reply}
use Rattle.kt_plan.specs.Collecting.{LoadsAndSelects, IsLoadAndSelectPrefix, item_of}

-- `selected_indexes filters place cases`: the indexes of the candidates in `cases` that the filters
-- `filters` select. The first candidate in `cases` has the index `place`, and the others follow.
abbrev pub selected_indexes : List Filter → ℕ → List Candidate → List ℕ
selected_indexes filters place cases = passing_positions (is_selected filters) place (map item_of cases)

module _ {W : Type 0} (asks : W → Asked → W → Type 0) (replies : W → Reply → W → Type 0) where
  -- `HasTreeSelection asks replies settings kyuafile old new result`: `result` is the result of a
  -- selection with the settings `settings` from the tree of the Kyuafile `kyuafile`. The world goes
  -- from the state `old` to `new` by calls to the tree, and then by calls that list the cases of
  -- programs. `asks` is the relation of calls to the tree, and `replies` is the relation of calls
  -- to the host.
  pub record HasTreeSelection (settings : Settings) (kyuafile : List ℕ) (old new : W) (result : Result CaseSelection SelectionError) : Type 0 where
    pub asked : List Asked
    pub answers : List Reply
    pub loaded : W
    pub chain : Chain asks old asked loaded
    pub lists : Chain replies loaded answers new
    pub holds : HoldsOrNoMemory IsNoMemoryError (IsLoadAndSelectPrefix settings kyuafile asked) (LoadsAndSelects settings kyuafile asked) result answers
