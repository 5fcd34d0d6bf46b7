-- The second step of a command: the cases of the programs, and their selection by filters.
use Rattle.std.specs.Prelude.{ℕ, ◌≡◌, ◌≢◌, ◌≤◌, ◌<◌, ◌⊎◌, List, [], ◌∷◌, ◌++◌, Some, None, Result, Ok, Err, length, map, filter, unwrap_or}
use Rattle.std.specs.List.{Contains}
use Rattle.kt_plan.specs.Types.{Asked, Atf, Candidate, CaseDef, CaseSelection, Filter, Item, Listing, Program, Settings, SelectionError, SuiteFault, Values, Variable}
use Rattle.kt_config.specs.Values.{variables_of}
use Rattle.kt_atflist.specs.Cases.{AreCases}
use Rattle.kt_suite.specs.Matching.{MayMatch}
use Rattle.kt_suite.specs.Selecting.{item_limit, is_selected, unmatched_positions}
use Rattle.kt_plan.specs.declared.selection_error.SelectionError.TheVariants as stop
use Rattle.kt_plan.specs.Listings.{Loads, IsLoadPrefix}
use Rattle.kt_plan.specs.Reply.{Reply, Lists}

-- `variables_for config suite`: the variables that the configuration `config` sets for the test
-- suite `suite`. The list is empty if it sets none.
abbrev pub variables_for : Values → List ℕ → List Variable
variables_for config suite = unwrap_or (variables_of suite config.suites) []

-- `candidate_of program case`: the candidate for the test case `case` of the program `program`. It
-- has the case, and the interface, the path and the test suite of the program.
abbrev pub candidate_of : Program → CaseDef → Candidate
candidate_of program case = record { interface = program.interface; path = program.path; suite = program.suite; case = case }

-- `candidates_of program cases`: the candidates for the test cases `cases` of the program
-- `program`.
abbrev pub candidates_of : Program → List CaseDef → List Candidate
candidates_of program cases = map (candidate_of program) cases

-- `IsSelectable filters program`: `filters` may select a case of the program `program`. There is no
-- filter, or one of them may match a case of the program.
abbrev pub IsSelectable : List Filter → Program → Type 0
IsSelectable filters program = (filters ≡ []) ⊎ ((one : Filter) × Contains filters one × MayMatch one program.path)

-- `ListsAtfCases config program list_calls cases`: `list_calls` has one call, which runs the ATF
-- program `program` to list its test cases. `cases` are the test cases in the program's list, or
-- one case that represents a list with an error. The program gets the variables that the
-- configuration `config` sets for its test suite.
pub data ListsAtfCases (config : Values) (program : Program) : List Reply → List CaseDef → Type 0 where
  listed : (listing : Listing) (cases : List CaseDef) → AreCases program.props Atf (Some listing) cases
      → ListsAtfCases config program (Lists program (variables_for config program.suite) listing ∷ []) cases

-- `ListsProgramCases config filters program list_calls found`: `found` are the candidates of the
-- program `program`, and `list_calls` are the calls that list its cases. An ATF program is run to
-- list its cases if there is no filter, or if one of `filters` may match a case of it. Otherwise,
-- it has no candidates and no calls. The run gets the variables that the configuration `config`
-- sets for the test suite. A program with another interface has the case `main`, without a call.
pub data ListsProgramCases (config : Values) (filters : List Filter) (program : Program) : List Reply → List Candidate → Type 0 where
  listing : (list_calls : List Reply) (cases : List CaseDef) → program.interface ≡ Atf → IsSelectable filters program → ListsAtfCases config program list_calls cases
      → ListsProgramCases config filters program list_calls (candidates_of program cases)
  unlisted : program.interface ≡ Atf → (IsSelectable filters program → ⊥) → ListsProgramCases config filters program [] []
  single : (cases : List CaseDef) → program.interface ≢ Atf → AreCases program.props program.interface None cases
      → ListsProgramCases config filters program [] (candidates_of program cases)

-- `ListsAllCases config filters programs list_calls found`: `found` are the candidates of the
-- programs `programs`, in order. `list_calls` are the calls that list the cases of the programs.
-- `config` is the configuration, and `filters` are the filters of the command.
pub data ListsAllCases (config : Values) (filters : List Filter) : List Program → List Reply → List Candidate → Type 0 where
  none : ListsAllCases config filters [] [] []
  one_and : (program : Program) (programs : List Program) (list_calls more : List Reply) (own others : List Candidate) → ListsProgramCases config filters program list_calls own
      → ListsAllCases config filters programs more others → ListsAllCases config filters (program ∷ programs) (list_calls ++ more) (own ++ others)

-- `IsAllListsPrefix config filters programs list_calls`: `list_calls` may be the calls that list
-- the cases of the programs `programs`, in order, before an allocation failed. `config` is the
-- configuration, and `filters` are the filters of the command.
pub data IsAllListsPrefix (config : Values) (filters : List Filter) : List Program → List Reply → Type 0 where
  no_further : (programs : List Program) → IsAllListsPrefix config filters programs []
  asks : (program : Program) (programs : List Program) (listing : Listing) (list_calls : List Reply) → program.interface ≡ Atf → IsSelectable filters program
      → IsAllListsPrefix config filters programs list_calls → IsAllListsPrefix config filters (program ∷ programs) (Lists program (variables_for config program.suite) listing ∷ list_calls)
  passes : (program : Program) (programs : List Program) (list_calls : List Reply) → (program.interface ≡ Atf → IsSelectable filters program → ⊥)
      → IsAllListsPrefix config filters programs list_calls → IsAllListsPrefix config filters (program ∷ programs) list_calls

-- `item_of candidate`: the item for the candidate `candidate`, which filters can match. It has the
-- path of the candidate's program and the name of its case.
abbrev pub item_of : Candidate → Item
item_of candidate = record { path = candidate.path; case_name = candidate.case.name }

-- `selected_cases filters found`: the candidates in `found` that the filters `filters` select, in
-- order.
abbrev pub selected_cases : List Filter → List Candidate → List Candidate
selected_cases filters found = filter (λ candidate. is_selected filters (item_of candidate)) found

-- `selection_of filters found`: the selection by the filters `filters` from the candidates `found`:
-- the selected candidates, and the indexes in `filters` of the filters that match no candidate.
abbrev pub selection_of : List Filter → List Candidate → CaseSelection
selection_of filters found = record {
  cases = selected_cases filters found;
  unmatched = unmatched_positions (map item_of found) filters;
}

-- `LoadsAndSelects settings kyuafile load_calls list_calls result`: `result` is the result of a
-- selection from the tree of the Kyuafile `kyuafile` with the settings `settings`. It has the
-- selected cases, or is the error that stops the command. `load_calls` are the calls to the tree,
-- and `list_calls` are the calls that list the cases of programs.
pub data LoadsAndSelects (settings : Settings) (kyuafile : List ℕ) : List Asked → List Reply → Result CaseSelection SelectionError → Type 0 where
  unloaded : (load_calls : List Asked) (fault : SuiteFault) → Loads kyuafile load_calls (Err fault) → LoadsAndSelects settings kyuafile load_calls [] (Err (stop.Tree fault))
  too_many : (load_calls : List Asked) (list_calls : List Reply) (programs : List Program) (found : List Candidate) → Loads kyuafile load_calls (Ok programs)
      → ListsAllCases settings.config settings.filters programs list_calls found → item_limit < length found → LoadsAndSelects settings kyuafile load_calls list_calls (Err stop.TooManyCases)
  chosen : (load_calls : List Asked) (list_calls : List Reply) (programs : List Program) (found : List Candidate) → Loads kyuafile load_calls (Ok programs)
      → ListsAllCases settings.config settings.filters programs list_calls found → length found ≤ item_limit
      → LoadsAndSelects settings kyuafile load_calls list_calls (Ok (selection_of settings.filters found))

-- `IsLoadAndSelectPrefix settings kyuafile load_calls list_calls`: `load_calls` and `list_calls`
-- may be the calls of a selection before an allocation failed. `load_calls` are the calls to the
-- tree of the Kyuafile `kyuafile`, and `list_calls` are the later calls that list the cases of
-- programs. `settings` are the settings of the selection.
pub data IsLoadAndSelectPrefix (settings : Settings) (kyuafile : List ℕ) : List Asked → List Reply → Type 0 where
  loading : (load_calls : List Asked) → IsLoadPrefix kyuafile load_calls → IsLoadAndSelectPrefix settings kyuafile load_calls []
  offering : (load_calls : List Asked) (list_calls : List Reply) (programs : List Program) → Loads kyuafile load_calls (Ok programs)
      → IsAllListsPrefix settings.config settings.filters programs list_calls → IsLoadAndSelectPrefix settings kyuafile load_calls list_calls
