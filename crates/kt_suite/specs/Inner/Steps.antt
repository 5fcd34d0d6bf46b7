-- Results of private functions: the steps of reading a table, a path, a list of filters, and a
-- file.
use Rattle.std.specs.Prelude.{◌≡◌, ◌⊎◌, ℕ, Bool, true, false, not, Option, Result, Ok, Err, slice_get, List, [], ◌∷◌, ◌++◌, if◌then◌else◌}
use Rattle.std.specs.List.{position}
use Rattle.std.specs.Option.{option_map_or}
use Rattle.kt_suite.specs.Types.{Filter, Item, ProgramTable, ScriptFault, SuiteCause, SuiteFault, Variable}
use Rattle.kt_base.specs.LastValues.{last_values}
use Rattle.kt_metadata.specs.Properties.{definition_fault}
use Rattle.kt_script.specs.declared.fault.ScriptFault.TheVariants as script
use Rattle.kt_suite.specs.Faults.{IsNoMemory, fault_at}
use Rattle.kt_suite.specs.Filters.{is_kept_component}
use Rattle.kt_suite.specs.Selecting.{passing_positions, matches_item}
use Rattle.kt_suite.specs.Tables.{value_cause, pair_cause, table_of, cause_or_value}

-- `props_with before pair`: the properties that are set by the pairs `before` and then by the pair
-- `pair`, or the cause of the error in `pair`.
abbrev pub props_with : List Variable → Variable → Result (List Variable) SuiteCause
props_with before pair =
    cause_or_value (value_cause (definition_fault pair.name pair.value)) (last_values (before ++ pair ∷ []))

-- `with_props found props`: the table `found` with its properties replaced by those in `props`, or
-- the cause in `props` if `props` is an error.
abbrev pub with_props : ProgramTable → Result (List Variable) SuiteCause → Result ProgramTable SuiteCause
with_props found (Ok props) = Ok (record found { props = props })
with_props found (Err cause) = Err cause

-- `table_with before pair`: the table that the pairs `before` and then the pair `pair` declare, or
-- the cause of the error in `pair`.
abbrev pub table_with : List Variable → Variable → Result ProgramTable SuiteCause
table_with before pair = cause_or_value (pair_cause pair) (table_of (before ++ pair ∷ []))

-- `path_and_component path component`: the path `path` with the component `component` appended. A
-- slash (47) separates them unless `path` is empty.
abbrev pub path_and_component : List ℕ → List ℕ → List ℕ
path_and_component [] component = component
path_and_component (c ∷ path) component = c ∷ path ++ 47 ∷ component

-- `with_component path component`: the path `path` with the component `component` appended, or
-- `path` alone if `component` is empty or `.`.
abbrev pub with_component : List ℕ → List ℕ → List ℕ
with_component path component = if is_kept_component component then path_and_component path component else path

-- `all_positions filters`: the positions of all filters in the list `filters`, ascending, from 0.
abbrev pub all_positions : List Filter → List ℕ
all_positions filters = passing_positions (λ filter. true) 0 filters

-- `first_match filters item`: the position of the first filter in the list `filters` that matches
-- the item `item`, if any.
abbrev pub first_match : List Filter → Item → Option ℕ
first_match filters item = position (matches_item item) filters

-- `is_match filters item place`: the filter at the position `place` in the list `filters` matches
-- the item `item`. False if there is no filter at this position.
abbrev pub is_match : List Filter → Item → ℕ → Bool
is_match filters item place = option_map_or (matches_item item) (slice_get filters place) false

-- `is_miss filters item place`: the filter at the position `place` in the list `filters` does not
-- match the item `item`. True if there is no filter at this position.
abbrev pub is_miss : List Filter → Item → ℕ → Bool
is_miss filters item place = not (is_match filters item place)

-- `IsFaultAt file line cause fault`: `fault` is the error with the cause `cause` in the line `line`
-- of the file `file`, or the error of a failed allocation.
abbrev pub IsFaultAt : List ℕ → ℕ → SuiteCause → SuiteFault → Type 0
IsFaultAt file line cause fault = IsNoMemory fault ⊎ (fault ≡ fault_at file line cause)

-- `IsParseFault fault`: the error `fault` of a script is not a failed allocation.
abbrev pub IsParseFault : ScriptFault → Type 0
IsParseFault (script.NoMemory refusal) = ⊥
IsParseFault fault = Unit {0}
