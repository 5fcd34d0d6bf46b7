-- The first step of a command that selects test cases: its configuration and its filters.
use Rattle.std.specs.Prelude.{ℕ, Bool, true, false, not, ◌≡◌, ◌<◌, List, [], ◌∷◌, ◌++◌, Option, Some, None, Result, Ok, Err, is_some, slice_get}
use Rattle.std.specs.Option.{option_map_or}
use Rattle.kt_plan.specs.Types.{CaseOptions, Definition, Failed, Filter, FilterFault, FilterRule, Missing, ReadFault, Settings, SelectionError}
use Rattle.kt_base.specs.Texts.{before, after}
use Rattle.kt_script.specs.Spelling.{Spells}
use Rattle.kt_script.specs.declared.syntax.Stmt.{Stmt}
use Rattle.kt_config.specs.declared.fault.ConfigFault.{ConfigFault}
use Rattle.kt_config.specs.declared.fault.ConfigFault.TheVariants.{BadValue}
use Rattle.kt_config.specs.Holding.{HasValuesSetBy}
use Rattle.kt_config.specs.Names.{definition_named}
use Rattle.kt_config.specs.Reading.{definitions_of_file, HasFault}
use Rattle.kt_suite.specs.Disjoint.{overlap_fault, IsDisjoint}
use Rattle.kt_suite.specs.Filters.{filter_meaning}
use Rattle.kt_args.specs.declared.filter_rule.FilterRule.TheVariants.{AnyFilters, OneCase}
use Rattle.kt_plan.specs.declared.selection_error.SelectionError.TheVariants as stop
use Rattle.kt_plan.specs.Reply.{Reply, ReadConfig}

-- ---- arguments in order

-- `with_selection_error stop_for result`: `result`, where the function `stop_for` converts an error
-- to the error of the command. A value is unchanged.
abbrev pub with_selection_error : {A E : Type 0} → (E → SelectionError) → Result A E → Result A SelectionError
with_selection_error stop_for (Ok meaning) = Ok meaning
with_selection_error stop_for (Err fault) = Err (stop_for fault)

-- `cons_result first rest`: the list with the value in `first`, followed by the values in `rest`.
-- If `first` is an error, the result is this error. Otherwise, if `rest` is an error, the result is
-- the error in `rest`.
abbrev pub cons_result : {A : Type 0} → Result A SelectionError → Result (List A) SelectionError → Result (List A) SelectionError
cons_result (Err fault) rest = Err fault
cons_result (Ok first) (Ok rest) = Ok (first ∷ rest)
cons_result (Ok first) (Err fault) = Err fault

-- `results_of_each meaning words`: the list of the values of the function `meaning` for the
-- arguments `words`, in order. If `meaning` has an error for an argument, the result is the first
-- such error.
abbrev pub results_of_each : {A : Type 0} → (List ℕ → Result A SelectionError) → List (List ℕ) → Result (List A) SelectionError
results_of_each meaning [] = Ok []
results_of_each meaning (word ∷ words) = cons_result (meaning word) (results_of_each meaning words)

-- `values_after before result`: the list of the values `before`, followed by the values in
-- `result`. If `result` is an error, it is returned unchanged.
abbrev pub values_after : {A : Type 0} → List A → Result (List A) SelectionError → Result (List A) SelectionError
values_after before (Ok more) = Ok (before ++ more)
values_after before (Err fault) = Err fault

-- ---- variables

-- `argument_definition word`: the definition in `word`, an argument `NAME=VALUE` of `-v`, or the
-- error of this argument. If the argument lacks an equals sign (character 61), the error is
-- `BadValue`.
abbrev pub argument_definition : List ℕ → Result Definition SelectionError
argument_definition word =
    with_selection_error (stop.Variable (before 61 word)) (option_map_or (definition_named (before 61 word)) (after 61 word) (Err BadValue))

-- `argument_definitions words`: the definitions in `words`, the arguments of `-v`, in order, or the
-- error of the first argument that has an error.
abbrev pub argument_definitions : List (List ℕ) → Result (List Definition) SelectionError
argument_definitions words = results_of_each argument_definition words

-- ---- the configuration

-- `IsReadFailure fault`: `fault` reports that a file is missing or can't be read. It is not a
-- failed allocation.
pub data IsReadFailure : ReadFault → Type 0 where
  missing : IsReadFailure Missing
  failed : IsReadFailure Failed

-- `IsConfiguration bytes result`: `bytes` are the contents of a configuration file. `result` has
-- the definitions in the file, or is the command's error for the file.
pub data IsConfiguration (bytes : List ℕ) : Result (List Definition) SelectionError → Type 0 where
  refused : (fault : ConfigFault) → HasFault bytes fault → IsConfiguration bytes (Err (stop.Configuration fault))
  read : (stmts : List Stmt) (definitions : List Definition) → Spells bytes stmts → definitions_of_file stmts ≡ Ok definitions → IsConfiguration bytes (Ok definitions)

-- `ReadsConfig path config_calls result`: `config_calls` is a list of one call, which reads the
-- configuration file at `path`. `result` has the definitions in the file, or is the error of the
-- command. If `path` is `None`, there are no calls and no definitions.
pub data ReadsConfig : Option (List ℕ) → List Reply → Result (List Definition) SelectionError → Type 0 where
  none : ReadsConfig None [] (Ok [])
  unread : (path : List ℕ) (fault : ReadFault) → IsReadFailure fault → ReadsConfig (Some path) (ReadConfig path (Err fault) ∷ []) (Err stop.UnreadableConfiguration)
  seen : (path bytes : List ℕ) (result : Result (List Definition) SelectionError) → IsConfiguration bytes result
      → ReadsConfig (Some path) (ReadConfig path (Ok bytes) ∷ []) result

-- `Configures options config_calls result`: `result` has the definitions for a command with the
-- options `options`: those in its configuration file, and then those of `-v`. `config_calls` are
-- the calls that read the file. If a definition has an error, `result` is the first error.
pub data Configures (options : CaseOptions) (config_calls : List Reply) : Result (List Definition) SelectionError → Type 0 where
  stopped : (fault : SelectionError) → ReadsConfig options.config config_calls (Err fault) → Configures options config_calls (Err fault)
  defined : (before : List Definition) → ReadsConfig options.config config_calls (Ok before) → Configures options config_calls (values_after before (argument_definitions options.variables))

-- ---- filters

-- `filter_of word`: the filter that the argument `word` represents, or the error of the command if
-- the argument is not a filter.
abbrev pub filter_of : List ℕ → Result Filter SelectionError
filter_of word = with_selection_error (stop.Filter word) (filter_meaning word)

-- `filters_of words`: the filters in the arguments `words`, in order, or the error of the first
-- argument that is not a filter.
abbrev pub filters_of : List (List ℕ) → Result (List Filter) SelectionError
filters_of words = results_of_each filter_of words

-- `IsFirstOverlap words filters word fault`: `words` are the arguments of the filters `filters`.
-- The filter of the argument `word` is the first that may match the same case as an earlier filter,
-- and `fault` is its error.
pub record IsFirstOverlap (words : List (List ℕ)) (filters : List Filter) (word : List ℕ) (fault : FilterFault) : Type 0 where
  pub position : ℕ
  pub at : overlap_fault filters position ≡ Some fault
  pub first : (before : ℕ) → before < position → overlap_fault filters before ≡ None
  pub named : slice_get words position ≡ Some word

-- `names_one_case filters`: `true` if there is exactly one filter in `filters`, and it names a test
-- case.
abbrev pub names_one_case : List Filter → Bool
names_one_case (filter ∷ []) = is_some filter.case_name
names_one_case filters = false

-- `is_case_missing rule filters`: `true` if `rule` requires a single filter that names a test case,
-- and `filters` doesn't meet `rule`. The list then has no filter, more than one filter, or a filter
-- that names no test case.
abbrev pub is_case_missing : FilterRule → List Filter → Bool
is_case_missing AnyFilters filters = false
is_case_missing OneCase filters = not (names_one_case filters)

-- `ParsesFilters rule words result`: `result` has the filters that the arguments `words` represent,
-- or is the first error. The arguments are parsed, then checked for an overlap, and then checked
-- against `rule`, which states which filters the command accepts.
pub data ParsesFilters (rule : FilterRule) (words : List (List ℕ)) : Result (List Filter) SelectionError → Type 0 where
  unparsed : (fault : SelectionError) → filters_of words ≡ Err fault → ParsesFilters rule words (Err fault)
  clash : (filters : List Filter) (word : List ℕ) (fault : FilterFault) → filters_of words ≡ Ok filters → IsFirstOverlap words filters word fault
      → ParsesFilters rule words (Err (stop.Filter word fault))
  unnamed : (filters : List Filter) → filters_of words ≡ Ok filters → IsDisjoint filters → is_case_missing rule filters ≡ true
      → ParsesFilters rule words (Err stop.NeedsCase)
  right : (filters : List Filter) → filters_of words ≡ Ok filters → IsDisjoint filters → is_case_missing rule filters ≡ false
      → ParsesFilters rule words (Ok filters)

-- ---- settings

-- `ReadsSettings rule options config_calls result`: `result` has the settings of a command with the
-- options `options`, or is the first error. The configuration file is read first, then the
-- arguments of `-v`, then the filters. `config_calls` are the calls to the host, which read the
-- file. `rule` states which filters the command accepts.
pub data ReadsSettings (rule : FilterRule) (options : CaseOptions) (config_calls : List Reply) : Result Settings SelectionError → Type 0 where
  unconfigured : (fault : SelectionError) → Configures options config_calls (Err fault) → ReadsSettings rule options config_calls (Err fault)
  unfiltered : (definitions : List Definition) (fault : SelectionError) → Configures options config_calls (Ok definitions) → ParsesFilters rule options.filters (Err fault)
      → ReadsSettings rule options config_calls (Err fault)
  settled : (definitions : List Definition) (settings : Settings) → Configures options config_calls (Ok definitions) → HasValuesSetBy settings.config definitions
      → ParsesFilters rule options.filters (Ok settings.filters) → ReadsSettings rule options config_calls (Ok settings)

-- `IsReadPrefix path config_calls`: `config_calls` may be the calls that read the settings of a
-- command before an allocation failed. There is no call, or only the read of the configuration file
-- at `path`. If `path` is `None`, there is no call.
pub data IsReadPrefix : Option (List ℕ) → List Reply → Type 0 where
  before_file : (path : Option (List ℕ)) → IsReadPrefix path []
  after_file : (path : List ℕ) (answer : Result (List ℕ) ReadFault) → IsReadPrefix (Some path) (ReadConfig path answer ∷ [])
