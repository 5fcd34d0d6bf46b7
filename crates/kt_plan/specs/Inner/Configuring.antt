-- Definitions for private functions of the first step: the configuration and the filters of a
-- command.
use Rattle.std.specs.Prelude.{ℕ, ◌≡◌, List, [], Option, Some, None, Result, Ok, Err}
use Rattle.kt_plan.specs.Types.{Definition, Failed, Filter, FilterFault, Memory, Missing, ReadFault, SelectionError, Values}
use Rattle.kt_config.specs.Holding.{HasValuesSetBy}
use Rattle.kt_suite.specs.declared.filter.FilterFault.TheVariants.{Repeated, NotDisjoint}
use Rattle.kt_suite.specs.Disjoint.{IsDisjoint}
use Rattle.kt_plan.specs.declared.selection_error.SelectionError.TheVariants as stop
use Rattle.kt_plan.specs.Configuring.{IsFirstOverlap, values_after, cons_result}

-- `config_read_error fault`: the error of a command for `fault`, an error of reading its
-- configuration file.
abbrev pub config_read_error : ReadFault → SelectionError
config_read_error Missing = stop.UnreadableConfiguration
config_read_error Failed = stop.UnreadableConfiguration
config_read_error (Memory refusal) = stop.NoMemory refusal

-- `HasValuesOf outcome meant`: the configuration in `outcome` has the values that the definitions
-- in `meant` set, or both arguments are the same error.
abbrev pub HasValuesOf : Result Values SelectionError → Result (List Definition) SelectionError → Type 0
HasValuesOf (Ok config) (Ok definitions) = HasValuesSetBy config definitions
HasValuesOf (Ok config) (Err fault) = ⊥
HasValuesOf (Err found) (Ok definitions) = ⊥
HasValuesOf (Err found) (Err fault) = found ≡ fault

-- `HasConfiguration Means outcome`: `Means` is true of some list of definitions or of some error.
-- `outcome` is a configuration with the values that these definitions set, or is this error.
pub record HasConfiguration (Means : Result (List Definition) SelectionError → Type 0) (outcome : Result Values SelectionError) : Type 0 where
  pub meant : Result (List Definition) SelectionError
  pub means : Means meant
  pub gives : HasValuesOf outcome meant

-- `AppendsDefinitions config outcome meant`: `outcome` is a configuration with the definitions of
-- the configuration `config`, followed by the definitions in `meant`. If `meant` is an error,
-- `outcome` is the same error.
abbrev pub AppendsDefinitions : Values → Result Values SelectionError → Result (List Definition) SelectionError → Type 0
AppendsDefinitions config outcome meant = (before : List Definition) → HasValuesSetBy config before → HasValuesOf outcome (values_after before meant)

-- `AppendsDefinition config outcome meant`: `outcome` is a configuration with the definitions of
-- the configuration `config`, followed by the definition in `meant`. If `meant` is an error,
-- `outcome` is the same error.
abbrev pub AppendsDefinition : Values → Result Values SelectionError → Result Definition SelectionError → Type 0
AppendsDefinition config outcome meant = AppendsDefinitions config outcome (cons_result meant (Ok []))

-- `config_or_error config stop`: the error `stop` if it is present, and otherwise the configuration
-- `config`.
abbrev pub config_or_error : Values → Option SelectionError → Result Values SelectionError
config_or_error config None = Ok config
config_or_error config (Some fault) = Err fault

-- `filter_index_of fault`: the index of the filter that the error `fault` is about, in the
-- command's list of filters. It is 0 if `fault` has no index.
abbrev pub filter_index_of : FilterFault → ℕ
filter_index_of (Repeated position) = position
filter_index_of (NotDisjoint position) = position
filter_index_of other = 0

-- `FindsOverlap words filters found`: `found` is the error of the command for the first filter in
-- `filters` that may match the same case as an earlier filter. It is `None` if there is no such
-- filter. `words` are the arguments that the filters were parsed from.
pub data FindsOverlap (words : List (List ℕ)) (filters : List Filter) : Option SelectionError → Type 0 where
  apart : IsDisjoint filters → FindsOverlap words filters None
  shared : (word : List ℕ) (fault : FilterFault) → IsFirstOverlap words filters word fault → FindsOverlap words filters (Some (stop.Filter word fault))
