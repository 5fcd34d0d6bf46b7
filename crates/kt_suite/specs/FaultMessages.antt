-- The messages of the errors of this crate.
use Rattle.std.specs.Prelude.{ℕ, List, [], ◌++◌, codes}
use Rattle.std.specs.Fmt.{decimal}
use Rattle.kt_suite.specs.Types.{FilterFault, ReadFault, SuiteCause, SuiteFault}
use Rattle.kt_script.specs.FaultMessages.{script_message}
use Rattle.kt_suite.specs.declared.cause.SuiteCause.TheVariants as cause
use Rattle.kt_suite.specs.declared.filter.FilterFault.TheVariants as filter
use Rattle.kt_suite.specs.declared.tree.ReadFault.TheVariants as read
use Rattle.kt_suite.specs.declared.selecting.SelectFault.{SelectFault}
use Rattle.kt_suite.specs.declared.selecting.SelectFault.TheVariants as select

-- `fixed_message cause`: the message of the cause `cause`, or an empty text for `WrongSyntax`. The
-- message of `WrongSyntax` contains a number, so it is not fixed.
abbrev pub fixed_message : SuiteCause → List ℕ
fixed_message (cause.NoMemory refusal) = codes "out of memory"
fixed_message cause.NoSyntax = codes "syntax(2) expected"
fixed_message (cause.WrongSyntax n) = []
fixed_message cause.UnknownCall = codes "unknown call"
fixed_message cause.UnknownProperty = codes "unknown property"
fixed_message cause.BadValue = codes "bad value"
fixed_message cause.NoSuite = codes "no test suite"
fixed_message cause.PathHasDirectory = codes "program name has a directory"
fixed_message cause.BadInclude = codes "bad include path"
fixed_message cause.IncludeLoop = codes "include loop"
fixed_message cause.TooDeep = codes "includes too deep"
fixed_message cause.MissingProgram = codes "program not found"
fixed_message cause.Unreadable = codes "file could not be read"
fixed_message cause.TooMany = codes "too many programs or files"
fixed_message (cause.Script fault) = script_message fault

-- `cause_message cause`: the message of the cause `cause`. For `WrongSyntax`, it contains the
-- number of the declared syntax.
abbrev pub cause_message : SuiteCause → List ℕ
cause_message (cause.WrongSyntax n) = codes "syntax " ++ decimal n ++ codes " not supported"
cause_message other = fixed_message other

-- `message_with_line fault`: the message of the error `fault` with its path and line, such as
-- `Kyuafile:3: unknown call`.
abbrev pub message_with_line : SuiteFault → List ℕ
message_with_line fault = fault.path ++ codes ":" ++ decimal fault.line ++ codes ": " ++ cause_message fault.cause

-- `message_by_cause cause fault`: the message of the error `fault`, whose cause is `cause`. If the
-- cause is `NoMemory`, the message has no path and no line.
abbrev pub message_by_cause : SuiteCause → SuiteFault → List ℕ
message_by_cause (cause.NoMemory refusal) fault = codes "out of memory"
message_by_cause _ fault = message_with_line fault

-- `fault_message fault`: the message of the error `fault`, as `SuiteFault::print` prints it.
abbrev pub fault_message : SuiteFault → List ℕ
fault_message fault = message_by_cause fault.cause fault

-- `filter_message fault`: the message of the error `fault` of a filter, without the filter.
abbrev pub filter_message : FilterFault → List ℕ
filter_message (filter.NoMemory refusal) = codes "out of memory"
filter_message filter.Empty = codes "empty"
filter_message filter.Absolute = codes "absolute"
filter_message filter.EmptyCase = codes "empty case"
filter_message (filter.Repeated position) = codes "repeated"
filter_message (filter.NotDisjoint position) = codes "not disjoint"

-- `select_message fault`: the message of the error `fault` of selecting test cases.
abbrev pub select_message : SelectFault → List ℕ
select_message (select.NoMemory refusal) = codes "out of memory"
select_message select.TooMany = codes "too many cases"

-- `read_message fault`: the message of the error `fault` of reading a file.
abbrev pub read_message : ReadFault → List ℕ
read_message read.Missing = codes "no such file"
read_message read.Failed = codes "file could not be read"
read_message (read.Memory refusal) = codes "out of memory"
