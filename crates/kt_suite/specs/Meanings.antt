-- The meaning of one statement of a Kyuafile, which does not depend on the files of the tree.
use Rattle.std.specs.Prelude.{ℕ, List, ◌==◌, Option, Some, None, Result, Ok, Err, if◌then◌else◌}
use Rattle.kt_suite.specs.Types.{BadInclude, BadValue, Meaning, NoSuite, NoSyntax, PathHasDirectory, ProgramTable, SuiteCause, UnknownCall, Variable, WrongSyntax}
use Rattle.kt_base.specs.declared.child.Interface.{Interface}
use Rattle.kt_script.specs.declared.syntax.Action.{Action}
use Rattle.kt_script.specs.declared.syntax.Action.TheVariants.{Call, Assign}
use Rattle.kt_script.specs.declared.syntax.Arg.{Arg}
use Rattle.kt_script.specs.declared.syntax.Arg.TheVariants.{Value, Table}
use Rattle.kt_script.specs.declared.syntax.Literal.TheVariants.{Number}
use Rattle.kt_script.specs.LiteralText.{text_of}
use Rattle.kt_suite.specs.declared.call.Call.{Call as CallKind}
use Rattle.kt_suite.specs.declared.call.Call.TheVariants as call
use Rattle.kt_suite.specs.declared.meaning.Meaning.TheVariants as meaning
use Rattle.kt_suite.specs.Calls.{call_named}
use Rattle.kt_suite.specs.Tables.{declared}
use Rattle.kt_suite.specs.Paths.{has_directory, is_plain_relative}
use Rattle.kt_base.specs.Texts.{is_empty}

-- `version_cause arg`: the cause of the error in a call of `syntax` with the argument `arg`, or
-- `None` if `arg` is the number 2.
abbrev pub version_cause : Arg → Option SuiteCause
version_cause (Value (Number n)) = if n == 2 then None else Some (WrongSyntax n)
version_cause other = Some BadValue

-- `first_call_cause call arg`: the cause of the error if a file's first statement is a call of the
-- kind `call` with the argument `arg`. It is `None` for `syntax(2)`.
abbrev pub first_call_cause : CallKind → Arg → Option SuiteCause
first_call_cause call.Syntax arg = version_cause arg
first_call_cause other arg = Some NoSyntax

-- `opening_cause action`: the cause of the error if the first statement of a file has the action
-- `action`, or `None` for `syntax(2)`.
abbrev pub opening_cause : Action → Option SuiteCause
opening_cause (Call name arg) = first_call_cause (call_named name) arg
opening_cause (Assign parts value) = Some NoSyntax

-- `suite_meaning arg`: the meaning of a call of `test_suite` with the argument `arg`. It is the
-- error `BadValue` if `arg` is a table or has an empty text.
abbrev pub suite_meaning : Arg → Meaning
suite_meaning (Value v) = if is_empty (text_of v) then meaning.Wrong BadValue else meaning.Suite (text_of v)
suite_meaning (Table pairs) = meaning.Wrong BadValue

-- `program_with_suite interface name file own props`: the meaning of a table that declares a
-- program with the interface `interface`, the name `name` and the properties `props`. `own` is the
-- test suite that the table sets, if any. `file` is the test suite that the Kyuafile sets, if any.
-- The program has the test suite `own` if present, otherwise `file`. The meaning is an error if
-- both are absent, or if `own` is empty.
abbrev pub program_with_suite : Interface → List ℕ → Option (List ℕ) → Option (List ℕ) → List Variable → Meaning
program_with_suite interface name file (Some own) props =
    if is_empty own then meaning.Wrong BadValue else meaning.Program interface name own props
program_with_suite interface name (Some suite) None props = meaning.Program interface name suite props
program_with_suite interface name None None props = meaning.Wrong NoSuite

-- `named_table_meaning interface file own props name`: the meaning of a table that declares a
-- program with the interface `interface`, the properties `props` and the optional name `name`.
-- `own` is the test suite that the table sets, and `file` is the test suite that the Kyuafile sets,
-- if any. The meaning is an error if the name is absent or empty, contains a slash, or is `.` or
-- `..`. Otherwise, `program_with_suite` defines the meaning.
abbrev pub named_table_meaning : Interface → Option (List ℕ) → Option (List ℕ) → List Variable → Option (List ℕ) → Meaning
named_table_meaning interface file own props None = meaning.Wrong BadValue
named_table_meaning interface file own props (Some name) =
    if is_empty name then meaning.Wrong BadValue
    else if has_directory name then meaning.Wrong PathHasDirectory
    else program_with_suite interface name file own props

-- `declared_meaning interface file table`: the meaning of a call that registers a program with the
-- interface `interface`. `table` is the table that the call declares, or the cause of the table's
-- error. `file` is the test suite that the Kyuafile sets before the call, if any.
abbrev pub declared_meaning : Interface → Option (List ℕ) → Result ProgramTable SuiteCause → Meaning
declared_meaning interface file (Err cause) = meaning.Wrong cause
declared_meaning interface file (Ok table) = named_table_meaning interface file table.suite table.props table.name

-- `program_meaning interface file arg`: the meaning of a call with the argument `arg` that
-- registers a program with the interface `interface`. `file` is the test suite that the Kyuafile
-- sets before the call, if any. The meaning is the error `BadValue` if `arg` isn't a table.
abbrev pub program_meaning : Interface → Option (List ℕ) → Arg → Meaning
program_meaning interface file (Value v) = meaning.Wrong BadValue
program_meaning interface file (Table pairs) = declared_meaning interface file (declared pairs)

-- `include_meaning arg`: the meaning of a call of `include` with the argument `arg`. It is the
-- error `BadInclude` if `arg` is a table or an absolute path, or if a component of the path is
-- empty, `.` or `..`.
abbrev pub include_meaning : Arg → Meaning
include_meaning (Value v) = if is_plain_relative (text_of v) then meaning.Include (text_of v) else meaning.Wrong BadInclude
include_meaning (Table pairs) = meaning.Wrong BadInclude

-- `call_meaning file call arg`: the meaning of a call of the kind `call` with the argument `arg`,
-- after the first statement of a file. `file` is the test suite that the file has set before, if
-- any.
abbrev pub call_meaning : Option (List ℕ) → CallKind → Arg → Meaning
call_meaning file call.TestSuite arg = suite_meaning arg
call_meaning file call.Include arg = include_meaning arg
call_meaning file (call.Program interface) arg = program_meaning interface file arg
call_meaning file other arg = meaning.Wrong UnknownCall

-- `meaning_of file action`: the meaning of a statement with the action `action`, after the first
-- statement of a file. `file` is the test suite that the file has set before, if any.
abbrev pub meaning_of : Option (List ℕ) → Action → Meaning
meaning_of file (Call name arg) = call_meaning file (call_named name) arg
meaning_of file (Assign parts value) = meaning.Wrong UnknownCall
