-- The calls of a Kyuafile and the keys of its tables, by their names.
use Rattle.std.specs.Prelude.{ℕ, List, [], ◌∷◌, codes, bytes_eq, if◌then◌else◌, unwrap_or}
use Rattle.kt_base.specs.Words.{value_of_keyword}
use Rattle.kt_base.specs.declared.child.Interface.TheVariants.{Atf, Tap, Plain}
use Rattle.kt_metadata.specs.Properties.{is_kyuafile_property}
use Rattle.kt_suite.specs.declared.call.Call.{Call}
use Rattle.kt_suite.specs.declared.call.Call.TheVariants as call
use Rattle.kt_suite.specs.declared.table.KeyKind.{KeyKind}
use Rattle.kt_suite.specs.declared.table.KeyKind.TheVariants as key

-- `calls`: the names of the functions that a Kyuafile may call, each with the kind of the call.
abbrev pub calls : List (List ℕ × Call)
calls =
    (codes "syntax", call.Syntax)
    ∷ (codes "test_suite", call.TestSuite)
    ∷ (codes "include", call.Include)
    ∷ (codes "atf_test_program", call.Program Atf)
    ∷ (codes "tap_test_program", call.Program Tap)
    ∷ (codes "plain_test_program", call.Program Plain) ∷ []

-- `call_named name`: the kind of a call of the function `name`, or `Unknown` if Kyuafiles have no
-- such function.
abbrev pub call_named : List ℕ → Call
call_named name = unwrap_or (value_of_keyword calls name) call.Unknown

-- `key_named name`: the kind of the key `name` in the table of a call that registers a program. It
-- is `Unknown` if such a table may not have this key.
abbrev pub key_named : List ℕ → KeyKind
key_named name =
    if bytes_eq name (codes "name") then key.Name
    else if bytes_eq name (codes "test_suite") then key.TestSuite
    else if is_kyuafile_property name then key.Property
    else key.Unknown
