-- The messages of script faults.
use Rattle.std.specs.Prelude.{ℕ, List, codes}
use Rattle.kt_script.specs.Types.{BadToken, NoMemory, NotLiteral, NotUtf8, ScriptFault, TooLong, Unclosed}

-- `script_message fault`: the message that is printed for the fault `fault`, without a line number.
abbrev pub script_message : ScriptFault → List ℕ
script_message (NoMemory refusal) = codes "out of memory"
script_message NotUtf8 = codes "not UTF-8"
script_message (BadToken line) = codes "bad token"
script_message (NotLiteral line) = codes "not in the literal profile"
script_message (Unclosed line) = codes "unclosed string, comment or bracket"
script_message TooLong = codes "file too long"
