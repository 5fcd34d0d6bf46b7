-- The statements of a script, and the fault of a text that is not a script.
use Rattle.std.specs.Prelude.{◌≡◌, ℕ, ◌<◌, ◌≤◌, List, length, Result, Ok, Err, IsUtf8, ◌⊎◌}
use Rattle.kt_script.specs.Types.{NoMemory, NotUtf8, ScriptFault, Stmt, Token, TooLong}
use Rattle.kt_script.specs.Grammar.{Script}
use Rattle.kt_script.specs.TokenRules.{AreTokens}
use Rattle.kt_script.specs.Faults.{IsFaultOf}

-- `script_length_limit`: the maximum length of a script, in bytes.
abbrev pub script_length_limit : ℕ
script_length_limit = 1048576

-- `Spells text stmts`: the bytes `text` are a script, which consists of the statements `stmts`.
pub record Spells (text : List ℕ) (stmts : List Stmt) : Type 0 where
  pub short : length text ≤ script_length_limit
  pub utf8 : IsUtf8 text
  pub tokens : List Token
  pub read : AreTokens 1 text tokens
  pub script : Script tokens stmts

-- `HasFault text fault`: the bytes `text` are not a script, and `fault` is their first fault. The
-- length is checked before the encoding, and the encoding before the tokens.
abbrev pub HasFault : List ℕ → ScriptFault → Type 0
HasFault text fault =
    ((script_length_limit < length text) × (fault ≡ TooLong))
    ⊎ ((length text ≤ script_length_limit) × ¬ (IsUtf8 text) × (fault ≡ NotUtf8))
    ⊎ ((length text ≤ script_length_limit) × IsUtf8 text × (tokens : List Token) × AreTokens 1 text tokens × IsFaultOf tokens fault)

-- `ReturnsStatements result stmts`: the result `result` of a parser consists of the statements
-- `stmts`, or is a failed allocation.
abbrev pub ReturnsStatements : Result (List Stmt) ScriptFault → List Stmt → Type 0
ReturnsStatements (Ok found) stmts = found ≡ stmts
ReturnsStatements (Err (NoMemory refusal)) stmts = Unit {0}
ReturnsStatements (Err fault) stmts = ⊥

-- `ReturnsFault result fault`: the result `result` of a parser is the fault `fault` or a failed
-- allocation.
abbrev pub ReturnsFault : Result (List Stmt) ScriptFault → ScriptFault → Type 0
ReturnsFault (Ok stmts) fault = ⊥
ReturnsFault (Err (NoMemory refusal)) fault = Unit {0}
ReturnsFault (Err found) fault = found ≡ fault

-- `IsResultOf text result`: the result `result` consists of the statements of the script `text`, or
-- is the fault of `text` if `text` is not a script.
abbrev pub IsResultOf : List ℕ → Result (List Stmt) ScriptFault → Type 0
IsResultOf text (Ok stmts) = Spells text stmts
IsResultOf text (Err fault) = HasFault text fault
