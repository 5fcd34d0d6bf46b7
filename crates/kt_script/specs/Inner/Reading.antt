-- The tokens that a parser has read.
use Rattle.std.specs.Prelude.{◌≡◌, ℕ, List, [], Option, Some, None}
use Rattle.kt_script.specs.Types.{TokenKind, ScriptState, ScriptFault, Start, Token}
use Rattle.kt_script.specs.declared.parser.Parser.{Parser}
use Rattle.kt_script.specs.Inner.Automaton.{transition_of_tokens, next}
use Rattle.kt_script.specs.Faults.{open_bracket_lines, token_kind_fault}

-- `HasRead position parser tokens`: `parser` has read `tokens` from the start of a script, and
-- `position` is the position in the grammar after `tokens`. `parser` contains the statements of
-- `tokens` and the lines of their open brackets.
pub record HasRead (position : ScriptState) (parser : Parser) (tokens : List Token) : Type 0 where
  pub runs : transition_of_tokens Start tokens ≡ Some (position, parser.statements)
  pub brackets : parser.brackets.items ≡ open_bracket_lines [] tokens

-- `IsUnexpectedToken position line kind fault`: at the position `position` in the grammar, a token
-- of the kind `kind` is not allowed. `fault` is the fault of such a token on the line `line`. The
-- relation does not hold if `kind` is absent.
abbrev pub IsUnexpectedToken : ScriptState → ℕ → Option TokenKind → ScriptFault → Type 0
IsUnexpectedToken position line None fault = ⊥
IsUnexpectedToken position line (Some kind) fault = (fault ≡ token_kind_fault line kind) × (next position (record { line = line; kind = kind }) ≡ None)
