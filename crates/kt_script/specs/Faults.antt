-- The faults of tokens that are not a script.
use Rattle.std.specs.Prelude.{◌≡◌, ℕ, ◌-◌, length, take, slice_get, List, [], ◌∷◌, ◌++◌, Option, Some, None, Result, Ok, Err, ◌⊎◌}
use Rattle.kt_script.specs.Types.{Action, Bad, BadToken, Invalid, CloseBrace, CloseBracket, CloseParen, Unterminated, TokenKind, NoMemory, NotLiteral, OpenBrace, OpenBracket, OpenParen, ScriptFault, Stmt, Token, Unclosed}
use Rattle.kt_script.specs.Grammar.{IsStatement, Script, token_kinds, first_token_line}

-- `IfFault result P`: if `result` is a fault and not a failed allocation, the fault satisfies the
-- predicate `P`.
abbrev pub IfFault : {T : Type 0} → Result T ScriptFault → (ScriptFault → Type 0) → Type 0
IfFault (Ok x) P = Unit {0}
IfFault (Err (NoMemory refusal)) P = Unit {0}
IfFault (Err fault) P = P fault

-- `IsScriptPrefix ts`: some script begins with the tokens `ts`.
abbrev pub IsScriptPrefix : List Token → Type 0
IsScriptPrefix ts = (more : List Token) × (stmts : List Stmt) × Script (ts ++ more) stmts

-- `token_kind_fault line kind`: the fault of a script in which the grammar does not allow a token
-- of the kind `kind` on the line `line`.
abbrev pub token_kind_fault : ℕ → TokenKind → ScriptFault
token_kind_fault line (Invalid Bad) = BadToken line
token_kind_fault line (Invalid Unterminated) = Unclosed line
token_kind_fault line _ = NotLiteral line

-- `fault_of t`: the fault of a script in which the grammar does not allow the token `t`.
abbrev pub fault_of : Token → ScriptFault
fault_of t = token_kind_fault t.line t.kind

-- `HasUnexpectedToken ts fault`: one of the tokens `ts` is unexpected: the grammar does not allow
-- it after the tokens before it. `fault` is the fault of the first unexpected token.
pub record HasUnexpectedToken (ts : List Token) (fault : ScriptFault) : Type 0 where
  pub front : List Token
  pub token : Token
  pub rest : List Token
  pub parts : ts ≡ front ++ token ∷ rest
  pub begins : IsScriptPrefix front
  pub unfit : ¬ IsScriptPrefix (front ++ token ∷ [])
  pub is : fault ≡ fault_of token

-- `last lines`: the last of the line numbers `lines`, or nothing if the list is empty.
abbrev pub last : List ℕ → Option ℕ
last lines = slice_get lines (length lines - 1)

-- `without_last lines`: the line numbers `lines` without the last number.
abbrev pub without_last : List ℕ → List ℕ
without_last lines = take (length lines - 1) lines

-- `brackets_after lines line kind`: the lines of the open brackets after a token of the kind `kind`
-- on the line `line`. `lines` are the lines of the open brackets before the token.
abbrev pub brackets_after : List ℕ → ℕ → TokenKind → List ℕ
brackets_after lines line OpenParen = lines ++ line ∷ []
brackets_after lines line OpenBrace = lines ++ line ∷ []
brackets_after lines line OpenBracket = lines ++ line ∷ []
brackets_after lines line CloseParen = without_last lines
brackets_after lines line CloseBrace = without_last lines
brackets_after lines line CloseBracket = without_last lines
brackets_after lines line _ = lines

-- `open_bracket_lines lines ts`: the lines of the open brackets after the tokens `ts`. `lines` are
-- the lines of the open brackets before these tokens.
abbrev pub open_bracket_lines : List ℕ → List Token → List ℕ
open_bracket_lines lines [] = lines
open_bracket_lines lines (t ∷ ts) = open_bracket_lines (brackets_after lines t.line t.kind) ts

-- `end_fault bracket line`: the fault of a script that ends within the statement that begins on the
-- line `line`. `bracket` is the line of the innermost open bracket, or nothing if no bracket is
-- open.
abbrev pub end_fault : Option ℕ → ℕ → ScriptFault
end_fault None line = NotLiteral line
end_fault (Some bracket) line = Unclosed bracket

-- `HasUnfinishedStatement ts fault`: the tokens `ts` end within a statement, and `fault` is the
-- fault of a script with this end.
pub record HasUnfinishedStatement (ts : List Token) (fault : ScriptFault) : Type 0 where
  pub whole : List Token
  pub begun : List Token
  pub parts : ts ≡ whole ++ begun
  pub stmts : List Stmt
  pub script : Script whole stmts
  pub more : List Token
  pub action : Action
  pub statement : IsStatement (token_kinds (begun ++ more)) action
  pub is : fault ≡ end_fault (last (open_bracket_lines [] ts)) (first_token_line begun)

-- `IsFaultOf ts fault`: the tokens `ts` are not a script. `fault` is the fault of the first token
-- that the grammar does not allow, or of an end within a statement.
pub record IsFaultOf (ts : List Token) (fault : ScriptFault) : Type 0 where
  pub no_script : (stmts : List Stmt) → Script ts stmts → ⊥
  pub is : HasUnexpectedToken ts fault ⊎ HasUnfinishedStatement ts fault
