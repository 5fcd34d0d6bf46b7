-- The transitions of the parser, by one token at a time.
use Rattle.std.specs.Prelude.{◌≡◌, ℕ, true, false, List, [], ◌∷◌, ◌++◌, Option, Some, None, if◌then◌else◌, option_map, option_and_then}
use Rattle.std.specs.Option.{option_to_list}
use Rattle.kt_script.specs.Types.{Assign, Call, CloseBrace, CloseBracket, CloseParen, Comma, Dot, Equals, TokenKind, Literal, Name, Number, OpenBrace, OpenBracket, OpenParen, ScriptState, Quoted, Semicolon, Start, Stmt, Token, Truth, AfterStatement, InStatement}
use Rattle.kt_script.specs.declared.syntax.Literal.TheVariants as literal
use Rattle.kt_script.specs.declared.syntax.Arg.TheVariants as arg
use Rattle.kt_script.specs.declared.state.Table.{Table}
use Rattle.kt_script.specs.declared.state.State.{State}
use Rattle.kt_script.specs.Grammar.{pair}
use Rattle.kt_script.specs.declared.state.State.TheVariants.{AfterName, AfterParen, AfterArgument, Pairs, AfterKeyBracket, AfterKeyString, AfterKey, AfterKeyEquals, AfterPair, AfterDot, AfterPathBracket, AfterPathString, AfterPath, AfterPathEquals}
use Rattle.kt_script.specs.declared.state.Transition.{Transition}
use Rattle.kt_script.specs.declared.state.Transition.TheVariants.{Advance, Accept}

-- `literal_of kind`: the literal that a token of the kind `kind` represents, or nothing if such a
-- token is not a literal.
abbrev pub literal_of : TokenKind → Option Literal
literal_of (Quoted t) = Some (literal.Text t)
literal_of (Number n) = Some (literal.Number n)
literal_of (Truth b) = Some (literal.Truth b)
literal_of _ = None

-- `transition_after_table t`: the transition for the `}` that closes the table `t`. If the table is
-- in parentheses, a `)` must follow. Otherwise, the statement is complete.
abbrev pub transition_after_table : Table → Transition
transition_after_table t = if t.in_parens then Advance (AfterArgument (Call t.name (arg.Table t.pairs))) else Accept (Call t.name (arg.Table t.pairs))

-- `with_pair t key v`: the table `t` with a pair of the key `key` and the value `v` appended.
abbrev pub with_pair : Table → List ℕ → Literal → Table
with_pair t key v = record t { pairs = t.pairs ++ pair key v ∷ [] }

-- `step q kind`: the transition from the state `q` for a token of the kind `kind`. Nothing if the
-- grammar does not allow such a token in `q`.
abbrev pub step : State → TokenKind → Option Transition
step (AfterName n) (Quoted t) = Some (Accept (Call n (arg.Value (literal.Text t))))
step (AfterName n) OpenParen = Some (Advance (AfterParen n))
step (AfterName n) OpenBrace = Some (Advance (Pairs (record { name = n; in_parens = false; pairs = [] })))
step (AfterName n) Dot = Some (Advance (AfterDot (n ∷ [])))
step (AfterName n) OpenBracket = Some (Advance (AfterPathBracket (n ∷ [])))
step (AfterName n) Equals = Some (Advance (AfterPathEquals (n ∷ [])))
step (AfterParen n) OpenBrace = Some (Advance (Pairs (record { name = n; in_parens = true; pairs = [] })))
step (AfterParen n) (Quoted t) = Some (Advance (AfterArgument (Call n (arg.Value (literal.Text t)))))
step (AfterParen n) (Number m) = Some (Advance (AfterArgument (Call n (arg.Value (literal.Number m)))))
step (AfterParen n) (Truth b) = Some (Advance (AfterArgument (Call n (arg.Value (literal.Truth b)))))
step (AfterArgument a) CloseParen = Some (Accept a)
step (Pairs t) (Name n) = Some (Advance (AfterKey t n))
step (Pairs t) OpenBracket = Some (Advance (AfterKeyBracket t))
step (Pairs t) CloseBrace = Some (transition_after_table t)
step (AfterKeyBracket t) (Quoted key) = Some (Advance (AfterKeyString t key))
step (AfterKeyString t key) CloseBracket = Some (Advance (AfterKey t key))
step (AfterKey t key) Equals = Some (Advance (AfterKeyEquals t key))
step (AfterKeyEquals t key) k = option_map (λ v. Advance (AfterPair (with_pair t key v))) (literal_of k)
step (AfterPair t) Comma = Some (Advance (Pairs t))
step (AfterPair t) Semicolon = Some (Advance (Pairs t))
step (AfterPair t) CloseBrace = Some (transition_after_table t)
step (AfterDot path) (Name n) = Some (Advance (AfterPath (path ++ n ∷ [])))
step (AfterPathBracket path) (Quoted t) = Some (Advance (AfterPathString (path ++ t ∷ [])))
step (AfterPathString path) CloseBracket = Some (Advance (AfterPath path))
step (AfterPath path) Dot = Some (Advance (AfterDot path))
step (AfterPath path) OpenBracket = Some (Advance (AfterPathBracket path))
step (AfterPath path) Equals = Some (Advance (AfterPathEquals path))
step (AfterPathEquals path) k = option_map (λ v. Accept (Assign path v)) (literal_of k)
step _ _ = None

-- `begin_statement line kind`: the transition for the first token of a statement. The token has the
-- kind `kind` and is on the line `line`. The transition leads to the position after the token and
-- completes no statement. Nothing if the token is not a name.
abbrev pub begin_statement : ℕ → TokenKind → Option (ScriptState × Option Stmt)
begin_statement line (Name n) = Some (InStatement line (AfterName n), None)
begin_statement line _ = None

-- `transition_after_statement line kind`: the transition for a token of the kind `kind` on the line
-- `line` after a complete statement. The token is a semicolon, or the first token of the next
-- statement. Nothing if the grammar does not allow the token.
abbrev pub transition_after_statement : ℕ → TokenKind → Option (ScriptState × Option Stmt)
transition_after_statement line Semicolon = Some (Start, None)
transition_after_statement line kind = begin_statement line kind

-- `transition_of_step line s`: the transition for the step `s` in the statement that begins on the
-- line `line`. It consists of the position in the grammar after the step, and of the statement if
-- the step completes it.
abbrev pub transition_of_step : ℕ → Transition → ScriptState × Option Stmt
transition_of_step line (Advance q) = (InStatement line q, None)
transition_of_step line (Accept a) = (AfterStatement, Some (record { line = line; action = a }))

-- `next p t`: the transition from the position `p` in the grammar for the token `t`. It consists of
-- the position after `t`, and of the statement that `t` completes, if any. Nothing if the grammar
-- does not allow `t` at `p`.
abbrev pub next : ScriptState → Token → Option (ScriptState × Option Stmt)
next Start t = begin_statement t.line t.kind
next AfterStatement t = transition_after_statement t.line t.kind
next (InStatement line q) t = option_map (transition_of_step line) (step q t.kind)

-- `position_after to`: the position in the grammar to which the transition `to` leads, or nothing
-- if `to` is absent.
abbrev pub position_after : Option (ScriptState × Option Stmt) → Option ScriptState
position_after to = option_map (λ x. x.0) to

-- `completed_statements to`: a list with the statement that the transition `to` completes. It is
-- empty if `to` completes no statement or is absent.
abbrev pub completed_statements : Option (ScriptState × Option Stmt) → List Stmt
completed_statements None = []
completed_statements (Some to) = option_to_list to.1

-- `transition_of_tokens p ts`: the position in the grammar to which the tokens `ts` lead from the
-- position `p`, and the statements that they complete. Nothing if the grammar does not allow one of
-- the tokens.
abbrev pub transition_of_tokens : ScriptState → List Token → Option (ScriptState × List Stmt)
transition_of_tokens p [] = Some (p, [])
transition_of_tokens p (t ∷ ts) = option_and_then (λ to. option_map (λ end. (end.0, option_to_list to.1 ++ end.1)) (transition_of_tokens to.0 ts)) (next p t)

-- `IsInStatement p line`: the position `p` in the grammar is within a statement that begins on the
-- line `line`.
abbrev pub IsInStatement : ScriptState → ℕ → Type 0
IsInStatement (InStatement line q) n = line ≡ n
IsInStatement _ n = ⊥

-- `IsBetweenStatements p`: the position `p` in the grammar is not within a statement.
abbrev pub IsBetweenStatements : ScriptState → Type 0
IsBetweenStatements Start = Unit {0}
IsBetweenStatements AfterStatement = Unit {0}
IsBetweenStatements (InStatement line q) = ⊥
