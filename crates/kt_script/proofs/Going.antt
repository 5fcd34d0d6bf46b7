-- The tokens that were read, and the rest of the text.
use Rattle.std.proofs.Common.{◌≡◌, ℕ, ◌+◌, ◌<◌, ◌≤◌, List, [], ◌∷◌, ◌++◌, length, take, drop, Option, Some, None, Result, Ok, Err, refl, ap, sym, ◌∙◌, subst, append_assoc, arith, length-take, length-drop, IfOk, IfErr}
use Rattle.kt_script.proofs.Common.{append-nil, ScriptFault, NoMemory, Token, TokenKind, Lexeme, ScriptState, Start, AfterStatement, InStatement, Parser, State, Stmt, Script, transition_of_tokens, IsBetweenStatements, IfFault, IsFaultOf, last, open_bracket_lines, end_fault, HasRead, IsUnexpectedToken, lexeme_at, tokens, tokens_in, line_at_end}
use Rattle.kt_script.specs.Inner.Automaton.{IsInStatement}
use Rattle.kt_script.proofs.Sound.{accepted, misfit, unfinished}
use Rattle.kt_script.proofs.PieceTokens.{tokens-piece, tokens-end}

-- `GoesOn place parser line rest text`: `parser` has read `text` up to its suffix `rest`, which
-- begins on the line `line`, and is at the position `place`
pub record GoesOn (place : ScriptState) (parser : Parser) (line : ℕ) (rest text : List ℕ) : Type 0 where
  pub read : List Token
  pub has_read : HasRead place parser read
  pub all : read ++ tokens line 0 rest ≡ tokens 1 0 text
  pub lines : line + length rest ≤ 1 + length text

pub begins : (place : ScriptState) (parser : Parser) (text : List ℕ) → HasRead place parser [] → GoesOn place parser 1 text text
begins place parser text h = record { read = []; has_read = h; all = refl; lines = omega arith }

pub goes_on : (place to : ScriptState) (parser after : Parser) (line next : ℕ) (rest left text : List ℕ) (piece : Lexeme) → GoesOn place parser line rest text → piece ≡ lexeme_at rest
    → 0 < piece.length → piece.length ≤ length rest
    → ((read : List Token) → HasRead place parser read → HasRead to after (read ++ tokens_in line piece.kind))
    → left ≡ drop piece.length rest → next ≡ line_at_end line (take piece.length rest) → next ≤ line + length (take piece.length rest)
    → GoesOn to after next left text
goes_on place to parser after line next rest left text piece h is some fits reads left_is next_is next_le =
    let cut = tokens-piece line rest piece is some fits in
    record {
      read = h.read ++ tokens_in line piece.kind;
      has_read = reads h.read h.has_read;
      all = rw (left_is, next_is) (append_assoc h.read (tokens_in line piece.kind) _ ∙ ap (λ (ts : List Token). h.read ++ ts) (sym cut) ∙ h.all);
      lines = rw left_is (omega (arith, h.lines, next_le, length-take piece.length rest, length-drop piece.length rest));
    }

pub some_fault : (T : Type 0) (f : ScriptFault) (P : ScriptFault → Type 0) → P f → IfFault {T = T} (Err f) P
some_fault T (NoMemory refusal) P h = tt
some_fault T fault P h = h

misfit_at : (place : ScriptState) (parser : Parser) (line : ℕ) (rest text : List ℕ) (piece : Lexeme) (kind : Option TokenKind) (f : ScriptFault) → kind ≡ piece.kind → GoesOn place parser line rest text
    → piece ≡ lexeme_at rest → 0 < piece.length → piece.length ≤ length rest → IsUnexpectedToken place line kind f → IsFaultOf (tokens 1 0 text) f
misfit_at place parser line rest text piece None f same h is some fits m = elim m [ ]
misfit_at place parser line rest text piece (Some kind) f same h is some fits m =
    let token : Token = record { line = line; kind = kind } in
    let cut = tokens-piece line rest piece is some fits in
    let later : List Token = tokens (line_at_end line (take piece.length rest)) 0 (drop piece.length rest) in
    let parts : h.read ++ token ∷ later ≡ tokens 1 0 text = ap (λ (k : Option TokenKind). h.read ++ (tokens_in line k ++ later)) same ∙ ap (λ (ts : List Token). h.read ++ ts) (sym cut) ∙ h.all in
    let fault = misfit h.read token later place parser.statements h.has_read.runs m.1 in
    rw (← parts, m.0) fault

-- a token that the grammar does not allow gives the fault of the text
pub stops : (T U : Type 0) (f : ScriptFault) (place : ScriptState) (parser : Parser) (line : ℕ) (rest text : List ℕ) (piece : Lexeme) → GoesOn place parser line rest text
    → piece ≡ lexeme_at rest → 0 < piece.length → piece.length ≤ length rest
    → IfFault {T = T} (Err f) (λ f. IsUnexpectedToken place line piece.kind f) → IfFault {T = U} (Err f) (λ f. IsFaultOf (tokens 1 0 text) f)
stops T U (NoMemory refusal) place parser line rest text piece h is some fits m = tt
stops T U f place parser line rest text piece h is some fits m = misfit_at place parser line rest text piece piece.kind f refl h is some fits m

-- ---- the end

all_read : (place : ScriptState) (parser : Parser) (line : ℕ) (rest text : List ℕ) → GoesOn place parser line rest text → rest ≡ [] → HasRead place parser (tokens 1 0 text)
all_read place parser line rest text h none =
    let end : tokens line 0 rest ≡ [] = ap (tokens line 0) none ∙ tokens-end line in
    let all : h.read ≡ tokens 1 0 text = sym (append-nil h.read) ∙ ap (λ (ts : List Token). h.read ++ ts) (sym end) ∙ h.all in
    subst (λ (ts : List Token). HasRead place parser ts) all h.has_read

pub ends_ok : (r : Result (List Stmt) ScriptFault) (place : ScriptState) (parser : Parser) (line : ℕ) (rest text : List ℕ) → GoesOn place parser line rest text → rest ≡ []
    → IfOk r (λ stmts. IsBetweenStatements place × (stmts ≡ parser.statements)) → IfOk r (λ stmts. Script (tokens 1 0 text) stmts)
ends_ok (Ok stmts) place parser line rest text h none given =
    rw given.1 (accepted (tokens 1 0 text) place parser.statements (all_read place parser line rest text h none).runs given.0)
ends_ok (Err f) place parser line rest text h none given = tt

within_is : (p : ScriptState) (n : ℕ) → IsInStatement p n → (q : State) × (p ≡ InStatement n q)
within_is Start n h = elim h [ ]
within_is AfterStatement n h = elim h [ ]
within_is (InStatement line q) n h = (q, ap (λ (k : ℕ). InStatement k q) h)

pub ends_fault : (r : Result (List Stmt) ScriptFault) (place : ScriptState) (parser : Parser) (line : ℕ) (rest text : List ℕ) → GoesOn place parser line rest text → rest ≡ []
    → IfErr r (λ f. (n : ℕ) × IsInStatement place n × (f ≡ end_fault (last parser.brackets.items) n)) → IfFault r (λ f. IsFaultOf (tokens 1 0 text) f)
ends_fault (Ok stmts) place parser line rest text h none given = tt
ends_fault (Err f) place parser line rest text h none given =
    let done = all_read place parser line rest text h none in
    let w = within_is place given.0 given.1 in
    let runs : transition_of_tokens Start (tokens 1 0 text) ≡ Some (InStatement given.0 w.0, parser.statements) = done.runs ∙ ap (λ (p : ScriptState). Some (p, parser.statements)) w.1 in
    let fault = unfinished (tokens 1 0 text) given.0 w.0 parser.statements runs in
    let same : end_fault (last (open_bracket_lines [] (tokens 1 0 text))) given.0 ≡ f = sym (given.2 ∙ ap (λ (lines : List ℕ). end_fault (last lines) given.0) done.brackets) in
    some_fault (List Stmt) f (λ f. IsFaultOf (tokens 1 0 text) f) (subst (λ (x : ScriptFault). IsFaultOf (tokens 1 0 text) x) same fault)
