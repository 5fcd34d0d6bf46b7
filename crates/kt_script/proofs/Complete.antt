-- The parser accepts each script and returns its statements.
use Rattle.std.proofs.Common.{arith, ◌≡◌, ℕ, true, false, List, [], ◌∷◌, ◌++◌, Option, Some, None, refl, ap, sym, ◌∙◌, append_assoc, option_map, option_and_then}
use Rattle.kt_script.proofs.Common.{append-nil, Token, TokenKind, Name, Quoted, OpenParen, CloseParen, OpenBrace, CloseBrace, Equals, Semicolon, ScriptState, Start, AfterStatement, InStatement, Pair, Stmt, Literal, Action, Call, Assign, Table, AfterName, Pairs, AfterPair, AfterPath, Transition, Advance, Accept, literal_kind, pair, IsKey, by_name, by_text, IsSeparator, comma, semicolon, no_pairs, last_pair, pair_and, ArePathParts, no_parts, named_part, quoted_part, IsStatement, call, call_table, call_text, bare_table, assign, token_kinds, statement_of_tokens, Script, no_stmts, stmt_and, ended_and, literal_of, transition_after_table, with_pair, step, next, transition_of_step, option_to_list, transition_of_tokens, IsBetweenStatements}
use Rattle.kt_script.specs.declared.syntax.Literal.TheVariants as literal
use Rattle.kt_script.specs.declared.syntax.Arg.TheVariants as arg
use Rattle.kt_script.specs.Grammar as grammar
use Rattle.std.proofs.lemmas.Option.{same_Some}

-- `walk s ks`: the step to which the tokens `ks` lead from the step `s` within a statement
abbrev pub walk : Transition → List TokenKind → Option Transition
walk s [] = Some s
walk (Advance q) (k ∷ ks) = option_and_then (λ s. walk s ks) (step q k)
walk (Accept a) (k ∷ ks) = None

literal_of-literal_kind : (v : Literal) → literal_of (literal_kind v) ≡ Some v
literal_of-literal_kind (literal.Text t) = refl
literal_of-literal_kind v = refl

-- ---- tables

-- `with_pairs t pairs`: the table `t` with the pairs `pairs` appended
abbrev with_pairs : Table → List Pair → Table
with_pairs t pairs = record t { pairs = t.pairs ++ pairs }

pair_walks : (words : List TokenKind) (key : List ℕ) → IsKey words key → (t : Table) (v : Literal) (rest : List TokenKind)
    → walk (Advance (Pairs t)) ((words ++ Equals ∷ literal_kind v ∷ []) ++ rest) ≡ walk (Advance (AfterPair (with_pair t key v))) rest
pair_walks words key (by_name n) t v rest = rw literal_of-literal_kind refl
pair_walks words key (by_text n) t v rest = rw literal_of-literal_kind refl

separator_walks : (s : TokenKind) → IsSeparator s → (t : Table) (rest : List TokenKind) → walk (Advance (AfterPair t)) (s ∷ rest) ≡ walk (Advance (Pairs t)) rest
separator_walks s comma t rest = refl
separator_walks s semicolon t rest = refl

pairs_walk : (words : List TokenKind) (pairs : List Pair) → grammar.Pairs words pairs → (t : Table) (rest : List TokenKind)
    → walk (Advance (Pairs t)) (words ++ CloseBrace ∷ rest) ≡ walk (transition_after_table (with_pairs t pairs)) rest
pairs_walk words pairs no_pairs t rest = ap (λ (ps : List Pair). walk (transition_after_table (record t { pairs = ps })) rest) (sym (append-nil t.pairs))
pairs_walk words pairs (last_pair {kinds = w} {key = key} is v) t rest = pair_walks w key is t v (CloseBrace ∷ rest)
pairs_walk words pairs (pair_and {kinds = w} {rest = others} {key = key} {s = s} {pairs = ps} is v sep more) t rest =
    let regrouped : (w ++ Equals ∷ literal_kind v ∷ s ∷ others) ++ CloseBrace ∷ rest ≡ (w ++ Equals ∷ literal_kind v ∷ []) ++ s ∷ (others ++ CloseBrace ∷ rest) = simp append_assoc in
    ap (walk (Advance (Pairs t))) regrouped
    ∙ pair_walks w key is t v (s ∷ (others ++ CloseBrace ∷ rest))
    ∙ separator_walks s sep (with_pair t key v) (others ++ CloseBrace ∷ rest)
    ∙ pairs_walk others ps more (with_pair t key v) rest
    ∙ ap (λ (all : List Pair). walk (transition_after_table (record t { pairs = all })) rest) (append_assoc t.pairs (pair key v ∷ []) ps)

-- ---- paths

parts_walk : (words : List TokenKind) (parts : List (List ℕ)) → ArePathParts words parts → (path : List (List ℕ)) (v : Literal)
    → walk (Advance (AfterPath path)) (words ++ Equals ∷ literal_kind v ∷ []) ≡ Some (Accept (Assign (path ++ parts) v))
parts_walk words parts no_parts path v = rw literal_of-literal_kind (ap (λ (all : List (List ℕ)). Some (Accept (Assign all v))) (sym (append-nil path)))
parts_walk words parts (named_part {kinds = w} {parts = ps} n more) path v = parts_walk w ps more (path ++ n ∷ []) v ∙ ap (λ (all : List (List ℕ)). Some (Accept (Assign all v))) (append_assoc path (n ∷ []) ps)
parts_walk words parts (quoted_part {kinds = w} {parts = ps} t more) path v = parts_walk w ps more (path ++ t ∷ []) v ∙ ap (λ (all : List (List ℕ)). Some (Accept (Assign all v))) (append_assoc path (t ∷ []) ps)

-- the tokens after a path's first name have the same result from a name and from a path
first_part_walks : (words : List TokenKind) (parts : List (List ℕ)) → ArePathParts words parts → (n : List ℕ) (v : Literal)
    → walk (Advance (AfterName n)) (words ++ Equals ∷ literal_kind v ∷ []) ≡ walk (Advance (AfterPath (n ∷ []))) (words ++ Equals ∷ literal_kind v ∷ [])
first_part_walks words parts no_parts n v = refl
first_part_walks words parts are n v = refl

-- ---- statements

-- `Walks words a`: the tokens `words` are a name and tokens that complete its statement, whose
-- action is `a`
pub record Walks (words : List TokenKind) (a : Action) : Type 0 where
  pub name : List ℕ
  pub rest : List TokenKind
  pub parts : words ≡ Name name ∷ rest
  pub ends : walk (Advance (AfterName name)) rest ≡ Some (Accept a)

call_walks : (n : List ℕ) (v : Literal) → walk (Advance (AfterName n)) (OpenParen ∷ literal_kind v ∷ CloseParen ∷ []) ≡ Some (Accept (Call n (arg.Value v)))
call_walks n (literal.Text t) = refl
call_walks n v = refl

pub statement_walks : (words : List TokenKind) (a : Action) → IsStatement words a → Walks words a
statement_walks words a (call n v) = record { name = n; rest = OpenParen ∷ literal_kind v ∷ CloseParen ∷ []; parts = refl; ends = call_walks n v }
statement_walks words a (call_table {kinds = w} {pairs = ps} n table) =
    record { name = n; rest = OpenParen ∷ OpenBrace ∷ w ++ CloseBrace ∷ CloseParen ∷ []; parts = refl; ends = pairs_walk w ps table (record { name = n; in_parens = true; pairs = [] }) (CloseParen ∷ []) }
statement_walks words a (call_text n t) = record { name = n; rest = Quoted t ∷ []; parts = refl; ends = refl }
statement_walks words a (bare_table {kinds = w} {pairs = ps} n table) =
    record { name = n; rest = OpenBrace ∷ w ++ CloseBrace ∷ []; parts = refl; ends = pairs_walk w ps table (record { name = n; in_parens = false; pairs = [] }) [] }
statement_walks words a (assign {kinds = w} {parts = ps} n more v) =
    record { name = n; rest = w ++ Equals ∷ literal_kind v ∷ []; parts = refl; ends = first_part_walks w ps more n v ∙ parts_walk w ps more (n ∷ []) v }

-- ---- tokens

-- `joined front end`: the position in `end` and its statements, with the statements `front`
-- prepended
abbrev pub joined : List Stmt → ScriptState × List Stmt → ScriptState × List Stmt
joined front end = (end.0, front ++ end.1)

pub bind_some : {A B : Type 0} (o : Option A) (f : A → Option B) (y : B) → option_and_then f o ≡ Some y → (x : A) × (o ≡ Some x) × (f x ≡ Some y)
bind_some None f y e = absurd cc
bind_some (Some x) f y e = (x, refl, e)

pub map_some : {A B : Type 0} (o : Option A) (f : A → B) (y : B) → option_map f o ≡ Some y → (x : A) × (o ≡ Some x) × (f x ≡ y)
map_some None f y e = absurd cc
map_some (Some x) f y e = (x, refl, cc)

joined_twice : (xs ys : List Stmt) (o : Option (ScriptState × List Stmt)) → option_map (joined xs) (option_map (joined ys) o) ≡ option_map (joined (xs ++ ys)) o
joined_twice xs ys o = grind (arith, append_assoc {A = Stmt})

joined_none : (o : Option (ScriptState × List Stmt)) → option_map (joined []) o ≡ o
joined_none None = refl
joined_none (Some end) = refl

-- `reached line s`: the position after the step `s` in the statement on the line `line`, and a list
-- of that statement if the step completes it
abbrev pub reached : ℕ → Transition → ScriptState × List Stmt
reached line s = ((transition_of_step line s).0, option_to_list (transition_of_step line s).1)

-- `transition_of_tokens` over the tokens after a statement's name reaches the step that `walk`
-- reaches
steps_run : (ts : List Token) (line : ℕ) (s r : Transition) → walk s (token_kinds ts) ≡ Some r
    → option_map (joined (option_to_list (transition_of_step line s).1)) (transition_of_tokens (transition_of_step line s).0 ts) ≡ Some (reached line r)
steps_run [] line (Advance q) r e = ap (λ (s : Transition). Some (reached line s)) (same_Some (Advance q) r e)
steps_run [] line (Accept a) r e = ap (λ (s : Transition). Some (reached line s)) (same_Some (Accept a) r e)
steps_run (t ∷ ts) line (Advance q) r e =
    let b = bind_some (step q t.kind) (λ s. walk s (token_kinds ts)) r e in
    joined_none (transition_of_tokens (InStatement line q) (t ∷ ts)) ∙ rw b.1 (steps_run ts line b.0 r b.2)
steps_run (t ∷ ts) line (Accept a) r e = absurd cc

pub transition_of_tokens-append : (xs : List Token) (p q : ScriptState) (ys : List Token) (ss : List Stmt) → transition_of_tokens p xs ≡ Some (q, ss) → transition_of_tokens p (xs ++ ys) ≡ option_map (joined ss) (transition_of_tokens q ys)
transition_of_tokens-append [] p q ys ss e =
    let same = same_Some (p, []) (q, ss) e in
    sym (joined_none (transition_of_tokens p ys)) ∙ ap (λ (x : ScriptState × List Stmt). option_map (joined x.1) (transition_of_tokens x.0 ys)) same
transition_of_tokens-append (t ∷ xs) p q ys ss e =
    let b = bind_some (next p t) (λ to. option_map (joined (option_to_list to.1)) (transition_of_tokens to.0 xs)) (q, ss) e in
    let m = map_some (transition_of_tokens b.0.0 xs) (joined (option_to_list b.0.1)) (q, ss) b.2 in
    let later = transition_of_tokens-append xs b.0.0 m.0.0 ys m.0.1 m.1 in
    rw b.1 (ap (option_map (joined (option_to_list b.0.1))) later ∙ joined_twice (option_to_list b.0.1) m.0.1 (transition_of_tokens m.0.0 ys)
    ∙ ap (λ (x : ScriptState × List Stmt). option_map (joined x.1) (transition_of_tokens x.0 ys)) m.2)

-- ---- scripts

name_from_resting : (p : ScriptState) (t : Token) (n : List ℕ) → IsBetweenStatements p → t.kind ≡ Name n → next p t ≡ Some (InStatement t.line (AfterName n), None)
name_from_resting Start t n r e = rw e refl
name_from_resting AfterStatement t n r e = rw e refl
name_from_resting (InStatement line q) t n r e = elim r [ ]

-- `transition_of_tokens` over a statement's name and the tokens after it reaches the step that
-- `walk` reaches
pub named_runs : (t : Token) (ts : List Token) (p : ScriptState) (n : List ℕ) (s : Transition) → IsBetweenStatements p → t.kind ≡ Name n
    → walk (Advance (AfterName n)) (token_kinds ts) ≡ Some s
    → transition_of_tokens p (t ∷ ts) ≡ Some (reached t.line s)
named_runs t ts p n s r first leads = rw (name_from_resting p t n r first) (steps_run ts t.line (Advance (AfterName n)) s leads)

phrase_runs : (phrase : List Token) (p : ScriptState) (a : Action) → IsBetweenStatements p → IsStatement (token_kinds phrase) a → transition_of_tokens p phrase ≡ Some (AfterStatement, statement_of_tokens phrase a ∷ [])
phrase_runs [] p a r st = let w = statement_walks [] a st in let e = w.parts in absurd cc
phrase_runs (t ∷ ts) p a r st =
    let w = statement_walks (token_kinds (t ∷ ts)) a st in
    let parts = w.parts in
    let others : token_kinds ts ≡ w.rest = cc in
    named_runs t ts p w.name (Accept a) r (cc) (ap (walk (Advance (AfterName w.name))) others ∙ w.ends)

-- `Rests p ts stmts`: the tokens `ts` lead from the position `p` to a position between statements,
-- and complete the statements `stmts`
pub record Rests (p : ScriptState) (ts : List Token) (stmts : List Stmt) : Type 0 where
  pub place : ScriptState
  pub rests : IsBetweenStatements place
  pub runs : transition_of_tokens p ts ≡ Some (place, stmts)

semicolon_after : (t : Token) → t.kind ≡ Semicolon → next AfterStatement t ≡ Some (Start, None)
semicolon_after t e = rw e refl

pub script_runs : (ts : List Token) (stmts : List Stmt) → Script ts stmts → (p : ScriptState) → IsBetweenStatements p → Rests p ts stmts
script_runs ts stmts no_stmts p r = record { place = p; rests = r; runs = refl }
script_runs ts stmts (stmt_and phrase {rest = rest} {a = a} {stmts = others} st more) p r =
    let later = script_runs rest others more AfterStatement tt in
    record { place = later.place; rests = later.rests; runs = transition_of_tokens-append phrase p AfterStatement rest (statement_of_tokens phrase a ∷ []) (phrase_runs phrase p a r st) ∙ rw later.runs refl }
script_runs ts stmts (ended_and phrase {rest = rest} {a = a} {stmts = others} t st is more) p r =
    let later = script_runs rest others more Start tt in
    record {
      place = later.place;
      rests = later.rests;
      runs = transition_of_tokens-append phrase p AfterStatement (t ∷ rest) (statement_of_tokens phrase a ∷ []) (phrase_runs phrase p a r st) ∙ rw (semicolon_after t is, later.runs) refl;
    }
