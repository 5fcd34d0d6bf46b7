-- The meaning of a parser's position: a script is complete, or a statement has begun.
use Rattle.std.proofs.Common.{◌≡◌, ℕ, List, [], ◌∷◌, ◌++◌, Option, Some, None, refl, ap, sym, ◌∙◌, subst, append_assoc, ◌⊎◌, inl, inr, option_map}
use Rattle.kt_script.proofs.Common.{append-nil, Token, TokenKind, Name, Semicolon, ScriptState, Start, AfterStatement, InStatement, Stmt, Action, State, AfterName, Transition, Advance, Accept, IsStatement, token_kinds, statement_of_tokens, Script, no_stmts, stmt_and, ended_and, IsScriptPrefix, step, begin_statement, transition_after_statement, next, transition_of_step, option_to_list, transition_of_tokens}
use Rattle.kt_script.proofs.Complete.{walk, bind_some, map_some, joined}
use Rattle.kt_script.proofs.Ending.{walk-append, statement_is, some_end}
use Rattle.std.proofs.lemmas.List.{map-append}
use Rattle.std.proofs.lemmas.Option.{same_Some}

-- ---- scripts one after the other

pub Script-append : (xs ys : List Token) (ss rs : List Stmt) → Script xs ss → Script ys rs → Script (xs ++ ys) (ss ++ rs)
Script-append xs ys ss rs no_stmts later = later
Script-append xs ys ss rs (stmt_and phrase {rest = rest} {a = a} {stmts = others} st more) later =
    rw append_assoc (stmt_and phrase st (Script-append rest ys others rs more later))
Script-append xs ys ss rs (ended_and phrase {rest = rest} {a = a} {stmts = others} t st is more) later =
    rw append_assoc (ended_and phrase t st is (Script-append rest ys others rs more later))

pub one_stmt : (phrase : List Token) (a : Action) → IsStatement (token_kinds phrase) a → Script phrase (statement_of_tokens phrase a ∷ [])
one_stmt phrase a st = let s : Script (phrase ++ []) (statement_of_tokens phrase a ∷ []) = stmt_and phrase st no_stmts in rw append-nil at s

pub token_kinds-append : (xs ys : List Token) → token_kinds (xs ++ ys) ≡ token_kinds xs ++ token_kinds ys
token_kinds-append xs ys = map-append (λ (t : Token). t.kind) xs ys

-- ---- the meaning of a position

-- `Begun to done ts`: the tokens `ts` are a script of the statements `done`, a name, and tokens
-- that lead from that name to the step `to`
pub record Begun (to : Transition) (done : List Stmt) (ts : List Token) : Type 0 where
  pub before : List Token
  pub first : Token
  pub others : List Token
  pub parts : ts ≡ before ++ first ∷ others
  pub script : Script before done
  pub name : List ℕ
  pub named : first.kind ≡ Name name
  pub leads : walk (Advance (AfterName name)) (token_kinds others) ≡ Some to

-- `WholeAt done ts`: the tokens `ts` are a script of the statements `done`, and end with the last
-- of these statements
pub record WholeAt (done : List Stmt) (ts : List Token) : Type 0 where
  pub action : Action
  pub earlier : List Stmt
  pub begun : Begun (Accept action) earlier ts
  pub stmts : done ≡ earlier ++ statement_of_tokens (begun.first ∷ begun.others) action ∷ []

-- `Stands p done ts`: the tokens `ts` lead to the position `p`, and `done` are the statements that
-- they complete
abbrev pub Stands : ScriptState → List Stmt → List Token → Type 0
Stands Start done ts = Script ts done
Stands AfterStatement done ts = WholeAt done ts
Stands (InStatement line q) done ts = (b : Begun (Advance q) done ts) × (b.first.line ≡ line)

whole_statement : (done : List Stmt) (ts : List Token) (w : WholeAt done ts) → IsStatement (token_kinds (w.begun.first ∷ w.begun.others)) w.action
whole_statement done ts w = rw w.begun.named (statement_is w.begun.name (token_kinds w.begun.others) w.action w.begun.leads)

pub whole_script : (done : List Stmt) (ts : List Token) → WholeAt done ts → Script ts done
whole_script done ts w =
    let phrase : List Token = w.begun.first ∷ w.begun.others in
    rw (w.begun.parts, w.stmts) (Script-append w.begun.before phrase w.earlier (statement_of_tokens phrase w.action ∷ []) w.begun.script (one_stmt phrase w.action (whole_statement done ts w)))

-- a complete script with a semicolon after it is a script of the same statements
whole_ended : (done : List Stmt) (ts : List Token) (t : Token) → WholeAt done ts → t.kind ≡ Semicolon → Script (ts ++ t ∷ []) done
whole_ended done ts t w is =
    let phrase : List Token = w.begun.first ∷ w.begun.others in
    let one : Script (phrase ++ t ∷ []) (statement_of_tokens phrase w.action ∷ []) = ended_and phrase t (whole_statement done ts w) is no_stmts in
    rw (w.begun.parts, w.stmts, append_assoc) (Script-append w.begun.before (phrase ++ t ∷ []) w.earlier (statement_of_tokens phrase w.action ∷ []) w.begun.script one)

enters : (done : List Stmt) (ts : List Token) (t : Token) (n : List ℕ) → Script ts done → t.kind ≡ Name n
    → Stands (InStatement t.line (AfterName n)) (done ++ []) (ts ++ t ∷ [])
enters done ts t n script is =
    (record { before = ts; first = t; others = []; parts = refl; script = rw append-nil script; name = n; named = is; leads = refl }, refl)

begin_is : (line : ℕ) (k : TokenKind) (to : ScriptState × Option Stmt) → begin_statement line k ≡ Some to → (n : List ℕ) × (k ≡ Name n) × (to ≡ (InStatement line (AfterName n), None))
begin_is line (Name n) to e = (n, refl, sym (same_Some (InStatement line (AfterName n), None) to e))
begin_is line _ to e = absurd cc

go_on_is : (line : ℕ) (k : TokenKind) (to : ScriptState × Option Stmt) → transition_after_statement line k ≡ Some to
    → ((n : List ℕ) × (k ≡ Name n) × (to ≡ (InStatement line (AfterName n), None))) ⊎ ((k ≡ Semicolon) × (to ≡ (Start, None)))
go_on_is line (Name n) to e = inl (n, refl, sym (same_Some (InStatement line (AfterName n), None) to e))
go_on_is line Semicolon to e = inr (refl, sym (same_Some (Start, None) to e))
go_on_is line _ to e = absurd cc

-- `Begun` is preserved by a token that the grammar allows
goes_on : (q : State) (to : Transition) (done : List Stmt) (ts : List Token) (t : Token) (b : Begun (Advance q) done ts) → step q t.kind ≡ Some to
    → (c : Begun to done (ts ++ t ∷ [])) × (c.first.line ≡ b.first.line)
goes_on q to done ts t b e =
    let one : walk (Advance q) (t.kind ∷ []) ≡ Some to = rw e refl in (
      record {
        before = b.before;
        first = b.first;
        others = b.others ++ t ∷ [];
        parts = rw b.parts (append_assoc b.before (b.first ∷ b.others) (t ∷ []));
        script = b.script;
        name = b.name;
        named = b.named;
        leads = ap (walk (Advance (AfterName b.name))) (token_kinds-append b.others (t ∷ [])) ∙ walk-append (token_kinds b.others) (t.kind ∷ []) (Advance (AfterName b.name)) (Advance q) b.leads ∙ one;
      },
      refl,
    )

lands : (to : Transition) (line : ℕ) (q : State) (done : List Stmt) (ts : List Token) (t : Token) → Stands (InStatement line q) done ts → step q t.kind ≡ Some to
    → Stands (transition_of_step line to).0 (done ++ option_to_list (transition_of_step line to).1) (ts ++ t ∷ [])
lands (Advance r) line q done ts t b e = let c = goes_on q (Advance r) done ts t b.0 e in rw append-nil (c.0, c.1 ∙ b.1)
lands (Accept a) line q done ts t b e =
    let c = goes_on q (Accept a) done ts t b.0 e in
    record { action = a; earlier = done; begun = c.0; stmts = ap (λ (n : ℕ). done ++ record { line = n; action = a } ∷ []) (sym (c.1 ∙ b.1)) }

at_place : (to : ScriptState × Option Stmt) (done : List Stmt) (ts : List Token) (made : ScriptState × Option Stmt) → to ≡ made
    → Stands made.0 (done ++ option_to_list made.1) ts → Stands to.0 (done ++ option_to_list to.1) ts
at_place to done ts made e h = subst (λ (x : ScriptState × Option Stmt). Stands x.0 (done ++ option_to_list x.1) ts) (sym e) h

stands_next : (p : ScriptState) (done : List Stmt) (ts : List Token) (t : Token) (to : ScriptState × Option Stmt) → Stands p done ts → next p t ≡ Some to
    → Stands to.0 (done ++ option_to_list to.1) (ts ++ t ∷ [])
stands_next Start done ts t to h e =
    let b = begin_is t.line t.kind to e in
    at_place to done (ts ++ t ∷ []) (InStatement t.line (AfterName b.0), None) b.2 (enters done ts t b.0 h b.1)
stands_next AfterStatement done ts t to h e =
    elim (go_on_is t.line t.kind to e) [
      | inl b ↦ at_place to done (ts ++ t ∷ []) (InStatement t.line (AfterName b.0), None) b.2 (enters done ts t b.0 (whole_script done ts h) b.1)
      | inr b ↦ at_place to done (ts ++ t ∷ []) (Start, None) b.1 (rw append-nil (whole_ended done ts t h b.0))
    ]
stands_next (InStatement line q) done ts t to h e =
    let m = map_some (step q t.kind) (transition_of_step line) to e in
    at_place to done (ts ++ t ∷ []) (transition_of_step line m.0) (sym m.2) (lands m.0 line q done ts t h m.1)

stands_run : (ts : List Token) (p q : ScriptState) (done ss : List Stmt) (front : List Token) → Stands p done front → transition_of_tokens p ts ≡ Some (q, ss) → Stands q (done ++ ss) (front ++ ts)
stands_run [] p q done ss front h e =
    let same = same_Some (p, []) (q, ss) e in
    let here : Stands p (done ++ []) (front ++ []) = rw (append-nil, append-nil) h in
    subst (λ (x : ScriptState × List Stmt). Stands x.0 (done ++ x.1) (front ++ [])) same here
stands_run (t ∷ ts) p q done ss front h e =
    let b = bind_some (next p t) (λ to. option_map (joined (option_to_list to.1)) (transition_of_tokens to.0 ts)) (q, ss) e in
    let m = map_some (transition_of_tokens b.0.0 ts) (joined (option_to_list b.0.1)) (q, ss) b.2 in
    let here = stands_next p done front t b.0 h b.1 in
    let later : Stands m.0.0 ((done ++ option_to_list b.0.1) ++ m.0.1) ((front ++ t ∷ []) ++ ts) = stands_run ts b.0.0 m.0.0 (done ++ option_to_list b.0.1) m.0.1 (front ++ t ∷ []) here m.1 in
    let regrouped : Stands m.0.0 (done ++ (option_to_list b.0.1 ++ m.0.1)) (front ++ t ∷ ts) = rw (append_assoc, append_assoc) at later in
    subst (λ (x : ScriptState × List Stmt). Stands x.0 (done ++ x.1) (front ++ t ∷ ts)) m.2 regrouped

pub from_start : (ts : List Token) (q : ScriptState) (ss : List Stmt) → transition_of_tokens Start ts ≡ Some (q, ss) → Stands q ss ts
from_start ts q ss e = stands_run ts Start q [] ss [] no_stmts e

-- ---- each position has a script that continues from it

-- there are tokens with the kinds `ks`
tokens_with : (ks : List TokenKind) → (ts : List Token) × (token_kinds ts ≡ ks)
tokens_with [] = ([], refl)
tokens_with (k ∷ ks) = let r = tokens_with ks in (record { line = 0; kind = k } ∷ r.0, ap (λ (x : List TokenKind). k ∷ x) r.1)

-- a statement that has begun can be completed
pub finished : (q : State) (done : List Stmt) (ts : List Token) (b : Begun (Advance q) done ts)
    → (more : List Token) × (a : Action) × IsStatement (token_kinds ((b.first ∷ b.others) ++ more)) a
finished q done ts b =
    let end = some_end q in
    let more = tokens_with end.0 in
    let same : token_kinds (b.others ++ more.0) ≡ token_kinds b.others ++ end.0 = token_kinds-append b.others more.0 ∙ ap (λ (ks : List TokenKind). token_kinds b.others ++ ks) more.1 in
    let leads = ap (walk (Advance (AfterName b.name))) same ∙ walk-append (token_kinds b.others) end.0 (Advance (AfterName b.name)) (Advance q) b.leads ∙ end.2 in
    (more.0, end.1, rw b.named (statement_is b.name (token_kinds (b.others ++ more.0)) end.1 leads))

pub begins_from : (before begun ts more : List Token) (done : List Stmt) (a : Action) → ts ≡ before ++ begun → Script before done → IsStatement (token_kinds (begun ++ more)) a → IsScriptPrefix ts
begins_from before begun ts more done a parts script st =
    let all : Script (before ++ (begun ++ more)) (done ++ statement_of_tokens (begun ++ more) a ∷ []) = Script-append before (begun ++ more) done (statement_of_tokens (begun ++ more) a ∷ []) script (one_stmt (begun ++ more) a st) in
    (more, done ++ statement_of_tokens (begun ++ more) a ∷ [], rw (parts, append_assoc) all)

pub stands_begins : (p : ScriptState) (done : List Stmt) (ts : List Token) → Stands p done ts → IsScriptPrefix ts
stands_begins Start done ts h = ([], done, rw append-nil h)
stands_begins AfterStatement done ts h = ([], done, rw append-nil (whole_script done ts h))
stands_begins (InStatement line q) done ts b =
    let f = finished q done ts b.0 in
    begins_from b.0.before (b.0.first ∷ b.0.others) ts f.0 done f.1 b.0.parts b.0.script f.2
