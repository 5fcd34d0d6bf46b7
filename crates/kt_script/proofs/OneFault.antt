-- Tokens that are not a script have exactly one fault.
use Rattle.std.proofs.Common.{◌≡◌, ℕ, List, [], ◌∷◌, ◌++◌, Option, Some, refl, ap, sym, ◌∙◌, subst, append_assoc, ◌⊎◌, inl, inr, option_map}
use Rattle.kt_script.proofs.Common.{append-nil, ScriptFault, Token, TokenKind, ScriptState, Start, InStatement, Stmt, Action, State, AfterName, Transition, Advance, Accept, IsStatement, token_kinds, first_token_line, statement_of_tokens, Script, IsScriptPrefix, fault_of, last, open_bracket_lines, end_fault, HasUnexpectedToken, HasUnfinishedStatement, IsFaultOf, step, transition_of_tokens, IsBetweenStatements}
use Rattle.kt_script.proofs.Complete.{walk, bind_some, joined, transition_of_tokens-append, named_runs, statement_walks, script_runs}
use Rattle.kt_script.proofs.Standing.{Script-append, one_stmt, begins_from, token_kinds-append}

-- ---- a token that the grammar does not allow

-- two splits of a list at a token are equal, or the token of one is before that of the other
splits : (xs ys : List Token) (s t : Token) (xr yr : List Token) → xs ++ s ∷ xr ≡ ys ++ t ∷ yr
    → ((xs ≡ ys) × (s ≡ t)) ⊎ (((m : List Token) × (ys ≡ xs ++ s ∷ m)) ⊎ ((m : List Token) × (xs ≡ ys ++ t ∷ m)))
splits [] [] s t xr yr e = inl (refl, cc)
splits [] (y ∷ ys) s t xr yr e = inr (inl (ys, cc))
splits (x ∷ xs) [] s t xr yr e = inr (inr (xs, cc))
splits (x ∷ xs) (y ∷ ys) s t xr yr e =
    let tails : xs ++ s ∷ xr ≡ ys ++ t ∷ yr = cc in
    let heads : x ≡ y = cc in
    elim (splits xs ys s t xr yr tails) [
      | inl same ↦ inl (cc, same.1)
      | inr (inl before) ↦ inr (inl (before.0, cc))
      | inr (inr after) ↦ inr (inr (after.0, cc))
    ]

begins_less : (front : List Token) (t : Token) (m : List Token) → IsScriptPrefix (front ++ t ∷ m) → IsScriptPrefix (front ++ t ∷ [])
begins_less front t m b =
    let e : (front ++ t ∷ m) ++ b.0 ≡ (front ++ t ∷ []) ++ (m ++ b.0) = simp append_assoc in
    (m ++ b.0, b.1, subst (λ (xs : List Token). Script xs b.1) e b.2)

-- no script begins with the tokens up to and including an unexpected token
no_further : (ts : List Token) (f : ScriptFault) (m : HasUnexpectedToken ts f) (more : List Token) → IsScriptPrefix (m.front ++ m.token ∷ more) → ⊥
no_further ts f m more b = m.unfit (begins_less m.front m.token more b)

two_misfits : (ts : List Token) (f g : ScriptFault) → HasUnexpectedToken ts f → HasUnexpectedToken ts g → f ≡ g
two_misfits ts f g m n =
    elim (splits m.front n.front m.token n.token m.rest n.rest (sym m.parts ∙ n.parts)) [
      | inl same ↦ m.is ∙ ap fault_of same.1 ∙ sym n.is
      | inr (inl before) ↦ absurd (no_further ts f m before.0 (subst IsScriptPrefix before.1 n.begins))
      | inr (inr after) ↦ absurd (no_further ts g n after.0 (subst IsScriptPrefix after.1 m.begins))
    ]

misfit_unfinished : (ts : List Token) (f g : ScriptFault) → HasUnexpectedToken ts f → HasUnfinishedStatement ts g → ⊥
misfit_unfinished ts f g m u = no_further ts f m m.rest (subst IsScriptPrefix m.parts (begins_from u.whole u.begun ts u.more u.stmts u.action u.parts u.script u.statement))

-- ---- the end within a statement

stepped : (q : State) (k : TokenKind) (ks : List TokenKind) (s to : Transition) → step q k ≡ Some s → walk s ks ≡ Some to → walk (Advance q) (k ∷ ks) ≡ Some to
stepped q k ks s to is rest = rw is rest

-- tokens that can be followed by another token lead to a state within the statement
walk_front : (xs : List TokenKind) (k : TokenKind) (ys : List TokenKind) (s r : Transition) → walk s (xs ++ k ∷ ys) ≡ Some r → (q : State) × (walk s xs ≡ Some (Advance q))
walk_front [] k ys (Advance q) r e = (q, refl)
walk_front (x ∷ xs) k ys (Advance q) r e =
    let b = bind_some (step q x) (λ s. walk s (xs ++ k ∷ ys)) r e in
    let f = walk_front xs k ys b.0 r b.2 in
    (f.0, stepped q x xs b.0 (Advance f.0) b.1 f.1)
walk_front [] k ys (Accept a) r e = absurd cc
walk_front (x ∷ xs) k ys (Accept a) r e = absurd cc

-- `Leads ts line`: the tokens `ts` lead to a state within the statement that begins on the line
-- `line`
pub record Leads (ts : List Token) (line : ℕ) : Type 0 where
  pub state : State
  pub done : List Stmt
  pub runs : transition_of_tokens Start ts ≡ Some (InStatement line state, done)

-- the first tokens of a statement lead to a position within it
phrase_leads : (t : Token) (b : List Token) (m : Token) (ms : List Token) (p : ScriptState) (a : Action) → IsBetweenStatements p → IsStatement (token_kinds ((t ∷ b) ++ m ∷ ms)) a
    → (r : State) × (transition_of_tokens p (t ∷ b) ≡ Some (InStatement t.line r, []))
phrase_leads t b m ms p a rests st =
    let w = statement_walks (token_kinds ((t ∷ b) ++ m ∷ ms)) a st in
    let parts = w.parts in
    let others : token_kinds (b ++ m ∷ ms) ≡ w.rest = cc in
    let all = ap (walk (Advance (AfterName w.name))) (sym (token_kinds-append b (m ∷ ms)) ∙ others) ∙ w.ends in
    let f = walk_front (token_kinds b) m.kind (token_kinds ms) (Advance (AfterName w.name)) (Accept a) all in
    (f.0, named_runs t b p w.name (Advance f.0) rests (cc) f.1)

leads : (ts : List Token) (g : ScriptFault) (u : HasUnfinishedStatement ts g) → ((stmts : List Stmt) → Script ts stmts → ⊥) → (begun more : List Token) → u.begun ≡ begun → u.more ≡ more → Leads ts (first_token_line begun)
leads ts g u never [] more none is =
    absurd (never u.stmts (let e : u.whole ≡ ts = sym (append-nil u.whole) ∙ sym (u.parts ∙ ap (λ (xs : List Token). u.whole ++ xs) none) in subst (λ (xs : List Token). Script xs u.stmts) e u.script))
leads ts g u never (t ∷ b) [] begun is =
    let st : IsStatement (token_kinds u.begun) u.action = subst (λ (xs : List Token). IsStatement (token_kinds xs) u.action) (ap (λ (xs : List Token). u.begun ++ xs) is ∙ append-nil u.begun) u.statement in
    absurd (never (u.stmts ++ statement_of_tokens u.begun u.action ∷ []) (subst (λ (xs : List Token). Script xs (u.stmts ++ statement_of_tokens u.begun u.action ∷ [])) (sym u.parts)
    (Script-append u.whole u.begun u.stmts (statement_of_tokens u.begun u.action ∷ []) u.script (one_stmt u.begun u.action st))))
leads ts g u never (t ∷ b) (m ∷ ms) begun is =
    let s = script_runs u.whole u.stmts u.script Start tt in
    let st : IsStatement (token_kinds ((t ∷ b) ++ m ∷ ms)) u.action = rw (begun, is) at u.statement in
    let r = phrase_leads t b m ms s.place u.action s.rests st in
    let all : transition_of_tokens Start (u.whole ++ t ∷ b) ≡ Some (InStatement t.line r.0, u.stmts ++ []) = transition_of_tokens-append u.whole Start s.place (t ∷ b) u.stmts s.runs ∙ ap (option_map (joined u.stmts)) r.1 in
    let whole : ts ≡ u.whole ++ t ∷ b = u.parts ∙ ap (λ (xs : List Token). u.whole ++ xs) begun in
    record { state = r.0; done = u.stmts ++ []; runs = ap (transition_of_tokens Start) whole ∙ all }

line_of : Option (ScriptState × List Stmt) → ℕ
line_of (Some (InStatement line q, done)) = line
line_of _ = 0

two_unfinished : (ts : List Token) (f g : ScriptFault) → ((stmts : List Stmt) → Script ts stmts → ⊥) → HasUnfinishedStatement ts f → HasUnfinishedStatement ts g → f ≡ g
unfolding line_of
two_unfinished ts f g never u v =
    let x = leads ts f u never u.begun u.more refl refl in
    let y = leads ts g v never v.begun v.more refl refl in
    let same : first_token_line u.begun ≡ first_token_line v.begun = ap line_of (sym x.runs ∙ y.runs) in
    u.is ∙ ap (end_fault (last (open_bracket_lines [] ts))) same ∙ sym v.is

pub one_fault : (ts : List Token) (f g : ScriptFault) → IsFaultOf ts f → IsFaultOf ts g → f ≡ g
one_fault ts f g x y =
    elim x.is [
      | inl m ↦ elim y.is [ inl n ↦ two_misfits ts f g m n | inr v ↦ absurd (misfit_unfinished ts f g m v) ]
      | inr u ↦ elim y.is [ inl n ↦ absurd (misfit_unfinished ts g f n u) | inr v ↦ two_unfinished ts f g x.no_script u v ]
    ]
