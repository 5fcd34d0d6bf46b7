-- Each text has exactly one result: its statements or its fault.
use Rattle.std.proofs.Common.{◌≡◌, ℕ, ◌≤◌, List, [], ◌∷◌, ◌++◌, length, Option, Some, None, Result, Ok, Err, refl, ap, sym, ◌∙◌, subst, append_assoc, arith, inl, inr, IfOk, IsUtf8}
use Rattle.kt_script.proofs.Common.{is_utf8, tokens, cases_lt, cases_Bool, false≢true, append-nil, IsUtf8-from_is_utf8, is_utf8-from_IsUtf8, ScriptFault, NoMemory, NotUtf8, TooLong, Token, ScriptState, Start, AfterStatement, InStatement, Stmt, Script, IfFault, IsFaultOf, fault_of, next, option_to_list, transition_of_tokens, script_length_limit, Spells, HasFault, ReturnsFault, IsResultOf}
use Rattle.kt_script.proofs.Sound.{accepted, misfit, unfinished, one_script, transition_of_tokens-push}
use Rattle.kt_script.proofs.OneFault.{one_fault}
use Rattle.kt_script.proofs.OneReading.{same_tokens}
use Rattle.kt_script.proofs.SomeReading.{some_reading}

-- ---- at most one result

pub two_due : (text : List ℕ) (f g : ScriptFault) → HasFault text f → HasFault text g → f ≡ g
two_due text f g (inl x) (inl y) = x.1 ∙ sym y.1
two_due text f g (inl x) (inr (inl y)) = absurd (omega arith)
two_due text f g (inl x) (inr (inr y)) = absurd (omega arith)
two_due text f g (inr (inl x)) (inl y) = absurd (omega arith)
two_due text f g (inr (inl x)) (inr (inl y)) = x.2 ∙ sym y.2
two_due text f g (inr (inl x)) (inr (inr y)) = absurd (x.1 y.1)
two_due text f g (inr (inr x)) (inl y) = absurd (omega arith)
two_due text f g (inr (inr x)) (inr (inl y)) = absurd (y.1 x.1)
two_due text f g (inr (inr x)) (inr (inr y)) =
    one_fault x.2 f g x.4 (subst (λ (ts : List Token). IsFaultOf ts g) (same_tokens text y.2 x.2 y.3 x.3) y.4)

pub not_both : (text : List ℕ) (stmts : List Stmt) (f : ScriptFault) → Spells text stmts → HasFault text f → ⊥
not_both text stmts f s (inl x) = omega (arith, s.short, x.0)
not_both text stmts f s (inr (inl x)) = x.1 s.utf8
not_both text stmts f s (inr (inr x)) =
    x.4.no_script stmts (subst (λ (ts : List Token). Script ts stmts) (same_tokens text s.tokens x.2 s.read x.3) s.script)

pub one_answer : (text : List ℕ) (a b : Result (List Stmt) ScriptFault) → IsResultOf text a → IsResultOf text b → a ≡ b
one_answer text (Ok x) (Ok y) p q =
    ap Ok (one_script p.tokens x y p.script (subst (λ (ts : List Token). Script ts y) (same_tokens text q.tokens p.tokens q.read p.read) q.script))
one_answer text (Ok x) (Err g) p q = absurd (not_both text x g p q)
one_answer text (Err f) (Ok y) p q = absurd (not_both text y f q p)
one_answer text (Err f) (Err g) p q = ap Err (two_due text f g p q)

-- `spelled d r`: the statements of the result `r`, or the statements `d` if `r` is a fault
abbrev spelled : List Stmt → Result (List Stmt) ScriptFault → List Stmt
spelled d (Ok stmts) = stmts
spelled d (Err fault) = d

pub two_spelled : (text : List ℕ) (a b : List Stmt) → Spells text a → Spells text b → a ≡ b
two_spelled text a b s t = ap (spelled a) (one_answer text (Ok a) (Ok b) s t)

-- ---- at least one result

-- `TokensGive ts r`: the result `r` consists of the statements of the tokens `ts`, or is their
-- fault
pub TokensGive : List Token → Result (List Stmt) ScriptFault → Type 0
TokensGive ts (Ok stmts) = Script ts stmts
TokensGive ts (Err fault) = IsFaultOf ts fault

at_end : (ts : List Token) (p : ScriptState) (ss : List Stmt) → transition_of_tokens Start ts ≡ Some (p, ss) → (a : Result (List Stmt) ScriptFault) × TokensGive ts a
unfolding TokensGive
at_end ts Start ss e = (Ok ss, accepted ts Start ss e tt)
at_end ts AfterStatement ss e = (Ok ss, accepted ts AfterStatement ss e tt)
at_end ts (InStatement line q) ss e = (Err _, unfinished ts line q ss e)

goes_through : (ts front : List Token) (p : ScriptState) (ss : List Stmt) → transition_of_tokens Start front ≡ Some (p, ss) → (a : Result (List Stmt) ScriptFault) × TokensGive (front ++ ts) a
unfolding TokensGive
goes_through [] front p ss e = at_end (front ++ []) p ss (ap (transition_of_tokens Start) (append-nil front) ∙ e)
goes_through (t ∷ ts) front p ss e = at_token t ts front p ss e (λ q rs h. goes_through ts (front ++ t ∷ []) q rs h) (next p t) refl
  where
    at_token : (t : Token) (ts front : List Token) (p : ScriptState) (ss : List Stmt) → transition_of_tokens Start front ≡ Some (p, ss)
        → ((q : ScriptState) (rs : List Stmt) → transition_of_tokens Start (front ++ t ∷ []) ≡ Some (q, rs) → (a : Result (List Stmt) ScriptFault) × TokensGive ((front ++ t ∷ []) ++ ts) a)
        → (o : Option (ScriptState × Option Stmt)) → next p t ≡ o → (a : Result (List Stmt) ScriptFault) × TokensGive (front ++ t ∷ ts) a
    at_token t ts front p ss e later None stuck = (Err (fault_of t), misfit front t ts p ss e stuck)
    at_token t ts front p ss e later (Some to) step =
        let h = later to.0 (ss ++ option_to_list to.1) (transition_of_tokens-push front t p ss to e step) in
        (h.0, subst (λ (xs : List Token). TokensGive xs h.0) (append_assoc front (t ∷ []) ts) h.1)

answer_of_tokens : (text : List ℕ) → length text ≤ script_length_limit → IsUtf8 text → (a : Result (List Stmt) ScriptFault) → TokensGive (tokens 1 0 text) a → IsResultOf text a
unfolding TokensGive
answer_of_tokens text short utf8 (Ok stmts) h = record { short = short; utf8 = utf8; tokens = tokens 1 0 text; read = some_reading 1 text; script = h }
answer_of_tokens text short utf8 (Err f) h = inr (inr (short, utf8, tokens 1 0 text, some_reading 1 text, h))

pub some_answer : (text : List ℕ) → (a : Result (List Stmt) ScriptFault) × IsResultOf text a
some_answer text =
    elim (cases_lt script_length_limit (length text)) [
      | inl long ↦ (Err TooLong, inl (long, refl))
      | inr short ↦ elim (cases_Bool (is_utf8 text)) [
        | inl utf8 ↦
            let u = IsUtf8-from_is_utf8 text utf8 in
            let h = goes_through (tokens 1 0 text) [] Start [] refl in
            (h.0, answer_of_tokens text short u h.0 h.1)
        | inr other ↦ (Err NotUtf8, inr (inl (short, λ u. false≢true (sym other ∙ is_utf8-from_IsUtf8 text u), refl)))
      ]
    ]

-- ---- rejected texts

pub refuses : (r : Result (List Stmt) ScriptFault) (text : List ℕ) → IfOk r (λ stmts. Spells text stmts) → IfFault r (λ f. HasFault text f) → (fault : ScriptFault) → HasFault text fault → ReturnsFault r fault
refuses (Ok stmts) text ok is fault due = not_both text stmts fault ok due
refuses (Err (NoMemory refusal)) text ok is fault due = tt
refuses (Err found) text ok is fault due = two_due text found fault is due
