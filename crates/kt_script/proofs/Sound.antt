-- The parser is sound: accepted tokens are a script, and no script continues with a rejected token.
use Rattle.std.proofs.Common.{◌≡◌, ℕ, List, [], ◌∷◌, ◌++◌, Option, Some, None, refl, ap, sym, ◌∙◌, subst, append_assoc, inl, inr, option_map}
use Rattle.kt_script.proofs.Common.{append-nil, Token, ScriptState, Start, AfterStatement, InStatement, Stmt, State, Script, fault_of, last, open_bracket_lines, end_fault, IsFaultOf, step, next, option_to_list, transition_of_tokens, IsBetweenStatements}
use Rattle.kt_script.proofs.Complete.{joined, transition_of_tokens-append, script_runs}
use Rattle.kt_script.proofs.Standing.{Stands, whole_script, from_start, finished, stands_begins}
use Rattle.std.proofs.lemmas.Option.{same_Some}

-- ---- theorems

resting_script : (p : ScriptState) (ss : List Stmt) (ts : List Token) → IsBetweenStatements p → Stands p ss ts → Script ts ss
resting_script Start ss ts r h = h
resting_script AfterStatement ss ts r h = whole_script ss ts h
resting_script (InStatement line q) ss ts r h = elim r [ ]

-- tokens that lead to a position between statements are a script of the collected statements
pub accepted : (ts : List Token) (p : ScriptState) (ss : List Stmt) → transition_of_tokens Start ts ≡ Some (p, ss) → IsBetweenStatements p → Script ts ss
accepted ts p ss e r = resting_script p ss ts r (from_start ts p ss e)

-- the tokens of a script lead to a position between statements, with its statements
pub only : (ts : List Token) (p : ScriptState) (ss rs : List Stmt) → transition_of_tokens Start ts ≡ Some (p, ss) → Script ts rs → IsBetweenStatements p × (rs ≡ ss)
only ts p ss rs e script =
    let s = script_runs ts rs script Start tt in
    let same : (s.place, rs) ≡ (p, ss) = same_Some (s.place, rs) (p, ss) (sym s.runs ∙ e) in
    let place : s.place ≡ p = ap (λ (x : ScriptState × List Stmt). x.0) same in
    (subst IsBetweenStatements place s.rests, ap (λ (x : ScriptState × List Stmt). x.1) same)

-- tokens are a script of at most one list of statements
pub one_script : (ts : List Token) (ss rs : List Stmt) → Script ts ss → Script ts rs → ss ≡ rs
one_script ts ss rs first second =
    let s = script_runs ts ss first Start tt in
    sym (only ts s.place ss rs s.runs second).1

-- no script continues with a token that has no transition
no_way_on : (front : List Token) (t : Token) (rest : List Token) (p : ScriptState) (ss rs : List Stmt) → transition_of_tokens Start front ≡ Some (p, ss) → next p t ≡ None
    → Script (front ++ t ∷ rest) rs → ⊥
no_way_on front t rest p ss rs e stuck script =
    let s = script_runs (front ++ t ∷ rest) rs script Start tt in
    let goes = transition_of_tokens-append front Start p (t ∷ rest) ss e in
    let none : transition_of_tokens p (t ∷ rest) ≡ None = rw stuck refl in
    let never : transition_of_tokens Start (front ++ t ∷ rest) ≡ None = goes ∙ ap (option_map (joined ss)) none in
    let both = sym s.runs ∙ never in
    cc

-- the fault of the first token without a transition is the fault of the tokens
pub misfit : (front : List Token) (t : Token) (rest : List Token) (p : ScriptState) (ss : List Stmt) → transition_of_tokens Start front ≡ Some (p, ss) → next p t ≡ None
    → IsFaultOf (front ++ t ∷ rest) (fault_of t)
misfit front t rest p ss e stuck = record {
  no_script = λ rs script. no_way_on front t rest p ss rs e stuck script;
  is = inl (record {
    front = front;
    token = t;
    rest = rest;
    parts = refl;
    begins = stands_begins p ss front (from_start front p ss e);
    unfit = λ b. let again : Script (front ++ t ∷ b.0) b.1 = rw append_assoc at b.2 in no_way_on front t b.0 p ss b.1 e stuck again;
    is = refl;
  });
}

-- tokens that end within a statement have the fault of their end
pub unfinished : (ts : List Token) (line : ℕ) (q : State) (ss : List Stmt) → transition_of_tokens Start ts ≡ Some (InStatement line q, ss)
    → IsFaultOf ts (end_fault (last (open_bracket_lines [] ts)) line)
unfinished ts line q ss e =
    let w = from_start ts (InStatement line q) ss e in
    let f = finished q ss ts w.0 in
    record {
      no_script = λ rs script. (only ts (InStatement line q) ss rs e script).0;
      is = inr (record {
        whole = w.0.before;
        begun = w.0.first ∷ w.0.others;
        parts = w.0.parts;
        stmts = ss;
        script = w.0.script;
        more = f.0;
        action = f.1;
        statement = f.2;
        is = ap (end_fault (last (open_bracket_lines [] ts))) (sym w.1);
      });
    }

-- `transition_of_tokens` over an appended token is the transition of that token
pub transition_of_tokens-push : (front : List Token) (t : Token) (p : ScriptState) (ss : List Stmt) (to : ScriptState × Option Stmt) → transition_of_tokens Start front ≡ Some (p, ss) → next p t ≡ Some to
    → transition_of_tokens Start (front ++ t ∷ []) ≡ Some (to.0, ss ++ option_to_list to.1)
transition_of_tokens-push front t p ss to e step =
    transition_of_tokens-append front Start p (t ∷ []) ss e ∙ rw (step, append-nil) refl
