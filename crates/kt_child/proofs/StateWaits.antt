-- Lemmas on the state after a start, after a wait, and after a pending case was removed.
use Rattle.std.proofs.Common.{◌≡◌, ℕ, suc, ◌+◌, ◌≤◌, List, ◌++◌, slice_get, take, drop, Bool, true, Some, refl, ◌∙◌, ap, subst, arith, ◌==◌, [], ◌∷◌, false, remove}
use Rattle.kt_child.proofs.Common.{Job, Paths, StartAnswer, case_of, child_timeout_seconds, new_running_child, state_after_start, All, All-append, All-take, All-drop, All-push, Role, Outcome, RunningChild, CaseAttempt, Ended, Chain, Call, IsChildrenState, IsRunningChild, count_at, count_in, one_if, PollsInRounds, IsEvidence, running_after_end, pending_after_end, ChildrenState, cases_of, is_among, pending_with, launcher_child, find_launcher_child, launcher_child_in, FinishesChild}
use Rattle.kt_sched.specs.Children.{Child as Shown, running_after_start}
use Rattle.kt_sched.specs.declared.job.StartAnswer.TheVariants.{Started as StartedAt, Refused as RefusedFor}
use Rattle.kt_child.proofs.CaseSteps.{Left, case_at, cases_remove, waited_cases}
use Rattle.kt_child.proofs.Chains.{chain_append}
use Rattle.kt_child.proofs.CaseCounts.{position, same_position, times_less, times_more, times_owed}
use Rattle.kt_child.proofs.OwedCases.{among_owed}
use Rattle.kt_child.proofs.ShownCases.{shown_append, shown_remove, shown_there}
use Rattle.kt_base.proofs.Lists.{same_number}
use Rattle.std.proofs.lemmas.List.{map-append}

-- A free position can be used once.
once_more : (b : Bool) (n m : ℕ) → (b ≡ true → n + m ≡ 0) → n + m ≤ 1 → n + one_if b + m ≤ 1
once_more true n m h p = let z : n + m ≡ 0 = h refl in omega arith
once_more false n m h p = omega arith

-- Appending a child appends its case.
pub cases_more : (ks : List RunningChild) (k : RunningChild) → cases_of (ks ++ k ∷ []) ≡ cases_of ks ++ k.case ∷ []
cases_more ks k = map-append (λ (x : RunningChild). x.case) ks (k ∷ [])

-- The invariant is true after a start at a free position.
pub state_started : (children children' : List RunningChild) (pending pending' : List CaseAttempt) (k : RunningChild)
    → IsChildrenState children pending → IsRunningChild k → count_at k.case.position (cases_of children) + count_at k.case.position pending ≡ 0
    → children' ≡ children ++ k ∷ [] → pending' ≡ pending → IsChildrenState children' pending'
state_started children children' pending pending' k b on free e f =
    rw (e, f) (record {
      on = All-push IsRunningChild children k b.on on;
      once = λ i.
          omega (
            arith,
            ap (count_at i) (cases_more children k),
            times_more position i (cases_of children) k.case,
            once_more (i == k.case.position) (count_at i (cases_of children)) (count_at i pending)
                (λ q. rw (same_position i k.case.position q) free) (b.once i),
          );
    })

-- The running children after a start are those that the scheduler's contract requires.
pub shown_started : (b : ChildrenState) (job : Job) (role : Role) (number : ℕ) (paths : Paths) (answer : StartAnswer) → count_in job.position b ≡ 0 → (k : ℕ) (r : Role)
    → launcher_child_in (state_after_start b (new_running_child (child_timeout_seconds job role) (case_of job role number paths)) answer) k r ≡ running_after_start (launcher_child_in b) job role answer k r
shown_started b job role number paths (RefusedFor cause) free k r = refl
shown_started b job role number paths (StartedAt moment) free k r =
    let c = case_of job role number paths in
    ap (λ t. find_launcher_child t k r) (cases_more b.children (new_running_child (child_timeout_seconds job role) c)) ∙ shown_append (cases_of b.children) c k r (omega (arith, free))

-- The invariant is true after a pending case was removed.
pub state_taken : (children : List RunningChild) (pending pending' : List CaseAttempt) (p : ℕ) (c : CaseAttempt)
    → IsChildrenState children pending → slice_get pending p ≡ Some c → pending' ≡ remove pending p → IsChildrenState children pending'
state_taken children pending pending' p c b at e =
    rw e (record { on = b.on; once = λ i. omega (arith, times_less position i pending p c at, b.once i) })

-- The position of a removed pending case is free.
pub free_taken : (cases pending : List CaseAttempt) (p : ℕ) (c : CaseAttempt) → ((i : ℕ) → count_at i cases + count_at i pending ≤ 1)
    → slice_get pending p ≡ Some c → count_at c.position cases + count_at c.position (remove pending p) ≡ 0
free_taken cases pending p c once at =
    omega (arith, times_less position c.position pending p c at, ap one_if (same_number c.position), once c.position)

-- The invariant is true after a child has finished.
pub state_after : (children after children' : List RunningChild) (pending pending' : List CaseAttempt) (p : ℕ) (k : RunningChild)
    → IsChildrenState children pending → cases_of after ≡ cases_of children → All IsRunningChild after → slice_get after p ≡ Some k
    → children' ≡ remove after p → pending' ≡ pending_with k.case pending → IsChildrenState children' pending'
state_after children after children' pending pending' p k b same on at e q =
    rw (e, q) (record {
      on = All-append IsRunningChild (take p after) (drop (suc p) after) (All-take IsRunningChild p after on) (All-drop IsRunningChild (suc p) after on);
      once = λ i.
          omega (
            arith,
            times_less position i (cases_of after) p k.case (case_at after p k at),
            times_owed position i pending k.case,
            b.once i,
            ap (count_at i) same,
            ap (count_at i) (cases_remove after p),
          );
    })

-- `Once b`: no two cases of `b` have the same position.
abbrev pub Once : ChildrenState → Type 0
Once b = (i : ℕ) → count_in i b ≤ 1

module _ (old new : ChildrenState) (calls : List Call) (e : Ended) (once : Once old) (w : Left old calls e new) where
  -- The finished child's position occurs once among the running children.
  few : count_at w.over.case.position (cases_of old.children) ≤ 1
  few = omega (arith, once w.over.case.position)

  -- The finished child was among the running children before the wait.
  over_shown : launcher_child_in old w.over.case.position w.over.case.role ≡ Some (launcher_child w.over.case)
  over_shown = shown_there (cases_of old.children) w.place w.over.case (waited_cases old new calls e w).1 few

  -- The returned end is that of a child that was running.
  pub waited_one : IsEvidence w.over.case.interface e.role e.evidence
      → (s : Shown) × (launcher_child_in old e.position e.role ≡ Some s) × IsEvidence s.interface e.role e.evidence
  waited_one fits = (launcher_child w.over.case, rw (w.left.8, w.left.9) over_shown, fits)

  -- The running children after a wait are those that the scheduler's contract requires.
  pub waited_running : (k : ℕ) (r : Role) → launcher_child_in new k r ≡ running_after_end (launcher_child_in old) e k r
  waited_running k r =
      let at = waited_cases old new calls e w in
      rw (w.left.8, w.left.9) (ap (λ t. find_launcher_child t k r) at.0 ∙ shown_remove (cases_of old.children) w.place w.over.case k r at.1 few)

  -- The pending cleanups after a wait are those that the scheduler's contract requires.
  pub waited_pending : (k : ℕ) → is_among new.pending k ≡ pending_after_end (launcher_child_in old) (is_among old.pending) e k
  waited_pending k =
      rw (w.left.8, w.left.9) (ap (λ t. is_among t k) w.pending ∙ among_owed (cases_of old.children) old.pending w.over.case k over_shown)

-- The polls and the calls after them are the calls of one wait.
pub waited_all : {O : Type 0} (leads : O → Call → O → Type 0) (a b d : O) (old new : ChildrenState) (children after : List RunningChild) (place : ℕ) (outcome : Outcome) (k : RunningChild) (e : Ended)
    → (calls : List Call) × Chain leads a calls b × PollsInRounds children calls place outcome after
    → (calls : List Call) × Chain leads b calls d × FinishesChild k.case calls outcome e
    → children ≡ old.children → slice_get after place ≡ Some k
    → new.children ≡ remove after place → new.pending ≡ pending_with k.case old.pending
    → (calls : List Call) × Chain leads a calls d × ((w : Left old calls e new) × (w.over ≡ k))
waited_all leads a b d old new children after place outcome k e (xs, p, w) (ys, q, l) same at f g =
    let P : List RunningChild → Type 0 = λ t. PollsInRounds t xs place outcome after in (
      xs ++ ys,
      chain_append leads a b d xs ys p q,
      (
        record {
          polls = xs;
          rest = ys;
          place = place;
          outcome = outcome;
          after = after;
          over = k;
          asked = refl;
          waited = subst P same w;
          there = at;
          left = l;
          children = f;
          pending = g;
        },
        refl,
      ),
    )
