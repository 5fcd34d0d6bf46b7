-- Lemmas on one round, poll by poll.
use Rattle.std.proofs.Common.{◌≡◌, ℕ, zero, suc, ◌+◌, ◌<◌, List, [], ◌∷◌, ◌++◌, length, take, Bool, Result, refl, sym, ◌∙◌, ap, add-one, append_assoc, append-nil}
use Rattle.kt_child.proofs.Common.{set, take_more, Child, All, All-get_or, slice_get-get_or, Outcome, ChildState, OsFault, PollCounts, ChildProgress, StillRunning, RunningChild, Chain, Call, child_of, poll_calls, progress_after_poll, counts_after_running, IsRunningChild, PollsAll, PollsUntil, child_after_running, children_after_running}
use Rattle.std.proofs.Math.ListN.{get_or}
use Rattle.std.proofs.lemmas.List.{get_or_default}
use Rattle.kt_child.specs.declared.polling.ChildProgress.TheVariants.{Ended}
use Rattle.kt_child.proofs.Chains.{chain_append}
use Rattle.kt_child.proofs.Outcomes.{ends_so}

-- A child that was not polled yet is unchanged.
pub watched_at : (i : ℕ) (s : List RunningChild) (d : RunningChild) → get_or (children_after_running i s) i d ≡ get_or s i d
watched_at zero s d = refl
watched_at (suc i) [] d = refl
watched_at (suc i) (k ∷ s) d = watched_at i s d

-- Advancing the child at index `i` after the first `i` children advances one more.
set_next : (i : ℕ) (s : List RunningChild) (d : RunningChild) → set (children_after_running i s) i (child_after_running (get_or s i d)) ≡ children_after_running (suc i) s
set_next zero [] d = refl
set_next zero (k ∷ s) d = refl
set_next (suc i) [] d = refl
set_next (suc i) (k ∷ s) d = ap (λ t. child_after_running k ∷ t) (set_next i s d)

-- `OnePoll leads now new turn name k`: one poll of the child `k` with the name `name` takes the
-- system from `now` to `new`. `turn` is the child's state after it. `leads` is the relation of the
-- system's calls.
abbrev pub OnePoll : {O : Type 0} → (O → Call → O → Type 0) → O → O → ChildProgress → Child → RunningChild → Type 0
OnePoll leads now new turn name k =
    (answer : Result ChildState OsFault) × (done : Bool)
    × Chain leads now (poll_calls name k.limit k.counts answer done) new
    × (turn ≡ progress_after_poll k.limit k.counts answer done)

-- A poll of one more child, after which it still runs, extends a round.
polled_snoc : (ks : List RunningChild) (k : RunningChild) (xs : List Call) (answer : Result ChildState OsFault) (done : Bool)
    → PollsAll ks xs → StillRunning ≡ progress_after_poll k.limit k.counts answer done
    → PollsAll (ks ++ k ∷ []) (xs ++ poll_calls (child_of k.case) k.limit k.counts answer done)
polled_snoc [] k xs answer done h e =
    let ys : List Call = poll_calls (child_of k.case) k.limit k.counts answer done in
    (answer, done, [], ap (λ t. t ++ ys) h ∙ sym (append-nil ys), sym e, refl)
polled_snoc (j ∷ ks) k xs answer done (a, d, more, eq, went, rest) e =
    let ys : List Call = poll_calls (child_of k.case) k.limit k.counts answer done in (
      a,
      d,
      more ++ ys,
      ap (λ t. t ++ ys) eq ∙ append_assoc (poll_calls (child_of j.case) j.limit j.counts a d) more ys,
      went,
      polled_snoc ks k more answer done rest e,
    )

-- For a round over the children of `init`, at the index `i`.
module _ (init children : List RunningChild) (i : ℕ) (d : RunningChild) (lt : i < length init) (e : children ≡ children_after_running i init) where
  -- A poll of the next child, after which it still runs, extends the calls of the round.
  pub step_more : {O : Type 0} (leads : O → Call → O → Type 0) (start now new : O) (name : Child) → name ≡ child_of (get_or children i d).case
      → (calls : List Call) × Chain leads start calls now × PollsAll (take i init) calls
      → OnePoll leads now new StillRunning name (get_or children i d)
      → (calls : List Call) × Chain leads start calls new × PollsAll (take (i + 1) init) calls
  step_more leads start now new name n (calls, chain, polled) one =
      let k = get_or init i d in
      let o = rw (n, e, watched_at i init d) at one in
      let ys = poll_calls (child_of k.case) k.limit k.counts o.0 o.1 in
      let both = chain_append leads start now new calls ys chain o.2 in
      (calls ++ ys, both, rw (take_more init i d lt) (polled_snoc (take i init) k calls o.0 o.1 polled o.3))

  -- A poll of the next child with which it finishes ends the round.
  pub step_over : {O : Type 0} (leads : O → Call → O → Type 0) (start now new : O) (name : Child) → name ≡ child_of (get_or children i d).case
      → (outcome : Outcome) → All IsRunningChild init
      → (calls : List Call) × Chain leads start calls now × PollsAll (take i init) calls
      → OnePoll leads now new (Ended outcome) name (get_or children i d)
      → (calls : List Call) × Chain leads start calls new × PollsUntil init i calls outcome
  step_over leads start now new name n outcome on (calls, chain, polled) one =
      let k = get_or init i d in
      let o = rw (n, e, watched_at i init d) at one in
      let ys = poll_calls (child_of k.case) k.limit k.counts o.0 o.1 in
      let yields = ends_so k.limit k.counts o.0 o.1 outcome (All-get_or IsRunningChild init i d lt on).0 (sym o.3) in
      let both = chain_append leads start now new calls ys chain o.2 in
      (calls ++ ys, both, (calls, ys, refl, polled, rw (slice_get-get_or init i d lt) (o.0, o.1, refl, sym o.3, yields)))

  -- The child at index `i` doesn't depend on the default element.
  pub same_at : (f : RunningChild) → get_or children i d ≡ get_or children i f
  same_at f = rw (e, watched_at i init d, watched_at i init f) (get_or_default init i d f lt)

  -- Storing the poll counts of the next child advances it.
  pub step_set : (f : RunningChild) (w : PollCounts) → w ≡ counts_after_running (get_or children i d).limit (get_or children i d).counts
      → set children i (record { case = (get_or children i f).case; limit = (get_or children i f).limit; counts = w }) ≡ children_after_running (i + 1) init
  step_set f w g = rw (g, same_at f, e, watched_at i init f, add-one i) (set_next i init f)

  -- The child at index `i` is running.
  pub on_at : All IsRunningChild init → IsRunningChild (get_or children i d)
  on_at h = rw (e, watched_at i init d) (All-get_or IsRunningChild init i d lt h)
