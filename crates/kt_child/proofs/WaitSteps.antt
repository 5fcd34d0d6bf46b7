-- Lemmas on a sequence of whole rounds.
use Rattle.std.proofs.Common.{◌≡◌, ℕ, ◌+◌, ◌*◌, ◌-◌, List, [], ◌∷◌, ◌++◌, length, map, Bool, refl, ap, append_assoc}
use Rattle.kt_child.proofs.Common.{Outcome, RunningChild, Chain, Call, Pause, PollsAll, PollsUntil, PollsInRounds, child_after_running, children_after_running, last_round, whole_round}
use Rattle.kt_child.proofs.Chains.{chain_append}

-- `polls_left k`: the number of polls until the child `k` has finished at the latest.
abbrev polls_left : RunningChild → ℕ
polls_left k = (100 * k.limit - k.counts.before) + (500 - k.counts.after)

-- `first_left children`: the number of polls that the first of `children` has left, or 0 without
-- children.
abbrev pub first_left : List RunningChild → ℕ
first_left [] = 0
first_left (k ∷ s) = polls_left k

-- Advancing all children one by one is a whole round.
pub all_advanced : (s : List RunningChild) → children_after_running (length s) s ≡ map child_after_running s
all_advanced [] = refl
all_advanced (k ∷ s) = ap (λ t. child_after_running k ∷ t) (all_advanced s)

-- `Waiting leads start init now children`: some calls take the system from `start` to `now`. A wait
-- of `children` after these calls is, together with them, a wait of `init`. `leads` is the relation
-- of the system's calls.
abbrev pub Waiting : {O : Type 0} → (O → Call → O → Type 0) → O → List RunningChild → O → List RunningChild → Type 0
Waiting leads start init now children =
    (calls : List Call) × Chain leads start calls now
    × ((more : List Call) (place : ℕ) (outcome : Outcome) (after : List RunningChild) → PollsInRounds children more place outcome after → PollsInRounds init (calls ++ more) place outcome after)

-- A round without a finished child, and a pause, extend the wait.
pub waiting_more : {O : Type 0} (leads : O → Call → O → Type 0) (start now mid new : O) (init children : List RunningChild) (d : Bool)
    → Waiting leads start init now children
    → (calls : List Call) × Chain leads now calls mid × PollsAll children calls
    → leads mid (Pause d) new
    → Waiting leads start init new (children_after_running (length children) children)
waiting_more leads start now mid new init children d (calls, chain, on) (ys, chain', polled) paused = (
  calls ++ (ys ++ Pause d ∷ []),
  chain_append leads start now new calls (ys ++ Pause d ∷ []) chain
      (chain_append leads now mid new ys (Pause d ∷ []) chain' (new, paused, refl)),
  λ more place outcome after waited.
      rw (append_assoc, append_assoc)
      (on (ys ++ Pause d ∷ more) place outcome after
      (whole_round children after ys more d place outcome polled (rw (all_advanced children) at waited))),
)

-- A round with a finished child completes the wait.
pub waiting_over : {O : Type 0} (leads : O → Call → O → Type 0) (start now new : O) (init children last : List RunningChild) (place : ℕ) (outcome : Outcome)
    → Waiting leads start init now children
    → (calls : List Call) × Chain leads now calls new × PollsUntil children place calls outcome
    → last ≡ children_after_running place children
    → (calls : List Call) × Chain leads start calls new × PollsInRounds init calls place outcome last
waiting_over leads start now new init children last place outcome (calls, chain, on) (ys, chain', until) f =
    rw f (calls ++ ys, chain_append leads start now new calls ys chain chain', on ys place outcome _ (last_round children ys place outcome until))
