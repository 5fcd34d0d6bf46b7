-- A poll extends a child's responses, or gives its outcome by the table of outcomes.
use Rattle.std.proofs.Common.{◌≡◌, ◌≢◌, ℕ, ◌+◌, ◌*◌, ◌<◌, ◌==◌, List, [], ◌∷◌, ◌++◌, Bool, true, false, Result, Ok, Err, Some, refl, sym, ◌∙◌, ap, arith, inl, inr, if◌then◌else◌, append_assoc, replicate}
use Rattle.std.proofs.lemmas.List.{replicate-append-replicate}
use Rattle.kt_child.proofs.Common.{nat_tests, Outcome, ChildState, OsFault, PollCounts, StillRunning, HasPollsLeft, AreRunningCounts, progress_after_poll, counts_after_running, responses_so_far, poll_responses, ChildResponse, KillResponse, Yields, YieldsAfterKill, running}
use Rattle.kt_base.specs.declared.child.Outcome.TheVariants.{Exited, Signaled, TimedOut, WaitFailed}
use Rattle.kt_os.specs.declared.system.ChildState.TheVariants.{Running, Exited as PolledExit, Signaled as PolledSignal}
use Rattle.kt_child.specs.declared.polling.ChildProgress.TheVariants.{Ended}

-- One more `running` response is appended.
once_more : (n : ℕ) → replicate (n + 1) running ≡ replicate n running ++ running ∷ []
once_more n = sym (replicate-append-replicate n 1 running)

-- If the test for the last poll is `true`, the numbers are equal.
tested : (a n : ℕ) → (a + 1 == n) ≡ true → a + 1 ≡ n
tested a n e = grind (arith, nat_tests)

-- If the test for the last poll is `false`, the next number is lower, too.
failed : (a n : ℕ) → (a + 1 == n) ≡ false → a < n → a + 1 < n
failed a n e lt = let d : a + 1 ≢ n = grind (arith, nat_tests) in omega arith

-- `killed_at b a`: the poll counts of a child after `b` polls, a kill, and `a` more polls.
abbrev killed_at : ℕ → ℕ → PollCounts
killed_at b a = record { before = b; killed = true; after = a }

-- `alive_at b`: the poll counts of a child before a kill, after `b` polls.
abbrev alive_at : ℕ → PollCounts
alive_at b = record { before = b; killed = false; after = 0 }

-- `Goes limit w answer done`: if the child still runs after a poll with the result `answer`, the
-- new poll counts represent the old responses and those of the poll. `limit` is its timeout in
-- seconds, `w` has the poll counts before the poll, and `done` is the result of the kill that may
-- follow.
abbrev Goes : ℕ → PollCounts → Result ChildState OsFault → Bool → Type 0
Goes limit w answer done =
    progress_after_poll limit w answer done ≡ StillRunning
    → (responses_so_far limit (counts_after_running limit w) ≡ responses_so_far limit w ++ poll_responses limit w answer done) × AreRunningCounts limit (counts_after_running limit w)

-- A poll of a killed child that still runs extends its responses.
goes_killed : (limit b a : ℕ) (answer : Result ChildState OsFault) (done : Bool) → a < 500 → Goes limit (killed_at b a) answer done
goes_killed limit b a (Ok Running) done lt e = by (a + 1 == 500) refl e
  where
    R : List ChildResponse
    R = replicate (100 * limit) running

    by : (t : Bool) → (a + 1 == 500) ≡ t → (if t then Ended WaitFailed else StillRunning) ≡ StillRunning
        → (R ++ KillResponse true ∷ replicate (a + 1) running ≡ (R ++ KillResponse true ∷ replicate a running) ++ running ∷ []) × (a + 1 < 500)
    by true t e = absurd (cc)
    by false t e =
        (ap (λ u. R ++ KillResponse true ∷ u) (once_more a) ∙ sym (append_assoc R (KillResponse true ∷ replicate a running) (running ∷ [])), failed a 500 t lt)
goes_killed limit b a answer done lt e = absurd (cc)

-- A poll of a child that was not killed and still runs extends its responses.
goes_alive : (limit b : ℕ) (answer : Result ChildState OsFault) (done : Bool) → b < 100 * limit → Goes limit (alive_at b) answer done
goes_alive limit b (Ok Running) done lt e = by (b + 1 == 100 * limit) refl done e
  where
    by : (t : Bool) → (b + 1 == 100 * limit) ≡ t → (d : Bool) → (if t then (if d then StillRunning else Ended WaitFailed) else StillRunning) ≡ StillRunning
        → (responses_so_far limit (record { before = b + 1; killed = t; after = 0 }) ≡ replicate b running ++ (if t then running ∷ KillResponse d ∷ [] else running ∷ []))
        × HasPollsLeft t limit (b + 1) 0
    by true t false e = absurd (cc)
    by true t true e = (
      ap (λ n. replicate n running ++ KillResponse true ∷ []) (sym (tested b (100 * limit) t)) ∙ ap (λ u. u ++ KillResponse true ∷ []) (once_more b)
          ∙ append_assoc (replicate b running) (running ∷ []) (KillResponse true ∷ []),
      omega arith,
    )
    by false t d e = (once_more b, (failed b (100 * limit) t lt, refl))
goes_alive limit b answer done lt e = absurd (cc)

-- `Tells limit w answer done o`: if a poll with the result `answer` ends the child with the outcome
-- `o`, then `o` follows from all responses (`Yields`). `limit` is its timeout in seconds, `w` has
-- the poll counts before the poll, and `done` is the result of the kill that may follow.
abbrev Tells : ℕ → PollCounts → Result ChildState OsFault → Bool → Outcome → Type 0
Tells limit w answer done o = progress_after_poll limit w answer done ≡ Ended o → Yields limit (responses_so_far limit w ++ poll_responses limit w answer done) o

-- Equal ends have equal outcomes.
same_end : (o p : Outcome) → Ended o ≡ Ended p → p ≡ o
same_end o p e = cc

-- The outcome of a last poll after a kill follows from the responses after the kill.
killed_rows : (limit b a : ℕ) (answer : Result ChildState OsFault) (done : Bool) (o : Outcome) → a < 500 → progress_after_poll limit (killed_at b a) answer done ≡ Ended o
    → YieldsAfterKill 500 (replicate a running ++ poll_responses limit (killed_at b a) answer done) o
killed_rows limit b a (Err f) done o lt e = inr (inr (a, f, done, lt, refl, same_end WaitFailed o e))
killed_rows limit b a (Ok (PolledExit c)) done o lt e = inl (a, PolledExit c, Exited c, lt, refl, refl, same_end TimedOut o e)
killed_rows limit b a (Ok (PolledSignal c x)) done o lt e = inl (a, PolledSignal c x, Signaled c x, lt, refl, refl, same_end TimedOut o e)
killed_rows limit b a (Ok Running) done o lt e = by (a + 1 == 500) refl e
  where
    by : (t : Bool) → (a + 1 == 500) ≡ t → (if t then Ended WaitFailed else StillRunning) ≡ Ended o → YieldsAfterKill 500 (replicate a running ++ running ∷ []) o
    by true t e = inr (inl (sym (once_more a) ∙ ap (λ n. replicate n running) (tested a 500 t), same_end WaitFailed o e))
    by false t e = absurd (cc)

-- The outcome of a last poll after a kill follows from all responses.
tells_killed : (limit b a : ℕ) (answer : Result ChildState OsFault) (done : Bool) (o : Outcome) → a < 500 → Tells limit (killed_at b a) answer done o
tells_killed limit b a answer done o lt e =
    let hs = poll_responses limit (killed_at b a) answer done in
    inr (inl (replicate a running ++ hs, append_assoc (replicate (100 * limit) running) (KillResponse true ∷ replicate a running) hs, killed_rows limit b a answer done o lt e))

-- The outcome of a last poll before a kill follows from all responses.
tells_alive : (limit b : ℕ) (answer : Result ChildState OsFault) (done : Bool) (o : Outcome) → b < 100 * limit → Tells limit (alive_at b) answer done o
tells_alive limit b (Err f) done o lt e = inr (inr (inr (b, f, done, lt, refl, same_end WaitFailed o e)))
tells_alive limit b (Ok (PolledExit c)) done o lt e = inl (b, PolledExit c, lt, ap (λ t. Some t) (sym (same_end (Exited c) o e)), refl)
tells_alive limit b (Ok (PolledSignal c x)) done o lt e = inl (b, PolledSignal c x, lt, ap (λ t. Some t) (sym (same_end (Signaled c x) o e)), refl)
tells_alive limit b (Ok Running) done o lt e = by (b + 1 == 100 * limit) refl done e
  where
    by : (t : Bool) → (b + 1 == 100 * limit) ≡ t → (d : Bool) → (if t then (if d then StillRunning else Ended WaitFailed) else StillRunning) ≡ Ended o
        → Yields limit (replicate b running ++ (if t then running ∷ KillResponse d ∷ [] else running ∷ [])) o
    by true t true e = absurd (cc)
    by true t false e =
        inr (inr (inl (
          sym (append_assoc (replicate b running) (running ∷ []) (KillResponse false ∷ [])) ∙ ap (λ u. u ++ KillResponse false ∷ []) (sym (once_more b))
              ∙ ap (λ n. replicate n running ++ KillResponse false ∷ []) (tested b (100 * limit) t),
          same_end WaitFailed o e,
        )))
    by false t d e = absurd (cc)

-- A property of all poll counts before a kill and of all after a kill is true of each running
-- child.
of_watch : (P : PollCounts → Type 0) (limit : ℕ)
    → ((b a : ℕ) → a < 500 → P (killed_at b a)) → ((b : ℕ) → b < 100 * limit → P (alive_at b)) → (w : PollCounts) → AreRunningCounts limit w → P w
of_watch P limit after before w is = by w.killed w.after is
  where
    by : (t : Bool) (a : ℕ) → HasPollsLeft t limit w.before a → P (record { before = w.before; killed = t; after = a })
    by true a lt = after w.before a lt
    by false a (lt, none) = rw none (before w.before lt)

-- A poll of a running child that still runs extends its responses.
pub goes_on : (limit : ℕ) (w : PollCounts) (answer : Result ChildState OsFault) (done : Bool) → AreRunningCounts limit w → Goes limit w answer done
goes_on limit w answer done =
    of_watch (λ v. Goes limit v answer done) limit (λ b a. goes_killed limit b a answer done) (λ b. goes_alive limit b answer done) w

-- The outcome of the last poll of a running child follows from all its responses.
pub ends_so : (limit : ℕ) (w : PollCounts) (answer : Result ChildState OsFault) (done : Bool) (o : Outcome) → AreRunningCounts limit w → Tells limit w answer done o
ends_so limit w answer done o =
    of_watch (λ v. Tells limit v answer done o) limit (λ b a. tells_killed limit b a answer done o) (λ b. tells_alive limit b answer done o) w
