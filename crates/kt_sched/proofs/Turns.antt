-- The turn order, which has each case once and exclusive cases last, and one more event.
use Rattle.kt_sched.proofs.Common.{ne_eqb, nat_tests, ◌⊎◌, slice_get, count_by, filter, Some, not, ◌==◌, ◌≡◌, ◌≢◌, ℕ, ◌+◌, ◌<◌, ◌≤◌, Bool, true, false, cond, List, length, refl, ◌∙◌, ap, arith, inl, inr, false_from_ne_true, sum_by-filter_both, cases_eq, slice_get_within, Job, turns, None, is_none, map, ◌&&◌, [], ◌∷◌, ◌++◌, sym, map-append, Event, Trace, Then, position_of, events_of, event_count, kind_of_event, history, is_whole, has_whole_history, ScheduledPut, scheduled_puts, puts_scheduled_at, jobs_finished_by, is_put_allowed, was_put_allowed, recorded, IsPlan, positions}
use Rattle.kt_sched.proofs.Lists.{counted_one, counted_some, count_by-append, counted_only, counted_two, filter_in, in_append, pick, filter_only}
use Rattle.kt_base.proofs.Lists.{same_number}

-- `Placed plan`: each job of `plan` is at its position.
abbrev pub Placed : List Job → Type 0
Placed plan = (i : ℕ) (job : Job) → slice_get plan i ≡ Some job → job.position ≡ i

abbrev ordinary : List Job → List Job
ordinary plan = filter (λ (job : Job). not job.exclusive) plan

abbrev lonely : List Job → List Job
lonely plan = filter (λ (job : Job). job.exclusive) plan

-- A case of the turn order is in the plan, and is ordinary or comes after all ordinary cases.
place_in : (plan : List Job) (k : ℕ) (job : Job) → slice_get (turns plan) k ≡ Some job → ((i : ℕ) × (slice_get plan i ≡ Some job))
    × (((k < length (ordinary plan)) × (job.exclusive ≡ false)) ⊎ ((length (ordinary plan) ≤ k) × (job.exclusive ≡ true)))
place_in plan k job g = elim (in_append (ordinary plan) (lonely plan) k job g) [
  | inl x ↦ let w = filter_in (λ (job : Job). not job.exclusive) plan k job x in
      ((w.0, w.1), inl (slice_get_within (ordinary plan) k job x, false_from_ne_true job.exclusive (λ e. cc (ap not e, w.2))))
  | inr x ↦ let w = filter_in (λ (job : Job). job.exclusive) plan x.0 job x.2 in ((w.0, w.1), inr (omega (arith, x.1), w.2))
]

pub turn_inside : (plan : List Job) → Placed plan → (k : ℕ) (job : Job) → slice_get (turns plan) k ≡ Some job → slice_get plan job.position ≡ Some job
turn_inside plan h k job g = let w = (place_in plan k job g).0 in ap (slice_get plan) (h w.0 job w.1) ∙ w.1

-- After an exclusive case, only exclusive cases follow in the turn order.
pub turn_sorted : (plan : List Job) (k l : ℕ) (a b : Job) → slice_get (turns plan) k ≡ Some a → slice_get (turns plan) l ≡ Some b → k ≤ l → a.exclusive ≡ true
    → b.exclusive ≡ true
turn_sorted plan k l a b g h le e = elim (place_in plan l b h).1 [
  | inr y ↦ y.1
  | inl y ↦ elim (place_in plan k a g).1 [ inl x ↦ absurd (cc (e, x.1)) | inr x ↦ absurd (omega (arith, x.0, y.0, le)) ]
]

-- The turn order has each case of the plan once.
pub count_turns : (f : Job → Bool) (xs : List Job) → count_by f (turns xs) ≡ count_by f xs
count_turns f xs =
    let both : count_by f (lonely xs) + count_by f (ordinary xs) ≡ count_by f xs =
    sum_by-filter_both (λ (job : Job). job.exclusive) (λ (job : Job). not job.exclusive) (λ x. refl) (λ x. cond (f x) 1 0) xs in
    omega (arith, both, count_by-append f (ordinary xs) (lonely xs))

pub turn_distinct : (plan : List Job) → Placed plan → (k l : ℕ) (a b : Job) → slice_get (turns plan) k ≡ Some a → slice_get (turns plan) l ≡ Some b
    → a.position ≡ b.position → k ≡ l
turn_distinct plan h k l a b g j e = elim (cases_eq k l) [ inl q ↦ q | inr d ↦ absurd (omega (arith, two d, count_turns f plan, one)) ]
  where
    f : Job → Bool
    f job = job.position == b.position

    two : k ≢ l → 1 < count_by f (turns plan)
    two d = counted_two f (turns plan) k l a b g (ap (λ i. i == b.position) e ∙ same_number b.position) j (same_number b.position) d

    one : count_by f plan ≤ 1
    one =
        let place = turn_inside plan h l b j in
        counted_only f plan b.position b place (λ i job g d. ap (λ k. k == b.position) (h i job g) ∙ ne_eqb i b.position d)

pub turn_covers : (plan : List Job) → Placed plan → (i : ℕ) (job : Job) → slice_get plan i ≡ Some job → (k : ℕ) × (slice_get (turns plan) k ≡ Some job)
turn_covers plan h i job g =
    let f = λ (x : Job). x.position == job.position in
    let w = counted_some f (turns plan) (omega (arith, count_turns f plan, counted_one f plan i job g (same_number job.position))) in
    let e : w.1.position ≡ job.position = grind (arith, nat_tests, w.3) in
    (w.0, w.2 ∙ (sym (turn_inside plan h w.0 w.1 w.2) ∙ (ap (slice_get plan) (e ∙ h i job g) ∙ g)))

-- An event is added to the events of its case, and to the events of no other case.
pub of_same : (i : ℕ) (T : Trace) (e : Event) → position_of e ≡ i → events_of i (Then T e) ≡ events_of i T ++ e ∷ []
of_same i T e h = rw (h, same_number i) refl

pub of_other : (i k : ℕ) (T : Trace) (e : Event) → position_of e ≡ i → k ≢ i → events_of k (Then T e) ≡ events_of k T
of_other i k T e h n = rw (h, ne_eqb i k (λ q. n (sym q))) refl

-- An event is added to the history of its case, and to no other history.
pub history_same : (i : ℕ) (T : Trace) (e : Event) → position_of e ≡ i → history i (Then T e) ≡ history i T ++ kind_of_event e ∷ []
history_same i T e h = ap (map kind_of_event) (of_same i T e h) ∙ map-append kind_of_event (events_of i T) (e ∷ [])

pub history_other : (i k : ℕ) (T : Trace) (e : Event) → position_of e ≡ i → k ≢ i → history k (Then T e) ≡ history k T
history_other i k T e h n = ap (map kind_of_event) (of_other i k T e h n)

pub put_at_positions : (k : ℕ) (jobs : List Job) → map (λ (p : ScheduledPut). p.position) (puts_scheduled_at k jobs) ≡ positions jobs
put_at_positions k [] = refl
put_at_positions k (job ∷ jobs) = ap (λ xs. job.position ∷ xs) (put_at_positions k jobs)

-- `opens_now plan n T e job`: in the run of `plan` with the width `n`, the event `e` after the
-- events `T` opens the decided case of `job`: its entry may be put now.
abbrev pub opens_now : List Job → ℕ → Trace → Event → Job → Bool
opens_now plan n T e job = is_put_allowed plan n (Then T e) job && not (was_put_allowed plan n T job)

-- `finishes T e job`: the event `e` after the events `T` finishes the undecided case of `job`.
abbrev pub finishes : Trace → Event → Job → Bool
finishes T e job = job.position == position_of e && (is_none job.decided && (has_whole_history (Then T e) job && not (has_whole_history T job)))

-- An event adds the finished case and the opened cases to the record order.
pub recorded_more : (plan : List Job) (n : ℕ) (T : Trace) (e : Event)
    → recorded plan n (Then T e) ≡ recorded plan n T ++ (positions (jobs_finished_by plan T e) ++ positions (filter (opens_now plan n T e) (turns plan)))
recorded_more plan n T e =
    let k = event_count (Then T e) in
    let xs = jobs_finished_by plan T e in
    let ys = filter (opens_now plan n T e) (turns plan) in
    let f = λ (p : ScheduledPut). p.position in
    map-append f (scheduled_puts plan n T) (puts_scheduled_at k xs ++ puts_scheduled_at k ys)
    ∙ ap (λ zs. recorded plan n T ++ zs) (map-append f (puts_scheduled_at k xs) (puts_scheduled_at k ys)
    ∙ (ap (λ zs. zs ++ map f (puts_scheduled_at k ys)) (put_at_positions k xs) ∙ ap (λ zs. positions xs ++ zs) (put_at_positions k ys)))

-- An event finishes its undecided case if it makes the history of that case whole.
pub finished_is : {plan : List Job} (T : Trace) (e : Event) {job : Job} (b : Bool) → IsPlan plan → job.decided ≡ None
    → slice_get plan (position_of e) ≡ Some job
    → is_whole job (history (position_of e) T) ≡ false → is_whole job (history (position_of e) (Then T e)) ≡ b
    → positions (jobs_finished_by plan T e) ≡ pick b (position_of e) []
finished_is {plan} T e {job} b h d g w v =
    ap positions (filter_only (finishes T e) plan i job g (λ k j q n. rw (h.placed k j q, ne_eqb k i n) refl) ∙ ap (λ c. pick c job []) does)
    ∙ placed b
  where
    i : ℕ
    i = position_of e

    does : finishes T e job ≡ b
    does = grind (arith, nat_tests, h.placed i job g, ap is_none d)

    placed : (c : Bool) → positions (pick c job []) ≡ pick c i []
    placed c = grind (arith, h.placed i job g)
