-- A tally with one more line.
use Rattle.std.proofs.Common.{◌≡◌, ℕ, ◌+◌, ◌<◌, ◌^◌, Bool, true, false, List, [], ◌∷◌, ◌++◌, length, Option, Some, None, Result, Ok, Err, refl, ap, sym, subst, ◌∙◌, arith, ◌&&◌, ◌||◌, is_some, IfOk}
use Rattle.kt_claim.proofs.Common.{list_any, filter_map, append-nil, Facts, facts_of, no_facts, bail_out_facts, test_facts, plan_facts, option_or, is_bail_out, is_test, is_unexcused, plan, count, lines_before_bail_out, tap_of_lines, IsTally, one_if, first_item, has_second, with_plan, Tally}
use Rattle.kt_claim.proofs.Counts.{any-snoc, heard_none, heard_bail, heard_more, lines_before_bail_out-le, count-snoc, count-le, plans-snoc, first_item-snoc, second-snoc}
use Rattle.std.proofs.Math.Bool.{or-false}

-- ---- a tally and a line

-- A line that doesn't count leaves the tally as it is.
pub same_heard : (t : Tally) (ls ms : List (List ℕ)) → lines_before_bail_out ms ≡ lines_before_bail_out ls → t.bailed ≡ list_any is_bail_out ms
    → t.plan ≡ first_item (filter_map plan (lines_before_bail_out ls)) → t.second ≡ has_second (filter_map plan (lines_before_bail_out ls))
    → t.tests ≡ count is_test (lines_before_bail_out ls) → t.failures ≡ count is_unexcused (lines_before_bail_out ls) → IsTally t ms
same_heard t ls ms same bailed planned second tests failures = record {
  bailed = bailed;
  planned = planned ∙ ap (λ (zs : List (List ℕ)). first_item (filter_map plan zs)) (sym same);
  second = second ∙ ap (λ (zs : List (List ℕ)). has_second (filter_map plan zs)) (sym same);
  tests = tests ∙ ap (count is_test) (sym same);
  failures = failures ∙ ap (count is_unexcused) (sym same);
}

pub after_bail : (t : Tally) (line : List ℕ) (lines : List (List ℕ)) → t.bailed ≡ true → IsTally t lines → IsTally t (lines ++ line ∷ [])
after_bail t line lines bailed h =
    let any : list_any is_bail_out lines ≡ true = sym h.bailed ∙ bailed in
    same_heard t lines (lines ++ line ∷ []) (heard_none lines line any) (bailed ∙ ap (λ (b : Bool). b || is_bail_out line) (sym any) ∙ sym (any-snoc is_bail_out lines line))
    h.planned h.second h.tests h.failures

-- A line before the first bail out is added to the tally.
pub more_heard : (old new : Tally) (line : List ℕ) (lines : List (List ℕ)) → old.bailed ≡ false → is_bail_out line ≡ false → new.bailed ≡ false
    → new.plan ≡ option_or old.plan (plan line) → new.second ≡ (old.second || (is_some old.plan && is_some (plan line)))
    → new.tests ≡ old.tests + one_if (is_test line) → new.failures ≡ old.failures + one_if (is_unexcused line)
    → IsTally old lines → IsTally new (lines ++ line ∷ [])
more_heard old new line lines was isnt goes plans seconds tests failures h =
    let none : list_any is_bail_out lines ≡ false = sym h.bailed ∙ was in
    let more : lines_before_bail_out (lines ++ line ∷ []) ≡ lines_before_bail_out lines ++ line ∷ [] = heard_more lines line none isnt in
    record {
      bailed = goes ∙ sym (any-snoc is_bail_out lines line ∙ ap (λ (b : Bool). b || is_bail_out line) none ∙ isnt);
      planned = plans ∙ ap (λ (o : Option (ℕ × List ℕ)). option_or o (plan line)) h.planned ∙ sym (first_item-snoc (filter_map plan (lines_before_bail_out lines)) (plan line))
          ∙ sym (ap first_item (plans-snoc (lines_before_bail_out lines) line)) ∙ ap (λ (zs : List (List ℕ)). first_item (filter_map plan zs)) (sym more);
      second = seconds ∙ ap (λ (b : Bool). b || (is_some old.plan && is_some (plan line))) h.second
          ∙ ap (λ (o : Option (ℕ × List ℕ)). has_second (filter_map plan (lines_before_bail_out lines)) || (is_some o && is_some (plan line))) h.planned
          ∙ sym (second-snoc (filter_map plan (lines_before_bail_out lines)) (plan line)) ∙ sym (ap has_second (plans-snoc (lines_before_bail_out lines) line))
          ∙ ap (λ (zs : List (List ℕ)). has_second (filter_map plan zs)) (sym more);
      tests = tests ∙ ap (λ (n : ℕ). n + one_if (is_test line)) h.tests ∙ sym (count-snoc is_test (lines_before_bail_out lines) line) ∙ ap (count is_test) (sym more);
      failures = failures ∙ ap (λ (n : ℕ). n + one_if (is_unexcused line)) h.failures ∙ sym (count-snoc is_unexcused (lines_before_bail_out lines) line) ∙ ap (count is_unexcused) (sym more);
    }

pub few_tests : (t : Tally) (lines : List (List ℕ)) → length lines < 2 ^ 32 → IsTally t lines → t.tests < 2 ^ 32
few_tests t lines few h = omega (arith, h.tests, count-le is_test (lines_before_bail_out lines), lines_before_bail_out-le lines, few)

pub few_failures : (t : Tally) (lines : List (List ℕ)) → length lines < 2 ^ 32 → IsTally t lines → t.failures < 2 ^ 32
few_failures t lines few h = omega (arith, h.failures, count-le is_unexcused (lines_before_bail_out lines), lines_before_bail_out-le lines, few)

pub option_or_none : (o : Option (ℕ × List ℕ)) → o ≡ option_or o None
option_or_none None = refl
option_or_none (Some x) = refl

pub or_and_false : (a b : Bool) → a ≡ (a || (b && false))
or_and_false true b = refl
or_and_false false true = refl
or_and_false false false = refl

-- A line without a plan leaves the plan of the tally as it is.
pub no_plan : (old new : Tally) (line : List ℕ) (lines : List (List ℕ)) (tests fails : Bool) → facts_of line ≡ test_facts tests fails → old.bailed ≡ false → new.bailed ≡ false
    → new.plan ≡ old.plan → new.second ≡ old.second → new.tests ≡ old.tests + one_if tests → new.failures ≡ old.failures + one_if fails
    → IsTally old lines → IsTally new (lines ++ line ∷ [])
no_plan old new line lines tests fails is was goes plans seconds more worse h =
    let none : plan line ≡ None = ap (λ (f : Facts). f.plans) is in
    more_heard old new line lines was (ap (λ (f : Facts). f.bails) is) goes
    (plans ∙ option_or_none old.plan ∙ ap (option_or old.plan) (sym none))
    (seconds ∙ or_and_false old.second (is_some old.plan) ∙ ap (λ (o : Option (ℕ × List ℕ)). old.second || (is_some old.plan && is_some o)) (sym none))
    (more ∙ ap (λ (b : Bool). old.tests + one_if b) (sym (ap (λ (f : Facts). f.tests) is)))
    (worse ∙ ap (λ (b : Bool). old.failures + one_if b) (sym (ap (λ (f : Facts). f.fails) is))) h

pub with_other : (t : Tally) (line : List ℕ) (lines : List (List ℕ)) → facts_of line ≡ no_facts → t.bailed ≡ false → IsTally t lines → IsTally t (lines ++ line ∷ [])
with_other t line lines is was h = no_plan t t line lines false false is was was refl refl (omega arith) (omega arith) h

pub with_bail_out : (t new : Tally) (line : List ℕ) (lines : List (List ℕ)) → facts_of line ≡ bail_out_facts → t.bailed ≡ false → new ≡ record t { bailed = true }
    → IsTally t lines → IsTally new (lines ++ line ∷ [])
with_bail_out t new line lines is was made h =
    let none : list_any is_bail_out lines ≡ false = sym h.bailed ∙ was in
    let bails : is_bail_out line ≡ true = ap (λ (f : Facts). f.bails) is in
    rw made (same_heard (record t { bailed = true }) lines (lines ++ line ∷ []) (heard_bail lines line none bails)
    (sym (any-snoc is_bail_out lines line ∙ ap (λ (b : Bool). b || is_bail_out line) none ∙ bails)) h.planned h.second h.tests h.failures)

pub with_test : (t new : Tally) (line : List ℕ) (lines : List (List ℕ)) → facts_of line ≡ test_facts true false → t.bailed ≡ false
    → (t.tests < 2 ^ 32 → new ≡ record t { tests = t.tests + 1 }) → length lines < 2 ^ 32 → IsTally t lines → IsTally new (lines ++ line ∷ [])
with_test t new line lines is was made few h =
    rw (made (few_tests t lines few h)) (no_plan t (record t { tests = t.tests + 1 }) line lines true false is was was refl refl refl (omega arith) h)

pub with_failure : (t mid new : Tally) (line : List ℕ) (lines : List (List ℕ)) → facts_of line ≡ test_facts true true → t.bailed ≡ false
    → (t.tests < 2 ^ 32 → mid ≡ record t { tests = t.tests + 1 }) → (mid.failures < 2 ^ 32 → new ≡ record mid { failures = mid.failures + 1 })
    → length lines < 2 ^ 32 → IsTally t lines → IsTally new (lines ++ line ∷ [])
with_failure t mid new line lines is was halfway made few h =
    let there : mid ≡ record t { tests = t.tests + 1 } = halfway (few_tests t lines few h) in
    let whole : new ≡ record t { tests = t.tests + 1; failures = t.failures + 1 } =
    made (subst (λ (m : Tally). m.failures < 2 ^ 32) (sym there) (few_failures t lines few h)) ∙ ap (λ (m : Tally). record m { failures = m.failures + 1 }) there in
    rw whole (no_plan t (record t { tests = t.tests + 1; failures = t.failures + 1 }) line lines true true is was was refl refl refl refl h)

pub or_and_none : (a : Bool) (o found : Option (ℕ × List ℕ)) → o ≡ None → a ≡ (a || (is_some o && is_some found))
or_and_none a o found none = rw none (sym (or-false a))

pub or_and_some : (a : Bool) (o found : Option (ℕ × List ℕ)) (p q : ℕ × List ℕ) → o ≡ Some p → found ≡ Some q → true ≡ (a || (is_some o && is_some found))
or_and_some true o found p q is this = refl
or_and_some false o found p q is this = rw (is, this) refl

pub first_plan : (t : Tally) (n : ℕ) (reason : List ℕ) → is_some t.plan ≡ false → record t { plan = Some (n, reason) } ≡ with_plan t n reason
first_plan t n reason e = rw e refl

pub second_plan : (t : Tally) (n : ℕ) (reason : List ℕ) → is_some t.plan ≡ true → record t { second = true } ≡ with_plan t n reason
second_plan t n reason e = rw e refl

pub planned_at : (t : Tally) (o : Option (ℕ × List ℕ)) (line : List ℕ) (lines : List (List ℕ)) (n : ℕ) (reason : List ℕ) → t.plan ≡ o → facts_of line ≡ plan_facts (Some (n, reason)) → t.bailed ≡ false
    → IsTally t lines → IsTally (with_plan t n reason) (lines ++ line ∷ [])
planned_at t None line lines n reason has is was h =
    let this : plan line ≡ Some (n, reason) = ap (λ (f : Facts). f.plans) is in
    subst (λ (m : Tally). IsTally m (lines ++ line ∷ [])) (first_plan t n reason (ap is_some has))
    (more_heard t (record t { plan = Some (n, reason) }) line lines was (ap (λ (f : Facts). f.bails) is) was
    (sym (ap (λ (o : Option (ℕ × List ℕ)). option_or o (plan line)) has ∙ this))
    (or_and_none t.second t.plan (plan line) has)
    (omega (arith, ap one_if (ap (λ (f : Facts). f.tests) is)))
    (omega (arith, ap one_if (ap (λ (f : Facts). f.fails) is))) h)
planned_at t (Some p) line lines n reason has is was h =
    let this : plan line ≡ Some (n, reason) = ap (λ (f : Facts). f.plans) is in
    subst (λ (m : Tally). IsTally m (lines ++ line ∷ [])) (second_plan t n reason (ap is_some has))
    (more_heard t (record t { second = true }) line lines was (ap (λ (f : Facts). f.bails) is) was
    (has ∙ sym (ap (λ (o : Option (ℕ × List ℕ)). option_or o (plan line)) has))
    (or_and_some t.second t.plan (plan line) p (n, reason) has this)
    (omega (arith, ap one_if (ap (λ (f : Facts). f.tests) is)))
    (omega (arith, ap one_if (ap (λ (f : Facts). f.fails) is))) h)

pub with_one_plan : (t new : Tally) (line : List ℕ) (lines : List (List ℕ)) (n : ℕ) (reason : List ℕ) → facts_of line ≡ plan_facts (Some (n, reason)) → t.bailed ≡ false
    → new ≡ with_plan t n reason → IsTally t lines → IsTally new (lines ++ line ∷ [])
with_one_plan t new line lines n reason is was made h = subst (λ (m : Tally). IsTally m (lines ++ line ∷ [])) (sym made) (planned_at t t.plan line lines n reason refl is was h)

pub if_ok : {E : Type 0} (r : Result Tally E) (P Q : Tally → Type 0) → ((t : Tally) → P t → Q t) → IfOk r P → IfOk r Q
if_ok (Ok t) P Q f h = f t h
if_ok (Err e) P Q f h = tt

-- ---- an empty line at the end

pub quiet_at : (t : Bool) (lines : List (List ℕ)) → list_any is_bail_out lines ≡ t → tap_of_lines (lines ++ [] ∷ []) ≡ tap_of_lines lines
quiet_at true lines is = rw (any-snoc is_bail_out lines [], is) refl
quiet_at false lines is =
    let more : lines_before_bail_out (lines ++ [] ∷ []) ≡ lines_before_bail_out lines ++ [] ∷ [] = heard_more lines [] is refl in
    let plans : filter_map plan (lines_before_bail_out (lines ++ [] ∷ [])) ≡ filter_map plan (lines_before_bail_out lines) = ap (filter_map plan) more ∙ plans-snoc (lines_before_bail_out lines) [] ∙ append-nil (filter_map plan (lines_before_bail_out lines)) in
    let tests : count is_test (lines_before_bail_out (lines ++ [] ∷ [])) ≡ count is_test (lines_before_bail_out lines) = ap (count is_test) more ∙ count-snoc is_test (lines_before_bail_out lines) [] ∙ (omega arith) in
    let fails : count is_unexcused (lines_before_bail_out (lines ++ [] ∷ [])) ≡ count is_unexcused (lines_before_bail_out lines) = ap (count is_unexcused) more ∙ count-snoc is_unexcused (lines_before_bail_out lines) [] ∙ (omega arith) in
    rw (any-snoc is_bail_out lines [], is, plans, tests, fails) refl

pub quiet : (lines : List (List ℕ)) → tap_of_lines (lines ++ [] ∷ []) ≡ tap_of_lines lines
quiet lines = quiet_at (list_any is_bail_out lines) lines refl
