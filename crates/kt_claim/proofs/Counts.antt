-- The lines before the first bail out, and their counts.
use Rattle.std.proofs.Common.{◌≡◌, ℕ, ◌+◌, ◌≤◌, Bool, true, false, cond, List, [], ◌∷◌, ◌++◌, length, Option, Some, None, Result, Ok, Err, refl, ap, sym, ◌∙◌, arith, ◌&&◌, ◌||◌, is_some, IfOk, codes}
use Rattle.kt_claim.proofs.Common.{list_any, filter, filter_map, cons_option, chars, false≢true, option_or, is_bail_out, plan, count, lines_before_bail_out, skip_reason, one_if, first_item, has_second}
use Rattle.std.proofs.Math.Bool.{or-false, or_assoc}
use Rattle.std.proofs.lemmas.Bool.{or_parts}

pub no_reason : chars (codes "No reason given") ≡ codes "No reason given"
unfolding chars
no_reason = refl

pub given : {E : Type 0} (r : Result (List ℕ) E) (reason : List ℕ) → length reason ≡ 0 → IfOk r (λ t. t ≡ chars (codes "No reason given")) → IfOk r (λ t. t ≡ skip_reason reason)
given (Ok t) [] e h = h ∙ no_reason
given (Ok t) (b ∷ reason) e h = absurd (omega (arith, e))
given (Err x) reason e h = tt

-- ---- the lines before the first bail out

pub any-snoc : (p : List ℕ → Bool) (xs : List (List ℕ)) (x : List ℕ) → list_any p (xs ++ x ∷ []) ≡ (list_any p xs || p x)
any-snoc p [] x = or-false (p x)
any-snoc p (y ∷ xs) x = ap (λ (b : Bool). p y || b) (any-snoc p xs x) ∙ sym (or_assoc (p y) (list_any p xs) (p x))

pub stops_at : (t : Bool) (y x : List ℕ) (ys : List (List ℕ)) → is_bail_out y ≡ t → (list_any is_bail_out ys ≡ true → lines_before_bail_out (ys ++ x ∷ []) ≡ lines_before_bail_out ys)
    → (t || list_any is_bail_out ys) ≡ true → lines_before_bail_out ((y ∷ ys) ++ x ∷ []) ≡ lines_before_bail_out (y ∷ ys)
stops_at true y x ys is so_far h = rw is refl
stops_at false y x ys is so_far h = rw is (ap (λ (zs : List (List ℕ)). y ∷ zs) (so_far h))

-- A line after a bail out doesn't count.
pub heard_none : (ys : List (List ℕ)) (x : List ℕ) → list_any is_bail_out ys ≡ true → lines_before_bail_out (ys ++ x ∷ []) ≡ lines_before_bail_out ys
heard_none [] x h = absurd (false≢true h)
heard_none (y ∷ ys) x h = stops_at (is_bail_out y) y x ys refl (heard_none ys x) h

pub heard_bail : (ys : List (List ℕ)) (x : List ℕ) → list_any is_bail_out ys ≡ false → is_bail_out x ≡ true → lines_before_bail_out (ys ++ x ∷ []) ≡ lines_before_bail_out ys
heard_bail [] x none is = rw is refl
heard_bail (y ∷ ys) x none is =
    rw (or_parts (is_bail_out y) (list_any is_bail_out ys) none).0 (ap (λ (zs : List (List ℕ)). y ∷ zs) (heard_bail ys x (or_parts (is_bail_out y) (list_any is_bail_out ys) none).1 is))

pub heard_more : (ys : List (List ℕ)) (x : List ℕ) → list_any is_bail_out ys ≡ false → is_bail_out x ≡ false → lines_before_bail_out (ys ++ x ∷ []) ≡ lines_before_bail_out ys ++ x ∷ []
heard_more [] x none isnt = rw isnt refl
heard_more (y ∷ ys) x none isnt =
    rw (or_parts (is_bail_out y) (list_any is_bail_out ys) none).0 (ap (λ (zs : List (List ℕ)). y ∷ zs) (heard_more ys x (or_parts (is_bail_out y) (list_any is_bail_out ys) none).1 isnt))

pub lines_before_bail_out-le : (ys : List (List ℕ)) → length (lines_before_bail_out ys) ≤ length ys
lines_before_bail_out-le [] = omega arith
lines_before_bail_out-le (y ∷ ys) = omega (arith, lines_before_bail_out-le ys, cut (is_bail_out y) y (lines_before_bail_out ys)) where
  cut : (t : Bool) (y : List ℕ) (zs : List (List ℕ)) → length (cond t [] (y ∷ zs)) ≤ 1 + length zs
  cut true y zs = omega arith
  cut false y zs = omega arith

-- ---- counts

pub counted_by : (b : Bool) (y : List ℕ) (ys : List (List ℕ)) → length (cond b (y ∷ ys) ys) ≡ one_if b + length ys
counted_by true y ys = omega arith
counted_by false y ys = omega arith

pub count-snoc : (p : List ℕ → Bool) (xs : List (List ℕ)) (x : List ℕ) → count p (xs ++ x ∷ []) ≡ count p xs + one_if (p x)
count-snoc p [] x = omega (arith, counted_by (p x) x [])
count-snoc p (y ∷ xs) x = omega (arith, counted_by (p y) y (filter p (xs ++ x ∷ [])), counted_by (p y) y (filter p xs), count-snoc p xs x)

pub one_if-le : (b : Bool) → one_if b ≤ 1
one_if-le true = omega arith
one_if-le false = omega arith

pub count-le : (p : List ℕ → Bool) (xs : List (List ℕ)) → count p xs ≤ length xs
count-le p [] = omega arith
count-le p (y ∷ xs) = omega (arith, counted_by (p y) y (filter p xs), count-le p xs, one_if-le (p y))

pub joined : (o : Option (ℕ × List ℕ)) (xs ys : List (ℕ × List ℕ)) → cons_option o (xs ++ ys) ≡ cons_option o xs ++ ys
joined None xs ys = refl
joined (Some x) xs ys = refl

pub plans-snoc : (xs : List (List ℕ)) (x : List ℕ) → filter_map plan (xs ++ x ∷ []) ≡ filter_map plan xs ++ cons_option (plan x) []
plans-snoc [] x = refl
plans-snoc (y ∷ xs) x = ap (cons_option (plan y)) (plans-snoc xs x) ∙ joined (plan y) (filter_map plan xs) (cons_option (plan x) [])

pub first_item-snoc : (xs : List (ℕ × List ℕ)) (o : Option (ℕ × List ℕ)) → first_item (xs ++ cons_option o []) ≡ option_or (first_item xs) o
first_item-snoc [] None = refl
first_item-snoc [] (Some x) = refl
first_item-snoc (y ∷ xs) o = refl

pub second-snoc : (xs : List (ℕ × List ℕ)) (o : Option (ℕ × List ℕ)) → has_second (xs ++ cons_option o []) ≡ (has_second xs || (is_some (first_item xs) && is_some o))
second-snoc [] None = refl
second-snoc [] (Some x) = refl
second-snoc (y ∷ []) None = refl
second-snoc (y ∷ []) (Some x) = refl
second-snoc (y ∷ z ∷ xs) o = refl
