-- Comparisons and casts of SQL values, and the results of the steps of a statement.
use Rattle.kt_store.proofs.Common.{Bool, Equal, Err, Greater, Int, Integer, Less, None, Null, Ok, Option, Result, Some, Value, ap, arith, cast, cond, false, inl, inr, ints, is_eq, nat_tests, option_map, pos, refl, true, unary, value_cmp, value_cmp-Int, ℕ, ℤ, ◌<◌, ◌==◌, ◌∙◌, ◌≡◌, ◌⊎◌}

pub below : (m n : ℕ) → m < n → value_cmp (Int (pos m)) (Int (pos n)) ≡ Less
below m n h = value_cmp-Int (pos m) (pos n) ∙ grind (arith, ints, nat_tests)

pub above : (m n : ℕ) → n < m → value_cmp (Int (pos m)) (Int (pos n)) ≡ Greater
above m n h = value_cmp-Int (pos m) (pos n) ∙ grind (arith, ints, nat_tests)

pub equal : (n : ℕ) → value_cmp (Int (pos n)) (Int (pos n)) ≡ Equal
equal n = value_cmp-Int (pos n) (pos n) ∙ grind (arith, ints, nat_tests)

pub same_test : (m n : ℕ) → is_eq (value_cmp (Int (pos m)) (Int (pos n))) ≡ (m == n)
same_test m n = ap is_eq (value_cmp-Int (pos m) (pos n)) ∙ grind (arith, ints, nat_tests)

either : (b : Bool) (x : Value) → cond b x x ≡ x
either true x = refl
either false x = refl

pub cast_null : cast Integer Null ≡ Null
unfolding unary
cast_null = either _ Null

pub cast_int : (n : ℤ) → cast Integer (Int n) ≡ Int n
unfolding unary
cast_int n = either _ (Int n)

-- a step that returned a value did not stop with an error
pub went : {B E R : Type 0} {b : B} {Stops : E → Type 0} → ((stop : E) × Stops stop × (Ok b ≡ Err stop)) ⊎ R → R
went (inl stopped) = absurd (let e = stopped.2 in cc)
went (inr on) = on

-- if an option's mapped value is known, the option has a value that is mapped to it
pub some_mapped : {X Y : Type 0} (f : X → Y) (o : Option X) (y : Y) → Some y ≡ option_map f o → (x : X) × (o ≡ Some x) × (y ≡ f x)
some_mapped f None y is = absurd cc
some_mapped f (Some x) y is = (x, refl, let same : y ≡ f x = cc in same)

pub none_mapped : {X Y : Type 0} (f : X → Y) (o : Option X) → None ≡ option_map f o → o ≡ None
none_mapped f None is = refl
none_mapped f (Some x) is = absurd cc

pub same_value : {B E : Type 0} {a b : B} → ◌≡◌ {A = Result B E} (Ok a) (Ok b) → a ≡ b
same_value e = cc
