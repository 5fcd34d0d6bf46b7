-- Facts of lines that are read byte by byte.
use Rattle.std.proofs.Common.{◌≡◌, ℕ, ◌≤◌, Bool, true, false, eqb, List, [], ◌∷◌, ◌++◌, length, drop, Option, Some, None, refl, ap, sym, ◌∙◌, arith, if◌then◌else◌, option_map}
use Rattle.kt_claim.proofs.Common.{le-ltb, ne_eqb, length-append, is_digit, decimal_from, is_blank, no_facts, plan_facts, facts_after_opening, facts_within_opening, below_limit, without_trailing_blanks, begins, leading_bytes, without_leading, is_plan_end, planned_from, directive_in, reason_of_skip, plan_for}
use Rattle.kt_claim.specs.declared.open_line.Opening.{Opening}
use Rattle.std.proofs.Math.Bool.{and-false}
use Rattle.kt_base.proofs.Numbers.{decimal_from-grows}

-- ---- the number of a plan

pub too_large : (v : ℕ) (ds : List ℕ) → 1000000000 ≤ v → below_limit (decimal_from v ds) ≡ None
too_large v ds le = rw (le-ltb (decimal_from v ds) 1000000000 (omega (arith, decimal_from-grows v ds))) refl

pub none_at_all : (t : Bool) (found : Option ℕ) → found ≡ None → (if t then found else None) ≡ None
none_at_all true found none = none
none_at_all false found none = refl

-- A number that is too large remains too large with more digits.
pub plans_none : (n : ℕ) (text more : List ℕ) → 1000000000 ≤ n
    → plan_facts None ≡ plan_facts (option_map (plan_for (reason_of_skip (directive_in false more))) (planned_from (Some n) text))
plans_none n text more le =
    ap (λ (o : Option ℕ). plan_facts (option_map (plan_for (reason_of_skip (directive_in false more))) o))
    (sym (none_at_all (is_plan_end (without_leading is_blank (without_leading is_digit text))) (below_limit (decimal_from n (leading_bytes is_digit text))) (too_large n (leading_bytes is_digit text) le)))

-- ---- the word that a line begins with

-- If no byte of an opening is missing, the bytes after the opening decide.
pub whole_word : (o : Opening) (lacks more : List ℕ) → length lacks ≡ 0 → facts_after_opening o more ≡ facts_within_opening o (begins lacks more) (drop (length lacks) more)
whole_word o [] more none = refl
whole_word o (c ∷ lacks) more none = absurd (omega (arith, none))

-- ---- the end of a reason

pub without_trailing_blanks-blank : (xs : List ℕ) (b : ℕ) → is_blank b ≡ true → without_trailing_blanks (xs ++ b ∷ []) ≡ without_trailing_blanks xs
without_trailing_blanks-blank [] b blank = rw blank refl
without_trailing_blanks-blank (x ∷ xs) b blank = rw (without_trailing_blanks-blank xs b blank) refl

pub last_kept : (xs : List ℕ) (b : ℕ) → eqb (length (xs ++ b ∷ [])) 0 ≡ false
last_kept xs b = ne_eqb (length (xs ++ b ∷ [])) 0 (λ e. omega (arith, e, length-append xs (b ∷ [])))

pub without_trailing_blanks-word : (xs : List ℕ) (b : ℕ) → is_blank b ≡ false → without_trailing_blanks (xs ++ b ∷ []) ≡ xs ++ b ∷ []
without_trailing_blanks-word [] b word = rw word refl
without_trailing_blanks-word (x ∷ xs) b word = rw (without_trailing_blanks-word xs b word, last_kept xs b, and-false (is_blank x)) refl

pub trims : (rest front text : List ℕ) (b : ℕ) → without_trailing_blanks rest ≡ without_trailing_blanks text → rest ≡ front ++ b ∷ [] → is_blank b ≡ true → without_trailing_blanks front ≡ without_trailing_blanks text
trims rest front text b so_far parts blank = sym (without_trailing_blanks-blank front b blank) ∙ sym (ap without_trailing_blanks parts) ∙ so_far

pub trim_ends : (rest front text : List ℕ) (b : ℕ) → without_trailing_blanks rest ≡ without_trailing_blanks text → rest ≡ front ++ b ∷ [] → is_blank b ≡ false → rest ≡ without_trailing_blanks text
trim_ends rest front text b so_far parts word = parts ∙ sym (without_trailing_blanks-word front b word) ∙ sym (ap without_trailing_blanks parts) ∙ so_far

-- A line that ends within its opening has no facts.
pub part_of_word : (o : Opening) (lacks : List ℕ) → (length lacks ≡ 0 → ⊥) → no_facts ≡ facts_within_opening o (begins lacks []) (drop (length lacks) [])
part_of_word o [] some = absurd (some refl)
part_of_word o (c ∷ lacks) some = refl
