-- Filters that both match some case.
use Rattle.std.proofs.Common.{arith, ◌≡◌, ℕ, true, false, List, [], ◌∷◌, ◌++◌, refl, sym, ap, ◌∙◌, Option, Some, None, ◌⊎◌, inl, inr, ◌||◌, IsTrue, bytes_eq, append-nil}
use Rattle.kt_suite.proofs.Common.{nat_tests, append_assoc, eq-eqb, eqb-true, and_parts, and_from, Filter, is_within, IsWithin, parts_match, matches, parts_cover, covers, overlaps, ShareCase}
use Rattle.std.proofs.lemmas.Bool.{or_cases}
use Rattle.std.proofs.lemmas.Slice.Eq.{bytes_eq-Decides}
use Rattle.kt_suite.proofs.WithinPaths.{within-append, append-within}
use Rattle.kt_base.proofs.Names.{same, same-refl}

is_eqb : (xs ys : List ℕ) → xs ≡ ys → bytes_eq xs ys ≡ true
is_eqb xs ys e = (bytes_eq-Decides xs ys).1 e

-- A path within the empty directory is empty or begins with a slash.
within_nil : (path : List ℕ) → is_within [] path ≡ true → (path ≡ []) ⊎ ((rest : List ℕ) × (path ≡ 47 ∷ rest))
within_nil [] e = inl refl
within_nil (c ∷ path) e = inr (path, ap (λ (x : ℕ). x ∷ path) (eqb-true c 47 e))

with_front : (directory path rest : List ℕ) → path ≡ directory ++ rest → (rest ≡ []) ⊎ ((more : List ℕ) × (rest ≡ 47 ∷ more)) → IsWithin directory path
with_front directory path rest e (inl n) = inl (e ∙ ap (λ (r : List ℕ). directory ++ r) n ∙ append-nil directory)
with_front directory path rest e (inr m) = inr (m.0, e ∙ ap (λ (r : List ℕ). directory ++ r) m.1)

pub within_is : (directory path : List ℕ) → IsTrue (is_within directory path) → IsWithin directory path
within_is directory path e =
    let cut : (rest : List ℕ) × (path ≡ directory ++ rest) = append-within directory path e in
    with_front directory path cut.0 cut.1 (within_nil cut.0 (sym (within-append directory cut.0) ∙ ap (λ (p : List ℕ). is_within directory p) (sym cut.1) ∙ e))

within_self : (path : List ℕ) → is_within path path ≡ true
within_self [] = refl
within_self (c ∷ path) = rw (eq-eqb c c refl) (within_self path)

pub is-within : (directory path : List ℕ) → IsWithin directory path → IsTrue (is_within directory path)
is-within directory path (inl e) = ap (λ (p : List ℕ). is_within directory p) e ∙ within_self directory
is-within directory path (inr m) = ap (λ (p : List ℕ). is_within directory p) m.1 ∙ within-append directory (47 ∷ m.0)

-- A path within an inner directory is within the outer directory.
within_within : (outer inner path : List ℕ) → is_within outer inner ≡ true → is_within inner path ≡ true → is_within outer path ≡ true
within_within outer inner path e f = is-within outer path (by (within_is outer inner e) (within_is inner path f))
  where
    by : IsWithin outer inner → IsWithin inner path → IsWithin outer path
    by (inl a) (inl b) = inl (b ∙ a)
    by (inl a) (inr b) = inr (b.0, b.1 ∙ ap (λ (p : List ℕ). p ++ 47 ∷ b.0) a)
    by (inr a) (inl b) = inr (a.0, b ∙ a.1)
    by (inr a) (inr b) = inr (a.0 ++ 47 ∷ b.0, b.1 ∙ ap (λ (p : List ℕ). p ++ 47 ∷ b.0) a.1 ∙ append_assoc outer (47 ∷ a.0) (47 ∷ b.0))

-- If a path is within two directories, one of them is within the other.
nested : (one other path : List ℕ) → is_within one path ≡ true → is_within other path ≡ true → (is_within one other || is_within other one) ≡ true
nested [] [] path e f = refl
nested [] (d ∷ other) [] e f = absurd (cc)
nested (o ∷ one) other [] e f = absurd (cc)
nested [] (d ∷ other) (c ∷ path) e f = grind (arith, nat_tests, e, f)
nested (o ∷ one) [] (c ∷ path) e f = grind (arith, nat_tests, e, f)
nested (o ∷ one) (d ∷ other) (c ∷ path) e f = grind (arith, nat_tests, nested one other path, e, f)

-- `own_case case`: the name of a case that a filter with the case `case` matches.
abbrev own_case : Option (List ℕ) → List ℕ
own_case None = []
own_case (Some own) = own

matches_own : (program : List ℕ) (part : Option (List ℕ)) → parts_match program part program (own_case part) ≡ true
matches_own program None = within_self program
matches_own program (Some own) = and_from (bytes_eq program program) (bytes_eq own own) (is_eqb program program refl) (is_eqb own own refl)

-- A filter matches each case that a covered filter matches.
covered : (program : List ℕ) (part : Option (List ℕ)) (other : List ℕ) (other_part : Option (List ℕ)) (path case_name : List ℕ)
    → parts_cover program part (record { program = other; case_name = other_part }) ≡ true → parts_match other other_part path case_name ≡ true → parts_match program part path case_name ≡ true
covered program None other None path case_name e f = within_within program other path e f
covered program None other (Some own) path case_name e f = grind (arith, e, f, same path other)
covered program (Some mine) other None path case_name e f = absurd (let h = and_parts (bytes_eq program other) false e in let n : false ≡ true = h.1 in cc)
covered program (Some mine) other (Some own) path case_name e f =
    grind (arith, e, f, same program other, same mine own, same path other, same case_name own, same-refl other, same-refl own)

shared_by : (filter other : Filter) → covers filter other ≡ true → (path case_name : List ℕ) × IsTrue (matches filter path case_name) × IsTrue (matches other path case_name)
shared_by filter other e =
    let own : matches other other.program (own_case other.case_name) ≡ true = matches_own other.program other.case_name in
    (other.program, own_case other.case_name, covered filter.program filter.case_name other.program other.case_name other.program (own_case other.case_name) e own, own)

swapped : (filter other : Filter) → ShareCase filter other → ShareCase other filter
swapped filter other s = (s.0, s.1, s.3, s.2)

by_side : (filter other : Filter) → (covers filter other ≡ true) ⊎ (covers other filter ≡ true) → ShareCase filter other
by_side filter other (inl e) = shared_by filter other e
by_side filter other (inr e) = swapped other filter (shared_by other filter e)

-- If two filters overlap, there is a case that both of them match.
pub shares : (filter other : Filter) → IsTrue (overlaps filter other) → ShareCase filter other
shares filter other e = by_side filter other (or_cases (covers filter other) (covers other filter) e)

-- If there is a case that two filters match, the filters overlap.
meet : (program : List ℕ) (part : Option (List ℕ)) (other : List ℕ) (other_part : Option (List ℕ)) (path case_name : List ℕ)
    → parts_match program part path case_name ≡ true → parts_match other other_part path case_name ≡ true
    → (parts_cover program part (record { program = other; case_name = other_part }) || parts_cover other other_part (record { program = program; case_name = part })) ≡ true
meet program None other None path case_name e f = nested program other path e f
meet program None other (Some own) path case_name e f = grind (arith, e, f, same path other)
meet program (Some mine) other None path case_name e f = grind (arith, e, f, same path program)
meet program (Some mine) other (Some own) path case_name e f =
    grind (arith, e, f, same path program, same case_name mine, same path other, same case_name own, same-refl path, same-refl case_name)

pub sharing : (filter other : Filter) → ShareCase filter other → IsTrue (overlaps filter other)
sharing filter other s = meet filter.program filter.case_name other.program other.case_name s.0 s.1 s.2 s.3
