-- Lemmas on filters that may select a case of a program.
use Rattle.std.proofs.Common.{◌≡◌, ℕ, ◌<◌, List, [], ◌∷◌, sym, subst, inl, inr, Contains, arith}
use Rattle.kt_plan.proofs.Common.{Filter, MayMatch}
use Rattle.std.proofs.lemmas.List.Elements.{Contains-append_right, Contains-append_cases, Contains-push_cases}

-- `AnyMatches filters path`: one of `filters` may match a case of the program at `path`.
abbrev pub AnyMatches : List Filter → List ℕ → Type 0
AnyMatches filters path = (one : Filter) × Contains filters one × MayMatch one path

-- An empty list contains no filter.
none_in : (one : Filter) → Contains [] one → ⊥
none_in one h = absurd (let less : h.0 < 0 = h.1 in omega (arith, less))

-- A list of one filter contains only that filter.
only_in : (f one : Filter) → Contains (f ∷ []) one → f ≡ one
only_in f one h = elim (Contains-push_cases [] f one h) [ inl c ↦ absurd (none_in one c) | inr e ↦ e ]

-- `AreAmong rest all`: each filter in the list `rest` is in the list `all`.
abbrev pub AreAmong : List Filter → List Filter → Type 0
AreAmong rest all = (one : Filter) → Contains rest one → Contains all one

-- The filters after the next one are some of all.
pub among_after : (f : Filter) (after rest all : List Filter) → rest ≡ f ∷ after → AreAmong rest all → AreAmong after all
among_after f after rest all e h one c = h one (subst (λ (xs : List Filter). Contains xs one) (sym e) (Contains-append_right (f ∷ []) after one c))

-- `IsAhead rest all path`: if a filter in `all` may match a case of the program at `path`, a filter
-- in `rest` may match one, too.
abbrev pub IsAhead : List Filter → List Filter → List ℕ → Type 0
IsAhead rest all path = AnyMatches all path → AnyMatches rest path

-- If the next filter matches no case, `IsAhead` holds of the filters after it.
pub ahead_after : (f : Filter) (after rest all : List Filter) (path : List ℕ) → rest ≡ f ∷ after → (MayMatch f path → ⊥) → IsAhead rest all path → IsAhead after all path
ahead_after f after rest all path e never h any =
    let found = h any in
    elim (Contains-append_cases (f ∷ []) after found.0 (subst (λ (xs : List Filter). Contains xs found.0) e found.1)) [
      | inl c ↦ absurd (never (subst (λ (x : Filter). MayMatch x path) (sym (only_in f found.0 c)) found.2))
      | inr c ↦ (found.0, c, found.2)
    ]
