-- The lines of entries in order.
use Rattle.std.proofs.Common.{◌≡◌, Bool, true, false, cond, List, [], ◌∷◌, ◌++◌, refl, ap, flat_map}
use Rattle.kt_report.proofs.Common.{Kind, Entry, has_kind, entries_of}

module _ {A : Type 0} (f : Entry → List A) (kind : Kind) where
  -- `if_of e`: the items of `e` if `e` is of this kind, otherwise none.
  abbrev pub if_of : Entry → List A
  if_of e = cond (has_kind kind e) (f e) []

  pub if_of_all : (es : List Entry) → flat_map if_of es ≡ flat_map f (entries_of kind es)
  if_of_all [] = refl
  if_of_all (e ∷ es) = by (has_kind kind e) (if_of_all es)
    where
      by : (b : Bool) → flat_map if_of es ≡ flat_map f (entries_of kind es) → cond b (f e) [] ++ flat_map if_of es ≡ flat_map f (cond b (e ∷ entries_of kind es) (entries_of kind es))
      by true same = ap (λ xs. f e ++ xs) same
      by false same = same

  pub if_of_is : (e x : Entry) → e ≡ x → has_kind kind e ≡ true → f e ≡ if_of x
  if_of_is e x same is = rw (← same, is) refl

  pub if_of_not : (e x : Entry) → e ≡ x → has_kind kind e ≡ false → [] ≡ if_of x
  if_of_not e x same is = rw (← same, is) refl
