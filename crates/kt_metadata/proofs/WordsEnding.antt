-- The ends of elements.
use Rattle.std.proofs.Common.{◌≡◌, ℕ, true, false, List, [], ◌∷◌, ◌++◌, refl, sym, ◌∙◌}
use Rattle.kt_metadata.proofs.Common.{is_space, with_element, elements_from}
use Rattle.kt_base.specs.Texts.{is_empty}

-- `with_element` of an empty element adds nothing to a list.
pub nothing : (word : List ℕ) → is_empty word ≡ true → with_element word [] ≡ []
nothing [] e = refl
nothing (c ∷ cs) e = absurd (cc)

-- `with_element` of an element that isn't empty adds the element to a list.
pub something : (word : List ℕ) → is_empty word ≡ false → with_element word [] ≡ word ∷ []
something [] e = absurd (cc)
something (c ∷ cs) e = refl

-- `with_element word more` is the list of `word`, if it isn't empty, followed by `more`.
with_element-then : (word : List ℕ) (more : List (List ℕ)) → with_element word more ≡ with_element word [] ++ more
with_element-then [] more = refl
with_element-then (c ∷ cs) more = refl

-- If white space follows `word`, the elements are `word` and the elements after the white space.
pub at-space : (word rest : List ℕ) (c : ℕ) → is_space c ≡ true → with_element word [] ++ elements_from [] rest ≡ elements_from word (c ∷ rest)
at-space word rest c space = sym (with_element-then word (elements_from [] rest)) ∙ sym (rw space refl)

-- If another character follows `word`, it belongs to the same element.
pub in-word : (word rest : List ℕ) (c : ℕ) → is_space c ≡ false → elements_from (word ++ c ∷ []) rest ≡ elements_from word (c ∷ rest)
in-word word rest c other = sym (rw other refl)
