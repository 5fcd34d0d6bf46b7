-- The walk over a text finds all elements of the text, and nothing else.
use Rattle.std.proofs.Common.{◌≡◌, ℕ, Bool, true, false, not, List, [], ◌∷◌, ◌++◌, refl, sym, ap, ◌∙◌, subst, append_assoc, append-nil}
use Rattle.kt_metadata.proofs.Common.{list_any, is_space, is_element, IsElementEnd, AreElements, with_element, elements_from, list_elements}
use Rattle.std.proofs.lemmas.List.Folds.{list_any-append}
use Rattle.kt_metadata.specs.Words as rule
use Rattle.std.proofs.lemmas.Bool.{not-true}

-- Characters without white space are an element if there is at least one.
word-solid : (c : ℕ) (cs : List ℕ) → list_any is_space (c ∷ cs) ≡ false → is_element (c ∷ cs) ≡ true
word-solid c cs e = ap not e

solid-word : (word : List ℕ) → is_element word ≡ true → list_any is_space word ≡ false
solid-word [] e = refl
solid-word (c ∷ cs) e = not-true (list_any is_space (c ∷ cs)) e

-- Appending a character that isn't white space to a text without white space adds no white space.
solid-more : (word : List ℕ) (c : ℕ) → list_any is_space word ≡ false → is_space c ≡ false → list_any is_space (word ++ c ∷ []) ≡ false
solid-more word c w e = list_any-append is_space word (c ∷ []) ∙ rw (w, e) refl

-- A text without white space is one element, or no element if it is empty.
found-end : (word : List ℕ) → list_any is_space word ≡ false → AreElements (word ++ []) (with_element word [])
found-end [] e = rule.over
found-end (c ∷ cs) e = rule.one (c ∷ cs) [] [] (word-solid c cs e) tt rule.over

-- If white space follows a text without white space, the elements are the text and those after it.
found-space : (word : List ℕ) (c : ℕ) (cs : List ℕ) (more : List (List ℕ)) → list_any is_space word ≡ false → is_space c ≡ true → AreElements cs more
    → AreElements (word ++ c ∷ cs) (with_element word more)
found-space [] c cs more e space rest = rule.blank c cs more space rest
found-space (d ∷ ds) c cs more e space rest = rule.one (d ∷ ds) (c ∷ cs) more (word-solid d ds e) space (rule.blank c cs more space rest)

found-next : (word : List ℕ) (c : ℕ) (cs : List ℕ) → list_any is_space word ≡ false
    → AreElements cs (elements_from [] cs)
    → (list_any is_space (word ++ c ∷ []) ≡ false → AreElements ((word ++ c ∷ []) ++ cs) (elements_from (word ++ c ∷ []) cs))
    → (b : Bool) → is_space c ≡ b → AreElements (word ++ c ∷ cs) (elements_from word (c ∷ cs))
found-next word c cs e rest on true space =
    rw space (found-space word c cs (elements_from [] cs) e space rest)
found-next word c cs e rest on false other =
    rw other (subst (λ (t : List ℕ). AreElements t (elements_from (word ++ c ∷ []) cs)) (append_assoc word (c ∷ []) cs) (on (solid-more word c e other)))

-- `elements_from` returns elements by the rule `AreElements`.
found : (word text : List ℕ) → list_any is_space word ≡ false → AreElements (word ++ text) (elements_from word text)
found word [] e = found-end word e
found word (c ∷ cs) e = found-next word c cs e (found [] cs refl) (λ solid. found (word ++ c ∷ []) cs solid) (is_space c) refl

pub are-list_elements : (text : List ℕ) → AreElements text (list_elements text)
are-list_elements text = found [] text refl

-- `elements_from` appends characters that aren't white space to the element that has begun.
through-next : (word : List ℕ) (c : ℕ) (cs text : List ℕ) → list_any is_space (c ∷ cs) ≡ false
    → (list_any is_space cs ≡ false → elements_from (word ++ c ∷ []) (cs ++ text) ≡ elements_from ((word ++ c ∷ []) ++ cs) text)
    → (b : Bool) → is_space c ≡ b → elements_from word (c ∷ (cs ++ text)) ≡ elements_from (word ++ c ∷ cs) text
through-next word c cs text e on true space = absurd (let f : true ≡ false = rw space at e in cc)
through-next word c cs text e on false other =
    let f : list_any is_space cs ≡ false = rw other at e in
    rw other (on f ∙ ap (λ (w : List ℕ). elements_from w text) (append_assoc word (c ∷ []) cs))

through : (word first text : List ℕ) → list_any is_space first ≡ false → elements_from word (first ++ text) ≡ elements_from (word ++ first) text
through word [] text e = ap (λ (w : List ℕ). elements_from w text) (sym (append-nil word))
through word (c ∷ cs) text e = through-next word c cs text e (λ f. through (word ++ c ∷ []) cs text f) (is_space c) refl

-- If a text begins with an element, `elements_from` returns this element and those of the rest.
over-next : (first text : List ℕ) → is_element first ≡ true → IsElementEnd text → elements_from first text ≡ first ∷ list_elements text
over-next [] text e b = absurd (cc)
over-next (c ∷ cs) [] e b = refl
over-next (c ∷ cs) (d ∷ ds) e b = rw b refl

-- By the rule `AreElements`, a text has no other list of elements than `list_elements text`.
pub no-others : (text : List ℕ) (found : List (List ℕ)) → AreElements text found → found ≡ list_elements text
no-others _ _ rule.over = refl
no-others _ _ (rule.blank c text found space rest) = no-others text found rest ∙ sym (rw space refl)
no-others _ _ (rule.one first text found is break rest) =
    ap (λ (ws : List (List ℕ)). first ∷ ws) (no-others text found rest)
    ∙ sym (through [] first text (solid-word first is) ∙ over-next first text is break)
