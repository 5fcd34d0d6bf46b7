-- The elements of a value, which are separated by white space.
use Rattle.std.specs.Prelude.{◌≡◌, ℕ, Bool, true, false, not, List, [], ◌∷◌, ◌++◌, if◌then◌else◌}
use Rattle.std.specs.List.{list_any}
use Rattle.kt_base.specs.Characters.{is_space}

-- `is_element word`: the text `word` can be an element of a property that is a list. It has at
-- least one character and no white space.
abbrev pub is_element : List ℕ → Bool
is_element [] = false
is_element (c ∷ cs) = not (list_any is_space (c ∷ cs))

-- `IsElementEnd text`: an element can end before the text `text`. It can if `text` is empty or
-- begins with white space.
abbrev pub IsElementEnd : List ℕ → Type 0
IsElementEnd [] = Unit {0}
IsElementEnd (c ∷ cs) = is_space c ≡ true

-- `AreElements text found`: `found` is the list of the elements of the text `text`, in order. Each
-- element is a part of `text` without white space, as long as possible.
pub data AreElements : List ℕ → List (List ℕ) → Type 0 where
  over : AreElements [] []
  blank : (c : ℕ) (text : List ℕ) (found : List (List ℕ)) → is_space c ≡ true → AreElements text found
      → AreElements (c ∷ text) found
  one : (first text : List ℕ) (found : List (List ℕ)) → is_element first ≡ true → IsElementEnd text → AreElements text found
      → AreElements (first ++ text) (first ∷ found)

-- `with_element word found`: the element `word` followed by the elements `found`, or only `found`
-- if `word` is empty.
abbrev pub with_element : List ℕ → List (List ℕ) → List (List ℕ)
with_element [] found = found
with_element (c ∷ cs) found = (c ∷ cs) ∷ found

-- `elements_from word text`: the elements of a text that consists of `word` and then of `text`.
-- `word` has no white space.
abbrev pub elements_from : List ℕ → List ℕ → List (List ℕ)
elements_from word [] = with_element word []
elements_from word (c ∷ cs) = if is_space c then with_element word (elements_from [] cs) else elements_from (word ++ c ∷ []) cs

-- `list_elements text`: the elements of the text `text` in order. White space separates them.
abbrev pub list_elements : List ℕ → List (List ℕ)
list_elements text = elements_from [] text
