-- The contents of a writer after a text was written to it.
use Rattle.std.specs.Prelude.{ℕ, Bool, true, false, List, [], ◌∷◌, ◌++◌, ◌≡◌, Option}
use Rattle.std.specs.Io.KnownBytes.{Appends}

-- `AppendsText old new failed text`: a writer's contents `new` are its contents `old` with bytes
-- appended. If `failed` is false, these are all bytes of `text`. If `failed` is true, they are a
-- proper prefix of `text`. If `old` is unknown, `new` can be anything.
abbrev pub AppendsText : Option (List ℕ) → Option (List ℕ) → Bool → List ℕ → Type 0
AppendsText old new false text = Appends old new text
AppendsText old new true text = (front rest : List ℕ) × (next : ℕ) × (text ≡ front ++ next ∷ rest) × Appends old new front

-- `Emits old new failed text`: writing the bytes `text` to a writer changed its contents from `old`
-- to `new`. If `failed` is true, only a proper prefix of `text` was written. If `old` is unknown,
-- `new` can be anything.
pub record Emits (old new : Option (List ℕ)) (failed : Bool) (text : List ℕ) : Type 0 where
  pub holds : AppendsText old new failed text

-- `joined_after front parts`: the list `front`, followed by the elements of the lists `parts` in
-- their order.
abbrev pub joined_after : List ℕ → List (List ℕ) → List ℕ
joined_after front [] = front
joined_after front (part ∷ parts) = joined_after (front ++ part) parts

-- `joined parts`: the concatenation of the lists `parts`, in their order.
abbrev pub joined : List (List ℕ) → List ℕ
joined parts = joined_after [] parts
