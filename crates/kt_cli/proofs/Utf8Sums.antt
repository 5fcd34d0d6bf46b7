-- The UTF-8 bytes of concatenated texts.
use Rattle.std.proofs.Common.{flat_map, ◌≡◌, ℕ, List, [], ◌∷◌, ◌++◌, refl, sym, ap, ◌∙◌}
use Rattle.kt_cli.proofs.Common.{utf8, utf8-append}

-- the UTF-8 bytes of concatenated texts are the concatenated bytes of each text
pub utf8_flat_map : {X : Type 0} (f : X → List ℕ) (xs : List X) → flat_map (λ (x : X). utf8 (f x)) xs ≡ utf8 (flat_map f xs)
utf8_flat_map f [] = refl
utf8_flat_map f (x ∷ xs) = ap (λ (z : List ℕ). utf8 (f x) ++ z) (utf8_flat_map f xs) ∙ sym (utf8-append (f x) (flat_map f xs))

-- the UTF-8 bytes of seven concatenated texts are the concatenated bytes of each text
pub utf8_seven : (a b c d e f g : List ℕ) → utf8 (a ++ b ++ c ++ d ++ e ++ f ++ g) ≡ utf8 a ++ utf8 b ++ utf8 c ++ utf8 d ++ utf8 e ++ utf8 f ++ utf8 g
utf8_seven a b c d e f g = simp utf8-append
