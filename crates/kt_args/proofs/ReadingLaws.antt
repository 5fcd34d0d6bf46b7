-- The values that `clap` found, by their rows.
use Rattle.std.proofs.Common.{◌≡◌, ℕ, List, [], ◌∷◌, Option, Some, Bor, chars, refl, ap, ◌∙◌, map, unwrap_or}
use Rattle.kt_args.proofs.Common.{Row, Text, all_of, option_texts}

-- The texts of references are the texts of their values.
each_text : (words : List (Bor (List ℕ))) → map (λ (word : Bor (List ℕ)). chars word.now) words ≡ map chars (map (λ (word : Bor (List ℕ)). word.now) words)
each_text [] = refl
each_text (word ∷ words) = ap (λ (rest : List (List ℕ)). chars word.now ∷ rest) (each_text words)

-- The texts of all values of an option are its `option_texts`.
pub texts_are : (id : Text) (rows : List Row) (words : List (Bor (List ℕ))) → Some (map (λ (word : Bor (List ℕ)). word.now) words) ≡ all_of id rows
    → map (λ (word : Bor (List ℕ)). chars word.now) words ≡ option_texts id rows
texts_are id rows words e = each_text words ∙ ap (λ (o : Option (List Text)). map chars (unwrap_or o [])) e
