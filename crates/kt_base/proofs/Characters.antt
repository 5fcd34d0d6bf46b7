-- Texts to which characters are appended.
use Rattle.std.proofs.Common.{◌≡◌, ℕ, List, [], ◌∷◌, ◌++◌, ap, ◌∙◌, sym, encode_utf8}
use Rattle.kt_base.proofs.Common.{chars, IsUtf8, IsScalar, chars-append, chars_past_char, chars-nil, IsUtf8-encode, append-nil}

chars-push : (bs : List ℕ) (c : ℕ) → IsUtf8 bs → IsScalar c → chars (bs ++ encode_utf8 c) ≡ chars bs ++ c ∷ []
chars-push bs c u s =
    let one : chars (encode_utf8 c) ≡ c ∷ chars [] = chars_past_char (encode_utf8 c) [] c (IsUtf8-encode c s) (sym (append-nil (encode_utf8 c))) in
    chars-append bs (encode_utf8 c) u ∙ ap (λ (xs : List ℕ). chars bs ++ xs) (one ∙ ap (λ (xs : List ℕ). c ∷ xs) chars-nil)

pub pushed : (old new text : List ℕ) (c : ℕ) → IsUtf8 old → IsScalar c → new ≡ old ++ encode_utf8 c → chars old ≡ text → chars new ≡ text ++ c ∷ []
pushed old new text c u s e was = ap chars e ∙ chars-push old c u s ∙ ap (λ (xs : List ℕ). xs ++ c ∷ []) was

pub pushed_str : (old new text more : List ℕ) → IsUtf8 old → new ≡ old ++ more → chars old ≡ text → chars new ≡ text ++ chars more
pushed_str old new text more u e was = ap chars e ∙ chars-append old more u ∙ ap (λ (xs : List ℕ). xs ++ chars more) was
