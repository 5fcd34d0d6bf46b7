-- The characters of the keys of a set of names.
use Rattle.std.proofs.Common.{◌≡◌, ℕ, false, List, [], ◌∷◌, ◌++◌, refl, ap, map, ◌∙◌, bytes_eq}
use Rattle.kt_atflist.proofs.Common.{chars, list_any, IsUtf8, IsUtf8-string_bytes, characters}
use Rattle.std.specs.String.{string_bytes, string_eq}
use Rattle.std.specs.declared.string.String.{String}
use Rattle.indexmap.specs.IndexSet.{insert_key}
use Rattle.kt_base.proofs.Texts.{bytes_eq-chars}

same : {Z : Type 0} (q : List ℕ) → IsUtf8 q → (k : String Z) → bytes_eq q (string_bytes k) ≡ bytes_eq (chars q) (characters k)
same q u k = bytes_eq-chars q (string_bytes k) u (IsUtf8-string_bytes k)

-- A key is found by its bytes if and only if its characters are among the names.
pub among : {Z : Type 0} (q : List ℕ) → IsUtf8 q → (ks : List (String Z)) → list_any (λ k. bytes_eq q (string_bytes k)) ks ≡ list_any (bytes_eq (chars q)) (map characters ks)
among q u [] = refl
among q u (k ∷ ks) = rw (same q u k, among q u ks) refl

appended : {Z : Type 0} (ks : List (String Z)) (k : String Z) → map characters (ks ++ k ∷ []) ≡ map characters ks ++ characters k ∷ []
appended [] k = refl
appended (j ∷ ks) k = ap (λ (ns : List (List ℕ)). characters j ∷ ns) (appended ks k)

-- A key that the set doesn't contain is appended.
pub inserted : {Z : Type 0} (ks : List (String Z)) (k : String Z) → list_any (bytes_eq (characters k)) (map characters ks) ≡ false
    → map characters (insert_key string_eq ks k) ≡ map characters ks ++ characters k ∷ []
inserted ks k e =
    let f : list_any (string_eq k) ks ≡ false = among (string_bytes k) (IsUtf8-string_bytes k) ks ∙ e in
    rw f (appended ks k)
