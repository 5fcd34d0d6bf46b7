-- Paths within directories, and their bytes.
use Rattle.std.proofs.Common.{◌≡◌, ℕ, true, false, List, [], ◌∷◌, ◌++◌, refl, sym, ap, ◌∙◌, arith, drop, length, encode_utf8_all, ◌==◌}
use Rattle.kt_suite.proofs.Common.{chars, IsUtf8, eq-eqb, eqb-true, and_parts, is_within}
use Rattle.std.proofs.lemmas.Bool.{false_from_ne_true}
use Rattle.std.proofs.lemmas.Str.{encodes-chars, chars-append, encodes-append, encode_ascii}
use Rattle.std.proofs.lemmas.List.Prefix.{front_rest}

-- A path that begins with the directory is within it if and only if its rest is empty or begins
-- with a slash.
pub within-append : (directory rest : List ℕ) → is_within directory (directory ++ rest) ≡ is_within [] rest
within-append [] rest = refl
within-append (c ∷ directory) rest = rw (eq-eqb c c refl) (within-append directory rest)

-- A path within a directory begins with the directory.
pub append-within : (directory path : List ℕ) → is_within directory path ≡ true → (rest : List ℕ) × (path ≡ directory ++ rest)
append-within [] path e = (path, refl)
append-within (d ∷ directory) [] e = absurd (cc)
append-within (d ∷ directory) (c ∷ path) e =
    let parts : (d == c ≡ true) × (is_within directory path ≡ true) = and_parts (d == c) (is_within directory path) e in
    let after : (rest : List ℕ) × (path ≡ directory ++ rest) = append-within directory path parts.1 in
    (after.0, ap (λ (x : ℕ). x ∷ path) (sym (eqb-true d c parts.0)) ∙ ap (λ (xs : List ℕ). d ∷ xs) after.1)

-- If the bytes begin with the directory's bytes, the remaining characters decide whether the path
-- is within it.
pub within-found : (directory path rest : List ℕ) → IsUtf8 directory → path ≡ directory ++ rest → is_within [] (chars rest) ≡ is_within (chars directory) (chars path)
within-found directory path rest u e =
    sym (ap (λ (p : List ℕ). is_within (chars directory) p) (ap chars e ∙ chars-append directory rest u) ∙ within-append (chars directory) (chars rest))

-- A path whose bytes don't begin with the bytes of the directory is not within it.
pub within-none : (directory path : List ℕ) → IsUtf8 directory → IsUtf8 path → ((rest : List ℕ) → path ≡ directory ++ rest → ⊥) → false ≡ is_within (chars directory) (chars path)
within-none directory path u v lacks = sym (false_from_ne_true (is_within (chars directory) (chars path)) (λ e.
    let parts : (rest : List ℕ) × (chars path ≡ chars directory ++ rest) = append-within (chars directory) (chars path) e in
    lacks (encode_utf8_all parts.0)
    (sym (encodes-chars path v) ∙ ap encode_utf8_all parts.1 ∙ encodes-append (chars directory) parts.0 ∙ ap (λ (bs : List ℕ). bs ++ encode_utf8_all parts.0) (encodes-chars directory u))))

-- The bytes of a rest that is empty or begins with a slash are empty or begin with a slash.
ends-encoded : (rest : List ℕ) → is_within [] rest ≡ true → is_within [] (encode_utf8_all rest) ≡ true
ends-encoded [] e = refl
ends-encoded (c ∷ rest) e =
    let slash : c ≡ 47 = eqb-true c 47 e in
    ap (λ (x : ℕ). is_within [] (encode_utf8_all (x ∷ rest))) slash ∙ ap (λ (bs : List ℕ). is_within [] (bs ++ encode_utf8_all rest)) (encode_ascii 47 (omega arith))

-- A path that has another byte than a slash after the directory's length is not within the
-- directory.
pub within-past : (directory path : List ℕ) → IsUtf8 directory → IsUtf8 path → is_within [] (drop (length directory) path) ≡ false → false ≡ is_within (chars directory) (chars path)
within-past directory path u v goes = sym (false_from_ne_true (is_within (chars directory) (chars path)) (λ e.
    let parts : (rest : List ℕ) × (chars path ≡ chars directory ++ rest) = append-within (chars directory) (chars path) e in
    let over : is_within [] parts.0 ≡ true = sym (within-append (chars directory) parts.0) ∙ ap (λ (p : List ℕ). is_within (chars directory) p) (sym parts.1) ∙ e in
    let bytes : path ≡ directory ++ encode_utf8_all parts.0 =
    sym (encodes-chars path v) ∙ ap encode_utf8_all parts.1 ∙ encodes-append (chars directory) parts.0 ∙ ap (λ (bs : List ℕ). bs ++ encode_utf8_all parts.0) (encodes-chars directory u) in
    let true_too : is_within [] (drop (length directory) path) ≡ true =
    ap (λ (bs : List ℕ). is_within [] bs) (front_rest path directory (encode_utf8_all parts.0) bytes) ∙ ends-encoded parts.0 over in
    cc))
