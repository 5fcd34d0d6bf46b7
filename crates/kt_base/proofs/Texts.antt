-- Texts as bytes and as characters.
use Rattle.std.proofs.Common.{◌≡◌, ℕ, suc, ◌+◌, ◌≤◌, false, List, [], ◌∷◌, ◌++◌, take, drop, Some, None, refl, ap, sym, subst, ◌∙◌, take-append-drop, arith, encode_utf8, encode_utf8_all, ◌==◌, length, bytes_eq}
use Rattle.kt_base.proofs.Common.{chars, IsScalar, len_utf8, IsUtf8, NonePass, eq-eqb, encodes-chars, chars-nil, chars-append, chars_from_encodes, chars_past_char, IsUtf8-append, IsUtf8-drop, IsUtf8-encode, IsUtf8-take, IsCharBoundary-from_drop, bytes_eq-Decides, same_from_decides, Decides-like, nat_tests, is_empty, before, after}
use Rattle.std.specs.Str.Pattern.{FindsChar}
use Rattle.std.specs.declared.string.String.{String}
use Rattle.std.specs.String.{string_bytes}
use Rattle.std.proofs.lemmas.Str.{IsUtf8-string_bytes}

from_chars : (a b : List ℕ) → IsUtf8 a → IsUtf8 b → chars a ≡ chars b → a ≡ b
from_chars a b u v e = sym (encodes-chars a u) ∙ ap encode_utf8_all e ∙ encodes-chars b v

pub bytes_eq-chars : (a b : List ℕ) → IsUtf8 a → IsUtf8 b → bytes_eq a b ≡ bytes_eq (chars a) (chars b)
bytes_eq-chars a b u v =
    same_from_decides (bytes_eq a b) (bytes_eq (chars a) (chars b)) (Decides-like (bytes_eq a b) (λ e. ap chars e) (λ e. from_chars a b u v e) (bytes_eq-Decides a b)) (bytes_eq-Decides (chars a) (chars b))

-- bytes are equal to a string's bytes exactly if their characters are equal to the string's
pub key-chars : {Z : Type 0} (q : List ℕ) → IsUtf8 q → (k : String Z) → bytes_eq q (string_bytes k) ≡ bytes_eq (chars q) (chars (string_bytes k))
key-chars q u k = bytes_eq-chars q (string_bytes k) u (IsUtf8-string_bytes k)

not_zero : (n : ℕ) → false ≡ (suc n == 0)
not_zero n = grind (arith, nat_tests)

some_bytes : (b : ℕ) (bs cs : List ℕ) → encode_utf8_all cs ≡ b ∷ bs → is_empty cs ≡ false
some_bytes b bs [] e = absurd (cc)
some_bytes b bs (c ∷ cs) e = refl

-- a text has no character exactly if it has no byte
pub is_empty-chars : (bs : List ℕ) → IsUtf8 bs → is_empty (chars bs) ≡ (length bs == 0)
is_empty-chars [] u = ap is_empty chars-nil
is_empty-chars (b ∷ bs) u = some_bytes b bs (chars (b ∷ bs)) (encodes-chars (b ∷ bs) u) ∙ not_zero (length bs)

-- in a text without `sign`, `before` is the whole text; with `sign`, `before` and `after` are the
-- texts on its two sides
uncut : (sign : ℕ) (cs : List ℕ) → NonePass (λ d. d == sign) cs → (before sign cs ≡ cs) × (after sign cs ≡ None)
uncut sign [] none = (refl, refl)
uncut sign (c ∷ cs) none = let e = uncut sign cs none.1 in rw (none.0, e.0, e.1) (refl, refl)

cut : (sign : ℕ) (cs rest : List ℕ) → NonePass (λ d. d == sign) cs → (before sign (cs ++ sign ∷ rest) ≡ cs) × (after sign (cs ++ sign ∷ rest) ≡ Some rest)
cut sign [] rest none = rw (eq-eqb sign sign refl) (refl, refl)
cut sign (c ∷ cs) rest none = let e = cut sign cs rest none.1 in rw (none.0, e.0, e.1) (refl, refl)

-- `before` and `after` are the texts that `split_once` returns, if it finds no `sign` and if it
-- finds one
pub not_found : (sign : ℕ) (s : List ℕ) → IsUtf8 s → FindsChar sign s None → (chars s ≡ before sign (chars s)) × (None ≡ after sign (chars s))
not_found sign s u f =
    let whole = chars_from_encodes f.0 s u f.1 in
    let e = uncut sign (chars s) (subst (NonePass (λ d. d == sign)) whole f.2) in
    (sym e.0, sym e.1)

pub found_at : (sign : ℕ) (s : List ℕ) (i j : ℕ) → IsUtf8 s → IsScalar sign → i ≤ length s → FindsChar sign s (Some (i, j))
    → (chars (take i s) ≡ before sign (chars s)) × (Some (chars (drop j s)) ≡ after sign (chars s))
found_at sign s i j u scalar within f =
    let at = f.1 in
    let past : IsUtf8 (drop j s) = subst (λ (k : ℕ). IsUtf8 (drop k s)) (sym at.ends) (IsUtf8-drop s (i + len_utf8 sign) u at.after) in
    let from : IsUtf8 (drop i s) = subst IsUtf8 (sym at.split) (IsUtf8-append (encode_utf8 sign) (drop j s) (IsUtf8-encode sign scalar) past) in
    let until = IsUtf8-take s i u (IsCharBoundary-from_drop s i within from) in
    let front = chars_from_encodes f.0.0 (take i s) until f.0.1 in
    let whole : chars s ≡ f.0.0 ++ sign ∷ chars (drop j s) = ap chars (sym (take-append-drop i s)) ∙ chars-append (take i s) (drop i s) until
    ∙ (λ k. sym front k ++ chars_past_char (drop i s) (drop j s) sign from at.split k) in
    let e = cut sign f.0.0 (chars (drop j s)) f.0.2 in
    (sym front ∙ sym e.0 ∙ ap (before sign) (sym whole), sym e.1 ∙ ap (after sign) (sym whole))
