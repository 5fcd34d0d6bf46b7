-- The rest of a text after a prefix.
use Rattle.std.proofs.Common.{◌≡◌, ℕ, Bool, true, false, List, [], ◌∷◌, ◌++◌, refl, sym, ap, ◌∙◌, Option, Some, None, option_and_then, encode_utf8_all, ◌==◌}
use Rattle.kt_metadata.proofs.Common.{chars, IsUtf8, encodes-chars, chars-append, encodes-append, after_prefix, non_empty_suffix, non_empty_text}
use Rattle.std.proofs.lemmas.Bool.{eq-eqb, eqb-true}

-- `after_prefix` returns the rest of a text that begins with the prefix.
pub after_prefix-append : (front rest : List ℕ) → after_prefix front (front ++ rest) ≡ Some rest
after_prefix-append [] rest = refl
after_prefix-append (c ∷ front) rest = rw (eq-eqb c c refl) (after_prefix-append front rest)

back-next : (c d : ℕ) (front text rest : List ℕ) → (after_prefix front text ≡ Some rest → text ≡ front ++ rest)
    → (b : Bool) → (c == d) ≡ b → after_prefix (c ∷ front) (d ∷ text) ≡ Some rest → d ∷ text ≡ c ∷ (front ++ rest)
back-next c d front text rest h true e found =
    let same : c ≡ d = eqb-true c d e in
    let after : text ≡ front ++ rest = h (rw e at found) in
    ap (λ (x : ℕ). x ∷ text) (sym same) ∙ ap (λ (xs : List ℕ). c ∷ xs) after
back-next c d front text rest h false e found = absurd (let n : None ≡ Some rest = rw e at found in cc)

-- If `after_prefix` returns a rest, the text is the prefix followed by the rest.
pub append-after_prefix : (front text rest : List ℕ) → after_prefix front text ≡ Some rest → text ≡ front ++ rest
append-after_prefix [] text rest found = let e : text ≡ rest = cc in e
append-after_prefix (c ∷ front) [] rest found = absurd (cc)
append-after_prefix (c ∷ front) (d ∷ text) rest found =
    back-next c d front text rest (λ e. append-after_prefix front text rest e) (c == d) refl found

-- If bytes begin with the bytes of the prefix, `non_empty_suffix` returns the rest unless it is
-- empty.
pub non_empty_suffix-found : (front text part : List ℕ) → IsUtf8 front → text ≡ front ++ part → non_empty_suffix (chars front) (chars text) ≡ non_empty_text (chars part)
non_empty_suffix-found front text part u e =
    ap (λ (t : List ℕ). non_empty_suffix (chars front) t) (ap chars e ∙ chars-append front part u)
    ∙ ap (λ (o : Option (List ℕ)). option_and_then non_empty_text o) (after_prefix-append (chars front) (chars part))

none-next : (front text : List ℕ) → IsUtf8 front → IsUtf8 text → ((rest : List ℕ) → text ≡ front ++ rest → ⊥)
    → (found : Option (List ℕ)) → after_prefix (chars front) (chars text) ≡ found → non_empty_suffix (chars front) (chars text) ≡ None
none-next front text u v lacks None e = ap (λ (o : Option (List ℕ)). option_and_then non_empty_text o) e
none-next front text u v lacks (Some rest) e =
    let parts : chars text ≡ chars front ++ rest = append-after_prefix (chars front) (chars text) rest e in
    absurd (lacks (encode_utf8_all rest)
    (sym (encodes-chars text v) ∙ ap encode_utf8_all parts ∙ encodes-append (chars front) rest ∙ ap (λ (bs : List ℕ). bs ++ encode_utf8_all rest) (encodes-chars front u)))

-- If bytes don't begin with the bytes of the prefix, `non_empty_suffix` returns nothing.
pub non_empty_suffix-none : (front text : List ℕ) → IsUtf8 front → IsUtf8 text → ((rest : List ℕ) → text ≡ front ++ rest → ⊥) → non_empty_suffix (chars front) (chars text) ≡ None
non_empty_suffix-none front text u v lacks = none-next front text u v lacks (after_prefix (chars front) (chars text)) refl
