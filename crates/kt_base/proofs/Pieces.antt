-- The parts of a text between occurrences of an ASCII character.
use Rattle.std.proofs.Common.{◌≡◌, ◌≢◌, ℕ, suc, ◌<◌, Bool, true, false, List, [], ◌∷◌, ◌++◌, map, length, refl, ap, sym, ◌∙◌, arith, encode_utf8, encode_utf8_all, ◌==◌, get_or}
use Rattle.kt_base.proofs.Common.{chars, IsScalar, and_parts, eqb-true, chars-nil, chars-append, IsUtf8-encode, append-nil, encode_same, nat_tests}
use Rattle.std.specs.List.{slice_split, onto_first}
use Rattle.std.proofs.lemmas.List.Splits.{slice_split-cons_yes, slice_split-cons_no}
use Rattle.std.proofs.lemmas.Str.{encode_ascii, chars_past_char}
use Rattle.std.proofs.lemmas.Str.Pattern.{NoCharPasses-char}
use lib.Utf8.{scalar, scalars}

-- mapping the composition of two functions is mapping each in turn
pub fused : {A B C : Type 0} (f : A → B) (g : B → C) (xs : List A) → map (λ x. g (f x)) xs ≡ map g (map f xs)
fused f g [] = refl
fused {C = C} f g (x ∷ xs) = ap (λ (ys : List C). g (f x) ∷ ys) (fused f g xs)

-- a text has at least one part
some_part : (p : ℕ → Bool) (xs : List ℕ) → (part : List ℕ) × (parts : List (List ℕ)) × (slice_split p xs ≡ part ∷ parts)
some_part p [] = ([], [], refl)
some_part p (x ∷ xs) = by (p x) refl (some_part p xs)
  where
    by : (b : Bool) → p x ≡ b → (part : List ℕ) × (parts : List (List ℕ)) × (slice_split p xs ≡ part ∷ parts)
        → (part : List ℕ) × (parts : List (List ℕ)) × (slice_split p (x ∷ xs) ≡ part ∷ parts)
    by true e rest = ([], slice_split p xs, slice_split-cons_yes p x xs e)
    by false e rest = (x ∷ rest.0, rest.1, slice_split-cons_no p x xs e ∙ ap (onto_first x) rest.2)

-- bytes without `sign` that precede a text belong to its first part
onto_part : (sign : ℕ) (xs ys part : List ℕ) (parts : List (List ℕ)) → ((i : ℕ) → i < length xs → get_or xs i 0 ≢ sign)
    → slice_split (λ b. b == sign) ys ≡ part ∷ parts → slice_split (λ b. b == sign) (xs ++ ys) ≡ (xs ++ part) ∷ parts
onto_part sign [] ys part parts lacks e = e
onto_part sign (x ∷ xs) ys part parts lacks e =
    let other : x ≢ sign = lacks 0 (omega arith) in
    slice_split-cons_no (λ b. b == sign) x (xs ++ ys) (grind (arith, nat_tests))
    ∙ ap (onto_first x) (onto_part sign xs ys part parts (λ i l. lacks (suc i) (omega arith)) e)

-- the parts of a text's characters are the characters of the parts of its bytes
pub split-chars : (sign : ℕ) (cs : List ℕ) → sign < 128 → scalars cs ≡ true → map chars (slice_split (λ b. b == sign) (encode_utf8_all cs)) ≡ slice_split (λ c. c == sign) cs
split-chars sign [] small s = ap (λ (part : List ℕ). part ∷ []) chars-nil
split-chars sign (c ∷ cs) small s = let each = and_parts (scalar c) (scalars cs) s in by (c == sign) refl each.0 (split-chars sign cs small each.1)
  where
    rest : List ℕ
    rest = encode_utf8_all cs

    by : (b : Bool) → (c == sign) ≡ b → IsScalar c → map chars (slice_split (λ b. b == sign) rest) ≡ slice_split (λ c. c == sign) cs
        → map chars (slice_split (λ b. b == sign) (encode_utf8 c ++ rest)) ≡ slice_split (λ c. c == sign) (c ∷ cs)
    by true e s tail =
        let ascii : encode_utf8 c ≡ c ∷ [] = encode_ascii c (omega (arith, eqb-true c sign e)) in
        ap (λ (bs : List ℕ). map chars (slice_split (λ b. b == sign) (bs ++ rest))) ascii
        ∙ ap (map chars) (slice_split-cons_yes (λ b. b == sign) c rest e)
        ∙ ap (λ (part : List ℕ). part ∷ map chars (slice_split (λ b. b == sign) rest)) chars-nil
        ∙ ap (λ (parts : List (List ℕ)). [] ∷ parts) tail
        ∙ sym (slice_split-cons_yes (λ d. d == sign) c cs e)
    by false e s tail =
        let first = some_part (λ b. b == sign) rest in
        let lacks : (i : ℕ) → i < length (encode_utf8 c) → get_or (encode_utf8 c) i 0 ≢ sign
        = λ i l. NoCharPasses-char sign (encode_utf8 c) i (c ∷ [], append-nil (encode_utf8 c), (e, tt)) small l in
        let one : chars (encode_utf8 c ++ first.0) ≡ c ∷ chars first.0 =
        chars-append (encode_utf8 c) first.0 (IsUtf8-encode c s)
        ∙ ap (λ (xs : List ℕ). xs ++ chars first.0) (chars_past_char (encode_utf8 c) [] c (IsUtf8-encode c s) (sym (append-nil (encode_utf8 c))) ∙ ap (λ (xs : List ℕ). c ∷ xs) chars-nil) in
        ap (map chars) (onto_part sign (encode_utf8 c) rest first.0 first.1 lacks first.2)
        ∙ ap (λ (part : List ℕ). part ∷ map chars first.1) one
        ∙ ap (onto_first c) (sym (ap (map chars) first.2) ∙ tail)
        ∙ sym (slice_split-cons_no (λ d. d == sign) c cs e)
