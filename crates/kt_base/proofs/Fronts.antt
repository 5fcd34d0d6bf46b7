-- Lossy decoding: the characters at the beginning of bytes, and a byte where no character begins.
use Rattle.std.proofs.Common.{◌≡◌, ℕ, zero, suc, ◌+◌, ◌-◌, ◌<◌, ◌≤◌, Bool, true, false, List, [], ◌∷◌, ◌++◌, length, take, drop, get_or, Some, None, Option, refl, ap, ◌∙◌, sym, subst, append_assoc, length-append, take-append-drop, drop-cons, add-one, arith, nat_le, ◌==◌, encode_utf8, encode_utf8_all}
use Rattle.kt_base.proofs.Common.{IsScalar, IsUtf8, IsValidUpTo, is_utf8, chars, append-nil, length-take-le, le-leb, leb-true, eqb-true, false_from_ne_true, and_parts, IsUtf8-from_is_utf8, is_utf8-from_IsUtf8, IsUtf8-encode, IsUtf8-append, chars-encodes, chars_from_encodes, encode_same, len_utf8_bounds, length-encode, utf8_prefix, leading_character, decoded_character, continuation_length, lossy_from, lossy}
use Rattle.std.proofs.Math.Utf8.{scalars}
use Rattle.std.proofs.Math.Seq.{drop-append_seam, take-append_seam, take-add}

-- `utf8_prefix bytes n` is nothing if `bytes` has fewer than `n` bytes, or if its first `n` bytes
-- are not UTF-8
front_none : (n : ℕ) (bytes : List ℕ) → (n ≤ length bytes → IsUtf8 (take n bytes) → ⊥) → utf8_prefix bytes n ≡ None
front_none n bytes bad = by_length (nat_le n (length bytes)) refl
  where
    by_length : (b : Bool) → nat_le n (length bytes) ≡ b → utf8_prefix bytes n ≡ None
    by_length false e = rw e refl
    by_length true e = rw (e, false_from_ne_true (is_utf8 (take n bytes)) (λ u. bad (leb-true n (length bytes) e) (IsUtf8-from_is_utf8 (take n bytes) u))) refl

front_some : (s rest : List ℕ) → IsUtf8 s → utf8_prefix (s ++ rest) (length s) ≡ Some s
front_some s rest u =
    let there : nat_le (length s) (length (s ++ rest)) ≡ true = le-leb _ _ (omega (arith, length-append s rest)) in
    rw (take-append_seam s rest, there, is_utf8-from_IsUtf8 s u) refl

-- no proper prefix of a character's bytes is UTF-8, except the empty prefix
no_less : (c n : ℕ) (rest : List ℕ) → 0 < n → n < length (encode_utf8 c) → IsUtf8 (take n (encode_utf8 c ++ rest)) → ⊥
no_less c n rest some less u = by_text u.0 u.1.1
  where
    bs : List ℕ
    bs = encode_utf8 c ++ rest

    long : length (take n bs) ≡ n
    long = length-take-le n bs (omega (arith, length-append (encode_utf8 c) rest))

    by_text : (cs : List ℕ) → encode_utf8_all cs ≡ take n bs → ⊥
    by_text [] e = let z = ap length e in omega (arith, long, z, some)
    by_text (d ∷ ds) e =
        let whole : bs ≡ encode_utf8 d ++ (encode_utf8_all ds ++ drop n bs) =
        sym (take-append-drop n bs) ∙ ap (λ (xs : List ℕ). xs ++ drop n bs) (sym e) ∙ append_assoc (encode_utf8 d) (encode_utf8_all ds) (drop n bs) in
        let same = ap (λ (x : ℕ). length (encode_utf8 x)) (encode_same c d rest _ whole).0 in
        let z = ap length e ∙ long in
        omega (arith, z, same, less, length-append (encode_utf8 d) (encode_utf8_all ds))

-- `leading_character` is the shortest prefix of 1 to 4 bytes that is UTF-8
least : (k : ℕ) (bytes s : List ℕ) → utf8_prefix bytes k ≡ Some s → ((n : ℕ) → 0 < n → n < k → utf8_prefix bytes n ≡ None) → 0 < k → k ≤ 4 → leading_character bytes ≡ Some s
unfolding leading_character
least zero bytes s at below some few = absurd (omega (arith, some))
least (suc zero) bytes s at below some few = rw at refl
least (suc (suc zero)) bytes s at below some few = rw (below 1 (omega arith) (omega arith), at) refl
least (suc (suc (suc zero))) bytes s at below some few = rw (below 1 (omega arith) (omega arith), below 2 (omega arith) (omega arith), at) refl
least (suc (suc (suc (suc zero)))) bytes s at below some few = rw (below 1 (omega arith) (omega arith), below 2 (omega arith) (omega arith), below 3 (omega arith) (omega arith), at) refl
least (suc (suc (suc (suc (suc k))))) bytes s at below some few = absurd (omega (arith, few))

first_character : (c : ℕ) (rest : List ℕ) → IsScalar c → leading_character (encode_utf8 c ++ rest) ≡ Some (encode_utf8 c)
first_character c rest s =
    let bounds = len_utf8_bounds c in
    let width = length-encode c in
    least (length (encode_utf8 c)) _ _ (front_some (encode_utf8 c) rest (IsUtf8-encode c s)) (λ n some less. front_none n _ (λ there. no_less c n rest some less))
    (omega (arith, bounds.0, width)) (omega (arith, bounds.1, width))

skips : (n : ℕ) (bytes : List ℕ) → lossy_from n bytes ≡ lossy (drop n bytes)
unfolding lossy_from
skips zero bytes = refl
skips (suc n) [] = refl
skips (suc n) (b ∷ bytes) = skips n bytes

one_less : (n : ℕ) → suc n - 1 ≡ n
one_less n = omega arith

-- bytes that begin with a character's encoding decode to that character and the text of the rest
past_first : (s rest : List ℕ) → 0 < length s → leading_character (s ++ rest) ≡ Some s → lossy (s ++ rest) ≡ chars s ++ lossy rest
unfolding lossy_from
past_first [] rest some is = absurd (omega (arith, some))
past_first (b ∷ s) rest some is =
    ap (λ (o : Option (List ℕ)). decoded_character o ++ lossy_from (continuation_length o) (s ++ rest)) is
    ∙ ap (λ (n : ℕ). chars (b ∷ s) ++ lossy_from n (s ++ rest)) (one_less (length s))
    ∙ ap (λ (xs : List ℕ). chars (b ∷ s) ++ xs) (skips (length s) (s ++ rest) ∙ ap lossy (drop-append_seam s rest))

-- bytes that begin with the encoding of a text decode to that text and the text of the rest
past_text : (cs rest : List ℕ) → scalars cs ≡ true → lossy (encode_utf8_all cs ++ rest) ≡ cs ++ lossy rest
past_text [] rest s = refl
past_text (c ∷ cs) rest s =
    let each = and_parts _ _ s in
    let more = encode_utf8_all cs ++ rest in
    let bounds = len_utf8_bounds c in
    let width = length-encode c in
    let one : chars (encode_utf8 c) ≡ c ∷ [] = ap chars (sym (append-nil (encode_utf8 c))) ∙ chars-encodes (c ∷ []) (rw each.0 refl) in
    ap lossy (append_assoc (encode_utf8 c) (encode_utf8_all cs) rest) ∙ past_first (encode_utf8 c) more (omega (arith, bounds.0, width)) (first_character c more each.0)
    ∙ (λ i. one i ++ past_text cs rest each.1 i)

-- a byte where no character begins decodes to U+FFFD
past_byte : (b : ℕ) (bytes : List ℕ) → ((n : ℕ) → 0 < n → n ≤ length (b ∷ bytes) → IsUtf8 (take n (b ∷ bytes)) → ⊥) → lossy (b ∷ bytes) ≡ 65533 ∷ lossy bytes
unfolding lossy_from leading_character
past_byte b bytes bad =
    rw (front_none 1 (b ∷ bytes) (bad 1 (omega arith)), front_none 2 (b ∷ bytes) (bad 2 (omega arith)), front_none 3 (b ∷ bytes) (bad 3 (omega arith)), front_none 4 (b ∷ bytes) (bad 4 (omega arith))) refl

-- if the first `n` of some bytes are valid and byte `n` is not, the bytes decode to the text of the
-- first `n` bytes, U+FFFD, and the text of the bytes after byte `n`
pub past_fault : (bytes : List ℕ) (n : ℕ) → IsValidUpTo bytes n → lossy bytes ≡ chars (take n bytes) ++ 65533 ∷ lossy (drop (suc n) bytes)
past_fault bytes n valid =
    let u = valid.front in
    let b = get_or bytes n 0 in
    let after = drop-cons bytes n 0 valid.short in
    let none : (m : ℕ) → 0 < m → m ≤ length (b ∷ drop (suc n) bytes) → IsUtf8 (take m (b ∷ drop (suc n) bytes)) → ⊥ = λ m some there v.
    let front : take (n + m) bytes ≡ take n bytes ++ take m (b ∷ drop (suc n) bytes) = take-add n m bytes ∙ ap (λ (bs : List ℕ). take n bytes ++ take m bs) after in
    valid.longest (n + m) (omega (arith, some)) (subst IsUtf8 (sym front) (IsUtf8-append (take n bytes) (take m (b ∷ drop (suc n) bytes)) u v)) in
    ap lossy (sym (take-append-drop n bytes)) ∙ (λ i. lossy (sym u.1.1 i ++ after i)) ∙ past_text u.0 _ u.1.0
    ∙ (λ i. chars_from_encodes u.0 (take n bytes) u u.1.1 i ++ past_byte b (drop (suc n) bytes) none i)

-- the final text is preserved if the next bytes, valid ones or up to an invalid byte, are decoded
pub all_text : (old new bytes : List ℕ) → IsUtf8 bytes → new ≡ old ++ chars bytes → new ++ lossy [] ≡ old ++ lossy bytes
unfolding lossy_from
all_text old new bytes u pushed =
    let text = past_text u.0 [] u.1.0 ∙ append-nil u.0 ∙ chars_from_encodes u.0 bytes u u.1.1 in
    let whole : lossy bytes ≡ chars bytes = ap lossy (sym u.1.1 ∙ sym (append-nil (encode_utf8_all u.0))) ∙ text in
    append-nil new ∙ pushed ∙ ap (λ (xs : List ℕ). old ++ xs) (sym whole)

pub one_fault : (old middle new bytes : List ℕ) (n : ℕ) → IsValidUpTo bytes n → middle ≡ old ++ chars (take n bytes) → new ≡ middle ++ 65533 ∷ [] → new ++ lossy (drop (n + 1) bytes) ≡ old ++ lossy bytes
one_fault old middle new bytes n valid first last =
    rw (last, first, add-one n, append_assoc, append_assoc) (ap (λ (xs : List ℕ). old ++ xs) (sym (past_fault bytes n valid)))

-- the decoded text is the text of all bytes if no bytes remain
pub ends : (text rest all : List ℕ) → text ++ lossy rest ≡ all → true ≡ (length rest == 0) → text ≡ all
unfolding lossy_from
ends text [] all so_far none = sym (append-nil text) ∙ so_far
ends text (b ∷ rest) all so_far none = absurd (omega (arith, eqb-true (length (b ∷ rest)) 0 (sym none)))
