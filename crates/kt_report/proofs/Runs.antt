-- The bytes that XML represents by themselves.
use Rattle.std.specs.List.{list_all}
use Rattle.std.proofs.Common.{◌≡◌, ℕ, zero, suc, ◌<◌, ◌≤◌, Bool, true, false, List, [], ◌∷◌, ◌++◌, length, take, drop, get_or, ◌+◌, ◌⊎◌, inl, inr, bytes_eq, refl, ap, ◌∙◌, sym, subst, append_assoc, length-append, take-append-drop, arith, ◌==◌, ◌&&◌, not, encode_utf8, encode_utf8_all}
use Rattle.kt_report.proofs.Common.{prefix_len, chars, IsUtf8, IsCharBoundary, get_or-append-add, get_or-take, length-take, nil_from_length, and_parts, false≢true, eqb-true, cases_lt, ne_eqb, nat_tests, flat_map-append, encode_ascii, chars-nil, chars-append, chars_past_char, encodes-chars, length-encode, len_utf8_bounds, IsUtf8-take, IsUtf8-drop, escaped, escaped_text}
use Rattle.kt_base.proofs.Fronts.{all_text}
use Rattle.kt_base.specs.Lossy.{lossy}
unfoldable use Rattle.kt_base.specs.Lossy.{lossy_from}
use lib.Utf8.{encode}
use Rattle.std.proofs.lemmas.List.{append-nil}
use Rattle.std.proofs.lemmas.List.Sums.{prefix_len-le-length, prefix_len_passes, prefix_len_stops}
use Rattle.std.proofs.lemmas.Slice.Eq.{bytes_eq-Decides}

-- `is_unescaped attribute b`: the result of the code's `is_unescaped`.
abbrev pub is_unescaped : Bool → ℕ → Bool
is_unescaped attribute b = bytes_eq (escaped attribute b) (b ∷ []) && not (b == 239)

-- Most characters past ASCII are written unchanged.
plain : (attribute : Bool) (c : ℕ) → 128 ≤ c → (c == 65534) ≡ false → (c == 65535) ≡ false → escaped attribute c ≡ c ∷ []
plain attribute c high a b = grind (arith, nat_tests)

continues : (attribute : Bool) (b : ℕ) → 128 ≤ b → b < 192 → is_unescaped attribute b ≡ true
continues attribute b high low =
    let same : escaped attribute b ≡ b ∷ [] = plain attribute b high (ne_eqb b 65534 (omega (arith, low))) (ne_eqb b 65535 (omega (arith, low))) in
    rw (same, (bytes_eq-Decides (b ∷ []) (b ∷ [])).1 refl, ne_eqb b 239 (omega (arith, low))) refl

-- If each of the first bytes is written unchanged, the run has at least these bytes.
pub all_first : (p : ℕ → Bool) (n : ℕ) (bytes : List ℕ) → n ≤ length bytes → list_all p (take n bytes) ≡ true → prefix_len p bytes ≡ n + prefix_len p (drop n bytes)
all_first p zero bytes long all = omega arith
all_first p (suc n) [] long all = absurd (omega (arith, long))
all_first p (suc n) (b ∷ bytes) long all =
    let each : (p b ≡ true) × (list_all p (take n bytes) ≡ true) = and_parts _ _ all in
    rw each.0 (omega (arith, all_first p n bytes (omega (arith, long)) each.1))

-- A run ends at the boundary of a character.
pub boundary : (attribute : Bool) (s : List ℕ) (n : ℕ) → n ≡ prefix_len (is_unescaped attribute) s → IsCharBoundary s n
boundary attribute s n is = rw is (prefix_len-le-length (is_unescaped attribute) s, λ short high. by_order short high (cases_lt (get_or s (prefix_len (is_unescaped attribute) s) 0) 192))
  where
    by_order : prefix_len (is_unescaped attribute) s < length s → 128 ≤ get_or s (prefix_len (is_unescaped attribute) s) 0
        → (get_or s (prefix_len (is_unescaped attribute) s) 0 < 192) ⊎ (192 ≤ get_or s (prefix_len (is_unescaped attribute) s) 0) → 192 ≤ get_or s (prefix_len (is_unescaped attribute) s) 0
    by_order short high (inl low) = absurd (false≢true (sym (prefix_len_stops (is_unescaped attribute) s 0 short) ∙ continues attribute _ high low))
    by_order short high (inr first) = first

-- A character of a run is written unchanged.
char_stands : (attribute : Bool) (c : ℕ) (rest : List ℕ) → is_unescaped attribute (get_or (encode_utf8 c ++ rest) 0 0) ≡ true → escaped attribute c ≡ c ∷ []
unfolding encode
char_stands attribute c rest first = by_size (cases_lt c 128)
  where
    by_last : (b : Bool) → (c == 65535) ≡ b → (c == 65534) ≡ false → 128 ≤ c → escaped attribute c ≡ c ∷ []
    by_last false e d high = plain attribute c high d e
    by_last true e d high = absurd (false≢true (subst (λ (x : ℕ). is_unescaped attribute (get_or (encode_utf8 x ++ rest) 0 0) ≡ true) (eqb-true c 65535 e) first))

    by_other : (b : Bool) → (c == 65534) ≡ b → 128 ≤ c → escaped attribute c ≡ c ∷ []
    by_other false d high = by_last (c == 65535) refl d high
    by_other true d high = absurd (false≢true (subst (λ (x : ℕ). is_unescaped attribute (get_or (encode_utf8 x ++ rest) 0 0) ≡ true) (eqb-true c 65534 d) first))

    by_size : (c < 128) ⊎ (128 ≤ c) → escaped attribute c ≡ c ∷ []
    by_size (inl low) =
        let byte = subst (λ (bs : List ℕ). is_unescaped attribute (get_or (bs ++ rest) 0 0) ≡ true) (encode_ascii c low) first in
        (bytes_eq-Decides (escaped attribute c) (c ∷ [])).0 (and_parts _ _ byte).0
    by_size (inr high) = by_other (c == 65534) refl high

-- Each character of a run is written unchanged.
chars_stand : (attribute : Bool) (cs : List ℕ) → ((i : ℕ) → i < length (encode_utf8_all cs) → is_unescaped attribute (get_or (encode_utf8_all cs) i 0) ≡ true) → escaped_text attribute cs ≡ cs
chars_stand attribute [] all = refl
chars_stand attribute (c ∷ cs) all =
    let width = length-encode c in
    let bounds = len_utf8_bounds c in
    let both = length-append (encode_utf8 c) (encode_utf8_all cs) in
    let one = char_stands attribute c (encode_utf8_all cs) (all 0 (omega (arith, width, bounds.0, both))) in
    let others = chars_stand attribute cs (λ i less.
    subst (λ (b : ℕ). is_unescaped attribute b ≡ true) (get_or-append-add (encode_utf8 c) (encode_utf8_all cs) i 0) (all (length (encode_utf8 c) + i) (omega (arith, both, less)))) in
    λ i. one i ++ others i

run_stands : (attribute : Bool) (s : List ℕ) (n : ℕ) → n ≡ prefix_len (is_unescaped attribute) s → IsUtf8 (take n s) → escaped_text attribute (chars (take n s)) ≡ chars (take n s)
run_stands attribute s n is u =
    let spelt = encodes-chars (take n s) u in
    let short = length-take n s in
    chars_stand attribute (chars (take n s)) (λ i less.
    let within : i < n = let long = ap length spelt in omega (arith, less, long, short) in
    let byte : get_or (encode_utf8_all (chars (take n s))) i 0 ≡ get_or s i 0 = ap (λ (bs : List ℕ). get_or bs i 0) spelt ∙ get_or-take n s i 0 within in
    ap (is_unescaped attribute) byte ∙ prefix_len_passes (is_unescaped attribute) s i 0 (subst (λ (k : ℕ). i < k) is within))

-- A text is escaped by copying a run and escaping the rest.
split_text : (attribute : Bool) (s rest : List ℕ) (n : ℕ) → n ≡ prefix_len (is_unescaped attribute) s → IsUtf8 s → chars (drop n s) ≡ rest → escaped_text attribute (chars s) ≡ chars (take n s) ++ escaped_text attribute rest
split_text attribute s rest n is u after =
    let front = IsUtf8-take s n u (boundary attribute s n is) in
    let parts : chars s ≡ chars (take n s) ++ rest = ap chars (sym (take-append-drop n s)) ∙ chars-append (take n s) (drop n s) front ∙ ap (λ (cs : List ℕ). chars (take n s) ++ cs) after in
    ap (escaped_text attribute) parts ∙ flat_map-append (escaped attribute) (chars (take n s)) rest ∙ ap (λ (cs : List ℕ). cs ++ escaped_text attribute rest) (run_stands attribute s n is front)

pub run_alone : (attribute : Bool) (old new s : List ℕ) (n : ℕ) → n ≡ prefix_len (is_unescaped attribute) s → IsUtf8 s → length (drop n s) ≡ 0 → new ≡ old ++ chars (take n s)
    → new ++ escaped_text attribute (chars []) ≡ old ++ escaped_text attribute (chars s)
run_alone attribute old new s n is u none pushed =
    let all = split_text attribute s (chars []) n is u (ap chars (nil_from_length (drop n s) none)) in
    rw (pushed, all) (append_assoc old (chars (take n s)) (escaped_text attribute (chars [])))

pub run_and_more : (attribute : Bool) (old middle new s rest : List ℕ) (n c : ℕ) → n ≡ prefix_len (is_unescaped attribute) s → IsUtf8 s → drop n s ≡ encode_utf8 c ++ rest
    → middle ≡ old ++ chars (take n s) → new ≡ middle ++ escaped attribute c → new ++ escaped_text attribute (chars rest) ≡ old ++ escaped_text attribute (chars s)
run_and_more attribute old middle new s rest n c is u next pushed last =
    let after = chars_past_char (drop n s) rest c (IsUtf8-drop s n u (boundary attribute s n is)) next in
    rw (last, pushed, split_text attribute s (c ∷ chars rest) n is u after, append_assoc, append_assoc) refl

-- If no bytes are left, all was written.
pub at_end : (attribute : Bool) (text rest all : List ℕ) → text ++ escaped_text attribute (chars rest) ≡ all → true ≡ (length rest == 0) → text ≡ all
at_end attribute text rest all so_far none =
    let nothing = ap (λ (bs : List ℕ). escaped_text attribute (chars bs)) (nil_from_length rest (eqb-true (length rest) 0 (sym none))) ∙ ap (escaped_text attribute) chars-nil in
    sym (append-nil text) ∙ ap (λ (cs : List ℕ). text ++ cs) (sym nothing) ∙ so_far

-- `lossy` decodes UTF-8 unchanged.
pub lossy_utf8 : (bytes : List ℕ) → IsUtf8 bytes → lossy bytes ≡ chars bytes
unfolding lossy_from
lossy_utf8 bytes u = sym (all_text [] (chars bytes) bytes u refl) ∙ append-nil (chars bytes)
