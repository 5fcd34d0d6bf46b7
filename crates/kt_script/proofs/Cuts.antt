-- Character boundaries: the rest of a text after a lexeme is UTF-8.
use Rattle.std.proofs.Common.{◌≡◌, ℕ, zero, suc, ◌+◌, ◌<◌, ◌≤◌, Bool, true, false, List, ◌∷◌, length, drop, get_or, refl, ap, sym, subst, ◌∙◌, arith, inl, inr, IsUtf8}
use Rattle.kt_script.proofs.Common.{nat_tests, IsCharBoundary, prefix_len, cases_lt, prefix_len-le-length, prefix_len_passes, prefix_len_stops, IsCharBoundary-start, IsCharBoundary-end, IsCharBoundary-before_ascii, IsCharBoundary-after_ascii, is_space, is_name_byte, is_digit}

-- ---- runs of bytes

-- there is a character boundary after bytes that are all ASCII
ascii_cut : (bs : List ℕ) (n : ℕ) → IsUtf8 bs → n ≤ length bs → ((k : ℕ) → k < n → get_or bs k 0 < 128) → IsCharBoundary bs n
ascii_cut bs zero u le small = IsCharBoundary-start bs u
ascii_cut bs (suc n) u le small =
    let last = IsCharBoundary-after_ascii bs n u (omega arith) (small n (omega arith)) in
    let e : n + 1 ≡ suc n = omega arith in
    subst (IsCharBoundary bs) e last

-- there is a character boundary after a run of bytes of an ASCII class
pub passing_cut : (p : ℕ → Bool) → ((c : ℕ) → p c ≡ true → c < 128) → (bs : List ℕ) → IsUtf8 bs → IsCharBoundary bs (prefix_len p bs)
passing_cut p small bs u = ascii_cut bs (prefix_len p bs) u (prefix_len-le-length p bs) (λ k lt. small (get_or bs k 0) (prefix_len_passes p bs k 0 lt))

-- there is a character boundary before the first byte of an ASCII class, or at the end
pub stopping_cut : (p : ℕ → Bool) → ((c : ℕ) → p c ≡ false → c < 128) → (bs : List ℕ) → IsCharBoundary bs (prefix_len p bs)
stopping_cut p small bs =
    elim (cases_lt (prefix_len p bs) (length bs)) [
      | inl lt ↦ IsCharBoundary-before_ascii bs (prefix_len p bs) lt (small (get_or bs (prefix_len p bs) 0) (prefix_len_stops p bs 0 lt))
      | inr le ↦ let e : length bs ≡ prefix_len p bs = omega (arith, prefix_len-le-length p bs) in subst (IsCharBoundary bs) e (IsCharBoundary-end bs)
    ]

-- ---- classes

pub digit_small : (c : ℕ) → is_digit c ≡ true → c < 128
digit_small c e = grind (arith, nat_tests, e)

pub space_small : (c : ℕ) → is_space c ≡ true → c < 128
space_small c e = grind (arith, nat_tests, e)

pub word_small : (c : ℕ) → is_name_byte c ≡ true → c < 128
word_small c e = grind (arith, nat_tests, e)

pub passing_cut_at : (p : ℕ → Bool) → ((c : ℕ) → p c ≡ true → c < 128) → (text bs : List ℕ) (n : ℕ) → n ≡ prefix_len p bs → bs ≡ text → IsUtf8 text → IsCharBoundary text n
passing_cut_at p small text bs n value same u = subst (IsCharBoundary text) (sym (value ∙ ap (prefix_len p) same)) (passing_cut p small text u)

pub stopping_cut_at : (p : ℕ → Bool) → ((c : ℕ) → p c ≡ false → c < 128) → (text bs : List ℕ) (n : ℕ) → n ≡ prefix_len p bs → bs ≡ text → IsCharBoundary text n
stopping_cut_at p small text bs n value same = subst (IsCharBoundary text) (sym (value ∙ ap (prefix_len p) same)) (stopping_cut p small text)

pub first_cut : (c : ℕ) (text : List ℕ) → text ≡ c ∷ drop 1 text → IsUtf8 text → c < 128 → IsCharBoundary text 1
first_cut c text parts u small =
    let e : 0 + 1 ≡ 1 = refl in
    let len = ap (λ (xs : List ℕ). length xs) parts in
    let here = ap (λ (xs : List ℕ). get_or xs 0 0) parts in
    subst (IsCharBoundary text) e (IsCharBoundary-after_ascii text 0 u (omega (arith, len)) (omega (arith, here, small)))
