-- The loop that reads a string: the bytes read so far and the rest.
use Rattle.std.proofs.Common.{◌≡◌, ℕ, zero, suc, ◌+◌, ◌-◌, ◌<◌, ◌≤◌, false, List, [], ◌∷◌, ◌++◌, length, take, drop, get_or, Ok, Err, ap, sym, ◌∙◌, subst, arith, length-drop, IsUtf8}
use Rattle.kt_script.proofs.Common.{nat_tests, chars, IsAscii, IsCharBoundary, prefix_len, append-nil, prefix_len-le-length, chars-nil, chars-append, chars-IsAscii, IsUtf8-nil, IsUtf8-append, IsUtf8-from_ascii, IsUtf8-take, IsUtf8-drop, IsCharBoundary-after_ascii, Flaw, StringElement, Quote, Escape, Flawed, with_prefix, string_element_at, string_at, decoded_string, is_plain}
use Rattle.kt_script.proofs.Cuts.{stopping_cut_at}
use Rattle.kt_script.proofs.StringRuns.{with_front_twice, with_front_none, plain_run, no_more, after_stop, stops}

-- ---- the reading of a string

-- `ReadsOn quote string rest text`: in a string that `quote` closes, the bytes of `text` before its
-- suffix `rest` represent the characters `string`
pub record ReadsOn (quote : ℕ) (string rest text : List ℕ) : Type 0 where
  pub front : List ℕ
  pub utf8 : IsUtf8 front
  pub is : string ≡ chars front
  pub count : ℕ
  pub so_far : with_prefix front count (string_at quote false rest) ≡ string_at quote false text
  pub len : count + length rest ≡ length text

pub begins : (quote : ℕ) (text : List ℕ) → ReadsOn quote [] text text
begins quote text = record { front = []; utf8 = IsUtf8-nil; is = sym chars-nil; count = 0; so_far = with_front_none (string_at quote false text); len = omega arith }

pub reads_run : (quote : ℕ) (string rest text new plain after : List ℕ) (n : ℕ) → ReadsOn quote string rest text → n ≡ prefix_len (is_plain quote) rest
    → plain ≡ take n rest → after ≡ drop n rest → IsUtf8 plain → new ≡ string ++ chars plain → ReadsOn quote new after text
reads_run quote string rest text new plain after n h n_is plain_is after_is utf8 pushed =
    let le : n ≤ length rest = omega (arith, prefix_len-le-length (is_plain quote) rest) in
    let run : string_at quote false rest ≡ with_prefix plain n (string_at quote false after) =
    subst (λ (m : ℕ). string_at quote false rest ≡ with_prefix (take m rest) m (string_at quote false (drop m rest))) (sym n_is) (plain_run quote rest)
    ∙ ap (λ (xs : List ℕ). with_prefix xs n (string_at quote false (drop n rest))) (sym plain_is) ∙ ap (λ (xs : List ℕ). with_prefix plain n (string_at quote false xs)) (sym after_is) in
    record {
      front = h.front ++ plain;
      utf8 = IsUtf8-append h.front plain h.utf8 utf8;
      is = pushed ∙ ap (λ (xs : List ℕ). xs ++ chars plain) h.is ∙ sym (chars-append h.front plain h.utf8);
      count = h.count + n;
      so_far = sym (with_front_twice h.front plain h.count n (string_at quote false after)) ∙ ap (with_prefix h.front h.count) (sym run) ∙ h.so_far;
      len = omega (arith, h.len, ap length after_is, length-drop n rest);
    }

-- an escape is two bytes, and both its second byte and its character are ASCII
escape_is : (quote d : ℕ) (text : List ℕ) → string_element_at quote text ≡ Escape d → (2 ≤ length text) × (get_or text 1 0 < 128) × (d < 128)
escape_is quote d [] e = absurd cc
escape_is quote d (c ∷ []) e = absurd (grind (arith, e))
escape_is quote d (c ∷ letter ∷ rest) e = (omega arith, grind (arith, nat_tests, e), grind (arith, nat_tests, e))

pub escape_cut : (quote d : ℕ) (text : List ℕ) → IsUtf8 text → string_element_at quote text ≡ Escape d → IsCharBoundary text 2
escape_cut quote d text u e =
    let is = escape_is quote d text e in
    IsCharBoundary-after_ascii text 1 u (omega (arith, is.0)) is.1

pub reads_escape : (quote d : ℕ) (string after text new left : List ℕ) → ReadsOn quote string after text → prefix_len (is_plain quote) after ≡ 0 → string_element_at quote after ≡ Escape d
    → new ≡ string ++ d ∷ [] → left ≡ drop 2 after → ReadsOn quote new left text
reads_escape quote d string after text new left h none stop pushed left_is =
    let is = escape_is quote d after stop in
    let ascii : IsAscii (d ∷ []) = one_ascii d is.2 in
    let here : string_at quote false after ≡ with_prefix (d ∷ []) 2 (string_at quote false left) =
    stops quote after none ∙ ap (after_stop quote after) stop ∙ ap (λ (xs : List ℕ). with_prefix (d ∷ []) 2 (string_at quote false xs)) (sym left_is) in
    record {
      front = h.front ++ d ∷ [];
      utf8 = IsUtf8-append h.front (d ∷ []) h.utf8 (IsUtf8-from_ascii (d ∷ []) ascii);
      is = pushed ∙ ap (λ (xs : List ℕ). xs ++ d ∷ []) h.is ∙ ap (λ (xs : List ℕ). chars h.front ++ xs) (sym (chars-IsAscii (d ∷ []) ascii)) ∙ sym (chars-append h.front (d ∷ []) h.utf8);
      count = h.count + 2;
      so_far = sym (with_front_twice h.front (d ∷ []) h.count 2 (string_at quote false left)) ∙ ap (with_prefix h.front h.count) (sym here) ∙ h.so_far;
      len = omega (arith, h.len, ap length left_is, is.0, length-drop 2 after);
    }
  where
    one_ascii : (d : ℕ) → d < 128 → IsAscii (d ∷ [])
    one_ascii d small zero = small
    one_ascii d small (suc k) = omega arith

pub reads_end : (quote n : ℕ) (string after text : List ℕ) → ReadsOn quote string after text → prefix_len (is_plain quote) after ≡ 0 → string_element_at quote after ≡ Quote
    → n ≡ length text - length after + 1 → Ok (string, n) ≡ decoded_string (string_at quote false text)
reads_end quote n string after text h none stop n_is =
    let here : string_at quote false after ≡ Ok ([], 1) = stops quote after none ∙ ap (after_stop quote after) stop in
    let all : Ok (h.front ++ [], h.count + 1) ≡ string_at quote false text = sym (ap (with_prefix h.front h.count) here) ∙ h.so_far in
    let end : n ≡ h.count + 1 = omega (arith, h.len, n_is) in
    ap (λ (xs : List ℕ). Ok (xs, n)) (h.is ∙ ap chars (sym (append-nil h.front))) ∙ ap (λ (m : ℕ). Ok (chars (h.front ++ []), m)) end ∙ ap decoded_string all

pub reads_flaw : (quote : ℕ) (string after text : List ℕ) (flaw : Flaw) → ReadsOn quote string after text → prefix_len (is_plain quote) after ≡ 0 → string_element_at quote after ≡ Flawed flaw
    → Err flaw ≡ decoded_string (string_at quote false text)
reads_flaw quote string after text flaw h none stop =
    let here : string_at quote false after ≡ Err flaw = stops quote after none ∙ ap (after_stop quote after) stop in
    ap decoded_string (sym (ap (with_prefix h.front h.count) here) ∙ h.so_far)

-- ---- the code's steps

plain_stops : (quote : ℕ) → quote < 128 → (c : ℕ) → is_plain quote c ≡ false → c < 128
plain_stops quote small c e = grind (arith, nat_tests, e)

pub plain_cut : (quote n : ℕ) (rest bytes : List ℕ) → quote < 128 → n ≡ prefix_len (is_plain quote) bytes → bytes ≡ rest → IsCharBoundary rest n
plain_cut quote n rest bytes small n_is same = stopping_cut_at (is_plain quote) (plain_stops quote small) rest bytes n n_is same

-- `Stops quote string after text stop`: in a string that `quote` closes, the bytes of `text` before
-- its suffix `after` represent the characters `string`. `after` begins with the element `stop` of
-- the string, which follows plain bytes
pub record Stops (quote : ℕ) (string after text : List ℕ) (stop : StringElement) : Type 0 where
  pub reads : ReadsOn quote string after text
  pub none : prefix_len (is_plain quote) after ≡ 0
  pub utf8 : IsUtf8 after
  pub stands : string_element_at quote after ≡ stop

pub comes_to : (quote n : ℕ) (string rest text new plain after bytes front : List ℕ) (stop told : StringElement) → quote < 128 → ReadsOn quote string rest text → IsUtf8 rest
    → n ≡ prefix_len (is_plain quote) bytes → bytes ≡ rest → plain ≡ take n rest → after ≡ drop n rest → new ≡ string ++ chars plain
    → told ≡ string_element_at quote front → front ≡ after → told ≡ stop → Stops quote new after text stop
comes_to quote n string rest text new plain after bytes front stop told small h u n_is same plain_is after_is pushed told_is front_is is =
    let cut = plain_cut quote n rest bytes small n_is same in
    let n_at : n ≡ prefix_len (is_plain quote) rest = n_is ∙ ap (prefix_len (is_plain quote)) same in
    let plain_utf8 : IsUtf8 plain = subst IsUtf8 (sym plain_is) (IsUtf8-take rest n u cut) in
    record {
      reads = reads_run quote string rest text new plain after n h n_at plain_is after_is plain_utf8 pushed;
      none = ap (prefix_len (is_plain quote)) after_is ∙ ap (λ (m : ℕ). prefix_len (is_plain quote) (drop m rest)) n_at ∙ no_more (is_plain quote) rest;
      utf8 = subst IsUtf8 (sym after_is) (IsUtf8-drop rest n u cut);
      stands = ap (string_element_at quote) (sym front_is) ∙ sym told_is ∙ is;
    }
