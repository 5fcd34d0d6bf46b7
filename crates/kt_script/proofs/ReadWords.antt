-- `lexeme_at` returns the name or number at the beginning of a text.
use Rattle.std.proofs.Common.{◌≡◌, ℕ, ◌+◌, ◌<◌, ◌≤◌, ◌^◌, Bool, true, false, cond, eqb, ◌||◌, List, [], ◌∷◌, ◌++◌, length, take, Option, Some, None, refl, ap, sym, subst, ◌∙◌, arith, IfSome}
use Rattle.kt_script.proofs.Common.{nat_tests, or_parts, prefix_len, take-append_seam, drop-append_seam, eqb-true, Bad, TokenKind, Number, OpenParen, CloseParen, OpenBrace, CloseBrace, OpenBracket, CloseBracket, Equals, Comma, Semicolon, Dot, punctuation_kind_of, is_space, is_name_start, is_name_byte, is_digit, decimal_from, number_in_64_bits, token, invalid_lexeme, kind_of_word, AllSatisfy, StopsAt, is_quote, IsInvalidFirstByte, name_at, number_lexeme, number_at, begins_with_name_start, quoted_at, comment_at, lexeme_at}

-- ---- classes

pub quote_range : (c : ℕ) → is_quote c ≡ true → (34 ≤ c) × (c ≤ 39)
quote_range c e = (grind (arith, nat_tests, e), grind (arith, nat_tests, e))

-- a property that holds of each punctuation byte and its token holds of all results of
-- `punctuation_kind_of`
module _ (P : ℕ → TokenKind → Type 0) where
  is_mark : (c n : ℕ) (kind : TokenKind) (b : Bool) (o : Option TokenKind) → eqb c n ≡ b → P n kind → IfSome o (P c) → IfSome (cond b (Some kind) o) (P c)
  is_mark c n kind true o e here rest = subst (λ (x : ℕ). P x kind) (sym (eqb-true c n e)) here
  is_mark c n kind false o e here rest = rest

  pub every_mark : P 40 OpenParen → P 41 CloseParen → P 123 OpenBrace → P 125 CloseBrace → P 91 OpenBracket → P 93 CloseBracket → P 61 Equals
      → P 44 Comma → P 59 Semicolon → P 46 Dot
      → (c : ℕ) → IfSome (punctuation_kind_of c) (P c)
  every_mark paren close_paren brace close_brace bracket close_bracket equals comma semicolon dot c =
      is_mark c 40 OpenParen (eqb c 40) _ refl paren (is_mark c 41 CloseParen (eqb c 41) _ refl close_paren
      (is_mark c 123 OpenBrace (eqb c 123) _ refl brace (is_mark c 125 CloseBrace (eqb c 125) _ refl close_brace
      (is_mark c 91 OpenBracket (eqb c 91) _ refl bracket (is_mark c 93 CloseBracket (eqb c 93) _ refl close_bracket
      (is_mark c 61 Equals (eqb c 61) _ refl equals (is_mark c 44 Comma (eqb c 44) _ refl comma
      (is_mark c 59 Semicolon (eqb c 59) _ refl semicolon (is_mark c 46 Dot (eqb c 46) None refl dot tt)))))))))

-- ---- runs

pub each_run : (p : ℕ → Bool) (xs after : List ℕ) → AllSatisfy p xs → StopsAt p after → prefix_len p (xs ++ after) ≡ length xs
each_run p [] [] h stop = refl
each_run p [] (c ∷ cs) h stop = ap (λ (b : Bool). cond b (1 + prefix_len p cs) 0) stop
each_run p (x ∷ xs) after h stop = grind (arith, h.0, each_run p xs after h.1 stop)

-- ---- the lexeme that begins with a byte

pub at_letter : (c : ℕ) (cs : List ℕ) → is_name_start c ≡ true → lexeme_at (c ∷ cs) ≡ name_at (c ∷ cs)
unfolding lexeme_at
at_letter c cs e = let no_space : is_space c ≡ false = grind (arith, nat_tests, e) in rw (no_space, e) refl

pub at_digit : (c : ℕ) (cs : List ℕ) → is_digit c ≡ true → lexeme_at (c ∷ cs) ≡ number_at (c ∷ cs)
unfolding lexeme_at
at_digit c cs e =
    let no_space : is_space c ≡ false = grind (arith, nat_tests, e) in
    let no_letter : is_name_start c ≡ false = grind (arith, nat_tests, e) in
    rw (no_space, no_letter, e) refl

pub at_quote : (c : ℕ) (cs : List ℕ) → is_quote c ≡ true → lexeme_at (c ∷ cs) ≡ quoted_at c (c ∷ cs)
unfolding lexeme_at
at_quote c cs e =
    let no_space : is_space c ≡ false = grind (arith, nat_tests, e) in
    let no_letter : is_name_start c ≡ false = grind (arith, nat_tests, e) in
    let no_digit : is_digit c ≡ false = grind (arith, nat_tests, e) in
    rw (no_space, no_letter, no_digit, e) refl

pub at_dash : (cs : List ℕ) → lexeme_at (45 ∷ cs) ≡ comment_at (45 ∷ cs)
unfolding lexeme_at
at_dash cs = refl

pub at_strange : (c : ℕ) (cs : List ℕ) → IsInvalidFirstByte c → lexeme_at (c ∷ cs) ≡ invalid_lexeme (c ∷ cs) Bad
unfolding lexeme_at
at_strange c cs s =
    let a = s.no_space in let b = s.no_letter in let d = s.no_digit in let q = s.no_quote in let m = s.no_dash in let n = s.no_mark in
    rw (a, b, d, q, m, n) refl

-- ---- names and numbers

pub name_is : (c : ℕ) (cs after : List ℕ) → is_name_start c ≡ true → AllSatisfy is_name_byte cs → StopsAt is_name_byte after → lexeme_at ((c ∷ cs) ++ after) ≡ token (length (c ∷ cs)) (kind_of_word (c ∷ cs))
name_is c cs after e each stop =
    let first : is_name_byte c ≡ true = ap (λ (b : Bool). b || is_digit c) e in
    at_letter c (cs ++ after) e ∙ ap (λ (n : ℕ). token n (kind_of_word (take n ((c ∷ cs) ++ after)))) (each_run is_name_byte (c ∷ cs) after (first, each) stop)
    ∙ ap (λ (letters : List ℕ). token (length (c ∷ cs)) (kind_of_word letters)) (take-append_seam (c ∷ cs) after)

pub digits_are : (c : ℕ) (cs after : List ℕ) → AllSatisfy is_digit (c ∷ cs) → StopsAt is_digit after
    → lexeme_at ((c ∷ cs) ++ after) ≡ number_lexeme ((c ∷ cs) ++ after) (length (c ∷ cs)) (begins_with_name_start after) (number_in_64_bits (decimal_from 0 (c ∷ cs)))
digits_are c cs after each stop =
    at_digit c (cs ++ after) each.0
    ∙ rw (each_run is_digit (c ∷ cs) after each stop, drop-append_seam (c ∷ cs) after, take-append_seam (c ∷ cs) after) refl

pub stops_digits : (after : List ℕ) → StopsAt is_name_byte after → (StopsAt is_digit after) × (begins_with_name_start after ≡ false)
stops_digits [] stop = (tt, refl)
stops_digits (c ∷ cs) stop =
    let parts = or_parts (is_name_start c) (is_digit c) stop in
    (parts.1, parts.0)

pub number_is : (c : ℕ) (cs after : List ℕ) → AllSatisfy is_digit (c ∷ cs) → StopsAt is_name_byte after → decimal_from 0 (c ∷ cs) < 2 ^ 64 → lexeme_at ((c ∷ cs) ++ after) ≡ token (length (c ∷ cs)) (Number (decimal_from 0 (c ∷ cs)))
number_is c cs after each stop small =
    let s = stops_digits after stop in
    let no_letter = s.1 in
    digits_are c cs after each s.0 ∙ rw no_letter (grind (arith, nat_tests, small))

pub large_is : (text : List ℕ) (n : ℕ) (b : Bool) (v : ℕ) → 2 ^ 64 ≤ v → number_lexeme text n b (number_in_64_bits v) ≡ invalid_lexeme text Bad
large_is text n b v large = grind (arith, nat_tests)

letter_no_digit : (d : ℕ) → is_name_start d ≡ true → is_digit d ≡ false
letter_no_digit d e = grind (arith, nat_tests, e)

pub lettered_is : (c d : ℕ) (cs after : List ℕ) → AllSatisfy is_digit (c ∷ cs) → is_name_start d ≡ true → lexeme_at ((c ∷ cs) ++ d ∷ after) ≡ invalid_lexeme ((c ∷ cs) ++ d ∷ after) Bad
lettered_is c d cs after each letter =
    digits_are c cs (d ∷ after) each (letter_no_digit d letter) ∙ ap (λ (b : Bool). number_lexeme ((c ∷ cs) ++ d ∷ after) (length (c ∷ cs)) b (number_in_64_bits (decimal_from 0 (c ∷ cs)))) letter
