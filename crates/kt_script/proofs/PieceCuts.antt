-- A lexeme is not empty and ends at a character boundary: ASCII precedes or follows its end, or the
-- text ends there.
use Rattle.std.proofs.Common.{◌≡◌, ℕ, ◌+◌, ◌<◌, Bool, true, false, eqb, ◌||◌, List, [], ◌∷◌, ◌++◌, length, get_or, Option, Some, None, refl, ap, sym, subst, ◌∙◌, arith, append_assoc, length-append, inl, inr, IsUtf8}
use Rattle.kt_script.proofs.Common.{nat_tests, append-nil, IsCharBoundary, prefix_len, eqb-true, not-false, IsCharBoundary-end, IsCharBoundary-after_ascii, IsCharBoundary-from_rest, TokenKind, Lexeme, is_space, is_name_byte, is_digit, punctuation_kind_of, lexeme_at, AllSatisfy, StopsAt, is_not_newline, Closes, not_yet, IsBlank, space, line_comment, long_comment, IsToken, name_token, number_token, string_token, punctuation_token, invalid_token}
use Rattle.std.proofs.lemmas.List.{get_or_at}
use Rattle.kt_script.specs.TokenRules.{closed}
use Rattle.kt_script.proofs.Cuts.{passing_cut, stopping_cut, space_small, digit_small, word_small}
use Rattle.kt_script.proofs.OneReading.{IsRead, word_read}
use Rattle.kt_script.proofs.ReadStrings.{long_is, line_is}
use Rattle.kt_script.proofs.ReadWords.{each_run, quote_range, stops_digits}
use Rattle.kt_script.proofs.SomeReading.{something_first}

-- `IsCut text n`: `n` is at least 1, and the first `n` bytes of `text` end at a character boundary
pub record IsCut (text : List ℕ) (n : ℕ) : Type 0 where
  pub some : 0 < n
  pub boundary : IsCharBoundary text n

-- there is a character boundary after a whole run of bytes of an ASCII class
run_cut : (p : ℕ → Bool) → ((c : ℕ) → p c ≡ true → c < 128) → (xs after : List ℕ) → AllSatisfy p xs → StopsAt p after → IsUtf8 (xs ++ after)
    → IsCharBoundary (xs ++ after) (length xs)
run_cut p small xs after each stop u = subst (IsCharBoundary (xs ++ after)) (each_run p xs after each stop) (passing_cut p small (xs ++ after) u)

-- there is a character boundary after an ASCII byte
last_cut : (xs : List ℕ) (c : ℕ) (after : List ℕ) → c < 128 → IsUtf8 ((xs ++ c ∷ []) ++ after)
    → IsCharBoundary ((xs ++ c ∷ []) ++ after) (length (xs ++ c ∷ []))
last_cut xs c after small u =
    let all = length-append (xs ++ c ∷ []) after in
    let len : length xs + 1 ≡ length (xs ++ c ∷ []) = omega (arith, length-append xs (c ∷ [])) in
    let last : get_or ((xs ++ c ∷ []) ++ after) (length xs) 0 ≡ c = ap (λ (ys : List ℕ). get_or ys (length xs) 0) (append_assoc xs (c ∷ []) after) ∙ get_or_at xs c after 0 (length xs) refl in
    subst (IsCharBoundary ((xs ++ c ∷ []) ++ after)) len (IsCharBoundary-after_ascii ((xs ++ c ∷ []) ++ after) (length xs) u (omega arith) (omega (arith, last)))

-- ---- words

mark_small : (c : ℕ) (kind : TokenKind) → punctuation_kind_of c ≡ Some kind → c < 128
mark_small c kind is = grind (arith, nat_tests, is)

word_cut : (bytes after : List ℕ) (kind : TokenKind) → IsToken bytes after kind → IsUtf8 (bytes ++ after) → IsCharBoundary (bytes ++ after) (length bytes)
word_cut bytes after kind (name_token {c = c} {cs = cs} {after = rest} letter each stop) u =
    run_cut is_name_byte word_small (c ∷ cs) rest (ap (λ (b : Bool). b || is_digit c) letter, each) stop u
word_cut bytes after kind (number_token {c = c} {cs = cs} {after = rest} each stop small) u =
    run_cut is_digit digit_small (c ∷ cs) rest each (stops_digits rest stop).0 u
word_cut bytes after kind (string_token {quote = q} {words = w} {after = rest} quote inside) u =
    last_cut (q ∷ w) q rest (omega (arith, (quote_range q quote).1)) u
word_cut bytes after kind (punctuation_token {c = c} {kind = k} {after = rest} is) u = last_cut [] c rest (mark_small c k is) u
word_cut bytes after kind (invalid_token {text = t} flaw) u =
    subst (λ (xs : List ℕ). IsCharBoundary xs (length t)) (sym (append-nil t)) (IsCharBoundary-end t)

-- ---- blanks

-- a comment in long brackets ends with a bracket
closes_last : (words after : List ℕ) → Closes words after → (front : List ℕ) × (words ≡ front ++ 93 ∷ [])
closes_last words after closed = (93 ∷ [], refl)
closes_last words after (not_yet {c = c} {cs = cs} {after = rest} none more) =
    let last = closes_last cs rest more in (c ∷ last.0, ap (λ (xs : List ℕ). c ∷ xs) last.1)

newline_small : (c : ℕ) → is_not_newline c ≡ false → c < 128
newline_small c e = omega (arith, eqb-true c 10 (not-false (eqb c 10) e))

line_cut : (words after : List ℕ) → AllSatisfy is_not_newline words → StopsAt is_not_newline after
    → IsCharBoundary (45 ∷ 45 ∷ (words ++ after)) (length (45 ∷ 45 ∷ words))
line_cut words after each stop =
    let here = subst (IsCharBoundary (words ++ after)) (each_run is_not_newline words after each stop) (stopping_cut is_not_newline newline_small (words ++ after)) in
    let len : 2 + length words ≡ length (45 ∷ 45 ∷ words) = omega arith in
    subst (IsCharBoundary (45 ∷ 45 ∷ (words ++ after))) len (IsCharBoundary-from_rest (45 ∷ 45 ∷ (words ++ after)) 2 (length words) (omega arith) here)

long_cut : (words after : List ℕ) → Closes words after → IsUtf8 (45 ∷ 45 ∷ 91 ∷ 91 ∷ (words ++ after))
    → IsCharBoundary (45 ∷ 45 ∷ 91 ∷ 91 ∷ (words ++ after)) (length (45 ∷ 45 ∷ 91 ∷ 91 ∷ words))
long_cut words after closes u =
    let last = closes_last words after closes in
    ended last.0 words after last.1 u
  where
    ended : (xs words after : List ℕ) → words ≡ xs ++ 93 ∷ [] → IsUtf8 (45 ∷ 45 ∷ 91 ∷ 91 ∷ (words ++ after))
        → IsCharBoundary (45 ∷ 45 ∷ 91 ∷ 91 ∷ (words ++ after)) (length (45 ∷ 45 ∷ 91 ∷ 91 ∷ words))
    ended xs words after is u = rw is (last_cut (45 ∷ 45 ∷ 91 ∷ 91 ∷ xs) 93 after (omega arith) (rw is at u))

-- ---- lexemes

read_cut : (bytes after : List ℕ) (kind : Option TokenKind) → IsRead bytes after kind → IsCharBoundary (bytes ++ after) (length bytes)
    → IsCut (bytes ++ after) (lexeme_at (bytes ++ after)).length
read_cut bytes after kind read boundary =
    let e : length bytes ≡ (lexeme_at (bytes ++ after)).length = ap (λ (p : Lexeme). p.length) (sym read.piece) in
    record { some = subst (λ (n : ℕ). 0 < n) e read.some; boundary = subst (IsCharBoundary (bytes ++ after)) e boundary }

-- the lexeme at white space or a comment ends at a character boundary
blank_cut : (bytes after : List ℕ) → IsBlank bytes after → IsUtf8 (bytes ++ after) → IsCut (bytes ++ after) (lexeme_at (bytes ++ after)).length
unfolding lexeme_at
blank_cut bytes after (space {c = c} {after = rest} is) u =
    let run : IsCharBoundary (c ∷ rest) (1 + prefix_len is_space rest) = rw is at (passing_cut is_space space_small (c ∷ rest) u) in
    rw is (record { some = omega arith; boundary = run })
blank_cut bytes after (line_comment {words = w} {after = rest} long level each stop) u =
    read_cut (45 ∷ 45 ∷ w) rest None (record { piece = line_is w rest long level each stop; some = omega arith }) (line_cut w rest each stop)
blank_cut bytes after (long_comment {words = w} {after = rest} closes) u =
    read_cut (45 ∷ 45 ∷ 91 ∷ 91 ∷ w) rest None (record { piece = long_is w rest closes; some = omega arith }) (long_cut w rest closes u)

some_cut : (text : List ℕ) → IsUtf8 text → 0 < length text → IsCut text (lexeme_at text).length
some_cut [] u some = absurd (omega arith)
some_cut (c ∷ cs) u some =
    elim (something_first c cs) [
      | inl b ↦ subst (λ (xs : List ℕ). IsCut xs (lexeme_at xs).length) (sym b.parts) (blank_cut b.front b.rest b.is (subst IsUtf8 b.parts u))
      | inr w ↦
          let cut = read_cut w.front w.rest (Some w.kind) (word_read w.front w.rest w.kind w.is) (word_cut w.front w.rest w.kind w.is (subst IsUtf8 w.parts u)) in
          subst (λ (xs : List ℕ). IsCut xs (lexeme_at xs).length) (sym w.parts) cut
    ]

pub piece_cut : (piece : Lexeme) (text : List ℕ) → IsUtf8 text → 0 < length text → piece ≡ lexeme_at text → IsCut text piece.length
piece_cut piece text u some is = subst (λ (p : Lexeme). IsCut text p.length) (sym is) (some_cut text u some)
