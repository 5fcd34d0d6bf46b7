-- `lexeme_at` returns the string or comment at the beginning of a text.
use Rattle.std.proofs.Common.{◌≡◌, ℕ, suc, ◌+◌, Bool, true, false, cond, eqb, List, [], ◌∷◌, ◌++◌, length, Some, None, Result, Ok, Err, refl, ap, sym, ◌∙◌, arith, append_assoc, length-append, nat_eq, codes, option_map}
use Rattle.kt_script.proofs.Common.{nat_tests, chars, prefix_len, starts_with, append-nil, Flaw, Bad, LeveledComment, Unterminated, Quoted, blank, token, invalid_lexeme, with_prefix, string_at, decoded_string, quoted_token, long_comment_end, comment_at, lexeme_at, AllSatisfy, StopsAt, is_quote, is_not_newline, IsStringContent, nothing, itself, escape, HasNoEscape, Closes, not_yet, HasNoCommentEnd, opens_long_comment, opens_leveled_comment}
use Rattle.kt_script.specs.Inner.Comments.{long_comment}
use Rattle.kt_script.specs.TokenRules.{closed}
use Rattle.kt_script.proofs.StringRuns.{with_front_twice, with_front_none, plain_is}
use Rattle.kt_script.proofs.ReadWords.{each_run, at_quote, at_dash}

-- ---- strings

pub inside_reads : (quote : ℕ) (words bytes tail : List ℕ) → eqb 92 quote ≡ false → IsStringContent quote words bytes → string_at quote false (words ++ tail) ≡ with_prefix bytes (length words) (string_at quote false tail)
inside_reads quote words bytes tail slash nothing = sym (with_front_none (string_at quote false tail))
inside_reads quote words bytes tail slash (itself {c = c} {cs = cs} {bytes = bs} plain more) =
    let tests = plain_is quote c plain in
    rw (tests.0, tests.1, tests.2, inside_reads quote cs bs tail slash more) (grind (arith, with_front_twice (c ∷ []) bs 1 (length cs) (string_at quote false tail)))
inside_reads quote words bytes tail slash (escape {c = c} {d = d} {cs = cs} {bytes = bs} stands more) =
    let rest = with_prefix bs (length cs) (string_at quote false tail) in
    rw (slash, stands, inside_reads quote cs bs tail slash more) (grind (arith, with_front_twice [] (d ∷ []) 1 1 rest, with_front_twice (d ∷ []) bs 2 (length cs) (string_at quote false tail)))

no_slash : (quote : ℕ) → is_quote quote ≡ true → eqb 92 quote ≡ false
no_slash quote e = grind (arith, nat_tests, e)

no_newline : (quote : ℕ) → is_quote quote ≡ true → eqb 10 quote ≡ false
no_newline quote e = grind (arith, nat_tests, e)

string_piece : (quote : ℕ) (words bytes tail : List ℕ) (r : Result (List ℕ × ℕ) Flaw) → is_quote quote ≡ true → IsStringContent quote words bytes → string_at quote false tail ≡ r
    → lexeme_at (quote ∷ words ++ tail) ≡ quoted_token (quote ∷ words ++ tail) (decoded_string (with_prefix bytes (length words) r))
string_piece quote words bytes tail r q inside end =
    at_quote quote (words ++ tail) q
    ∙ ap (λ (x : Result (List ℕ × ℕ) Flaw). quoted_token (quote ∷ words ++ tail) (decoded_string x)) (inside_reads quote words bytes tail (no_slash quote q) inside ∙ ap (with_prefix bytes (length words)) end)

pub string_is : (quote : ℕ) (words bytes after : List ℕ) → is_quote quote ≡ true → IsStringContent quote words bytes
    → lexeme_at ((quote ∷ words ++ quote ∷ []) ++ after) ≡ token (length (quote ∷ words ++ quote ∷ [])) (Quoted (chars bytes))
string_is quote words bytes after q inside =
    let end : string_at quote false (quote ∷ after) ≡ Ok ([], 1) = grind (arith, nat_tests) in
    let regrouped : (quote ∷ words ++ quote ∷ []) ++ after ≡ quote ∷ words ++ quote ∷ after = ap (λ (xs : List ℕ). quote ∷ xs) (append_assoc words (quote ∷ []) after) in
    let len : length words + 1 + 1 ≡ length (quote ∷ words ++ quote ∷ []) = omega (arith, length-append words (quote ∷ [])) in
    ap lexeme_at regrouped ∙ string_piece quote words bytes (quote ∷ after) (Ok ([], 1)) q inside end
    ∙ ap (λ (xs : List ℕ). token (length words + 1 + 1) (Quoted (chars xs))) (append-nil bytes) ∙ ap (λ (n : ℕ). token n (Quoted (chars bytes))) len

pub endless_is : (quote : ℕ) (words bytes after : List ℕ) → is_quote quote ≡ true → IsStringContent quote words bytes → StopsAt is_not_newline after → lexeme_at (quote ∷ words ++ after) ≡ invalid_lexeme (quote ∷ words ++ after) Unterminated
endless_is quote words bytes [] q inside stop = string_piece quote words bytes [] (Err Unterminated) q inside refl
endless_is quote words bytes (c ∷ after) q inside stop =
    let end : string_at quote false (c ∷ after) ≡ Err Unterminated = grind (arith, nat_tests, no_newline quote q, stop) in
    string_piece quote words bytes (c ∷ after) (Err Unterminated) q inside end

pub bad_escape_is : (quote : ℕ) (words bytes after : List ℕ) → is_quote quote ≡ true → IsStringContent quote words bytes → HasNoEscape after → lexeme_at (quote ∷ words ++ 92 ∷ after) ≡ invalid_lexeme (quote ∷ words ++ 92 ∷ after) Bad
bad_escape_is quote words bytes after q inside none = string_piece quote words bytes (92 ∷ after) (Err Bad) q inside (slash_end quote after (no_slash quote q) none)
  where
    slash_end : (quote : ℕ) (after : List ℕ) → eqb 92 quote ≡ false → HasNoEscape after → string_at quote false (92 ∷ after) ≡ Err Bad
    slash_end quote [] other none = rw other refl
    slash_end quote (c ∷ cs) other none = rw (other, none) refl

-- ---- comments

pub closes_is : (words after : List ℕ) → Closes words after → long_comment_end (words ++ after) ≡ Some (length words)
closes_is words after closed = refl
closes_is words after (not_yet {c = c} {cs = cs} none more) = grind (arith, none, closes_is cs after more)

pub never_is : (text : List ℕ) → HasNoCommentEnd text → long_comment_end text ≡ None
never_is [] h = refl
never_is (c ∷ cs) h = ap (λ (b : Bool). cond b (Some 2) (option_map suc (long_comment_end cs))) h.0 ∙ ap (option_map suc) (never_is cs h.1)

pub long_is : (words after : List ℕ) → Closes words after → lexeme_at (45 ∷ 45 ∷ 91 ∷ 91 ∷ (words ++ after)) ≡ blank (length (45 ∷ 45 ∷ 91 ∷ 91 ∷ words))
long_is words after h =
    let len : length words + 4 ≡ length (45 ∷ 45 ∷ 91 ∷ 91 ∷ words) = omega arith in
    at_dash (45 ∷ 91 ∷ 91 ∷ (words ++ after)) ∙ ap (long_comment (45 ∷ 45 ∷ 91 ∷ 91 ∷ (words ++ after))) (closes_is words after h) ∙ ap blank len

pub endless_comment_is : (text : List ℕ) → HasNoCommentEnd text → lexeme_at (45 ∷ 45 ∷ 91 ∷ 91 ∷ text) ≡ invalid_lexeme (45 ∷ 45 ∷ 91 ∷ 91 ∷ text) Unterminated
endless_comment_is text h = at_dash (45 ∷ 91 ∷ 91 ∷ text) ∙ ap (long_comment (45 ∷ 45 ∷ 91 ∷ 91 ∷ text)) (never_is text h)

pub leveled_is : (text : List ℕ) → opens_long_comment text ≡ false → opens_leveled_comment text ≡ true → lexeme_at (45 ∷ 45 ∷ text) ≡ invalid_lexeme (45 ∷ 45 ∷ text) LeveledComment
leveled_is text a b = at_dash (45 ∷ text) ∙ rw (a, b) refl

pub line_is : (words after : List ℕ) → opens_long_comment (words ++ after) ≡ false → opens_leveled_comment (words ++ after) ≡ false → AllSatisfy is_not_newline words → StopsAt is_not_newline after
    → lexeme_at (45 ∷ 45 ∷ (words ++ after)) ≡ blank (length (45 ∷ 45 ∷ words))
line_is words after a b each stop =
    let len : 2 + length words ≡ length (45 ∷ 45 ∷ words) = omega arith in
    let here : comment_at (45 ∷ 45 ∷ (words ++ after)) ≡ blank (2 + prefix_len is_not_newline (words ++ after)) = rw (a, b) refl in
    at_dash (45 ∷ (words ++ after)) ∙ here ∙ ap (λ (n : ℕ). blank (2 + n)) (each_run is_not_newline words after each stop) ∙ ap blank len

pub dash_is : (text : List ℕ) → starts_with nat_eq text (codes "-") ≡ false → lexeme_at (45 ∷ text) ≡ invalid_lexeme (45 ∷ text) Bad
dash_is [] e = at_dash []
dash_is (c ∷ cs) e = at_dash (c ∷ cs) ∙ grind (arith, nat_tests, e)
