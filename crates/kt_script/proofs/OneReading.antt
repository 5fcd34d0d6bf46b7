-- The tokens of a text by the rules are the tokens that the lexer returns.
use Rattle.std.proofs.Common.{◌≡◌, ℕ, suc, ◌+◌, ◌-◌, ◌<◌, Bool, true, false, cond, List, [], ◌∷◌, ◌++◌, length, drop, Option, Some, None, refl, ap, sym, subst, ◌∙◌, arith, length-append, IfSome}
use Rattle.kt_script.proofs.Common.{prefix_len, take-append_seam, drop-append_seam, append-nil, Flaw, TokenKind, Token, is_space, token, invalid_lexeme, begins_with_name_start, decimal_from, punctuation_kind_of, line_after, line_at_end, IsBlank, space, line_comment, long_comment, HasFlaw, large_number, lettered_number, endless_string, bad_escape, endless_comment, leveled_comment, lone_dash, invalid_first_byte, IsToken, name_token, number_token, string_token, punctuation_token, invalid_token, AreTokens, no_text, blank_first, token_first, lexeme_at, tokens, tokens_in}
use Rattle.kt_script.proofs.PieceTokens.{tokens-end, tokens-piece}
use Rattle.kt_script.proofs.ReadWords.{at_strange, every_mark, name_is, digits_are, number_is, large_is, lettered_is}
use Rattle.kt_script.proofs.ReadStrings.{string_is, endless_is, bad_escape_is, long_is, endless_comment_is, leveled_is, line_is, dash_is}

-- `IsRead bytes after kind`: the lexer reads the bytes `bytes`, which `after` follows, as one
-- lexeme of the kind `kind`
pub record IsRead (bytes after : List ℕ) (kind : Option TokenKind) : Type 0 where
  pub piece : lexeme_at (bytes ++ after) ≡ record { length = length bytes; kind = kind }
  pub some : 0 < length bytes

flaw_read : (text : List ℕ) (flaw : Flaw) → HasFlaw text flaw → (lexeme_at text ≡ invalid_lexeme text flaw) × (0 < length text)
flaw_read text flaw (large_number c cs after each stop large) =
    (digits_are c cs after each stop ∙ large_is ((c ∷ cs) ++ after) (length (c ∷ cs)) (begins_with_name_start after) (decimal_from 0 (c ∷ cs)) large, omega arith)
flaw_read text flaw (lettered_number c d cs after each letter) = (lettered_is c d cs after each letter, omega arith)
flaw_read text flaw (endless_string {quote = q} {words = w} {bytes = b} after quote inside stop) = (endless_is q w b after quote inside stop, omega arith)
flaw_read text flaw (bad_escape {quote = q} {words = w} {bytes = b} after quote inside none) = (bad_escape_is q w b after quote inside none, omega arith)
flaw_read text flaw (endless_comment {text = t} never) = (endless_comment_is t never, omega arith)
flaw_read text flaw (leveled_comment {text = t} long level) = (leveled_is t long level, omega arith)
flaw_read text flaw (lone_dash {text = t} other) = (dash_is t other, omega arith)
flaw_read text flaw (invalid_first_byte {c = c} {cs = cs} is) = (at_strange c cs is, omega arith)

mark_read : (c : ℕ) (after : List ℕ) → IfSome (punctuation_kind_of c) (λ kind. lexeme_at (c ∷ after) ≡ token 1 kind)
unfolding lexeme_at
mark_read c after = every_mark (λ c kind. lexeme_at (c ∷ after) ≡ token 1 kind) refl refl refl refl refl refl refl refl refl refl c

pub word_read : (bytes after : List ℕ) (kind : TokenKind) → IsToken bytes after kind → IsRead bytes after (Some kind)
word_read bytes after kind (name_token {c = c} {cs = cs} {after = rest} letter each stop) = record { piece = name_is c cs rest letter each stop; some = omega arith }
word_read bytes after kind (number_token {c = c} {cs = cs} {after = rest} each stop small) = record { piece = number_is c cs rest each stop small; some = omega arith }
word_read bytes after kind (string_token {quote = q} {words = w} {bytes = b} {after = rest} quote inside) = record { piece = string_is q w b rest quote inside; some = omega arith }
word_read bytes after kind (punctuation_token {c = c} {kind = k} {after = rest} is) =
    record { piece = subst (λ (o : Option TokenKind). IfSome o (λ x. lexeme_at (c ∷ rest) ≡ token 1 x)) is (mark_read c rest); some = omega arith }
word_read bytes after kind (invalid_token {text = t} {flaw = f} flaw) =
    let r = flaw_read t f flaw in
    record { piece = ap lexeme_at (append-nil t) ∙ r.0; some = r.1 }

-- ---- tokens

read_step : (line : ℕ) (bytes after : List ℕ) (kind : Option TokenKind) → IsRead bytes after kind → tokens line 0 (bytes ++ after) ≡ tokens_in line kind ++ tokens (line_at_end line bytes) 0 after
read_step line bytes after kind r =
    tokens-piece line (bytes ++ after) (record { length = length bytes; kind = kind }) (sym r.piece) r.some (omega (arith, length-append bytes after))
    ∙ ap (λ (xs : List ℕ). tokens_in line kind ++ tokens (line_at_end line xs) 0 (drop (length bytes) (bytes ++ after))) (take-append_seam bytes after)
    ∙ ap (λ (xs : List ℕ). tokens_in line kind ++ tokens (line_at_end line bytes) 0 xs) (drop-append_seam bytes after)

spaces_step : (line : ℕ) (cs : List ℕ) → tokens line (prefix_len is_space cs) cs ≡ tokens line 0 cs
unfolding tokens lexeme_at
spaces_step line [] = refl
spaces_step line (c ∷ cs) = by_space line c cs (is_space c) refl
  where
    by_space : (line c : ℕ) (cs : List ℕ) (b : Bool) → is_space c ≡ b → tokens line (cond b (1 + prefix_len is_space cs) 0) (c ∷ cs) ≡ tokens line 0 (c ∷ cs)
    by_space line c cs false e = refl
    by_space line c cs true e =
        let m : 1 + prefix_len is_space cs ≡ suc (prefix_len is_space cs) = omega arith in
        let less : (1 + prefix_len is_space cs) - 1 ≡ prefix_len is_space cs = omega arith in
        ap (λ (n : ℕ). tokens line n (c ∷ cs)) m ∙ sym (rw (e, less) refl)

pub space_step : (line c : ℕ) (cs : List ℕ) → is_space c ≡ true → tokens line 0 (c ∷ cs) ≡ tokens (line_after line c) 0 cs
unfolding tokens lexeme_at
space_step line c cs e =
    let less : (1 + prefix_len is_space cs) - 1 ≡ prefix_len is_space cs = omega arith in
    let here : tokens line 0 (c ∷ cs) ≡ tokens (line_after line c) (prefix_len is_space cs) cs = rw (e, less) refl in
    here ∙ spaces_step (line_after line c) cs

blank_step : (line : ℕ) (bytes after : List ℕ) → IsBlank bytes after → tokens line 0 (bytes ++ after) ≡ tokens (line_at_end line bytes) 0 after
blank_step line bytes after (space {c = c} {after = rest} is) = space_step line c rest is
blank_step line bytes after (line_comment {words = w} {after = rest} long level each stop) = read_step line (45 ∷ 45 ∷ w) rest None (record { piece = line_is w rest long level each stop; some = omega arith })
blank_step line bytes after (long_comment {words = w} {after = rest} closes) = read_step line (45 ∷ 45 ∷ 91 ∷ 91 ∷ w) rest None (record { piece = long_is w rest closes; some = omega arith })

pub one_reading : (line : ℕ) (text : List ℕ) (ts : List Token) → AreTokens line text ts → ts ≡ tokens line 0 text
one_reading line text ts no_text = sym (tokens-end line)
one_reading line text ts (blank_first {blank = b} {rest = rest} {ts = us} is more) = one_reading (line_at_end line b) rest us more ∙ sym (blank_step line b rest is)
one_reading line text ts (token_first {bytes = w} {rest = rest} {kind = k} {ts = us} is more) =
    ap (λ (xs : List Token). record { line = line; kind = k } ∷ xs) (one_reading (line_at_end line w) rest us more) ∙ sym (read_step line w rest (Some k) (word_read w rest k is))

-- a text has at most one list of tokens
pub same_tokens : (text : List ℕ) (ts us : List Token) → AreTokens 1 text ts → AreTokens 1 text us → ts ≡ us
same_tokens text ts us p q = one_reading 1 text ts p ∙ sym (one_reading 1 text us q)
