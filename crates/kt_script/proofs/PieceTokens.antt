-- The tokens of a text, lexeme by lexeme.
use Rattle.std.proofs.Common.{◌≡◌, ℕ, zero, suc, ◌-◌, ◌<◌, ◌≤◌, List, [], ◌∷◌, ◌++◌, length, take, drop, refl, ap, sym, ◌∙◌, arith}
use Rattle.kt_script.proofs.Common.{Lexeme, Token, lexeme_at, tokens, tokens_in, line_after, line_at_end}

-- `tokens` skips the remaining `n` bytes of a lexeme: its tokens are those of the text after these
-- bytes
past_piece : (n line : ℕ) (cs : List ℕ) → n ≤ length cs → tokens line n cs ≡ tokens (line_at_end line (take n cs)) 0 (drop n cs)
unfolding tokens
past_piece zero line cs le = refl
past_piece (suc n) line [] le = absurd (omega arith)
past_piece (suc n) line (c ∷ cs) le = past_piece n (line_after line c) cs (omega arith)

pub tokens-piece : (line : ℕ) (text : List ℕ) (piece : Lexeme) → piece ≡ lexeme_at text → 0 < piece.length → piece.length ≤ length text
    → tokens line 0 text ≡ tokens_in line piece.kind ++ tokens (line_at_end line (take piece.length text)) 0 (drop piece.length text)
unfolding tokens
tokens-piece line [] piece is some fits = absurd (omega arith)
tokens-piece line (c ∷ cs) piece is some fits =
    let len : piece.length ≡ suc (piece.length - 1) = omega arith in
    ap (λ (p : Lexeme). tokens_in line p.kind ++ tokens (line_after line c) (p.length - 1) cs) (sym is)
    ∙ ap (λ (ts : List Token). tokens_in line piece.kind ++ ts)
    (past_piece (piece.length - 1) (line_after line c) cs (omega arith) ∙ ap (λ (n : ℕ). tokens (line_at_end line (take n (c ∷ cs))) 0 (drop n (c ∷ cs))) (sym len))

pub tokens-end : (line : ℕ) → tokens line 0 [] ≡ []
unfolding tokens
tokens-end line = refl
