-- Each text has tokens by the rules, and the lexer returns these tokens.
use Rattle.std.proofs.Common.{◌≡◌, ℕ, zero, suc, ◌≤◌, Bool, true, false, eqb, ◌&&◌, List, [], ◌∷◌, ◌++◌, length, drop, Option, Some, None, refl, ap, sym, subst, ◌∙◌, arith, length-append, ◌⊎◌, inl, inr, nat_eq, codes}
use Rattle.kt_script.proofs.Common.{starts_with, cases_Bool, eqb-true, Bad, LeveledComment, Unterminated, TokenKind, Token, is_space, is_name_start, is_digit, punctuation_kind_of, line_at_end, is_quote, is_not_newline, Closes, not_yet, HasNoCommentEnd, opens_long_comment, opens_leveled_comment, space, line_comment, long_comment, endless_comment, leveled_comment, lone_dash, invalid_first_byte, punctuation_token, AreTokens, no_text, blank_first, token_first, tokens}
use Rattle.kt_script.specs.TokenRules.{closed}
use Rattle.std.proofs.lemmas.Bool.Decides.{Decides-eqb}
use Rattle.std.proofs.lemmas.Slice.Eq.{starts_is}
use Rattle.kt_script.proofs.OneReading.{one_reading}
use Rattle.kt_script.proofs.WordsFirst.{BlankFirst, WordFirst, run, flawed, name_first, number_then, quotation, string_first}

-- ---- comments

-- a text that starts with `needle` is `needle` followed by the rest
begins_with : (text needle : List ℕ) → starts_with nat_eq text needle ≡ true → text ≡ needle ++ drop (length needle) text
begins_with text needle e = (starts_is Decides-eqb text needle (starts_with nat_eq text needle) refl).0 e

-- `AfterArgument text`: `text` contains `]]`
record AfterArgument (text : List ℕ) : Type 0 where
  pub front : List ℕ
  pub rest : List ℕ
  pub parts : text ≡ front ++ rest
  pub is : Closes front rest

closing : (text : List ℕ) → AfterArgument text ⊎ HasNoCommentEnd text
closing [] = inr tt
closing (c ∷ cs) =
    elim (cases_Bool (starts_with nat_eq (c ∷ cs) (codes "]]"))) [
      | inl here ↦ inl (record { front = 93 ∷ 93 ∷ []; rest = drop 2 (c ∷ cs); parts = begins_with (c ∷ cs) (codes "]]") here; is = closed })
      | inr other ↦ elim (closing cs) [
        | inl h ↦
            let all : c ∷ cs ≡ (c ∷ h.front) ++ h.rest = ap (λ (xs : List ℕ). c ∷ xs) h.parts in
            inl (record { front = c ∷ h.front; rest = h.rest; parts = all; is = not_yet (ap (λ (xs : List ℕ). starts_with nat_eq xs (codes "]]")) (sym all) ∙ other) h.is })
        | inr never ↦ inr (other, never)
      ]
    ]

-- a text that begins with `--` begins with a comment or an invalid token
comment_first : (text : List ℕ) → BlankFirst (45 ∷ 45 ∷ text) ⊎ WordFirst (45 ∷ 45 ∷ text)
comment_first text =
    elim (cases_Bool (opens_long_comment text)) [
      | inl long ↦
          let parts : 45 ∷ 45 ∷ text ≡ 45 ∷ 45 ∷ 91 ∷ 91 ∷ drop 2 text = ap (λ (xs : List ℕ). 45 ∷ 45 ∷ xs) (begins_with text (codes "[[") long) in
          elim (closing (drop 2 text)) [
            | inl h ↦ inl (record { front = 45 ∷ 45 ∷ 91 ∷ 91 ∷ h.front; rest = h.rest; parts = parts ∙ ap (λ (xs : List ℕ). 45 ∷ 45 ∷ 91 ∷ 91 ∷ xs) h.parts; some = omega arith; is = long_comment h.is })
            | inr never ↦ inr (flawed (45 ∷ 45 ∷ text) (45 ∷ 45 ∷ 91 ∷ 91 ∷ drop 2 text) Unterminated parts (omega arith) (endless_comment never))
          ]
      | inr short ↦ elim (cases_Bool (opens_leveled_comment text)) [
        | inl level ↦ inr (flawed (45 ∷ 45 ∷ text) (45 ∷ 45 ∷ text) LeveledComment refl (omega arith) (leveled_comment short level))
        | inr plain ↦
            let r = run is_not_newline text in
            inl (record {
              front = 45 ∷ 45 ∷ r.front;
              rest = r.rest;
              parts = ap (λ (xs : List ℕ). 45 ∷ 45 ∷ xs) r.parts;
              some = omega arith;
              is = line_comment (ap opens_long_comment (sym r.parts) ∙ short) (ap opens_leveled_comment (sym r.parts) ∙ plain) r.each r.stop;
            })
      ]
    ]

dash_first : (cs : List ℕ) → BlankFirst (45 ∷ cs) ⊎ WordFirst (45 ∷ cs)
dash_first [] = inr (flawed (45 ∷ []) (45 ∷ []) Bad refl (omega arith) (lone_dash refl))
dash_first (c ∷ cs) = by_dash c cs (eqb 45 c) refl
  where
    by_dash : (c : ℕ) (cs : List ℕ) (b : Bool) → eqb 45 c ≡ b → BlankFirst (45 ∷ c ∷ cs) ⊎ WordFirst (45 ∷ c ∷ cs)
    by_dash c cs true is = subst (λ (n : ℕ). BlankFirst (45 ∷ n ∷ cs) ⊎ WordFirst (45 ∷ n ∷ cs)) (eqb-true 45 c is) (comment_first cs)
    by_dash c cs false is = inr (flawed (45 ∷ c ∷ cs) (45 ∷ c ∷ cs) Bad refl (omega arith) (lone_dash (ap (λ (b : Bool). b && true) is)))

-- ---- any text

mark_first : (c : ℕ) (cs : List ℕ) (o : Option TokenKind) → punctuation_kind_of c ≡ o → is_space c ≡ false → is_name_start c ≡ false → is_digit c ≡ false → is_quote c ≡ false → eqb c 45 ≡ false → WordFirst (c ∷ cs)
mark_first c cs None m s l d q h = flawed (c ∷ cs) (c ∷ cs) Bad refl (omega arith) (invalid_first_byte (record { no_space = s; no_letter = l; no_digit = d; no_quote = q; no_dash = h; no_mark = m }))
mark_first c cs (Some k) m s l d q h = record { front = c ∷ []; rest = cs; parts = refl; some = omega arith; kind = k; is = punctuation_token m }

pub something_first : (c : ℕ) (cs : List ℕ) → BlankFirst (c ∷ cs) ⊎ WordFirst (c ∷ cs)
something_first c cs =
    elim (cases_Bool (is_space c)) [
      | inl s ↦ inl (record { front = c ∷ []; rest = cs; parts = refl; some = omega arith; is = space s })
      | inr s ↦ elim (cases_Bool (is_name_start c)) [
        | inl l ↦ inr (name_first c cs l)
        | inr l ↦ elim (cases_Bool (is_digit c)) [
          | inl d ↦ inr (let r = run is_digit cs in number_then c cs r.front r.rest r.parts (d, r.each) r.stop)
          | inr d ↦ elim (cases_Bool (is_quote c)) [
            | inl q ↦ inr (string_first c cs q (quotation c cs))
            | inr q ↦ elim (cases_Bool (eqb c 45)) [
              | inl h ↦ subst (λ (n : ℕ). BlankFirst (n ∷ cs) ⊎ WordFirst (n ∷ cs)) (sym (eqb-true c 45 h)) (dash_first cs)
              | inr h ↦ inr (mark_first c cs (punctuation_kind_of c) refl s l d q h)
            ]
          ]
        ]
      ]
    ]

-- ---- the tokens

-- `Reading line text`: `text`, which begins on `line`, has tokens by the rules
record Reading (line : ℕ) (text : List ℕ) : Type 0 where
  pub tokens : List Token
  pub are : AreTokens line text tokens

reading : (n line : ℕ) (text : List ℕ) → length text ≤ n → Reading line text
reading n line [] le = record { tokens = []; are = no_text }
reading zero line (c ∷ cs) le = absurd (omega arith)
reading (suc n) line (c ∷ cs) le =
    elim (something_first c cs) [
      | inl b ↦
          let r = reading n (line_at_end line b.front) b.rest (omega (arith, le, b.some, ap length b.parts, length-append b.front b.rest)) in
          record { tokens = r.tokens; are = subst (λ (xs : List ℕ). AreTokens line xs r.tokens) (sym b.parts) (blank_first b.is r.are) }
      | inr w ↦
          let r = reading n (line_at_end line w.front) w.rest (omega (arith, le, w.some, ap length w.parts, length-append w.front w.rest)) in
          let ts : List Token = record { line = line; kind = w.kind } ∷ r.tokens in
          record { tokens = ts; are = subst (λ (xs : List ℕ). AreTokens line xs ts) (sym w.parts) (token_first w.is r.are) }
    ]

pub some_reading : (line : ℕ) (text : List ℕ) → AreTokens line text (tokens line 0 text)
some_reading line text =
    let r = reading (length text) line text (omega arith) in
    subst (AreTokens line text) (one_reading line text r.tokens r.are) r.are
