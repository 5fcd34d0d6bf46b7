-- Texts that begin with a name, a number or a string.
use Rattle.std.proofs.Common.{◌≡◌, ℕ, ◌<◌, ◌^◌, Bool, true, false, eqb, not, ◌||◌, List, [], ◌∷◌, ◌++◌, length, Option, Some, None, refl, ap, sym, subst, ◌∙◌, arith, append_assoc, inl, inr}
use Rattle.kt_script.proofs.Common.{cases_Bool, cases_lt, eqb-true, append-nil, Flaw, Bad, Unterminated, TokenKind, Invalid, is_name_start, is_name_byte, escape_of, is_plain, is_digit, decimal_from, AllSatisfy, StopsAt, is_quote, is_not_newline, IsStringContent, nothing, itself, escape, HasNoEscape, IsBlank, HasFlaw, large_number, lettered_number, endless_string, bad_escape, IsToken, name_token, number_token, string_token, invalid_token}

-- ---- the first lexeme of a text

-- `BlankFirst text`: `text` begins with white space or a comment
pub record BlankFirst (text : List ℕ) : Type 0 where
  pub front : List ℕ
  pub rest : List ℕ
  pub parts : text ≡ front ++ rest
  pub some : 0 < length front
  pub is : IsBlank front rest

-- `WordFirst text`: `text` begins with a token
pub record WordFirst (text : List ℕ) : Type 0 where
  pub front : List ℕ
  pub rest : List ℕ
  pub parts : text ≡ front ++ rest
  pub some : 0 < length front
  pub kind : TokenKind
  pub is : IsToken front rest kind

-- `Run p text`: `text` is split into its longest prefix of bytes that satisfy the test `p`, and the
-- rest
pub record Run (p : ℕ → Bool) (text : List ℕ) : Type 0 where
  pub front : List ℕ
  pub rest : List ℕ
  pub parts : text ≡ front ++ rest
  pub each : AllSatisfy p front
  pub stop : StopsAt p rest

pub run : (p : ℕ → Bool) (text : List ℕ) → Run p text
run p [] = record { front = []; rest = []; parts = refl; each = tt; stop = tt }
run p (c ∷ cs) =
    elim (cases_Bool (p c)) [
      | inl passes ↦ let r = run p cs in record { front = c ∷ r.front; rest = r.rest; parts = ap (λ (xs : List ℕ). c ∷ xs) r.parts; each = (passes, r.each); stop = r.stop }
      | inr fails ↦ record { front = []; rest = c ∷ cs; parts = refl; each = tt; stop = fails }
    ]

pub flawed : (text whole : List ℕ) (flaw : Flaw) → text ≡ whole → 0 < length whole → HasFlaw whole flaw → WordFirst text
flawed text whole flaw parts some h = record { front = whole; rest = []; parts = parts ∙ sym (append-nil whole); some = some; kind = Invalid flaw; is = invalid_token h }

-- ---- names and numbers

pub name_first : (c : ℕ) (cs : List ℕ) → is_name_start c ≡ true → WordFirst (c ∷ cs)
name_first c cs letter =
    let r = run is_name_byte cs in
    record { front = c ∷ r.front; rest = r.rest; parts = ap (λ (xs : List ℕ). c ∷ xs) r.parts; some = omega arith; kind = _; is = name_token letter r.each r.stop }

pub number_then : (c : ℕ) (cs front rest : List ℕ) → cs ≡ front ++ rest → AllSatisfy is_digit (c ∷ front) → StopsAt is_digit rest → WordFirst (c ∷ cs)
number_then c cs front rest parts each stop =
    let all : c ∷ cs ≡ (c ∷ front) ++ rest = ap (λ (xs : List ℕ). c ∷ xs) parts in
    elim (cases_lt (decimal_from 0 (c ∷ front)) (2 ^ 64)) [
      | inl small ↦ small_then c cs front rest all each stop small
      | inr large ↦ flawed (c ∷ cs) ((c ∷ front) ++ rest) Bad all (omega arith) (large_number c front rest each stop large)
    ]
  where
    small_then : (c : ℕ) (cs front rest : List ℕ) → c ∷ cs ≡ (c ∷ front) ++ rest → AllSatisfy is_digit (c ∷ front) → StopsAt is_digit rest → decimal_from 0 (c ∷ front) < 2 ^ 64 → WordFirst (c ∷ cs)
    small_then c cs front [] all each stop small = record { front = c ∷ front; rest = []; parts = all; some = omega arith; kind = _; is = number_token each tt small }
    small_then c cs front (d ∷ ds) all each stop small =
        elim (cases_Bool (is_name_start d)) [
          | inl letter ↦ flawed (c ∷ cs) ((c ∷ front) ++ d ∷ ds) Bad all (omega arith) (lettered_number c d front ds each letter)
          | inr other ↦
              let no_word_byte : is_name_byte d ≡ false = ap (λ (b : Bool). b || is_digit d) other ∙ stop in
              record { front = c ∷ front; rest = d ∷ ds; parts = all; some = omega arith; kind = _; is = number_token each no_word_byte small }
        ]

-- ---- strings

-- `Quotation quote text`: `text` continues a string up to the byte `quote` that closes it, or up to
-- a flaw
pub data Quotation (quote : ℕ) : List ℕ → Type 0 where
  ends : {words bytes : List ℕ} (after : List ℕ) → IsStringContent quote words bytes → Quotation quote (words ++ quote ∷ after)
  meets_line : {words bytes : List ℕ} (after : List ℕ) → IsStringContent quote words bytes → StopsAt is_not_newline after → Quotation quote (words ++ after)
  meets_escape : {words bytes : List ℕ} (after : List ℕ) → IsStringContent quote words bytes → HasNoEscape after → Quotation quote (words ++ 92 ∷ after)

push_plain : (quote c : ℕ) (cs : List ℕ) → is_plain quote c ≡ true → Quotation quote cs → Quotation quote (c ∷ cs)
push_plain quote c cs plain (ends after inside) = ends after (itself plain inside)
push_plain quote c cs plain (meets_line after inside stop) = meets_line after (itself plain inside) stop
push_plain quote c cs plain (meets_escape after inside none) = meets_escape after (itself plain inside) none

push_escape : (quote e d : ℕ) (cs : List ℕ) → escape_of e ≡ Some d → Quotation quote cs → Quotation quote (92 ∷ e ∷ cs)
push_escape quote e d cs stands (ends after inside) = ends after (escape stands inside)
push_escape quote e d cs stands (meets_line after inside stop) = meets_line after (escape stands inside) stop
push_escape quote e d cs stands (meets_escape after inside none) = meets_escape after (escape stands inside) none

slash_then : (quote e : ℕ) (cs : List ℕ) (o : Option ℕ) → escape_of e ≡ o → Quotation quote cs → Quotation quote (92 ∷ e ∷ cs)
slash_then quote e cs None none later = meets_escape (e ∷ cs) nothing none
slash_then quote e cs (Some d) stands later = push_escape quote e d cs stands later

byte_then : (quote c : ℕ) (cs : List ℕ) (a b d : Bool) → eqb c quote ≡ a → eqb c 10 ≡ b → eqb c 92 ≡ d → Quotation quote cs → Quotation quote (92 ∷ cs) → Quotation quote (c ∷ cs)
byte_then quote c cs true b d x y z later slash =
    let end : Quotation quote (quote ∷ cs) = ends cs nothing in
    subst (λ (n : ℕ). Quotation quote (n ∷ cs)) (sym (eqb-true c quote x)) end
byte_then quote c cs false true d x y z later slash = meets_line (c ∷ cs) nothing (ap not y)
byte_then quote c cs false false true x y z later slash = subst (λ (n : ℕ). Quotation quote (n ∷ cs)) (sym (eqb-true c 92 z)) slash
byte_then quote c cs false false false x y z later slash = push_plain quote c cs (rw (x, y, z) refl) later

pub quotation : (quote : ℕ) (text : List ℕ) → Quotation quote text
quotation quote [] = meets_line [] nothing tt
quotation quote (c ∷ []) = byte_then quote c [] (eqb c quote) (eqb c 10) (eqb c 92) refl refl refl (quotation quote []) (meets_escape [] nothing tt)
quotation quote (c ∷ e ∷ cs) = byte_then quote c (e ∷ cs) (eqb c quote) (eqb c 10) (eqb c 92) refl refl refl (quotation quote (e ∷ cs)) (slash_then quote e cs (escape_of e) refl (quotation quote cs))

pub string_first : (quote : ℕ) (cs : List ℕ) → is_quote quote ≡ true → Quotation quote cs → WordFirst (quote ∷ cs)
string_first quote cs q (ends {words = w} after inside) =
    record { front = quote ∷ w ++ quote ∷ []; rest = after; parts = ap (λ (xs : List ℕ). quote ∷ xs) (sym (append_assoc w (quote ∷ []) after)); some = omega arith; kind = _; is = string_token q inside }
string_first quote cs q (meets_line {words = w} after inside stop) = flawed (quote ∷ cs) (quote ∷ w ++ after) Unterminated refl (omega arith) (endless_string after q inside stop)
string_first quote cs q (meets_escape {words = w} after inside none) = flawed (quote ∷ cs) (quote ∷ w ++ 92 ∷ after) Bad refl (omega arith) (bad_escape after q inside none)
