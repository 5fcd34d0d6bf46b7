-- The keywords of a result file, with and without a number.
use Rattle.std.proofs.Common.{◌≡◌, ℕ, suc, ◌+◌, Bool, true, false, not, cond, List, [], ◌∷◌, ◌++◌, length, take, drop, Option, Some, None, refl, ap, sym, subst, ◌∙◌, append_assoc, arith, ◌&&◌, ◌==◌, nat_le, nat_lt, codes, MatchOption, if◌then◌else◌}
use Rattle.kt_claim.proofs.Common.{prefix_len, list_any, list_all, find, false≢true, eqb-true, ltb-true, lt-ltb, take-append-drop, is_digit, number_up_to, lossy, is_newline, newline, decimal_value, IsReason, IsNumber, reason_suffix, number_suffix, SpellsClaim, has_bracket, has_closing_bracket, digits, after_digits, has_number, after_number, has_reason, line_has_fault, claim_with_reason, claim_with_number, reason_in, claim_from_reason, number_before_bracket, byte_value, number_in, claim_from_number, may_have_number, claim_after_bracket, claim_without_bracket, claim_after, Claim, ClaimFault, UnknownWord, BadNumber, UnexpectedReason, NoReason, Keyword}
use Rattle.std.proofs.lemmas.Bool.Decides.{nat_tests}
use Rattle.kt_claim.specs.ResultFile as says
use Rattle.kt_claim.specs.declared.evidence.Claim.TheVariants as claim
use Rattle.kt_claim.specs.declared.result_line.Keyword.TheVariants as word
use Rattle.kt_claim.proofs.Reasons.{Wanted, reasoned}
use Rattle.std.proofs.lemmas.Bool.{and_parts, or_parts}

-- ---- words without a number

-- `Agrees w rest c`: a line of the keyword `w` and `rest` spells the claim `c`, or `c` is the
-- line's first error.
abbrev pub Agrees : List ℕ → List ℕ → Claim → Type 0
Agrees w rest c = MatchOption (find (line_has_fault w rest) (UnknownWord ∷ BadNumber ∷ UnexpectedReason ∷ NoReason ∷ [])) (SpellsClaim (w ++ (rest ++ newline)) c) (λ g. c ≡ claim.Malformed g)

-- `Rows known number passed rest`: the first error of a line with `rest` after its keyword. The
-- keyword is known if `known`, may have a number if `number`, and is `passed` if `passed`.
abbrev pub Rows : Bool → Bool → Bool → List ℕ → Option ClaimFault
Rows known number passed rest =
    cond (not known) (Some UnknownWord) (cond (has_bracket rest && not (number && has_number rest)) (Some BadNumber)
    (cond (passed && nat_lt 0 (length rest)) (Some UnexpectedReason) (cond (not passed && not (has_reason (after_number rest))) (Some NoReason) None)))

pub plain_at : (t : Bool) (w rest more : List ℕ) (b : ℕ) (k : Keyword) → (b == 40) ≡ t → rest ≡ b ∷ more → may_have_number k ≡ false → claim_without_bracket k rest ≡ claim_from_reason (claim_with_reason k) (reason_in rest)
    → Wanted w (claim_with_reason k) → list_any is_newline rest ≡ false
    → MatchOption (cond (t && true) (Some BadNumber) (cond (not (has_reason (if t then drop 1 (after_digits rest) else rest))) (Some NoReason) None))
    (SpellsClaim (w ++ (rest ++ newline)) (if t then claim_after_bracket k more else claim_without_bracket k rest)) (λ g. (if t then claim_after_bracket k more else claim_without_bracket k rest) ≡ claim.Malformed g)
plain_at true w rest more b k e parts may plain wants none = rw may refl
plain_at false w rest more b k e parts may plain wants none = rw plain (reasoned w rest (claim_with_reason k) wants none)

pub plain_word : (w rest : List ℕ) (k : Keyword) → may_have_number k ≡ false → ((r : List ℕ) → claim_without_bracket k r ≡ claim_from_reason (claim_with_reason k) (reason_in r))
    → Wanted w (claim_with_reason k) → list_any is_newline rest ≡ false
    → MatchOption (Rows true false false rest) (SpellsClaim (w ++ (rest ++ newline)) (claim_after k rest)) (λ g. claim_after k rest ≡ claim.Malformed g)
plain_word w [] k may plain wants none = plain []
plain_word w (b ∷ more) k may plain wants none = plain_at (b == 40) w (b ∷ more) more b k refl refl may (plain (b ∷ more)) wants none

pub passed_at : (t : Bool) (rest more : List ℕ) (b : ℕ) → (b == 40) ≡ t → rest ≡ b ∷ more
    → MatchOption (cond (t && true) (Some BadNumber) (Some UnexpectedReason))
    (SpellsClaim (codes "passed" ++ (rest ++ newline)) (if t then claim_after_bracket word.Passed more else claim.Malformed UnexpectedReason)) (λ g. (if t then claim_after_bracket word.Passed more else claim.Malformed UnexpectedReason) ≡ claim.Malformed g)
passed_at true rest more b e parts = refl
passed_at false rest more b e parts = refl

pub positive : (b : ℕ) (more : List ℕ) → nat_lt 0 (length (b ∷ more)) ≡ true
positive b more = lt-ltb 0 (length (b ∷ more)) (omega arith)

pub passed_word : (rest : List ℕ) → MatchOption (Rows true false true rest) (SpellsClaim (codes "passed" ++ (rest ++ newline)) (claim_after word.Passed rest)) (λ g. claim_after word.Passed rest ≡ claim.Malformed g)
passed_word [] = says.passed
passed_word (b ∷ more) = rw (positive b more) (passed_at (b == 40) (b ∷ more) more b refl refl)

-- ---- words that may have a number

pub front_passes : (p : ℕ → Bool) (xs : List ℕ) → list_all p (take (prefix_len p xs) xs) ≡ true
front_passes p [] = refl
front_passes p (x ∷ xs) = front_at (p x) p x xs refl (front_passes p xs) where
  front_at : (t : Bool) (p : ℕ → Bool) (x : ℕ) (xs : List ℕ) → p x ≡ t → list_all p (take (prefix_len p xs) xs) ≡ true → list_all p (take (prefix_len p (x ∷ xs)) (x ∷ xs)) ≡ true
  front_at true p x xs e so_far = let one : 1 + prefix_len p xs ≡ suc (prefix_len p xs) = omega arith in rw (e, one, e) so_far
  front_at false p x xs e so_far = rw e refl

pub closed_parts : (af : List ℕ) → has_closing_bracket af ≡ true → (more : List ℕ) × (af ≡ 41 ∷ more)
closed_parts [] e = absurd (false≢true e)
closed_parts (b ∷ more) e = (more, ap (λ (x : ℕ). x ∷ more) (eqb-true b 41 e))

-- A number is at most 255 if it is less than 256.
pub at_most : (n : ℕ) → nat_le n 255 ≡ nat_lt n 256
at_most n = grind (arith, nat_tests)

pub valued : (ds : List ℕ) → nat_lt 0 (length ds) ≡ true → nat_lt (decimal_value ds) 256 ≡ true → byte_value ds ≡ Some (decimal_value ds)
valued [] e small = absurd (false≢true e)
valued (d ∷ ds) e small = rw (at_most (decimal_value (d ∷ ds)) ∙ small) refl

pub numbered_in : (more rest : List ℕ) → has_number (40 ∷ more) ≡ true → after_digits (40 ∷ more) ≡ 41 ∷ rest → number_in more ≡ Some (decimal_value (digits (40 ∷ more)), rest)
unfolding number_in
numbered_in more rest e parts =
    let front : (nat_lt 0 (length (digits (40 ∷ more))) && nat_lt (decimal_value (digits (40 ∷ more))) 256) ≡ true =
    (and_parts (nat_lt 0 (length (digits (40 ∷ more))) && nat_lt (decimal_value (digits (40 ∷ more))) 256) (has_closing_bracket (after_digits (40 ∷ more))) e).0 in
    let value : byte_value (digits (40 ∷ more)) ≡ Some (decimal_value (digits (40 ∷ more))) = valued (digits (40 ∷ more))
    (and_parts (nat_lt 0 (length (digits (40 ∷ more)))) (nat_lt (decimal_value (digits (40 ∷ more))) 256) front).0
    (and_parts (nat_lt 0 (length (digits (40 ∷ more)))) (nat_lt (decimal_value (digits (40 ∷ more))) 256) front).1 in
    ap (λ (o : Option ℕ). number_before_bracket o (after_digits (40 ∷ more))) value ∙ ap (number_before_bracket (Some (decimal_value (digits (40 ∷ more))))) parts

-- A bracket without a valid number gives no number.
pub closed_none : (t u v : Bool) (ds af : List ℕ) → nat_lt 0 (length ds) ≡ t → nat_lt (decimal_value ds) 256 ≡ u → has_closing_bracket af ≡ v → ((t && u) && v) ≡ false → number_before_bracket (byte_value ds) af ≡ None
closed_none t u v [] af e f g isnt = refl
closed_none t u v (d ∷ ds) af e f g isnt = small_at u v (d ∷ ds) af f g (sym (ap (λ (x : Bool). (x && u) && v) (sym e ∙ positive d ds)) ∙ isnt) where
  shut_at : (v : Bool) (n : ℕ) (af : List ℕ) → has_closing_bracket af ≡ v → v ≡ false → number_before_bracket (Some n) af ≡ None
  shut_at v n [] g isnt = refl
  shut_at v n (b ∷ af) g isnt = rw (g ∙ isnt) refl

  small_at : (u v : Bool) (ds af : List ℕ) → nat_lt (decimal_value ds) 256 ≡ u → has_closing_bracket af ≡ v → (u && v) ≡ false → number_before_bracket (number_up_to 255 (decimal_value ds)) af ≡ None
  small_at true v ds af f g isnt = rw (at_most (decimal_value ds) ∙ f) (shut_at v (decimal_value ds) af g isnt)
  small_at false v ds af f g isnt = rw (at_most (decimal_value ds) ∙ f) refl

pub any_right : (xs ys : List ℕ) → list_any is_newline (xs ++ ys) ≡ false → list_any is_newline ys ≡ false
any_right [] ys none = none
any_right (x ∷ xs) ys none = any_right xs ys (or_parts (is_newline x) (list_any is_newline (xs ++ ys)) none).1

-- `WantedNumber w k`: the text `w` with a number and a reason spells the claim of the keyword `k`.
abbrev pub WantedNumber : List ℕ → Keyword → Type 0
WantedNumber w k = (n r : List ℕ) → IsNumber n → IsReason r → SpellsClaim (w ++ number_suffix n r) (claim_with_number k (decimal_value n) (lossy r))

pub bracket_at : (t : Bool) (w more : List ℕ) (k : Keyword) → has_number (40 ∷ more) ≡ t → may_have_number k ≡ true → WantedNumber w k → list_any is_newline more ≡ false
    → MatchOption (cond (not t) (Some BadNumber) (cond (not (has_reason (drop 1 (after_digits (40 ∷ more))))) (Some NoReason) None))
    (SpellsClaim (w ++ ((40 ∷ more) ++ newline)) (claim_after_bracket k more)) (λ g. claim_after_bracket k more ≡ claim.Malformed g)
unfolding number_in
bracket_at false w more k e may wants none =
    let missing : number_in more ≡ None = closed_none (nat_lt 0 (length (digits (40 ∷ more)))) (nat_lt (decimal_value (digits (40 ∷ more))) 256) (has_closing_bracket (after_digits (40 ∷ more)))
    (digits (40 ∷ more)) (after_digits (40 ∷ more)) refl refl refl e in
    rw may (ap (claim_from_number k) missing)
bracket_at true w more k e may wants none =
    let front : (nat_lt 0 (length (digits (40 ∷ more))) && nat_lt (decimal_value (digits (40 ∷ more))) 256) ≡ true =
    (and_parts (nat_lt 0 (length (digits (40 ∷ more))) && nat_lt (decimal_value (digits (40 ∷ more))) 256) (has_closing_bracket (after_digits (40 ∷ more))) e).0 in
    let isn : IsNumber (digits (40 ∷ more)) = (
      ltb-true 0 (length (digits (40 ∷ more))) (and_parts (nat_lt 0 (length (digits (40 ∷ more)))) (nat_lt (decimal_value (digits (40 ∷ more))) 256) front).0,
      front_passes is_digit more,
      ltb-true (decimal_value (digits (40 ∷ more))) 256 (and_parts (nat_lt 0 (length (digits (40 ∷ more)))) (nat_lt (decimal_value (digits (40 ∷ more))) 256) front).1,
    ) in
    let p = closed_parts (after_digits (40 ∷ more))
    (and_parts (nat_lt 0 (length (digits (40 ∷ more))) && nat_lt (decimal_value (digits (40 ∷ more))) 256) (has_closing_bracket (after_digits (40 ∷ more))) e).1 in
    let all : digits (40 ∷ more) ++ 41 ∷ p.0 ≡ more = ap (λ (xs : List ℕ). digits (40 ∷ more) ++ xs) (sym p.1) ∙ take-append-drop (prefix_len is_digit more) more in
    let clean : list_any is_newline p.0 ≡ false = any_right (digits (40 ∷ more)) (41 ∷ p.0) (ap (list_any is_newline) all ∙ none) in
    let begun : List ℕ = w ++ ((codes "(" ++ digits (40 ∷ more)) ++ codes ")") in
    let found : claim_after_bracket k more ≡ claim_from_reason (claim_with_number k (decimal_value (digits (40 ∷ more)))) (reason_in p.0) = rw may (ap (claim_from_number k) (numbered_in more p.0 e p.1)) in
    let answer : MatchOption (cond (not (has_reason p.0)) (Some NoReason) None) (SpellsClaim (begun ++ (p.0 ++ newline)) (claim_from_reason (claim_with_number k (decimal_value (digits (40 ∷ more)))) (reason_in p.0)))
    (λ g. claim_from_reason (claim_with_number k (decimal_value (digits (40 ∷ more)))) (reason_in p.0) ≡ claim.Malformed g)
    = reasoned begun p.0 (claim_with_number k (decimal_value (digits (40 ∷ more))))
    (λ r isr. subst (λ (xs : List ℕ). SpellsClaim xs (claim_with_number k (decimal_value (digits (40 ∷ more))) (lossy r)))
    (sym (append_assoc w ((codes "(" ++ digits (40 ∷ more)) ++ codes ")") (reason_suffix r))) (wants (digits (40 ∷ more)) r isn isr)) clean in
    let file : begun ++ (p.0 ++ newline) ≡ w ++ ((40 ∷ more) ++ newline) =
    append_assoc w ((codes "(" ++ digits (40 ∷ more)) ++ codes ")") (p.0 ++ newline)
    ∙ ap (λ (xs : List ℕ). w ++ xs) (append_assoc (40 ∷ digits (40 ∷ more)) (41 ∷ []) (p.0 ++ newline)
    ∙ ap (λ (xs : List ℕ). 40 ∷ xs) (sym (append_assoc (digits (40 ∷ more)) (41 ∷ p.0) newline) ∙ ap (λ (xs : List ℕ). xs ++ newline) all)) in
    subst (λ (xs : List ℕ). MatchOption (cond (not (has_reason (drop 1 xs))) (Some NoReason) None) (SpellsClaim (w ++ ((40 ∷ more) ++ newline)) (claim_after_bracket k more)) (λ g. claim_after_bracket k more ≡ claim.Malformed g)) (sym p.1)
    (subst (λ (c : Claim). MatchOption (cond (not (has_reason p.0)) (Some NoReason) None) (SpellsClaim (w ++ ((40 ∷ more) ++ newline)) c) (λ g. c ≡ claim.Malformed g)) (sym found)
    (subst (λ (xs : List ℕ). MatchOption (cond (not (has_reason p.0)) (Some NoReason) None) (SpellsClaim xs (claim_from_reason (claim_with_number k (decimal_value (digits (40 ∷ more)))) (reason_in p.0)))
    (λ g. claim_from_reason (claim_with_number k (decimal_value (digits (40 ∷ more)))) (reason_in p.0) ≡ claim.Malformed g)) file answer))

pub number_at : (t : Bool) (w more : List ℕ) (b : ℕ) (k : Keyword) → (b == 40) ≡ t → may_have_number k ≡ true → claim_without_bracket k (b ∷ more) ≡ claim_from_reason (claim_with_reason k) (reason_in (b ∷ more))
    → Wanted w (claim_with_reason k) → WantedNumber w k → list_any is_newline (b ∷ more) ≡ false
    → MatchOption (cond (t && not (has_number (b ∷ more))) (Some BadNumber) (cond (not (has_reason (if t then drop 1 (after_digits (b ∷ more)) else b ∷ more))) (Some NoReason) None))
    (SpellsClaim (w ++ ((b ∷ more) ++ newline)) (if t then claim_after_bracket k more else claim_without_bracket k (b ∷ more))) (λ g. (if t then claim_after_bracket k more else claim_without_bracket k (b ∷ more)) ≡ claim.Malformed g)
number_at true w more b k e may plain wants numbers none =
    subst (λ (x : ℕ). MatchOption (cond (not (has_number (x ∷ more))) (Some BadNumber) (cond (not (has_reason (drop 1 (after_digits (x ∷ more))))) (Some NoReason) None))
    (SpellsClaim (w ++ ((x ∷ more) ++ newline)) (claim_after_bracket k more)) (λ g. claim_after_bracket k more ≡ claim.Malformed g)) (sym (eqb-true b 40 e))
    (bracket_at (has_number (40 ∷ more)) w more k refl may numbers (or_parts (is_newline b) (list_any is_newline more) none).1)
number_at false w more b k e may plain wants numbers none = rw plain (reasoned w (b ∷ more) (claim_with_reason k) wants none)

pub number_word : (w rest : List ℕ) (k : Keyword) → may_have_number k ≡ true → ((r : List ℕ) → claim_without_bracket k r ≡ claim_from_reason (claim_with_reason k) (reason_in r))
    → Wanted w (claim_with_reason k) → WantedNumber w k → list_any is_newline rest ≡ false
    → MatchOption (Rows true true false rest) (SpellsClaim (w ++ (rest ++ newline)) (claim_after k rest)) (λ g. claim_after k rest ≡ claim.Malformed g)
number_word w [] k may plain wants numbers none = plain []
number_word w (b ∷ more) k may plain wants numbers none = number_at (b == 40) w more b k refl may (plain (b ∷ more)) wants numbers none
