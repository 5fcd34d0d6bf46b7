-- A file has no other claim than `claim_of` of the file.
use Rattle.std.proofs.Common.{◌≡◌, ℕ, ◌-◌, ◌≤◌, ◌<◌, true, false, eqb, ltb, List, [], ◌∷◌, ◌++◌, length, drop, Option, Some, Result, Ok, Err, refl, ap, sym, subst, ◌∙◌, append_assoc, inl, inr, arith, nat_eq, codes, MatchOption, IfOk}
use Rattle.kt_claim.proofs.Common.{bytes_eq, prefix_len, ends_with, list_any, list_all, false≢true, lt-ltb, le-ltb, ne_eqb, length-append, is_digit, lossy, is_newline, newline, decimal_value, limit, IsReason, IsNumber, reason_suffix, number_suffix, SpellsClaim, line, is_keyword, IsClaimOf, keyword_of, claim_with_reason, claim_with_number, reason_in, claim_from_reason, byte_value, number_in, claim_from_number, claim_of_line, claim_of, Claim, ClaimFault, Keyword}
use Rattle.std.proofs.Math.Seq.{take-append_seam, drop-append_seam}
use Rattle.kt_claim.specs.ResultFile as says
use Rattle.kt_claim.specs.declared.evidence.Claim.TheVariants as claim
use Rattle.kt_claim.specs.declared.result_line.Keyword.TheVariants as word
use Rattle.kt_claim.proofs.Words.{valued}
use Rattle.kt_claim.proofs.ReadFiles.{read_file, claims}
use Rattle.std.proofs.lemmas.Bool.{and_parts}

-- ---- only that claim

pub reason_found : (r : List ℕ) → 0 < length r → reason_in (58 ∷ 32 ∷ r) ≡ Some r
reason_found r some = let long : ltb 2 (length (58 ∷ 32 ∷ r)) ≡ true = lt-ltb 2 (length (58 ∷ 32 ∷ r)) (omega arith) in rw long refl

pub end_of : (l : List ℕ) → drop (length (l ++ newline) - 1) (l ++ newline) ≡ newline
end_of l = let n : length (l ++ newline) - 1 ≡ length l = omega (arith, length-append l newline) in rw (n, drop-append_seam) refl

pub line_of : (l : List ℕ) → line (l ++ newline) ≡ l
line_of l = let n : length (l ++ newline) - 1 ≡ length l = omega (arith, length-append l newline) in rw n (take-append_seam l newline)

pub whole : (l : List ℕ) → length (l ++ newline) ≤ limit → list_any is_newline l ≡ false → claim_of (l ++ newline) ≡ claim_of_line l
unfolding claim_of
whole l short none =
    let no_excess : ltb limit (length (l ++ newline)) ≡ false = le-ltb limit (length (l ++ newline)) short in
    let some : eqb (length (l ++ newline)) 0 ≡ false = ne_eqb (length (l ++ newline)) 0 (λ e. omega (arith, e, length-append l newline)) in
    let ends : ends_with nat_eq (l ++ newline) newline ≡ true = ap (bytes_eq newline) (end_of l) in
    rw (no_excess, some, ends, line_of l, none) refl

pub all_digits : (n rest : List ℕ) → list_all is_digit n ≡ true → prefix_len is_digit (n ++ 41 ∷ rest) ≡ length n
all_digits [] rest e = refl
all_digits (d ∷ n) rest e = rw (and_parts (is_digit d) (list_all is_digit n) e).0 (omega (arith, all_digits n rest (and_parts (is_digit d) (list_all is_digit n) e).1))

pub digit_clean : (d : ℕ) → is_digit d ≡ true → is_newline d ≡ false
digit_clean d e = ne_eqb d 10 (λ is. false≢true (sym (ap is_digit is) ∙ e))

pub digits_clean : (n rest : List ℕ) → list_all is_digit n ≡ true → list_any is_newline rest ≡ false → list_any is_newline (n ++ rest) ≡ false
digits_clean [] rest e none = none
digits_clean (d ∷ n) rest e none = rw (digit_clean d (and_parts (is_digit d) (list_all is_digit n) e).0) (digits_clean n rest (and_parts (is_digit d) (list_all is_digit n) e).1 none)

pub number_found : (n rest : List ℕ) → IsNumber n → number_in (n ++ 41 ∷ rest) ≡ Some (decimal_value n, rest)
unfolding number_in
number_found n rest isn =
    let all : prefix_len is_digit (n ++ 41 ∷ rest) ≡ length n = all_digits n rest isn.1 in
    let value : byte_value n ≡ Some (decimal_value n) = valued n (lt-ltb 0 (length n) isn.0) (lt-ltb (decimal_value n) 256 isn.2) in
    rw (all, take-append_seam n (41 ∷ rest), drop-append_seam n (41 ∷ rest), value) refl

-- A keyword with a number in round brackets spells `number_suffix`.
pub number_parts : (w n r : List ℕ) → (w ++ 40 ∷ (n ++ 41 ∷ 58 ∷ 32 ∷ r)) ++ newline ≡ w ++ number_suffix n r
number_parts w n r =
    append_assoc w (40 ∷ (n ++ 41 ∷ 58 ∷ 32 ∷ r)) newline
    ∙ ap (λ (xs : List ℕ). w ++ 40 ∷ xs) (append_assoc n (41 ∷ 58 ∷ 32 ∷ r) newline ∙ sym (append_assoc n (41 ∷ []) (reason_suffix r)))

pub numbered_file : (w n r : List ℕ) (c : Claim) → IsNumber n → IsReason r → length (w ++ number_suffix n r) ≤ limit → list_any is_newline (w ++ 40 ∷ (n ++ 41 ∷ 58 ∷ 32 ∷ r)) ≡ false
    → claim_of_line (w ++ 40 ∷ (n ++ 41 ∷ 58 ∷ 32 ∷ r)) ≡ c → claim_of (w ++ number_suffix n r) ≡ c
numbered_file w n r c isn isr short none is =
    subst (λ (xs : List ℕ). claim_of xs ≡ c) (number_parts w n r)
    (whole (w ++ 40 ∷ (n ++ 41 ∷ 58 ∷ 32 ∷ r)) (subst (λ (xs : List ℕ). length xs ≤ limit) (sym (number_parts w n r)) short) none ∙ is)

pub numbered_line : (k : Keyword) (n r : List ℕ) → IsNumber n → IsReason r → claim_from_number k (number_in (n ++ 41 ∷ 58 ∷ 32 ∷ r)) ≡ claim_with_number k (decimal_value n) (lossy r)
numbered_line k n r isn isr = ap (claim_from_number k) (number_found n (58 ∷ 32 ∷ r) isn) ∙ ap (claim_from_reason (claim_with_number k (decimal_value n))) (reason_found r isr.0)

pub said : (file : List ℕ) (c : Claim) → length file ≤ limit → SpellsClaim file c → claim_of file ≡ c
unfolding claim_of_line keyword_of
said _ _ short says.passed = whole (codes "passed") short refl
said _ _ short (says.failed r isr) = whole (codes "failed" ++ 58 ∷ 32 ∷ r) short isr.1 ∙ ap (claim_from_reason (claim_with_reason word.Failed)) (reason_found r isr.0)
said _ _ short (says.skipped r isr) = whole (codes "skipped" ++ 58 ∷ 32 ∷ r) short isr.1 ∙ ap (claim_from_reason (claim_with_reason word.Skipped)) (reason_found r isr.0)
said _ _ short (says.expected_death r isr) = whole (codes "expected_death" ++ 58 ∷ 32 ∷ r) short isr.1 ∙ ap (claim_from_reason (claim_with_reason word.ExpectedDeath)) (reason_found r isr.0)
said _ _ short (says.expected_failure r isr) = whole (codes "expected_failure" ++ 58 ∷ 32 ∷ r) short isr.1 ∙ ap (claim_from_reason (claim_with_reason word.ExpectedFailure)) (reason_found r isr.0)
said _ _ short (says.expected_timeout r isr) = whole (codes "expected_timeout" ++ 58 ∷ 32 ∷ r) short isr.1 ∙ ap (claim_from_reason (claim_with_reason word.ExpectedTimeout)) (reason_found r isr.0)
said _ _ short (says.expected_exit r isr) = whole (codes "expected_exit" ++ 58 ∷ 32 ∷ r) short isr.1 ∙ ap (claim_from_reason (claim_with_reason word.ExpectedExit)) (reason_found r isr.0)
said _ _ short (says.expected_signal r isr) = whole (codes "expected_signal" ++ 58 ∷ 32 ∷ r) short isr.1 ∙ ap (claim_from_reason (claim_with_reason word.ExpectedSignal)) (reason_found r isr.0)
said _ _ short (says.expected_exit_of n r isn isr) =
    numbered_file (codes "expected_exit") n r (claim.ExpectedExit (Some (decimal_value n)) (lossy r)) isn isr short (digits_clean n (41 ∷ 58 ∷ 32 ∷ r) isn.1 isr.1) (numbered_line word.ExpectedExit n r isn isr)
said _ _ short (says.expected_signal_of n r isn isr) =
    numbered_file (codes "expected_signal") n r (claim.ExpectedSignal (Some (decimal_value n)) (lossy r)) isn isr short (digits_clean n (41 ∷ 58 ∷ 32 ∷ r) isn.1 isr.1) (numbered_line word.ExpectedSignal n r isn isr)

-- Each claim of a file is equal to `claim_of` of the file.
pub only_claim : (file : List ℕ) (c : Claim) → IsClaimOf file c → claim_of file ≡ c
only_claim file c (inl h) = said file c h.0 h.1
only_claim file c (inr h) = subst (λ (o : Option ClaimFault). MatchOption o ((length file ≤ limit) × SpellsClaim file (claim_of file)) (λ g. claim_of file ≡ claim.Malformed g)) h.1 (read_file file) ∙ sym h.2

pub related : {E : Type 0} (r : Result Claim E) (file : List ℕ) → IfOk r (λ c. c ≡ claim_of file) → IfOk r (λ c. IsClaimOf file c)
related (Ok c) file is = subst (λ (x : Claim). IsClaimOf file x) (sym is) (claims file)
related (Err e) file is = tt

pub unique : {E : Type 0} (r : Result Claim E) (file : List ℕ) (other : Claim) → IfOk r (λ c. c ≡ claim_of file) → IsClaimOf file other → IfOk r (λ c. c ≡ other)
unique (Ok c) file other is h = is ∙ only_claim file other h
unique (Err e) file other is h = tt
