-- The claim that is read from the left is a claim of the file.
use Rattle.std.proofs.Common.{◌≡◌, ℕ, ◌-◌, ◌≤◌, true, false, not, List, [], ◌∷◌, ◌++◌, length, take, drop, Option, Some, None, refl, ap, sym, subst, ◌∙◌, append_assoc, inl, inr, arith, ◌==◌, nat_eq, nat_lt, MatchOption}
use Rattle.kt_claim.proofs.Common.{prefix_len, ends_with, list_any, find, ltb-false, take-append-drop, bytes_eq-Decides, is_newline, newline, is_keyword_byte, limit, SpellsClaim, line, line_has_fault, fault_of, IsClaimOf, after_leading_keyword, keyword_of, claim_of_keyword, claim_of_line, claim_of, ClaimFault, TooLong, Empty, NoNewline, SeveralLines, UnknownWord, BadNumber, UnexpectedReason, NoReason}
use Rattle.kt_claim.specs.ResultFile.{leading_keyword as first_word}
use Rattle.kt_claim.specs.declared.evidence.Claim.TheVariants as claim
use Rattle.kt_claim.proofs.Reasons.{row, under}
use Rattle.kt_claim.proofs.Words.{any_right}
use Rattle.kt_claim.proofs.FirstWords.{Read, read_word}
use Rattle.std.proofs.lemmas.Bool.{not-false}

-- ---- whole files

pub line_and_newline : (file : List ℕ) → ends_with nat_eq file newline ≡ true → line file ++ newline ≡ file
line_and_newline file e = ap (λ (xs : List ℕ). line file ++ xs) ((bytes_eq-Decides newline (drop (length file - 1) file)).0 e) ∙ take-append-drop (length file - 1) file

pub drop_clean : (n : ℕ) (xs : List ℕ) → list_any is_newline xs ≡ false → list_any is_newline (drop n xs) ≡ false
drop_clean n xs none = any_right (take n xs) (drop n xs) (ap (list_any is_newline) (take-append-drop n xs) ∙ none)

-- If `Read` holds of the parts of a file's line, `claim_of_keyword` gives the claim of the file, or
-- its error.
pub line_in_file : (file : List ℕ) → ends_with nat_eq file newline ≡ true → length file ≤ limit → Read (after_leading_keyword file) (first_word file)
    → MatchOption (find (line_has_fault (first_word file) (after_leading_keyword file)) (UnknownWord ∷ BadNumber ∷ UnexpectedReason ∷ NoReason ∷ []))
    ((length file ≤ limit) × SpellsClaim file (claim_of_keyword (keyword_of (first_word file)) (after_leading_keyword file))) (λ g. claim_of_keyword (keyword_of (first_word file)) (after_leading_keyword file) ≡ claim.Malformed g)
line_in_file file ends short found =
    under (find (line_has_fault (first_word file) (after_leading_keyword file)) (UnknownWord ∷ BadNumber ∷ UnexpectedReason ∷ NoReason ∷ [])) (claim_of_keyword (keyword_of (first_word file)) (after_leading_keyword file))
    (SpellsClaim (first_word file ++ (after_leading_keyword file ++ newline)) (claim_of_keyword (keyword_of (first_word file)) (after_leading_keyword file)))
    ((length file ≤ limit) × SpellsClaim file (claim_of_keyword (keyword_of (first_word file)) (after_leading_keyword file)))
    (λ said. (
      short,
      subst (λ (xs : List ℕ). SpellsClaim xs (claim_of_keyword (keyword_of (first_word file)) (after_leading_keyword file)))
          (sym (append_assoc (first_word file) (after_leading_keyword file) newline) ∙ ap (λ (xs : List ℕ). xs ++ newline) (take-append-drop (prefix_len is_keyword_byte (line file)) (line file))
          ∙ line_and_newline file ends) said,
    ))
    found

pub read_file : (file : List ℕ) → MatchOption (fault_of file) ((length file ≤ limit) × SpellsClaim file (claim_of file)) (λ g. claim_of file ≡ claim.Malformed g)
unfolding claim_of claim_of_line
read_file file =
    row (nat_lt limit (length file)) TooLong _ _ (λ c. (length file ≤ limit) × SpellsClaim file c) (λ short.
    row (length file == 0) Empty _ _ (λ c. (length file ≤ limit) × SpellsClaim file c) (λ some.
    row (not (ends_with nat_eq file newline)) NoNewline _ _ (λ c. (length file ≤ limit) × SpellsClaim file c) (λ ends.
    row (list_any is_newline (line file)) SeveralLines _ _ (λ c. (length file ≤ limit) × SpellsClaim file c) (λ one.
    line_in_file file (not-false (ends_with nat_eq file newline) ends) (omega (arith, ltb-false limit (length file) short))
    (read_word (first_word file) (after_leading_keyword file) (drop_clean (prefix_len is_keyword_byte (line file)) (line file) one))))))

pub claims_at : (o : Option ClaimFault) (file : List ℕ) → fault_of file ≡ o → MatchOption o ((length file ≤ limit) × SpellsClaim file (claim_of file)) (λ g. claim_of file ≡ claim.Malformed g) → IsClaimOf file (claim_of file)
claims_at None file e h = inl h
claims_at (Some g) file e h = inr (g, e, h)

-- `claim_of` of a file is a claim of the file.
pub claims : (file : List ℕ) → IsClaimOf file (claim_of file)
claims file = claims_at (fault_of file) file refl (read_file file)
