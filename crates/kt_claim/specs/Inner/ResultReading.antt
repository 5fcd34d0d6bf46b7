-- The claim of a result file, parsed from left to right.
use Rattle.std.specs.Prelude.{ℕ, Bool, true, false, not, ◌&&◌, ◌==◌, nat_eq, nat_lt, if◌then◌else◌, List, [], ◌∷◌, length, take, drop, codes, bytes_eq, Option, Some, None}
use Rattle.std.specs.List.{prefix_len, starts_with, ends_with, list_any}
use Rattle.kt_base.specs.Digits.{is_digit, number_up_to}
use Rattle.kt_base.specs.Lossy.{lossy}
use Rattle.kt_base.specs.Lines.{is_newline}
use Rattle.kt_claim.specs.Bytes.{newline, is_keyword_byte, decimal_value}
use Rattle.kt_claim.specs.ResultFile.{limit, line}
use Rattle.kt_claim.specs.declared.evidence.Claim.{Claim}
use Rattle.kt_claim.specs.declared.evidence.Claim.TheVariants as claim
use Rattle.kt_claim.specs.declared.evidence.ClaimFault.TheVariants.{TooLong, Empty, NoNewline, SeveralLines, UnknownWord, BadNumber, UnexpectedReason, NoReason}
use Rattle.kt_claim.specs.declared.result_line.Keyword.{Keyword}
use Rattle.kt_claim.specs.declared.result_line.Keyword.TheVariants.{Passed, Failed, Skipped, ExpectedDeath, ExpectedFailure, ExpectedTimeout, ExpectedExit, ExpectedSignal}

-- `keyword_of w`: the keyword that is spelled `w`, or `None` if `w` is not one of the eight
-- keywords.
unfoldable pub keyword_of : List ℕ → Option Keyword
keyword_of w =
    if bytes_eq w (codes "passed") then Some Passed
    else if bytes_eq w (codes "failed") then Some Failed
    else if bytes_eq w (codes "skipped") then Some Skipped
    else if bytes_eq w (codes "expected_death") then Some ExpectedDeath
    else if bytes_eq w (codes "expected_failure") then Some ExpectedFailure
    else if bytes_eq w (codes "expected_timeout") then Some ExpectedTimeout
    else if bytes_eq w (codes "expected_exit") then Some ExpectedExit
    else if bytes_eq w (codes "expected_signal") then Some ExpectedSignal
    else None

-- `claim_with_reason w r`: the claim of the keyword `w` with the reason `r` and no number.
abbrev pub claim_with_reason : Keyword → List ℕ → Claim
claim_with_reason Passed _ = claim.Passed
claim_with_reason Failed r = claim.Failed r
claim_with_reason Skipped r = claim.Skipped r
claim_with_reason ExpectedDeath r = claim.ExpectedDeath r
claim_with_reason ExpectedFailure r = claim.ExpectedFailure r
claim_with_reason ExpectedTimeout r = claim.ExpectedTimeout r
claim_with_reason ExpectedExit r = claim.ExpectedExit None r
claim_with_reason ExpectedSignal r = claim.ExpectedSignal None r

-- `claim_with_number w n r`: the claim of the keyword `w` with the number `n` and the reason `r`.
-- It is `Malformed BadNumber` if `w` may not have a number.
abbrev pub claim_with_number : Keyword → ℕ → List ℕ → Claim
claim_with_number ExpectedExit n r = claim.ExpectedExit (Some n) r
claim_with_number ExpectedSignal n r = claim.ExpectedSignal (Some n) r
claim_with_number _ n r = claim.Malformed BadNumber

-- `reason_in rest`: the reason in `rest`, if `rest` is a colon, a space and one byte or more.
abbrev pub reason_in : List ℕ → Option (List ℕ)
reason_in rest = if starts_with nat_eq rest (codes ": ") && nat_lt 2 (length rest) then Some (drop 2 rest) else None

-- `claim_from_reason make reason`: the claim that `make` returns for the text of the bytes
-- `reason`. It is `Malformed NoReason` if `reason` is `None`.
abbrev pub claim_from_reason : (List ℕ → Claim) → Option (List ℕ) → Claim
claim_from_reason make None = claim.Malformed NoReason
claim_from_reason make (Some reason) = make (lossy reason)

-- `number_before_bracket n rest`: the number `n`, and the bytes of `rest` after its first byte, a
-- closing bracket. It is `None` if `n` is `None`, or if `rest` does not begin with a closing
-- bracket.
abbrev pub number_before_bracket : Option ℕ → List ℕ → Option (ℕ × List ℕ)
number_before_bracket None rest = None
number_before_bracket (Some n) [] = None
number_before_bracket (Some n) (b ∷ rest) = if b == 41 then Some (n, rest) else None

-- `byte_value digits`: the value of `digits`, or `None` if there is no digit or the value is
-- greater than 255.
abbrev pub byte_value : List ℕ → Option ℕ
byte_value [] = None
byte_value (d ∷ digits) = number_up_to 255 (decimal_value (d ∷ digits))

-- `number_in rest`: the number from 0 to 255 that `rest` begins with, and the bytes after the
-- closing bracket that follows it. It is `None` without such a number or bracket.
unfoldable pub number_in : List ℕ → Option (ℕ × List ℕ)
number_in rest = number_before_bracket (byte_value (take (prefix_len is_digit rest) rest)) (drop (prefix_len is_digit rest) rest)

-- `claim_from_number w found`: the claim of the keyword `w` with the number `found.0` and the
-- reason in the bytes `found.1`. It is `Malformed BadNumber` if `found` is `None`.
abbrev pub claim_from_number : Keyword → Option (ℕ × List ℕ) → Claim
claim_from_number w None = claim.Malformed BadNumber
claim_from_number w (Some found) = claim_from_reason (claim_with_number w found.0) (reason_in found.1)

-- `may_have_number w`: the keyword `w` may have a number.
abbrev pub may_have_number : Keyword → Bool
may_have_number ExpectedExit = true
may_have_number ExpectedSignal = true
may_have_number _ = false

-- `claim_after_bracket w rest`: the claim of a line of the keyword `w`, an opening bracket and
-- `rest`.
abbrev pub claim_after_bracket : Keyword → List ℕ → Claim
claim_after_bracket w rest = if may_have_number w then claim_from_number w (number_in rest) else claim.Malformed BadNumber

-- `claim_without_bracket w rest`: the claim of a line that consists of the keyword `w` and the
-- bytes `rest`, which don't begin with an opening bracket.
abbrev pub claim_without_bracket : Keyword → List ℕ → Claim
claim_without_bracket Passed [] = claim.Passed
claim_without_bracket Passed (_ ∷ _) = claim.Malformed UnexpectedReason
claim_without_bracket w rest = claim_from_reason (claim_with_reason w) (reason_in rest)

-- `claim_after w rest`: the claim of a line that consists of the keyword `w` and the bytes `rest`.
abbrev pub claim_after : Keyword → List ℕ → Claim
claim_after w [] = claim_without_bracket w []
claim_after w (b ∷ rest) = if b == 40 then claim_after_bracket w rest else claim_without_bracket w (b ∷ rest)

-- `claim_of_keyword w rest`: the claim of a line that consists of the keyword `w` and the bytes
-- `rest`. It is `Malformed UnknownWord` if `w` is `None`.
abbrev pub claim_of_keyword : Option Keyword → List ℕ → Claim
claim_of_keyword None rest = claim.Malformed UnknownWord
claim_of_keyword (Some w) rest = claim_after w rest

-- `claim_of_line text`: the claim of the line `text`, which has no newline.
unfoldable pub claim_of_line : List ℕ → Claim
claim_of_line text = claim_of_keyword (keyword_of (take (prefix_len is_keyword_byte text) text)) (drop (prefix_len is_keyword_byte text) text)

-- `claim_of file`: the claim of the result file `file`, or `Malformed` with its first error.
unfoldable pub claim_of : List ℕ → Claim
claim_of file =
    if nat_lt limit (length file) then claim.Malformed TooLong
    else if length file == 0 then claim.Malformed Empty
    else if not (ends_with nat_eq file newline) then claim.Malformed NoNewline
    else if list_any is_newline (line file) then claim.Malformed SeveralLines
    else claim_of_line (line file)
