-- The claim of a result file.
use Rattle.std.specs.Prelude.{◌≡◌, ℕ, ◌-◌, ◌<◌, ◌≤◌, ◌⊎◌, Bool, true, false, not, ◌&&◌, ◌||◌, ◌==◌, nat_eq, nat_lt, if◌then◌else◌, List, [], ◌∷◌, ◌++◌, length, take, drop, codes, bytes_eq, Option, Some, None}
use Rattle.std.specs.List.{prefix_len, starts_with, ends_with, list_any, list_all, find}
use Rattle.kt_base.specs.Lossy.{lossy}
use Rattle.kt_base.specs.Digits.{is_digit}
use Rattle.kt_base.specs.Lines.{is_newline}
use Rattle.kt_claim.specs.Bytes.{newline, is_keyword_byte, decimal_value}
use Rattle.kt_claim.specs.declared.evidence.Claim.{Claim}
use Rattle.kt_claim.specs.declared.evidence.Claim.TheVariants.{Malformed, Passed, Failed, Skipped, ExpectedFailure, ExpectedDeath, ExpectedTimeout, ExpectedExit, ExpectedSignal}
use Rattle.kt_claim.specs.declared.evidence.ClaimFault.{ClaimFault}
use Rattle.kt_claim.specs.declared.evidence.ClaimFault.TheVariants.{TooLong, Empty, NoNewline, SeveralLines, UnknownWord, BadNumber, UnexpectedReason, NoReason}

-- `limit`: the greatest length of a result file, in bytes.
abbrev pub limit : ℕ
limit = 65536

-- ---- valid files

-- `IsReason reason`: `reason` has one byte or more and no newline.
abbrev pub IsReason : List ℕ → Type 0
IsReason reason = (0 < length reason) × (list_any is_newline reason ≡ false)

-- `IsNumber digits`: `digits` are one decimal digit or more, and spell a number less than 256. The
-- number is an exit status or a signal.
abbrev pub IsNumber : List ℕ → Type 0
IsNumber digits = (0 < length digits) × (list_all is_digit digits ≡ true) × (decimal_value digits < 256)

-- `reason_suffix reason`: the bytes after a keyword without a number: a colon, a space, `reason`
-- and a newline.
abbrev pub reason_suffix : List ℕ → List ℕ
reason_suffix reason = codes ": " ++ reason ++ newline

-- `number_suffix digits reason`: the bytes after a keyword with a number: `digits` in round
-- brackets, and then `reason_suffix reason`.
abbrev pub number_suffix : List ℕ → List ℕ → List ℕ
number_suffix digits reason = codes "(" ++ digits ++ codes ")" ++ reason_suffix reason

-- `SpellsClaim file claim`: `file` is one line, with its newline, that spells `claim`.
pub data SpellsClaim : List ℕ → Claim → Type 0 where
  passed : SpellsClaim (codes "passed" ++ newline) Passed
  failed : (r : List ℕ) → IsReason r → SpellsClaim (codes "failed" ++ reason_suffix r) (Failed (lossy r))
  skipped : (r : List ℕ) → IsReason r → SpellsClaim (codes "skipped" ++ reason_suffix r) (Skipped (lossy r))
  expected_death : (r : List ℕ) → IsReason r → SpellsClaim (codes "expected_death" ++ reason_suffix r) (ExpectedDeath (lossy r))
  expected_failure : (r : List ℕ) → IsReason r → SpellsClaim (codes "expected_failure" ++ reason_suffix r) (ExpectedFailure (lossy r))
  expected_timeout : (r : List ℕ) → IsReason r → SpellsClaim (codes "expected_timeout" ++ reason_suffix r) (ExpectedTimeout (lossy r))
  expected_exit : (r : List ℕ) → IsReason r → SpellsClaim (codes "expected_exit" ++ reason_suffix r) (ExpectedExit None (lossy r))
  expected_signal : (r : List ℕ) → IsReason r → SpellsClaim (codes "expected_signal" ++ reason_suffix r) (ExpectedSignal None (lossy r))
  expected_exit_of : (n r : List ℕ) → IsNumber n → IsReason r → SpellsClaim (codes "expected_exit" ++ number_suffix n r) (ExpectedExit (Some (decimal_value n)) (lossy r))
  expected_signal_of : (n r : List ℕ) → IsNumber n → IsReason r → SpellsClaim (codes "expected_signal" ++ number_suffix n r) (ExpectedSignal (Some (decimal_value n)) (lossy r))

-- ---- files with an error

-- `line file`: `file` without its last byte, which is the newline of a valid file.
abbrev pub line : List ℕ → List ℕ
line file = take (length file - 1) file

-- `leading_keyword file`: the letters from a to z and underscores that the line of `file` begins
-- with.
abbrev pub leading_keyword : List ℕ → List ℕ
leading_keyword file = take (prefix_len is_keyword_byte (line file)) (line file)

-- `after_leading_keyword file`: the bytes of the file's line after `leading_keyword file`.
abbrev pub after_leading_keyword : List ℕ → List ℕ
after_leading_keyword file = drop (prefix_len is_keyword_byte (line file)) (line file)

-- `is_keyword expected found`: `found` is the keyword `expected`.
abbrev pub is_keyword : List ℕ → List ℕ → Bool
is_keyword expected found = bytes_eq found expected

-- `allows_number w`: the keyword `w` may have a number.
abbrev pub allows_number : List ℕ → Bool
allows_number w = is_keyword (codes "expected_exit") w || is_keyword (codes "expected_signal") w

-- `is_known w`: `w` is a keyword of result files.
abbrev pub is_known : List ℕ → Bool
is_known w =
    is_keyword (codes "passed") w || is_keyword (codes "failed") w || is_keyword (codes "skipped") w || is_keyword (codes "expected_death") w
    || is_keyword (codes "expected_failure") w || is_keyword (codes "expected_timeout") w || allows_number w

-- `has_bracket rest`: `rest` begins with an opening round bracket.
abbrev pub has_bracket : List ℕ → Bool
has_bracket [] = false
has_bracket (b ∷ rest) = b == 40

-- `has_closing_bracket rest`: `rest` begins with a closing round bracket.
abbrev pub has_closing_bracket : List ℕ → Bool
has_closing_bracket [] = false
has_closing_bracket (b ∷ rest) = b == 41

-- `digits rest`: the digits after the first byte of `rest`, which is a bracket.
abbrev pub digits : List ℕ → List ℕ
digits rest = take (prefix_len is_digit (drop 1 rest)) (drop 1 rest)

-- `after_digits rest`: the bytes of `rest` after its first byte and `digits rest`.
abbrev pub after_digits : List ℕ → List ℕ
after_digits rest = drop (prefix_len is_digit (drop 1 rest)) (drop 1 rest)

-- `has_number rest`: a number less than 256 and a closing bracket follow the first byte of `rest`,
-- which is an opening bracket.
abbrev pub has_number : List ℕ → Bool
has_number rest = nat_lt 0 (length (digits rest)) && nat_lt (decimal_value (digits rest)) 256 && has_closing_bracket (after_digits rest)

-- `after_number rest`: the bytes of `rest` after the number in round brackets that it begins with.
-- If `rest` doesn't begin with an opening bracket, it has no number, and the result is `rest`.
-- Otherwise, the bracket, the digits after it and one more byte are left out. In a valid file, this
-- byte is the closing bracket.
abbrev pub after_number : List ℕ → List ℕ
after_number rest = if has_bracket rest then drop 1 (after_digits rest) else rest

-- `has_reason rest`: `rest` is a colon, a space and a reason of one byte or more.
abbrev pub has_reason : List ℕ → Bool
has_reason rest = starts_with nat_eq rest (codes ": ") && nat_lt 2 (length rest)

-- `line_has_fault w rest fault`: the error `fault` applies to a line that consists of `w` and the
-- bytes `rest`. `w` are the letters from a to z and underscores at the start of the line. The
-- result has a meaning only if no earlier error of `fault_order` applies.
abbrev pub line_has_fault : List ℕ → List ℕ → ClaimFault → Bool
line_has_fault w rest UnknownWord = not (is_known w)
line_has_fault w rest BadNumber = has_bracket rest && not (allows_number w && has_number rest)
line_has_fault w rest UnexpectedReason = is_keyword (codes "passed") w && nat_lt 0 (length rest)
line_has_fault w rest NoReason = not (is_keyword (codes "passed") w) && not (has_reason (after_number rest))
line_has_fault w rest _ = false

-- `has_fault file fault`: the error `fault` applies to `file`. The result has a meaning only if no
-- earlier error of `fault_order` applies.
abbrev pub has_fault : List ℕ → ClaimFault → Bool
has_fault file TooLong = nat_lt limit (length file)
has_fault file Empty = length file == 0
has_fault file NoNewline = not (ends_with nat_eq file newline)
has_fault file SeveralLines = list_any is_newline (line file)
has_fault file fault = line_has_fault (leading_keyword file) (after_leading_keyword file) fault

-- `fault_order`: the errors of result files, in the order in which they are checked. A file has the
-- first error that applies to it.
abbrev pub fault_order : List ClaimFault
fault_order = TooLong ∷ Empty ∷ NoNewline ∷ SeveralLines ∷ UnknownWord ∷ BadNumber ∷ UnexpectedReason ∷ NoReason ∷ []

-- `fault_of file`: the first error of `fault_order` that applies to `file`, or `None` if `file` is
-- valid.
abbrev pub fault_of : List ℕ → Option ClaimFault
fault_of file = find (has_fault file) fault_order

-- ---- all files

-- `IsClaimOf file claim`: `file` has at most `limit` bytes and spells `claim`, or `claim` is
-- `Malformed` with the first error of `file`.
abbrev pub IsClaimOf : List ℕ → Claim → Type 0
IsClaimOf file claim = ((length file ≤ limit) × SpellsClaim file claim) ⊎ ((fault : ClaimFault) × (fault_of file ≡ Some fault) × (claim ≡ Malformed fault))
