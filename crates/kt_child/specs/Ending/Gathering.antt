-- The evidence of a finished child.
use Rattle.std.specs.Prelude.{◌≡◌, ℕ, List, [], ◌⊎◌}
use Rattle.kt_child.specs.Types.{Body, Cleanup, Interface, Paths, Role}
use Rattle.kt_base.specs.declared.child.Interface.TheVariants as interface
use Rattle.kt_claim.specs.declared.evidence.Evidence.{Evidence}
use Rattle.kt_claim.specs.declared.evidence.Evidence.TheVariants as evidence
use Rattle.kt_claim.specs.declared.evidence.Claim.{Claim}
use Rattle.kt_claim.specs.declared.evidence.Claim.TheVariants as claim
use Rattle.kt_claim.specs.declared.evidence.ClaimFault.TheVariants as claim_fault
use Rattle.kt_claim.specs.declared.evidence.Tap.{Tap}
use Rattle.kt_claim.specs.declared.evidence.Tap.TheVariants as tap
use Rattle.kt_claim.specs.declared.evidence.TapFault.TheVariants as tap_fault
use Rattle.kt_claim.specs.ResultFile.{IsClaimOf}
use Rattle.kt_claim.specs.TapStream.{tap_of}
use Rattle.kt_os.specs.System.Calls.{Call}
use Rattle.kt_child.specs.declared.ending.PartsResult.{PartsResult}
use Rattle.kt_child.specs.declared.ending.PartsResult.TheVariants.{Missing, Unreadable, TooLong, Complete}
use Rattle.kt_child.specs.Ending.Parts.{Reads}

-- `IsClaim end bytes found`: `found` is the claim of a result file. `end` is the result of reading
-- the file, and `bytes` are the bytes read. If an allocation fails, the file counts as unreadable.
abbrev pub IsClaim : PartsResult → List ℕ → Claim → Type 0
IsClaim Missing bytes found = found ≡ claim.Missing
IsClaim Unreadable bytes found = found ≡ claim.Unreadable
IsClaim TooLong bytes found = found ≡ claim.Malformed claim_fault.TooLong
IsClaim Complete bytes found = (found ≡ claim.Unreadable) ⊎ IsClaimOf bytes found

-- `IsTap end bytes found`: `found` is the result of a TAP stream, the output of a program. `end` is
-- the result of reading the output, and `bytes` are the bytes read. If an allocation fails, the
-- output counts as unreadable.
abbrev pub IsTap : PartsResult → List ℕ → Tap → Type 0
IsTap TooLong bytes found = found ≡ tap.Invalid tap_fault.TooLong
IsTap Complete bytes found = (found ≡ tap.Invalid tap_fault.Unreadable) ⊎ (found ≡ tap_of bytes)
IsTap end bytes found = found ≡ tap.Invalid tap_fault.Unreadable

-- `ReadsClaim path calls found`: `calls` read the result file at `path`, at most 65,536 bytes in
-- parts of 4,096 bytes, and `found` is its claim.
abbrev pub ReadsClaim : List ℕ → List Call → Claim → Type 0
ReadsClaim path calls found = (end : PartsResult) × (bytes : List ℕ) × Reads path 4096 65536 [] calls end bytes × IsClaim end bytes found

-- `ReadsTap path calls found`: `calls` read the output at `path`, at most 16,777,216 bytes in parts
-- of 65,536 bytes, and `found` is its result as a TAP stream.
abbrev pub ReadsTap : List ℕ → List Call → Tap → Type 0
ReadsTap path calls found = (end : PartsResult) × (bytes : List ℕ) × Reads path 65536 16777216 [] calls end bytes × IsTap end bytes found

-- `ReadsEvidence interface role paths calls left`: `calls` read `left`, the evidence of a child in
-- `role` whose program has the interface `interface`. The evidence is the result file of an ATF
-- body, or the output of a TAP body, at `paths`. For other children there are no calls.
abbrev pub ReadsEvidence : Interface → Role → Paths → List Call → Evidence → Type 0
ReadsEvidence kind Cleanup paths calls left = (calls ≡ []) × (left ≡ evidence.Plain)
ReadsEvidence interface.Atf Body paths calls left = (found : Claim) × ReadsClaim paths.result calls found × (left ≡ evidence.Atf found)
ReadsEvidence interface.Tap Body paths calls left = (found : Tap) × ReadsTap paths.out calls found × (left ≡ evidence.Tap found)
ReadsEvidence interface.Plain Body paths calls left = (calls ≡ []) × (left ≡ evidence.Plain)
