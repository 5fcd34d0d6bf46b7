-- The messages of errors as bytes.
use Rattle.std.proofs.Common.{◌≡◌, ℕ, refl}
use Rattle.kt_suite.proofs.Common.{encode, utf8, ScriptFault, SuiteCause, fixed_message, cause_message}
use Rattle.kt_script.specs.FaultMessages.{script_message}
use Rattle.kt_script.specs.declared.fault.ScriptFault.TheVariants as script
use Rattle.kt_suite.specs.declared.cause.SuiteCause.TheVariants as cause

-- The message of each cause but `WrongSyntax` is its fixed message.
pub fixed-cause : (c : SuiteCause) → ((n : ℕ) → c ≡ cause.WrongSyntax n → ⊥) → fixed_message c ≡ cause_message c
fixed-cause (cause.WrongSyntax n) d = absurd (d n refl)
fixed-cause c d = refl

-- The message of a script's error is ASCII.
pub utf8-script : (fault : ScriptFault) → utf8 (script_message fault) ≡ script_message fault
unfolding encode
utf8-script (script.NoMemory refusal) = refl
utf8-script fault = refl

pub utf8-cause : (c : SuiteCause) → utf8 (fixed_message c) ≡ fixed_message c
unfolding encode
utf8-cause (cause.Script fault) = utf8-script fault
utf8-cause c = refl
