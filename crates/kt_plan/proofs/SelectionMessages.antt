-- Lemmas on the error messages as characters and as bytes.
use Rattle.std.proofs.Common.{◌≡◌, refl}
use Rattle.kt_plan.proofs.Common.{chars, encode, utf8, ConfigFault, config_message, FilterFault, utf8-script}
use Rattle.kt_script.specs.declared.fault.ScriptFault.{ScriptFault}
use Rattle.kt_script.specs.FaultMessages.{script_message}
use Rattle.kt_suite.specs.FaultMessages.{filter_message}
use Rattle.kt_script.specs.declared.fault.ScriptFault.TheVariants as script
use Rattle.kt_config.specs.declared.fault.ConfigFault.TheVariants as config
use Rattle.kt_suite.specs.declared.filter.FilterFault.TheVariants as filter

-- The message of a script error consists of its characters.
chars-script : (fault : ScriptFault) → chars (script_message fault) ≡ script_message fault
unfolding chars
chars-script (script.NoMemory refusal) = refl
chars-script fault = refl

-- The message of a configuration error consists of its characters.
pub chars-config : (fault : ConfigFault) → chars (config_message fault) ≡ config_message fault
unfolding chars
chars-config (config.Script fault) = chars-script fault
chars-config fault = refl

-- The message of a filter error consists of its characters.
pub chars-filter : (fault : FilterFault) → chars (filter_message fault) ≡ filter_message fault
unfolding chars
chars-filter (filter.NoMemory refusal) = refl
chars-filter fault = refl

-- The message of a configuration error is its own UTF-8.
pub utf8-config : (fault : ConfigFault) → utf8 (config_message fault) ≡ config_message fault
unfolding encode
utf8-config (config.Script fault) = utf8-script fault
utf8-config fault = refl
