-- The messages of configuration faults.
use Rattle.std.specs.Prelude.{ℕ, List, codes}
use Rattle.kt_script.specs.FaultMessages.{script_message}
use Rattle.kt_config.specs.declared.fault.ConfigFault.{ConfigFault}
use Rattle.kt_config.specs.declared.fault.ConfigFault.TheVariants.{NoMemory, UnknownVariable, BadValue, Script, NoSyntax, NotAssignment}

-- `config_message fault`: the message that is printed for the fault `fault`, without a line number.
abbrev pub config_message : ConfigFault → List ℕ
config_message (NoMemory refusal) = codes "out of memory"
config_message UnknownVariable = codes "unknown variable"
config_message BadValue = codes "bad value"
config_message (Script fault) = script_message fault
config_message NoSyntax = codes "syntax(2) expected"
config_message NotAssignment = codes "not an assignment"
