-- The messages of the errors of setting a property.
use Rattle.std.specs.Prelude.{ℕ, List, codes}
use Rattle.kt_metadata.specs.declared.fault.PropFault.{PropFault}
use Rattle.kt_metadata.specs.declared.fault.PropFault.TheVariants.{NoMemory, UnknownProperty, BadValue}

-- `prop_message fault`: the message of the error `fault` of setting a property.
abbrev pub prop_message : PropFault → List ℕ
prop_message (NoMemory refusal) = codes "out of memory"
prop_message UnknownProperty = codes "unknown property"
prop_message BadValue = codes "bad value"
