use Rattle.std.proofs.Common.{rules}
use Rattle.kt_script.proofs.state.State.transition.Goals as goal
use Rattle.kt_script.proofs.state.State.transition.Goals.{in_default-via-in-AfterName+in_default, in_default-via-in-AfterArgument+in_default, in_default-via-in-Pairs+in_default, in_default-via-in-AfterKeyBracket+in_default, in_default-via-in-AfterKeyString+in_default, in_default-via-in-AfterKey+in_default, in_default-via-in-AfterPair+in_default, in_default-via-in-AfterDot+in_default, in_default-via-in-AfterPathBracket+in_default, in_default-via-in-AfterPathString+in_default, in_default-via-in-AfterPath+in_default}

pub returns-in_default : goal.returns-in_default
returns-in_default c = elim c.in_default.branch [ in_default-via-in-AfterName+in_default w ↦ search rules | in_default-via-in-AfterArgument+in_default w ↦ search rules | in_default-via-in-Pairs+in_default w ↦ search rules | in_default-via-in-AfterKeyBracket+in_default w ↦ search rules | in_default-via-in-AfterKeyString+in_default w ↦ search rules | in_default-via-in-AfterKey+in_default w ↦ search rules | in_default-via-in-AfterPair+in_default w ↦ search rules | in_default-via-in-AfterDot+in_default w ↦ search rules | in_default-via-in-AfterPathBracket+in_default w ↦ search rules | in_default-via-in-AfterPathString+in_default w ↦ search rules | in_default-via-in-AfterPath+in_default w ↦ search rules ]
