use Rattle.std.proofs.Common.{◌≡◌, ℕ, List, drop, false}
use Rattle.kt_os.proofs.Common.{SameDir, SameProgramAndArgs, clears_env, command_var, setting_after_removals}
use Rattle.kt_os.proofs.host.command.remove_variables.Given as goal

abbrev pub invariant-loop-name : goal.invariant-loop-name
invariant-loop-name l =
    ((k : List ℕ) → setting_after_removals (drop l.name-index l.name-items) k (command_var l.command k) ≡ setting_after_removals l.name-items k (command_var l.initial.command k))
    × (clears_env l.command ≡ false) × SameProgramAndArgs l.initial.command l.command × SameDir l.initial.command l.command
