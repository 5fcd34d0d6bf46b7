use Rattle.std.proofs.Common.{◌≡◌, ℕ, List, drop}
use Rattle.kt_os.proofs.Common.{SameDir, SameProgramAndArgs, clears_env, command_var, setting_after_sets}
use Rattle.kt_os.proofs.host.command.set_variables.Given as goal

abbrev pub invariant-loop-variable : goal.invariant-loop-variable
invariant-loop-variable l =
    ((k : List ℕ) → setting_after_sets (drop l.variable-index l.variable-items) k (command_var l.command k) ≡ setting_after_sets l.variable-items k (command_var l.initial.command k))
    × (clears_env l.command ≡ clears_env l.initial.command) × SameProgramAndArgs l.initial.command l.command × SameDir l.initial.command l.command
