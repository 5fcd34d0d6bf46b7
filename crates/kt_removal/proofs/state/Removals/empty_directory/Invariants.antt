use Rattle.kt_removal.specs.Common.{KeepsQueue}
use Rattle.kt_removal.proofs.state.Removals.empty_directory.Given as goal

abbrev pub invariant-loop : goal.invariant-loop
invariant-loop g l = KeepsQueue l.initial.self l.self
