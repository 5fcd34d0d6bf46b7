use Rattle.kt_removal.specs.Common.{KeepsQueue}
use Rattle.kt_removal.proofs.state.Removals.remove_named_entries.Given as goal

abbrev pub invariant-loop : goal.invariant-loop
invariant-loop g l = KeepsQueue l.initial.self l.self
