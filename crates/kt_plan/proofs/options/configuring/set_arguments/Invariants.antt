use Rattle.std.proofs.Common.{drop}
use Rattle.kt_plan.proofs.Configurations.{HasSet}
use Rattle.kt_plan.proofs.options.configuring.set_arguments.Given as goal

-- The variables of the arguments before the remaining ones have been set.
abbrev pub invariant-loop-word : goal.invariant-loop-word
invariant-loop-word l = HasSet l.fn.config l.config l.words (drop l.word-index l.words)
