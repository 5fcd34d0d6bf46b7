use Rattle.kt_suite.proofs.FirstMatches.{misses_before, matches_first}
use Rattle.kt_suite.proofs.selecting.is_miss.Goals as goal

pub returns-then-place-first : goal.returns-then-place-first
returns-then-place-first c = misses_before c.args.filters.now c.args.item.now c.args.first c.args.place c.if-place-first.true

pub returns-else-place-first-2 : goal.returns-else-place-first-2
returns-else-place-first-2 c = matches_first c.args.filters.now c.args.item.now c.args.first c.args.place c.if-place-first-2.false
