use Rattle.std.proofs.Common.{suc, drop, get_or, drop-cons, arith}
use Rattle.kt_base.proofs.Numbers.{overflows}
use Rattle.kt_base.proofs.scanning.parse_decimal_up_to.Goals as goal

pub returns-then-next-greatest-clause-value : goal.returns-then-next-greatest-clause-value
returns-then-next-greatest-clause-value c =
    let i = c.loop-c.c-index in
    let digits = c.args.digits.now in
    overflows c.args.greatest c.loop-c.value (get_or digits i 0) (drop i digits) (drop (suc i) digits) digits (drop-cons digits i 0 c.loop-c-test.true) c.loop-c.invariant.0 (grind arith)
