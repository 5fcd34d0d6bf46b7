use Rattle.std.proofs.Common.{rules, sym}
use Rattle.kt_suite.proofs.OneStep.{adds_missing, adds_too_many, adds_short, adds_one, adds_unasked}
use Rattle.kt_suite.proofs.stepping.register_program.Goals as goal

pub returns-in-Err : goal.returns-in-Err
returns-in-Err g c = adds_unasked g.T.Tree.asks _ _ c.args.registry _ _ (c.in-Err.refusal, c.fault_of_allocation.ensures)

pub returns-then-not-exists : goal.returns-then-not-exists
returns-then-not-exists g c =
    rw (sym c.in-Ok.ensures) (adds_missing g.T.Tree.asks _ _ (record { file = c.args.file.now; line = c.args.line }) _ _ _ _ c.exists.ensures (search rules) c.fault_at.ensures)

pub returns-then-len-ge-PROGRAM_LIMIT : goal.returns-then-len-ge-PROGRAM_LIMIT
returns-then-len-ge-PROGRAM_LIMIT g c =
    rw (sym c.in-Ok.ensures)
    (adds_too_many g.T.Tree.asks _ _ (record { file = c.args.file.now; line = c.args.line }) _ _ _ _ c.exists.ensures (search rules) (search rules) c.fault_at-then-len-ge-PROGRAM_LIMIT.ensures)

pub returns-in-Err-push : goal.returns-in-Err-push
returns-in-Err-push g c = rw (sym c.in-Ok.ensures) (adds_short g.T.Tree.asks _ _ _ _ _ _ _ c.exists.ensures (c.in-Err-push.refusal, c.fault_of_allocation-in-Err-push.ensures))

pub returns-in-Ok-push : goal.returns-in-Ok-push
returns-in-Ok-push g c = rw (sym c.in-Ok.ensures) (adds_one g.T.Tree.asks _ _ _ _ _ _ _ c.exists.ensures (search rules) (search rules) (search rules))
