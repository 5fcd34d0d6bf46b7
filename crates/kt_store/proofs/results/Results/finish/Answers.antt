use Rattle.kt_store.proofs.Common.{Err, Finished, IsComplete, Ok}
use Rattle.kt_store.proofs.ServeLemmas.{finish_writes, failed_at, seen_at, troubled_at, write_refused, write_called}
use Rattle.kt_store.proofs.results.Results.finish.Goals as goal

pub returns-in_err-check_can_finish : goal.returns-in_err-check_can_finish
returns-in_err-check_can_finish g c =
    failed_at g.S.Store (λ r. Finished c.args.run r) c.self.inside.conn c.args.self.now c.check_can_finish.new.conn c.self.view_is c.from_residual.result c.in_err-check_can_finish.field-0.0 c.from_residual.ensures.1
    (write_refused g.S.Store _ _ (finish_writes _ c.args.run) c.self.inside.conn c.check_can_finish.new.conn c.check_can_finish.ensures.looked _ (λ runs has clean. c.in_err-check_can_finish.ensures.refused runs has clean))

pub returns-in_err-mark_finished : goal.returns-in_err-mark_finished
returns-in_err-mark_finished g c =
    troubled_at g.S.Store (λ r. Finished c.args.run r) c.self.inside.conn c.args.self.now c.mark_finished.new.conn c.self.view_is c.from_residual-in_err-mark_finished.result c.from_residual-in_err-mark_finished.ensures.1 (λ e failed.
    write_called g.S.Store _ _ (finish_writes _ c.args.run) c.self.inside.conn c.check_can_finish.new.conn c.mark_finished.new.conn c.check_can_finish.ensures.looked (IsComplete c.args.run) (λ runs has clean. (c.in_ok-check_can_finish.ensures.taken runs has clean).1) (rw (c.run_key.ensures.same c.in_ok-check_can_finish.ensures.small) at c.mark_finished.ensures.crash) (Err e) tt
    (λ _ _ _ _. tt) failed c.in_err-mark_finished.ensures.kept)

pub returns : goal.returns
returns g c =
    seen_at g.S.Store _ c.self.inside.conn c.args.self.now c.mark_finished.new.conn c.self.view_is
    (write_called g.S.Store (λ r. Finished c.args.run r) _ (finish_writes _ c.args.run) c.self.inside.conn c.check_can_finish.new.conn c.mark_finished.new.conn c.check_can_finish.ensures.looked (IsComplete c.args.run) (λ runs has clean. (c.in_ok-check_can_finish.ensures.taken runs has clean).1) (rw (c.run_key.ensures.same c.in_ok-check_can_finish.ensures.small) at c.mark_finished.ensures.crash)
    (Ok c.in_ok-mark_finished.field-0) (rw (c.run_key.ensures.same c.in_ok-check_can_finish.ensures.small) at c.in_ok-mark_finished.ensures.marked) (λ runs has early clean. (c.in_ok-check_can_finish.ensures.taken runs has early).0) tt tt)
