use Rattle.kt_store.proofs.Common.{IsValidWithEntry, Err, Ok, Put, inl, refl}
use Rattle.kt_store.proofs.ServeLemmas.{put_writes, failed_at, seen_at, survives_self, troubled_at, write_refused, write_called}
use Rattle.kt_store.proofs.FaultLemmas.{starved}
use Rattle.kt_store.proofs.results.Results.put.Goals as goal

pub returns-in_err-reason : goal.returns-in_err-reason
returns-in_err-reason g c =
    troubled_at g.S.Store (λ r. Put c.args.run c.args.entry.now r) c.args.self.now c.args.self.now c.args.self.now refl c.from_residual.result c.from_residual.ensures.1
    (λ e short. write_refused g.S.Store _ _ (put_writes _ c.args.run c.args.entry.now) c.args.self.now c.args.self.now (record { stands = λ runs has. has; crash = λ runs has. survives_self _ }) e (λ runs has clean. inl (starved e short)))

pub returns-in_err-check_can_put : goal.returns-in_err-check_can_put
returns-in_err-check_can_put g c =
    failed_at g.S.Store (λ r. Put c.args.run c.args.entry.now r) c.self.inside.conn c.args.self.now c.check_can_put.new.conn c.self.view_is c.from_residual-in_err-check_can_put.result c.in_err-check_can_put.field-0.0 c.from_residual-in_err-check_can_put.ensures.1
    (write_refused g.S.Store _ _ (put_writes _ c.args.run c.args.entry.now) c.self.inside.conn c.check_can_put.new.conn c.check_can_put.ensures.looked _ (λ runs has clean. c.in_err-check_can_put.ensures.refused runs has clean))

pub returns-in_err-add_entry : goal.returns-in_err-add_entry
returns-in_err-add_entry g c =
    troubled_at g.S.Store (λ r. Put c.args.run c.args.entry.now r) c.self.inside.conn c.args.self.now c.add_entry.new.conn c.self.view_is c.from_residual-in_err-add_entry.result c.from_residual-in_err-add_entry.ensures.1 (λ e failed.
    write_called g.S.Store _ _ (put_writes _ c.args.run c.args.entry.now) c.self.inside.conn c.check_can_put.new.conn c.add_entry.new.conn c.check_can_put.ensures.looked (IsValidWithEntry c.args.run c.args.entry.now)
    (λ runs has clean. (c.in_ok-check_can_put.ensures.taken runs has clean c.in_ok-reason.ensures.passed).1) (rw (c.run_key.ensures.same c.in_ok-check_can_put.ensures.small) at c.add_entry.ensures.crash) (Err e) tt (λ _ _ _ _. tt) failed c.in_err-add_entry.ensures.kept)

pub returns : goal.returns
returns g c =
    seen_at g.S.Store _ c.self.inside.conn c.args.self.now c.add_entry.new.conn c.self.view_is
    (write_called g.S.Store (λ r. Put c.args.run c.args.entry.now r) _ (put_writes _ c.args.run c.args.entry.now) c.self.inside.conn c.check_can_put.new.conn c.add_entry.new.conn c.check_can_put.ensures.looked (IsValidWithEntry c.args.run c.args.entry.now)
    (λ runs has clean. (c.in_ok-check_can_put.ensures.taken runs has clean c.in_ok-reason.ensures.passed).1) (rw (c.run_key.ensures.same c.in_ok-check_can_put.ensures.small) at c.add_entry.ensures.crash) (Ok c.in_ok-add_entry.field-0) (rw (c.run_key.ensures.same c.in_ok-check_can_put.ensures.small) at c.in_ok-add_entry.ensures.added)
    (λ runs has early clean. (c.in_ok-check_can_put.ensures.taken runs has early c.in_ok-reason.ensures.passed).0) tt tt)
