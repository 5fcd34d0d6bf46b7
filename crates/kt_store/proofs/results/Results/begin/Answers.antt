use Rattle.kt_store.proofs.Common.{Began, Err, Ok, inl, greatest_run_number, length, ◌<◌}
use Rattle.kt_store.proofs.ServeLemmas.{begin_writes, seen_at, troubled_at, write_refused, write_called}
use Rattle.kt_store.proofs.results.Results.begin.Goals as goal

pub returns-in_err-is_store_full : goal.returns-in_err-is_store_full
returns-in_err-is_store_full g c =
    troubled_at g.S.Store (λ r. Began c.args.total c.args.moment r) c.self.inside.conn c.args.self.now c.is_store_full.new.conn c.self.view_is c.from_residual.result c.from_residual.ensures.1
    (λ e failed. write_refused g.S.Store _ _ (begin_writes _ c.args.total c.args.moment) c.self.inside.conn c.is_store_full.new.conn c.is_store_full.ensures.looked e (λ runs has clean. inl failed))

pub returns-in_err-add_run : goal.returns-in_err-add_run
returns-in_err-add_run g c =
    troubled_at g.S.Store (λ r. Began c.args.total c.args.moment r) c.self.inside.conn c.args.self.now c.add_run.new.conn c.self.view_is c.from_residual-in_err-add_run.result c.from_residual-in_err-add_run.ensures.1 (λ e failed.
    write_called g.S.Store _ _ (begin_writes _ c.args.total c.args.moment) c.self.inside.conn c.is_store_full.new.conn c.add_run.new.conn c.is_store_full.ensures.looked (λ runs. length runs < greatest_run_number)
    (λ runs has clean. (c.in_ok-is_store_full.ensures.full runs has clean).1 c.if-branch.false) c.add_run.ensures.crash (Err e) tt (λ _ _ _ _. tt) failed c.in_err-add_run.ensures.kept)

pub returns : goal.returns
returns g c =
    seen_at g.S.Store _ c.self.inside.conn c.args.self.now c.add_run.new.conn c.self.view_is
    (write_called g.S.Store (λ r. Began c.args.total c.args.moment r) _ (begin_writes _ c.args.total c.args.moment) c.self.inside.conn c.is_store_full.new.conn c.add_run.new.conn c.is_store_full.ensures.looked (λ runs. length runs < greatest_run_number)
    (λ runs has clean. (c.in_ok-is_store_full.ensures.full runs has clean).1 c.if-branch.false) c.add_run.ensures.crash (Ok c.in_ok-add_run.field-0) c.in_ok-add_run.ensures.added
    (λ runs has early clean. (c.in_ok-add_run.ensures.number runs (c.is_store_full.ensures.looked.stands runs has) (λ k. (c.in_ok-is_store_full.ensures.full runs has k).1 c.if-branch.false) clean, (c.in_ok-is_store_full.ensures.full runs has early).1 c.if-branch.false)) tt tt)
