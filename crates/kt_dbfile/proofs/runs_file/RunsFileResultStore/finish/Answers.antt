use Rattle.kt_dbfile.proofs.Common.{Finished, Serves, runs_file_spec, subst}
use Rattle.kt_store.proofs.ServeLemmas.{finish_writes}
use Rattle.kt_dbfile.proofs.EndLemmas.{ended_served, ended_settled}
use Rattle.kt_dbfile.proofs.runs_file.RunsFileResultStore.finish.Goals as goal

pub returns : goal.returns
returns g c =
    subst (λ o. Serves (runs_file_spec g.S.Store) (Finished c.args.run c.end_transaction.result) o c.end_transaction.new.self.store) c.self.view_is
    (ended_served g.S.Store g.met.S.Store.shut_if_dirty g.met.S.Store.broken_if_shut g.met.S.Store.settled c.self.inside.schema _ _ (finish_writes _ c.args.run) c.self.inside.trees.store c.mark_run_finished-written.new.self.store c.end_transaction.new.self.store c.self.invariant _ _ c.mark_run_finished-written.ensures c.end_transaction.ensures)

pub invariant_of-self : goal.invariant_of-self
invariant_of-self g c =
    ended_settled g.S.Store g.met.S.Store.shut_if_dirty g.met.S.Store.broken_if_shut g.met.S.Store.settled c.self.inside.schema _ _ (finish_writes _ c.args.run) c.self.inside.trees.store c.mark_run_finished-written.new.self.store c.end_transaction.new.self.store c.self.invariant _ _ c.mark_run_finished-written.ensures c.end_transaction.ensures
