use Rattle.kt_dbfile.proofs.Common.{Began, Serves, runs_file_spec, subst}
use Rattle.kt_store.proofs.ServeLemmas.{begin_writes}
use Rattle.kt_dbfile.proofs.EndLemmas.{ended_served, ended_settled}
use Rattle.kt_dbfile.proofs.runs_file.RunsFileResultStore.begin.Goals as goal

pub returns : goal.returns
returns g c =
    subst (λ o. Serves (runs_file_spec g.S.Store) (Began c.args.total c.args.moment c.end_transaction.result) o c.end_transaction.new.self.store) c.self.view_is
    (ended_served g.S.Store g.met.S.Store.shut_if_dirty g.met.S.Store.broken_if_shut g.met.S.Store.settled c.self.inside.schema _ _ (begin_writes _ c.args.total c.args.moment) c.self.inside.trees.store c.write_run-written.new.self.store c.end_transaction.new.self.store c.self.invariant _ _ c.write_run-written.ensures c.end_transaction.ensures)

pub invariant_of-self : goal.invariant_of-self
invariant_of-self g c =
    ended_settled g.S.Store g.met.S.Store.shut_if_dirty g.met.S.Store.broken_if_shut g.met.S.Store.settled c.self.inside.schema _ _ (begin_writes _ c.args.total c.args.moment) c.self.inside.trees.store c.write_run-written.new.self.store c.end_transaction.new.self.store c.self.invariant _ _ c.write_run-written.ensures c.end_transaction.ensures
