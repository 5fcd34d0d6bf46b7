use Rattle.kt_dbfile.proofs.Common.{Outputs, Serves, refl, runs_file_spec, subst}
use Rattle.kt_dbfile.proofs.EndLemmas.{read_served, looked_settled}
use Rattle.kt_dbfile.proofs.runs_file.RunsFileResultStore.outputs.Goals as goal

pub returns : goal.returns
returns g c =
    subst (λ o. Serves (runs_file_spec g.S.Store) (Outputs c.args.run c.args.position c.find_outputs.result) o c.find_outputs.new.self.store) c.self.view_is
    (read_served g.S.Store g.met.S.Store.shut_if_dirty g.met.S.Store.broken_if_shut g.met.S.Store.settled c.self.inside.schema c.self.inside.trees.store c.find_outputs.new.self.store c.find_outputs.ensures.looks c.self.invariant (Outputs _ _ _) (λ runs. refl) (λ runs may left. left) c.find_outputs.ensures.served)

pub invariant_of-self : goal.invariant_of-self
invariant_of-self g c = looked_settled g.S.Store c.self.inside.trees.store c.find_outputs.new.self.store c.self.inside.schema (g.met.S.Store.shut_if_dirty c.find_outputs.new.self.store) c.find_outputs.ensures.looks c.self.invariant
