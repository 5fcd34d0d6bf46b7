use Rattle.kt_dbfile.proofs.Common.{Outline, Serves, refl, runs_file_spec, map_success, subst}
use Rattle.kt_dbfile.proofs.EndLemmas.{read_served, looked_settled}
use Rattle.kt_dbfile.proofs.runs_file.RunsFileResultStore.outline.Goals as goal

pub returns : goal.returns
returns g c =
    subst (λ o. Serves (runs_file_spec g.S.Store) (Outline c.args.run (map_success (λ found. found.items) c.read_run_outline.result)) o c.read_run_outline.new.self.store) c.self.view_is
    (read_served g.S.Store g.met.S.Store.shut_if_dirty g.met.S.Store.broken_if_shut g.met.S.Store.settled c.self.inside.schema c.self.inside.trees.store c.read_run_outline.new.self.store c.read_run_outline.ensures.looks c.self.invariant (Outline _ _) (λ runs. refl) (λ runs may left. left) c.read_run_outline.ensures.served)

pub invariant_of-self : goal.invariant_of-self
invariant_of-self g c = looked_settled g.S.Store c.self.inside.trees.store c.read_run_outline.new.self.store c.self.inside.schema (g.met.S.Store.shut_if_dirty c.read_run_outline.new.self.store) c.read_run_outline.ensures.looks c.self.invariant
