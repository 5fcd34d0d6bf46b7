use Rattle.kt_dbfile.proofs.Common.{Head, Serves, refl, runs_file_spec, subst}
use Rattle.kt_dbfile.proofs.EndLemmas.{read_served, looked_settled}
use Rattle.kt_dbfile.proofs.runs_file.RunsFileResultStore.head.Goals as goal

pub returns-clause-served : goal.returns-clause-served
returns-clause-served g c =
    subst (λ o. Serves (runs_file_spec g.S.Store) (Head c.args.number c.read_head.result) o c.read_head.new.self.store) c.self.view_is
    (read_served g.S.Store g.met.S.Store.shut_if_dirty g.met.S.Store.broken_if_shut g.met.S.Store.settled c.self.inside.schema c.self.inside.trees.store c.read_head.new.self.store c.read_head.ensures.looks c.self.invariant (Head _ _) (λ runs. refl) (λ runs may left. left) c.read_head.ensures.served)

pub invariant_of-self : goal.invariant_of-self
invariant_of-self g c = looked_settled g.S.Store c.self.inside.trees.store c.read_head.new.self.store c.self.inside.schema (g.met.S.Store.shut_if_dirty c.read_head.new.self.store) c.read_head.ensures.looks c.self.invariant
