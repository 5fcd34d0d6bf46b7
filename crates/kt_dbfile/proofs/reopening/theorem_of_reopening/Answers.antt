use Rattle.kt_dbfile.proofs.Common.{arith, clean_is, no_doubt, ∥∥₁_map, ◌∙◌}
use Rattle.sqlite_store.specs.FileStore.{view}
use Rattle.sqlite_trees.specs.View.{IsClean}
use Rattle.kt_dbfile.proofs.ReopenLemmas.{held, holds, kept, one_of, supposed}
use Rattle.kt_dbfile.proofs.reopening.theorem_of_reopening.Goals as goal

pub returns-clause-held : goal.returns-clause-held
returns-clause-held g c before after last runs closed = held before last runs after closed

pub returns-clause-supposed : goal.returns-clause-supposed
returns-clause-supposed g c before after last runs closed =
    let both = held before last runs after closed in
    (supposed _ runs both.0, supposed _ runs both.1)

pub returns-clause-found : goal.returns-clause-found
returns-clause-found g c before after last runs closed next finds =
    let it = (held before last runs after closed).0 in
    let stands = finds.held.stands runs it in
    (stands.0, stands.1, stands.2, finds.held.leaves runs it)

-- a close that fails leaves trees of runs that a crash may leave
pub returns-clause-left : goal.returns-clause-left
returns-clause-left g c store last may after leaves end honest outcome =
    let late : IsClean (view last) = no_doubt _ (clean_is last.pool ∙ honest) in
    let quiet = end.quiet.clean in
    let clean : IsClean (view store) = omega (arith, quiet) in
    ∥∥₁_map (end.left honest after outcome) (λ it. (it.0, it.2, leaves clean it.0 it.1))

pub returns-clause-failed : goal.returns-clause-failed
returns-clause-failed g c store last may after leaves end numbered honest outcome next finds opened =
    ∥∥₁_map (returns-clause-left g c store last may after leaves end honest outcome) (λ it.
    one_of may it.0 (view next).committed (λ runs keeps. (finds.held.stands runs (holds after _ it.0 it.1 numbered runs keeps)).0 opened) it.2)

pub returns-clause-kept : goal.returns-clause-kept
returns-clause-kept g c store left runs after has numbered end same opened honest outcome =
    let it = kept store left runs after g.met.D.Disk.seen_may_stay has numbered end same opened honest outcome in
    (it, λ next finds. (finds.held.stands runs it).0)
