use Rattle.kt_dbfile.proofs.Common.{HoldsEmpty, Image, List, refl, subst, sym, ℕ}
use Rattle.sqlite_pool.specs.Header.{first_page}
use Rattle.kt_dbfile.proofs.NewFiles.{holds_empty}
use Rattle.kt_dbfile.proofs.new_file.first_page.Goals as goal

pub returns-clause-exact : goal.returns-clause-exact
unfolding first_page
returns-clause-exact c = rw c.copy_from_slice.ensures.after refl

pub returns-clause-holds : goal.returns-clause-holds
returns-clause-holds c = λ log ignored. subst (λ (page : List ℕ). let image : Image = record { log = log; db = page } in HoldsEmpty image) (sym (returns-clause-exact c)) (holds_empty log ignored)
