use Rattle.kt_dbfile.proofs.Common.{ClosesCleanly, FailsToClose, StaysNumbered, subst, view}
use Rattle.kt_dbfile.proofs.runs_file.RunsFile+FileStore+D.close.Goals as goal

pub returns-in-Ok-clause-closed : goal.returns-in-Ok-clause-closed
returns-in-Ok-clause-closed g c = subst ClosesCleanly c.self.view_is (rw c.in-Ok.is at c.close_store.ensures.closed)

pub returns-clause-left : goal.returns-clause-left
returns-clause-left g c = subst (λ s. FailsToClose s c.in-Err.left) c.self.view_is (rw c.in-Err.is at c.close_store.ensures.failed)

pub returns-clause-numbered : goal.returns-clause-numbered
returns-clause-numbered g c = subst (λ s. StaysNumbered (view s) (view c.in-Err.left)) c.self.view_is (rw c.in-Err.is at c.close_store.ensures.numbered)
