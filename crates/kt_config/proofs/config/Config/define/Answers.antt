use Rattle.std.proofs.Common.{refl}
use Rattle.std.proofs.lemmas.Result.{on_ok_weaker}
use Rattle.kt_config.proofs.Adding.{adds, adds-none, adds-suite}
use Rattle.kt_config.proofs.config.Config.define.Goals as goal

pub returns-in-Architecture-clause-ok : goal.returns-in-Architecture-clause-ok
returns-in-Architecture-clause-ok c = rw (c.in-Architecture.is, ← c.self.view_is) (adds _ _ _ refl refl refl (adds-none _ _ _ refl (λ suite. refl)))

pub returns-in-Platform-clause-ok : goal.returns-in-Platform-clause-ok
returns-in-Platform-clause-ok c = rw (c.in-Platform.is, ← c.self.view_is) (adds _ _ _ refl refl refl (adds-none _ _ _ refl (λ suite. refl)))

pub returns-in-Parallelism-clause-ok : goal.returns-in-Parallelism-clause-ok
returns-in-Parallelism-clause-ok c = rw (c.in-Parallelism.is, ← c.self.view_is) (adds _ _ _ refl refl refl (adds-none _ _ _ refl (λ suite. refl)))

pub returns-in-UnprivilegedUser-clause-ok : goal.returns-in-UnprivilegedUser-clause-ok
returns-in-UnprivilegedUser-clause-ok c = rw c.in-UnprivilegedUser.is (adds _ _ _ refl refl refl (adds-none _ _ _ refl (λ suite. refl)))

pub returns-in-SuiteVariable-clause-ok : goal.returns-in-SuiteVariable-clause-ok
returns-in-SuiteVariable-clause-ok c =
    on_ok_weaker c.put_variable.result (λ added. rw (c.in-SuiteVariable.is, ← c.self.view_is) (adds _ _ _ refl refl refl (adds-suite _ _ _ _ added))) c.put_variable.ensures.ok
