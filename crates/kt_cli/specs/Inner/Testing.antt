-- The execution of a plan over a store.
use Rattle.std.specs.Prelude.{ℕ, List}
use Rattle.kt_sched.specs.declared.launcher.Launcher as launcher
use Rattle.kt_cli.specs.Types.{Leads, StoreCall, Trace}
use Rattle.kt_store.specs.declared.result_store.StoreSpec as keeping
use Rattle.kt_cli.specs.Command.{RunResult}
use Rattle.kt_cli.specs.Pages.{Printed}
use Rattle.kt_cli.specs.CommandStates.{CommandState}
use Rattle.kt_cli.specs.Stores.{CallsStore}
use Rattle.kt_cli.specs.Testing.{PlannedRun}

module _ {L R : Type 0} (l : launcher.Ghosts L) (r : keeping.Ghosts R) where
  -- `ExecutesPlan l r planned old new exit`: from state `old` to `new`, the run `planned` was begun
  -- and its plan executed, with the exit status `exit`. The store calls and the output are those of
  -- `RunResult`, by the events of the launcher. `l` has the relations of the launcher, and `r` is
  -- the specification of the store.
  pub record ExecutesPlan (planned : PlannedRun) (old new : CommandState L R) (exit : ℕ) : Type 0 where
    pub trace : Trace
    pub leads : Leads l.starts l.waits planned.plan trace old.world new.world
    pub calls : List StoreCall
    pub stored : CallsStore r calls old.store new.store
    pub bytes : List ℕ
    pub intended_exit : ℕ
    pub is : RunResult planned trace calls bytes intended_exit
    pub printed : Printed old.held new.held exit bytes intended_exit
