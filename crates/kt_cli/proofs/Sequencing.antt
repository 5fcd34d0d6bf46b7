-- Commands that are executed one after the other.
use Rattle.std.proofs.Common.{List, [], ◌∷◌, ◌++◌, sym, subst, append_assoc, append-nil}
use Rattle.kt_cli.proofs.Common.{Command, Exit, CommandResult, CommandState, World}
use Rattle.kt_cli.specs.Command.{ExecutesAllCommands, none_left, one_and}
use Rattle.kt_store.specs.declared.result_store.StoreSpec as keeping

module _ {W R : Type 0} (w : World W) (keep : keeping.Ghosts R) where
  -- `GoesOn commands rest old mid done`: from state `old`, some of `commands` were executed up to
  -- state `mid` with the statuses `done`, and executing `rest` from `mid` completes them
  pub record GoesOn (commands rest : List Command) (old mid : CommandState W R) (done : List Exit) : Type 0 where
    pub then_all : (new : CommandState W R) (exits : List Exit) → ExecutesAllCommands w keep rest mid new exits → ExecutesAllCommands w keep commands old new (done ++ exits)

  -- `GoesOn` holds after one more command is executed
  pub goes_more : (commands later : List Command) (c : Command) (old mid next : CommandState W R) (done : List Exit) (exit : Exit) → GoesOn commands (c ∷ later) old mid done
      → CommandResult w keep c mid next exit.status → GoesOn commands later old next (done ++ exit ∷ [])
  goes_more commands later c old mid next done exit g d = record {
    then_all = λ new exits m. subst (λ (xs : List Exit). ExecutesAllCommands w keep commands old new xs) (sym (append_assoc done (exit ∷ []) exits))
        (g.then_all new (exit ∷ exits) (one_and c later mid next new exit exits d m));
  }

  -- if nothing is left to execute, all commands were executed
  pub goes_all : (commands : List Command) (old new : CommandState W R) (done : List Exit) → GoesOn commands [] old new done → ExecutesAllCommands w keep commands old new done
  goes_all commands old new done g = subst (λ (xs : List Exit). ExecutesAllCommands w keep commands old new xs) (append-nil done) (g.then_all new [] (none_left new))
