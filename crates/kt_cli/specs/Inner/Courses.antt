-- The commands that make no store calls, `list` and `debug`, and those that make no other calls,
-- the reports.
use Rattle.std.specs.Prelude.{ℕ, List, [], ◌≡◌, Option}
use Rattle.kt_cli.specs.Types.{Command, NoEvent, StoreCall, WorldCall}
use Rattle.kt_store.specs.declared.result_store.StoreSpec as keeping
use Rattle.kt_cli.specs.Pages.{Printed}
use Rattle.kt_cli.specs.Command.{Means}
use Rattle.kt_cli.specs.Courses.{CommandCalls, CallsWorld}
use Rattle.kt_cli.specs.CommandStates.{World}
use Rattle.kt_cli.specs.Stores.{CallsStore}

-- `world_calls_only world_calls`: the calls of a command that made only the calls `world_calls` of
-- its world, and no store call.
abbrev pub world_calls_only : List WorldCall → CommandCalls
world_calls_only world_calls = record { world_calls = world_calls; plan = []; trace = NoEvent; calls = [] }

module _ {W : Type 0} (w : World W) where
  -- `ExecutesWithoutStore w c old new was now exit`: the command `c`, which makes no store calls,
  -- was executed from world `old` to `new`, with the exit status `exit`. `was` and `now` are the
  -- contents of the writer before and after. `w` has the relations of the world.
  pub record ExecutesWithoutStore (c : Command) (old new : W) (was now : Option (List ℕ)) (exit : ℕ) : Type 0 where
    pub seen : CommandCalls
    pub course : CallsWorld w seen old new
    pub uncalled : seen.calls ≡ []
    pub bytes : List ℕ
    pub intended_exit : ℕ
    pub printed : Printed was now exit bytes intended_exit
    pub is : Means seen printed.failed c bytes intended_exit

-- `store_calls_only calls`: the calls of a command that made only the store calls `calls`, and no
-- call of a world.
abbrev pub store_calls_only : List StoreCall → CommandCalls
store_calls_only calls = record { world_calls = []; plan = []; trace = NoEvent; calls = calls }

module _ {R : Type 0} (r : keeping.Ghosts R) where
  -- `ExecutesWithoutWorld r c store after was now exit`: the command `c`, which calls only its
  -- store, was executed, with the exit status `exit`. `store` and `after` are the store before and
  -- after, and `was` and `now` are the contents of the writer. `r` is the specification of the
  -- store.
  pub record ExecutesWithoutWorld (c : Command) (store after : R) (was now : Option (List ℕ)) (exit : ℕ) : Type 0 where
    pub calls : List StoreCall
    pub stored : CallsStore r calls store after
    pub bytes : List ℕ
    pub intended_exit : ℕ
    pub printed : Printed was now exit bytes intended_exit
    pub is : Means (store_calls_only calls) printed.failed c bytes intended_exit
