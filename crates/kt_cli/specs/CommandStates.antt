-- States before and after a command, and the relations of its world.
use Rattle.std.specs.Prelude.{ℕ, Bool, List, Option}
use Rattle.kt_cli.specs.Types.{Asked, Ended, Job, Role, StartAnswer, Reply}
use Rattle.kt_sched.specs.declared.launcher.Launcher as launcher
use Rattle.kt_sched.specs.Children.{Child}
use Rattle.kt_suite.specs.declared.tree.Tree as tree
use Rattle.kt_plan.specs.declared.world.World as world

-- `CommandState W R`: the state before or after a command: a world of type `W`, a store of runs of
-- type `R`, and the content of the writer (`held`). An unknown content is `None`.
pub record CommandState (W R : Type 0) : Type 0 where
  pub world : W
  pub store : R
  pub held : Option (List ℕ)

-- `command_state world store held`: the `CommandState` of the world `world`, the store `store` and
-- a writer with the content `held`.
abbrev pub command_state : {W R : Type 0} → W → R → Option (List ℕ) → CommandState W R
command_state world store held = record { world = world; store = store; held = held }

-- `with_world world s`: the state `s` with its world replaced by `world`.
abbrev pub with_world : {V W R : Type 0} → W → CommandState V R → CommandState W R
with_world world s = command_state world s.store s.held

-- `World W`: the relations of a world with states `W`. `running`, `pending`, `starts` and `waits`
-- are those of its launcher, and `asks` is that of its file tree. `replies` is that of its other
-- calls.
abbrev pub World : Type 0 → Type 1
World W = record {
  running : W → ℕ → Role → Option Child;
  pending : W → ℕ → Bool;
  starts : W → Job → Role → StartAnswer → W → Type 0;
  waits : W → Ended → W → Type 0;
  asks : W → Asked → W → Type 0;
  replies : W → Reply → W → Type 0;
}

-- `world_of t l w`: the relations of a world, from those of its traits `Tree` (`t`), `Launcher`
-- (`l`) and `World` (`w`).
abbrev pub world_of : {W : Type 0} → tree.Ghosts W → launcher.Ghosts W → world.Ghosts W → World W
world_of t l w = record { running = l.running; pending = l.pending; starts = l.starts; waits = l.waits; asks = t.asks; replies = w.replies }

-- `launcher_of w`: the relations of the launcher, from the relations `w` of a world.
abbrev pub launcher_of : {W : Type 0} → World W → launcher.Ghosts W
launcher_of w = record { running = w.running; pending = w.pending; starts = w.starts; waits = w.waits }
