-- The whole program: it opens the results file, executes the command and closes the file, or
-- rejects the arguments.
use Rattle.std.specs.Prelude.{ℕ, Bool, false, List, ◌≡◌, Option, None, Ok, Err, Some, Result, if◌then◌else◌}
use Rattle.std.specs.Io.KnownBytes.{Keeps}
use Rattle.kt_cli.specs.Types.{Access, Call, CaseOptions, Chain, Command, CommandFault, DriverFault, HostWorld, NoWorkDirectory, OsFault, StoreFault, ProcessEnv, case_options_of, is_absolute, utf8}
use Rattle.kt_child.specs.Driving.DriverState.{driver_state_of}
use Rattle.kt_child.specs.Driving.ChildrenState.{idle_state}
use Rattle.kt_child.specs.Driving.Roots.{CreatesRoot, driver_fault_of}
use Rattle.kt_child.specs.Driving.Runs.{RunsFrom}
use Rattle.kt_os.specs.System.Calls.{RemoveTree}
use Rattle.kt_child.specs.declared.driving.driver.Driver.{Driver}
use Rattle.kt_os.specs.declared.system.os.Os as system
use Rattle.kt_suite.specs.Paths.{directory_of}
use Rattle.kt_store.specs.declared.access.Access.TheVariants.{Record, Read}
use Rattle.kt_store.specs.declared.result_store.StoreSpec as keeping
use Rattle.kt_args.specs.Commands.{adds_run, results_file_of}
use Rattle.kt_args.specs.declared.command_fault.CommandFault.TheVariants as command
use Rattle.kt_os.specs.declared.machine.host_files.HostFiles as machine
use Rattle.kt_cli.specs.declared.host.host_handles.HostHandles.{HostHandles}
use Rattle.kt_cli.specs.declared.host.results_host.ResultsHost as platform
use Rattle.kt_cli.specs.Closings.{ClosesResults}
use Rattle.kt_cli.specs.FaultLines.{memory_line, store_fault_line}
use Rattle.kt_cli.specs.HostReplies.{host_world}
use Rattle.kt_cli.specs.LineOutputs.{FlushResult, LineState}
use Rattle.kt_cli.specs.Command.{CommandResult}
use Rattle.kt_cli.specs.NoStores.{no_store}
use Rattle.kt_cli.specs.Pages.{Printed}
use Rattle.kt_cli.specs.KyuafilePaths.{source_directory}
use Rattle.kt_cli.specs.Platforms.{Opened, Closed, ReadProcessEnv}
use Rattle.kt_cli.specs.Refused.{driver_line, command_text, failure_exit, wrong_arguments_exit, PrintedWithStatus}
use Rattle.kt_cli.specs.CommandStates.{CommandState, command_state, with_world, World}

-- The relations of the parts of a program: `machine` (files and clock), `system` (processes) and
-- `platform` (results files and environment). `results` has those of the stores that the platform
-- opens.
pub record ProgramRelations (M O P S : Type 0) : Type 1 where
  pub machine : machine.Ghosts M
  pub system : system.Ghosts O
  pub platform : platform.Ghosts P S
  pub results : keeping.Ghosts S

module _ {M O P S : Type 0} where
  -- `program machine system platform results`: the `ProgramRelations` with the relations `machine`,
  -- `system` and `platform` of its parts, and with the specification `results` of its stores.
  abbrev pub program : machine.Ghosts M → system.Ghosts O → platform.Ghosts P S → keeping.Ghosts S → ProgramRelations M O P S
  program machine system platform results = record { machine = machine; system = system; platform = platform; results = results }

-- The state of a program before or after a command: its platform, and its handles of the host
-- (`outside`).
pub record ProgramState (M O P : Type 0) : Type 0 where
  pub platform : P
  pub outside : HostHandles M O

-- `state platform outside`: the `ProgramState` of a program with the platform `platform` and the
-- handles `outside` of the host.
abbrev pub state : {M O P : Type 0} → P → HostHandles M O → ProgramState M O P
state platform outside = record { platform = platform; outside = outside }

module _ {O : Type 0} (o : system.Ghosts O) (os : O) where
  -- `IsNewDriver o os here base directory d`: `d` is a new driver for the programs of the Kyuafile
  -- in `directory`, made from the system `os` with a new root directory in `base`. `here` is the
  -- working directory, and no child runs. `o` has the relations of the system.
  pub record IsNewDriver (here base directory : List ℕ) (d : Driver O) : Type 0 where
    pub calls : List Call
    pub asked : Chain o.leads os calls d.os
    pub found : CreatesRoot base calls (Ok d.root)
    pub source : d.source ≡ source_directory here directory
    pub first : d.next ≡ 0
    pub none_runs : d.running ≡ idle_state

  -- `FailsToCreateRoot o os base fault left`: no driver was created, because `base` is not
  -- absolute, no root directory could be created in `base`, or an allocation failed. `fault` is the
  -- cause. `os` and `left` are the system before and after, and `o` has its relations.
  pub data FailsToCreateRoot (base : List ℕ) : DriverFault → O → Type 0 where
    not_absolute : is_absolute base ≡ false → FailsToCreateRoot base NoWorkDirectory os
    none_made : (fault : DriverFault) (calls : List Call) (left : O) → Chain o.leads os calls left → CreatesRoot base calls (Err fault) → FailsToCreateRoot base fault left

module _ {M O : Type 0} (o : system.Ghosts O) (before : HostHandles M O) where
  -- `FailsToCreateDriver o before base fault after`: no driver with a root directory in `base` was
  -- created, because of `fault`, and the machine was not called. `before` and `after` are the
  -- handles of the host, and `o` has the relations of the system.
  abbrev pub FailsToCreateDriver : List ℕ → DriverFault → HostHandles M O → Type 0
  FailsToCreateDriver base fault after = FailsToCreateRoot o before.os base fault after.os × (after.machine ≡ before.machine)

module _ {M O : Type 0} (o : system.Ghosts O) (before : HostHandles M O) (around : ProcessEnv) (options : CaseOptions) where
  -- `IsFirstWorld o before around options world`: `world` is the world in which a command with
  -- `options` starts, in the process environment `around`. It has the machine of the handles
  -- `before` of the host, the directory of the Kyuafile, and a new driver. `o` has the relations of
  -- the system.
  pub record IsFirstWorld (world : HostWorld M O) : Type 0 where
    pub machine : world.machine ≡ before.machine
    pub made : IsNewDriver o before.os around.working_dir options.work world.directory world.driver
    pub directory : world.directory ≡ directory_of options.kyuafile
    pub around_it : world.around ≡ around

-- The relations of a world that can't be called: no child runs, and no call leads to any state.
abbrev pub no_world : World (Unit {0})
no_world = record { running = λ w k role. None; pending = λ w k. false; starts = λ w job role answer v. ⊥; waits = λ w ended v. ⊥; asks = λ w asked v. ⊥; replies = λ w answer v. ⊥ }

module _ {M O P S R : Type 0} (p : ProgramRelations M O P S) (r : keeping.Ghosts R) where
  -- `ExecutesOnHost p r c old new exit`: from state `old` to `new`, the command `c` was executed
  -- over a store with the specification `r`, and its exit status is `exit`. A report uses only the
  -- store (`needs_nothing`). A command over test cases reads the working directory and the
  -- environment of the process. It uses the files below its Kyuafile's directory, and a new driver,
  -- whose root directory is removed at the end (`done`). Nothing else is called. While cases run,
  -- the calls of the driver's system are those for the events of the trace. If the environment
  -- can't be read or the driver can't be created, an error line is printed, and the store is
  -- unchanged. `p` has the relations of the program.
  pub data ExecutesOnHost (c : Command) (old new : CommandState (ProgramState M O P) R) (exit : ℕ) : Type 0 where
    needs_nothing : case_options_of c ≡ None → new.world ≡ old.world → CommandResult no_world r c (with_world tt old) (with_world tt new) exit → ExecutesOnHost c old new exit
    done : (options : CaseOptions) (around : ProcessEnv) (first last : HostWorld M O) → case_options_of c ≡ Some options → p.platform.provides old.world.platform (ReadProcessEnv (Ok around)) new.world.platform
        → IsFirstWorld p.system old.world.outside around options first
        → (did : CommandResult (host_world p.machine p.system) r c (with_world first old) (with_world last new) exit)
        → RunsFrom p.system.leads did.seen.plan did.seen.trace (driver_state_of idle_state did.course.begun.driver.next) did.course.begun.driver last.driver
        → new.world.outside.machine ≡ last.machine → (removed : Bool) → p.system.leads last.driver.os (RemoveTree last.driver.root removed) new.world.outside.os
        → ExecutesOnHost c old new exit
    no_surroundings : (options : CaseOptions) (fault : OsFault) → case_options_of c ≡ Some options → p.platform.provides old.world.platform (ReadProcessEnv (Err fault)) new.world.platform
        → new.world.outside ≡ old.world.outside → new.store ≡ old.store → Printed old.held new.held exit (utf8 (driver_line (driver_fault_of fault))) failure_exit → ExecutesOnHost c old new exit
    no_driver : (options : CaseOptions) (around : ProcessEnv) (fault : DriverFault) → case_options_of c ≡ Some options → p.platform.provides old.world.platform (ReadProcessEnv (Ok around)) new.world.platform
        → FailsToCreateDriver p.system old.world.outside options.work fault new.world.outside → new.store ≡ old.store → Printed old.held new.held exit (utf8 (driver_line fault)) failure_exit
        → ExecutesOnHost c old new exit

-- `FlushesOutput held now intended_exit exit`: a flush of standard output, which had been given the
-- bytes `held`, led to the state `now`. If all bytes were written, `exit` is `intended_exit`. If
-- some bytes are unwritten, or the flush failed, `exit` is 2.
pub record FlushesOutput (held : Option (List ℕ)) (now : LineState) (intended_exit exit : ℕ) : Type 0 where
  pub kept : Keeps held now.given
  pub failed : Bool
  pub ends : FlushResult now.failed now.flush_fault now.unwritten failed
  pub exits : exit ≡ (if failed then failure_exit else intended_exit)

-- `PrintsMemoryError was now exit`: an allocation failed while the arguments were parsed. The
-- out-of-memory line was printed on standard output and flushed, which led from the given bytes
-- `was` to the state `now`. `exit` is the exit status.
pub record PrintsMemoryError (was : Option (List ℕ)) (now : LineState) (exit : ℕ) : Type 0 where
  pub held : Option (List ℕ)
  pub intended_exit : ℕ
  pub refused : PrintedWithStatus was held intended_exit (utf8 memory_line) failure_exit
  pub flushed : FlushesOutput held now intended_exit exit

-- The state of standard output, and the content of standard error.
pub record Streams : Type 0 where
  pub out : LineState
  pub errors : Option (List ℕ)

-- `RejectsArguments fault was now exit`: arguments were rejected with `fault`, and `exit` is the
-- exit status. From the streams `was` to `now`, the text of `fault` was printed on standard error,
-- and nothing on standard output. An out-of-memory fault was printed on standard output instead.
abbrev pub RejectsArguments : CommandFault → Streams → Streams → ℕ → Type 0
RejectsArguments (command.NoMemory shortage) was now exit = PrintsMemoryError was.out.given now.out exit × (now.errors ≡ was.errors)
RejectsArguments fault was now exit = PrintedWithStatus was.errors now.errors exit (utf8 (command_text fault)) wrong_arguments_exit × (now.out.given ≡ was.out.given)

-- `command_access c`: the access with which the command `c` opens its results file: `Record` for
-- `test`, else `Read`.
abbrev pub command_access : Command → Access
command_access c = if adds_run c then Record else Read

module _ {M O P S : Type 0} (p : ProgramRelations M O P S) where
  -- `ExecutesInFile p c old new exit file`: from state `old` to `new`, the command `c` was executed
  -- with the exit status `exit`. `file` is its results file, which was opened first and closed once
  -- (`closed`). If the open failed, an error line was printed, and nothing else was called
  -- (`not_opened`). A command without a results file (`file` is `None`) was executed over a store
  -- without runs, which it doesn't call (`no_file`). `p` has the relations of the program.
  pub data ExecutesInFile (c : Command) (old new : CommandState (ProgramState M O P) (Unit {0})) (exit : ℕ) : Option (List ℕ) → Type 0 where
    no_file : ExecutesOnHost p no_store c old new exit → ExecutesInFile c old new exit None
    not_opened : (file : List ℕ) (fault : StoreFault) → p.platform.provides old.world.platform (Opened file (command_access c) (Err fault)) new.world.platform → new.world.outside ≡ old.world.outside
        → Printed old.held new.held exit (utf8 (store_fault_line fault)) failure_exit → ExecutesInFile c old new exit (Some file)
    closed : (file : List ℕ) (store after : S) (begun done : P) (held : Option (List ℕ)) (intended_exit : ℕ) (answer : Result (Unit {0}) StoreFault)
        → p.platform.provides old.world.platform (Opened file (command_access c) (Ok store)) begun
        → ExecutesOnHost p p.results c (command_state (state begun old.world.outside) store old.held) (command_state (state done new.world.outside) after held) intended_exit
        → p.platform.provides done (Closed after answer) new.world.platform → ClosesResults answer held new.held intended_exit exit → ExecutesInFile c old new exit (Some file)

  -- `RunsArguments p command old new was now exit`: `command`, the result of parsing the arguments,
  -- was executed from state `old` to `new`, and then its output was flushed. If `command` is a
  -- fault, the fault was printed, and nothing was called. `was` and `now` are the streams before
  -- and after. `exit` is the exit status: that of the command (`intended_exit`), or 2 if its output
  -- (`held`) could not be written. `p` has the relations of the program.
  abbrev pub RunsArguments : Result Command CommandFault → ProgramState M O P → ProgramState M O P → Streams → Streams → ℕ → Type 0
  RunsArguments (Ok c) old new was now exit =
      (held : Option (List ℕ)) × (intended_exit : ℕ) × ExecutesInFile c (command_state old tt was.out.given) (command_state new tt held) intended_exit (results_file_of c) × FlushesOutput held now.out intended_exit exit × (now.errors ≡ was.errors)
  RunsArguments (Err fault) old new was now exit = RejectsArguments fault was now exit × (new ≡ old)
