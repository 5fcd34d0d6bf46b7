-- The results of a command's world calls over a machine (files and clock) and a system (processes).
use Rattle.std.specs.Prelude.{ℕ, false, ◌≡◌, ◌≤◌, ◌++◌, List, length, None, Result, Ok, Err, IfOk}
use Rattle.std.proofs.Common.{ap}
use Rattle.kt_cli.specs.Types.{Asked, Call, Ended, HostWorld, Job, Now, ReadFault, Role, StartAnswer, Reply, utf8}
use Rattle.kt_child.specs.Driving.ChildrenState.{is_among, launcher_child_in}
use Rattle.kt_child.specs.Driving.DriverSteps.{DriverLists, DriverStarts, DriverWaits}
use Rattle.kt_os.specs.declared.system.os.Os as system
use Rattle.kt_os.specs.declared.machine.host_files.HostFiles as machine
use Rattle.kt_os.specs.Around.{is_root}
use Rattle.kt_os.specs.declared.machine.file_fault.FileFault.{FileFault}
use Rattle.kt_os.specs.declared.machine.file_fault.FileFault.TheVariants as file
use Rattle.kt_os.specs.Machines.{HostResponse, ReadsFile, IsFile, PathExists, ReadsClock, CallsUnlessTooLong, IsProgramFound, read_limit}
use Rattle.kt_cli.specs.CommandStates.{World}
use Rattle.kt_metadata.specs.declared.host.Need.TheVariants.{File, Program}
use Rattle.kt_plan.specs.Reply.{ReadConfig, Lists, Finds, IsRoot, HasMemory, HasDisk}
use Rattle.kt_suite.specs.Answers.{Read, Exists}
use Rattle.kt_suite.specs.declared.tree.ReadFault.TheVariants.{Failed, Memory, Missing}

-- `file_fault fault`: the fault of the machine's files for which the world returns `fault`.
abbrev pub file_fault : ReadFault → FileFault
file_fault Missing = file.Missing
file_fault Failed = file.Failed
file_fault (Memory refusal) = file.Memory refusal

-- `file_answer answer`: the result of the machine's read of a file for which the world returns
-- `answer`.
abbrev pub file_answer : Result (List ℕ) ReadFault → Result (List ℕ) FileFault
file_answer (Ok bytes) = Ok bytes
file_answer (Err fault) = Err (file_fault fault)

-- `IsWithinReadLimit answer`: if `answer` is the content of a file, it has at most `read_limit`
-- bytes.
abbrev pub IsWithinReadLimit : Result (List ℕ) ReadFault → Type 0
IsWithinReadLimit answer = IfOk answer (λ bytes. length bytes ≤ read_limit)

-- `path_below directory path`: `directory`, which ends with a slash or is empty, followed by
-- `path`, in bytes.
abbrev pub path_below : List ℕ → List ℕ → List ℕ
path_below directory path = utf8 directory ++ utf8 path

module _ {M O : Type 0} where
  -- `with_machine world machine`: `world` with its machine replaced by `machine`.
  abbrev pub with_machine : HostWorld M O → M → HostWorld M O
  with_machine world machine = record { machine = machine; directory = world.directory; driver = world.driver; around = world.around }

  -- `CallsMachine old LeadsByCalls new`: from the world `old` to `new`, only the machine changed.
  -- The relation `LeadsByCalls` holds between the machine's states in `old` and in `new`.
  abbrev pub CallsMachine : HostWorld M O → (M → M → Type 0) → HostWorld M O → Type 0
  CallsMachine old LeadsByCalls new = (new ≡ with_machine old new.machine) × LeadsByCalls old.machine new.machine

module _ {M O : Type 0} (answers : M → HostResponse → M → Type 0) where
  -- `IsFileCall answers old asked new`: `asked`, a call for a file below the Kyuafile's directory,
  -- leads the world from `old` to `new`. The world calls the machine with the path of the directory
  -- and the path of the file, joined. If the joined path is too long, the machine isn't called: a
  -- read fails, and the file counts as missing. A content that was read has at most `read_limit`
  -- bytes. `answers` is the relation of the machine.
  abbrev pub IsFileCall : HostWorld M O → Asked → HostWorld M O → Type 0
  IsFileCall old (Read path answer) new =
      CallsMachine old (CallsUnlessTooLong answers (path_below old.directory path) (ReadsFile (path_below old.directory path) (file_answer answer)) (answer ≡ Err Failed)) new × IsWithinReadLimit answer
  IsFileCall old (Exists path answer) new =
      CallsMachine old (CallsUnlessTooLong answers (path_below old.directory path) (IsFile (path_below old.directory path) answer) (answer ≡ false)) new

  -- `IsHostReply answers leads old reply new`: the world's call `reply` with its result leads the
  -- world from `old` to `new`. Listing the cases of a program changes only the driver.
  -- Configuration files and required files are looked up at their own paths, and required programs
  -- by `IsProgramFound`. Whether the user is root follows from the process environment. The results
  -- for memory and disk space are always `None`, and the timestamp is that of the machine.
  -- `answers` and `leads` are the relations of the machine and the system.
  abbrev pub IsHostReply : (O → Call → O → Type 0) → HostWorld M O → Reply → HostWorld M O → Type 0
  IsHostReply leads old (ReadConfig path answer) new = CallsMachine old (λ m n. answers m (ReadsFile (utf8 path) (file_answer answer)) n) new × IsWithinReadLimit answer
  IsHostReply leads old (Lists program variables answer) new =
      DriverLists leads old.driver program.path variables answer new.driver × (new.machine ≡ old.machine) × (new.directory ≡ old.directory) × (new.around ≡ old.around)
  IsHostReply leads old (Finds File path answer) new = CallsMachine old (λ m n. answers m (PathExists (utf8 path) answer) n) new
  IsHostReply leads old (Finds Program name answer) new = CallsMachine old (IsProgramFound answers old.around.path name answer) new
  IsHostReply leads old (IsRoot answer) new = (new ≡ old) × (answer ≡ is_root old.around.user)
  IsHostReply leads old (HasMemory answer) new = (new ≡ old) × (answer ≡ None)
  IsHostReply leads old (HasDisk answer) new = (new ≡ old) × (answer ≡ None)
  IsHostReply leads old (Now moment) new = CallsMachine old (λ m n. answers m (ReadsClock moment) n) new

module _ {M O : Type 0} (leads : O → Call → O → Type 0) where
  -- `HostStarts leads old job role answer new`: the driver of the world `old` starts the child of
  -- `job` in the role `role` with the result `answer`, and the world is then `new`. Nothing else in
  -- the world changes. `leads` is the relation of the system.
  abbrev pub HostStarts : HostWorld M O → Job → Role → StartAnswer → HostWorld M O → Type 0
  HostStarts old job role answer new =
      DriverStarts leads old.driver job role answer new.driver × (new.machine ≡ old.machine) × (new.directory ≡ old.directory) × (new.around ≡ old.around)

  -- `HostWaits leads old ended new`: the driver of the world `old` waits for a child with the
  -- result `ended`, and the world is then `new`. Nothing else in the world changes. `leads` is the
  -- relation of the system.
  abbrev pub HostWaits : HostWorld M O → Ended → HostWorld M O → Type 0
  HostWaits old ended new = DriverWaits leads old.driver ended new.driver × (new.machine ≡ old.machine) × (new.directory ≡ old.directory) × (new.around ≡ old.around)

module _ {M O : Type 0} where
  -- `host_world m o`: the relations of a `HostWorld`, from those of its machine, `m`, and those of
  -- its system, `o`.
  abbrev pub host_world : machine.Ghosts M → system.Ghosts O → World (HostWorld M O)
  host_world m o = record {
    running = λ w. launcher_child_in w.driver.running;
    pending = λ w. is_among w.driver.running.pending;
    starts = HostStarts o.leads;
    waits = HostWaits o.leads;
    asks = IsFileCall m.answers;
    replies = IsHostReply m.answers o.leads;
  }

  -- `machine_keeps_children old new`: theorem: if the worlds `old` and `new` differ only in their
  -- machines, the same children run in both.
  machine_keeps_children : (old new : HostWorld M O) → new ≡ with_machine old new.machine → new.driver.running ≡ old.driver.running
  machine_keeps_children old new h = ap (λ (w : HostWorld M O). w.driver.running) h

  -- `file_call_keeps_children answers old new asked`: theorem: if the call `asked` for a file leads
  -- the world from `old` to `new`, the same children run in both. `answers` is the relation of the
  -- machine.
  pub file_call_keeps_children : (answers : M → HostResponse → M → Type 0) (old new : HostWorld M O) (asked : Asked) → IsFileCall answers old asked new → new.driver.running ≡ old.driver.running
  file_call_keeps_children answers old new (Read path answer) h = machine_keeps_children old new h.0.0
  file_call_keeps_children answers old new (Exists path answer) h = machine_keeps_children old new h.0

  -- `call_keeps_children answers leads old new answer`: theorem: if the world's call `answer` leads
  -- the world from `old` to `new`, the same children run in both. `answers` and `leads` are the
  -- relations of the machine and the system.
  pub call_keeps_children : (answers : M → HostResponse → M → Type 0) (leads : O → Call → O → Type 0) (old new : HostWorld M O) (answer : Reply) → IsHostReply answers leads old answer new
      → new.driver.running ≡ old.driver.running
  call_keeps_children answers leads old new (ReadConfig path answer) h = machine_keeps_children old new h.0.0
  call_keeps_children answers leads old new (Lists program variables answer) h = h.0.1
  call_keeps_children answers leads old new (Finds File path answer) h = machine_keeps_children old new h.0
  call_keeps_children answers leads old new (Finds Program name answer) h = machine_keeps_children old new h.0
  call_keeps_children answers leads old new (IsRoot answer) h = ap (λ (w : HostWorld M O). w.driver.running) h.0
  call_keeps_children answers leads old new (HasMemory answer) h = ap (λ (w : HostWorld M O). w.driver.running) h.0
  call_keeps_children answers leads old new (HasDisk answer) h = ap (λ (w : HostWorld M O). w.driver.running) h.0
  call_keeps_children answers leads old new (Now moment) h = machine_keeps_children old new h.0
