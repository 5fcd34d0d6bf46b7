-- The start of a child: its calls, and the cause of a refusal.
use Rattle.std.specs.Prelude.{◌≡◌, ℕ, List, [], ◌∷◌, ◌++◌, Result, Ok, Err, is_err, ◌⊎◌}
use Rattle.kt_child.specs.Types.{Body, CaseAttempt, Cleanup, OsFault, Refused as RefusedFor, Role, SpawnPlan, StartAnswer, Started as StartedAt, RunningChild}
use Rattle.kt_base.specs.declared.failed_start.Refused.{Refused}
use Rattle.kt_base.specs.declared.failed_start.Refused.TheVariants.{Directory, Output, Spawn as NotSpawned, Memory as NoMemory}
use Rattle.kt_os.specs.declared.system.OsFault.TheVariants.{Failed, Memory}
use Rattle.kt_child.specs.Polling.ChildOutcome.{initial_counts}
use Rattle.kt_child.specs.Ending.Ends.{Removes}
use Rattle.kt_os.specs.System.Moments.{moment_of}
use Rattle.kt_os.specs.System.Calls.{Call, SetLimit, MakeDir, OpenOutput, Spawn, Now}
use Rattle.kt_sched.specs.Children.{is_same_role}

-- `StartCall`: one call to the system for a start. `call` is the call as a function of its result.
-- `cause` is the cause of the refusal if the call fails, unless an allocation failed.
pub record StartCall : Type 0 where
  pub call : Result (Unit {0}) OsFault → Call
  pub cause : Refused

-- `refusal_cause cause fault`: the cause of a refused start, one of whose calls failed with
-- `fault`. It is `Memory` if an allocation of the call failed, and otherwise `cause`.
abbrev pub refusal_cause : Refused → OsFault → Refused
refusal_cause cause Failed = cause
refusal_cause cause (Memory refusal) = NoMemory

-- `MakesCalls asks calls result`: `asks` are the calls that a start makes, in order, and `calls`
-- are these calls up to the first that fails. `result` is the cause of the refusal, or `Ok` if no
-- call fails.
abbrev pub MakesCalls : List StartCall → List Call → Result (Unit {0}) Refused → Type 0
MakesCalls [] [] (Ok done) = Unit {0}
MakesCalls (ask ∷ asks) (call ∷ calls) (Err cause) =
    ((fault : OsFault) × (call ≡ ask.call (Err fault)) × (calls ≡ []) × (cause ≡ refusal_cause ask.cause fault))
    ⊎ ((call ≡ ask.call (Ok tt)) × MakesCalls asks calls (Err cause))
MakesCalls (ask ∷ asks) (call ∷ calls) (Ok done) = (call ≡ ask.call (Ok tt)) × MakesCalls asks calls (Ok done)
MakesCalls asks calls result = ⊥

-- `spawn_call p`: the call that spawns the child of the `SpawnPlan` `p`. If it fails, the cause of
-- the refusal is `Spawn`, unless an allocation failed.
abbrev pub spawn_call : SpawnPlan → StartCall
spawn_call p = record { call = Spawn p.child p.program p.words p.env p.work; cause = NotSpawned }

-- `open_call p path`: the call that creates `path`, an output file for the child of the `SpawnPlan`
-- `p`. If it fails, the cause of the refusal is `Output`, unless an allocation failed.
abbrev pub open_call : SpawnPlan → List ℕ → StartCall
open_call p path = record { call = OpenOutput p.child path; cause = Output }

-- `work_dir_call p`: the call that creates the work directory of the `SpawnPlan` `p`. If it fails,
-- the cause of the refusal is `Directory`, unless an allocation failed.
abbrev pub work_dir_call : SpawnPlan → StartCall
work_dir_call p = record { call = MakeDir p.work; cause = Directory }

-- `spawn_calls p`: the calls that create the two output files of the `SpawnPlan` `p` and spawn its
-- child.
abbrev pub spawn_calls : SpawnPlan → List StartCall
spawn_calls p = open_call p p.out ∷ open_call p p.err ∷ spawn_call p ∷ []

-- `new_attempt_calls p`: the calls that create the work directory and the two output files of the
-- `SpawnPlan` `p` and spawn its child.
abbrev pub new_attempt_calls : SpawnPlan → List StartCall
new_attempt_calls p = work_dir_call p ∷ spawn_calls p

-- `SpawnsInExistingDir asks dir calls result`: `asks` are the calls that a start makes, in order,
-- and `calls` are these calls up to the first that fails (`MakesCalls`). If one fails, a last call
-- removes the existing directory `dir`. `result` is the cause of the refusal, or `Ok` if no call
-- fails.
abbrev pub SpawnsInExistingDir : List StartCall → List ℕ → List Call → Result (Unit {0}) Refused → Type 0
SpawnsInExistingDir asks dir calls result =
    (tried : List Call) × (last : List Call) × (calls ≡ tried ++ last) × MakesCalls asks tried result × Removes (is_err result) dir last

-- `SpawnsInNewDir asks dir calls result`: `calls` create the directory `dir` and continue with
-- `asks`, the calls that a start makes (`SpawnsInExistingDir`). If the directory can't be created,
-- no other call is made. If a later call fails, a last call removes the directory. `result` is `Ok`
-- or the cause of the refusal.
abbrev pub SpawnsInNewDir : List StartCall → List ℕ → List Call → Result (Unit {0}) Refused → Type 0
SpawnsInNewDir asks dir calls result =
    ((fault : OsFault) × (calls ≡ MakeDir dir (Err fault) ∷ []) × (result ≡ Err (refusal_cause Directory fault)))
    ⊎ ((more : List Call) × (calls ≡ MakeDir dir (Ok tt) ∷ more) × SpawnsInExistingDir asks dir more result)

-- `SpawnsInRole role p calls result`: `calls` start the child of the `SpawnPlan` `p` in `role`,
-- after its timeout was set. A body, or a program that lists its test cases, gets new directories.
-- A cleanup uses the directories of its body. `result` is `Ok` or the cause of the refusal.
abbrev pub SpawnsInRole : Role → SpawnPlan → List Call → Result (Unit {0}) Refused → Type 0
SpawnsInRole Body p calls result = SpawnsInNewDir (new_attempt_calls p) p.dir calls result
SpawnsInRole Cleanup p calls result = SpawnsInExistingDir (spawn_calls p) p.dir calls result

-- `SpawnsByPlan p calls result`: `calls` set the timeout of the child of the `SpawnPlan` `p` and
-- then start the child, without a read of the clock. `result` is `Ok` or the cause of the refusal.
abbrev pub SpawnsByPlan : SpawnPlan → List Call → Result (Unit {0}) Refused → Type 0
SpawnsByPlan p calls result = (more : List Call) × (calls ≡ SetLimit p.child p.limit ∷ more) × SpawnsInRole p.child.role p more result

-- `Started p calls result`: `calls` start the child of the `SpawnPlan` `p`. `result` is the
-- timestamp of the start or the cause of the refusal. After a success, the last call reads the
-- clock.
abbrev pub Started : SpawnPlan → List Call → StartAnswer → Type 0
Started p calls (StartedAt moment) =
    (before : List Call) × (answer : Result ℕ OsFault) × (calls ≡ before ++ Now answer ∷ []) × SpawnsByPlan p before (Ok tt)
    × (moment ≡ moment_of answer)
Started p calls (RefusedFor cause) = SpawnsByPlan p calls (Err cause)

-- `new_running_child limit c`: the running child of the case `c` just after its start, with the
-- timeout `limit` in seconds.
abbrev pub new_running_child : ℕ → CaseAttempt → RunningChild
new_running_child limit c = record { case = c; limit = limit; counts = initial_counts }

-- `FailsBeforeStart role dir calls answer`: `answer` refuses the start of a child in `role`,
-- because an allocation failed before the first call of the start. For a cleanup, `calls` remove
-- `dir`, the directory of its attempt. Otherwise there are no calls.
abbrev pub FailsBeforeStart : Role → List ℕ → List Call → StartAnswer → Type 0
FailsBeforeStart role dir calls answer = Removes (is_same_role role Cleanup) dir calls × (answer ≡ RefusedFor NoMemory)

-- `StartsByPlan plan calls answer`: `calls` are all calls for a start by the `SpawnPlan` `plan`,
-- and `answer` is the result of the start. Either an allocation failed before the start
-- (`FailsBeforeStart`), or `calls` try to start the child (`Started`).
abbrev pub StartsByPlan : SpawnPlan → List Call → StartAnswer → Type 0
StartsByPlan plan calls answer = FailsBeforeStart plan.child.role plan.dir calls answer ⊎ Started plan calls answer
