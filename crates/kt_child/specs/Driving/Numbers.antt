-- The numbers of a driver's attempts. A start of a body is an attempt, and so is a listing of test
-- cases.
use Rattle.std.specs.Prelude.{◌≡◌, ℕ, Bool, true, false, ◌<◌, ◌≤◌, ◌-◌, ◌^◌, List, [], ◌∷◌, ◌++◌, map}
use Rattle.kt_child.specs.Types.{Body, Ended, Job, Listing, Role, StartAnswer, Trace, Variable}
use Rattle.kt_child.specs.declared.driving.driver.Driver.{Driver}
use Rattle.kt_os.specs.System.Calls.{Call}
use Rattle.kt_child.specs.Inner.Children.{occurrences}
use Rattle.kt_child.specs.Driving.DriverState.{DriverState, driver_state_of}
use Rattle.kt_child.specs.Driving.ChildrenState.{idle_state}
use Rattle.kt_child.specs.Driving.DriverSteps.{DriverLists, DriverStarts, DriverWaits}
use Rattle.kt_child.specs.Driving.Runs.{Runs}

-- `Request`: a start, a wait or a listing of test cases that a driver performs, with its result.
pub data Request : Type 0 where
  Start : (job : Job) (role : Role) (answer : StartAnswer) → Request
  Wait : (ended : Ended) → Request
  ListOf : (program : List ℕ) (variables : List Variable) (answer : Listing) → Request

-- `is_attempt request`: `request` is the start of a body, or a listing of test cases. Such a
-- request uses an attempt number.
abbrev pub is_attempt : Request → Bool
is_attempt (Start job Body answer) = true
is_attempt (ListOf program variables answer) = true
is_attempt request = false

-- `Serves leads d request e`: `request` may take the driver from the state `d` to the state `e`.
-- `leads` is the relation of the system's calls.
abbrev pub Serves : {O : Type 0} → (O → Call → O → Type 0) → Driver O → Request → Driver O → Type 0
Serves leads d (Start job role answer) e = DriverStarts leads d job role answer e
Serves leads d (Wait ended) e = DriverWaits leads d ended e
Serves leads d (ListOf program variables answer) e = DriverLists leads d program variables answer e

-- `ServesAll leads d requests e`: `requests`, in order, may take the driver from the state `d` to
-- the state `e`. `leads` is the relation of the system's calls.
abbrev pub ServesAll : {O : Type 0} → (O → Call → O → Type 0) → Driver O → List Request → Driver O → Type 0
ServesAll leads d [] e = e ≡ d
ServesAll {O} leads d (request ∷ requests) e = (mid : Driver O) × Serves leads d request mid × ServesAll leads mid requests e

-- `AttemptsDiffer leads`: no two attempts of a driver have the same number. After an attempt, and
-- any requests that follow it, the next number is higher than the number of that attempt. The
-- premise is that a number is left for that attempt: its number is less than 2^64 - 1. `leads` is
-- the relation of the system's calls.
abbrev pub AttemptsDiffer : {O : Type 0} → (O → Call → O → Type 0) → Type 0
AttemptsDiffer {O} leads =
    (attempt : Request) (requests : List Request) (d e f : Driver O)
    → is_attempt attempt ≡ true → d.next < 2 ^ 64 - 1 → Serves leads d attempt e → ServesAll leads e requests f → d.next < f.next

-- `numbers b`: the attempt numbers of the cases with a running child or a pending cleanup in the
-- driver state `b`.
abbrev pub numbers : DriverState → List ℕ
numbers b = map (λ a. a.case.attempt) b.running_children ++ map (λ c. c.attempt) b.pending_cleanups

-- `HasUniqueNumbers b`: each attempt number occurs at most once among the cases with a running
-- child or a pending cleanup in the driver state `b`. Each is lower than the number of the next
-- attempt. So no two children of `b` have the same name.
abbrev pub HasUniqueNumbers : DriverState → Type 0
HasUniqueNumbers b = (n : ℕ) → (occurrences n (numbers b) ≤ 1) × (b.next ≤ n → occurrences n (numbers b) ≡ 0)

-- `AttemptNumbersAreUnique`: the attempt numbers are unique (`HasUniqueNumbers`) in each driver
-- state that a trace reaches from a state without children and without pending cleanups.
abbrev pub AttemptNumbersAreUnique : Type 0
AttemptNumbersAreUnique =
    (plan : List Job) (source root : List ℕ) (next : ℕ) (T : Trace) (calls : List Call) (b : DriverState)
    → Runs plan source root (driver_state_of idle_state next) T calls b → HasUniqueNumbers b
