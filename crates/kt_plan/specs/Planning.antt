-- The third step of a command: the properties of the host that the selected cases may require, and
-- their plan.
use Rattle.std.specs.Prelude.{ℕ, suc, Bool, true, false, ◌≡◌, ◌&&◌, List, [], ◌∷◌, ◌++◌, Option, Some, None, map}
use Rattle.std.specs.List.{list_any}
use Rattle.std.specs.Option.{option_map}
use Rattle.kt_plan.specs.Types.{Atf, Candidate, Host, Job, Need, Values}
use Rattle.kt_base.specs.Verdicts.{VerdictValue, broken, skipped}
use Rattle.kt_base.specs.declared.child.Interface.{Interface}
use Rattle.kt_base.specs.declared.verdict.Reason.{Reason}
use Rattle.kt_base.specs.Reasons.{reason_text}
use Rattle.kt_metadata.specs.Effective.{effective}
use Rattle.kt_metadata.specs.Listing.{listing}
use Rattle.kt_metadata.specs.Requirements.{all_needs, first_reason, is_found, is_same_need, required_objects, requirement_reason_texts}
use Rattle.kt_metadata.specs.declared.meta.Meta.{Meta}
use Rattle.kt_plan.specs.Collecting.{variables_for}
use Rattle.kt_plan.specs.WorldCalls.{IsCallPrefix}
use Rattle.kt_plan.specs.Reply.{Reply, Finds, IsRoot, HasMemory, HasDisk}

-- `candidate_meta candidate`: the effective properties of the case `candidate`: each has the value
-- that was last set, or its default.
abbrev pub candidate_meta : Candidate → Meta
candidate_meta candidate = effective candidate.case.props

-- `needs_of_kind need words`: the pairs of `need` with each of `words`, in order. `words` are
-- required files or programs, and `need` states whether they are files or programs.
abbrev pub needs_of_kind : Need → List (List ℕ) → List (Need × List ℕ)
needs_of_kind need words = map (λ word. (need, word)) words

-- `needs_of_kinds needs meta`: the required files and programs in the properties `meta`, each with
-- its kind: file or program. Only the kinds in the list `needs` are included, in the order of
-- `needs`.
abbrev pub needs_of_kinds : List Need → Meta → List (Need × List ℕ)
needs_of_kinds [] meta = []
needs_of_kinds (need ∷ needs) meta = needs_of_kind need (required_objects need meta) ++ needs_of_kinds needs meta

-- `case_needs fault meta`: the required files and programs of a case with the properties `meta`,
-- each with its kind: file or program. There are none if `fault` has the reason why the list of its
-- program can't be used.
abbrev pub case_needs : Option Reason → Meta → List (Need × List ℕ)
case_needs (Some reason) meta = []
case_needs None meta = needs_of_kinds all_needs meta

-- `needs_of_cases candidates`: the required files and programs of the cases `candidates`, in order,
-- each with its kind: file or program.
abbrev pub needs_of_cases : List Candidate → List (Need × List ℕ)
needs_of_cases [] = []
needs_of_cases (candidate ∷ candidates) = case_needs candidate.case.fault (candidate_meta candidate) ++ needs_of_cases candidates

-- `ChecksNeeds needs calls`: the calls `calls` to the host check whether the required files and
-- programs `needs` exist, with one call for each, in order. Each of `needs` has a kind, file or
-- program, and a path or name.
pub data ChecksNeeds : List (Need × List ℕ) → List Reply → Type 0 where
  nothing : ChecksNeeds [] []
  asked : (need : Need) (word : List ℕ) (needs : List (Need × List ℕ)) (answer : Bool) (calls : List Reply) → ChecksNeeds needs calls
      → ChecksNeeds ((need, word) ∷ needs) (Finds need word answer ∷ calls)

-- `finds need word reply`: `true` if `reply`, a call to the host, found the file or program `word`.
-- `need` states whether `word` is a file or a program.
abbrev pub finds : Need → List ℕ → Reply → Bool
finds need word (Finds other_need other answer) = is_same_need other_need other need word && answer
finds need word other = false

-- `ProbesHost candidates calls host`: `host` has the properties of the host, by the results of the
-- calls `calls`. These calls first read three values: whether the user is root, the memory and
-- the disk space. They then check for the files and programs that the cases `candidates` require. A
-- file or program exists if a call found it.
pub record ProbesHost (candidates : List Candidate) (calls : List Reply) (host : Host) : Type 0 where
  pub looked : List Reply
  pub asked : calls ≡ IsRoot host.root ∷ HasMemory host.memory ∷ HasDisk host.disk ∷ looked
  pub all : ChecksNeeds (needs_of_cases candidates) looked
  pub found : (need : Need) (word : List ℕ) → is_found need host word ≡ list_any (finds need word) looked

-- `IsProbePrefix candidates calls`: `calls` may be the calls to the host before an allocation
-- failed. They first read three values: whether the user is root, the memory and the disk space.
-- They then check for the first files and programs that the cases `candidates` require, possibly
-- none.
pub record IsProbePrefix (candidates : List Candidate) (calls : List Reply) : Type 0 where
  pub root : Bool
  pub memory : Option ℕ
  pub disk : Option ℕ
  pub looked : List Reply
  pub asked : calls ≡ IsRoot root ∷ HasMemory memory ∷ HasDisk disk ∷ looked
  pub first : IsCallPrefix (ChecksNeeds (needs_of_cases candidates)) looked

-- `is_atf interface`: `true` if the interface `interface` is ATF, the only interface whose cases
-- may have cleanups.
abbrev pub is_atf : Interface → Bool
is_atf Atf = true
is_atf other = false

-- `DecidesVerdict fault unmet decided`: `decided` is the verdict of a case that must not be
-- started, or `None` for another case. The case is broken if `fault` has the reason why the list of
-- its program can't be used. Otherwise, it is skipped if `unmet` has the reason why a requirement
-- is not met.
abbrev pub DecidesVerdict : Option Reason → Option (List ℕ) → Option VerdictValue → Type 0
DecidesVerdict (Some reason) unmet decided = decided ≡ Some (broken (reason_text reason))
DecidesVerdict None unmet decided = decided ≡ option_map skipped unmet

-- `IsJobOf config host position candidate job`: `job` is the job of the case `candidate`, at the
-- position `position` of a plan. It has the names, the effective properties and the variables of
-- the case, and a verdict if the case must not be started. `config` is the configuration, and
-- `host` has the properties of the host.
pub record IsJobOf (config : Values) (host : Host) (position : ℕ) (candidate : Candidate) (job : Job) : Type 0 where
  pub at : job.position ≡ position
  pub interface : job.interface ≡ candidate.interface
  pub program : job.program ≡ candidate.path
  pub case_name : job.case_name ≡ candidate.case.name
  pub vars : job.vars ≡ variables_for config candidate.suite
  pub timeout : job.timeout ≡ (candidate_meta candidate).timeout
  pub exclusive : job.exclusive ≡ (candidate_meta candidate).is_exclusive
  pub cleanup : job.cleanup ≡ (is_atf candidate.interface && (candidate_meta candidate).has_cleanup)
  pub decided : DecidesVerdict candidate.case.fault (first_reason (requirement_reason_texts (candidate_meta candidate) config candidate.suite host)) job.decided
  pub meta : job.meta ≡ listing candidate.case.props

-- `ArePlanned config host position candidates jobs`: `jobs` has one job for each of the cases
-- `candidates`, in order. The first job has the position `position` in the plan. `config` is the
-- configuration, and `host` has the properties of the host.
pub data ArePlanned (config : Values) (host : Host) : ℕ → List Candidate → List Job → Type 0 where
  no_job : (position : ℕ) → ArePlanned config host position [] []
  planned : (position : ℕ) (candidate : Candidate) (candidates : List Candidate) (job : Job) (jobs : List Job)
      → IsJobOf config host position candidate job → ArePlanned config host (suc position) candidates jobs
      → ArePlanned config host position (candidate ∷ candidates) (job ∷ jobs)
