-- Results of the loader's private functions, each for its part of a tree: a mark, a statement or a
-- file.
use Rattle.std.specs.Prelude.{ℕ, Bool, true, List, [], ◌∷◌, ◌++◌, ◌≡◌, ◌<◌, ◌≤◌, ◌+◌, length, Some, None, Result, Ok, Err}
use Rattle.kt_suite.specs.Types.{Meaning, NoSyntax, Program, ReadFault, Stmt, SuiteCause, SuiteFault, TooMany}
use Rattle.kt_script.specs.Spelling.{Spells}
use Rattle.kt_suite.specs.declared.registry.Registry.{Registry}
use Rattle.kt_suite.specs.declared.registry.LoadStep.{LoadStep}
use Rattle.kt_suite.specs.declared.registry.LoadStep.TheVariants.{Next, Enter}
use Rattle.kt_base.specs.Chains.{Chain}
use Rattle.kt_suite.specs.Answers.{Asked, Read, Exists}
use Rattle.kt_suite.specs.Faults.{fault_at, IsNoMemory}
use Rattle.kt_suite.specs.Marks.{Site, site_fault, lookup_mark, Mark, CallMark, File, ProgramMark, Fault, Part, OneMark, Includes, statement_parts, HasFileParts, include_cause, Unfolds}
use Rattle.kt_suite.specs.Meanings.{opening_cause}
use Rattle.kt_suite.specs.Registered.{file_limit, program_limit, calls_in, Decides, IsAtMostNextCall}

-- `AddsMarks r marks after`: the loader's registry `after` is the registry `r` with the files and
-- programs of `marks` added. `marks` are events of reading a tree. No mark is an error, and the
-- limits of files and of programs are not exceeded.
abbrev pub AddsMarks : Registry → List Mark → Registry → Type 0
AddsMarks r [] after = after ≡ r
AddsMarks r (CallMark question ∷ marks) after = AddsMarks r marks after
AddsMarks r (File at ∷ marks) after = (r.files < file_limit) × AddsMarks (record r { files = r.files + 1 }) marks after
AddsMarks r (ProgramMark at program ∷ marks) after =
    (length r.programs < program_limit) × AddsMarks (record r { programs = r.programs ++ program ∷ [] }) marks after
AddsMarks r (Fault fault ∷ marks) after = ⊥

-- `LoadsMarks leads old new Gives r result`: from its registry `r` on, the loader processed a list
-- of marks that satisfies the predicate `Gives`. If no mark decides the result of loading, `result`
-- is the registry after the last mark. Otherwise, `result` is the error of the first mark that
-- decides, and the loader stopped before this mark. `result` may also be the error of a failed
-- allocation. By the relation `leads`, the calls among the processed marks lead from the tree's
-- state `old` to its state `new`. If an allocation failed, the call of the next mark may have been
-- made, too.
pub data LoadsMarks {S : Type 0} (leads : S → Asked → S → Type 0) (old new : S) (Gives : List Mark → Type 0) (r : Registry)
    : Result Registry SuiteFault → Type 0 where
  through : (marks : List Mark) (after : Registry)
      → Gives marks → Chain leads old (calls_in marks) new → AddsMarks r marks after
      → LoadsMarks leads old new Gives r (Ok after)
  stops : (front back : List Mark) (mark : Mark) (mid : Registry) (fault : SuiteFault)
      → Gives (front ++ mark ∷ back) → Chain leads old (calls_in front) new → AddsMarks r front mid
      → Decides mid.files (length mid.programs) mark fault → LoadsMarks leads old new Gives r (Err fault)
  short : (front back : List Mark) (more : List Asked) (mid : Registry) (fault : SuiteFault)
      → Gives (front ++ back) → IsAtMostNextCall back more → Chain leads old (calls_in front ++ more) new → AddsMarks r front mid
      → IsNoMemory fault → LoadsMarks leads old new Gives r (Err fault)

-- `HasFileMarks files file marks`: `marks` are the events of reading the file `file` while the
-- files `files` are open. The calls among these events may have any results.
pub record HasFileMarks (files : List (List ℕ)) (file : List ℕ) (marks : List Mark) : Type 0 where
  pub parts : List Part
  pub says : HasFileParts file parts
  pub unfolds : Unfolds (files ++ file ∷ []) parts marks

-- `HasMeaningMarks files at meaning marks`: `marks` are the events of executing a statement with
-- the meaning `meaning` at the site `at` while the files `files` are open. The calls among these
-- events may have any results.
pub record HasMeaningMarks (files : List (List ℕ)) (at : Site) (meaning : Meaning) (marks : List Mark) : Type 0 where
  pub there : Bool
  pub unfolds : Unfolds files (statement_parts at there meaning) marks

module _ {S : Type 0} (leads : S → Asked → S → Type 0) (old new : S) where
  -- `RegistersProgram leads old new at r program result`: the statement at the site `at` registers
  -- the program `program`. `result` is the registry `r` with the program appended, or an error: the
  -- program's file is missing, the limit of programs is exceeded, or an allocation failed. By the
  -- relation `leads`, the statement's calls lead from the tree's state `old` to its state `new`.
  abbrev pub RegistersProgram : Site → Registry → Program → Result Registry SuiteFault → Type 0
  RegistersProgram at r program result =
      LoadsMarks leads old new (λ marks. (there : Bool) × (marks ≡ CallMark (Exists program.path there) ∷ lookup_mark at program there ∷ [])) r result

-- `CountsInclude at r path result`: the statement at the site `at` includes the file at the path
-- `path`. `result` is the registry `r` with this file counted, or the error if the file may not be
-- included or an allocation failed.
pub data CountsInclude (at : Site) (r : Registry) (path : List ℕ) : Result Registry SuiteFault → Type 0 where
  refuses : (cause : SuiteCause) → include_cause r.open_kyuafiles path ≡ Some cause → CountsInclude at r path (Err (site_fault at cause))
  exceeds : include_cause r.open_kyuafiles path ≡ None → file_limit ≤ r.files → CountsInclude at r path (Err (site_fault at TooMany))
  counts : include_cause r.open_kyuafiles path ≡ None → r.files < file_limit
      → CountsInclude at r path (Ok (record r { files = r.files + 1 }))
  scant : (fault : SuiteFault) → IsNoMemory fault → CountsInclude at r path (Err fault)

-- `EntersInclude at r path step`: the step `step` of the statement at the site `at` reads the file
-- at the path `path` next. The step's registry is `r` with this file counted.
abbrev pub EntersInclude : Site → Registry → List ℕ → LoadStep → Type 0
EntersInclude at r path step = (next : Registry) × CountsInclude at r path (Ok next) × (step ≡ Enter next path)

-- `StepsTo leads old new r at meaning result`: a statement at the site `at` with the meaning
-- `meaning` was executed with the registry `r`. By the relation `leads`, its calls lead from the
-- tree's state `old` to its state `new`. `result` is the next step of the loader, the error of the
-- statement, or the error of a failed allocation.
pub data StepsTo {S : Type 0} (leads : S → Asked → S → Type 0) (old new : S) (r : Registry) (at : Site)
    (meaning : Meaning) : Result LoadStep SuiteFault → Type 0 where
  goes : (after : Registry) → LoadsMarks leads old new (HasMeaningMarks r.open_kyuafiles at meaning) r (Ok after)
      → StepsTo leads old new r at meaning (Ok (Next after))
  enters : (path : List ℕ) → statement_parts at true meaning ≡ Includes at path ∷ []
      → include_cause r.open_kyuafiles path ≡ None → r.files < file_limit → new ≡ old
      → StepsTo leads old new r at meaning (Ok (Enter (record r { files = r.files + 1 }) path))
  fails : (fault : SuiteFault) → LoadsMarks leads old new (HasMeaningMarks r.open_kyuafiles at meaning) r (Err fault)
      → StepsTo leads old new r at meaning (Err fault)

-- `ChecksOpening file stmts result`: `result` has the statements `stmts` of the file `file` if they
-- begin with `syntax(2)`. Otherwise, it is the error of `file`. It may also be the error of a
-- failed allocation.
pub data ChecksOpening (file : List ℕ) (stmts : List Stmt) : Result (List Stmt) SuiteFault → Type 0 where
  well : (first : Stmt) (rest : List Stmt) → stmts ≡ first ∷ rest → opening_cause first.action ≡ None
      → ChecksOpening file stmts (Ok stmts)
  empty : stmts ≡ [] → ChecksOpening file stmts (Err (fault_at file 1 NoSyntax))
  badly : (first : Stmt) (rest : List Stmt) (cause : SuiteCause)
      → stmts ≡ first ∷ rest → opening_cause first.action ≡ Some cause
      → ChecksOpening file stmts (Err (fault_at file first.line cause))
  unclear : (fault : SuiteFault) → IsNoMemory fault → ChecksOpening file stmts (Err fault)

-- `OpensFile leads old new file result`: the file `file` was read. By the relation `leads`, the
-- read leads from the tree's state `old` to its state `new`. `result` has the file's statements,
-- which begin with `syntax(2)`, or is the error of the file, or the error of a failed allocation.
pub data OpensFile {S : Type 0} (leads : S → Asked → S → Type 0) (old new : S) (file : List ℕ)
    : Result (List Stmt) SuiteFault → Type 0 where
  opens : (text : List ℕ) (first : Stmt) (rest : List Stmt)
      → leads old (Read file (Ok text)) new → Spells text (first ∷ rest) → opening_cause first.action ≡ None
      → OpensFile leads old new file (Ok (first ∷ rest))
  declines : (answer : Result (List ℕ) ReadFault) (fault : SuiteFault)
      → leads old (Read file answer) new → HasFileParts file (OneMark (CallMark (Read file answer)) ∷ OneMark (Fault fault) ∷ [])
      → OpensFile leads old new file (Err fault)
  lacks : (answer : Result (List ℕ) ReadFault) (fault : SuiteFault)
      → leads old (Read file answer) new → IsNoMemory fault → OpensFile leads old new file (Err fault)
