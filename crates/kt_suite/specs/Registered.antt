-- The programs that a tree registers, and the calls of the tree by which they are found.
use Rattle.std.specs.Prelude.{ℕ, List, [], ◌∷◌, ◌++◌, ◌≡◌, ◌≤◌, ◌+◌, length, Result, Ok, Err}
use Rattle.kt_suite.specs.Types.{Program, SuiteFault, TooMany}
use Rattle.kt_suite.specs.Answers.{Asked, IsSameCall}
use Rattle.kt_suite.specs.Faults.{IsNoMemory}
use Rattle.kt_suite.specs.Marks.{Site, site_fault, Mark, CallMark, File, ProgramMark, Fault, HasTreeMarks}

-- `file_limit`: the maximum number of Kyuafiles that are read for a tree. A file that is read twice
-- counts twice.
abbrev pub file_limit : ℕ
file_limit = 10000

-- `program_limit`: the maximum number of programs that a tree may register.
abbrev pub program_limit : ℕ
program_limit = 10000

-- `LoadResult`: the result of loading a tree: its programs in order, or its first error.
abbrev pub LoadResult : Type 0
LoadResult = Result (List Program) SuiteFault

-- `calls_in marks`: the calls of functions of `Tree` among the marks `marks`, with their results,
-- in order.
abbrev pub calls_in : List Mark → List Asked
calls_in [] = []
calls_in (CallMark question ∷ marks) = question ∷ calls_in marks
calls_in (other ∷ marks) = calls_in marks

-- `files_in marks`: the number of files to read among the marks `marks`.
abbrev pub files_in : List Mark → ℕ
files_in [] = 0
files_in (File at ∷ marks) = 1 + files_in marks
files_in (other ∷ marks) = files_in marks

-- `programs_in marks`: the registered programs among the marks `marks`, in order.
abbrev pub programs_in : List Mark → List Program
programs_in [] = []
programs_in (ProgramMark at program ∷ marks) = program ∷ programs_in marks
programs_in (other ∷ marks) = programs_in marks

-- `faults_in marks`: the errors among the marks `marks`, in order.
abbrev pub faults_in : List Mark → List SuiteFault
faults_in [] = []
faults_in (Fault fault ∷ marks) = fault ∷ faults_in marks
faults_in (other ∷ marks) = faults_in marks

-- `DecidesNothing marks`: none of the marks `marks` decides the result of loading: no mark is an
-- error, and the files and the programs don't exceed their limits.
pub record DecidesNothing (marks : List Mark) : Type 0 where
  pub faultless : faults_in marks ≡ []
  pub files : files_in marks ≤ file_limit
  pub programs : length (programs_in marks) ≤ program_limit

-- `Decides files programs mark fault`: the mark `mark` decides the result of loading, which is the
-- error `fault`. The mark is an error, or a file or a program that exceeds the limit. Among the
-- marks before `mark` are `files` files and `programs` programs.
pub data Decides (files programs : ℕ) : Mark → SuiteFault → Type 0 where
  is_fault : (fault : SuiteFault) → Decides files programs (Fault fault) fault
  file_too_many : (at : Site) → file_limit ≤ files → Decides files programs (File at) (site_fault at TooMany)
  program_too_many : (at : Site) (program : Program) → program_limit ≤ programs
      → Decides files programs (ProgramMark at program) (site_fault at TooMany)

-- `Registered asked root result`: loading the tree with the root Kyuafile `root` has the result
-- `result`. `asked` are the calls of the tree's functions before the mark that decides the result,
-- or all calls if no mark decides.
pub data Registered (asked : List Asked) (root : List ℕ) : LoadResult → Type 0 where
  all : (marks : List Mark) → HasTreeMarks root marks → DecidesNothing marks → asked ≡ calls_in marks
      → Registered asked root (Ok (programs_in marks))
  stopped : (front back : List Mark) (mark : Mark) (fault : SuiteFault)
      → HasTreeMarks root (front ++ mark ∷ back) → DecidesNothing front
      → Decides (files_in front) (length (programs_in front)) mark fault → asked ≡ calls_in front
      → Registered asked root (Err fault)

-- `IsAtMostNextCall marks asked`: the list `asked` of calls is empty, or contains only the call
-- with which the marks `marks` begin, with any result.
pub data IsAtMostNextCall : List Mark → List Asked → Type 0 where
  no_question : (marks : List Mark) → IsAtMostNextCall marks []
  thrown_away : (question other : Asked) (marks : List Mark) → IsSameCall question other
      → IsAtMostNextCall (CallMark other ∷ marks) (question ∷ [])

-- `Unfinished asked root outcome`: loading the tree with the root Kyuafile `root` has the result
-- `outcome`, the error of a failed allocation. The allocation failed before a mark decided the
-- result. `asked` are the calls of the tree's functions before this failure. The last of them may
-- have any result.
pub record Unfinished (asked : List Asked) (root : List ℕ) (outcome : LoadResult) : Type 0 where
  pub fault : SuiteFault
  pub no_memory : IsNoMemory fault
  pub refused : outcome ≡ Err fault
  pub front : List Mark
  pub back : List Mark
  pub more : List Asked
  pub gives : HasTreeMarks root (front ++ back)
  pub undecided : DecidesNothing front
  pub next : IsAtMostNextCall back more
  pub is : asked ≡ calls_in front ++ more
