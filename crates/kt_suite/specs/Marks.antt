-- Marks: the events of reading a tree of Kyuafiles, in order.
use Rattle.std.specs.Prelude.{ℕ, Bool, true, false, List, [], ◌∷◌, ◌++◌, ◌≡◌, length, nat_le, bytes_eq, Option, Some, None, Ok, Err, if◌then◌else◌}
use Rattle.std.specs.List.{list_any}
use Rattle.kt_suite.specs.Types.{IncludeLoop, Meaning, MissingProgram, NoSyntax, Program, ReadFault, Script, ScriptFault, Stmt, SuiteCause, SuiteFault, TooDeep}
use Rattle.kt_script.specs.Spelling.{Spells, HasFault}
use Rattle.kt_suite.specs.declared.meaning.Meaning.TheVariants as meaning
use Rattle.kt_suite.specs.Answers.{Asked, Read, Exists}
use Rattle.kt_suite.specs.Faults.{fault_at, read_fault, script_line}
use Rattle.kt_suite.specs.Meanings.{meaning_of, opening_cause}
use Rattle.kt_suite.specs.Paths.{sibling_of}

-- `depth_limit`: the maximum number of Kyuafiles that are open at once, each included by the file
-- before.
abbrev pub depth_limit : ℕ
depth_limit = 32

-- `Site`: the file and the line of a statement.
pub record Site : Type 0 where
  pub file : List ℕ
  pub line : ℕ

-- `site_fault at cause`: the error with the cause `cause` in the statement at the site `at`.
abbrev pub site_fault : Site → SuiteCause → SuiteFault
site_fault at cause = fault_at at.file at.line cause

-- `Mark`: an event of reading a tree of Kyuafiles: a call with its result, a file to read, a
-- program, or an error.
pub data Mark : Type 0 where
  CallMark : Asked → Mark
  File : Site → Mark
  ProgramMark : Site → Program → Mark
  Fault : SuiteFault → Mark

-- `Part`: an event of reading one file without the files that it includes. It is a mark, or an
-- `include` statement with its site and the path of the included file.
pub data Part : Type 0 where
  OneMark : Mark → Part
  Includes : Site → List ℕ → Part

-- `lookup_mark at program there`: the mark for the program `program`, which the statement at the
-- site `at` registers. The mark is the program, or the error `MissingProgram` if `there` is false.
-- `there` is true if a file is at the program's path.
abbrev pub lookup_mark : Site → Program → Bool → Mark
lookup_mark at program true = ProgramMark at program
lookup_mark at program false = Fault (site_fault at MissingProgram)

-- `statement_parts at there meaning`: the marks and includes of a statement at the site `at` with
-- the meaning `meaning`. `there` is true if a file is at the path of the program that the statement
-- registers.
abbrev pub statement_parts : Site → Bool → Meaning → List Part
statement_parts at there (meaning.Wrong cause) = OneMark (Fault (site_fault at cause)) ∷ []
statement_parts at there (meaning.Suite name) = []
statement_parts at there (meaning.Include name) = Includes at (sibling_of at.file name) ∷ []
statement_parts at there (meaning.Program interface name suite props) =
    OneMark (CallMark (Exists (sibling_of at.file name) there))
    ∷ OneMark (lookup_mark at (record { interface = interface; path = sibling_of at.file name; suite = suite; props = props }) there) ∷ []

-- `suite_after suite meaning`: the test suite of the programs after a statement with the meaning
-- `meaning`, if any. `suite` is the test suite that the file has set before the statement, if any.
abbrev pub suite_after : Option (List ℕ) → Meaning → Option (List ℕ)
suite_after suite (meaning.Suite name) = Some name
suite_after suite other = suite

-- `HaveStatementParts file suite stmts parts`: `parts` are the marks and includes of the statements
-- `stmts` of the file `file`. `suite` is the test suite that the file has set before these
-- statements, if any. The calls among `parts` may have any results.
pub data HaveStatementParts (file : List ℕ) : Option (List ℕ) → List Stmt → List Part → Type 0 where
  none : (suite : Option (List ℕ)) → HaveStatementParts file suite [] []
  one : (suite : Option (List ℕ)) (stmt : Stmt) (rest : List Stmt) (there : Bool) (parts : List Part)
      → HaveStatementParts file (suite_after suite (meaning_of suite stmt.action)) rest parts
      → HaveStatementParts file suite (stmt ∷ rest)
      (statement_parts (record { file = file; line = stmt.line }) there (meaning_of suite stmt.action) ++ parts)

-- `HasFileParts file parts`: `parts` are the marks and includes of reading the file `file`,
-- without the marks of the included files. The calls among `parts` may have any results.
pub data HasFileParts (file : List ℕ) : List Part → Type 0 where
  fault_of_read : (why : ReadFault)
      → HasFileParts file (OneMark (CallMark (Read file (Err why))) ∷ OneMark (Fault (read_fault file why)) ∷ [])
  no_script : (text : List ℕ) (why : ScriptFault) → HasFault text why
      → HasFileParts file (OneMark (CallMark (Read file (Ok text))) ∷ OneMark (Fault (fault_at file (script_line why) (Script why))) ∷ [])
  no_statement : (text : List ℕ) → Spells text []
      → HasFileParts file (OneMark (CallMark (Read file (Ok text))) ∷ OneMark (Fault (fault_at file 1 NoSyntax)) ∷ [])
  unopened : (text : List ℕ) (first : Stmt) (rest : List Stmt) (cause : SuiteCause)
      → Spells text (first ∷ rest) → opening_cause first.action ≡ Some cause
      → HasFileParts file (OneMark (CallMark (Read file (Ok text))) ∷ OneMark (Fault (fault_at file first.line cause)) ∷ [])
  opened : (text : List ℕ) (first : Stmt) (rest : List Stmt) (parts : List Part)
      → Spells text (first ∷ rest) → opening_cause first.action ≡ None → HaveStatementParts file None rest parts
      → HasFileParts file (OneMark (CallMark (Read file (Ok text))) ∷ parts)

-- `include_cause files path`: the cause of the error if the file `path` is included while the files
-- `files` are open. It is `IncludeLoop` if `path` is one of `files`, otherwise `TooDeep` if 32
-- files are open. It is `None` if the file may be included.
abbrev pub include_cause : List (List ℕ) → List ℕ → Option SuiteCause
include_cause files path =
    if list_any (bytes_eq path) files then Some IncludeLoop
    else if nat_le depth_limit (length files) then Some TooDeep else None

-- `Unfolds files parts marks`: `marks` are `parts`, the marks and includes of a file, with marks in
-- place of each include. The files `files` are open. If the file may not be included, the include
-- is replaced by the mark of its error. Otherwise, it is replaced by the mark of the included file
-- and the marks of reading this file.
pub data Unfolds : List (List ℕ) → List Part → List Mark → Type 0 where
  end : (files : List (List ℕ)) → Unfolds files [] []
  says : (files : List (List ℕ)) (mark : Mark) (parts : List Part) (marks : List Mark)
      → Unfolds files parts marks → Unfolds files (OneMark mark ∷ parts) (mark ∷ marks)
  refused : (files : List (List ℕ)) (at : Site) (path : List ℕ) (cause : SuiteCause) (parts : List Part) (marks : List Mark)
      → include_cause files path ≡ Some cause → Unfolds files parts marks
      → Unfolds files (Includes at path ∷ parts) (Fault (site_fault at cause) ∷ marks)
  entered : (files : List (List ℕ)) (at : Site) (path : List ℕ) (own : List Part) (inner : List Mark)
      (parts : List Part) (marks : List Mark)
      → include_cause files path ≡ None → HasFileParts path own → Unfolds (files ++ path ∷ []) own inner → Unfolds files parts marks
      → Unfolds files (Includes at path ∷ parts) (File at ∷ (inner ++ marks))

-- `HasTreeMarks root marks`: `marks` are the marks of reading the tree with the root Kyuafile
-- `root`. The calls among `marks` may have any results.
abbrev pub HasTreeMarks : List ℕ → List Mark → Type 0
HasTreeMarks root marks = Unfolds [] (Includes (record { file = root; line = 0 }) root ∷ []) marks
