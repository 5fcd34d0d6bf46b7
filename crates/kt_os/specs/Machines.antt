-- The calls to the host's files and clock, and the search for programs.
use Rattle.std.specs.Prelude.{ℕ, Bool, true, false, List, [], ◌∷◌, ◌++◌, ◌==◌, ◌≡◌, ◌≤◌, ◌<◌, length, Option, Some, None, Result, codes}
use Rattle.std.specs.List.{list_any, slice_split}
use Rattle.kt_base.specs.Characters.{is_slash}
use Rattle.kt_os.specs.declared.machine.file_fault.FileFault.TheVariants as file
use Rattle.kt_os.specs.declared.system.OsFault.TheVariants as fault
use Rattle.kt_os.specs.Types.{FileFault, OsFault, is_absolute, utf8}

-- `read_limit`: the maximum number of bytes that `ReadsFile` reads from a file. It is one more than
-- a Kyuafile or a configuration file may have.
abbrev pub read_limit : ℕ
read_limit = 1048577

-- `longest_path`: the maximum length of a path that the host accepts, in bytes.
abbrev pub longest_path : ℕ
longest_path = 4095

-- `file_fault_of fault`: the error of reading a regular file if a call to the system fails with
-- `fault`.
abbrev pub file_fault_of : OsFault → FileFault
file_fault_of fault.Failed = file.Failed
file_fault_of (fault.Memory refusal) = file.Memory refusal

-- `HostResponse`: a call to the host with its result. `ReadsFile` reads the start of a file.
-- `IsFile`, `PathExists` and `IsProgram` check that a path names a regular file, any file or an
-- executable file. `ReadsClock` reads the clock, in milliseconds since 1970-01-01 UTC. Paths are
-- bytes.
pub data HostResponse : Type 0 where
  ReadsFile : (path : List ℕ) (answer : Result (List ℕ) FileFault) → HostResponse
  IsFile : (path : List ℕ) (answer : Bool) → HostResponse
  PathExists : (path : List ℕ) (answer : Bool) → HostResponse
  IsProgram : (path : List ℕ) (answer : Bool) → HostResponse
  ReadsClock : (moment : ℕ) → HostResponse

-- `directories path`: the directories in `path`, a value of `PATH` in which colons separate them.
abbrev pub directories : List ℕ → List (List ℕ)
directories path = slice_split (λ b. b == 58) path

-- `path_in directory name`: the path of the file `name` in `directory`. An empty `directory` is the
-- working directory.
abbrev pub path_in : List ℕ → List ℕ → List ℕ
path_in [] name = name
path_in (b ∷ bs) name = (b ∷ bs) ++ codes "/" ++ name

module _ {M : Type 0} (answers : M → HostResponse → M → Type 0) where
  -- `CallsUnlessTooLong answers path asked Unasked old new`: the call `asked` about the joined path
  -- `path` leads the host from state `old` to `new`. If the path is longer than `longest_path`, no
  -- call is made, and `Unasked` holds. `answers` is the relation of the host's calls.
  pub data CallsUnlessTooLong (path : List ℕ) (asked : HostResponse) (Unasked : Type 0) (old new : M) : Type 0 where
    taken : length path ≤ longest_path → answers old asked new → CallsUnlessTooLong path asked Unasked old new
    too_long : longest_path < length path → Unasked → new ≡ old → CallsUnlessTooLong path asked Unasked old new

  -- `HasProgram answers name directory answer old new`: `answer` is `true` if the host reports that
  -- `directory` has the program `name`. The call leads the host from state `old` to `new`. If the
  -- joined path is longer than `longest_path`, no call is made, and `answer` is `false`. `answers`
  -- is the relation of the host's calls.
  abbrev pub HasProgram : List ℕ → List ℕ → Bool → M → M → Type 0
  HasProgram name directory answer old new = CallsUnlessTooLong (path_in directory name) (IsProgram (path_in directory name) answer) (answer ≡ false) old new

  -- `SearchesDirectories answers name directories answer old new`: the program `name` is looked up
  -- in `directories`, in order, up to the first directory that has it. `answer` is `true` if some
  -- directory has the program. The calls lead the host from state `old` to `new`. `answers` is the
  -- relation of the host's calls.
  pub data SearchesDirectories (name : List ℕ) : List (List ℕ) → Bool → M → M → Type 0 where
    nowhere : (old : M) → SearchesDirectories name [] false old old
    here : (directory : List ℕ) (others : List (List ℕ)) (old new : M) → HasProgram name directory true old new → SearchesDirectories name (directory ∷ others) true old new
    further : (directory : List ℕ) (others : List (List ℕ)) (answer : Bool) (old mid new : M) → HasProgram name directory false old mid → SearchesDirectories name others answer mid new
        → SearchesDirectories name (directory ∷ others) answer old new

  -- `IsFoundInPath answers slash path name answer old new`: `answer` is `true` if the program
  -- `name` is found. It is looked up in the directories of `path`, the value of `PATH`. It is not
  -- found if `PATH` is not set, or if `slash` is `true`: then `name` has a slash. The calls lead
  -- the host from state `old` to `new`. `answers` is the relation of the host's calls.
  abbrev pub IsFoundInPath : Bool → Option (List ℕ) → List ℕ → Bool → M → M → Type 0
  IsFoundInPath false (Some path) name answer old new = SearchesDirectories (utf8 name) (directories (utf8 path)) answer old new
  IsFoundInPath false None name answer old new = (answer ≡ false) × (new ≡ old)
  IsFoundInPath true path name answer old new = (answer ≡ false) × (new ≡ old)

  -- `IsFoundByName answers absolute path name answer old new`: `answer` is `true` if the program
  -- `name` is found. If `absolute` is `true`, `name` is the absolute path of the program.
  -- Otherwise, it is looked up in the directories of `path`, the value of `PATH`, and a name with a
  -- slash is not found. The calls lead the host from state `old` to `new`. `answers` is the
  -- relation of the host's calls.
  abbrev pub IsFoundByName : Bool → Option (List ℕ) → List ℕ → Bool → M → M → Type 0
  IsFoundByName true path name answer old new = answers old (IsProgram (utf8 name) answer) new
  IsFoundByName false path name answer old new = IsFoundInPath (list_any is_slash name) path name answer old new

  -- `IsProgramFound answers path name answer old new`: `answer` is `true` if the required program
  -- `name` is found with `path`, the value of `PATH`. A name that begins with a slash is the path
  -- of the program. Other names with a slash are not found. The calls lead the host from state
  -- `old` to `new`. `answers` is the relation of the host's calls.
  abbrev pub IsProgramFound : Option (List ℕ) → List ℕ → Bool → M → M → Type 0
  IsProgramFound path name answer old new = IsFoundByName (is_absolute name) path name answer old new
