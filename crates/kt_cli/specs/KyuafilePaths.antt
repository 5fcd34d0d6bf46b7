-- The directory of a Kyuafile.
use Rattle.std.specs.Prelude.{ℕ, List, ◌++◌, codes, if◌then◌else◌}
use Rattle.kt_cli.specs.Types.{is_absolute}
use Rattle.kt_suite.specs.Paths.{parent_of}

-- `absolute_path here path`: `path` if it is absolute, else `path` below the working directory
-- `here`.
abbrev pub absolute_path : List ℕ → List ℕ → List ℕ
absolute_path here path = if is_absolute path then path else here ++ codes "/" ++ path

-- `source_directory here directory`: the absolute path of the directory `directory`, without a
-- slash at its end, so that it is empty for `/`. `directory` ends with a slash, or is empty for the
-- working directory. `here` is the absolute path of the working directory.
abbrev pub source_directory : List ℕ → List ℕ → List ℕ
source_directory here directory = parent_of (absolute_path here directory)
