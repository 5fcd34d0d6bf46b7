-- The content of a new results file, and the paths that its creation may use.
use Rattle.std.specs.Prelude.{◌≡◌, ◌⊎◌, ◌++◌, ℕ, List, codes}
use Rattle.sqlite.specs.Files.{IsEmpty}
use Rattle.kt_store.specs.Types.{HoldsDatabase, Image, Trees}

-- `HoldsEmpty image`: the database file and its log, with the content `image`, contain a database
-- without tables.
abbrev pub HoldsEmpty : Image → Type 0
HoldsEmpty image = (db : Trees) × HoldsDatabase image db × IsEmpty db

-- `IsUri path`: `path` begins with `file:`, so SQLite reads it as a URI.
abbrev pub IsUri : List ℕ → Type 0
IsUri path = (rest : List ℕ) × (path ≡ codes "file:" ++ rest)

-- `IsNewNameOf file name`: the path `name` is the path `file` with `-new` appended.
abbrev pub IsNewNameOf : List ℕ → List ℕ → Type 0
IsNewNameOf file name = name ≡ file ++ codes "-new"

-- `IsOwnName file name`: the path `name` is the path `file`, or `file` with `-new` appended.
abbrev pub IsOwnName : List ℕ → List ℕ → Type 0
IsOwnName file name = (name ≡ file) ⊎ IsNewNameOf file name
