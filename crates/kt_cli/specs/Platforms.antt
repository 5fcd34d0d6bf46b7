-- The calls of a platform, which opens results files and reads the environment of the process.
use Rattle.std.specs.Prelude.{ℕ, ◌⊎◌, ◌≡◌, List, Result, Ok, Err}
use Rattle.sqlite_disk.specs.declared.Disk as disk
use Rattle.sqlite_store.specs.declared.store.FileStore.{FileStore}
use Rattle.sqlite_wal.specs.Recovery.{Image}
use Rattle.kt_cli.specs.Types.{Access, OsFault, IsDatabaseFault, StoreFault, ProcessEnv}
use Rattle.kt_store.specs.Files.{ClosesCleanly, RepresentsImage}
use Rattle.kt_store.specs.declared.store_fault.StoreFault.TheVariants.{UnknownSchema}
use Rattle.kt_os.specs.Around.{IsProcessEnv}

-- `HostCall S`: a call of a platform whose stores have the type `S`, with its result (`answer`).
-- `Opened` opens the results file at the path `file` with `access`, and `Closed` closes `results`.
-- `ReadProcessEnv` reads the working directory and the environment of the process.
pub data HostCall (S : Type 0) : Type 0 where
  Opened : (file : List ℕ) (access : Access) (answer : Result S StoreFault) → HostCall S
  Closed : (results : S) (answer : Result (Unit {0}) StoreFault) → HostCall S
  ReadProcessEnv : (answer : Result ProcessEnv OsFault) → HostCall S

-- `IsHostOfFiles path image call`: the result of `call` is that of a platform that stores runs in
-- files. The results file at `path` has the content `image`, and a store that is opened at `path`
-- has the runs of this file. After a successful close, the database file has the runs without its
-- log. An open fails only if memory ran out, the database failed or the schema is unknown. A close
-- fails only if memory ran out or the database failed. The working directory and the environment
-- meet `IsProcessEnv`.
abbrev pub IsHostOfFiles : {D : Type 0} {g : disk.Ghosts D} → List ℕ → Image → HostCall (FileStore D g) → Type 0
IsHostOfFiles path image (Opened file access (Ok results)) = file ≡ path → RepresentsImage image results
IsHostOfFiles path image (Opened file access (Err fault)) = IsDatabaseFault fault ⊎ (fault ≡ UnknownSchema)
IsHostOfFiles path image (Closed results (Ok done)) = ClosesCleanly results
IsHostOfFiles path image (Closed results (Err fault)) = IsDatabaseFault fault
IsHostOfFiles path image (ReadProcessEnv answer) = IsProcessEnv answer
