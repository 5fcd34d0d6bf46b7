-- The rows of the tables that represent a list of runs, and the runs after a call of the store.
use Rattle.std.specs.Prelude.{◌≡◌, ℕ, zero, suc, nat_lt, nat_le, ◌==◌, slice_get, Option, None, ◌<◌, ◌≤◌, ℤ, pos, Bool, true, false, if◌then◌else◌, List, [], ◌∷◌, length, map, drop, flat_map, Some, codes, IsPermutation, ⊤, ◌⊎◌}
use Rattle.kt_base.specs.declared.verdict.Kind.{Kind}
use Rattle.kt_store.specs.Tables.{schema_1, schema_2}
use Rattle.std.specs.Str.{chars, IsUtf8}
use Rattle.kt_store.specs.Types.{AllByRecursion, BadPosition, Blob, Broken, Database, Entry, ExpectedFailure, Failed, Incomplete, Int, IsAscending, IsDatabase, NoRun, Null, Passed, RepeatedPosition, Row, Run, RunClosed, Skipped, StoreFault, Text, Trees, Variable, greatest_run_number, list_any, utf8}

-- `kind_code kind`: the number, 0 to 4, that represents the verdict kind `kind` in the tables
abbrev pub kind_code : Kind → ℕ
kind_code Passed = 0
kind_code Skipped = 1
kind_code ExpectedFailure = 2
kind_code Failed = 3
kind_code Broken = 4

-- `flag finished`: the value of the column `finished` in the table `runs`: 1 for a finished run,
-- where `finished` is `true`, else 0
abbrev pub flag : Bool → ℤ
flag finished = if finished then pos 1 else pos 0

-- `run_row r`: the row of run `r` in the table `runs` as SQLite stores it: the rowid, then the
-- columns. The first column, `id`, is NULL, since its value is the rowid.
abbrev pub run_row : Run → Row
run_row r = Int (pos r.number) ∷ Null ∷ Int (pos r.started) ∷ Int (pos r.total) ∷ Int (flag r.finished) ∷ []

-- `entry_row run e`: the columns of entry `e` in the table `entries`, for the run with number `run`
abbrev pub entry_row : ℕ → Entry → Row
entry_row run e =
    Int (pos run) ∷ Int (pos e.position) ∷ Text (utf8 e.program) ∷ Text (utf8 e.case_name) ∷ Int (pos (kind_code e.verdict.kind)) ∷ Text (utf8 e.verdict.reason) ∷ Int (pos e.started) ∷ Int (pos e.millis)
    ∷ Blob e.body.out ∷ Blob e.body.err ∷ Blob e.cleanup.out ∷ Blob e.cleanup.err ∷ []

-- `entry_rows runs`: the rows of the table `entries` for all entries of `runs`
abbrev pub entry_rows : List Run → List Row
entry_rows runs = flat_map (λ r. map (entry_row r.number) r.entries) runs

-- `pair_row run position place v`: the columns of property `v` in the table `props`. `place` is the
-- index of `v` among the properties of the entry at `position` of run `run`.
abbrev pub pair_row : ℕ → ℕ → ℕ → Variable → Row
pair_row run position place v = Int (pos run) ∷ Int (pos position) ∷ Int (pos place) ∷ Text (utf8 v.name) ∷ Text (utf8 v.value) ∷ []

-- `pair_rows_from run position place pairs`: the rows of the properties `pairs` of the entry at
-- `position` of run `run`. The indexes of the properties begin with `place`.
abbrev pub pair_rows_from : ℕ → ℕ → ℕ → List Variable → List Row
pair_rows_from run position place [] = []
pair_rows_from run position place (v ∷ pairs) = pair_row run position place v ∷ pair_rows_from run position (suc place) pairs

-- `pair_rows run e`: the rows of the table `props` for the properties of entry `e` of run `run`
abbrev pub pair_rows : ℕ → Entry → List Row
pair_rows run e = pair_rows_from run e.position 0 e.meta

-- `prop_rows runs`: the rows of the table `props` for the properties of all entries of `runs`
abbrev pub prop_rows : List Run → List Row
prop_rows runs = flat_map (λ r. flat_map (pair_rows r.number) r.entries) runs

-- `AreNumbered n runs`: the numbers of `runs` are `n`, `n` + 1, and so on, in the order of `runs`
abbrev pub AreNumbered : ℕ → List Run → Type 0
AreNumbered n [] = ⊤
AreNumbered n (r ∷ runs) = (r.number ≡ n) × AreNumbered (suc n) runs

-- `IsEncodable text`: the characters of `text` are representable in UTF-8, so decoding the encoded
-- bytes returns `text`
abbrev pub IsEncodable : List ℕ → Type 0
IsEncodable text = (chars (utf8 text) ≡ text) × IsUtf8 (utf8 text)

-- `IsEncodableProperty v`: the name and the value of property `v` are representable in UTF-8
abbrev pub IsEncodableProperty : Variable → Type 0
IsEncodableProperty v = IsEncodable v.name × IsEncodable v.value

-- `IsValidEntry e`: the texts of entry `e` are representable in UTF-8, and the reason of its
-- verdict is empty if the case passed
pub record IsValidEntry (e : Entry) : Type 0 where
  pub program : IsEncodable e.program
  pub case_name : IsEncodable e.case_name
  pub reason : IsEncodable e.verdict.reason
  pub passed : e.verdict.kind ≡ Passed → e.verdict.reason ≡ []
  pub meta : AllByRecursion IsEncodableProperty e.meta

-- `IsValidRun r`: the total of run `r` is below 2^32. Its entries meet `IsValidEntry`, ascend by
-- position without a repetition, and have positions below the total. If `r` is finished, it has as
-- many entries as its total.
pub record IsValidRun (r : Run) : Type 0 where
  pub small : r.total < 4294967296
  pub ordered : IsAscending (λ (a b : Entry). a.position < b.position) r.entries
  pub below : AllByRecursion (λ (e : Entry). e.position < r.total) r.entries
  pub sound : AllByRecursion IsValidEntry r.entries
  pub whole : r.finished ≡ true → length r.entries ≡ r.total

-- `AreValidRuns runs`: `runs` are numbered from 1, each run meets `IsValidRun`, and there are at
-- most 1,000,000 runs
pub record AreValidRuns (runs : List Run) : Type 0 where
  pub numbered : AreNumbered 1 runs
  pub each : AllByRecursion IsValidRun runs
  pub few : length runs ≤ greatest_run_number

-- `AreOrdered runs`: in each of `runs`, the entries ascend by position without a repetition
abbrev pub AreOrdered : List Run → Type 0
AreOrdered runs = AllByRecursion (λ (r : Run). IsAscending (λ (a b : Entry). a.position < b.position) r.entries) runs

-- `HasSchemaNumber n trees`: the table `meta` in `trees` has one row, with the schema number `n`
abbrev pub HasSchemaNumber : ℤ → Trees → Type 0
HasSchemaNumber n trees = map (drop 1) (trees 0) ≡ (Text (codes "schema") ∷ Int n ∷ []) ∷ []

-- `IsSchema2Database db runs`: database `db` has schema 2, and its rows are exactly those of
-- `runs`, which meet `AreValidRuns`
pub record IsSchema2Database (db : Database) (runs : List Run) : Type 0 where
  pub schema : db.schema ≡ schema_2
  pub marked : HasSchemaNumber (pos 2) db.trees
  pub runs_are : db.trees 2 ≡ map run_row runs
  pub entries_are : IsPermutation (entry_rows runs) (map (drop 1) (db.trees 3))
  pub props_are : IsPermutation (prop_rows runs) (map (drop 1) (db.trees 5))
  pub valid : AreValidRuns runs

-- `HaveNoPairs runs`: no entry of `runs` has a property
abbrev pub HaveNoPairs : List Run → Type 0
HaveNoPairs runs = AllByRecursion (λ (r : Run). AllByRecursion (λ (e : Entry). e.meta ≡ []) r.entries) runs

-- `IsSchema1Database db runs`: database `db` has schema 1, and its rows are exactly those of
-- `runs`, which meet `AreValidRuns` and have no properties
pub record IsSchema1Database (db : Database) (runs : List Run) : Type 0 where
  pub schema : db.schema ≡ schema_1
  pub marked : HasSchemaNumber (pos 1) db.trees
  pub runs_are : db.trees 2 ≡ map run_row runs
  pub entries_are : IsPermutation (entry_rows runs) (map (drop 1) (db.trees 3))
  pub bare : HaveNoPairs runs
  pub valid : AreValidRuns runs

-- `IsSchema2Of runs trees`: `trees` are the B-trees of a database of schema 2 with exactly `runs`
abbrev pub IsSchema2Of : List Run → Trees → Type 0
IsSchema2Of runs trees = (db : Database) × IsDatabase db × (trees ≡ db.trees) × IsSchema2Database db runs

-- `IsSchema1Of runs trees`: `trees` are the B-trees of a database of schema 1 with exactly `runs`
abbrev pub IsSchema1Of : List Run → Trees → Type 0
IsSchema1Of runs trees = (db : Database) × IsDatabase db × (trees ≡ db.trees) × IsSchema1Database db runs

-- `IsAnySchemaOf runs trees`: `trees` are the B-trees of a database of schema 1 or 2 with exactly
-- `runs`
abbrev pub IsAnySchemaOf : List Run → Trees → Type 0
IsAnySchemaOf runs trees = IsSchema1Of runs trees ⊎ IsSchema2Of runs trees

-- `IsSchema2OfOne lists trees`: `trees` are the B-trees of a database of schema 2 with exactly the
-- runs of one of `lists`
abbrev pub IsSchema2OfOne : List (List Run) → Trees → Type 0
IsSchema2OfOne [] trees = ⊥
IsSchema2OfOne (runs ∷ others) trees = IsSchema2Of runs trees ⊎ IsSchema2OfOne others trees

-- `new_run runs total started`: the run that `ResultStore::begin` appends to `runs`. It has the
-- next number, `total` cases and the timestamp `started`, is unfinished, and has no entries.
abbrev pub new_run : List Run → ℕ → ℕ → Run
new_run runs total started = record { number = suc (length runs); started = started; total = total; finished = false; entries = [] }

-- `run_at runs number`: the run at the index `number` - 1 of the list `runs`. `None` if `number` is
-- 0 or greater than the number of runs.
abbrev pub run_at : List Run → ℕ → Option Run
run_at runs zero = None
run_at runs (suc k) = slice_get runs k

-- `insert_by_position e es`: the entries `es` with `e` inserted before the first entry with a
-- greater position
abbrev pub insert_by_position : Entry → List Entry → List Entry
insert_by_position e [] = e ∷ []
insert_by_position e (x ∷ es) = if nat_lt e.position x.position then e ∷ x ∷ es else x ∷ insert_by_position e es

-- `with_entry run e runs`: `runs` with entry `e` inserted into the first run with number `run`
abbrev pub with_entry : ℕ → Entry → List Run → List Run
with_entry run e [] = []
with_entry run e (r ∷ runs) = if r.number == run then record r { entries = insert_by_position e r.entries } ∷ runs else r ∷ with_entry run e runs

-- `finish run runs`: `runs` with the first run with number `run` marked as finished
abbrev pub finish : ℕ → List Run → List Run
finish run [] = []
finish run (r ∷ runs) = if r.number == run then record r { finished = true } ∷ runs else r ∷ finish run runs

-- `has_position position es`: `true` if one of the entries `es` has `position`
abbrev pub has_position : ℕ → List Entry → Bool
has_position position es = list_any (λ (e : Entry). e.position == position) es

-- `put_fault closed total position taken`: the first error that applies to a put at `position` into
-- a run of `total` cases, or `None` if the run accepts the entry. `closed`: the run is finished.
-- `taken`: the run has an entry at `position`.
abbrev pub put_fault : Bool → ℕ → ℕ → Bool → Option StoreFault
put_fault closed total position taken = if closed then Some RunClosed else if nat_le total position then Some BadPosition else if taken then Some RepeatedPosition else None

-- `put_refusal_of r e`: the first error that applies to a put of entry `e` into run `r`, or `None`
-- if the run accepts the entry. `r` is `None` if there is no such run; the error is then `NoRun`.
abbrev pub put_refusal_of : Option Run → Entry → Option StoreFault
put_refusal_of None e = Some NoRun
put_refusal_of (Some r) e = put_fault r.finished r.total e.position (has_position e.position r.entries)

-- `put_refusal runs run e`: the first error that applies to a put of entry `e` into run `run` of
-- `runs`, or `None` if the run accepts the entry
abbrev pub put_refusal : List Run → ℕ → Entry → Option StoreFault
put_refusal runs run e = put_refusal_of (run_at runs run) e

-- `finish_fault closed total count`: the first error that keeps a run of `total` cases with `count`
-- entries from being finished, or `None` if it can be finished. `closed`: the run is finished.
abbrev pub finish_fault : Bool → ℕ → ℕ → Option StoreFault
finish_fault closed total count = if closed then Some RunClosed else if nat_lt count total then Some Incomplete else None

-- `finish_refusal_of r`: the first error that keeps run `r` from being finished, or `None` if it
-- can be finished. `r` is `None` if there is no such run; the error is then `NoRun`.
abbrev pub finish_refusal_of : Option Run → Option StoreFault
finish_refusal_of None = Some NoRun
finish_refusal_of (Some r) = finish_fault r.finished r.total (length r.entries)

-- `finish_refusal runs run`: the first error that keeps run `run` of `runs` from being finished, or
-- `None` if it can be finished
abbrev pub finish_refusal : List Run → ℕ → Option StoreFault
finish_refusal runs run = finish_refusal_of (run_at runs run)
