-- The parts of runs and entries that a call returns: heads, outlines, pairs and outputs.
use Rattle.std.specs.Prelude.{ℕ, ◌≡◌, ◌==◌, List, [], Option, Some, None, IfSome, length, option_map, unwrap_or}
use Rattle.kt_base.specs.declared.entry.Output.{Output}
use Rattle.kt_store.specs.Runs.{run_at}
use Rattle.kt_store.specs.Types.{CaseOutputs, Entry, Run, RunHead, Variable, find}

-- `head_of r`: the head of run `r`, which is the run without its entries
abbrev pub head_of : Run → RunHead
head_of r = record { number = r.number; started = r.started; total = r.total; finished = r.finished }

-- `head_at runs number`: the head of the run in `runs` with the number `number`, or of the last run
-- if `number` is `None`. `None` if there is no such run.
abbrev pub head_at : List Run → Option ℕ → Option RunHead
head_at runs number = option_map head_of (run_at runs (unwrap_or number (length runs)))

-- `IsNumbered number head`: `number` is `None`, or the number of `head`
abbrev pub IsNumbered : Option ℕ → RunHead → Type 0
IsNumbered number head = IfSome number (λ n. head.number ≡ n)

-- `no_output`: the output of a body or a cleanup whose standard output and standard error are empty
abbrev pub no_output : Output
no_output = record { out = []; err = [] }

-- `without_outputs e`: entry `e` with empty outputs
abbrev pub without_outputs : Entry → Entry
without_outputs e = record e { body = no_output; cleanup = no_output }

-- `without_pairs e`: entry `e` without its properties
abbrev pub without_pairs : Entry → Entry
without_pairs e = record e { meta = [] }

-- `outline_entry e`: entry `e` without its properties and outputs
abbrev pub outline_entry : Entry → Entry
outline_entry e = without_outputs (without_pairs e)

-- `pairs_of e`: the properties of entry `e`, or none if `e` is `None`
abbrev pub pairs_of : Option Entry → List Variable
pairs_of None = []
pairs_of (Some e) = e.meta

-- `outputs_of e`: the outputs of the body and the cleanup of entry `e`
abbrev pub outputs_of : Entry → CaseOutputs
outputs_of e = record { body = e.body; cleanup = e.cleanup }

-- `entry_at r position`: the first entry of run `r` at `position`, or `None` if `r` is `None` or
-- has no such entry
abbrev pub entry_at : Option Run → ℕ → Option Entry
entry_at None position = None
entry_at (Some r) position = find (λ (e : Entry). e.position == position) r.entries
