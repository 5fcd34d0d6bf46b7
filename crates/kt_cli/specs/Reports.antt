-- Output of the reports.
use Rattle.std.specs.Prelude.{ℕ, Bool, true, false, List, [], ◌∷◌, ◌++◌, ◌≡◌, Option, Some, None, Ok, Err, codes, map}
use Rattle.kt_cli.specs.Types.{Date, Entry, Head, IsDateOf, Kind, Outline, Outputs, Pairs, Run, RunHead, StoreCall, StoreFault, entries_by_section, decimal, last_kind, title_line_after, titled_lines, utf8}
use Rattle.kt_report.specs.Junits.{junit_bytes, junit_layout}
use Rattle.kt_report.specs.Layouts.{bytes_up_to}
use Rattle.kt_report.specs.Texts.{text_bytes, text_layout}
use Rattle.kt_store.specs.Heads.{IsNumbered, outputs_of, without_outputs, without_pairs}
use Rattle.kt_cli.specs.FaultLines.{memory_line, store_fault_line}

-- The error line of a report on a store without runs.
abbrev pub no_runs_line : List ℕ
no_runs_line = codes "kyua: E: no runs\n"

-- `no_run_line number`: the error line of a report on a store that has runs, but no run `number`.
abbrev pub no_run_line : ℕ → List ℕ
no_run_line number = codes "kyua: E: no run " ++ decimal number ++ codes "\n"

-- `RunIsNotShown number calls line`: by the results of the store calls `calls`, there is no run
-- `number`, or no last run if `number` is `None`, or a call failed. `line` is the error line of the
-- report. If there is no run `number`, the last run's head is read too.
pub data RunIsNotShown : Option ℕ → List StoreCall → List ℕ → Type 0 where
  no_last_run : RunIsNotShown None (Head None (Ok None) ∷ []) no_runs_line
  none_at_all : (number : ℕ) → RunIsNotShown (Some number) (Head (Some number) (Ok None) ∷ Head None (Ok None) ∷ []) no_runs_line
  not_this_one : (number : ℕ) (last : RunHead) → RunIsNotShown (Some number) (Head (Some number) (Ok None) ∷ Head None (Ok (Some last)) ∷ []) (no_run_line number)
  no_head : (number : Option ℕ) (fault : StoreFault) → RunIsNotShown number (Head number (Err fault) ∷ []) (store_fault_line fault)
  no_last : (number : ℕ) (fault : StoreFault) → RunIsNotShown (Some number) (Head (Some number) (Ok None) ∷ Head None (Err fault) ∷ []) (store_fault_line fault)
  no_outline : (number : Option ℕ) (head : RunHead) (fault : StoreFault) → IsNumbered number head
      → RunIsNotShown number (Head number (Ok (Some head)) ∷ Outline head.number (Err fault) ∷ []) (store_fault_line fault)

-- `run_of head entries`: the run with the head `head` and the entries `entries`.
abbrev pub run_of : RunHead → List Entry → Run
run_of head entries = record { number = head.number; started = head.started; total = head.total; finished = head.finished; entries = entries }

-- `AreEqualExceptPairs xs ys`: the entries `xs` and `ys` are equal except for their properties.
abbrev pub AreEqualExceptPairs : List Entry → List Entry → Type 0
AreEqualExceptPairs xs ys = map without_pairs xs ≡ map without_pairs ys

-- `pairs_calls number entries`: the calls that read the properties of each of `entries` of run
-- `number`, with the properties of the entry as the result.
abbrev pub pairs_calls : ℕ → List Entry → List StoreCall
pairs_calls number entries = map (λ (e : Entry). Pairs number e.position (Ok e.meta)) entries

-- `AreEqualExceptOutputs xs ys`: the entries `xs` and `ys` are equal except for their outputs.
abbrev pub AreEqualExceptOutputs : List Entry → List Entry → Type 0
AreEqualExceptOutputs xs ys = map without_outputs xs ≡ map without_outputs ys

-- `outputs_calls number entries`: the calls that read the outputs of each of `entries` of run
-- `number`, with the outputs of the entry as the result.
abbrev pub outputs_calls : ℕ → List Entry → List StoreCall
outputs_calls number entries = map (λ (e : Entry). Outputs number e.position (Ok (outputs_of e))) entries

-- `PrintsReport number kinds failed verbose calls bytes exit`: by the store calls `calls`,
-- `report` prints `bytes` and has the exit status `exit`. It shows run `number`, or the last run if
-- `number` is `None`, with the entries whose verdicts are of the kinds `kinds`. No outputs are
-- read. If `verbose` is true, the properties of each entry are read before its line is written, and
-- else no properties are read. If a call for properties fails, its error line follows the lines of
-- the entries before. If the entry is the first of its section, the title of the section precedes
-- the error line. If a write failed (`failed`), no further properties are read.
pub data PrintsReport (number : Option ℕ) (kinds : List Kind) (failed : Bool) : Bool → List StoreCall → List ℕ → ℕ → Type 0 where
  run_shown : (head : RunHead) (outline : List Entry) (date : Date) → IsNumbered number head → IsDateOf head.started date
      → PrintsReport number kinds failed false (Head number (Ok (Some head)) ∷ Outline head.number (Ok outline) ∷ []) (text_bytes date kinds false (run_of head outline)) 0
  pairs_shown : (head : RunHead) (outline shown : List Entry) (date : Date) → IsNumbered number head
      → IsDateOf head.started date
      → AreEqualExceptPairs shown (entries_by_section kinds outline)
      → PrintsReport number kinds failed true (Head number (Ok (Some head)) ∷ Outline head.number (Ok outline) ∷ pairs_calls head.number shown) (bytes_up_to (text_layout date true (run_of head outline)) shown []) 0
  not_shown : (verbose : Bool) (calls : List StoreCall) (line : List ℕ) → RunIsNotShown number calls line → PrintsReport number kinds failed verbose calls (utf8 line) 2
  no_pairs : (head : RunHead) (outline shown rest : List Entry) (e : Entry) (fault : StoreFault)
      → IsNumbered number head
      → AreEqualExceptPairs (shown ++ e ∷ rest) (entries_by_section kinds outline)
      → PrintsReport number kinds failed true (Head number (Ok (Some head)) ∷ Outline head.number (Ok outline) ∷ (pairs_calls head.number shown ++ Pairs head.number e.position (Err fault) ∷ []))
      (titled_lines true None shown ++ title_line_after (last_kind None shown) e.verdict.kind ++ utf8 (store_fault_line fault)) 2
  no_output : (head : RunHead) (outline shown rest : List Entry) (date : Date) → failed ≡ true
      → IsNumbered number head → IsDateOf head.started date
      → AreEqualExceptPairs (shown ++ rest) (entries_by_section kinds outline)
      → PrintsReport number kinds failed true (Head number (Ok (Some head)) ∷ Outline head.number (Ok outline) ∷ pairs_calls head.number shown)
      (bytes_up_to (text_layout date true (run_of head outline)) shown rest) 2

-- `PrintsJunitReport number failed calls bytes exit`: by the store calls `calls`, `report-junit`
-- prints `bytes` and has the exit status `exit`. It shows run `number`, or the last run if `number`
-- is `None`. The outputs of each entry are read, but no properties. If a call for the outputs of an
-- entry fails, its error line follows the cases of the entries before. If an allocation fails, the
-- out-of-memory line follows a proper prefix of the report. If a write failed (`failed`), no
-- further outputs are read.
pub data PrintsJunitReport (number : Option ℕ) (failed : Bool) : List StoreCall → List ℕ → ℕ → Type 0 where
  run_shown : (head : RunHead) (outline shown : List Entry) → IsNumbered number head → AreEqualExceptOutputs shown outline
      → PrintsJunitReport number failed (Head number (Ok (Some head)) ∷ Outline head.number (Ok outline) ∷ outputs_calls head.number shown) (junit_bytes (run_of head shown)) 0
  not_shown : (calls : List StoreCall) (line : List ℕ) → RunIsNotShown number calls line → PrintsJunitReport number failed calls (utf8 line) 2
  no_outputs : (head : RunHead) (outline shown rest : List Entry) (e : Entry) (fault : StoreFault)
      → IsNumbered number head
      → AreEqualExceptOutputs (shown ++ e ∷ rest) outline
      → PrintsJunitReport number failed (Head number (Ok (Some head)) ∷ Outline head.number (Ok outline) ∷ (outputs_calls head.number shown ++ Outputs head.number e.position (Err fault) ∷ []))
      (bytes_up_to (junit_layout (run_of head outline)) shown (e ∷ rest) ++ utf8 (store_fault_line fault)) 2
  no_memory : (head : RunHead) (outline shown rest : List Entry) (front back : List ℕ) (next : ℕ)
      → IsNumbered number head
      → AreEqualExceptOutputs (shown ++ rest) outline → bytes_up_to (junit_layout (run_of head outline)) shown rest ≡ front ++ next ∷ back
      → PrintsJunitReport number failed (Head number (Ok (Some head)) ∷ Outline head.number (Ok outline) ∷ outputs_calls head.number shown) (front ++ utf8 memory_line) 2
  no_output : (head : RunHead) (outline shown rest : List Entry) → failed ≡ true → IsNumbered number head
      → AreEqualExceptOutputs (shown ++ rest) outline
      → PrintsJunitReport number failed (Head number (Ok (Some head)) ∷ Outline head.number (Ok outline) ∷ outputs_calls head.number shown)
      (bytes_up_to (junit_layout (run_of head outline)) shown rest) 2
