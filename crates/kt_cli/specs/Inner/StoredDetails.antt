-- Details of entries, as a report reads them from a results store.
use Rattle.std.specs.Prelude.{ℕ, true, false, List, [], ◌∷◌, ◌++◌, ◌≡◌, Option, Result, Ok, Err, map}
use Rattle.kt_cli.specs.Types.{Entry, Outputs, Pairs, Emits, StoreCall, StoreFault}
use Rattle.kt_report.specs.Layouts.{Layout, bytes_up_to}
use Rattle.kt_report.specs.declared.write_report_error.WriteReportError.{WriteReportError}
use Rattle.kt_report.specs.declared.write_report_error.WriteReportError.TheVariants.{Details, Report}
use Rattle.kt_store.specs.Heads.{outputs_of, without_outputs, without_pairs}
use Rattle.kt_store.specs.declared.result_store.StoreSpec as keeping
use Rattle.kt_cli.specs.Stores.{CallsStore}

-- `Reading`: how a report reads one part of an entry from the store: its properties or its outputs.
-- `without e` is the entry `e` without the part. `call number e` is the successful call for the
-- entry `e` of run `number`. `failed number e fault` is this call if it fails with `fault`.
pub record Reading : Type 0 where
  pub without : Entry → Entry
  pub call : ℕ → Entry → StoreCall
  pub failed : ℕ → Entry → StoreFault → StoreCall

-- `pairs_reading`: how a report reads the properties of an entry from the store.
abbrev pub pairs_reading : Reading
pairs_reading = record { without = without_pairs; call = λ number e. Pairs number e.position (Ok e.meta); failed = λ number e fault. Pairs number e.position (Err fault) }

-- `outputs_reading`: how a report reads the outputs of an entry from the store.
abbrev pub outputs_reading : Reading
outputs_reading = record { without = without_outputs; call = λ number e. Outputs number e.position (Ok (outputs_of e)); failed = λ number e fault. Outputs number e.position (Err fault) }

module _ {R : Type 0} (r : keeping.Ghosts R) (reading : Reading) (number : ℕ) where
  -- `IsPartResult r reading number e old answer new`: one part of the entry `e` of run `number` was
  -- read, and the call led a store from `old` to `new`. `reading` describes the part: properties or
  -- outputs. `answer` is the entry with the part, or the error. `r` is the specification of the
  -- store.
  abbrev pub IsPartResult : Entry → R → Result Entry StoreFault → R → Type 0
  IsPartResult e old (Ok full) new = (reading.without full ≡ reading.without e) × CallsStore r (reading.call number full ∷ []) old new
  IsPartResult e old (Err fault) new = CallsStore r (reading.failed number e fault ∷ []) old new

  -- `ReadsEntry r reading number e old answer new`: `IsPartResult` as a record. One part of the
  -- entry `e` of run `number` was read with the result `answer`, and the call led a store from
  -- `old` to `new`. `reading` describes the part: properties or outputs. `r` is the specification
  -- of the store.
  pub record ReadsEntry (e : Entry) (old : R) (answer : Result Entry StoreFault) (new : R) : Type 0 where
    pub ends : IsPartResult e old answer new

  module _ {E : Type 0} (layout : Layout) (due : List Entry) (store after : R) (was now : Option (List ℕ)) where
    -- `IsStoredReportResult r reading number layout due store after was now answer`: the report on
    -- the entries `due` of run `number` was written by `layout`. `answer` is a success, or the
    -- error that ended the report. One part of each entry, which `reading` describes, was read
    -- before the entry was written. The reads led the store from `store` to `after`. `was` and
    -- `now` are the contents of the writer before and after, and `r` is the specification of the
    -- store.
    abbrev pub IsStoredReportResult : Result (Unit {0}) (WriteReportError StoreFault E) → Type 0
    IsStoredReportResult (Ok done) =
        (shown : List Entry) × (map reading.without shown ≡ map reading.without due) × CallsStore r (map (reading.call number) shown) store after
        × Emits was now false (bytes_up_to layout shown [])
    IsStoredReportResult (Err (Details fault)) =
        (shown rest : List Entry) × (e : Entry) × (map reading.without (shown ++ e ∷ rest) ≡ map reading.without due)
        × CallsStore r (map (reading.call number) shown ++ reading.failed number e fault ∷ []) store after × Emits was now false (bytes_up_to layout shown (e ∷ rest))
    IsStoredReportResult (Err (Report fault)) =
        (shown rest : List Entry) × (map reading.without (shown ++ rest) ≡ map reading.without due) × CallsStore r (map (reading.call number) shown) store after
        × Emits was now true (bytes_up_to layout shown rest)

    -- `WritesStoredReport r reading number layout due store after was now answer`:
    -- `IsStoredReportResult` as a record. The report on the entries `due` of run `number` was
    -- written by `layout`, with the result `answer`. One part of each entry, which `reading`
    -- describes, was read before the entry was written. The reads led the store from `store` to
    -- `after`. `was` and `now` are the contents of the writer before and after, and `r` is the
    -- specification of the store.
    pub record WritesStoredReport (answer : Result (Unit {0}) (WriteReportError StoreFault E)) : Type 0 where
      pub ends : IsStoredReportResult answer
