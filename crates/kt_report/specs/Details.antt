-- The details of entries, which are their properties or their outputs. A report reads them one
-- entry at a time.
use Rattle.std.specs.Prelude.{ℕ, Bool, true, false, List, [], ◌∷◌, ◌++◌, ◌≡◌, Option, Some, None, Result, Ok, Err}
use Rattle.kt_base.specs.Emits.{Emits}
use Rattle.kt_base.specs.declared.entry.Entry.{Entry}
use Rattle.kt_report.specs.Cases.{with_outputs}
use Rattle.kt_base.specs.declared.variable.Variable.{Variable}
use Rattle.kt_report.specs.Pairs.{with_properties}
use Rattle.kt_report.specs.Layouts.{Layout, bytes_up_to}
use Rattle.kt_report.specs.declared.details.EntryOutputs.{EntryOutputs}
use Rattle.kt_report.specs.declared.write_report_error.WriteReportError.{WriteReportError}
use Rattle.kt_report.specs.declared.write_report_error.WriteReportError.TheVariants.{Details, Report}

-- `with_outputs_read e answer`: the entry `e` after a read of its outputs with the result `answer`.
-- It has the outputs in `answer`, or is `e` itself if `answer` has none. If the read failed, the
-- result is its error.
abbrev pub with_outputs_read : {F : Type 0} → Entry → Result (Option EntryOutputs) F → Result Entry F
with_outputs_read e (Ok None) = Ok e
with_outputs_read e (Ok (Some o)) = Ok (with_outputs e o.body o.cleanup)
with_outputs_read e (Err fault) = Err fault

-- `with_pairs_read e answer`: the entry `e` after a read of its properties with the result
-- `answer`. It has the properties in `answer`, or is `e` itself if `answer` has none. If the read
-- failed, the result is its error.
abbrev pub with_pairs_read : {F : Type 0} → Entry → Result (Option (List Variable)) F → Result Entry F
with_pairs_read e (Ok None) = Ok e
with_pairs_read e (Ok (Some pairs)) = Ok (with_properties e pairs)
with_pairs_read e (Err fault) = Err fault

-- `reads_nothing old e answer new`: the relation of a read that reads nothing: its result `answer`
-- is the entry `e` itself, and the state `new` is `old`.
abbrev pub reads_nothing : {S F : Type 0} → S → Entry → Result Entry F → S → Type 0
reads_nothing old e answer new = (answer ≡ Ok e) × (new ≡ old)

-- `reads_if_verbose verbose reads`: the relation `reads` of a read of properties if `verbose` is
-- true. Otherwise, it is `reads_nothing`, the relation of a read that reads nothing.
abbrev pub reads_if_verbose : {S F : Type 0} → Bool → (S → Entry → Result Entry F → S → Type 0) → S → Entry → Result Entry F → S → Type 0
reads_if_verbose true reads = reads
reads_if_verbose false reads = reads_nothing

module _ {S F : Type 0} (reads : S → Entry → Result Entry F → S → Type 0) where
  -- `ReadsDetails old due shown new`: reading the details (properties or outputs) of each entry of
  -- `due`, in order, leads from the state `old` to the state `new`. `shown` are these entries with
  -- the details that were read. `reads` is the relation of one read.
  pub data ReadsDetails : S → List Entry → List Entry → S → Type 0 where
    none : (s : S) → ReadsDetails s [] [] s
    more : (e full : Entry) (due shown : List Entry) (old mid new : S) → reads old e (Ok full) mid → ReadsDetails mid due shown new → ReadsDetails old (e ∷ due) (full ∷ shown) new

  module _ {E : Type 0} (layout : Layout) (due : List Entry) (old : S) (was now : Option (List ℕ)) (new : S) where
    -- `IsReportResult answer`: `answer` is the result of writing a report of the entries `due`,
    -- with the properties or outputs that were read for each entry. The report has the layout
    -- `layout`. On success, the whole report was written. After a failed read, the entries before
    -- the failure were written. After a failed write, a proper prefix of the report was written.
    -- The reads lead from the state `old` to the state `new`, and the writes change the writer's
    -- contents from `was` to `now`. `reads` is the relation of one read.
    abbrev pub IsReportResult : Result (Unit {0}) (WriteReportError F E) → Type 0
    IsReportResult (Ok done) = (shown : List Entry) × ReadsDetails old due shown new × Emits was now false (bytes_up_to layout shown [])
    IsReportResult (Err (Details fault)) =
        (read rest shown : List Entry) × (e : Entry) × (mid : S) × (due ≡ read ++ e ∷ rest) × ReadsDetails old read shown mid × reads mid e (Err fault) new
        × Emits was now false (bytes_up_to layout shown (e ∷ rest))
    IsReportResult (Err (Report fault)) = (read rest shown : List Entry) × (due ≡ read ++ rest) × ReadsDetails old read shown new × Emits was now true (bytes_up_to layout shown rest)

    -- `WritesWithDetails answer`: a record of the fact `IsReportResult answer`: a report was
    -- written with the properties or outputs of its entries, or `answer` is the error that ended
    -- the report.
    pub record WritesWithDetails (answer : Result (Unit {0}) (WriteReportError F E)) : Type 0 where
      pub ends : IsReportResult answer
