-- Runs that are read and shown.
use Rattle.std.proofs.Common.{Option, Some, None, Result, Ok, Err, Bool, true, false, if◌then◌else◌, flat_map, ◌≡◌, ℕ, List, [], ◌∷◌, ◌++◌, refl, ap, sym, subst}
use Rattle.kt_cli.proofs.Common.{Emits, utf8, Entry, Kind, Run, shows_as, shows_both, case_bytes, junit_end, junit_bytes, junit_layout, StoreCall, Head, IsNumbered, Outline, Outputs, Pairs, RunHead, StoreFault, Details, Report, memory_line, store_fault_line, WritesReport, WritesStoredReport, outputs_reading, pairs_reading, run_of, PrintsReport, run_shown, pairs_shown, PrintsJunitReport, no_pairs, no_output, outputs_calls, pairs_calls, IsDateOf, entries_by_section, last_kind, title_line_after, text_bytes, text_layout, titled_lines, CallsStore, Date}
use Rattle.kt_report.specs.Layouts.{bytes_up_to}
use Rattle.kt_report.specs.declared.report_fault.ReportFault.{ReportFault}
use Rattle.kt_report.specs.declared.write_report_error.WriteReportError.{WriteReportError}
use Rattle.kt_base.specs.declared.emission.OutputFault.{OutputFault}
use Rattle.kt_cli.specs.declared.commands.report_error.ReportError.{ReportError}
use Rattle.kt_cli.specs.declared.commands.report_error.ReportError.TheVariants.{NoRun, NoRuns, Refused as Unshown}
use Rattle.kt_cli.specs.Reports.{RunIsNotShown, no_last_run, none_at_all, not_this_one, no_head, no_last, no_outline, run_shown as run_shown_junit, no_memory, no_outputs, no_output as no_junit_output}
use Rattle.kt_cli.specs.Inner.Shown.{IsMissing, not_shown_line, FindsRun, read, missing, ReadsRun}
use Rattle.kt_store.specs.declared.result_store.StoreSpec as keeping
use Rattle.kt_cli.proofs.StoredReports.{heading_shown}
use Rattle.kt_cli.proofs.StoreChains.{stored_both, stored_none}

module _ {R : Type 0} (keep : keeping.Ghosts R) (number : Option ℕ) where
  -- ---- reading

  pub reads_no_head : (old new : R) (fault : StoreFault) → CallsStore keep (Head number (Err fault) ∷ []) old new → ReadsRun keep number old new (Err (Unshown fault))
  reads_no_head old new fault p = record { calls = Head number (Err fault) ∷ []; stored = p; finds = missing _ (Unshown fault) (no_head number fault) }

  pub reads_missing : (old mid new : R) (why : ReportError) → CallsStore keep (Head number (Ok None) ∷ []) old mid → IsMissing keep number mid new why → ReadsRun keep number old new (Err why)
  reads_missing old mid new why p m = record {
    calls = Head number (Ok None) ∷ m.calls;
    stored = stored_both keep (Head number (Ok None) ∷ []) m.calls old mid new p m.stored;
    finds = m.finds;
  }

  pub reads_no_outline : (old mid new : R) (head : RunHead) (fault : StoreFault) → CallsStore keep (Head number (Ok (Some head)) ∷ []) old mid → IsNumbered number head
      → CallsStore keep (Outline head.number (Err fault) ∷ []) mid new → ReadsRun keep number old new (Err (Unshown fault))
  reads_no_outline old mid new head fault p n q = record {
    calls = Head number (Ok (Some head)) ∷ Outline head.number (Err fault) ∷ [];
    stored = stored_both keep (Head number (Ok (Some head)) ∷ []) (Outline head.number (Err fault) ∷ []) old mid new p q;
    finds = missing _ (Unshown fault) (no_outline number head fault n);
  }

  pub reads_run : (old mid new : R) (head : RunHead) (entries kept : List Entry) → kept ≡ entries → CallsStore keep (Head number (Ok (Some head)) ∷ []) old mid → IsNumbered number head
      → CallsStore keep (Outline head.number (Ok entries) ∷ []) mid new → ReadsRun keep number old new (Ok (run_of head kept))
  reads_run old mid new head entries kept k p n q = record {
    calls = Head number (Ok (Some head)) ∷ Outline head.number (Ok entries) ∷ [];
    stored = stored_both keep (Head number (Ok (Some head)) ∷ []) (Outline head.number (Ok entries) ∷ []) old mid new p q;
    finds = subst (λ (es : List Entry). FindsRun number (Head number (Ok (Some head)) ∷ Outline head.number (Ok entries) ∷ []) (Ok (run_of head es))) (sym k) (read head entries n);
  }

  -- ---- the error of a missing run

  -- the last run was requested, and the store has no runs
  pub missing_last : (old : R) → None ≡ number → IsMissing keep number old old NoRuns
  missing_last old none = subst (λ (o : Option ℕ). IsMissing keep o old old NoRuns) none (record { calls = []; stored = stored_none keep old; finds = missing (Head None (Ok None) ∷ []) NoRuns no_last_run })

  module _ (old new : R) (wanted : ℕ) (some : Some wanted ≡ number) where
    pub missing_all : CallsStore keep (Head None (Ok None) ∷ []) old new → IsMissing keep number old new NoRuns
    missing_all p = subst (λ (o : Option ℕ). IsMissing keep o old new NoRuns) some (record { calls = Head None (Ok None) ∷ []; stored = p; finds = missing _ NoRuns (none_at_all wanted) })

    pub missing_this : (last : RunHead) → CallsStore keep (Head None (Ok (Some last)) ∷ []) old new → IsMissing keep number old new (NoRun wanted)
    missing_this last p = subst (λ (o : Option ℕ). IsMissing keep o old new (NoRun wanted)) some (record { calls = Head None (Ok (Some last)) ∷ []; stored = p; finds = missing _ (NoRun wanted) (not_this_one wanted last) })

    pub missing_unread : (fault : StoreFault) → CallsStore keep (Head None (Err fault) ∷ []) old new → IsMissing keep number old new (Unshown fault)
    missing_unread fault p = subst (λ (o : Option ℕ). IsMissing keep o old new (Unshown fault)) some (record { calls = Head None (Err fault) ∷ []; stored = p; finds = missing _ (Unshown fault) (no_last wanted fault) })

-- a run that could not be found is not shown, and `why` has its error line
not_found : (number : Option ℕ) (calls : List StoreCall) (why : ReportError) → FindsRun number calls (Err why) → RunIsNotShown number calls (not_shown_line why)
not_found number calls why (missing cs other m) = m

module _ {R : Type 0} (keep : keeping.Ghosts R) (number : Option ℕ) where
  module _ (old new : R) (was now : Option (List ℕ)) (exit : ℕ) where
    -- a report did what its calls and its output show
    did : {M : Bool → List StoreCall → List ℕ → ℕ → Type 0} (calls : List StoreCall) (bytes : List ℕ) (intended_exit : ℕ) (f : Bool)
        → CallsStore keep calls old new
        → M f calls bytes intended_exit → Emits was now f bytes → exit ≡ (if f then 2 else intended_exit) → WritesReport keep old new was now exit M
    did calls bytes intended_exit f p is s e = record { calls = calls; stored = p; bytes = bytes; intended_exit = intended_exit; printed = record { failed = f; shows = s; exits = e }; is = is }

    -- a report without a run prints the error line
    pub did_not_show : (M : Bool → List StoreCall → List ℕ → ℕ → Type 0) (why : ReportError) (f : Bool)
        → ((cs : List StoreCall) (line : List ℕ) → RunIsNotShown number cs line → M f cs (utf8 line) 2)
        → ReadsRun keep number old new (Err why) → Emits was now f (utf8 (not_shown_line why)) → exit ≡ (if f then 2 else 2) → WritesReport keep old new was now exit M
    did_not_show M why f none r s e = did r.calls (utf8 (not_shown_line why)) 2 f r.stored (none r.calls (not_shown_line why) (not_found number r.calls why r.finds)) s e

    -- a report that read the run makes the calls for the run and then for its properties or outputs
    did_more : {M : Bool → List StoreCall → List ℕ → ℕ → Type 0} (mid : R) (calls asked : List StoreCall) (bytes : List ℕ) (intended_exit : ℕ) (f : Bool)
        → CallsStore keep calls old mid → CallsStore keep asked mid new → M f (calls ++ asked) bytes intended_exit → Emits was now f bytes → exit ≡ (if f then 2 else intended_exit)
        → WritesReport keep old new was now exit M
    did_more mid calls asked bytes intended_exit f p q is s e = did (calls ++ asked) bytes intended_exit f (stored_both keep calls asked old mid new p q) is s e

    module _ (kinds : List Kind) (verbose : Bool) where
      -- `Texts verbose`: the effect of `report`
      abbrev Texts : Bool → Type 0
      Texts v = WritesReport keep old new was now exit (λ failed. PrintsReport number kinds failed v)

      -- `StoredText run mid held answer`: the text report of `run` with properties was written from
      -- the store `mid`
      abbrev StoredText : Run → R → Option (List ℕ) → Result (Unit {0}) (WriteReportError StoreFault OutputFault) → Type 0
      StoredText run mid held answer =
          (date : Date) × IsDateOf run.started date
          × WritesStoredReport keep pairs_reading run.number (text_layout date true run) (entries_by_section kinds run.entries) mid new was held answer

      -- `report` prints the text without properties
      pub did_show : (calls : List StoreCall) (run : Run) (f : Bool) → verbose ≡ false → CallsStore keep calls old new → FindsRun number calls (Ok run)
          → ((date : Date) × IsDateOf run.started date × Emits was now f (text_bytes date kinds false run)) → exit ≡ (if f then 2 else 0) → Texts verbose
      did_show calls run f off p (read head outline e) d x = subst Texts (sym off) (did calls (text_bytes d.0 kinds false run) 0 f p (run_shown head outline d.0 e d.1) d.2 x)

      -- `report` prints the text with properties
      pub did_show_pairs : (mid : R) (calls : List StoreCall) (run : Run) → verbose ≡ true → CallsStore keep calls old mid → FindsRun number calls (Ok run) → StoredText run mid now (Ok tt) → exit ≡ 0 → Texts verbose
      did_show_pairs mid calls run on p (read head outline e) u x =
          subst Texts (sym on)
          (did_more mid calls (pairs_calls run.number u.2.ends.0) (bytes_up_to (text_layout u.0 true run) u.2.ends.0 []) 0 false p u.2.ends.2 (pairs_shown head outline u.2.ends.0 u.0 e u.1 u.2.ends.1) u.2.ends.3 x)

      -- `report` ends early if properties can't be read
      pub did_refuse_pairs : (mid : R) (calls : List StoreCall) (run : Run) (held : Option (List ℕ)) (f : Bool) (fault : StoreFault) → verbose ≡ true → CallsStore keep calls old mid
          → FindsRun number calls (Ok run) → StoredText run mid held (Err (Details fault)) → Emits held now f (utf8 (store_fault_line fault))
          → exit ≡ (if f then 2 else 2) → Texts verbose
      did_refuse_pairs mid calls run held f fault on p (read head outline e) u s x =
          subst Texts (sym on)
          (did_more mid calls (pairs_calls run.number u.2.ends.0 ++ Pairs run.number u.2.ends.2.position (Err fault) ∷ [])
          (titled_lines true None u.2.ends.0 ++ title_line_after (last_kind None u.2.ends.0) u.2.ends.2.verdict.kind ++ utf8 (store_fault_line fault)) 2 f p u.2.ends.4
          (no_pairs head outline u.2.ends.0 u.2.ends.1 u.2.ends.2 fault e u.2.ends.3) (shows_both u.2.ends.5 s) x)

      -- a report ends early if a write fails
      pub did_stop_pairs : (mid : R) (calls : List StoreCall) (run : Run) (fault : OutputFault) → verbose ≡ true → CallsStore keep calls old mid → FindsRun number calls (Ok run)
          → StoredText run mid now (Err (Report fault)) → exit ≡ 2 → Texts verbose
      did_stop_pairs mid calls run fault on p (read head outline e) u x =
          subst Texts (sym on)
          (did_more mid calls (pairs_calls run.number u.2.ends.0) (bytes_up_to (text_layout u.0 true run) u.2.ends.0 u.2.ends.1) 2 true p u.2.ends.3
          (no_output head outline u.2.ends.0 u.2.ends.1 u.0 refl e u.1 u.2.ends.2) u.2.ends.4 x)

    -- the effect of `report-junit`
    abbrev Junit : Type 0
    Junit = WritesReport keep old new was now exit (PrintsJunitReport number)

    -- `Stored run mid held answer`: the JUnit report of `run` was written from the store `mid`
    abbrev Stored : Run → R → Option (List ℕ) → Result (Unit {0}) (WriteReportError StoreFault ReportFault) → Type 0
    Stored run mid held answer = WritesStoredReport keep outputs_reading run.number (junit_layout run) run.entries mid new was held answer

    -- `report-junit` prints the JUnit report
    pub did_show_junit : (mid : R) (calls : List StoreCall) (run : Run) → CallsStore keep calls old mid → FindsRun number calls (Ok run) → Stored run mid now (Ok tt) → exit ≡ 0 → Junit
    did_show_junit mid calls run p (read head outline e) w x =
        did_more mid calls (outputs_calls run.number w.ends.0) (junit_bytes (record run { entries = w.ends.0 })) 0 false p w.ends.2 (run_shown_junit head outline w.ends.0 e w.ends.1)
        (shows_as (ap (λ (xs : List ℕ). xs ++ flat_map case_bytes w.ends.0 ++ junit_end) (heading_shown run w.ends.0 w.ends.1)) w.ends.3) x

    -- `report-junit` ends early if outputs can't be read
    pub did_refuse : (mid : R) (calls : List StoreCall) (run : Run) (held : Option (List ℕ)) (f : Bool) (fault : StoreFault) → CallsStore keep calls old mid → FindsRun number calls (Ok run)
        → Stored run mid held (Err (Details fault)) → Emits held now f (utf8 (store_fault_line fault)) → exit ≡ (if f then 2 else 2) → Junit
    did_refuse mid calls run held f fault p (read head outline e) w s x =
        did_more mid calls (outputs_calls run.number w.ends.0 ++ Outputs run.number w.ends.2.position (Err fault) ∷ []) (bytes_up_to (junit_layout run) w.ends.0 (w.ends.2 ∷ w.ends.1) ++ utf8 (store_fault_line fault)) 2 f p
        w.ends.4 (no_outputs head outline w.ends.0 w.ends.1 w.ends.2 fault e w.ends.3) (shows_both w.ends.5 s) x

    -- `report-junit` ends early if an allocation fails
    pub did_cut : (mid : R) (calls : List StoreCall) (run : Run) (held : Option (List ℕ)) (f : Bool) (fault : ReportFault) → CallsStore keep calls old mid → FindsRun number calls (Ok run)
        → Stored run mid held (Err (Report fault)) → Emits held now f (utf8 memory_line) → exit ≡ (if f then 2 else 2) → Junit
    did_cut mid calls run held f fault p (read head outline e) w s x =
        let h = w.ends.4.holds in
        did_more mid calls (outputs_calls run.number w.ends.0) (h.0 ++ utf8 memory_line) 2 f p w.ends.3 (no_memory head outline w.ends.0 w.ends.1 h.0 h.1 h.2 e w.ends.2 h.3)
        (shows_both {xs = h.0} (record { holds = h.4 }) s) x

    -- a report ends early if a write fails
    pub did_stop : (mid : R) (calls : List StoreCall) (run : Run) (fault : ReportFault) → CallsStore keep calls old mid → FindsRun number calls (Ok run) → Stored run mid now (Err (Report fault)) → exit ≡ 2 → Junit
    did_stop mid calls run fault p (read head outline e) w x =
        did_more mid calls (outputs_calls run.number w.ends.0) (bytes_up_to (junit_layout run) w.ends.0 w.ends.1) 2 true p w.ends.3
        (no_junit_output head outline w.ends.0 w.ends.1 refl e w.ends.2) w.ends.4 x
