-- Reports whose details are read from a results store.
use Rattle.std.proofs.Common.{Option, Result, Ok, Err, false, ◌≡◌, ℕ, List, [], ◌∷◌, ◌++◌, map, refl, ap, ap₂, ◌∙◌, sym, subst}
use Rattle.kt_cli.proofs.Common.{Entry, Run, StoreFault, junit_start, without_outputs, AreEqualExceptOutputs, Reading, ReadsEntry, WritesStoredReport, CallsStore}
use Rattle.kt_report.proofs.HiddenParts.{same_heading}
use Rattle.kt_report.specs.Details.{ReadsDetails, WritesWithDetails, none, more}
use Rattle.kt_report.specs.Layouts.{Layout}
use Rattle.kt_report.specs.declared.write_report_error.WriteReportError.{WriteReportError}
use Rattle.kt_report.specs.declared.write_report_error.WriteReportError.TheVariants.{Details, Report}
use Rattle.kt_store.specs.declared.result_store.StoreSpec as keeping
use Rattle.kt_cli.proofs.StoreChains.{stored_none, stored_both}
use Rattle.std.proofs.lemmas.List.{map-append}

-- The start of the report doesn't depend on the outputs of the entries
pub heading_shown : (run : Run) (shown : List Entry) → AreEqualExceptOutputs shown run.entries → junit_start run ≡ junit_start (record run { entries = shown })
heading_shown run shown same =
    sym (same_heading false without_outputs (λ e. refl) run) ∙ ap (λ (es : List Entry). junit_start (record run { entries = es })) (sym same)
    ∙ same_heading false without_outputs (λ e. refl) (record run { entries = shown })

module _ {S R : Type 0} (keep : keeping.Ghosts R) (reading : Reading) (reads : S → Entry → Result Entry StoreFault → S → Type 0) (store : S → R) (name number : S → ℕ)
    (each : (s t : S) (e : Entry) (answer : Result Entry StoreFault) → reads s e answer t → (name t ≡ name s) × (number t ≡ number s) × ReadsEntry keep reading (number s) e (store s) answer (store t)) where
  -- `AllRead due shown s t`: from the details `s` to `t`, the part of each of `due` was read, which
  -- gave `shown`
  pub record AllRead (due shown : List Entry) (s t : S) : Type 0 where
    pub same_store : name t ≡ name s
    pub same_number : number t ≡ number s
    pub differ : map reading.without shown ≡ map reading.without due
    pub stored : CallsStore keep (map (reading.call (number s)) shown) (store s) (store t)

  all_read : {s t : S} {due shown : List Entry} → ReadsDetails reads s due shown t → AllRead due shown s t
  all_read (none s) = record { same_store = refl; same_number = refl; differ = refl; stored = stored_none keep (store s) }
  all_read (more e full due shown s m t one rest) =
      let p = each s m e (Ok full) one in
      let q = p.2.ends in
      let r = all_read rest in
      record {
        same_store = r.same_store ∙ p.0;
        same_number = r.same_number ∙ p.1;
        differ = ap₂ (λ (x : Entry) (es : List Entry). x ∷ es) q.0 r.differ;
        stored = stored_both keep (reading.call (number s) full ∷ []) (map (reading.call (number s)) shown) (store s) (store m) (store t) q.1
            (subst (λ (i : ℕ). CallsStore keep (map (reading.call i) shown) (store m) (store t)) p.1 r.stored);
      }

  -- entries that follow differ from none
  differ_before : (read shown rest : List Entry) → map reading.without shown ≡ map reading.without read → map reading.without (shown ++ rest) ≡ map reading.without (read ++ rest)
  differ_before read shown rest d = map-append reading.without shown rest ∙ ap (λ (es : List Entry). es ++ map reading.without rest) d ∙ sym (map-append reading.without read rest)

  -- a report over details that are read from a store makes the calls for them
  pub report_stored : {E : Type 0} {layout : Layout} {due : List Entry} {s t : S} {was now : Option (List ℕ)} (answer : Result (Unit {0}) (WriteReportError StoreFault E)) → WritesWithDetails reads layout due s was now t answer
      → (name t ≡ name s) × WritesStoredReport keep reading (number s) layout due (store s) (store t) was now answer
  report_stored (Ok done) w = let a = all_read w.ends.1 in (a.same_store, record { ends = (w.ends.0, a.differ, a.stored, w.ends.2) })
  report_stored {s = s} {t = t} (Err (Details fault)) w =
      let read = w.ends.0 in
      let rest = w.ends.1 in
      let shown = w.ends.2 in
      let e = w.ends.3 in
      let m = w.ends.4 in
      let a = all_read w.ends.6 in
      let f = each m t e (Err fault) w.ends.7 in (
        f.0 ∙ a.same_store,
        record {
          ends = (
            shown,
            rest,
            e,
            differ_before read shown (e ∷ rest) a.differ ∙ ap (map reading.without) (sym w.ends.5),
            stored_both keep (map (reading.call (number s)) shown) (reading.failed (number s) e fault ∷ []) (store s) (store m) (store t) a.stored
                (subst (λ (i : ℕ). CallsStore keep (reading.failed i e fault ∷ []) (store m) (store t)) a.same_number f.2.ends),
            w.ends.8,
          );
        },
      )
  report_stored (Err (Report fault)) w =
      let a = all_read w.ends.4 in
      (a.same_store, record { ends = (w.ends.2, w.ends.1, differ_before w.ends.0 w.ends.2 w.ends.1 a.differ ∙ ap (map reading.without) (sym w.ends.3), a.stored, w.ends.5) })
