-- The steps of a JUnit report over details.
use Rattle.std.proofs.Common.{Option, Ok, Err, true, false, Result, get_or, take, drop, flat_map, ◌≡◌, ◌<◌, ◌≤◌, ◌+◌, ℕ, List, [], ◌∷◌, ◌++◌, length, refl, ap, ◌∙◌, sym, subst, append-nil, append_assoc, take-append-drop}
use Rattle.kt_report.proofs.Common.{Emits, shows_as, shows_both, shows_more, junit_start, case_bytes, junit_end, junit_layout, drop_more, take_all, take_more, flat_map_more}
use Rattle.kt_base.specs.declared.entry.Entry.{Entry}
use Rattle.kt_base.specs.declared.entry.Run.{Run}
use Rattle.kt_report.proofs.Fillings.{filled_both, filled_one}
use Rattle.kt_report.proofs.Layouts.{cut_later}
use Rattle.kt_report.specs.Details.{ReadsDetails, WritesWithDetails}
use Rattle.kt_report.specs.Details.{none}
use Rattle.kt_report.specs.Inner.Steps.{WritesEntry, WritesFirst}
use Rattle.kt_report.specs.declared.report_fault.ReportFault.{ReportFault}
use Rattle.kt_report.specs.declared.write_report_error.WriteReportError.{WriteReportError}
use Rattle.kt_report.specs.declared.write_report_error.WriteReportError.TheVariants.{Details, Report}

module _ {S F : Type 0} (reads : S → Entry → Result Entry F → S → Type 0) (run : Run) (old : S) (was : Option (List ℕ)) where
  -- `Written due now new`: the start of the report and the cases of `due` were written.
  abbrev pub Written : List Entry → Option (List ℕ) → S → Type 0
  Written due now new = WritesFirst reads old was now new (junit_layout run) due

  -- `Ends now new answer`: the report was written, or `answer` is the error that ended it.
  abbrev pub Ends : Option (List ℕ) → S → Result (Unit {0}) (WriteReportError F ReportFault) → Type 0
  Ends now new answer = WritesWithDetails reads (junit_layout run) run.entries old was now new answer

  -- After the start of the report, no case is written.
  pub writes_none : (now : Option (List ℕ)) → Emits was now false (junit_start run) → Written [] now old
  writes_none now s = ([], none old, shows_as (sym (append-nil (junit_start run))) s)

  -- The report ends early if the start of the report can't be written.
  pub heading_cut : (now : Option (List ℕ)) (fault : ReportFault) → Emits was now true (junit_start run) → Ends now old (Err (Report fault))
  heading_cut now fault s = record { ends = ([], run.entries, [], refl, none old, cut_later (junit_layout run) [] run.entries (shows_more [] s)) }

  module _ (mid new : S) (held now : Option (List ℕ)) (xs : List Entry) (same : xs ≡ run.entries) (i : ℕ) (e d : Entry) (low : i < length xs) (is : e ≡ get_or xs i d)
      (w : Written (take i run.entries) held mid) where
    within : i < length run.entries
    within = subst (λ (es : List Entry). i < length es) same low

    is_unescaped : get_or run.entries i d ≡ e
    is_unescaped = sym (subst (λ (es : List Entry). e ≡ get_or es i d) same is)

    parts : run.entries ≡ take i run.entries ++ e ∷ drop (i + 1) run.entries
    parts = sym (take-append-drop i run.entries) ∙ ap (λ (l : List Entry). take i run.entries ++ l) (drop_more run.entries i d within ∙ ap (λ (x : Entry). x ∷ drop (i + 1) run.entries) is_unescaped)

    next : take (i + 1) run.entries ≡ take i run.entries ++ e ∷ []
    next = take_more run.entries i d within ∙ ap (λ (x : Entry). take i run.entries ++ x ∷ []) is_unescaped

    -- The report ends early if a case can't be read or written.
    pub case_cut : (stop : WriteReportError F ReportFault) → WritesEntry reads mid held now new case_bytes e (Err stop) → Ends now new (Err stop)
    case_cut (Details fault) c =
        record {
          ends = (
            take i run.entries,
            drop (i + 1) run.entries,
            w.0,
            e,
            mid,
            parts,
            w.1,
            c.ends.0,
            subst (λ (x : Option (List ℕ)). Emits was x false (junit_start run ++ flat_map case_bytes w.0 ++ [])) (sym c.ends.1) (shows_as (sym (append-nil (junit_start run ++ flat_map case_bytes w.0))) w.2),
          );
        }
    case_cut (Report fault) c =
        record {
          ends = (
            take i run.entries ++ e ∷ [],
            drop (i + 1) run.entries,
            w.0 ++ c.ends.0 ∷ [],
            parts ∙ sym (append_assoc (take i run.entries) (e ∷ []) (drop (i + 1) run.entries)),
            filled_both reads w.1 (filled_one reads c.ends.1),
            cut_later (junit_layout run) (w.0 ++ c.ends.0 ∷ []) (drop (i + 1) run.entries) (shows_as (flat_map_more case_bytes (junit_start run) w.0 c.ends.0) (shows_both w.2 c.ends.3)),
          );
        }

    -- After one more case, one more case is written.
    pub writes_next : WritesEntry reads mid held now new {E = ReportFault} case_bytes e (Ok tt) → Written (take (i + 1) run.entries) now new
    writes_next c =
        subst (λ (due : List Entry). Written due now new) (sym next)
        (w.0 ++ c.ends.0 ∷ [], filled_both reads w.1 (filled_one reads c.ends.1), shows_as (flat_map_more case_bytes (junit_start run) w.0 c.ends.0) (shows_both w.2 c.ends.3))

  module _ (new : S) (held now : Option (List ℕ)) (xs : List Entry) (same : xs ≡ run.entries) (i : ℕ) (all : length xs ≤ i) (w : Written (take i run.entries) held new) where
    whole : take i run.entries ≡ run.entries
    whole = take_all i run.entries (subst (λ (es : List Entry). length es ≤ i) same all)

    -- The report ends early if its end can't be written.
    pub end_cut : (fault : ReportFault) → Emits held now true junit_end → Ends now new (Err (Report fault))
    end_cut fault s = record { ends = (take i run.entries, [], w.0, sym (append-nil (take i run.entries) ∙ whole), w.1, shows_both w.2 s) }

    -- After its end, the whole report is written.
    pub junit_written : Emits held now false junit_end → Ends now new (Ok tt)
    junit_written s = record { ends = (w.0, subst (λ (es : List Entry). ReadsDetails reads old es w.0 new) whole w.1, shows_both w.2 s) }
