-- A report over the details that entries have themselves.
use Rattle.std.proofs.Common.{Option, Some, None, Ok, Err, Bool, true, false, Result, flat_map, ◌≡◌, ℕ, List, [], ◌∷◌, ◌++◌, refl, ap, ap₂, ◌∙◌, sym, append-nil, append_assoc}
use Rattle.kt_report.proofs.Common.{Date, Kind, Emits, shows_as, Layout, bytes_up_to, junit_start, case_bytes, junit_layout, entry_bytes, entries_by_section, last_kind, title_line_after, summary, text_bytes, text_layout, titled_lines, flat_map-append, false≢true}
use Rattle.kt_report.proofs.Layouts.{Extends, cut_whole}
use Rattle.kt_report.proofs.TitledLines.{by_section_is, titled_lines-append}
use Rattle.kt_base.specs.declared.entry.Entry.{Entry}
use Rattle.kt_base.specs.declared.entry.Run.{Run}
use Rattle.kt_report.specs.Details.{ReadsDetails, WritesWithDetails, reads_if_verbose, reads_nothing}
use Rattle.kt_report.specs.Details.{none, more}
use Rattle.kt_report.specs.declared.write_report_error.WriteReportError.{WriteReportError}
use Rattle.kt_report.specs.declared.write_report_error.WriteReportError.TheVariants.{Details, Report}

abbrev is_read : {F : Type 0} → Result Entry F → Bool
is_read (Ok e) = true
is_read (Err fault) = false

abbrev entry_or : {F : Type 0} → Entry → Result Entry F → Entry
entry_or d (Ok e) = e
entry_or d (Err fault) = d

module _ {S F : Type 0} where
  -- Each entry is shown as it is.
  shown_is : {old new : S} {due shown : List Entry} → ReadsDetails (reads_nothing {S = S} {F = F}) old due shown new → shown ≡ due
  shown_is (none s) = refl
  shown_is (more e full due shown old mid new one rest) = ap₂ (λ (x : Entry) (es : List Entry). x ∷ es) (ap (entry_or e) one.0) (shown_is rest)

  module _ {E : Type 0} {old new : S} {was now : Option (List ℕ)} (layout : Layout) (due : List Entry) where
    -- The whole report is written.
    pub all_written : WritesWithDetails (reads_nothing {S = S} {F = F}) {E = E} layout due old was now new (Ok tt) → Emits was now false (bytes_up_to layout due [])
    all_written w = shows_as (ap (λ (es : List Entry). bytes_up_to layout es []) (shown_is w.ends.1)) w.ends.2

    -- A proper prefix of the report is written.
    pub some_written : (fault : E) → Extends layout → WritesWithDetails (reads_nothing {S = S} {F = F}) layout due old was now new (Err (Report fault)) → Emits was now true (bytes_up_to layout due [])
    some_written fault x w =
        let rest = w.ends.1 in
        shows_as (ap (λ (es : List Entry). bytes_up_to layout es []) (ap (λ (es : List Entry). es ++ rest) (shown_is w.ends.4) ∙ sym w.ends.3)) (cut_whole layout x w.ends.2 rest w.ends.5)

    -- No read fails.
    pub none_fails : {P : Type 0} (fault : F) → WritesWithDetails (reads_nothing {S = S} {F = F}) {E = E} layout due old was now new (Err (Details fault)) → P
    none_fails fault w = absurd (false≢true (ap is_read w.ends.7.0))

-- A JUnit report has the cases of its entries in order.
pub junit_extends : (run : Run) → Extends (junit_layout run)
junit_extends run = record {
  more = λ shown e rest. flat_map case_bytes (e ∷ rest);
  is = λ shown e rest. whole (junit_start run) (flat_map case_bytes shown) (flat_map case_bytes (e ∷ rest)) (flat_map case_bytes (shown ++ e ∷ rest)) (flat_map-append case_bytes shown (e ∷ rest));
}
  where
    whole : (front xs ys zs : List ℕ) → zs ≡ xs ++ ys → front ++ zs ≡ front ++ xs ++ [] ++ ys
    whole front xs ys zs is = ap (λ (l : List ℕ). front ++ l) is ∙ sym (append_assoc front xs ys) ∙ ap (λ (l : List ℕ). l ++ ys) (sym (append-nil (front ++ xs)))

-- A text report has the lines of its entries in order.
pub text_extends : (date : Date) (v : Bool) (run : Run) → Extends (text_layout date v run)
text_extends date v run = record {
  more = λ shown e rest. entry_bytes v e ++ titled_lines v (Some e.verdict.kind) rest;
  is = λ shown e rest.
      titled_lines-append v None shown (e ∷ rest)
      ∙ sym (append_assoc (titled_lines v None shown) (title_line_after (last_kind None shown) e.verdict.kind) (entry_bytes v e ++ titled_lines v (Some e.verdict.kind) rest));
}

module _ {S F : Type 0} {E : Type 0} {old new : S} {was now : Option (List ℕ)} (layout : Layout) (due : List Entry) where
  -- A report that reads nothing reads nothing with pairs, too.
  pub own_pairs : (v : Bool) (answer : Result (Unit {0}) (WriteReportError F E)) → WritesWithDetails (reads_if_verbose v (reads_nothing {S = S} {F = F})) layout due old was now new answer
      → WritesWithDetails (reads_nothing {S = S} {F = F}) layout due old was now new answer
  own_pairs true answer w = w
  own_pairs false answer w = w

-- The lines of the entries by section are the sections.
pub text_is : (date : Date) (kinds : List Kind) (v : Bool) (run : Run) → bytes_up_to (text_layout date v run) (entries_by_section kinds run.entries) [] ≡ text_bytes date kinds v run
text_is date kinds v run = ap (λ (l : List ℕ). l ++ summary date run) (by_section_is v kinds run.entries)
