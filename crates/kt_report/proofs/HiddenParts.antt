-- The parts of entries that a report doesn't contain don't change the report.
use Rattle.std.proofs.Common.{codes, flat_map, fold, if◌then◌else◌, ◌≡◌, ℕ, ◌+◌, Bool, true, false, cond, List, [], ◌∷◌, ◌++◌, length, map, refl, ap, ap₂, ◌∙◌}
use Rattle.kt_report.proofs.Common.{decimal, list_any, length-map, Date, Entry, Kind, Skipped, ExpectedFailure, Failed, Broken, seconds_bytes, junit_start, entry_bytes, is_same_kind, has_kind, entries_of, section_order, title_line, titled_section, section, kind_count_bytes, totals_bytes, summary_title_bytes, text_bytes}
use Rattle.kt_base.specs.declared.entry.Run.{Run}
use Rattle.kt_report.specs.HiddenParts.{ChangesHiddenParts, with_entries}

one : (v : Bool) (change : Entry → Entry) → ChangesHiddenParts v change → (e : Entry) → entry_bytes v (change e) ≡ entry_bytes v e
one false change same e = ap (entry_bytes false) (same e)
one true change same e = ap (entry_bytes true) (same e)

module _ (v : Bool) (change : Entry → Entry) (same : ChangesHiddenParts v change) where
  of_kind : (kind : Kind) (es : List Entry) → entries_of kind (map change es) ≡ map change (entries_of kind es)
  of_kind kind [] = refl
  of_kind kind (e ∷ es) = rw (ap (has_kind kind) (same e)) (by (has_kind kind e) (of_kind kind es))
    where
      by : (b : Bool) → entries_of kind (map change es) ≡ map change (entries_of kind es)
          → cond b (change e ∷ entries_of kind (map change es)) (entries_of kind (map change es)) ≡ map change (cond b (e ∷ entries_of kind es) (entries_of kind es))
      by true more = ap (λ l. change e ∷ l) more
      by false more = more

  lines : (es : List Entry) → flat_map (entry_bytes v) (map change es) ≡ flat_map (entry_bytes v) es
  lines [] = refl
  lines (e ∷ es) = ap₂ (λ x y. x ++ y) (one v change same e) (lines es)

  titles : (kind : Kind) (es : List Entry) → titled_section v kind (map change es) ≡ titled_section v kind es
  titles kind [] = refl
  titles kind (e ∷ es) = ap (λ l. title_line kind ++ l) (lines (e ∷ es))

  one_section : (kinds : List Kind) (es : List Entry) (kind : Kind) → section v kinds (map change es) kind ≡ section v kinds es kind
  one_section kinds es kind = by (list_any (is_same_kind kind) kinds)
    where
      by : (b : Bool) → titled_section v kind (if b then entries_of kind (map change es) else []) ≡ titled_section v kind (if b then entries_of kind es else [])
      by true = ap (titled_section v kind) (of_kind kind es) ∙ titles kind (entries_of kind es)
      by false = refl

  each_section : (kinds ks : List Kind) (es : List Entry) → flat_map (section v kinds (map change es)) ks ≡ flat_map (section v kinds es) ks
  each_section kinds [] es = refl
  each_section kinds (k ∷ ks) es = ap₂ (λ x y. x ++ y) (one_section kinds es k) (each_section kinds ks es)

  one_count : (kind : Kind) (es : List Entry) → kind_count_bytes kind (map change es) ≡ kind_count_bytes kind es
  one_count kind es = ap (λ l. decimal (length l)) (of_kind kind es) ∙ ap decimal (length-map (entries_of kind es) change)

  all_counts : (es : List Entry) → totals_bytes (map change es) ≡ totals_bytes es
  all_counts es = rw (length-map es change, one_count Skipped es, one_count ExpectedFailure es, one_count Broken es, one_count Failed es) refl

  times : (n : ℕ) (es : List Entry) → fold (λ a (e : Entry). a + e.millis) n (map change es) ≡ fold (λ a (e : Entry). a + e.millis) n es
  times n [] = refl
  times n (e ∷ es) = ap (λ m. fold (λ a (e : Entry). a + e.millis) (n + m) (map change es)) (ap (λ (d : Entry). d.millis) (same e)) ∙ times (n + e.millis) es

  pub same_text : (date : Date) (kinds : List Kind) (run : Run) → text_bytes date kinds v (with_entries change run) ≡ text_bytes date kinds v run
  same_text date kinds run =
      ap₂ (λ x y. x ++ y) (each_section kinds section_order run.entries)
      (ap₂ (λ x y. summary_title_bytes date run ++ x ++ codes "Total time: " ++ seconds_bytes y ++ codes "s\n") (all_counts run.entries) (times 0 run.entries))

  pub same_heading : (run : Run) → junit_start (with_entries change run) ≡ junit_start run
  same_heading run = rw (length-map run.entries change, one_count Failed run.entries, one_count Broken run.entries, one_count Skipped run.entries) refl
