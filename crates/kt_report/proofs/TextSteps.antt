-- The steps of a text report over details.
use Rattle.std.proofs.Common.{Option, Some, None, Result, Ok, Err, Bool, true, false, flat_map, get_or, take, drop, ◌≡◌, ◌<◌, ◌≤◌, ◌+◌, ℕ, List, [], ◌∷◌, ◌++◌, length, refl, ap, ◌∙◌, sym, subst, append_assoc, append-nil}
use Rattle.kt_report.proofs.Common.{Date, Entry, Kind, Emits, shows_as, shows_both, shows_more, shows_none, bytes_up_to, entry_bytes, line_bytes, list_any, is_same_kind, entries_of, chosen_entries, title_line_after, last_kind, titled_lines, sections_layout, text_layout, summary, take_all}
use Rattle.kt_base.specs.declared.emission.OutputFault.{OutputFault}
use Rattle.kt_base.specs.declared.entry.Run.{Run}
use Rattle.kt_report.proofs.Fillings.{filled_both, filled_one}
use Rattle.kt_report.proofs.InTurn.{in_turn_more, in_turn_all}
use Rattle.kt_report.proofs.Layouts.{cut_later}
use Rattle.kt_report.proofs.LineSteps.{if_of, if_of_all}
use Rattle.kt_report.proofs.TitledLines.{last_kind-append, titled_lines-append}
use Rattle.kt_report.specs.Details.{ReadsDetails, WritesWithDetails, none, reads_if_verbose}
use Rattle.kt_report.specs.Inner.Steps.{IsEntriesResult, WritesEntries, WritesEntry}
use Rattle.kt_report.specs.declared.write_report_error.WriteReportError.{WriteReportError}
use Rattle.kt_report.specs.declared.write_report_error.WriteReportError.TheVariants.{Details, Report}

-- `single e`: the list of the entry `e`.
abbrev pub single : Entry → List Entry
single e = e ∷ []

singles : (es : List Entry) → flat_map single es ≡ es
singles [] = refl
singles (e ∷ es) = ap (λ xs. e ∷ xs) (singles es)

-- The section of a chosen kind has all entries of the kind.
pub all_chosen : (kinds : List Kind) (kind : Kind) (es : List Entry) (b : Bool) → b ≡ list_any (is_same_kind kind) kinds → b ≡ true → flat_map (if_of single kind) es ≡ chosen_entries kinds es kind
all_chosen kinds kind es b is on = if_of_all single kind es ∙ singles (entries_of kind es) ∙ rw (sym is ∙ on) refl

-- The section of another kind has no entries.
pub none_chosen : (kinds : List Kind) (kind : Kind) (es : List Entry) (b : Bool) → b ≡ list_any (is_same_kind kind) kinds → b ≡ false → [] ≡ chosen_entries kinds es kind
none_chosen kinds kind es b is off = rw (sym is ∙ off) refl

module _ {S F : Type 0} (reads : S → Entry → Result Entry F → S → Type 0) (v : Bool) where
  -- The pairs are read.
  pub line_read : {old new : S} {was now : Option (List ℕ)} {e : Entry} {answer : Result (Unit {0}) (WriteReportError F OutputFault)} → v ≡ true → WritesEntry reads old was now new (entry_bytes true) e answer
      → WritesEntry (reads_if_verbose v reads) old was now new (entry_bytes v) e answer
  line_read {old} {new} {was} {now} {e} {answer} on w = subst (λ (b : Bool). WritesEntry (reads_if_verbose b reads) old was now new (entry_bytes b) e answer) (sym on) w

  -- Nothing is read.
  pub line_shown : {old : S} {was now : Option (List ℕ)} {e : Entry} → v ≡ false → Emits was now false (line_bytes e)
      → WritesEntry (reads_if_verbose v reads) old was now old {E = OutputFault} (entry_bytes v) e (Ok tt)
  line_shown {old} {was} {now} {e} off s =
      subst (λ (b : Bool). WritesEntry (reads_if_verbose b reads) old was now old {E = OutputFault} (entry_bytes b) e (Ok tt)) (sym off) (record { ends = (e, (refl, refl), refl, s) })

  pub line_cut : {old : S} {was now : Option (List ℕ)} {e : Entry} → v ≡ false → (fault : OutputFault) → Emits was now true (line_bytes e)
      → WritesEntry (reads_if_verbose v reads) old was now old (entry_bytes v) e (Err (Report fault))
  line_cut {old} {was} {now} {e} off fault s =
      subst (λ (b : Bool). WritesEntry (reads_if_verbose b reads) old was now old (entry_bytes b) e (Err (Report fault))) (sym off) (record { ends = (e, (refl, refl), refl, s) })

module _ {S F : Type 0} (reads : S → Entry → Result Entry F → S → Type 0) (v : Bool) where
  -- ---- no entry, and one

  -- Without entries, nothing is written.
  pub entries_none : {old : S} {was : Option (List ℕ)} {before : Option Kind} → WritesEntries reads old was was old {E = OutputFault} v before [] (Ok before)
  entries_none {old} = record { ends = ([], none old, refl, shows_none) }

  -- Writing ends early if a title can't be written.
  pub title_cut : {old : S} {was now : Option (List ℕ)} {before : Option Kind} {e : Entry} (fault : OutputFault) → Emits was now true (title_line_after before e.verdict.kind)
      → WritesEntries reads old was now old v before (e ∷ []) (Err (Report fault))
  title_cut {old} {e = e} fault s = record { ends = ([], e ∷ [], [], refl, none old, s) }

  module _ {old new : S} {was held now : Option (List ℕ)} {before : Option Kind} {e : Entry} (s : Emits was held false (title_line_after before e.verdict.kind)) where
    -- Writing ends early if an entry can't be read or written.
    pub entry_cut : (stop : WriteReportError F OutputFault) → WritesEntry reads old held now new (entry_bytes v) e (Err stop) → WritesEntries reads old was now new v before (e ∷ []) (Err stop)
    entry_cut (Details fault) c = record { ends = ([], [], [], e, old, refl, none old, c.ends.0, subst (λ (x : Option (List ℕ)). Emits was x false (title_line_after before e.verdict.kind)) (sym c.ends.1) s) }
    entry_cut (Report fault) c =
        record {
          ends = (
            e ∷ [],
            [],
            c.ends.0 ∷ [],
            refl,
            filled_one reads c.ends.1,
            shows_more [] (shows_both (shows_as (ap (title_line_after before) (sym c.ends.2)) s) (shows_more [] c.ends.3)),
          );
        }

    -- An entry is written after its title.
    pub entry_written : {kind : Kind} → kind ≡ e.verdict.kind → WritesEntry reads old held now new {E = OutputFault} (entry_bytes v) e (Ok tt) → WritesEntries reads old was now new {E = OutputFault} v before (e ∷ []) (Ok (Some kind))
    entry_written is c =
        record {
          ends = (
            c.ends.0 ∷ [],
            filled_one reads c.ends.1,
            ap Some (is ∙ sym c.ends.2),
            shows_both (shows_as (ap (title_line_after before) (sym c.ends.2)) s) (shows_as (sym (append-nil (entry_bytes v c.ends.0))) c.ends.3),
          );
        }

  -- ---- some entries, and then others

  module _ {old mid : S} {was held : Option (List ℕ)} (before : Option Kind) (xs ys shown : List Entry) (p : ReadsDetails reads old xs shown mid) (s : Emits was held false (titled_lines v before shown)) where
    bytes_more : {now : Option (List ℕ)} (f : Bool) (more : List Entry) (next : Option Kind → List ℕ) → Emits held now f (titled_lines v (last_kind before shown) more ++ next (last_kind (last_kind before shown) more))
        → Emits was now f (titled_lines v before (shown ++ more) ++ next (last_kind before (shown ++ more)))
    bytes_more f more next t = shows_as (rw (titled_lines-append v before shown more, last_kind-append before shown more, append_assoc) refl) (shows_both s t)

    bytes_later : {now : Option (List ℕ)} (f : Bool) (more rest : List Entry) → Emits held now f (bytes_up_to (sections_layout v (last_kind before shown) []) more rest)
        → Emits was now f (bytes_up_to (sections_layout v before []) (shown ++ more) rest)
    bytes_later f more [] t = bytes_more f more (λ k. []) t
    bytes_later f more (e ∷ rest) t = bytes_more f more (λ k. title_line_after k e.verdict.kind) t

    due_more : (read rest : List Entry) → ys ≡ read ++ rest → xs ++ ys ≡ (xs ++ read) ++ rest
    due_more read rest is = ap (λ (es : List Entry). xs ++ es) is ∙ sym (append_assoc xs read rest)

    ends_both : (new : S) (now : Option (List ℕ)) (answer : Result (Option Kind) (WriteReportError F OutputFault)) → IsEntriesResult reads mid held now new v (last_kind before shown) ys answer
        → IsEntriesResult reads old was now new v before (xs ++ ys) answer
    ends_both new now (Ok last) w = (shown ++ w.0, filled_both reads p w.1, w.2 ∙ sym (last_kind-append before shown w.0), shows_as (sym (titled_lines-append v before shown w.0)) (shows_both s w.3))
    ends_both new now (Err (Details fault)) w =
        (xs ++ w.0, w.1, shown ++ w.2, w.3, w.4, due_more w.0 (w.3 ∷ w.1) w.5, filled_both reads p w.6, w.7, bytes_later false w.2 (w.3 ∷ w.1) w.8)
    ends_both new now (Err (Report fault)) w = (xs ++ w.0, w.1, shown ++ w.2, due_more w.0 w.1 w.3, filled_both reads p w.4, bytes_later true w.2 w.1 w.5)

  pub entries_both : {old mid new : S} {was held now : Option (List ℕ)} {before last : Option Kind} {xs ys : List Entry} {answer : Result (Option Kind) (WriteReportError F OutputFault)}
      → WritesEntries reads old was held mid {E = OutputFault} v before xs (Ok last) → WritesEntries reads mid held now new v last ys answer → WritesEntries reads old was now new v before (xs ++ ys) answer
  entries_both {mid = mid} {new = new} {held = held} {now = now} {before = before} {xs = xs} {ys = ys} {answer = answer} w t =
      let e = w.ends in
      record { ends = ends_both before xs ys e.0 e.1 e.3 new now answer (subst (λ (k : Option Kind). IsEntriesResult reads mid held now new v k ys answer) e.2 t.ends) }

  cut_more : (before : Option Kind) (shown rest ys : List Entry) {was now : Option (List ℕ)} → Emits was now true (bytes_up_to (sections_layout v before []) shown rest)
      → Emits was now true (bytes_up_to (sections_layout v before []) shown (rest ++ ys))
  cut_more before shown [] ys s = cut_later (sections_layout v before []) shown ys (shows_as (append-nil (titled_lines v before shown)) s)
  cut_more before shown (e ∷ rest) ys s = s

  -- Entries that end early leave out those that follow.
  entries_cut : {old new : S} {was now : Option (List ℕ)} {before : Option Kind} {xs : List Entry} (ys : List Entry) (stop : WriteReportError F OutputFault)
      → WritesEntries reads old was now new v before xs (Err stop) → WritesEntries reads old was now new v before (xs ++ ys) (Err stop)
  entries_cut ys (Details fault) w =
      let c = w.ends in
      record { ends = (c.0, c.1 ++ ys, c.2, c.3, c.4, ap (λ (es : List Entry). es ++ ys) c.5 ∙ append_assoc c.0 (c.3 ∷ c.1) ys, c.6, c.7, c.8) }
  entries_cut {before = before} ys (Report fault) w =
      let c = w.ends in
      record { ends = (c.0, c.1 ++ ys, c.2, ap (λ (es : List Entry). es ++ ys) c.3 ∙ append_assoc c.0 c.1 ys, c.4, cut_more before c.2 c.1 ys c.5) }

  -- Equal entries are written alike.
  pub entries_as : {old new : S} {was now : Option (List ℕ)} {before : Option Kind} {xs ys : List Entry} {answer : Result (Option Kind) (WriteReportError F OutputFault)} → xs ≡ ys
      → WritesEntries reads old was now new v before xs answer → WritesEntries reads old was now new v before ys answer
  entries_as {old} {new} {was} {now} {before} {answer = answer} same w = subst (λ (es : List Entry). WritesEntries reads old was now new v before es answer) same w

  -- The entries of each item of a list, item by item.
  module _ {X : Type 0} (f : X → List Entry) (items : List X) (i : ℕ) where
    -- After the entries of one more item, the entries of the items so far are written.
    pub item_next : (d : X) {old mid new : S} {was held now : Option (List ℕ)} {before last : Option Kind} {answer : Result (Option Kind) (WriteReportError F OutputFault)} → i < length items
        → WritesEntries reads old was held mid {E = OutputFault} v before (flat_map f (take i items)) (Ok last) → WritesEntries reads mid held now new v last (f (get_or items i d)) answer
        → WritesEntries reads old was now new v before (flat_map f (take (i + 1) items)) answer
    item_next d low w t = entries_as (in_turn_more f items i d low) (entries_both w t)

    -- Writing ends early if the entries of an item can't be written.
    pub item_cut : (d : X) {old mid new : S} {was held now : Option (List ℕ)} {before last : Option Kind} {stop : WriteReportError F OutputFault} → i < length items
        → WritesEntries reads old was held mid {E = OutputFault} v before (flat_map f (take i items)) (Ok last) → WritesEntries reads mid held now new v last (f (get_or items i d)) (Err stop)
        → WritesEntries reads old was now new v before (flat_map f items) (Err stop)
    item_cut d {stop = stop} low w t = entries_as (in_turn_all f items (i + 1)) (entries_cut (flat_map f (drop (i + 1) items)) stop (item_next d low w t))

    -- After the last item, the entries of all items are written.
    pub items_all : {old new : S} {was now : Option (List ℕ)} {before last : Option Kind} → length items ≤ i → WritesEntries reads old was now new {E = OutputFault} v before (flat_map f (take i items)) (Ok last)
        → WritesEntries reads old was now new {E = OutputFault} v before (flat_map f items) (Ok last)
    items_all all w = entries_as (ap (flat_map f) (take_all i items all)) w

  -- ---- the whole report

  cut_before : (run : Run) (date : Date) (shown rest : List Entry) {was now : Option (List ℕ)} → Emits was now true (bytes_up_to (sections_layout v None []) shown rest)
      → Emits was now true (bytes_up_to (text_layout date v run) shown rest)
  cut_before run date shown [] s = shows_more (summary date run) (shows_as (append-nil (titled_lines v None shown)) s)
  cut_before run date shown (e ∷ rest) s = s

  module _ (due : List Entry) (run : Run) (date : Date) where
    -- `Ends old was now new answer`: the report was written, or `answer` is the error that ended
    -- it.
    abbrev pub Ends : S → Option (List ℕ) → Option (List ℕ) → S → Result (Unit {0}) (WriteReportError F OutputFault) → Type 0
    Ends old was now new answer = WritesWithDetails reads (text_layout date v run) due old was now new answer

    -- The report ends early if a section can't be written.
    pub sections_cut : {old new : S} {was now : Option (List ℕ)} (stop : WriteReportError F OutputFault) → WritesEntries reads old was now new v None due (Err stop) → Ends old was now new (Err stop)
    sections_cut (Details fault) w = record { ends = w.ends }
    sections_cut (Report fault) w = let c = w.ends in record { ends = (c.0, c.1, c.2, c.3, c.4, cut_before run date c.2 c.1 c.5) }

    module _ {old new : S} {was held : Option (List ℕ)} {last : Option Kind} (w : WritesEntries reads old was held new {E = OutputFault} v None due (Ok last)) where
      -- The report ends early if the summary can't be written.
      pub summary_cut : {now : Option (List ℕ)} (fault : OutputFault) → Emits held now true (summary date run) → Ends old was now new (Err (Report fault))
      summary_cut fault s = let c = w.ends in record { ends = (due, [], c.0, sym (append-nil due), c.1, shows_both c.3 s) }

      -- After the summary, the whole report is written.
      pub text_written : {now : Option (List ℕ)} → Emits held now false (summary date run) → Ends old was now new (Ok tt)
      text_written s = let c = w.ends in record { ends = (c.0, c.1, shows_both c.3 s) }
