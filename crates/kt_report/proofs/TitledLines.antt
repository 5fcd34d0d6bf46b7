-- Entries in order, with the titles of their kinds.
use Rattle.std.proofs.Common.{flat_map, cond, if◌then◌else◌, Option, Some, None, ◌≡◌, ◌⊎◌, inl, inr, Bool, true, false, ◌&&◌, not, List, [], ◌∷◌, ◌++◌, refl, ap, ap₂, ◌∙◌, append_assoc}
use Rattle.kt_report.proofs.Common.{and_parts, list_any, Entry, Kind, Passed, Skipped, ExpectedFailure, Failed, Broken, entry_bytes, is_same_kind, has_kind, entries_of, chosen_entries, entries_by_section, section_order, title_line, titled_section, section, sections, title_line_after, last_kind, titled_lines}

same_is : (a b : Kind) → is_same_kind a b ≡ true → b ≡ a
same_is Passed Passed s = refl
same_is Skipped Skipped s = refl
same_is ExpectedFailure ExpectedFailure s = refl
same_is Failed Failed s = refl
same_is Broken Broken s = refl
same_is _ _ s = absurd (cc)

-- `is_new before kind`: the entry before, if any, is of another kind.
abbrev is_new : Option Kind → Kind → Bool
is_new None kind = true
is_new (Some before) kind = not (is_same_kind before kind)

new_opens : (before : Option Kind) (kind : Kind) → is_new before kind ≡ true → title_line_after before kind ≡ title_line kind
new_opens None kind n = refl
new_opens (Some before) kind n = by (is_same_kind before kind) n
  where
    by : (b : Bool) → not b ≡ true → (if b then [] else title_line kind) ≡ title_line kind
    by true m = absurd (cc)
    by false m = refl

-- `are_new before kinds`: each of these kinds differs from those before it.
abbrev are_new : Option Kind → List Kind → Bool
are_new before [] = true
are_new before (kind ∷ kinds) = is_new before kind && (are_new before kinds && are_new (Some kind) kinds)

pub last_kind-append : (before : Option Kind) (xs ys : List Entry) → last_kind before (xs ++ ys) ≡ last_kind (last_kind before xs) ys
last_kind-append before [] ys = refl
last_kind-append before (x ∷ xs) ys = last_kind-append (Some x.verdict.kind) xs ys

module _ (v : Bool) where
  pub titled_lines-append : (before : Option Kind) (xs ys : List Entry)
      → titled_lines v before (xs ++ ys) ≡ titled_lines v before xs ++ titled_lines v (last_kind before xs) ys
  titled_lines-append before [] ys = refl
  titled_lines-append before (x ∷ xs) ys = rw (titled_lines-append (Some x.verdict.kind) xs ys) (simp append_assoc)

  abbrev Within : Kind → List Entry → Type 0
  Within kind es = (titled_lines v (Some kind) es ≡ flat_map (entry_bytes v) es) × (last_kind (Some kind) es ≡ Some kind)

  -- The entries of a kind follow an entry of that kind, so none of them has a title.
  within : (kind : Kind) (es : List Entry) → Within kind (entries_of kind es)
  within kind [] = (refl, refl)
  within kind (e ∷ es) = by (has_kind kind e) refl (within kind es)
    where
      by : (b : Bool) → has_kind kind e ≡ b → Within kind (entries_of kind es) → Within kind (cond b (e ∷ entries_of kind es) (entries_of kind es))
      by true s w =
          let k : e.verdict.kind ≡ kind = same_is kind e.verdict.kind s in
          let rest = entries_of kind es in
          (rw s (ap (λ d. entry_bytes v e ++ titled_lines v (Some d) rest) k ∙ ap (λ l. entry_bytes v e ++ l) w.0), ap (λ d. last_kind (Some d) rest) k ∙ w.1)
      by false s w = w

  abbrev First : Option Kind → Kind → List Entry → Type 0
  First before kind es = (titled_lines v before es ≡ titled_section v kind es) × ((last_kind before es ≡ before) ⊎ (last_kind before es ≡ Some kind))

  -- The entries of a kind follow an entry of another kind, so the first of them has the title.
  first : (before : Option Kind) (kind : Kind) → title_line_after before kind ≡ title_line kind → (es : List Entry) → First before kind (entries_of kind es)
  first before kind o [] = (refl, inl refl)
  first before kind o (e ∷ es) = by (has_kind kind e) refl (first before kind o es)
    where
      by : (b : Bool) → has_kind kind e ≡ b → First before kind (entries_of kind es)
          → First before kind (cond b (e ∷ entries_of kind es) (entries_of kind es))
      by true s f =
          let k : e.verdict.kind ≡ kind = same_is kind e.verdict.kind s in
          let w = within kind es in
          let rest = entries_of kind es in (
            ap (λ d. title_line_after before d ++ (entry_bytes v e ++ titled_lines v (Some d) rest)) k ∙ ap₂ (λ x y. x ++ (entry_bytes v e ++ y)) o w.0,
            inr (ap (λ d. last_kind (Some d) rest) k ∙ w.1),
          )
      by false s f = f

  module _ (kinds : List Kind) (es : List Entry) where
    chosen_first : (before : Option Kind) (kind : Kind) → title_line_after before kind ≡ title_line kind → First before kind (chosen_entries kinds es kind)
    chosen_first before kind o = by (list_any (is_same_kind kind) kinds)
      where
        by : (b : Bool) → First before kind (if b then entries_of kind es else [])
        by true = first before kind o es
        by false = (refl, inl refl)

    from : (before : Option Kind) (ks : List Kind) → are_new before ks ≡ true
        → titled_lines v before (flat_map (chosen_entries kinds es) ks) ≡ flat_map (section v kinds es) ks
    from before [] n = refl
    from before (k ∷ ks) n =
        let p = and_parts (is_new before k) _ n in
        let q = and_parts (are_new before ks) _ p.1 in
        let f = chosen_first before k (new_opens before k p.0) in
        let rest = flat_map (chosen_entries kinds es) ks in
        titled_lines-append before (chosen_entries kinds es k) rest
        ∙ ap₂ (λ x y. x ++ y) f.0
        (elim f.1 [ inl e ↦ ap (λ o. titled_lines v o rest) e ∙ from before ks q.0 | inr e ↦ ap (λ o. titled_lines v o rest) e ∙ from (Some k) ks q.1 ])

    pub by_section_is : titled_lines v None (entries_by_section kinds es) ≡ sections v kinds es
    by_section_is = from None section_order refl
