-- A line has a next state or a fault.
use Rattle.std.proofs.Common.{codes, bytes_eq, ◌≡◌, ℕ, Bool, true, false, List, [], ◌∷◌, ◌++◌, Option, Some, None, refl, ap, sym, subst, ◌∙◌}
use Rattle.kt_atflist.proofs.Common.{find, is_empty, line_ident, is_case_name, line_key, line_value, is_listed, has_property, empty_case, with_property, is_valid_property, first_line_step, case_name_in, set_property, later_line_step, property_line_step, step_from, IsNextState, begins, gives, ends, is_first_line_cause, is_later_line_cause, first_line_causes, later_line_causes, IsFaultyLine, first, further, BadLine, NoIdent, RepeatedKey, RepeatedIdent, UnknownKey, BadValue, CaseDef, ReaderState, ListStep, NextState, FaultyLine}
use Rattle.kt_base.specs.Lossy.{lossy}
use Rattle.kt_metadata.specs.ListKeys.{name_of_key}

-- `Led cases line block step`: `step` is the specified result of the line `line`: the next state or
-- the cause of its fault. Before the line, the finished blocks have the cases `cases`, and `block`
-- is the block that has begun.
abbrev pub Led : List CaseDef → List ℕ → Option CaseDef → ListStep → Type 0
Led cases line block (NextState next) = IsNextState cases line block next
Led cases line block (FaultyLine cause) = IsFaultyLine cases line block cause

-- `Led` for a step implies `Led` for an equal step.
leads : (cases : List CaseDef) (line : List ℕ) (block : Option CaseDef) (s t : ListStep) → s ≡ t → Led cases line block t → Led cases line block s
leads cases line block s t e h = subst (Led cases line block) (sym e) h

-- ---- first lines of blocks

first_named : (cases : List CaseDef) (line name : List ℕ) (t u : Bool) → line_ident line ≡ Some name → is_case_name name ≡ t → is_listed cases (lossy name) ≡ u
    → Led cases line None (first_line_step cases (case_name_in (line_ident line)))
first_named cases line name false u e f g =
    let s : first_line_step cases (case_name_in (line_ident line)) ≡ FaultyLine BadValue = ap (λ (o : Option (List ℕ)). first_line_step cases (case_name_in o)) e ∙ rw f refl in
    let q : find (is_first_line_cause cases (line_ident line)) first_line_causes ≡ Some BadValue = ap (λ (o : Option (List ℕ)). find (is_first_line_cause cases o) first_line_causes) e ∙ rw f refl in
    leads cases line None _ _ s (first BadValue q)
first_named cases line name true true e f g =
    let s : first_line_step cases (case_name_in (line_ident line)) ≡ FaultyLine RepeatedIdent = ap (λ (o : Option (List ℕ)). first_line_step cases (case_name_in o)) e ∙ rw (f, g) refl in
    let q : find (is_first_line_cause cases (line_ident line)) first_line_causes ≡ Some RepeatedIdent = ap (λ (o : Option (List ℕ)). find (is_first_line_cause cases o) first_line_causes) e ∙ rw (f, g) refl in
    leads cases line None _ _ s (first RepeatedIdent q)
first_named cases line name true false e f g =
    let s : first_line_step cases (case_name_in (line_ident line)) ≡ NextState (record { cases = cases; block = Some (empty_case (lossy name)) }) = ap (λ (o : Option (List ℕ)). first_line_step cases (case_name_in o)) e ∙ rw (f, g) refl in
    leads cases line None _ _ s (begins name e f g)

first_led : (cases : List CaseDef) (line : List ℕ) (o : Option (List ℕ)) → line_ident line ≡ o → Led cases line None (first_line_step cases (case_name_in (line_ident line)))
first_led cases line None e =
    leads cases line None _ _ (ap (λ (o : Option (List ℕ)). first_line_step cases (case_name_in o)) e) (first NoIdent (ap (λ (o : Option (List ℕ)). find (is_first_line_cause cases o) first_line_causes) e))
first_led cases line (Some name) e = first_named cases line name (is_case_name name) (is_listed cases (lossy name)) e refl refl

-- ---- lines after the first of a block

-- `Gives line value o`: the line `line` has the value `value` and a key. `o` is the property with
-- this key, or nothing if there is none.
record Gives (line value : List ℕ) (o : Option (List ℕ)) : Type 0 where
  some : is_empty line ≡ false
  value_is : line_value line ≡ Some value
  key : is_empty (line_key line) ≡ false
  plain : bytes_eq (lossy (line_key line)) (codes "ident") ≡ false
  property : name_of_key (lossy (line_key line)) ≡ o

-- A line of a block that `Gives` describes sets the property of its key.
stepped : (cases : List CaseDef) (block : CaseDef) (line value : List ℕ) (o : Option (List ℕ)) → Gives line value o → later_line_step cases block line ≡ property_line_step cases (set_property block o (lossy value))
stepped cases block line value o g = rw (g.some, g.value_is, g.key, g.plain, g.property) refl

property_led : (cases : List CaseDef) (block : CaseDef) (line value : List ℕ) (o : Option (List ℕ)) (t u : Bool) → Gives line value o
    → ((property : List ℕ) → o ≡ Some property → (has_property block.props property ≡ t) × (is_valid_property property (lossy value) ≡ u))
    → Led cases line (Some block) (later_line_step cases block line)
property_led cases block line value None t u g h =
    let q : find (is_later_line_cause block (line_key line) (line_value line)) later_line_causes ≡ Some UnknownKey = rw (g.value_is, g.key, g.plain, g.property) refl in
    leads cases line (Some block) _ _ (stepped cases block line value None g) (further block UnknownKey g.some q)
property_led cases block line value (Some property) true u g h =
    let e = h property refl in
    let s : property_line_step cases (set_property block (Some property) (lossy value)) ≡ FaultyLine RepeatedKey = rw (e.0) refl in
    let q : find (is_later_line_cause block (line_key line) (line_value line)) later_line_causes ≡ Some RepeatedKey = rw (g.value_is, g.key, g.plain, g.property, e.0) refl in
    leads cases line (Some block) _ _ (stepped cases block line value (Some property) g ∙ s) (further block RepeatedKey g.some q)
property_led cases block line value (Some property) false false g h =
    let e = h property refl in
    let s : property_line_step cases (set_property block (Some property) (lossy value)) ≡ FaultyLine BadValue = rw (e.0, e.1) refl in
    let q : find (is_later_line_cause block (line_key line) (line_value line)) later_line_causes ≡ Some BadValue = rw (g.value_is, g.key, g.plain, g.property, e.0, e.1) refl in
    leads cases line (Some block) _ _ (stepped cases block line value (Some property) g ∙ s) (further block BadValue g.some q)
property_led cases block line value (Some property) false true g h =
    let e = h property refl in
    let s : property_line_step cases (set_property block (Some property) (lossy value)) ≡ NextState (record { cases = cases; block = Some (with_property block property (lossy value)) }) = rw (e.0, e.1) refl in
    leads cases line (Some block) _ _ (stepped cases block line value (Some property) g ∙ s) (gives block value property g.some g.value_is g.key g.plain g.property e.0 e.1)

found_led : (cases : List CaseDef) (block : CaseDef) (line value : List ℕ) (o : Option (List ℕ)) → Gives line value o → Led cases line (Some block) (later_line_step cases block line)
found_led cases block line value None g = property_led cases block line value None true true g (λ property e. absurd (cc))
found_led cases block line value (Some property) g =
    let same : (p : List ℕ) → Some property ≡ Some p → (has_property block.props p ≡ has_property block.props property) × (is_valid_property p (lossy value) ≡ is_valid_property property (lossy value))
    = λ p e. (ap (λ (x : Option (List ℕ)). given_in x) (sym e), ap (λ (x : Option (List ℕ)). good_in x) (sym e)) in
    property_led cases block line value (Some property) (has_property block.props property) (is_valid_property property (lossy value)) g same where
      given_in : Option (List ℕ) → Bool
      given_in None = false
      given_in (Some p) = has_property block.props p

      good_in : Option (List ℕ) → Bool
      good_in None = false
      good_in (Some p) = is_valid_property p (lossy value)

value_led : (cases : List CaseDef) (block : CaseDef) (line value : List ℕ) (t u : Bool) → is_empty line ≡ false → line_value line ≡ Some value → is_empty (line_key line) ≡ t
    → bytes_eq (lossy (line_key line)) (codes "ident") ≡ u → Led cases line (Some block) (later_line_step cases block line)
value_led cases block line value true u e v k w =
    let s : later_line_step cases block line ≡ FaultyLine BadLine = rw (e, v, k) refl in
    let q : find (is_later_line_cause block (line_key line) (line_value line)) later_line_causes ≡ Some BadLine = rw (v, k) refl in
    leads cases line (Some block) _ _ s (further block BadLine e q)
value_led cases block line value false true e v k w =
    let s : later_line_step cases block line ≡ FaultyLine RepeatedKey = rw (e, v, k, w) refl in
    let q : find (is_later_line_cause block (line_key line) (line_value line)) later_line_causes ≡ Some RepeatedKey = rw (v, k, w) refl in
    leads cases line (Some block) _ _ s (further block RepeatedKey e q)
value_led cases block line value false false e v k w =
    found_led cases block line value (name_of_key (lossy (line_key line))) (record { some = e; value_is = v; key = k; plain = w; property = refl })

further_led : (cases : List CaseDef) (block : CaseDef) (line : List ℕ) (t : Bool) (o : Option (List ℕ)) → is_empty line ≡ t → line_value line ≡ o → Led cases line (Some block) (later_line_step cases block line)
further_led cases block line true o e v =
    let s : later_line_step cases block line ≡ NextState (record { cases = cases ++ block ∷ []; block = None }) = rw e refl in
    leads cases line (Some block) _ _ s (ends block e)
further_led cases block line false None e v =
    let s : later_line_step cases block line ≡ FaultyLine BadLine = rw (e, v) refl in
    let q : find (is_later_line_cause block (line_key line) (line_value line)) later_line_causes ≡ Some BadLine = rw v refl in
    leads cases line (Some block) _ _ s (further block BadLine e q)
further_led cases block line false (Some value) e v =
    value_led cases block line value (is_empty (line_key line)) (bytes_eq (lossy (line_key line)) (codes "ident")) e v refl refl

-- `step_from` gives each line its specified next state or its fault.
pub led_by : (cases : List CaseDef) (block : Option CaseDef) (line : List ℕ) → Led cases line block (step_from cases block line)
led_by cases None line = first_led cases line (line_ident line) refl
led_by cases (Some block) line = further_led cases block line (is_empty line) (line_value line) refl refl

-- ---- the specified next state is unique

-- `step_from` of a valid line gives its specified next state.
pub step_goes : (cases : List CaseDef) (block : Option CaseDef) (line : List ℕ) (next : ReaderState) → IsNextState cases line block next → step_from cases block line ≡ NextState next
step_goes cases None line next (begins name e f g) = ap (λ (o : Option (List ℕ)). first_line_step cases (case_name_in o)) e ∙ rw (f, g) refl
step_goes cases (Some block) line next (gives _ value property e v k w p g h) =
    let s : property_line_step cases (set_property block (Some property) (lossy value)) ≡ NextState (record { cases = cases; block = Some (with_property block property (lossy value)) }) = rw (g, h) refl in
    stepped cases block line value (Some property) (record { some = e; value_is = v; key = k; plain = w; property = p }) ∙ s
step_goes cases (Some block) line next (ends _ e) = rw e refl
