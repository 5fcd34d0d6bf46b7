-- A table with one more definition.
use Rattle.std.proofs.Common.{codes, cond, Option, Some, None, Result, Ok, if◌then◌else◌, ◌≡◌, ℕ, Bool, true, false, List, [], ◌∷◌, ◌++◌, bytes_eq, refl, sym, ap, ◌∙◌, subst}
use Rattle.kt_suite.proofs.Common.{filter, option_or, append-nil, filter-append, Variable, Pair, text_of, SuiteCause, ProgramTable, key_named, props_with, with_props, table_with, definition, is_property, value_cause, key_cause, pair_cause, table_of, cause_or_value}
use Rattle.kt_base.specs.LastValues.{value_of, last_values}
use Rattle.kt_base.proofs.Names.{same, same-flip, value_of-append}
use Rattle.kt_metadata.specs.Properties.{is_kyuafile_property, definition_fault}
use Rattle.kt_suite.specs.declared.table.KeyKind.{KeyKind}
use Rattle.kt_suite.specs.declared.table.KeyKind.TheVariants as key

-- The properties of two lists are the properties of each.
properties-append : (pairs more : List Variable) → filter is_property (pairs ++ more) ≡ filter is_property pairs ++ filter is_property more
properties-append pairs more = filter-append is_property pairs more

-- A pair with another name has no value for a keyword.
other_value : (word : List ℕ) (pair : Variable) → bytes_eq pair.name word ≡ false → value_of word (pair ∷ []) ≡ None
other_value word pair e = ap (λ (b : Bool). option_or None (if b then Some pair.value else None)) (same-flip word pair.name ∙ e)

-- `KeySays name key`: the key `name` has the spelling that the kind `key` requires: `name`,
-- `test_suite`, or a property that a Kyuafile may set. The kind `Unknown` requires nothing.
abbrev KeySays : List ℕ → KeyKind → Type 0
KeySays n key.Name = n ≡ codes "name"
KeySays n key.TestSuite = n ≡ codes "test_suite"
KeySays n key.Property = (bytes_eq n (codes "name") ≡ false) × (bytes_eq n (codes "test_suite") ≡ false) × (is_kyuafile_property n ≡ true)
KeySays n key.Unknown = Unit {0}

key_says : (n : List ℕ) (k : KeyKind) → k ≡ key_named n → KeySays n k
key_says n k is =
    subst (KeySays n) (sym is) (by (bytes_eq n (codes "name")) (bytes_eq n (codes "test_suite")) (is_kyuafile_property n) refl refl refl)
  where
    by : (a b c : Bool) → bytes_eq n (codes "name") ≡ a → bytes_eq n (codes "test_suite") ≡ b → is_kyuafile_property n ≡ c
        → KeySays n (if a then key.Name else if b then key.TestSuite else if c then key.Property else key.Unknown)
    by true b c e f g = same n (codes "name") e
    by false true c e f g = same n (codes "test_suite") f
    by false false true e f g = (e, f, g)
    by false false false e f g = tt

-- The three parts of a table with one more definition.
three_parts : (before : List Variable) (pair : Variable) (name suite : Option (List ℕ)) (props : List Variable)
    → value_of (codes "name") (before ++ pair ∷ []) ≡ name → value_of (codes "test_suite") (before ++ pair ∷ []) ≡ suite → filter is_property (before ++ pair ∷ []) ≡ props
    → table_of (before ++ pair ∷ []) ≡ record { name = name; suite = suite; props = last_values props }
three_parts before pair name suite props n s p = rw (n, s, p) refl

-- A pair with the key `name` sets the name of the table.
push_name : (before : List Variable) (text : List ℕ) → table_of (before ++ (record { name = codes "name"; value = text }) ∷ []) ≡ record (table_of before) { name = Some text }
push_name before text =
    let pair : Variable = record { name = codes "name"; value = text } in
    three_parts before pair (Some text) (value_of (codes "test_suite") before) (filter is_property before) (value_of-append (codes "name") before (pair ∷ [])) (value_of-append (codes "test_suite") before (pair ∷ []))
    (properties-append before (pair ∷ []) ∙ append-nil (filter is_property before))

-- A pair with the key `test_suite` sets the test suite of the table.
push_suite : (before : List Variable) (text : List ℕ) → table_of (before ++ (record { name = codes "test_suite"; value = text }) ∷ []) ≡ record (table_of before) { suite = Some text }
push_suite before text =
    let pair : Variable = record { name = codes "test_suite"; value = text } in
    three_parts before pair (value_of (codes "name") before) (Some text) (filter is_property before) (value_of-append (codes "name") before (pair ∷ [])) (value_of-append (codes "test_suite") before (pair ∷ []))
    (properties-append before (pair ∷ []) ∙ append-nil (filter is_property before))

one_kept : (p : Variable → Bool) (pair : Variable) → p pair ≡ true → filter p (pair ∷ []) ≡ pair ∷ []
one_kept p pair e = ap (λ (b : Bool). cond b (pair ∷ []) []) e

-- A pair with the name of a property sets the property.
push_property : (before : List Variable) (pair : Variable) → (bytes_eq pair.name (codes "name") ≡ false) × (bytes_eq pair.name (codes "test_suite") ≡ false) × (is_kyuafile_property pair.name ≡ true)
    → table_of (before ++ pair ∷ []) ≡ record (table_of before) { props = last_values (filter is_property before ++ pair ∷ []) }
push_property before pair k =
    three_parts before pair (value_of (codes "name") before) (value_of (codes "test_suite") before) (filter is_property before ++ pair ∷ [])
    (value_of-append (codes "name") before (pair ∷ []) ∙ ap (λ (o : Option (List ℕ)). option_or o (value_of (codes "name") before)) (other_value (codes "name") pair k.0))
    (value_of-append (codes "test_suite") before (pair ∷ []) ∙ ap (λ (o : Option (List ℕ)). option_or o (value_of (codes "test_suite") before)) (other_value (codes "test_suite") pair k.1))
    (properties-append before (pair ∷ []) ∙ ap (λ (ps : List Variable). filter is_property before ++ ps) (one_kept is_property pair k.2))

-- A pair changes the table by the kind of its key.
by_key : (before : List Variable) (pair : Variable) (k : KeyKind) (table : ProgramTable) → k ≡ key_named pair.name → table_of (before ++ pair ∷ []) ≡ table → cause_or_value (key_cause k pair) table ≡ table_with before pair
by_key before pair k table e t = ap (λ (x : KeyKind). cause_or_value (key_cause x pair) table) e ∙ ap (λ (x : ProgramTable). cause_or_value (pair_cause pair) x) (sym t)

pub takes_name : (before : List Variable) (pair : Pair) (found : ProgramTable) (text : List ℕ) → key.Name ≡ key_named pair.name → text ≡ text_of pair.value → found ≡ table_of before
    → ◌≡◌ {A = Result ProgramTable SuiteCause} (Ok (record found { name = Some text })) (table_with before (definition pair))
takes_name before pair found text e t f =
    let n : pair.name ≡ codes "name" = key_says pair.name key.Name e in
    let d : ◌≡◌ {A = Variable} (definition pair) (record { name = codes "name"; value = text }) = ap (λ (x : List ℕ). record { name = x; value = text_of pair.value }) n ∙ ap (λ (x : List ℕ). record { name = codes "name"; value = x }) (sym t) in
    let made : table_of (before ++ definition pair ∷ []) ≡ record found { name = Some text } =
    ap (λ (x : Variable). table_of (before ++ x ∷ [])) d ∙ push_name before text ∙ ap (λ (x : ProgramTable). record x { name = Some text }) (sym f) in
    by_key before (definition pair) key.Name (record found { name = Some text }) e made

pub takes_suite : (before : List Variable) (pair : Pair) (found : ProgramTable) (text : List ℕ) → key.TestSuite ≡ key_named pair.name → text ≡ text_of pair.value → found ≡ table_of before
    → ◌≡◌ {A = Result ProgramTable SuiteCause} (Ok (record found { suite = Some text })) (table_with before (definition pair))
takes_suite before pair found text e t f =
    let n : pair.name ≡ codes "test_suite" = key_says pair.name key.TestSuite e in
    let d : ◌≡◌ {A = Variable} (definition pair) (record { name = codes "test_suite"; value = text }) = ap (λ (x : List ℕ). record { name = x; value = text_of pair.value }) n ∙ ap (λ (x : List ℕ). record { name = codes "test_suite"; value = x }) (sym t) in
    let made : table_of (before ++ definition pair ∷ []) ≡ record found { suite = Some text } =
    ap (λ (x : Variable). table_of (before ++ x ∷ [])) d ∙ push_suite before text ∙ ap (λ (x : ProgramTable). record x { suite = Some text }) (sym f) in
    by_key before (definition pair) key.TestSuite (record found { suite = Some text }) e made

unless_props : (found : ProgramTable) (fault : Option SuiteCause) (props : List Variable) → with_props found (cause_or_value fault props) ≡ cause_or_value fault (record found { props = props })
unless_props found None props = refl
unless_props found (Some cause) props = refl

pub takes_property : (before : List Variable) (pair : Pair) (found : ProgramTable) (text : List ℕ) (next : Result (List Variable) SuiteCause) → key.Property ≡ key_named pair.name → text ≡ text_of pair.value → found ≡ table_of before
    → next ≡ props_with (filter is_property before) (record { name = pair.name; value = text }) → with_props found next ≡ table_with before (definition pair)
takes_property before pair found text next e t f h =
    let k = key_says pair.name key.Property e in
    let d : ◌≡◌ {A = Variable} (record { name = pair.name; value = text }) (definition pair) = ap (λ (x : List ℕ). record { name = pair.name; value = x }) t in
    let made : table_of (before ++ definition pair ∷ []) ≡ record found { props = last_values (filter is_property before ++ definition pair ∷ []) } =
    push_property before (definition pair) k ∙ ap (λ (x : ProgramTable). record x { props = last_values (filter is_property before ++ definition pair ∷ []) }) (sym f) in
    ap (λ (x : Result (List Variable) SuiteCause). with_props found x) (h ∙ ap (λ (x : Variable). props_with (filter is_property before) x) d)
    ∙ unless_props found (value_cause (definition_fault pair.name (text_of pair.value))) (last_values (filter is_property before ++ definition pair ∷ []))
    ∙ by_key before (definition pair) key.Property (record found { props = last_values (filter is_property before ++ definition pair ∷ []) }) e made
