-- The entries of maps with string keys, as variables and as suites.
use Rattle.std.proofs.Common.{◌≡◌, ℕ, Bool, true, false, List, [], ◌∷◌, ◌++◌, refl, sym, ap, ◌∙◌, subst, map, Option, Some, None, unwrap_or, if◌then◌else◌}
use Rattle.kt_config.proofs.Common.{chars, bytes_eq, IsUtf8, string_bytes, string_eq, insert_entry, Variable, is_named, last_values, same, same-refl, SetsSuiteVariable, suite_in, SuiteValues, variables_of, variable_in}
use Rattle.std.specs.declared.string.String.{String}
use Rattle.std.specs.Map.{lookup, set_value}
use Rattle.std.proofs.lemmas.Str.{IsUtf8-string_bytes}
use Rattle.kt_base.proofs.Texts.{key-chars}
use Rattle.kt_config.proofs.Puttings.{put, first_value}

-- ---- variables

inserted-next : {Z : Type 0} (k : String Z) (v : List ℕ) (e : String Z × List ℕ) (es : List (String Z × List ℕ))
    → map variable_in (insert_entry string_eq es k v) ≡ put (map variable_in es) (variable_in (k, v))
    → (b : Bool) → string_eq k e.0 ≡ b → is_named (chars (string_bytes k)) (variable_in e) ≡ b
    → map variable_in (insert_entry string_eq (e ∷ es) k v) ≡ put (map variable_in (e ∷ es)) (variable_in (k, v))
inserted-next k v e es h true t n = rw (t, n) refl
inserted-next k v e es h false t n = rw (t, n) (ap (λ (ps : List Variable). variable_in e ∷ ps) h)

-- inserting an entry into the map is `put` of its variable
pub inserted : {Z : Type 0} (k : String Z) (v : List ℕ) (es : List (String Z × List ℕ)) → map variable_in (insert_entry string_eq es k v) ≡ put (map variable_in es) (variable_in (k, v))
inserted k v [] = refl
inserted k v (e ∷ es) =
    inserted-next k v e es (inserted k v es) (string_eq k e.0) refl (sym (key-chars (string_bytes k) (IsUtf8-string_bytes k) e.0))

found-next : {Z : Type 0} (q : List ℕ) (e : String Z × List ℕ) (es : List (String Z × List ℕ))
    → lookup (λ k. bytes_eq q (string_bytes k)) es ≡ first_value (chars q) (map variable_in es)
    → (b : Bool) → bytes_eq q (string_bytes e.0) ≡ b → is_named (chars q) (variable_in e) ≡ b
    → lookup (λ k. bytes_eq q (string_bytes k)) (e ∷ es) ≡ first_value (chars q) (map variable_in (e ∷ es))
found-next q e es h true t n = rw (t, n) refl
found-next q e es h false t n = rw (t, n) h

-- looking up a key in the map returns the first value of its name
pub found : {Z : Type 0} (q : List ℕ) → IsUtf8 q → (es : List (String Z × List ℕ)) → lookup (λ k. bytes_eq q (string_bytes k)) es ≡ first_value (chars q) (map variable_in es)
found q u [] = refl
found q u (e ∷ es) = found-next q e es (found q u es) (bytes_eq q (string_bytes e.0)) refl (sym (key-chars q u e.0))

-- ---- suites

suite-next : {Z : Type 0} (q : List ℕ) (e : String Z × List Variable) (es : List (String Z × List Variable))
    → lookup (λ k. bytes_eq q (string_bytes k)) es ≡ variables_of (chars q) (map suite_in es)
    → (b : Bool) → bytes_eq q (string_bytes e.0) ≡ b → bytes_eq (chars q) (chars (string_bytes e.0)) ≡ b
    → lookup (λ k. bytes_eq q (string_bytes k)) (e ∷ es) ≡ variables_of (chars q) (map suite_in (e ∷ es))
suite-next q e es h true t n = rw (t, n) refl
suite-next q e es h false t n = rw (t, n) h

-- looking up a key in the map returns the variables of its suite
pub suite-found : {Z : Type 0} (q : List ℕ) → IsUtf8 q → (es : List (String Z × List Variable)) → lookup (λ k. bytes_eq q (string_bytes k)) es ≡ variables_of (chars q) (map suite_in es)
suite-found q u [] = refl
suite-found q u (e ∷ es) = suite-next q e es (suite-found q u es) (bytes_eq q (string_bytes e.0)) refl (sym (key-chars q u e.0))

-- a suite whose variables are set in place has the new variables
written-next : {Z : Type 0} (q : List ℕ) (x w : List Variable) (e : String Z × List Variable) (es : List (String Z × List Variable))
    → (lookup (λ k. bytes_eq q (string_bytes k)) es ≡ Some x → variables_of (chars q) (map suite_in (set_value (λ k. bytes_eq q (string_bytes k)) es w)) ≡ Some w)
    → (b : Bool) → bytes_eq q (string_bytes e.0) ≡ b → bytes_eq (chars q) (chars (string_bytes e.0)) ≡ b
    → lookup (λ k. bytes_eq q (string_bytes k)) (e ∷ es) ≡ Some x
    → variables_of (chars q) (map suite_in (set_value (λ k. bytes_eq q (string_bytes k)) (e ∷ es) w)) ≡ Some w
written-next q x w e es h true t n there = rw (t, n) refl
written-next q x w e es h false t n there = let l : lookup (λ k. bytes_eq q (string_bytes k)) es ≡ Some x = rw t at there in rw (t, n) (h l)

written : {Z : Type 0} (q : List ℕ) → IsUtf8 q → (x w : List Variable) (es : List (String Z × List Variable)) → lookup (λ k. bytes_eq q (string_bytes k)) es ≡ Some x
    → variables_of (chars q) (map suite_in (set_value (λ k. bytes_eq q (string_bytes k)) es w)) ≡ Some w
written q u x w [] there = absurd (cc)
written q u x w (e ∷ es) there = written-next q x w e es (λ l. written q u x w es l) (bytes_eq q (string_bytes e.0)) refl (sym (key-chars q u e.0)) there

-- setting the variables of a suite keeps the variables of the other suites
beside-next : {Z : Type 0} (q other : List ℕ) (w : List Variable) (e : String Z × List Variable) (es : List (String Z × List Variable)) → bytes_eq other (chars q) ≡ false
    → variables_of other (map suite_in (set_value (λ k. bytes_eq q (string_bytes k)) es w)) ≡ variables_of other (map suite_in es)
    → (b : Bool) → bytes_eq q (string_bytes e.0) ≡ b → bytes_eq (chars q) (chars (string_bytes e.0)) ≡ b
    → variables_of other (map suite_in (set_value (λ k. bytes_eq q (string_bytes k)) (e ∷ es) w)) ≡ variables_of other (map suite_in (e ∷ es))
beside-next q other w e es apart h true t n =
    let f : bytes_eq other (chars (string_bytes e.0)) ≡ false = subst (λ (m : List ℕ). bytes_eq other m ≡ false) (same (chars q) (chars (string_bytes e.0)) n) apart in
    rw (t, f) refl
beside-next q other w e es apart h false t n = rw t (ap (λ (o : Option (List Variable)). if bytes_eq other (chars (string_bytes e.0)) then Some e.1 else o) h)

beside : {Z : Type 0} (q : List ℕ) → IsUtf8 q → (other : List ℕ) (w : List Variable) (es : List (String Z × List Variable)) → bytes_eq other (chars q) ≡ false
    → variables_of other (map suite_in (set_value (λ k. bytes_eq q (string_bytes k)) es w)) ≡ variables_of other (map suite_in es)
beside q u other w [] apart = refl
beside q u other w (e ∷ es) apart = beside-next q other w e es apart (beside q u other w es apart) (bytes_eq q (string_bytes e.0)) refl (sym (key-chars q u e.0))

-- setting a suite's variables to the same variables changes nothing
unwritten-next : {Z : Type 0} (q : List ℕ) (x : List Variable) (e : String Z × List Variable) (es : List (String Z × List Variable))
    → (lookup (λ k. bytes_eq q (string_bytes k)) es ≡ Some x → map suite_in (set_value (λ k. bytes_eq q (string_bytes k)) es x) ≡ map suite_in es)
    → (b : Bool) → bytes_eq q (string_bytes e.0) ≡ b → lookup (λ k. bytes_eq q (string_bytes k)) (e ∷ es) ≡ Some x
    → map suite_in (set_value (λ k. bytes_eq q (string_bytes k)) (e ∷ es) x) ≡ map suite_in (e ∷ es)
unwritten-next q x e es h true t there =
    let l : Some e.1 ≡ Some x = rw t at there in
    rw t (ap (λ (o : Option (List Variable)). record { suite = chars (string_bytes e.0); variables = unwrap_or o x } ∷ map suite_in es) (sym l))
unwritten-next q x e es h false t there =
    let l : lookup (λ k. bytes_eq q (string_bytes k)) es ≡ Some x = rw t at there in
    rw t (ap (λ (gs : List SuiteValues). suite_in e ∷ gs) (h l))

pub unwritten : {Z : Type 0} (q : List ℕ) (x : List Variable) (es : List (String Z × List Variable)) → lookup (λ k. bytes_eq q (string_bytes k)) es ≡ Some x
    → map suite_in (set_value (λ k. bytes_eq q (string_bytes k)) es x) ≡ map suite_in es
unwritten q x [] there = refl
unwritten q x (e ∷ es) there = unwritten-next q x e es (λ l. unwritten q x es l) (bytes_eq q (string_bytes e.0)) refl there

-- a suite that is inserted has the inserted variables
new-next : {Z : Type 0} (k : String Z) (w : List Variable) (e : String Z × List Variable) (es : List (String Z × List Variable))
    → variables_of (chars (string_bytes k)) (map suite_in (insert_entry string_eq es k w)) ≡ Some w
    → (b : Bool) → string_eq k e.0 ≡ b → bytes_eq (chars (string_bytes k)) (chars (string_bytes e.0)) ≡ b
    → variables_of (chars (string_bytes k)) (map suite_in (insert_entry string_eq (e ∷ es) k w)) ≡ Some w
new-next k w e es h true t n = rw (t, n) refl
new-next k w e es h false t n = rw (t, n) h

new_suite : {Z : Type 0} (k : String Z) (w : List Variable) (es : List (String Z × List Variable)) → variables_of (chars (string_bytes k)) (map suite_in (insert_entry string_eq es k w)) ≡ Some w
new_suite k w [] = rw (same-refl (chars (string_bytes k))) refl
new_suite k w (e ∷ es) = new-next k w e es (new_suite k w es) (string_eq k e.0) refl (sym (key-chars (string_bytes k) (IsUtf8-string_bytes k) e.0))

-- inserting a suite keeps the variables of the other suites
old-next : {Z : Type 0} (k : String Z) (other : List ℕ) (w : List Variable) (e : String Z × List Variable) (es : List (String Z × List Variable)) → bytes_eq other (chars (string_bytes k)) ≡ false
    → variables_of other (map suite_in (insert_entry string_eq es k w)) ≡ variables_of other (map suite_in es)
    → (b : Bool) → string_eq k e.0 ≡ b → bytes_eq (chars (string_bytes k)) (chars (string_bytes e.0)) ≡ b
    → variables_of other (map suite_in (insert_entry string_eq (e ∷ es) k w)) ≡ variables_of other (map suite_in (e ∷ es))
old-next k other w e es apart h true t n =
    let f : bytes_eq other (chars (string_bytes e.0)) ≡ false = subst (λ (m : List ℕ). bytes_eq other m ≡ false) (same (chars (string_bytes k)) (chars (string_bytes e.0)) n) apart in
    rw (t, f) refl
old-next k other w e es apart h false t n = rw t (ap (λ (o : Option (List Variable)). if bytes_eq other (chars (string_bytes e.0)) then Some e.1 else o) h)

old_suite : {Z : Type 0} (k : String Z) (other : List ℕ) (w : List Variable) (es : List (String Z × List Variable)) → bytes_eq other (chars (string_bytes k)) ≡ false
    → variables_of other (map suite_in (insert_entry string_eq es k w)) ≡ variables_of other (map suite_in es)
old_suite k other w [] apart = rw apart refl
old_suite k other w (e ∷ es) apart = old-next k other w e es apart (old_suite k other w es apart) (string_eq k e.0) refl (sym (key-chars (string_bytes k) (IsUtf8-string_bytes k) e.0))

-- ---- a variable of a suite

-- setting a variable of a suite that is in the map adds the variable to the suite
pub adds-there : {Z : Type 0} (q suite : List ℕ) (v : Variable) (x w : List Variable) (es fs : List (String Z × List Variable)) (old : List SuiteValues) → IsUtf8 q → chars q ≡ suite
    → map suite_in es ≡ old → lookup (λ k. bytes_eq q (string_bytes k)) es ≡ Some x → w ≡ last_values (x ++ v ∷ []) → fs ≡ set_value (λ k. bytes_eq q (string_bytes k)) es w
    → SetsSuiteVariable suite v old (map suite_in fs)
adds-there q suite v x w es fs old u c m there e f =
    let had : variables_of suite old ≡ Some x = sym (ap (variables_of suite) m) ∙ ap (λ (s : List ℕ). variables_of s (map suite_in es)) (sym c) ∙ sym (suite-found q u es) ∙ there in
    record {
      own = ap (λ xs. variables_of suite (map suite_in xs)) f ∙ ap (λ (s : List ℕ). variables_of s (map suite_in (set_value (λ k. bytes_eq q (string_bytes k)) es w))) (sym c)
          ∙ written q u x w es there ∙ ap (λ (xs : List Variable). Some xs) e ∙ ap (λ (o : Option (List Variable)). Some (last_values (unwrap_or o [] ++ v ∷ []))) (sym had);
      others = λ other apart. ap (λ xs. variables_of other (map suite_in xs)) f
          ∙ beside q u other w es (ap (bytes_eq other) c ∙ apart) ∙ ap (variables_of other) m;
    }

-- inserting a suite with one variable adds the variable to the suite
pub adds-new : {Z : Type 0} (q suite : List ℕ) (k : String Z) (v : Variable) (w : List Variable) (es fs : List (String Z × List Variable)) (old : List SuiteValues) → IsUtf8 q → chars q ≡ suite
    → map suite_in es ≡ old → lookup (λ k. bytes_eq q (string_bytes k)) es ≡ None → chars (string_bytes k) ≡ suite → w ≡ last_values (v ∷ []) → fs ≡ insert_entry string_eq es k w
    → SetsSuiteVariable suite v old (map suite_in fs)
adds-new q suite k v w es fs old u c m none n e f =
    let had : variables_of suite old ≡ None = sym (ap (variables_of suite) m) ∙ ap (λ (s : List ℕ). variables_of s (map suite_in es)) (sym c) ∙ sym (suite-found q u es) ∙ none in
    record {
      own = ap (λ xs. variables_of suite (map suite_in xs)) f ∙ ap (λ (s : List ℕ). variables_of s (map suite_in (insert_entry string_eq es k w))) (sym n)
          ∙ new_suite k w es ∙ ap (λ (xs : List Variable). Some xs) e ∙ ap (λ (o : Option (List Variable)). Some (last_values (unwrap_or o [] ++ v ∷ []))) (sym had);
      others = λ other apart. ap (λ xs. variables_of other (map suite_in xs)) f
          ∙ old_suite k other w es (ap (bytes_eq other) n ∙ apart) ∙ ap (variables_of other) m;
    }
