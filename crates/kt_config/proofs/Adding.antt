-- The values of a configuration after another definition.
use Rattle.std.proofs.Common.{◌≡◌, ℕ, Bool, true, false, List, [], ◌∷◌, ◌++◌, refl, sym, ap, ◌∙◌, subst, Option, Some, None, append-nil, append_assoc, unwrap_or}
use Rattle.kt_config.proofs.Common.{bytes_eq, Variable, last_values, same, Definition, SuiteValues, Values, variables_of, architecture_in, platform_in, parallelism_in, variable_for, last_value_by, variables_set_for, non_empty_list, Adds, SetsSuiteVariable}
use Rattle.std.specs.Option.{option_or}
use Rattle.kt_config.specs.declared.meaning.Definition.TheVariants.{SuiteVariable}
use Rattle.kt_config.proofs.Puttings.{put-twice}

or-none : {A : Type 0} (o : Option A) → option_or o None ≡ o
or-none None = refl
or-none (Some x) = refl

or-or : {A : Type 0} (a b c : Option A) → option_or (option_or a b) c ≡ option_or a (option_or b c)
or-or None b c = refl
or-or (Some x) b c = refl

-- an appended definition that sets a variable replaces its last value; another one keeps that value
last_value_by-push : {A : Type 0} (given : Definition → Option A) (xs : List Definition) (d : Definition) → last_value_by given (xs ++ d ∷ []) ≡ option_or (given d) (last_value_by given xs)
last_value_by-push given [] d = sym (or-none (given d))
last_value_by-push given (x ∷ xs) d = ap (λ o. option_or o (given x)) (last_value_by-push given xs d) ∙ or-or (given d) (last_value_by given xs) (given x)

-- an appended definition appends its variable to the variables of its suite
variables_set_for-push : (suite : List ℕ) (xs : List Definition) (d : Definition) → variables_set_for suite (xs ++ d ∷ []) ≡ variables_set_for suite xs ++ variable_for suite d
variables_set_for-push suite [] d = append-nil (variable_for suite d)
variables_set_for-push suite (x ∷ xs) d =
    ap (λ (vs : List Variable). variable_for suite x ++ vs) (variables_set_for-push suite xs d) ∙ sym (append_assoc (variable_for suite x) (variables_set_for suite xs) (variable_for suite d))

unwrap-or : {A : Type 0} (a b : Option A) (x : A) → unwrap_or a (unwrap_or b x) ≡ unwrap_or (option_or a b) x
unwrap-or None b x = refl
unwrap-or (Some y) b x = refl

-- `AddsToEach d old new`: each suite has in `new` its variables in `old`, with the variable that
-- `d` sets in that suite added
abbrev pub AddsToEach : Definition → List SuiteValues → List SuiteValues → Type 0
AddsToEach d old new = (suite : List ℕ) → (before : List Definition) → variables_of suite old ≡ non_empty_list (last_values (variables_set_for suite before))
    → variables_of suite new ≡ non_empty_list (last_values (variables_set_for suite (before ++ d ∷ [])))

-- if `d` updates each value and each suite of `old`, the result `new` is `old` with `d` added
pub adds : (d : Definition) (old new : Values) → new.architecture ≡ option_or (architecture_in d) old.architecture → new.platform ≡ option_or (platform_in d) old.platform
    → new.parallelism ≡ unwrap_or (parallelism_in d) old.parallelism → AddsToEach d old.suites new.suites → Adds d old new
adds d old new a p w s = λ before h. record {
  architecture = a ∙ ap (option_or (architecture_in d)) h.architecture ∙ sym (last_value_by-push architecture_in before d);
  platform = p ∙ ap (option_or (platform_in d)) h.platform ∙ sym (last_value_by-push platform_in before d);
  parallelism = w ∙ ap (unwrap_or (parallelism_in d)) h.parallelism ∙ unwrap-or (parallelism_in d) (last_value_by parallelism_in before) 1
      ∙ ap (λ (o : Option ℕ). unwrap_or o 1) (sym (last_value_by-push parallelism_in before d));
  suites = λ suite. s suite before (h.suites suite);
}

-- a definition that does not set a suite's variable leaves each suite unchanged
pub adds-none : (d : Definition) (old new : List SuiteValues) → new ≡ old → ((suite : List ℕ) → variable_for suite d ≡ []) → AddsToEach d old new
adds-none d old new e none = λ suite before h.
    ap (variables_of suite) e ∙ h
    ∙ ap (λ (vs : List Variable). non_empty_list (last_values vs)) (sym (variables_set_for-push suite before d ∙ ap (λ (vs : List Variable). variables_set_for suite before ++ vs) (none suite) ∙ append-nil (variables_set_for suite before)))

unwrap-any : (xs : List Variable) → unwrap_or (non_empty_list xs) [] ≡ xs
unwrap-any [] = refl
unwrap-any (x ∷ xs) = refl

some-any : (xs : List Variable) (v : Variable) → Some (last_values (xs ++ v ∷ [])) ≡ non_empty_list (last_values (xs ++ v ∷ []))
some-any [] v = refl
some-any (x ∷ xs) v = refl

-- a definition of a suite's variable adds the variable to that suite
to-suite : (owner : List ℕ) (v : Variable) (old new : List SuiteValues) → SetsSuiteVariable owner v old new → (suite : List ℕ) (before : List Definition)
    → variables_of suite old ≡ non_empty_list (last_values (variables_set_for suite before)) → (b : Bool) → bytes_eq suite owner ≡ b
    → variables_of suite new ≡ non_empty_list (last_values (variables_set_for suite before ++ variable_for suite (SuiteVariable owner v)))
to-suite owner v old new a suite before h true e =
    let n : suite ≡ owner = same suite owner e in
    let own : variables_of suite new ≡ Some (last_values (unwrap_or (variables_of suite old) [] ++ v ∷ []))
    = subst (λ (s : List ℕ). variables_of s new ≡ Some (last_values (unwrap_or (variables_of s old) [] ++ v ∷ []))) (sym n) a.own in
    own ∙ ap (λ (o : Option (List Variable)). Some (last_values (unwrap_or o [] ++ v ∷ []))) h
    ∙ ap (λ (xs : List Variable). Some (last_values (xs ++ v ∷ []))) (unwrap-any (last_values (variables_set_for suite before)))
    ∙ ap (λ (xs : List Variable). Some xs) (put-twice (variables_set_for suite before) v)
    ∙ some-any (variables_set_for suite before) v
    ∙ rw e refl
to-suite owner v old new a suite before h false e =
    a.others suite e ∙ h ∙ ap (λ (vs : List Variable). non_empty_list (last_values vs)) (sym (append-nil (variables_set_for suite before))) ∙ rw e refl

pub adds-suite : (owner : List ℕ) (v : Variable) (old new : List SuiteValues) → SetsSuiteVariable owner v old new → AddsToEach (SuiteVariable owner v) old new
adds-suite owner v old new a = λ suite before h.
    to-suite owner v old new a suite before h (bytes_eq suite owner) refl
    ∙ ap (λ (vs : List Variable). non_empty_list (last_values vs)) (sym (variables_set_for-push suite before (SuiteVariable owner v)))
