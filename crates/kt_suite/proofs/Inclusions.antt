-- The marks of a statement's step, with the file that it includes.
use Rattle.std.proofs.Common.{Bool, true, false, nat_le, bytes_eq, if◌then◌else◌, Some, None, Result, Ok, Err, ◌≡◌, ◌<◌, ◌+◌, ℕ, List, [], ◌∷◌, ◌++◌, length, arith, refl, sym, subst, ap}
use Rattle.kt_suite.proofs.Common.{nat_tests, list_any, IncludeLoop, TooDeep, append-nil, SuiteFault, Meaning, Registry, LoadStep, Next, Enter, Asked, Site, Mark, File, Part, Includes, statement_parts, include_cause, Unfolds, end, entered, file_limit, LoadsMarks, through, HasFileMarks, HasMeaningMarks, StepsTo, goes, enters, fails}
use Rattle.kt_suite.proofs.Walking.{walked-then}
use Rattle.kt_suite.proofs.Unfolding.{unfolds_to}

module _ {T : Type 0} {asks : T → Asked → T → Type 0} where
  -- The marks of an included file are marks of its include.
  walk_include : {old new : T} {r : Registry} {at : Site} {m : Meaning} {path : List ℕ} {result : Result Registry SuiteFault}
      → statement_parts at true m ≡ Includes at path ∷ [] → include_cause r.open_kyuafiles path ≡ None → r.files < file_limit
      → LoadsMarks asks old new (HasFileMarks r.open_kyuafiles path) (record r { files = r.files + 1 }) result → LoadsMarks asks old new (HasMeaningMarks r.open_kyuafiles at m) r result
  walk_include {old = old} {r = r} {at = at} {m = m} {path = path} p e n w =
      let one : LoadsMarks asks old old (λ (ms : List Mark). ms ≡ File at ∷ []) r (Ok (record r { files = r.files + 1 })) = through (File at ∷ []) _ refl refl (n, refl) in
      walked-then one w (λ a marks q g. subst (λ (ms : List Mark). HasMeaningMarks r.open_kyuafiles at m (ms ++ marks)) (sym q)
      (record {
        there = true;
        unfolds = subst (λ (ps : List Part). Unfolds r.open_kyuafiles ps (File at ∷ marks)) (sym p)
            (unfolds_to r.open_kyuafiles (Includes at path ∷ []) (File at ∷ (marks ++ [])) (File at ∷ marks) (ap (λ (ms : List Mark). File at ∷ ms) (append-nil marks))
            (entered r.open_kyuafiles at path g.parts marks [] [] e g.says g.unfolds (end r.open_kyuafiles)));
      }))

  -- A failed step walks the statement up to its error.
  pub step_stops : {old new : T} {r : Registry} {at : Site} {m : Meaning} {fault : SuiteFault} → StepsTo asks old new r at m (Err fault)
      → LoadsMarks asks old new (HasMeaningMarks r.open_kyuafiles at m) r (Err fault)
  step_stops (fails fault w) = w

  -- A step to the next statement walks all marks of the statement.
  pub step_next : {old new : T} {r after : Registry} {at : Site} {m : Meaning} {step : LoadStep} → step ≡ Next after → StepsTo asks old new r at m (Ok step)
      → LoadsMarks asks old new (HasMeaningMarks r.open_kyuafiles at m) r (Ok after)
  step_next {old = old} {new = new} {r = r} {after = after} {at = at} {m = m} is s = gone_on (subst (λ (x : LoadStep). StepsTo asks old new r at m (Ok x)) is s)
    where
      gone_on : StepsTo asks old new r at m (Ok (Next after)) → LoadsMarks asks old new (HasMeaningMarks r.open_kyuafiles at m) r (Ok after)
      gone_on (goes _ w) = w

  -- A step into a file, and then the walk of the file, walk all marks of the statement.
  pub step_inner : {mid sub new : T} {r next : Registry} {at : Site} {m : Meaning} {path : List ℕ} {step : LoadStep} {result : Result Registry SuiteFault} → step ≡ Enter next path
      → StepsTo asks mid sub r at m (Ok step) → LoadsMarks asks sub new (HasFileMarks next.open_kyuafiles path) next result → LoadsMarks asks mid new (HasMeaningMarks r.open_kyuafiles at m) r result
  step_inner {mid = mid} {sub = sub} {new = new} {r = r} {at = at} {m = m} {result = result} is s w = gone_in (subst (λ (x : LoadStep). StepsTo asks mid sub r at m (Ok x)) is s) w
    where
      gone_in : {next : Registry} {path : List ℕ} → StepsTo asks mid sub r at m (Ok (Enter next path)) → LoadsMarks asks sub new (HasFileMarks next.open_kyuafiles path) next result
          → LoadsMarks asks mid new (HasMeaningMarks r.open_kyuafiles at m) r result
      gone_in (enters path p e n same) v =
          walk_include p e n (subst (λ t. LoadsMarks asks t new (HasFileMarks r.open_kyuafiles path) (record r { files = r.files + 1 }) result) same v)

not_le : (n : ℕ) (b : Bool) → nat_le 32 n ≡ b → (if b then Some TooDeep else None) ≡ None → n < 32
not_le n true h e = absurd (cc)
not_le n false h e = grind (arith, nat_tests)

below : (loop : Bool) (n : ℕ) → (if loop then Some IncludeLoop else if nat_le 32 n then Some TooDeep else None) ≡ None → n < 32
below true n e = absurd (cc)
below false n e = not_le n (nat_le 32 n) refl e

pub entered_below : (files : List (List ℕ)) (path : List ℕ) → include_cause files path ≡ None → length files < 32
entered_below files path e = below (list_any (bytes_eq path) files) (length files) e
