-- The pairs of a table, one by one.
use Rattle.std.proofs.Common.{Option, Some, None, Result, Ok, Err, ◌≡◌, List, [], ◌∷◌, ◌++◌, arith, sym, ap, ◌∙◌}
use Rattle.kt_suite.proofs.Common.{append_assoc, Variable, Pair, SuiteCause, ProgramTable, table_with, option_or, definition, definitions, pair_cause, first_invalid_pair_cause, table_of, cause_or_value, declared}

-- `TableSoFar found rest pairs`: no pair of `pairs` before its suffix `rest` has an error, and
-- `found` is the table that these pairs declare.
pub record TableSoFar (found : ProgramTable) (rest pairs : List Pair) : Type 0 where
  pub before : List Variable
  pub is : found ≡ table_of before
  pub whole : before ++ definitions rest ≡ definitions pairs
  pub fault : first_invalid_pair_cause (definitions rest) ≡ first_invalid_pair_cause (definitions pairs)

ok_unless : (fault : Option SuiteCause) (next table : ProgramTable) → ◌≡◌ {A = Result ProgramTable SuiteCause} (Ok next) (cause_or_value fault table) → (fault ≡ None) × (next ≡ table)
ok_unless fault next table e = (grind (arith, e), grind (arith, e))

err_unless : (fault : Option SuiteCause) (cause : SuiteCause) (table : ProgramTable) → ◌≡◌ {A = Result ProgramTable SuiteCause} (Err cause) (cause_or_value fault table) → fault ≡ Some cause
err_unless fault cause table e = grind (arith, e)

-- The first error of the remaining pairs is the error of the next pair, or else of the others.
left_fault : (pair : Pair) (after rest pairs : List Pair) → rest ≡ pair ∷ after → first_invalid_pair_cause (definitions rest) ≡ first_invalid_pair_cause (definitions pairs)
    → option_or (pair_cause (definition pair)) (first_invalid_pair_cause (definitions after)) ≡ first_invalid_pair_cause (definitions pairs)
left_fault pair after rest pairs e f = ap (λ (ps : List Pair). first_invalid_pair_cause (definitions ps)) (sym e) ∙ f

pub table_next : (found next : ProgramTable) (pair : Pair) (after rest pairs : List Pair) → rest ≡ pair ∷ after → (s : TableSoFar found rest pairs)
    → ◌≡◌ {A = Result ProgramTable SuiteCause} (Ok next) (table_with s.before (definition pair)) → TableSoFar next after pairs
table_next found next pair after rest pairs e s h =
    let u = ok_unless (pair_cause (definition pair)) next (table_of (s.before ++ definition pair ∷ [])) h in
    record {
      before = s.before ++ definition pair ∷ [];
      is = u.1;
      whole = append_assoc s.before (definition pair ∷ []) (definitions after) ∙ ap (λ (ps : List Pair). s.before ++ definitions ps) (sym e) ∙ s.whole;
      fault = ap (λ (f : Option SuiteCause). option_or f (first_invalid_pair_cause (definitions after))) (sym u.0) ∙ left_fault pair after rest pairs e s.fault;
    }

pub table_stops : (found : ProgramTable) (cause : SuiteCause) (pair : Pair) (after rest pairs : List Pair) → rest ≡ pair ∷ after → (s : TableSoFar found rest pairs)
    → ◌≡◌ {A = Result ProgramTable SuiteCause} (Err cause) (table_with s.before (definition pair)) → ◌≡◌ {A = Result ProgramTable SuiteCause} (Err cause) (declared pairs)
table_stops found cause pair after rest pairs e s h =
    let u = err_unless (pair_cause (definition pair)) cause (table_of (s.before ++ definition pair ∷ [])) h in
    ap (λ (f : Option SuiteCause). cause_or_value f (table_of (definitions pairs)))
    (ap (λ (f : Option SuiteCause). option_or f (first_invalid_pair_cause (definitions after))) (sym u) ∙ left_fault pair after rest pairs e s.fault)
