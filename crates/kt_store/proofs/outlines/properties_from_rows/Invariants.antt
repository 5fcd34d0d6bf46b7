use Rattle.kt_store.proofs.Common.{AllByRecursion, IsEncodableProperty, List, Variable, map, pair_columns, take, ◌≡◌}
use Rattle.kt_store.proofs.outlines.properties_from_rows.Given as goal

abbrev pub invariant-loop-row : goal.invariant-loop-row
invariant-loop-row l = (vs : List Variable) → AllByRecursion IsEncodableProperty vs → l.rows ≡ map pair_columns vs → l.pairs ≡ map (λ v. v) (take l.row-index vs)
