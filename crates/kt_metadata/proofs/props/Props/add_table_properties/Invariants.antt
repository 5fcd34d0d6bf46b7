use Rattle.std.proofs.Common.{◌≡◌, ◌++◌, drop, map}
use Rattle.kt_metadata.proofs.Common.{texts_of, row_in, property_pairs}
use Rattle.kt_metadata.proofs.props.Props.add_table_properties.Given as goal

-- The pairs so far, followed by the pairs of the remaining rows, are all pairs.
abbrev pub invariant-loop-row : goal.invariant-loop-row
invariant-loop-row l = l.pairs ++ property_pairs (texts_of l.self) (map row_in (drop l.row-index l.rows)) ≡ l.initial.pairs ++ property_pairs (texts_of l.self) (map row_in l.rows)
