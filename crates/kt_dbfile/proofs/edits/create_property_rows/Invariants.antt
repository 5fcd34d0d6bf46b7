use Rattle.kt_dbfile.proofs.Common.{AllByRecursion, IsEncodableProperty, map, pair_rows_from, take, row_without_rowid, ◌≡◌}
use Rattle.kt_dbfile.proofs.edits.create_property_rows.Given as goal

abbrev pub invariant-loop-pair : goal.invariant-loop-pair
invariant-loop-pair l =
    (l.place ≡ l.pair-index) × (l.rows.items ≡ map row_without_rowid (pair_rows_from l.run l.position 0 (take l.pair-index l.pairs))) × AllByRecursion IsEncodableProperty (take l.pair-index l.pairs)
