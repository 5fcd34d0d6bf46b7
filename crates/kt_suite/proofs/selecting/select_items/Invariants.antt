use Rattle.std.proofs.Common.{◌≡◌, ◌++◌, drop}
use Rattle.kt_suite.proofs.Common.{filter, passing_positions, is_selected, selected_positions, unmatched_positions}
use Rattle.kt_suite.proofs.Picking.{is_unmatched_at}
use Rattle.kt_suite.proofs.selecting.select_items.Given as goal

-- The positions so far, followed by the positions of the remaining items, are all positions. The
-- unmatched filters without the matches of the remaining items are the final unmatched filters.
abbrev pub invariant-loop-item : goal.invariant-loop-item
invariant-loop-item l = record {
  found : l.cases.items ++ passing_positions (is_selected l.filters) l.place (drop l.item-index l.items) ≡ selected_positions l.items l.filters;
  counted : l.place ≡ l.item-index;
  left : filter (is_unmatched_at (drop l.item-index l.items) l.filters) l.unmatched.items ≡ unmatched_positions l.items l.filters;
}
