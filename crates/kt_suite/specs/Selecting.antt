-- The cases that filters select.
use Rattle.std.specs.Prelude.{ℕ, Bool, true, not, ◌+◌, List, [], ◌∷◌, if◌then◌else◌}
use Rattle.std.specs.List.{list_any}
use Rattle.kt_suite.specs.Types.{Filter, Item}
use Rattle.kt_suite.specs.Matching.{matches}

-- `item_limit`: the maximum number of items, which are test cases, to select from.
abbrev pub item_limit : ℕ
item_limit = 100000

-- `passing_positions test n xs`: the positions of the elements of the list `xs` that pass the test
-- `test`, ascending. The first element has the position `n`.
abbrev pub passing_positions : {A : Type 0} → (A → Bool) → ℕ → List A → List ℕ
passing_positions test n [] = []
passing_positions test n (x ∷ xs) = if test x then n ∷ passing_positions test (n + 1) xs else passing_positions test (n + 1) xs

-- `matches_item item filter`: the filter `filter` matches the test case `item`.
abbrev pub matches_item : Item → Filter → Bool
matches_item item filter = matches filter item.path item.case_name

-- `is_selected filters item`: the filters `filters` select the test case `item`: one of them
-- matches `item`, or there is no filter.
abbrev pub is_selected : List Filter → Item → Bool
is_selected [] item = true
is_selected (filter ∷ filters) item = list_any (matches_item item) (filter ∷ filters)

-- `selected_positions items filters`: the positions of the items in the list `items` that the
-- filters `filters` select, ascending, from 0.
abbrev pub selected_positions : List Item → List Filter → List ℕ
selected_positions items filters = passing_positions (is_selected filters) 0 items

-- `is_unmatched items filter`: the filter `filter` matches none of the test cases `items`.
abbrev pub is_unmatched : List Item → Filter → Bool
is_unmatched items filter = not (list_any (λ item. matches_item item filter) items)

-- `unmatched_positions items filters`: the positions of the filters in the list `filters` that
-- match none of the items `items`, ascending, from 0.
abbrev pub unmatched_positions : List Item → List Filter → List ℕ
unmatched_positions items filters = passing_positions (is_unmatched items) 0 filters
