-- Filters that match a common test case.
use Rattle.std.specs.Prelude.{ℕ, ◌≡◌, ◌<◌, Bool, ◌&&◌, ◌||◌, IsTrue, List, Option, Some, None, take, find, slice_get, option_map, option_and_then, bytes_eq, if◌then◌else◌}
use Rattle.std.specs.Option.{option_eq}
use Rattle.kt_suite.specs.Types.{Filter, FilterFault}
use Rattle.kt_suite.specs.declared.filter.FilterFault.TheVariants.{Repeated, NotDisjoint}
use Rattle.kt_suite.specs.Matching.{is_within, matches}

-- `is_same_filter filter other`: the filters `filter` and `other` have the same path and the same
-- case.
abbrev pub is_same_filter : Filter → Filter → Bool
is_same_filter filter other = bytes_eq filter.program other.program && option_eq bytes_eq filter.case_name other.case_name

-- `parts_cover program case other`: the filter with the path `program` and the optional case `case`
-- matches each test case that the filter `other` matches.
abbrev pub parts_cover : List ℕ → Option (List ℕ) → Filter → Bool
parts_cover program None other = is_within program other.program
parts_cover program (Some own) other = bytes_eq program other.program && option_eq bytes_eq (Some own) other.case_name

-- `covers filter other`: the filter `filter` matches each test case that the filter `other`
-- matches.
abbrev pub covers : Filter → Filter → Bool
covers filter other = parts_cover filter.program filter.case_name other

-- `overlaps filter other`: the filter `filter` matches each test case that the filter `other`
-- matches, or `other` matches each test case that `filter` matches.
abbrev pub overlaps : Filter → Filter → Bool
overlaps filter other = covers filter other || covers other filter

-- `ShareCase filter other`: there is a test case that both filters, `filter` and `other`, match.
abbrev pub ShareCase : Filter → Filter → Type 0
ShareCase filter other = (path case_name : List ℕ) × IsTrue (matches filter path case_name) × IsTrue (matches other path case_name)

-- `clash position filter earlier`: the error of the filter `filter`, which is at the position
-- `position` and overlaps with the earlier filter `earlier`. It is `Repeated` if the two filters
-- are equal, otherwise `NotDisjoint`.
abbrev pub clash : ℕ → Filter → Filter → FilterFault
clash position filter earlier = if is_same_filter filter earlier then Repeated position else NotDisjoint position

-- `overlap_fault filters position`: the error of the filter at the position `position` in the list
-- `filters`, or `None` if this filter overlaps with no earlier filter. Two filters overlap if both
-- match some test case. The error depends on the first earlier filter that overlaps with this
-- filter.
abbrev pub overlap_fault : List Filter → ℕ → Option FilterFault
overlap_fault filters position =
    option_and_then (λ filter. option_map (clash position filter) (find (overlaps filter) (take position filters))) (slice_get filters position)

-- `IsDisjoint filters`: no two filters in the list `filters` match a common test case.
abbrev pub IsDisjoint : List Filter → Type 0
IsDisjoint filters = (position : ℕ) → overlap_fault filters position ≡ None

-- `IsFirstFault filters fault`: `fault` is the error of the first filter in the list `filters` that
-- overlaps with an earlier filter.
abbrev pub IsFirstFault : List Filter → FilterFault → Type 0
IsFirstFault filters fault =
    (position : ℕ) × (overlap_fault filters position ≡ Some fault) × ((before : ℕ) → before < position → overlap_fault filters before ≡ None)
