-- The meaning of a text as a filter.
use Rattle.std.specs.Prelude.{ℕ, ◌≡◌, Bool, not, ◌==◌, ◌&&◌, List, [], ◌∷◌, Option, Some, None, Result, Ok, Err, filter, bytes_eq, codes, if◌then◌else◌}
use Rattle.std.specs.List.{slice_split, join_with_byte}
use Rattle.kt_suite.specs.Types.{Filter, FilterFault}
use Rattle.kt_suite.specs.declared.filter.FilterFault.TheVariants.{NoMemory, Empty, Absolute, EmptyCase}
use Rattle.kt_base.specs.Characters.{is_slash}
use Rattle.kt_base.specs.Texts.{is_empty, before, after}

-- `is_kept_component component`: the path component `component` is neither empty nor `.`, so
-- `normalized_path` keeps it.
abbrev pub is_kept_component : List ℕ → Bool
is_kept_component component = not (is_empty component) && not (bytes_eq component (codes "."))

-- `components path`: the components of the path `path`, without those that are empty or `.`.
abbrev pub components : List ℕ → List (List ℕ)
components path = filter is_kept_component (slice_split is_slash path)

-- `normalized_path path`: the path `path` without the components that are empty or `.`. A slash
-- (47) separates the other components.
abbrev pub normalized_path : List ℕ → List ℕ
normalized_path path = join_with_byte 47 (components path)

-- `case_fault case_name`: the error `EmptyCase` if the optional case `case_name` of a filter's text
-- is present but empty, otherwise `None`.
abbrev pub case_fault : Option (List ℕ) → Option FilterFault
case_fault None = None
case_fault (Some name) = if is_empty name then Some EmptyCase else None

-- `parts_fault path case_name`: the first error of a filter's text with the path `path` and the
-- optional case `case_name`, or `None` if there is no error. The errors are an empty path, an
-- absolute path and an empty case, in this order.
abbrev pub parts_fault : List ℕ → Option (List ℕ) → Option FilterFault
parts_fault [] case_name = Some Empty
parts_fault (c ∷ path) case_name = if c == 47 then Some Absolute else case_fault case_name

-- `FilterResult`: a filter, or the error of a text that isn't a filter.
abbrev pub FilterResult : Type 0
FilterResult = Result Filter FilterFault

-- `filter_of path case_name`: the filter with the path `path` and the optional case `case_name`, or
-- the error `Empty` if `path` is empty.
abbrev pub filter_of : List ℕ → Option (List ℕ) → FilterResult
filter_of [] case_name = Err Empty
filter_of (c ∷ path) case_name = Ok (record { program = c ∷ path; case_name = case_name })

-- `fault_or_meaning fault meaning`: the error `fault` if it is present, otherwise the meaning
-- `meaning` of a filter's text.
abbrev pub fault_or_meaning : Option FilterFault → FilterResult → FilterResult
fault_or_meaning None meaning = meaning
fault_or_meaning (Some fault) meaning = Err fault

-- `filter_meaning text`: the filter that `text` represents, or its first error. The first colon
-- (58) separates the path from the case.
abbrev pub filter_meaning : List ℕ → FilterResult
filter_meaning text =
    fault_or_meaning (parts_fault (before 58 text) (after 58 text)) (filter_of (normalized_path (before 58 text)) (after 58 text))

-- `IsFilterResult result meaning`: `result` is the result of parsing a filter's text that has the
-- meaning `meaning`. It is this meaning, or the error of a failed allocation.
abbrev pub IsFilterResult : Result Filter FilterFault → FilterResult → Type 0
IsFilterResult (Err (NoMemory refusal)) meaning = Unit {0}
IsFilterResult found meaning = found ≡ meaning
