-- The lines of entries, and the totals of a run.
use Rattle.std.specs.Prelude.{ℕ, List, ◌++◌, codes, flat_map, count_by, not}
use Rattle.kt_cli.specs.Types.{Entry, decimal, line_bytes}
use Rattle.kt_base.specs.Kinds.{good as is_good}

-- `good_count entries`: the number of `entries` with a good verdict: passed, skipped or expected
-- failure.
abbrev pub good_count : List Entry → ℕ
good_count entries = count_by (λ (e : Entry). is_good e.verdict.kind) entries

-- `bad_count entries`: the number of `entries` with a bad verdict: failed or broken.
abbrev pub bad_count : List Entry → ℕ
bad_count entries = count_by (λ (e : Entry). not (is_good e.verdict.kind)) entries

-- `totals_text good total bad`: an empty line and the totals of a run, as `1/3 passed (2 failed)`.
-- `good` of its `total` cases passed, were skipped or failed as expected, and `bad` cases failed or
-- are broken.
abbrev pub totals_text : ℕ → ℕ → ℕ → List ℕ
totals_text good total bad = codes "\n" ++ decimal good ++ codes "/" ++ decimal total ++ codes " passed (" ++ decimal bad ++ codes " failed)\n"

-- `lines entries`: the result lines of `entries`, in order and in bytes.
abbrev pub lines : List Entry → List ℕ
lines entries = flat_map line_bytes entries
