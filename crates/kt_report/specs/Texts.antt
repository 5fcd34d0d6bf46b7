-- The text report of a run.
use Rattle.std.specs.Prelude.{ℕ, ◌/◌, ◌%◌, Bool, true, false, if◌then◌else◌, List, [], ◌∷◌, ◌++◌, codes, length, flat_map, sum_by, pos, unsigned_abs, min, ◌≡◌, Option, Some, None}
use Rattle.std.specs.List.{filter, list_any}
use Rattle.std.specs.Fmt.{decimal}
use Rattle.jiff_core.specs.declared.civil.date.Date.{Date}
use Rattle.jiff_core.specs.Date.{epoch_day}
use Rattle.kt_base.specs.Limits.{latest_moment_millis}
use Rattle.kt_base.specs.declared.verdict.Kind.{Kind}
use Rattle.kt_base.specs.declared.verdict.Kind.TheVariants.{Passed, Skipped, ExpectedFailure, Failed, Broken}
use Rattle.kt_base.specs.declared.entry.Entry.{Entry}
use Rattle.kt_base.specs.declared.entry.Run.{Run}
use Rattle.kt_report.specs.Digits.{two_digits, three_digits, four_digits, seconds_bytes}
use Rattle.kt_report.specs.Layouts.{Layout}
use Rattle.kt_report.specs.Pairs.{entry_bytes}

-- `is_same_kind kind other`: `true` if the kinds `kind` and `other` are equal.
abbrev pub is_same_kind : Kind → Kind → Bool
is_same_kind Passed Passed = true
is_same_kind Skipped Skipped = true
is_same_kind ExpectedFailure ExpectedFailure = true
is_same_kind Failed Failed = true
is_same_kind Broken Broken = true
is_same_kind _ _ = false

-- `has_kind kind e`: `true` if the verdict of the entry `e` is of the kind `kind`.
abbrev pub has_kind : Kind → Entry → Bool
has_kind kind e = is_same_kind kind e.verdict.kind

-- `entries_of kind entries`: those of `entries` whose verdicts are of the kind `kind`, in order.
abbrev pub entries_of : Kind → List Entry → List Entry
entries_of kind entries = filter (has_kind kind) entries

-- `section_title kind`: the title of the section of the kind `kind`.
abbrev pub section_title : Kind → List ℕ
section_title Passed = codes "Passed tests"
section_title Skipped = codes "Skipped tests"
section_title ExpectedFailure = codes "Expected failures"
section_title Broken = codes "Broken tests"
section_title Failed = codes "Failed tests"

-- `section_order`: the kinds of verdicts, in the order of their sections in the text report.
abbrev pub section_order : List Kind
section_order = Passed ∷ Skipped ∷ ExpectedFailure ∷ Broken ∷ Failed ∷ []

-- `chosen_entries kinds entries kind`: those of `entries` whose verdicts are of the kind `kind`, if
-- `kind` is one of the chosen kinds `kinds`, otherwise no entries.
abbrev pub chosen_entries : List Kind → List Entry → Kind → List Entry
chosen_entries kinds entries kind = if list_any (is_same_kind kind) kinds then entries_of kind entries else []

-- `entries_by_section kinds entries`: those of `entries` whose verdicts are of the chosen kinds
-- `kinds`, in the order of the sections.
abbrev pub entries_by_section : List Kind → List Entry → List Entry
entries_by_section kinds entries = flat_map (chosen_entries kinds entries) section_order

-- `title_line kind`: the line with the title of the section of the kind `kind`.
abbrev pub title_line : Kind → List ℕ
title_line kind = codes "===> " ++ section_title kind ++ codes "\n"

-- `titled_section verbose kind entries`: the title of the section of `kind`, and the lines of
-- `entries`, or nothing if there are no entries. Lines of properties follow each entry if `verbose`
-- is true.
abbrev pub titled_section : Bool → Kind → List Entry → List ℕ
titled_section verbose kind [] = []
titled_section verbose kind (e ∷ entries) = title_line kind ++ flat_map (entry_bytes verbose) (e ∷ entries)

-- `section verbose kinds entries kind`: the section of `kind` in a report of `entries`, or nothing
-- if `kind` is not one of the chosen kinds `kinds`. Lines of properties follow each entry if
-- `verbose` is true.
abbrev pub section : Bool → List Kind → List Entry → Kind → List ℕ
section verbose kinds entries kind = titled_section verbose kind (chosen_entries kinds entries kind)

-- `sections verbose kinds entries`: the sections of the chosen kinds `kinds` in a report of
-- `entries`, in the order `section_order`. Lines of properties follow each entry if `verbose` is
-- true.
abbrev pub sections : Bool → List Kind → List Entry → List ℕ
sections verbose kinds entries = flat_map (section verbose kinds entries) section_order

-- `title_line_after before kind`: the line with the title of the section of `kind`. It is empty if
-- the preceding entry is of the same kind. `before` is the kind of that entry, or `None` for the
-- first entry.
abbrev pub title_line_after : Option Kind → Kind → List ℕ
title_line_after None kind = title_line kind
title_line_after (Some before) kind = if is_same_kind before kind then [] else title_line kind

-- `last_kind before entries`: the kind of the last of `entries`, or `before` if there are no
-- entries.
abbrev pub last_kind : Option Kind → List Entry → Option Kind
last_kind before [] = before
last_kind before (e ∷ entries) = last_kind (Some e.verdict.kind) entries

-- `titled_lines verbose before entries`: the lines of `entries`, with the titles of their sections.
-- A title precedes each entry whose kind differs from the kind of the preceding entry. `before` is
-- the kind of the entry before `entries`, if any. Lines of properties follow each entry if
-- `verbose` is true.
abbrev pub titled_lines : Bool → Option Kind → List Entry → List ℕ
titled_lines verbose before [] = []
titled_lines verbose before (e ∷ entries) = title_line_after before e.verdict.kind ++ (entry_bytes verbose e ++ titled_lines verbose (Some e.verdict.kind) entries)

-- `sections_layout verbose before end`: the `Layout` of a report with a line for each entry and a
-- title for each section. `before` is the kind of the entry before the first entry, if any. The
-- bytes `end` are the end of the report. Lines of properties follow each entry if `verbose` is
-- true.
abbrev pub sections_layout : Bool → Option Kind → List ℕ → Layout
sections_layout verbose before end = record { first = titled_lines verbose before; next = λ shown e. title_line_after (last_kind before shown) e.verdict.kind; last = end }

-- `printable_moment moment`: the timestamp that is printed for `moment`: `moment` itself, or the
-- last timestamp of the year 9999 if `moment` is later.
abbrev pub printable_moment : ℕ → ℕ
printable_moment moment = min moment latest_moment_millis

-- `IsDateOf moment date`: `date` is the civil date, in UTC, of the timestamp that is printed for
-- `moment`.
abbrev pub IsDateOf : ℕ → Date → Type 0
IsDateOf moment date = epoch_day date ≡ pos (printable_moment moment / 86400000)

-- `time_of_day_bytes millis`: the time of day that is `millis` milliseconds after midnight, in the
-- form `22:13:20.123`.
abbrev pub time_of_day_bytes : ℕ → List ℕ
time_of_day_bytes millis = two_digits (millis / 3600000) ++ codes ":" ++ two_digits (millis / 60000 % 60) ++ codes ":" ++ two_digits (millis / 1000 % 60) ++ codes "." ++ three_digits (millis % 1000)

-- `date_bytes date`: the date `date` in the form `2023-11-14`.
abbrev pub date_bytes : Date → List ℕ
date_bytes date = four_digits (unsigned_abs date.year) ++ codes "-" ++ two_digits date.month ++ codes "-" ++ two_digits date.day

-- `moment_bytes date moment`: the bytes that are printed for the timestamp `moment`, whose date is
-- `date`, in the form `2023-11-14T22:13:20.123Z`.
abbrev pub moment_bytes : Date → ℕ → List ℕ
moment_bytes date moment = date_bytes date ++ codes "T" ++ time_of_day_bytes (printable_moment moment % 86400000) ++ codes "Z"

-- `unfinished_bytes finished`: the text `, unfinished` if `finished` is false, otherwise nothing.
abbrev pub unfinished_bytes : Bool → List ℕ
unfinished_bytes true = []
unfinished_bytes false = codes ", unfinished"

-- `kind_count_bytes kind entries`: the number of `entries` whose verdicts are of the kind `kind`,
-- in decimal.
abbrev pub kind_count_bytes : Kind → List Entry → List ℕ
kind_count_bytes kind entries = decimal (length (entries_of kind entries))

-- `summary_title_bytes date run`: the title of the summary, the number of `run` and the timestamp
-- of its start, whose date is `date`. The text `, unfinished` follows if the run is not finished.
abbrev pub summary_title_bytes : Date → Run → List ℕ
summary_title_bytes date run = codes "===> Summary\nRun " ++ decimal run.number ++ codes ", started " ++ moment_bytes date run.started ++ unfinished_bytes run.finished

-- `totals_bytes entries`: the number of `entries`, and the number of entries of each kind of
-- verdict except `passed`.
abbrev pub totals_bytes : List Entry → List ℕ
totals_bytes entries =
    codes "\nTest cases: " ++ decimal (length entries) ++ codes " total, " ++ kind_count_bytes Skipped entries ++ codes " skipped, " ++ kind_count_bytes ExpectedFailure entries ++ codes " expected failures, "
    ++ kind_count_bytes Broken entries ++ codes " broken, " ++ kind_count_bytes Failed entries ++ codes " failed\n"

-- `summary date run`: the summary of `run`: its number and start, the counts of its recorded
-- entries, and the sum of their durations. `date` is the date of its start.
abbrev pub summary : Date → Run → List ℕ
summary date run = summary_title_bytes date run ++ totals_bytes run.entries ++ codes "Total time: " ++ seconds_bytes (sum_by (λ e. e.millis) run.entries) ++ codes "s\n"

-- `text_bytes date kinds verbose run`: the text report of `run`: the sections of the chosen kinds
-- `kinds` and the summary. `date` is the date of the run's start. If `verbose` is true, the
-- sections have the properties of each case.
abbrev pub text_bytes : Date → List Kind → Bool → Run → List ℕ
text_bytes date kinds verbose run = sections verbose kinds run.entries ++ summary date run

-- `text_layout date verbose run`: the `Layout` of the text report of `run`: its bytes as functions
-- of the entries that were read so far. `date` is the date of the run's start. If `verbose` is
-- true, the sections have the properties of each case.
abbrev pub text_layout : Date → Bool → Run → Layout
text_layout date verbose run = sections_layout verbose None (summary date run)
