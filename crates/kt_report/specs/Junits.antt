-- The JUnit report of a run.
use Rattle.std.specs.Prelude.{ℕ, List, [], ◌∷◌, ◌++◌, codes, length, flat_map}
use Rattle.std.specs.Fmt.{decimal}
use Rattle.kt_base.specs.declared.verdict.Kind.{Kind}
use Rattle.kt_base.specs.declared.verdict.Kind.TheVariants.{Passed, Skipped, ExpectedFailure, Failed, Broken}
use Rattle.kt_base.specs.declared.entry.Entry.{Entry}
use Rattle.kt_base.specs.declared.entry.Run.{Run}
use Rattle.kt_base.specs.Utf8.{utf8}
use Rattle.kt_report.specs.Digits.{seconds_bytes}
use Rattle.kt_report.specs.Cases.{case_texts}
use Rattle.kt_report.specs.Layouts.{Layout}
use Rattle.kt_report.specs.declared.case_texts.CaseTexts.{CaseTexts}
use Rattle.kt_report.specs.Texts.{kind_count_bytes}

-- `result_element kind reason`: the XML element for a verdict of the kind `kind` with the escaped
-- reason `reason`, or nothing if the kind has no element.
abbrev pub result_element : Kind → List ℕ → List ℕ
result_element Passed reason = []
result_element ExpectedFailure reason = []
result_element Skipped reason = codes "<skipped/>\n"
result_element Failed reason = codes "<failure message=\"" ++ utf8 reason ++ codes "\"/>\n"
result_element Broken reason = codes "<error message=\"" ++ utf8 reason ++ codes "\"/>\n"

-- `output_element name text`: the XML element `name` for the escaped output `text` of a case, or
-- nothing if `text` is empty.
abbrev pub output_element : List ℕ → List ℕ → List ℕ
output_element name [] = []
output_element name (c ∷ text) = codes "<" ++ name ++ codes ">" ++ utf8 (c ∷ text) ++ codes "</" ++ name ++ codes ">\n"

-- `case_element texts kind millis`: the XML element of a case with the escaped texts `texts`, a
-- verdict of the kind `kind`, and a duration of `millis` milliseconds.
abbrev pub case_element : CaseTexts → Kind → ℕ → List ℕ
case_element texts kind millis =
    codes "<testcase classname=\"" ++ utf8 texts.program ++ codes "\" name=\"" ++ utf8 texts.case_name ++ codes "\" time=\"" ++ seconds_bytes millis ++ codes "\">\n"
    ++ result_element kind texts.reason ++ output_element (codes "system-out") texts.out ++ output_element (codes "system-err") texts.err ++ codes "</testcase>\n"

-- `case_bytes e`: the XML element of the entry `e` in the JUnit report.
abbrev pub case_bytes : Entry → List ℕ
case_bytes e = case_element (case_texts e) e.verdict.kind e.millis

-- `junit_start run`: the bytes of the JUnit report of `run` before its first case.
abbrev pub junit_start : Run → List ℕ
junit_start run =
    codes "<?xml version=\"1.0\" encoding=\"utf-8\"?>\n<testsuite tests=\"" ++ decimal (length run.entries) ++ codes "\" failures=\"" ++ kind_count_bytes Failed run.entries ++ codes "\" errors=\"" ++ kind_count_bytes Broken run.entries
    ++ codes "\" skipped=\"" ++ kind_count_bytes Skipped run.entries ++ codes "\">\n"

-- `junit_end`: the bytes of a JUnit report after its last case.
abbrev pub junit_end : List ℕ
junit_end = codes "</testsuite>\n"

-- `junit_bytes run`: the JUnit report of `run`, which has a case for each entry, in the order of
-- entries.
abbrev pub junit_bytes : Run → List ℕ
junit_bytes run = junit_start run ++ flat_map case_bytes run.entries ++ junit_end

-- `junit_layout run`: the `Layout` of the JUnit report of `run`: its bytes as functions of the
-- entries that were read so far.
abbrev pub junit_layout : Run → Layout
junit_layout run = record { first = λ shown. junit_start run ++ flat_map case_bytes shown; next = λ shown e. []; last = junit_end }
