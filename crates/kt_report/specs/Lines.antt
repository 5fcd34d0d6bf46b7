-- The line of an entry, in the output of `test` and in the text report.
use Rattle.std.specs.Prelude.{ℕ, List, [], ◌++◌, codes}
use Rattle.kt_base.specs.declared.verdict.Kind.{Kind}
use Rattle.kt_base.specs.declared.verdict.Kind.TheVariants.{Passed}
use Rattle.kt_base.specs.declared.entry.Entry.{Entry}
use Rattle.kt_base.specs.Kinds.{kind_keyword}
use Rattle.kt_base.specs.Utf8.{utf8}
use Rattle.kt_report.specs.Digits.{seconds_bytes}

-- `printable_reason kind reason`: the bytes that are printed for the reason `reason` of a verdict
-- of the kind `kind`: a colon, a space and the reason, or nothing for a passed case.
abbrev pub printable_reason : Kind → List ℕ → List ℕ
printable_reason Passed reason = []
printable_reason _ reason = codes ": " ++ utf8 reason

-- `line_bytes e`: the line that is printed for the entry `e`: its program, case, kind of the
-- verdict, reason and duration.
abbrev pub line_bytes : Entry → List ℕ
line_bytes e = utf8 e.program ++ codes ":" ++ utf8 e.case_name ++ codes "  ->  " ++ kind_keyword e.verdict.kind ++ printable_reason e.verdict.kind e.verdict.reason ++ codes "  [" ++ seconds_bytes e.millis ++ codes "s]\n"
