-- The texts of a case, escaped for XML.
use Rattle.std.specs.Prelude.{true, false, ◌++◌}
use Rattle.kt_base.specs.declared.entry.Entry.{Entry}
use Rattle.kt_base.specs.declared.entry.Output.{Output}
use Rattle.kt_base.specs.Lossy.{lossy}
use Rattle.kt_report.specs.declared.case_texts.CaseTexts.{CaseTexts}
use Rattle.kt_report.specs.Escapes.{escaped_text}

-- `with_outputs e body cleanup`: the entry `e` with the output `body` of its body and the output
-- `cleanup` of its cleanup.
abbrev pub with_outputs : Entry → Output → Output → Entry
with_outputs e body cleanup = record e { body = body; cleanup = cleanup }

-- `case_texts e`: the texts of the entry `e` in the JUnit report, escaped for XML. The output of
-- the body precedes that of the cleanup. Each of these outputs is decoded separately, and its bytes
-- that are not UTF-8 become U+FFFD.
abbrev pub case_texts : Entry → CaseTexts
case_texts e = record {
  program = escaped_text true e.program;
  case_name = escaped_text true e.case_name;
  reason = escaped_text true e.verdict.reason;
  out = escaped_text false (lossy e.body.out ++ lossy e.cleanup.out);
  err = escaped_text false (lossy e.body.err ++ lossy e.cleanup.err);
}
