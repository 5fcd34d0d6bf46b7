use Rattle.std.proofs.Common.{false, ap}
use Rattle.kt_report.specs.Cases.{with_outputs}
use Rattle.kt_report.specs.Junits.{case_bytes}
use Rattle.kt_report.proofs.HiddenParts.{same_text, same_heading}
use Rattle.kt_report.proofs.text_report.theorem_of_hidden_parts.Goals as goal

pub returns-clause-text : goal.returns-clause-text
returns-clause-text c change date kinds verbose run same = same_text verbose change same date kinds run

pub returns-clause-heading : goal.returns-clause-heading
returns-clause-heading c change run same = same_heading false change same run

pub returns-clause-case : goal.returns-clause-case
returns-clause-case c change e body cleanup same = ap (λ x. case_bytes (with_outputs x body cleanup)) (same e)
