use Rattle.std.proofs.Common.{◌∙◌}
use Rattle.kt_plan.proofs.Common.{encode}
use Rattle.kt_plan.proofs.selection_error.SelectionError.print.Goals as goal

pub returns-in-UnreadableConfiguration : goal.returns-in-UnreadableConfiguration
unfolding encode
returns-in-UnreadableConfiguration g c = rw c.in-UnreadableConfiguration.is c.emit-in-UnreadableConfiguration.ensures

pub returns-in-NeedsCase : goal.returns-in-NeedsCase
unfolding encode
returns-in-NeedsCase g c = rw c.in-NeedsCase.is c.emit-in-NeedsCase.ensures

pub returns-in-TooManyCases : goal.returns-in-TooManyCases
unfolding encode
returns-in-TooManyCases g c = rw c.in-TooManyCases.is (rw (c.as_bytes-in-TooManyCases.ensures.value ∙ c.message.ensures) at c.emit-in-TooManyCases.ensures)
