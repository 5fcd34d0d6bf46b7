use Rattle.std.proofs.Common.{◌∙◌, ap, List, ℕ, codes}
use Rattle.std.proofs.lemmas.Result.{IfOk-weaker}
use Rattle.kt_metadata.proofs.Common.{chars, unsupported_reason_text}
use Rattle.kt_metadata.proofs.requirements.platform_reason.Goals as goal

pub returns : goal.returns
unfolding chars
returns c = IfOk-weaker c.unsupported_reason.result _ _ (λ reason e.
    e ∙ ap (λ (listed : List (List ℕ)). unsupported_reason_text (codes "Current platform '") listed (chars c.platform.result.now)) c.as_slice-listed.ensures
    ∙ ap (unsupported_reason_text (codes "Current platform '") c.args.meta.now.allowed_platforms) c.platform.ensures) c.unsupported_reason.ensures
