use Rattle.std.proofs.Common.{◌≡◌, ◌∙◌, ap, List, [], ℕ}
use Rattle.kt_suite.proofs.Common.{slice_split, is_slash}
use Rattle.kt_suite.proofs.Components.{with_components, with-join}
use Rattle.kt_suite.proofs.filter.normalized_path.Goals as goal

pub loop-component-init : goal.loop-component-init
loop-component-init c =
    ap (λ (path : List ℕ). with_components path c.as_slice-component-items.result.now) c.new-plain.ensures
    ∙ ap (with_components []) (c.as_slice-component-items.ensures ∙ c.in_ok-components.ensures) ∙ with-join (slice_split is_slash c.args.path.now)
