use Rattle.std.proofs.Common.{◌≡◌, drop}
use Rattle.kt_suite.proofs.Common.{normalized_path}
use Rattle.kt_suite.proofs.Components.{with_components}
use Rattle.kt_suite.proofs.filter.normalized_path.Given as goal

-- The components so far, joined with the remaining components, are the plain path.
abbrev pub invariant-loop-component : goal.invariant-loop-component
invariant-loop-component l = with_components l.plain (drop l.component-index l.component-items) ≡ normalized_path l.path
