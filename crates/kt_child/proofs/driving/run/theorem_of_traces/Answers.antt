use Rattle.kt_child.proofs.TraceRuns.{ends_follow}
use Rattle.kt_child.proofs.driving.run.theorem_of_traces.Goals as goal

pub returns : goal.returns
returns g c = ends_follow g.O.Os.leads (λ d. d) _ _ (λ d e job role answer h. h) (λ d e ended h. h)
