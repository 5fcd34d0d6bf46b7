use Rattle.kt_child.proofs.TraceRuns.{ends_follow}
use Rattle.kt_child.proofs.driving.run.run_driver.Goals as goal

pub returns-clause-by_trace : goal.returns-clause-by_trace
returns-clause-by_trace g c T led = ends_follow g.O.Os.leads (λ d. d) _ _ (λ d e job role answer h. h) (λ d e ended h. h) _ T _ _ led
