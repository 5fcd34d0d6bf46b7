use Rattle.std.proofs.Common.{◌∙◌, refl, ap, inr, rules}
use Rattle.kt_child.proofs.Common.{ChildrenState, Cleanup, case_of, child_timeout_seconds, new_running_child, state_after_start}
use Rattle.kt_child.proofs.BoardSteps.{board_started}
use Rattle.kt_child.proofs.driving.driver.Driver.start_cleanup.Goals as goal

pub returns : goal.returns
returns g c =
    let job = c.args.job.now in
    let t = c.take_pending_cleanup-owed.ensures.taken in
    let owed = c.take_pending_cleanup-owed.result in
    let case = case_of job Cleanup owed.attempt owed.paths in
    let b = c.start_attempt.ensures.begun in
    let L : ChildrenState → ChildrenState = λ s. state_after_start s (new_running_child (child_timeout_seconds job Cleanup) case) c.start_attempt.result in
    let after = board_started _ _ job case c.start_attempt.result (c.start_attempt.ensures.state ∙ ap L t.2) in
    record {
      starts = (
        (b.0, b.1, inr (case, (t.0, owed, t.1, c.take_pending_cleanup-owed.ensures.position, c.start_attempt.ensures.next, after.1, refl), b.2, after.0)),
        c.start_attempt.ensures.source,
        c.start_attempt.ensures.root,
      );
      moment = c.start_attempt.ensures.moment;
      running = search rules;
      pending = search rules;
    }
