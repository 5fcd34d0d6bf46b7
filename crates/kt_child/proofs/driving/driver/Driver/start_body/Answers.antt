use Rattle.std.proofs.Common.{◌≡◌, ℕ, ◌∙◌, List, ap, arith, inr}
use Rattle.kt_child.proofs.Common.{Body, CaseAttempt, Paths, cases_of, count_at, case_of, is_among, paths_of}
use Rattle.kt_child.proofs.BoardSteps.{board_started}
use Rattle.kt_child.proofs.CaseCounts.{none_among, none_shown}
use Rattle.kt_child.proofs.driving.driver.Driver.start_body.Goals as goal

pub start_attempt-requires-clause-free : goal.start_attempt-requires-clause-free
start_attempt-requires-clause-free g c =
    let b = c.args.self.now.running in
    let i = c.args.job.now.position in
    let p : count_at i (cases_of b.children) ≡ 0 = none_shown (cases_of b.children) i c.requires.may.0 c.requires.may.1 in
    let q : count_at i b.pending ≡ 0 = none_among b.pending i c.requires.may.2 in
    omega (arith, p, q)

pub returns-in-Ok : goal.returns-in-Ok
returns-in-Ok g c =
    let b = c.start_attempt.ensures.begun in
    let job = c.args.job.now in
    let taken = c.in-Some.ensures in
    let case = case_of job Body c.in-Some.attempt c.in-Ok.paths in
    let case_is = ap (λ (p : Paths). case_of job Body c.in-Some.attempt p) c.in-Ok.ensures
    ∙ ap (λ (n : ℕ). case_of job Body n (paths_of c.args.self.now.root n)) taken.1 in
    let after = board_started c.args.self.now.running _ job case c.start_attempt.result c.start_attempt.ensures.state in
    record {
      starts = (
        (b.0, b.1, inr (case, ((taken.0, taken.1, c.start_attempt.ensures.next ∙ taken.2), after.1, case_is), b.2, after.0)),
        c.start_attempt.ensures.source,
        c.start_attempt.ensures.root,
      );
      moment = c.start_attempt.ensures.moment;
      running = c.start_attempt.ensures.running;
      pending = λ j. ap (λ (cases : List CaseAttempt). is_among cases j) after.1;
    }
