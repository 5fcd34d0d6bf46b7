use Rattle.std.proofs.Common.{◌≡◌, ◌∙◌, ℕ, List, refl, subst, ap}
use Rattle.kt_child.proofs.Common.{Chain, ChildrenState, Job, CaseAttempt, SpawnPlan, Call, StartsByPlan, state_after_start, job_purpose, child_timeout_seconds, case_of, spawn_plan_for, job_spawn_plan, want_of, launcher_child_in, new_running_child}
use Rattle.kt_child.specs.declared.planning.Want.{Want}
use Rattle.kt_child.proofs.StateWaits.{shown_started}
use Rattle.kt_child.proofs.driving.driver.Driver.start_attempt.Goals as goal

-- The plan with this purpose and timeout is the plan of the job's child.
planned : (source : List ℕ) (job : Job) (c : CaseAttempt) (want : Want) (limit : ℕ) → want ≡ want_of c.role → limit ≡ child_timeout_seconds job c.role
    → spawn_plan_for source (record (job_purpose job c.role) { want = want; limit = limit }) c ≡ job_spawn_plan source job c
planned source job c want limit e f = rw (e, f) refl

pub returns-in-Ok-clause-begun : goal.returns-in-Ok-clause-begun
returns-in-Ok-clause-begun g c =
    let case = case_of c.args.job.now c.args.role c.args.attempt c.args.paths in
    let B : SpawnPlan → Type 0 = λ s. (calls : List Call) × Chain g.O.Os.leads c.args.self.now.os calls c.start.new.os × StartsByPlan s calls c.start.result in
    subst B (c.in-Ok.ensures.plan ∙ planned c.args.self.now.source c.args.job.now case _ _ c.purpose_and_timeout-want.ensures.want c.purpose_and_timeout-want.ensures.limit) c.start.ensures.begun

pub returns-in-Ok-clause-state : goal.returns-in-Ok-clause-state
returns-in-Ok-clause-state g c =
    let case = case_of c.args.job.now c.args.role c.args.attempt c.args.paths in
    c.start.ensures.state ∙ ap (λ (s : SpawnPlan). state_after_start c.args.self.now.running (new_running_child s.limit case) c.start.result)
    (c.in-Ok.ensures.plan ∙ planned c.args.self.now.source c.args.job.now case _ _ c.purpose_and_timeout-want.ensures.want c.purpose_and_timeout-want.ensures.limit)

pub returns-in-Ok-clause-running : goal.returns-in-Ok-clause-running
returns-in-Ok-clause-running g c k r =
    ap (λ (s : ChildrenState). launcher_child_in s k r) (returns-in-Ok-clause-state g c)
    ∙ shown_started c.args.self.now.running c.args.job.now c.args.role c.args.attempt c.args.paths c.start.result c.requires.free k r
