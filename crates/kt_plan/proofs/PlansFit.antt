-- A plan of any cases meets the scheduler's precondition.
use Rattle.std.proofs.Common.{Some, slice_get, ◌&&◌, ◌≡◌, ◌∙◌, ℕ, zero, suc, Bool, true, List, arith, refl, subst, sym}
use Rattle.kt_plan.proofs.Common.{Atf, Tap, Plain, Values, Host, Job, IsStartableJob, IsPlan, Candidate, ArePlanned, no_job, planned, IsJobOf, is_atf, candidate_meta}
use Rattle.kt_base.specs.declared.child.Interface.{Interface}
use Rattle.kt_metadata.specs.Effective.{texts_of}
use Rattle.kt_metadata.proofs.Timeouts.{IsTimeout, timeout-within}
use Rattle.kt_plan.proofs.PlanLaws.{placed_from}
use Rattle.std.proofs.lemmas.Option.{same_Some}

-- Only an ATF program has cleanups.
atf_alone : (interface : Interface) (declared : Bool) → (is_atf interface && declared) ≡ true → interface ≡ Atf
atf_alone Atf declared e = refl
atf_alone Tap declared e = absurd (cc)
atf_alone Plain declared e = absurd (cc)

module _ (config : Values) (host : Host) where
  -- The job of a case meets the scheduler's precondition.
  job_fits : (position : ℕ) (candidate : Candidate) (job : Job) → IsJobOf config host position candidate job → IsStartableJob job
  job_fits position candidate job is =
      let t = subst IsTimeout (sym is.timeout) (timeout-within (texts_of candidate.case.props)) in
      record {
        timed = t.0;
        limited = t.1;
        cleanup = λ e. is.interface ∙ atf_alone candidate.interface (candidate_meta candidate).has_cleanup (sym is.cleanup ∙ e);
      }

  -- Each job of a plan meets the scheduler's precondition.
  jobs_fit : (position : ℕ) (cases : List Candidate) (plan : List Job) → ArePlanned config host position cases plan → (i : ℕ) (job : Job) → slice_get plan i ≡ Some job → IsStartableJob job
  jobs_fit position _ _ (no_job _) i job e = absurd (cc)
  jobs_fit position _ _ (planned _ candidate cases first plan is rest) zero job e = subst IsStartableJob (same_Some first job e) (job_fits position candidate first is)
  jobs_fit position _ _ (planned _ candidate cases first plan is rest) (suc i) job e = jobs_fit (suc position) cases plan rest i job e

  -- A plan meets the scheduler's precondition.
  pub plan_fits : (cases : List Candidate) (plan : List Job) → ArePlanned config host 0 cases plan → IsPlan plan
  plan_fits cases plan all = record {
    placed = λ i job e. placed_from config host 0 cases plan all i job e ∙ omega arith;
    fit = jobs_fit 0 cases plan all;
  }
