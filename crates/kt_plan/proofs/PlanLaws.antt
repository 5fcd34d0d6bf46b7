-- Lemmas on the jobs of a plan and their positions.
use Rattle.std.proofs.Common.{Some, slice_get, ◌≡◌, ℕ, zero, suc, ◌+◌, ◌≤◌, List, [], ◌∷◌, ◌++◌, length, arith, refl, ap, ◌∙◌, sym, subst, add-zero, add-one, append_assoc, append-nil}
use Rattle.kt_plan.proofs.Common.{Values, Host, Job, Candidate, ArePlanned, no_job, planned, IsJobOf}
use Rattle.std.proofs.lemmas.Option.{same_Some}
use Rattle.std.proofs.lemmas.List.{nil_from_length}

module _ (config : Values) (host : Host) where
  -- The job at index `i` of a plan from position `k` has the position `k + i`.
  pub placed_from : (k : ℕ) (cases : List Candidate) (plan : List Job) → ArePlanned config host k cases plan → (i : ℕ) (job : Job) → slice_get plan i ≡ Some job → job.position ≡ k + i
  placed_from k _ _ (no_job _) i job e = absurd (cc)
  placed_from k _ _ (planned _ candidate cases first plan is rest) zero job e = ap (λ (j : Job). j.position) (sym (same_Some first job e)) ∙ is.at ∙ sym (add-zero k)
  placed_from k _ _ (planned _ candidate cases first plan is rest) (suc i) job e = placed_from (suc k) cases plan rest i job e ∙ omega arith

  -- A plan has one job for each case.
  pub length_from : (k : ℕ) (cases : List Candidate) (plan : List Job) → ArePlanned config host k cases plan → length plan ≡ length cases
  length_from k _ _ (no_job _) = refl
  length_from k _ _ (planned _ candidate cases first plan is rest) = ap suc (length_from (suc k) cases plan rest)

  -- `Jobs cases position rest plan`: `plan` has the jobs of the cases before the remaining cases
  -- `rest`, whose first has the position `position`. With the jobs of `rest`, it is the plan of
  -- `cases`.
  pub record Jobs (cases : List Candidate) (position : ℕ) (rest : List Candidate) (plan : List Job) : Type 0 where
    pub goes : (more : List Job) → ArePlanned config host position rest more → ArePlanned config host 0 cases (plan ++ more)
    pub room : position + length rest ≤ 100000

  module _ (cases : List Candidate) where
    -- The job of the next case extends the plan so far.
    pub jobs_next : (position : ℕ) (rest after : List Candidate) (candidate : Candidate) (plan grown : List Job) (job : Job) → rest ≡ candidate ∷ after → Jobs cases position rest plan
        → IsJobOf config host position candidate job → grown ≡ plan ++ job ∷ [] → Jobs cases (position + 1) after grown
    jobs_next position rest after candidate plan grown job e j is g = record {
      goes = λ more h.
          subst (λ (jobs : List Job). ArePlanned config host 0 cases (jobs ++ more)) (sym g)
          (subst (λ (jobs : List Job). ArePlanned config host 0 cases jobs) (sym (append_assoc plan (job ∷ []) more))
          (j.goes (job ∷ more) (subst (λ (cs : List Candidate). ArePlanned config host position cs (job ∷ more)) (sym e)
          (planned position candidate after job more is (subst (λ (k : ℕ). ArePlanned config host k after more) (add-one position) h)))));
      room = omega (arith, j.room, ap (λ (cs : List Candidate). length cs) e);
    }

    -- If no case remains, the plan so far is the whole plan.
    pub jobs_all : (position : ℕ) (rest : List Candidate) (plan : List Job) → length rest ≡ 0 → Jobs cases position rest plan → ArePlanned config host 0 cases plan
    jobs_all position rest plan e j =
        subst (λ (jobs : List Job). ArePlanned config host 0 cases jobs) (append-nil plan) (j.goes [] (subst (λ (cs : List Candidate). ArePlanned config host position cs []) (sym (nil_from_length rest e)) (no_job position)))
