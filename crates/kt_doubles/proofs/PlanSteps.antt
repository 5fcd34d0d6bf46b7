-- Appending a job to a plan.
use Rattle.std.proofs.Common.{slice_get, Some, refl, ◌≡◌, ℕ, zero, suc, ◌+◌, ◌⊎◌, List, [], ◌∷◌, ◌++◌, length, inl, inr, sym, ◌∙◌, ap, subst, arith}
use Rattle.kt_doubles.proofs.Common.{Job, IsPlan, IsStartableJob}
use Rattle.kt_sched.proofs.Lists.{in_append}
use Rattle.std.proofs.lemmas.Option.{same_Some}

-- A plan with a fitting job appended is a plan if the job's position is the plan's length.
pub plan_more : (jobs : List Job) (job : Job) → IsPlan jobs → job.position ≡ length jobs → IsStartableJob job → IsPlan (jobs ++ job ∷ [])
plan_more jobs job h p f = record {
  placed = λ i j g. placed i j (in_append jobs (job ∷ []) i j g);
  fit = λ i j g. fits i j (in_append jobs (job ∷ []) i j g);
}
  where
    last : (m : ℕ) (j : Job) → slice_get (job ∷ []) m ≡ Some j → (m ≡ 0) × (job ≡ j)
    last zero j g = (refl, same_Some job j g)
    last (suc m) j g = absurd (cc)

    placed : (i : ℕ) (j : Job) → (slice_get jobs i ≡ Some j) ⊎ ((m : ℕ) × (i ≡ length jobs + m) × (slice_get (job ∷ []) m ≡ Some j)) → j.position ≡ i
    placed i j (inl g) = h.placed i j g
    placed i j (inr w) =
        let l = last w.0 j w.2 in
        ap (λ (x : Job). x.position) (sym l.1) ∙ (p ∙ omega (arith, w.1, l.0))

    fits : (i : ℕ) (j : Job) → (slice_get jobs i ≡ Some j) ⊎ ((m : ℕ) × (i ≡ length jobs + m) × (slice_get (job ∷ []) m ≡ Some j)) → IsStartableJob j
    fits i j (inl g) = h.fit i j g
    fits i j (inr w) = subst IsStartableJob (last w.0 j w.2).1 f
