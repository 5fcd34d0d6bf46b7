-- The exits of a run.
use Rattle.kt_sched.proofs.Common.{Result, Option, Some, None, is_some, Ok, Err, ◌≡◌, ℕ, List, [], refl, append-nil, take, sym, ◌∙◌, ap, subst, arith, Job, SinkFault, Totals, HoldsForEachRun, IsPlan, AreEntries, HoldsAtEachEvent, WaitsWhenBusy, Trace, recorded, body_starts, Responses, IsNext, HasStepFacts, RunsPlan, NoEvent, SchedState}
use Rattle.kt_sched.specs.Run.{EndsAs}
use Rattle.kt_sched.specs.Types.{NoMemory, RunFault, SinkFailed}
use Rattle.kt_base.specs.declared.no_memory.NoMemory.{NoMemory as Refusal}
use Rattle.kt_sched.specs.declared.next.Next.TheVariants as next
use Rattle.kt_sched.specs.declared.launcher.Launcher as launcher
use Rattle.kt_sched.specs.declared.sink.Sink as sink
use Rattle.kt_sched.proofs.Lists.{none_past}
use Rattle.kt_sched.proofs.Upcoming.{in_order}
use Rattle.kt_sched.proofs.Runs.{each_of, up_to}
use Rattle.kt_sched.proofs.Gaining.{Gained, four_calls, named_once}
use Rattle.kt_sched.proofs.Once.{named_at_most_once, recorded_first}
use Rattle.kt_sched.proofs.Loop.{Loop, fits}

module _ {L S : Type 0} (l : launcher.Ghosts L) (s : sink.Ghosts S) (plan : List Job) (n : ℕ) (old : L) (before : S) (p : IsPlan plan) where
  -- A run whose first allocation failed has started and put nothing.
  pub ran_not : (refusal : Refusal) → RunsPlan l s plan n old old before before (Err (NoMemory refusal))
  ran_not refusal = record {
    trace = NoEvent;
    leads = refl;
    fits = tt;
    calls = λ i. omega arith;
    once = named_at_most_once n NoEvent p (recorded_first plan n);
    gained = [];
    are = tt;
    kept = λ put h. subst (s.entries before) (sym (append-nil put)) h;
    ends = record { events = refl; entries = refl; same = refl };
  }

module _ {L S : Type 0} {l : launcher.Ghosts L} {s : sink.Ghosts S} {plan : List Job} {n : ℕ} {old : L} {before : S} {sched : SchedState} {mid : L} {after : S}
    {totals : Totals} {fault : Option SinkFault} (p : IsPlan plan) (k : Loop l s plan n old before sched mid after totals fault)
    (done : HoldsForEachRun sched (λ plan n fed. IsNext plan n fed next.Done)) (after_done : HoldsForEachRun sched (λ plan n fed. HasStepFacts plan n fed next.Done)) where
  abbrev fed : Responses
  fed = k.fed

  abbrev T : Trace
  T = k.fed.trace

  all : IsNext plan n fed next.Done
  all = done plan n fed k.stands

  f : HasStepFacts plan n fed next.Done
  f = after_done plan n fed k.stands

  -- If `EndsAs` holds of the entries that the sink gained, `RunsPlan` holds.
  ran : {fault : Option SinkFault} (g : Gained s plan n fed totals fault before after) (result : Result Totals RunFault)
      → EndsAs s.puts plan n T g.gained before after result → RunsPlan l s plan n old mid before after result
  ran g result ends = record {
    trace = T;
    leads = k.going.leads;
    fits = fits p k;
    calls = four_calls plan T p f.0 k.stands.cases.beyond;
    once = named_at_most_once n T p g.recorded;
    gained = g.gained;
    are = subst (λ (m : ℕ). AreEntries plan T (take m (recorded plan n T)) g.gained) (sym g.count) g.are;
    kept = g.kept;
    ends = ends;
  }

  -- A run without a failed put returns its totals.
  pub ran_well : fault ≡ None → RunsPlan l s plan n old mid before after (Ok totals)
  ran_well e =
      let g = subst (λ (o : Option SinkFault). Gained s plan n fed totals o before after) e k.gained in
      let w = f.1 (ap is_some g.gains.0) in
      let once = named_once n T p w.0 w.1 g.recorded in
      let stored = none_past (recorded plan n T) fed.stored (all.0 (ap is_some g.gains.0)) in
      ran g (Ok totals) (record {
        legal = record {
          whole = w.0;
          order = in_order k.stands;
          width = each_of T (λ U e y. y.width) k.going.rules;
          exclusive = each_of T (λ U e y. y.exclusive) k.going.rules;
          prompt = each_of T (λ U e y. y.prompt) k.going.rules;
          busy = subst (λ (y : Option ℕ). HoldsAtEachEvent (WaitsWhenBusy plan n) (up_to y T)) g.gains.0 k.until.busy;
        };
        once = once;
        all = omega (arith, g.count, k.stands.puts.stored, stored, once.all);
        gains = g.gains.1;
        counts = g.counts;
      })

  -- A run with a failed put returns the error of that put.
  pub ran_short : (cause : SinkFault) → fault ≡ Some cause → RunsPlan l s plan n old mid before after (Err (SinkFailed cause))
  ran_short cause e =
      let g = subst (λ (o : Option SinkFault). Gained s plan n fed totals o before after) e k.gained in
      ran g (Err (SinkFailed cause)) (record {
        failed = g.gains.0;
        stopped = record {
          starts = k.until.begun ∙ ap (λ (y : Option ℕ). body_starts (up_to y T)) g.gains.1;
          whole = λ job i g. f.0 i job g;
          order = in_order k.stands;
          width = each_of T (λ U e y. y.width) k.going.rules;
          exclusive = each_of T (λ U e y. y.exclusive) k.going.rules;
          prompt = each_of T (λ U e y. y.prompt) k.going.rules;
          busy = subst (λ (y : Option ℕ). HoldsAtEachEvent (WaitsWhenBusy plan n) (up_to y T)) g.gains.1 k.until.busy;
        };
      })
