-- The effect of a command on the runs of a sound store.
use Rattle.std.proofs.Common.{Option, Some, None, Ok, Err, Bool, true, false, map, ◌≡◌, ℕ, suc, List, [], ◌∷◌, ◌++◌, length, refl, sym, ap, ◌∙◌, subst, append-nil, ◌⊎◌, inl, inr}
use Rattle.kt_cli.proofs.Common.{AllByRecursion, Entry, Run, Job, plan_fits, AreEntries, IsPlan, Trace, IsDatabaseFault, entry_at, AreNumbered, new_run, run_at, with_entry, put_refusal, finish_refusal, StoreCall, Began, Put, Finished, Head, Outline, Outputs, Pairs, outputs_of, without_outputs, RunHead, StoreFault, Command, Kind, CommandCalls, Means, stopped, listed, tested, debugged, nothing_to_debug, reported, reported_junit, no_memory, CommandResult, CommandState, World, AllRecorded, PrintsReport, run_shown, pairs_shown, not_shown, PrintsJunitReport, no_pairs, no_output, outputs_calls, pairs_calls, with_new_run, IsSoundExecution, runs_after_puts, Agrees, runs_after, put_calls, runs_after_calls, Agree, PlannedRun, planned_run}
use Rattle.kt_sched.specs.RecordOrder.{recorded as record_order}
use Rattle.kt_cli.specs.Reports.{RunIsNotShown, no_last_run, none_at_all, not_this_one, no_head, no_last, no_outline, run_shown as run_shown_junit, not_shown as not_shown_junit, no_outputs as cut_outputs, no_memory as cut_junit, no_output as no_junit_output}
use Rattle.kt_cli.specs.SoundStores.{AddsAtMostOneRun, none, one_run, HasAllowedFault, entries_put}
use Rattle.kt_cli.specs.Command.{RunResult, not_begun, not_finished, not_put, not_run, recorded}
use Rattle.kt_store.specs.declared.result_store.StoreSpec as keeping
use Rattle.kt_store.specs.declared.store_fault.StoreFault.TheVariants.{StoreFull, NoRun as Absent}
use Rattle.kt_cli.proofs.ChosenRuns.{entries_there, entry_found}
use Rattle.kt_cli.proofs.NewRuns.{put_new, finish_new, finishes}
use Rattle.kt_cli.proofs.Unrepeated.{due_is_taken}
use Rattle.kt_cli.proofs.StoreChains.{runs_after_calls-append, agree_later}

runs_after_calls-put_calls : (number : ℕ) (es : List Entry) (runs : List Run) → runs_after_calls (put_calls number es) runs ≡ runs_after_puts number es runs
runs_after_calls-put_calls number [] runs = refl
runs_after_calls-put_calls number (e ∷ es) runs = runs_after_calls-put_calls number es (with_entry number e runs)

-- if the calls after `put_calls number es` put no entry, all these calls put the entries `es`
puts_put : (number : ℕ) (es : List Entry) (after : List StoreCall) → entries_put after ≡ [] → entries_put (put_calls number es ++ after) ≡ es
puts_put number [] after n = n
puts_put number (e ∷ es) after n = ap (λ (xs : List Entry). e ∷ xs) (puts_put number es after n)

-- the calls `put_calls` succeed, so they meet `HasAllowedFault`
puts_done : (number : ℕ) (es : List Entry) (after : List StoreCall) → AllByRecursion HasAllowedFault after → AllByRecursion HasAllowedFault (put_calls number es ++ after)
puts_done number [] after all = all
puts_done number (e ∷ es) after all = (tt, puts_done number es after all)

entries_count : (plan : List Job) (T : Trace) (positions : List ℕ) (es : List Entry) → AreEntries plan T positions es → length es ≡ length positions
entries_count plan T [] [] a = refl
entries_count plan T (p ∷ ps) (e ∷ es) a = ap suc (entries_count plan T ps es a.1)
entries_count plan T _ _ a = absurd a

-- if all cases are recorded, there are as many entries as cases
all_count : (plan : List Job) (n : ℕ) (T : Trace) (es : List Entry) → AllRecorded plan n T es → length es ≡ length plan
all_count plan n T es a = entries_count plan T (record_order plan n T) es a.are ∙ a.once.all

-- a fault whose other cause is impossible is a store fault
failed : (fault : StoreFault) (Q : Type 0) → IsDatabaseFault fault ⊎ Q → (Q → ⊥) → IsDatabaseFault fault ⊎ (fault ≡ StoreFull)
failed fault Q (inl p) never = inl p
failed fault Q (inr q) never = absurd (never q)

-- `Coming runs calls`: each of `calls` meets `HasAllowedFault`, and together they append at most
-- one run to `runs`
record Coming (runs : List Run) (calls : List StoreCall) : Type 0 where
  only_fails : AllByRecursion HasAllowedFault calls
  adds : AddsAtMostOneRun runs calls

-- an empty list of calls meets `Coming`
none_coming : (runs : List Run) (calls : List StoreCall) → calls ≡ [] → Coming runs calls
none_coming runs calls e = subst (λ (cs : List StoreCall). Coming runs cs) (sym e) (record { only_fails = tt; adds = none refl })

-- ---- `test`

module _ (runs : List Run) (h : AreNumbered 1 runs) where
  module _ (k total moment : ℕ) (n : k ≡ suc (length runs)) (es : List Entry) where
    -- the effect of the puts and one more call is that of this call on the runs with all entries
    after_end : (end : StoreCall) → runs_after_calls (put_calls k es ++ end ∷ []) (runs ++ new_run runs total moment ∷ []) ≡ runs_after end (with_new_run runs moment total false es)
    after_end end =
        runs_after_calls-append (put_calls k es) (end ∷ []) (runs ++ new_run runs total moment ∷ [])
        ∙ ap (λ (rs : List Run). runs_after end rs) (runs_after_calls-put_calls k es (runs ++ new_run runs total moment ∷ []) ∙ put_new runs k total moment es h n)

    agree_end : (end : StoreCall) → Agree (runs ++ new_run runs total moment ∷ []) (put_calls k es ++ end ∷ []) → Agrees (with_new_run runs moment total false es) end
    agree_end end a =
        subst (λ (rs : List Run). Agrees rs end) (runs_after_calls-put_calls k es (runs ++ new_run runs total moment ∷ []) ∙ put_new runs k total moment es h n)
        (agree_later (put_calls k es) (end ∷ []) (runs ++ new_run runs total moment ∷ []) a).0

    -- the begin of a run, its puts and one more call meet `Coming`: they append a run with the
    -- entries of the puts
    one_coming : (end : StoreCall) (finished : Bool) → entries_put (end ∷ []) ≡ [] → runs_after end (with_new_run runs moment total false es) ≡ with_new_run runs moment total finished es
        → (finished ≡ true → length es ≡ total) → AllByRecursion HasAllowedFault (end ∷ []) → Coming runs (Began total moment (Ok k) ∷ (put_calls k es ++ end ∷ []))
    one_coming end finished none_put is whole all = record {
      only_fails = (tt, puts_done k es (end ∷ []) all);
      adds = one_run moment total finished
          (after_end end ∙ is ∙ ap (λ (xs : List Entry). with_new_run runs moment total finished xs) (sym (puts_put k es (end ∷ []) none_put)))
          (λ f. ap (λ (xs : List Entry). length xs) (puts_put k es (end ∷ []) none_put) ∙ whole f);
    }

  run_coming : (planned : PlannedRun) (T : Trace) (calls : List StoreCall) (bytes : List ℕ) (exit : ℕ) → IsPlan planned.plan → RunResult planned T calls bytes exit → Agree runs calls
      → Coming runs calls
  run_coming planned T calls bytes exit is (recorded k es all) a =
      let total = length planned.plan in
      one_coming k total planned.moment a.0.0 es (Finished k (Ok tt)) true refl (finish_new runs k total planned.moment es h a.0.0) (λ f. all_count planned.plan planned.width T es all)
      (tt, tt)
  run_coming planned T calls bytes exit is (not_begun why e) a = record { only_fails = (elim a.0 [ inl f ↦ inl f | inr f ↦ inr f.0 ], tt); adds = none refl }
  run_coming planned T calls bytes exit is (not_run k e) a = record { only_fails = (tt, tt); adds = one_run planned.moment (length planned.plan) false refl (λ f. absurd (cc)) }
  run_coming planned T calls bytes exit is (not_put k es refused why s) a =
      let total = length planned.plan in
      let i = a.0.0 in
      let cause = agree_end k total planned.moment i es (Put k refused (Err why)) a.1 in
      one_coming k total planned.moment i es (Put k refused (Err why)) false refl refl (λ f. absurd (cc))
      (failed why (put_refusal (with_new_run runs planned.moment total false es) k refused ≡ Some why) cause (due_is_taken planned.plan T is runs k planned.moment planned.width es refused why i s), tt)
  run_coming planned T calls bytes exit is (not_finished k es why all) a =
      let total = length planned.plan in
      let i = a.0.0 in
      let cause = agree_end k total planned.moment i es (Finished k (Err why)) a.1 in
      one_coming k total planned.moment i es (Finished k (Err why)) false refl refl (λ f. absurd (cc))
      (failed why (finish_refusal (with_new_run runs planned.moment total false es) k ≡ Some why) cause (finishes runs k total planned.moment es why i (all_count planned.plan planned.width T es all)), tt)

-- ---- reports

-- reading calls change nothing, and successful calls have no fault
module _ (call : Entry → StoreCall) (reads : (e : Entry) (runs : List Run) → runs_after (call e) runs ≡ runs) (done : (e : Entry) → HasAllowedFault (call e)) where
  asked_change : (shown : List Entry) (runs : List Run) → runs_after_calls (map call shown) runs ≡ runs
  asked_change [] runs = refl
  asked_change (e ∷ shown) runs = ap (runs_after_calls (map call shown)) (reads e runs) ∙ asked_change shown runs

  asked_done : (shown : List Entry) (after : List StoreCall) → AllByRecursion HasAllowedFault after → AllByRecursion HasAllowedFault (map call shown ++ after)
  asked_done [] after all = all
  asked_done (e ∷ shown) after all = (done e, asked_done shown after all)

pairs_change : (number : ℕ) (shown : List Entry) (runs : List Run) → runs_after_calls (pairs_calls number shown) runs ≡ runs
pairs_change number = asked_change (λ (e : Entry). Pairs number e.position (Ok e.meta)) (λ e runs. refl) (λ e. tt)

pairs_done : (number : ℕ) (shown : List Entry) (after : List StoreCall) → AllByRecursion HasAllowedFault after → AllByRecursion HasAllowedFault (pairs_calls number shown ++ after)
pairs_done number = asked_done (λ (e : Entry). Pairs number e.position (Ok e.meta)) (λ e runs. refl) (λ e. tt)

outputs_change : (number : ℕ) (shown : List Entry) (runs : List Run) → runs_after_calls (outputs_calls number shown) runs ≡ runs
outputs_change number = asked_change (λ (e : Entry). Outputs number e.position (Ok (outputs_of e))) (λ e runs. refl) (λ e. tt)

outputs_done : (number : ℕ) (shown : List Entry) (after : List StoreCall) → AllByRecursion HasAllowedFault after → AllByRecursion HasAllowedFault (outputs_calls number shown ++ after)
outputs_done number = asked_done (λ (e : Entry). Outputs number e.position (Ok (outputs_of e))) (λ e runs. refl) (λ e. tt)

-- the calls of a report that shows no run meet `Coming`
unshown_coming : (number : Option ℕ) (runs : List Run) → AreNumbered 1 runs → (calls : List StoreCall) (line : List ℕ) → RunIsNotShown number calls line → Agree runs calls → Coming runs calls
unshown_coming number runs h calls line no_last_run a = record { only_fails = (tt, tt); adds = none refl }
unshown_coming number runs h calls line (none_at_all wanted) a = record { only_fails = (tt, (tt, tt)); adds = none refl }
unshown_coming number runs h calls line (not_this_one wanted last) a = record { only_fails = (tt, (tt, tt)); adds = none refl }
unshown_coming number runs h calls line (no_head n why) a = record { only_fails = (inl a.0, tt); adds = none refl }
unshown_coming number runs h calls line (no_last wanted why) a = record { only_fails = (tt, (inl a.1.0, tt)); adds = none refl }
unshown_coming number runs h calls line (no_outline n head why e) a = record { only_fails = (tt, (inl (entries_there n runs head why h a.0 a.1.0), tt)); adds = none refl }

module _ (number : Option ℕ) (runs : List Run) (h : AreNumbered 1 runs) where
  -- a run was read, and then what it holds
  read_coming : (head : RunHead) (outline : List Entry) (asked : List StoreCall) → AllByRecursion HasAllowedFault (asked ++ []) → runs_after_calls asked runs ≡ runs
      → Coming runs (Head number (Ok (Some head)) ∷ Outline head.number (Ok outline) ∷ asked)
  read_coming head outline asked all same = record { only_fails = (tt, (tt, subst (λ (cs : List StoreCall). AllByRecursion HasAllowedFault cs) (append-nil asked) all)); adds = none same }

  outputs_coming : (head : RunHead) (outline shown : List Entry) → Coming runs (Head number (Ok (Some head)) ∷ Outline head.number (Ok outline) ∷ outputs_calls head.number shown)
  outputs_coming head outline shown = read_coming head outline (outputs_calls head.number shown) (outputs_done head.number shown [] tt) (outputs_change head.number shown runs)

  pairs_coming : (head : RunHead) (outline shown : List Entry) → Coming runs (Head number (Ok (Some head)) ∷ Outline head.number (Ok outline) ∷ pairs_calls head.number shown)
  pairs_coming head outline shown = read_coming head outline (pairs_calls head.number shown) (pairs_done head.number shown [] tt) (pairs_change head.number shown runs)

  reported_coming : (kinds : List Kind) (failed verbose : Bool) (calls : List StoreCall) (bytes : List ℕ) (exit : ℕ) → PrintsReport number kinds failed verbose calls bytes exit → Agree runs calls → Coming runs calls
  reported_coming kinds failed verbose calls bytes exit (run_shown head outline date e d) a = pairs_coming head outline []
  reported_coming kinds failed verbose calls bytes exit (pairs_shown head outline shown date e d same) a = pairs_coming head outline shown
  reported_coming kinds failed verbose calls bytes exit (not_shown v cs line e) a = unshown_coming number runs h calls line e a
  reported_coming kinds failed verbose calls bytes exit (no_output head outline shown rest date f e d same) a = pairs_coming head outline shown
  reported_coming kinds failed verbose calls bytes exit (no_pairs head outline shown rest last why e same) a =
      let before = pairs_calls head.number shown in
      let end = Pairs head.number last.position (Err why) ∷ [] in
      record { only_fails = (tt, (tt, pairs_done head.number shown end (inl (agree_later before end runs a.1.1).0, tt))); adds = none (runs_after_calls-append before end runs ∙ pairs_change head.number shown runs) }

  junit_coming : (f : Bool) (calls : List StoreCall) (bytes : List ℕ) (exit : ℕ) → PrintsJunitReport number f calls bytes exit → Agree runs calls → Coming runs calls
  junit_coming f calls bytes exit (run_shown_junit head outline shown e same) a = outputs_coming head outline shown
  junit_coming f calls bytes exit (not_shown_junit cs line e) a = unshown_coming number runs h calls line e a
  junit_coming f calls bytes exit (cut_junit head outline shown rest front back next e same s) a = outputs_coming head outline shown
  junit_coming f calls bytes exit (no_junit_output head outline shown rest g e same) a = outputs_coming head outline shown
  junit_coming f calls bytes exit (cut_outputs head outline shown rest last why e same) a =
      let end = Outputs head.number last.position (Err why) ∷ [] in
      let before = outputs_calls head.number shown in
      let r = a.1.0.0 in
      let kept = outputs_change head.number shown runs in
      let cause = subst (λ (rs : List Run). Agrees rs (Outputs head.number last.position (Err why))) kept (agree_later before end runs a.1.1).0 in
      let inside = entry_found r.entries shown rest last (same ∙ ap (λ (es : List Entry). map without_outputs es) a.1.0.2) in
      let missed = failed why ((why ≡ Absent) × (entry_at (run_at runs head.number) last.position ≡ None)) cause
      (λ missing. inside (ap (λ (x : Option Run). entry_at x last.position) (sym a.1.0.1) ∙ missing.1)) in
      record { only_fails = (tt, (tt, outputs_done head.number shown end (missed, tt))); adds = none (runs_after_calls-append before end runs ∙ kept) }

-- ---- all commands

module _ (seen : CommandCalls) (runs : List Run) (h : AreNumbered 1 runs) (a : Agree runs seen.calls) where
  coming : (c : Command) (failed : Bool) (bytes : List ℕ) (exit : ℕ) → Means seen failed c bytes exit → Coming runs seen.calls
  coming c failed bytes exit (stopped d options fault e s k) = none_coming runs seen.calls k.calls
  coming c failed bytes exit (no_memory d options e _ k) = none_coming runs seen.calls k.calls
  coming c failed bytes exit (listed options picked s k) = none_coming runs seen.calls k.calls
  coming c failed bytes exit (tested options file picked moment bs x p t) =
      run_coming runs h (planned_run seen.plan options picked moment) seen.trace seen.calls bytes exit (plan_fits picked.settings.config p.host picked.chosen.cases seen.plan p.planned) t a
  coming c failed bytes exit (debugged options picked first others entries e p all k) = none_coming runs seen.calls k
  coming c failed bytes exit (nothing_to_debug options picked s e k) = none_coming runs seen.calls k.calls
  coming c failed bytes exit (reported options kinds verbose bs x u r) = reported_coming options.run runs h kinds failed verbose seen.calls bytes exit r a
  coming c failed bytes exit (reported_junit options bs x u r) = junit_coming options.run runs h failed seen.calls bytes exit r a

-- a command over a sound store of `runs` meets `IsSoundExecution`
pub left_by : {W R : Type 0} (w : World W) (keep : keeping.Ghosts R) (c : Command) (old new : CommandState W R) (exit : ℕ) (runs : List Run) (did : CommandResult w keep c old new exit)
    → keep.stands old.store runs → keep.sound new.store → IsSoundExecution did runs
left_by w keep c old new exit runs did h sound =
    let it = coming did.seen runs (keep.numbered old.store runs h) (did.stored.kept.agree runs h sound) c did.printed.failed did.bytes did.intended_exit did.is in
    record { only_fails = it.only_fails; adds = it.adds }
