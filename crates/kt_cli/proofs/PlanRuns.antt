-- The execution of a plan over a store meets `ExecutesPlan`.
use Rattle.std.proofs.Common.{Option, Result, Ok, Err, Bool, false, if◌then◌else◌, ◌≡◌, ℕ, List, [], ◌∷◌, ◌++◌, length, refl, ap, ◌∙◌, subst, append-nil}
use Rattle.kt_cli.proofs.Common.{Emits, utf8, Entry, SinkFault, Totals, RunFault, NoMemory, SinkFailed, NoEvent, StoreCall, Began, Put, Finished, StoreFault, run_line, memory_line, store_fault_line, WritesNext, sink_fault_of, ExecutesAndRecords, IsRecordingResult, RecordedAll, RecordedSome, RecordedNone, CommandState, command_state, CallsStore, put_calls, ExecutesPlan, PlannedRun, begin_call, exit_status, test_output, test_exit, lines}
use Rattle.kt_cli.specs.Command.{RunResult, not_begun, not_finished, not_put, not_run, recorded}
use Rattle.kt_cli.specs.Testing.{totals_and_warnings}
use Rattle.kt_sched.specs.declared.launcher.Launcher as launcher
use Rattle.kt_store.specs.declared.result_store.StoreSpec as keeping
use Rattle.kt_store.specs.declared.store_fault.StoreFault.TheVariants as store
use Rattle.kt_cli.proofs.Saying.{says_both}
use Rattle.kt_cli.proofs.StoreChains.{stored_both, stored_as}

-- the error line of a run whose put failed is that of the store's fault
put_refusal_line : (fault : StoreFault) → run_line (SinkFailed (sink_fault_of fault)) ≡ store_fault_line fault
put_refusal_line (store.NoMemory shortage) = refl
put_refusal_line _ = refl

refused_line : (why : SinkFault) (fault : StoreFault) → why ≡ sink_fault_of fault → run_line (SinkFailed why) ≡ store_fault_line fault
refused_line why fault is = ap (λ (f : SinkFault). run_line (SinkFailed f)) is ∙ put_refusal_line fault

module _ {L R : Type 0} (l : launcher.Ghosts L) (keep : keeping.Ghosts R) (planned : PlannedRun) (old : CommandState L R) where
  -- a plan whose run could not be begun meets `ExecutesPlan`
  pub ran_unbegun : (mid : R) (total : ℕ) (why : StoreFault) (now : Option (List ℕ)) (f : Bool) (exit : ℕ) → total ≡ length planned.plan → CallsStore keep (Began total planned.moment (Err why) ∷ []) old.store mid
      → Emits old.held now f (utf8 (store_fault_line why)) → exit ≡ (if f then 2 else 2) → ExecutesPlan l keep planned old (command_state old.world mid now) exit
  ran_unbegun mid total why now f exit t calls s e = record {
    trace = NoEvent;
    leads = refl;
    calls = begin_call planned (Err why) ∷ [];
    stored = stored_as keep (Began total planned.moment (Err why) ∷ []) (begin_call planned (Err why) ∷ []) old.store mid (ap (λ (k : ℕ). Began k planned.moment (Err why) ∷ []) t) calls;
    bytes = utf8 (store_fault_line why);
    intended_exit = 2;
    is = not_begun why refl;
    printed = record { failed = f; shows = s; exits = e };
  }

  module _ (new : L) (begun after : R) (number total : ℕ) (mid now : Option (List ℕ)) (f g : Bool) (exit : ℕ) (t : total ≡ length planned.plan) (begin : CallsStore keep (Began total planned.moment (Ok number) ∷ []) old.store begun) where
    module _ (answer : Result Totals RunFault) (r : ExecutesAndRecords l keep planned.plan planned.width number (command_state old.world begun old.held) (command_state new after mid) answer f) where
      -- a plan whose run was begun meets `ExecutesPlan` if the calls that follow meet `RunResult`
      ran : (last : R) (more : List StoreCall) (bytes : List ℕ) (intended_exit : ℕ) → CallsStore keep more begun last
          → RunResult planned r.trace (begin_call planned (Ok number) ∷ more) bytes intended_exit
          → WritesNext old.held false now g bytes → exit ≡ (if g then 2 else intended_exit) → ExecutesPlan l keep planned old (command_state new last now) exit
      ran last more bytes intended_exit p is s e = record {
        trace = r.trace;
        leads = r.leads;
        calls = begin_call planned (Ok number) ∷ more;
        stored = stored_both keep (begin_call planned (Ok number) ∷ []) more old.store begun last
            (stored_as keep (Began total planned.moment (Ok number) ∷ []) (begin_call planned (Ok number) ∷ []) old.store begun (ap (λ (k : ℕ). Began k planned.moment (Ok number) ∷ []) t) begin) p;
        bytes = bytes;
        intended_exit = intended_exit;
        is = is;
        printed = record { failed = g; shows = s.more; exits = e };
      }

      -- writing the lines and then `bytes` is writing the lines followed by `bytes`
      after_lines : (bytes : List ℕ) → WritesNext mid f now g bytes → WritesNext old.held false now g (lines r.entries ++ bytes)
      after_lines bytes s = says_both old.held mid now false f g (lines r.entries) bytes r.written s

      ends_as : (other : Result Totals RunFault) → answer ≡ other → IsRecordingResult planned.plan planned.width number r.trace r.entries r.last other
      ends_as other a = subst (λ (x : Result Totals RunFault). IsRecordingResult planned.plan planned.width number r.trace r.entries r.last x) a r.ends

      -- a plan whose execution failed at an allocation or a put meets `ExecutesPlan`
      pub ran_failed : (why : RunFault) → answer ≡ Err why → WritesNext mid f now g (utf8 (run_line why)) → exit ≡ (if g then 2 else 2) → ExecutesPlan l keep planned old (command_state new after now) exit
      ran_failed (NoMemory refusal) a s e =
          let none : RecordedNone r.trace r.entries r.last = ends_as (Err (NoMemory refusal)) a in
          let no_calls : put_calls number r.entries ++ r.last ≡ [] = ap (λ (es : List Entry). put_calls number es ++ r.last) none.none ∙ none.taken in
          ran after [] (utf8 memory_line) 2 (stored_as keep (put_calls number r.entries ++ r.last) [] begun after no_calls r.stored) (not_run number none.events)
          (subst (λ (es : List Entry). WritesNext old.held false now g (lines es ++ utf8 memory_line)) none.none (after_lines (utf8 memory_line) s)) e
      ran_failed (SinkFailed why) a s e =
          let some : RecordedSome planned.plan planned.width number r.trace r.entries r.last why = ends_as (Err (SinkFailed why)) a in
          let calls = put_calls number r.entries ++ Put number some.entry (Err some.refusal) ∷ [] in
          ran after calls (lines r.entries ++ utf8 (store_fault_line some.refusal)) 2
          (stored_as keep (put_calls number r.entries ++ r.last) calls begun after (ap (λ (cs : List StoreCall). put_calls number r.entries ++ cs) some.one) r.stored)
          (not_put number r.entries some.entry some.refusal some.stopped)
          (after_lines (utf8 (store_fault_line some.refusal)) (subst (λ (xs : List ℕ). WritesNext mid f now g (utf8 xs)) (refused_line why some.refusal some.fault_is) s)) e

      module _ (last : R) (totals : Totals) (a : answer ≡ Ok totals) where
        every : RecordedAll planned.plan planned.width r.trace r.entries r.last totals
        every = ends_as (Ok totals) a

        -- the puts followed by one more call are together one sequence of calls
        then_ends : (end : StoreCall) → CallsStore keep (end ∷ []) after last → CallsStore keep (put_calls number r.entries ++ end ∷ []) begun last
        then_ends end p =
            let all : put_calls number r.entries ++ r.last ≡ put_calls number r.entries = ap (λ (cs : List StoreCall). put_calls number r.entries ++ cs) every.taken ∙ append-nil (put_calls number r.entries) in
            stored_both keep (put_calls number r.entries) (end ∷ []) begun after last (stored_as keep (put_calls number r.entries ++ r.last) (put_calls number r.entries) begun after all r.stored) p

        -- a plan whose run could not be finished meets `ExecutesPlan`
        pub ran_unfinished : (why : StoreFault) → CallsStore keep (Finished number (Err why) ∷ []) after last → (fault : SinkFault) → fault ≡ sink_fault_of why
            → WritesNext mid f now g (utf8 (run_line (SinkFailed fault))) → exit ≡ (if g then 2 else 2) → ExecutesPlan l keep planned old (command_state new last now) exit
        ran_unfinished why p fault is s e =
            ran last (put_calls number r.entries ++ Finished number (Err why) ∷ []) (lines r.entries ++ utf8 (store_fault_line why)) 2 (then_ends (Finished number (Err why)) p)
            (not_finished number r.entries why every.all) (after_lines (utf8 (store_fault_line why)) (subst (λ (xs : List ℕ). WritesNext mid f now g (utf8 xs)) (refused_line fault why is) s)) e

        -- a plan whose cases were all recorded and whose run was finished meets `ExecutesPlan`
        pub ran_all : (intended_exit : ℕ) → CallsStore keep (Finished number (Ok tt) ∷ []) after last → WritesNext mid f now g (totals_and_warnings totals.good totals.total totals.bad planned.words planned.unmatched) → intended_exit ≡ exit_status totals.bad planned.unmatched → exit ≡ (if g then 2 else intended_exit)
            → ExecutesPlan l keep planned old (command_state new last now) exit
        ran_all intended_exit p s d e =
            let es = r.entries in
            ran last (put_calls number es ++ Finished number (Ok tt) ∷ []) (test_output es planned.words planned.unmatched) (test_exit es planned.unmatched) (then_ends (Finished number (Ok tt)) p)
            (recorded number es every.all) (rw (every.counts.good, every.counts.total, every.counts.bad) at (after_lines (totals_and_warnings totals.good totals.total totals.bad planned.words planned.unmatched) s))
            (e ∙ ap (λ (x : ℕ). if g then 2 else x) (d ∙ ap (λ (x : ℕ). exit_status x planned.unmatched) every.counts.bad))
