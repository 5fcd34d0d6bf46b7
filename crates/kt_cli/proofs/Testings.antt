-- The execution of commands over a world and a store.
use Rattle.std.proofs.Common.{Option, Some, Result, Ok, Err, Bool, false, take, ◌==◌, if◌then◌else◌, ◌≡◌, ℕ, List, [], ◌∷◌, ◌++◌, refl, sym, ap, ◌∙◌, subst}
use Rattle.kt_cli.proofs.Common.{utf8, Kind, IsIdle, Job, StoreCall, Chain, Candidate, Command, ReportOptions, Entry, RunFault, NoMemory, SinkFailed, Totals, Trace, case_options_of, filter_rule_of, FilterRule, AnyFilters, OneCase, ExecutesDebug, all_debug_bytes, debug_exit, memory_line, run_line, CommandCalls, IsPrepared, OnlyCallsStore, OnlyListsCases, Means, stopped, tested, debugged, reported, reported_junit, executed_cases, MakesCallPrefix, selecting, preparing, no_memory, CommandResult, WritesNext, Printed, WorldCall, WorldLeads, host_calls, WritesReport, PrintsReport, PrintsJunitReport, CommandState, command_state, World, launcher_of, Emits, ExecutesPlan, planned_run, chain-append}
use Rattle.kt_base.specs.declared.child.Role.{Role}
use Rattle.kt_metadata.specs.declared.host.Host.{Host}
use Rattle.kt_suite.specs.Answers.{LeadsByCalls}
use Rattle.kt_args.specs.declared.options.CaseOptions.{CaseOptions}
use Rattle.kt_plan.specs.declared.cases.CommandSelection.{CommandSelection}
use Rattle.kt_plan.specs.declared.selection_error.SelectionError.{SelectionError}
use Rattle.kt_plan.specs.Selecting.{IsSelectionPrefix, Selects}
use Rattle.kt_plan.specs.Stops.{HoldsOrNoMemory, IsNoMemoryError, finished, memory_ran_out}
use Rattle.kt_plan.proofs.SelectLaws.{HasSelection}
use Rattle.kt_plan.proofs.Stops.{held}
use Rattle.kt_cli.specs.Inner.Courses.{ExecutesWithoutStore, ExecutesWithoutWorld, world_calls_only, store_calls_only}
use Rattle.kt_plan.specs.Planning.{ProbesHost, IsProbePrefix, ArePlanned}
use Rattle.kt_plan.proofs.LookLaws.{all_surveyed}
use Rattle.kt_cli.specs.StopLines.{stop_line, stop_exit}
use Rattle.kt_plan.specs.Reply.{Reply, Now}
use Rattle.kt_plan.proofs.QuestionChains.{chain_of_host}
use Rattle.kt_store.specs.declared.result_store.StoreSpec as keeping
use Rattle.kt_args.specs.declared.command.Command.TheVariants as command
use Rattle.kt_cli.proofs.Saying.{says_both}
use Rattle.kt_cli.proofs.StoreChains.{stored_none, stored_as}

-- `Printed` holds for an equal exit status
pub printed_as : (was now : Option (List ℕ)) (f : Bool) (exit intended_exit : ℕ) (bytes : List ℕ) (own : ℕ) → Emits was now f bytes → intended_exit ≡ own → exit ≡ (if f then 2 else intended_exit) → Printed was now exit bytes own
printed_as was now f exit intended_exit bytes own s k e = record { failed = f; shows = s; exits = e ∙ ap (λ (x : ℕ). if f then 2 else x) k }

module _ {W : Type 0} (w : World W) where
  -- `HasSelected rule options old new result`: the selection by `options` has the result `result`,
  -- and its calls led the world from `old` to `new`
  abbrev HasSelected : FilterRule → CaseOptions → W → W → Result CommandSelection SelectionError → Type 0
  HasSelected = HasSelection w.asks w.replies

  -- a world without running children has none after a call of its host
  pub idle_after : ((s t : W) (q : Reply) → w.replies s q t → (k : ℕ) (role : Role) → w.running t k role ≡ w.running s k role) → ((s t : W) (q : Reply) → w.replies s q t → (k : ℕ) → w.pending t k ≡ w.pending s k)
      → (mid new : W) (m : Reply) → w.replies mid m new → IsIdle (w.running mid) (w.pending mid) → IsIdle (w.running new) (w.pending new)
  idle_after d e mid new m t j = record { runs = λ k role. d mid new m t k role ∙ j.runs k role; pends = λ k. e mid new m t k ∙ j.pends k }

  -- a command that started no case and made no store call meets `ExecutesWithoutStore` if its
  -- output is that of `Means`
  asks_only : (c : Command) (old new : W) (was now : Option (List ℕ)) (exit : ℕ) (world_calls : List WorldCall) (bytes : List ℕ) (intended_exit : ℕ) → Chain (WorldLeads w.asks w.replies) old world_calls new
      → (q : Printed was now exit bytes intended_exit) → Means (world_calls_only world_calls) q.failed c bytes intended_exit
      → ExecutesWithoutStore w c old new was now exit
  asks_only c old new was now exit world_calls bytes intended_exit p q m = record { seen = world_calls_only world_calls; course = record { begun = new; asked = p; ran = refl }; uncalled = refl; bytes = bytes; intended_exit = intended_exit; is = m; printed = q }

  only_asked : (world_calls : List WorldCall) → OnlyListsCases (world_calls_only world_calls)
  only_asked world_calls = record { trace = refl; calls = refl }

  -- a command that a fault stopped meets `ExecutesWithoutStore`
  pub stopped_only : (c : Command) (options : CaseOptions) (old new : W) (was now : Option (List ℕ)) (exit : ℕ) (fault : SelectionError) → case_options_of c ≡ Some options
      → HasSelected (filter_rule_of c) options old new (Err fault) → Printed was now exit (utf8 (stop_line fault)) (stop_exit fault) → ExecutesWithoutStore w c old new was now exit
  stopped_only c options old new was now exit fault e a p =
      asks_only c old new was now exit a.asked (utf8 (stop_line fault)) (stop_exit fault) a.chain p (by fault a.asked a.holds)
    where
      by : (why : SelectionError) (world_calls : List WorldCall) → HoldsOrNoMemory IsNoMemoryError (IsSelectionPrefix (filter_rule_of c) options) (Selects (filter_rule_of c) options) (Err why) world_calls
          → Means (world_calls_only world_calls) p.failed c (utf8 (stop_line why)) (stop_exit why)
      by why world_calls (finished _ _ s) = stopped c options why e s (only_asked world_calls)
      by why world_calls (memory_ran_out _ _ m s) =
          subst (λ (x : SelectionError). Means (world_calls_only world_calls) p.failed c (utf8 (stop_line x)) (stop_exit x)) (sym m.1) (no_memory c options e (selecting world_calls s) (only_asked world_calls))

  -- a command that only selected cases meets `ExecutesWithoutStore`
  pub picked_only : (c : Command) (rule : FilterRule) (options : CaseOptions) (old new : W) (was now : Option (List ℕ)) (exit : ℕ) (picked : CommandSelection) (bytes : List ℕ) (intended_exit : ℕ)
      → ((failed : Bool) (world_calls : List WorldCall) → Selects rule options world_calls (Ok picked) → OnlyListsCases (world_calls_only world_calls) → Means (world_calls_only world_calls) failed c bytes intended_exit)
      → HasSelected rule options old new (Ok picked) → Printed was now exit bytes intended_exit → ExecutesWithoutStore w c old new was now exit
  picked_only c rule options old new was now exit picked bytes intended_exit means a p = asks_only c old new was now exit a.asked bytes intended_exit a.chain p (means p.failed a.asked (held a.holds) (only_asked a.asked))

  -- the calls of a selection, followed by the first calls about its cases, are a prefix of the
  -- command's calls
  prepared_first : (rule : FilterRule) (options : CaseOptions) (world_calls : List WorldCall) (answers : List Reply) (picked : CommandSelection) (cases : List Candidate) → Selects rule options world_calls (Ok picked) → cases ≡ executed_cases rule picked.chosen.cases
      → IsProbePrefix cases answers → MakesCallPrefix rule options (world_calls ++ host_calls answers)
  prepared_first rule options world_calls answers picked cases a same s =
      preparing world_calls picked answers a (subst (λ (cs : List Candidate). IsProbePrefix cs answers) same s)

  -- a command whose allocation failed before the plan was made meets `ExecutesWithoutStore`
  pub short_only : (c : Command) (options : CaseOptions) (old mid new : W) (was now : Option (List ℕ)) (exit : ℕ) (picked : CommandSelection) (cases : List Candidate) → case_options_of c ≡ Some options
      → HasSelected (filter_rule_of c) options old mid (Ok picked) → cases ≡ executed_cases (filter_rule_of c) picked.chosen.cases → LeadsByCalls w.replies mid new (λ answers. IsProbePrefix cases answers)
      → Printed was now exit (utf8 memory_line) 2 → ExecutesWithoutStore w c old new was now exit
  short_only c options old mid new was now exit picked cases e a same b p =
      asks_only c old new was now exit (a.asked ++ host_calls b.asked) (utf8 memory_line) 2 (chain-append (WorldLeads w.asks w.replies) a.asked (host_calls b.asked) old mid new a.chain (chain_of_host w.asks w.replies b.asked mid new b.chain)) p
      (no_memory c options e (prepared_first (filter_rule_of c) options a.asked b.asked picked cases (held a.holds) same b.holds) (only_asked (a.asked ++ host_calls b.asked)))

  -- `Prepares picked cases plan answers`: `plan` is that of `cases` of the selection `picked`, by
  -- the `answers` of the host about their requirements
  abbrev pub Prepares : CommandSelection → List Candidate → List Job → List Reply → Type 0
  Prepares picked cases plan answers = (host : Host) × ProbesHost cases answers host × ArePlanned picked.settings.config host 0 cases plan

  -- the calls for the selection, those for requirements and the last ones are together one sequence
  asks_all : (before : List WorldCall) (answers last : List Reply) (old mid asked begun : W) → Chain (WorldLeads w.asks w.replies) old before mid
      → Chain w.replies mid answers asked → Chain w.replies asked last begun → Chain (WorldLeads w.asks w.replies) old (before ++ (host_calls answers ++ host_calls last)) begun
  asks_all before answers last old mid asked begun p q r =
      chain-append (WorldLeads w.asks w.replies) before (host_calls answers ++ host_calls last) old mid begun p
      (chain-append (WorldLeads w.asks w.replies) (host_calls answers) (host_calls last) mid asked begun
      (chain_of_host w.asks w.replies answers mid asked q) (chain_of_host w.asks w.replies last asked begun r))

  prepared : (rule : FilterRule) (options : CaseOptions) (before : List WorldCall) (answers last : List Reply) (picked : CommandSelection) (cases : List Candidate)
      (plan : List Job) (trace : Trace) (calls : List StoreCall) → Selects rule options before (Ok picked) → Prepares picked cases plan answers
      → IsPrepared rule options (record { world_calls = before ++ (host_calls answers ++ host_calls last); plan = plan; trace = trace; calls = calls }) picked cases last
  prepared rule options before answers last picked cases plan trace calls s p =
      record { before = before; selects = s; answers = answers; host = p.0; surveys = p.1; asked = refl; planned = p.2 }

  -- a list of cases that is not empty has a first case
  first_case : (cases : List Candidate) → (cases ≡ [] → ⊥) → (first : Candidate) × (others : List Candidate) × (cases ≡ first ∷ others)
  first_case [] some = absurd (some refl)
  first_case (first ∷ others) some = (first, others, refl)

  -- a `debug` whose case ran meets `ExecutesWithoutStore`
  pub debug_only : (options : CaseOptions) (old mid begun new : W) (was now : Option (List ℕ)) (exit : ℕ) (picked : CommandSelection) (some : List Candidate) (plan : List Job) (failed : Bool) (totals : Totals) (intended_exit : ℕ)
      → HasSelected OneCase options old mid (Ok picked) → (picked.chosen.cases ≡ [] → ⊥) → some ≡ take 1 picked.chosen.cases
      → LeadsByCalls w.replies mid begun (Prepares picked some plan)
      → ExecutesDebug (launcher_of w) plan begun new was now failed (Ok totals) → intended_exit ≡ (if totals.bad == 0 then 0 else 1) → exit ≡ (if failed then 2 else intended_exit)
      → ExecutesWithoutStore w (command.Debug options) old new was now exit
  debug_only options old mid begun new was now exit picked some plan failed totals intended_exit a n s b d k e =
      let (first, others, is) = first_case picked.chosen.cases n in
      let one : LeadsByCalls w.replies mid begun (Prepares picked (first ∷ []) plan) = subst (λ (xs : List Candidate). LeadsByCalls w.replies mid begun (Prepares picked xs plan)) (s ∙ ap (λ (xs : List Candidate). take 1 xs) is) b in
      record {
        seen = record { world_calls = a.asked ++ (host_calls one.asked ++ []); plan = plan; trace = d.trace; calls = [] };
        course = record { begun = begun; asked = asks_all a.asked one.asked [] old mid begun begun a.chain one.chain refl; ran = d.leads };
        uncalled = refl;
        bytes = all_debug_bytes d.entries;
        intended_exit = debug_exit d.entries;
        is = debugged options picked first others d.entries is
            (prepared OneCase options a.asked one.asked [] picked (first ∷ []) plan d.trace [] (held a.holds) one.holds) d.ends.0 refl;
        printed = record { failed = failed; shows = d.written.more; exits = e ∙ ap (λ (y : ℕ). if failed then 2 else y) (k ∙ ap (λ (y : ℕ). if y == 0 then 0 else 1) d.ends.1.bad) };
      }

  -- a `debug` whose allocation failed before its case was started meets `ExecutesWithoutStore`
  pub debug_short : (options : CaseOptions) (old mid begun new : W) (was between now : Option (List ℕ)) (exit : ℕ) (picked : CommandSelection) (some : List Candidate) (plan : List Job) (f g : Bool) (fault : RunFault)
      → HasSelected OneCase options old mid (Ok picked) → some ≡ take 1 picked.chosen.cases → LeadsByCalls w.replies mid begun (Prepares picked some plan) → ExecutesDebug (launcher_of w) plan begun new was between f (Err fault) → WritesNext between f now g (utf8 (run_line fault)) → exit ≡ (if g then 2 else 2)
      → ExecutesWithoutStore w (command.Debug options) old new was now exit
  debug_short options old mid begun new was between now exit picked some plan f g (SinkFailed why) a same b d s e = absurd d.ends
  debug_short options old mid begun new was between now exit picked some plan f g (NoMemory refusal) a same b d s e =
      let q = d.ends in
      record {
        seen = record { world_calls = a.asked ++ host_calls b.asked; plan = plan; trace = d.trace; calls = [] };
        course = record { begun = begun; asked = chain-append (WorldLeads w.asks w.replies) a.asked (host_calls b.asked) old mid begun a.chain (chain_of_host w.asks w.replies b.asked mid begun b.chain); ran = d.leads };
        uncalled = refl;
        bytes = utf8 memory_line;
        intended_exit = 2;
        is = no_memory (command.Debug options) options refl (prepared_first OneCase options a.asked b.asked picked some (held a.holds) same (all_surveyed some b.asked b.holds.0 b.holds.1)) (record { trace = q.0; calls = refl });
        printed = record { failed = g; shows = (says_both was between now false f g [] (utf8 memory_line) (subst (λ (es : List Entry). WritesNext was false between f (all_debug_bytes es)) q.1 d.written) s).more; exits = e };
      }

  module _ {R : Type 0} (keep : keeping.Ghosts R) where
    -- a command that makes no store calls meets `CommandResult`
    pub did_asked : (c : Command) (old new : W) (store : R) (was now : Option (List ℕ)) (exit : ℕ) → ExecutesWithoutStore w c old new was now exit → CommandResult w keep c (command_state old store was) (command_state new store now) exit
    did_asked c old new store was now exit t = record {
      seen = t.seen;
      course = t.course;
      stored = stored_as keep [] t.seen.calls store store (sym t.uncalled) (stored_none keep store);
      bytes = t.bytes;
      intended_exit = t.intended_exit;
      is = t.is;
      printed = t.printed;
    }

    -- a `test` whose plan was executed meets `CommandResult`
    pub did_test : (old new : CommandState W R) (options : CaseOptions) (file : List ℕ) (mid asked begun : W) (picked : CommandSelection) (plan : List Job) (moment exit : ℕ)
        → HasSelected AnyFilters options old.world mid (Ok picked)
        → LeadsByCalls w.replies mid asked (Prepares picked picked.chosen.cases plan) → w.replies asked (Now moment) begun
        → ExecutesPlan (launcher_of w) keep (planned_run plan options picked moment) (command_state begun old.store old.held) new exit → CommandResult w keep (command.Test options file) old new exit
    did_test old new options file mid asked begun picked plan moment exit a b t r =
        let seen : CommandCalls = record { world_calls = a.asked ++ (host_calls b.asked ++ host_calls (Now moment ∷ [])); plan = plan; trace = r.trace; calls = r.calls } in
        let ready = prepared AnyFilters options a.asked b.asked (Now moment ∷ []) picked picked.chosen.cases plan r.trace r.calls (held a.holds) b.holds in
        record {
          seen = seen;
          course = record { begun = begun; asked = asks_all a.asked b.asked (Now moment ∷ []) old.world mid asked begun a.chain b.chain (begun, t, refl); ran = r.leads };
          stored = r.stored;
          bytes = r.bytes;
          intended_exit = r.intended_exit;
          is = tested options file picked moment r.bytes r.intended_exit ready r.is;
          printed = r.printed;
        }

    -- a command that calls only the store meets `CommandResult`
    pub did_called : (c : Command) (world : W) (store after : R) (was now : Option (List ℕ)) (exit : ℕ) → ExecutesWithoutWorld keep c store after was now exit → CommandResult w keep c (command_state world store was) (command_state world after now) exit
    did_called c world store after was now exit d = record {
      seen = store_calls_only d.calls;
      course = record { begun = world; asked = refl; ran = refl };
      stored = d.stored;
      bytes = d.bytes;
      intended_exit = d.intended_exit;
      is = d.is;
      printed = d.printed;
    }

none_asked : {calls : List StoreCall} → OnlyCallsStore (store_calls_only calls)
none_asked = record { world_calls = refl; trace = refl }

module _ {R : Type 0} (keep : keeping.Ghosts R) (c : Command) (store after : R) (was now : Option (List ℕ)) (exit : ℕ) (options : ReportOptions) where
  -- a report that meets `WritesReport` meets `ExecutesWithoutWorld`
  reports : {M : Bool → List StoreCall → List ℕ → ℕ → Type 0} (k : Command) → c ≡ k → (d : WritesReport keep store after was now exit M)
      → (M d.printed.failed d.calls d.bytes d.intended_exit → Means (store_calls_only d.calls) d.printed.failed k d.bytes d.intended_exit) → ExecutesWithoutWorld keep c store after was now exit
  reports k e d means = subst (λ (x : Command). ExecutesWithoutWorld keep x store after was now exit) (sym e) (record {
    calls = d.calls;
    stored = d.stored;
    bytes = d.bytes;
    intended_exit = d.intended_exit;
    is = means d.is;
    printed = d.printed;
  })

  pub did_report : (kinds : List Kind) (verbose : Bool) → c ≡ command.Report options kinds verbose
      → WritesReport keep store after was now exit (λ failed. PrintsReport options.run kinds failed verbose) → ExecutesWithoutWorld keep c store after was now exit
  did_report kinds verbose e d = reports (command.Report options kinds verbose) e d (reported options kinds verbose d.bytes d.intended_exit none_asked)

  pub did_junit : c ≡ command.ReportJunit options
      → WritesReport keep store after was now exit (PrintsJunitReport options.run) → ExecutesWithoutWorld keep c store after was now exit
  did_junit e d = reports (command.ReportJunit options) e d (reported_junit options d.bytes d.intended_exit none_asked)
