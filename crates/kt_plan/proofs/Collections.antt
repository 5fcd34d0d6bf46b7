-- Lemmas on the calls for a selection: those to the tree, and then the lists.
use Rattle.std.proofs.Common.{Result, Ok, Err, Bool, not, filter, ◌+◌, IfErr, IfOk, IsErrAnd, List, OnOk, [], ap, arith, inl, inr, length, refl, subst, sym, ℕ, ◌<◌, ◌∙◌, ◌≡◌, ◌≤◌, ◌⊎◌}
use Rattle.kt_plan.proofs.Common.{Asked, LeadsByCalls, NoMemory, item_limit, is_selected, SuiteFault, Filter, Program, Candidate, CaseSelection, Settings, SelectionError, HasTreeSelection, item_of, selected_cases, selection_of, ListsAllCases, IsAllListsPrefix, LoadsAndSelects, IsLoadAndSelectPrefix, unloaded, too_many, chosen, loading, offering, HoldsOrNoMemory, finished, memory_ran_out, IsLoadPrefix, Loads, by_tree, IsNoMemoryError, Reply}
use Rattle.std.proofs.lemmas.List.Filters.{length-filter_both}
use Rattle.kt_base.specs.declared.no_memory.NoMemory.{NoMemory as OutOfMemory}
use Rattle.kt_suite.specs.Faults.{IsNoMemory}
use Rattle.kt_plan.specs.declared.selection_error.SelectionError.TheVariants as stop
use Rattle.kt_plan.proofs.OfferLaws.{all_first}
use Rattle.kt_plan.proofs.Stops.{held, ran_out}

-- A selection from at most 100,000 cases has at most 100,000 cases.
pub few_chosen : (filters : List Filter) (found : List Candidate) (r : Result CaseSelection SelectionError) → IfOk r (λ c. c ≡ selection_of filters found) → OnOk r (length found ≤ item_limit) → IfOk r (λ c. length c.cases ≤ item_limit)
few_chosen filters found (Ok c) e few =
    let test : Candidate → Bool = λ candidate. is_selected filters (item_of candidate) in
    let both : length (filter test found) + length (filter (λ candidate. not (test candidate)) found) ≡ length found = length-filter_both test (λ candidate. not (test candidate)) (λ candidate. refl) found in
    let less : length (selected_cases filters found) ≤ item_limit = omega (arith, both, few) in
    subst (λ (x : CaseSelection). length x.cases ≤ item_limit) (sym e) less
few_chosen filters found (Err why) e few = tt

module _ {W : Type 0} (asks : W → Asked → W → Type 0) (replies : W → Reply → W → Type 0) (settings : Settings) (kyuafile : List ℕ) (old mid : W) where
  -- An error in the Kyuafiles is the error of the selection.
  pub tree_stopped : (fault : SuiteFault) (why : SelectionError) → LeadsByCalls asks old mid (HoldsOrNoMemory IsNoMemory (IsLoadPrefix kyuafile) (Loads kyuafile) (Err fault))
      → ((refusal : OutOfMemory) × (why ≡ stop.NoMemory refusal) × (fault.cause ≡ NoMemory refusal)) ⊎ ((why ≡ stop.Tree fault) × (IsNoMemory fault → ⊥))
      → HasTreeSelection asks replies settings kyuafile old mid (Err why)
  tree_stopped fault why a t = record { asked = a.asked; answers = []; loaded = mid; chain = a.chain; lists = refl; holds = by t a.holds }
    where
      by : ((refusal : OutOfMemory) × (why ≡ stop.NoMemory refusal) × (fault.cause ≡ NoMemory refusal)) ⊎ ((why ≡ stop.Tree fault) × (IsNoMemory fault → ⊥))
          → HoldsOrNoMemory IsNoMemory (IsLoadPrefix kyuafile) (Loads kyuafile) (Err fault) a.asked
          → HoldsOrNoMemory IsNoMemoryError (IsLoadAndSelectPrefix settings kyuafile a.asked) (LoadsAndSelects settings kyuafile a.asked) (Err why) []
      by (inl short) (memory_ran_out _ _ m p) = memory_ran_out why [] (short.0, short.1) (loading a.asked p)
      by (inl short) (finished _ _ l) = memory_ran_out why [] (short.0, short.1) (loading a.asked (by_tree a.asked fault short.0 short.2 l))
      by (inr is) (memory_ran_out _ _ m p) = absurd (is.1 m)
      by (inr is) (finished _ _ l) = finished (Err why) [] (subst (λ (w : SelectionError). LoadsAndSelects settings kyuafile a.asked [] (Err w)) (sym is.0) (unloaded a.asked fault l))

  module _ (programs : List Program) (new : W) (a : LeadsByCalls asks old mid (HoldsOrNoMemory IsNoMemory (IsLoadPrefix kyuafile) (Loads kyuafile) (Ok programs))) where
    -- The programs are those that the Kyuafile registers.
    loads : Loads kyuafile a.asked (Ok programs)
    loads = held a.holds

    -- If an allocation fails while programs list their cases, the calls so far are a prefix of
    -- those of the selection.
    pub lists_stopped : (shown : List Program) (r : Result CaseSelection SelectionError) (refusal : OutOfMemory) → shown ≡ programs → LeadsByCalls replies mid new (λ answers. IsAllListsPrefix settings.config settings.filters shown answers) → IsErrAnd r (λ e. e ≡ stop.NoMemory refusal)
        → HasTreeSelection asks replies settings kyuafile old new r
    lists_stopped shown r refusal same b short = record {
      asked = a.asked;
      answers = b.asked;
      loaded = mid;
      chain = a.chain;
      lists = b.chain;
      holds = ran_out b.asked r refusal short (offering a.asked b.asked programs loads (subst (λ (ps : List Program). IsAllListsPrefix settings.config settings.filters ps b.asked) same b.holds));
    }

    module _ (shown : List Program) (filters : List Filter) (found : List Candidate) (same : shown ≡ programs) (own : filters ≡ settings.filters)
        (b : LeadsByCalls replies mid new (λ answers. ListsAllCases settings.config settings.filters shown answers found)) where
      -- The calls to the tree and for the lists are the calls of the selection.
      collected : (r : Result CaseSelection SelectionError) → HoldsOrNoMemory IsNoMemoryError (IsLoadAndSelectPrefix settings kyuafile a.asked) (LoadsAndSelects settings kyuafile a.asked) r b.asked → HasTreeSelection asks replies settings kyuafile old new r
      collected r h = record { asked = a.asked; answers = b.asked; loaded = mid; chain = a.chain; lists = b.chain; holds = h }

      -- The cases are the cases of the programs.
      offers : ListsAllCases settings.config settings.filters programs b.asked found
      offers = subst (λ (ps : List Program). ListsAllCases settings.config settings.filters ps b.asked found) same b.holds

      -- The result of the filters is the result of the selection.
      pub all_chosen : (r : Result CaseSelection SelectionError) → IfOk r (λ c. c ≡ selection_of filters found) → OnOk r (length found ≤ item_limit) → IfErr r (λ why. IsNoMemoryError why ⊎ ((why ≡ stop.TooManyCases) × (item_limit < length found)))
          → HasTreeSelection asks replies settings kyuafile old new r
      all_chosen (Ok c) e few s =
          let right : c ≡ selection_of settings.filters found = e ∙ ap (λ (fs : List Filter). selection_of fs found) own in
          collected (Ok c) (finished (Ok c) b.asked (subst (λ (x : CaseSelection). LoadsAndSelects settings kyuafile a.asked b.asked (Ok x)) (sym right) (chosen a.asked b.asked programs found loads offers few)))
      all_chosen (Err why) e few (inl short) = collected (Err why) (memory_ran_out why b.asked short (offering a.asked b.asked programs loads (all_first replies settings.config settings.filters programs b.asked found offers)))
      all_chosen (Err why) e few (inr s) = collected (Err why) (finished (Err why) b.asked (subst (λ (w : SelectionError). LoadsAndSelects settings kyuafile a.asked b.asked (Err w)) (sym s.0) (too_many a.asked b.asked programs found loads offers s.1)))
