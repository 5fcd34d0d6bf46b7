-- Lemmas on the settings of a command.
use Rattle.std.proofs.Common.{Result, Ok, Err, IsErrAnd, ◌≡◌, List, subst, ◌⊎◌, inl, inr}
use Rattle.kt_plan.proofs.Common.{FilterRule, Definition, Values, LeadsByCalls, Filter, HoldsOrNoMemory, IsNoMemoryError, finished, memory_ran_out, Configures, ParsesFilters, IsReadPrefix, ReadsSettings, settled, unconfigured, unfiltered, Reply, CaseOptions, Settings, SelectionError}
use Rattle.kt_base.proofs.Lists.{error_is}
use Rattle.kt_plan.proofs.Chains.{answered-as}
use Rattle.kt_plan.proofs.Configurations.{Configuration, configuration_first, error_meant, with_definitions}
use Rattle.kt_plan.proofs.Stops.{error_as}

module _ {W : Type 0} (replies : W → Reply → W → Type 0) (old new : W) (rule : FilterRule) (options : CaseOptions) where
  -- `Settled result`: the calls from the state `old` to the state `new` give `result`: the settings
  -- of the command, or its error.
  abbrev pub Settled : Result Settings SelectionError → Type 0
  Settled result = LeadsByCalls replies old new (HoldsOrNoMemory IsNoMemoryError (IsReadPrefix options.config) (ReadsSettings rule options) result)

  -- The error of the configuration is the error of the settings.
  pub not_configured : (found : Result Values SelectionError) (result : Result Settings SelectionError) (fault : SelectionError) → found ≡ Err fault → IsErrAnd result (λ e. e ≡ fault) → Configuration replies old new options found → Settled result
  not_configured found result fault e r a = error_is Settled result fault r (answered-as (subst (Configuration replies old new options) e a)
      (λ answers. error_as (λ p. p) (λ c. unconfigured fault (error_meant (Configures options answers) fault c))))

  module _ (found : Result Values SelectionError) (config : Values) (e : found ≡ Ok config) (a : Configuration replies old new options found) where
    -- The error of the filters is the error of the settings.
    pub not_filtered : (read : Result (List Filter) SelectionError) (result : Result Settings SelectionError) (fault : SelectionError) → read ≡ Err fault → IsErrAnd result (λ x. x ≡ fault)
        → IsErrAnd read IsNoMemoryError ⊎ ParsesFilters rule options.filters read → Settled result
    not_filtered read result fault f r h = error_is Settled result fault r (with_definitions replies old new (Configures options) e a (λ answers definitions m g.
        by answers definitions m (subst (λ (o : Result (List Filter) SelectionError). IsErrAnd o IsNoMemoryError ⊎ ParsesFilters rule options.filters o) f h)))
      where
        by : (answers : List Reply) (definitions : List Definition) → Configures options answers (Ok definitions) → IsNoMemoryError fault ⊎ ParsesFilters rule options.filters (Err fault)
            → HoldsOrNoMemory IsNoMemoryError (IsReadPrefix options.config) (ReadsSettings rule options) (Err fault) answers
        by answers definitions m (inl s) = memory_ran_out _ _ s (configuration_first options answers (Ok definitions) m)
        by answers definitions m (inr w) = finished _ _ (unfiltered definitions fault m w)

    -- A configuration and filters without an error give the settings.
    pub all_settled : (read : Result (List Filter) SelectionError) (filters : List Filter) → read ≡ Ok filters → IsErrAnd read IsNoMemoryError ⊎ ParsesFilters rule options.filters read
        → Settled (Ok (record { config = config; filters = filters }))
    all_settled read filters f h =
        with_definitions replies old new (Configures options) e a (λ answers definitions m g.
        finished _ _ (settled definitions (record { config = config; filters = filters }) m g (parsed (subst (λ (o : Result (List Filter) SelectionError). IsErrAnd o IsNoMemoryError ⊎ ParsesFilters rule options.filters o) f h))))
      where
        parsed : ⊥ ⊎ ParsesFilters rule options.filters (Ok filters) → ParsesFilters rule options.filters (Ok filters)
        parsed (inl s) = absurd s
        parsed (inr w) = w
