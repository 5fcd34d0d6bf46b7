-- Lemmas on the selection of a command, step by step.
use Rattle.std.proofs.Common.{Result, Ok, Err, List, ◌++◌}
use Rattle.kt_plan.proofs.Common.{FilterRule, Chain, Asked, LeadsByCalls, CaseOptions, CaseSelection, CommandSelection, Settings, SelectionError, HasTreeSelection, HoldsOrNoMemory, IsNoMemoryError, IsReadPrefix, ReadsSettings, WorldLeads, finished, tree_calls, host_calls, Reply, chain-append}
use Rattle.kt_plan.specs.Selecting.{IsSelectionPrefix, Selects, collecting, selected, settling, uncollected, unsettled}
use Rattle.kt_plan.proofs.Stops.{error_as, held}
use Rattle.kt_plan.proofs.QuestionChains.{chain_of_host, chain_of_tree}

module _ {W : Type 0} (asks : W → Asked → W → Type 0) (replies : W → Reply → W → Type 0) (rule : FilterRule) (options : CaseOptions) where
  -- `HasSettings old new result`: `result` is that of the settings of the command, by the calls
  -- from the state `old` to the state `new`.
  abbrev pub HasSettings : W → W → Result Settings SelectionError → Type 0
  HasSettings old new result = LeadsByCalls replies old new (HoldsOrNoMemory IsNoMemoryError (IsReadPrefix options.config) (ReadsSettings rule options) result)

  -- `HasSelection old new result`: `result` is that of the selection of the command, by the calls
  -- from the state `old` to the state `new`.
  abbrev pub HasSelection : W → W → Result CommandSelection SelectionError → Type 0
  HasSelection old new result = LeadsByCalls (WorldLeads asks replies) old new (HoldsOrNoMemory IsNoMemoryError (IsSelectionPrefix rule options) (Selects rule options) result)

  -- An error in the settings is the error of the selection.
  pub unsettled_answer : (old new : W) (fault : SelectionError) → HasSettings old new (Err fault) → HasSelection old new (Err fault)
  unsettled_answer old new fault a =
      record { asked = host_calls a.asked; chain = chain_of_host asks replies a.asked old new a.chain; holds = error_as (settling a.asked) (unsettled a.asked fault) a.holds }

  -- Calls to the host, then to the tree, then for the lists are one list of calls to the world.
  chain_to : (answers : List Reply) (asked : List Asked) (lists : List Reply) (a b d e : W) → Chain replies a answers b → Chain asks b asked d → Chain replies d lists e
      → Chain (WorldLeads asks replies) a (host_calls answers ++ (tree_calls asked ++ host_calls lists)) e
  chain_to answers asked lists a b d e x y z =
      chain-append (WorldLeads asks replies) (host_calls answers) (tree_calls asked ++ host_calls lists) a b e (chain_of_host asks replies answers a b x)
      (chain-append (WorldLeads asks replies) (tree_calls asked) (host_calls lists) b d e (chain_of_tree asks replies asked b d y) (chain_of_host asks replies lists d e z))

  -- An error in the Kyuafiles or the cases is the error of the selection.
  pub uncollected_answer : (old mid new : W) (settings : Settings) (fault : SelectionError) → HasSettings old mid (Ok settings)
      → HasTreeSelection asks replies settings options.kyuafile mid new (Err fault) → HasSelection old new (Err fault)
  uncollected_answer old mid new settings fault a c = record {
    asked = host_calls a.asked ++ (tree_calls c.asked ++ host_calls c.answers);
    chain = chain_to a.asked c.asked c.answers old mid c.loaded new a.chain c.chain c.lists;
    holds = error_as (collecting a.asked settings c.asked c.answers (held a.holds)) (uncollected a.asked settings c.asked c.answers fault (held a.holds)) c.holds;
  }

  -- Settings and selected cases give the selection of the command.
  pub selected_answer : (old mid new : W) (settings : Settings) (chosen : CaseSelection) → HasSettings old mid (Ok settings)
      → HasTreeSelection asks replies settings options.kyuafile mid new (Ok chosen) → HasSelection old new (Ok (record { settings = settings; chosen = chosen }))
  selected_answer old mid new settings chosen a c = record {
    asked = host_calls a.asked ++ (tree_calls c.asked ++ host_calls c.answers);
    chain = chain_to a.asked c.asked c.answers old mid c.loaded new a.chain c.chain c.lists;
    holds = finished _ _ (selected a.asked settings c.asked c.answers chosen (held a.holds) (held c.holds));
  }
