-- Lemmas on the programs that the Kyuafile of a command registers.
use Rattle.std.proofs.Common.{Err, true, false, ◌≡◌, ℕ, List, [], sym, subst, ◌⊎◌, inl, inr}
use Rattle.kt_plan.proofs.Common.{Unreadable, SuiteFault, Asked, LeadsByCalls, name_in, is_empty, HoldsOrNoMemory, finished, memory_ran_out, IsLoadPrefix, Loads, before_tree, named, unfinished}
use Rattle.kt_plan.proofs.Chains.{answered-as, asked_nothing}
use Rattle.kt_suite.specs.Faults.{IsNoMemory}
use Rattle.kt_suite.specs.Inner.Steps.{IsFaultAt}
use Rattle.kt_suite.specs.Registered.{LoadResult, Registered, Unfinished}
use Rattle.kt_plan.specs.Listings.{unnamed}

module _ {T : Type 0} (asks : T → Asked → T → Type 0) (kyuafile : List ℕ) where
  -- `Loaded old new outcome`: calls that lead the tree from the state `old` to the state `new` load
  -- the Kyuafile, with the result `outcome`.
  abbrev Loaded : T → T → LoadResult → Type 0
  Loaded old new outcome = LeadsByCalls asks old new (HoldsOrNoMemory IsNoMemory (IsLoadPrefix kyuafile) (Loads kyuafile) outcome)

  -- A path without a file name is unreadable.
  pub not_there : (tree : T) (fault : SuiteFault) → is_empty (name_in kyuafile) ≡ true → IsFaultAt kyuafile 0 Unreadable fault → Loaded tree tree (Err fault)
  not_there tree fault n (inl m) = asked_nothing asks tree _ (memory_ran_out fault [] m before_tree)
  not_there tree fault n (inr e) = asked_nothing asks tree _ (finished (Err fault) [] (subst (λ (f : SuiteFault). Loads kyuafile [] (Err f)) (sym e) (unnamed n)))

  -- The result of loading the tree is the result of loading the Kyuafile.
  pub loaded : (old new : T) (root : List ℕ) (outcome : LoadResult) → root ≡ name_in kyuafile → is_empty (name_in kyuafile) ≡ false
      → LeadsByCalls asks old new (λ asked. Registered asked root outcome ⊎ Unfinished asked root outcome) → Loaded old new outcome
  loaded old new root outcome same full a = answered-as a by
    where
      by : (asked : List Asked) → Registered asked root outcome ⊎ Unfinished asked root outcome → HoldsOrNoMemory IsNoMemory (IsLoadPrefix kyuafile) (Loads kyuafile) outcome asked
      by asked (inr u) =
          subst (λ (o : LoadResult). HoldsOrNoMemory IsNoMemory (IsLoadPrefix kyuafile) (Loads kyuafile) o asked) (sym u.refused)
          (memory_ran_out u.fault asked u.no_memory (unfinished asked outcome (subst (λ (name : List ℕ). Unfinished asked name outcome) same u)))
      by asked (inl r) = finished outcome asked (named asked outcome full (subst (λ (name : List ℕ). Registered asked name outcome) same r))
