-- The calls of a store without runs, which change nothing.
use Rattle.std.proofs.Common.{◌≡◌, List, subst, sym}
use Rattle.kt_cli.proofs.Common.{Run, Serves, StoreCall, runs_after}
use Rattle.kt_store.proofs.ServeLemmas.{always_outlasts}
use Rattle.kt_cli.specs.NoStores.{HasNoRuns, LeavesAny, no_store}

-- a call that changes no runs obeys the contract of a store without runs
pub fails : (call : StoreCall) (old new : Unit {0}) → ((runs : List Run) → runs_after call runs ≡ runs) → Serves no_store call old new
fails call old new kept = record {
  asked = tt;
  stands = λ runs h. subst (λ (rs : List Run). HasNoRuns new rs) (sym (kept runs)) h;
  earlier = λ runs h sound. sound;
  agrees = λ runs h sound. absurd sound;
  crash = λ runs may h. always_outlasts LeavesAny (λ _ _. tt) call runs may old new;
}
