-- Output of the reports, as private functions write it.
use Rattle.std.specs.Prelude.{ℕ, Bool, List, Option}
use Rattle.kt_cli.specs.Types.{StoreCall}
use Rattle.kt_store.specs.declared.result_store.StoreSpec as keeping
use Rattle.kt_cli.specs.Pages.{Printed}
use Rattle.kt_cli.specs.Stores.{CallsStore}

module _ {R : Type 0} (r : keeping.Ghosts R) where
  module _ (store after : R) (was now : Option (List ℕ)) where
    -- `WritesReport r store after was now exit Means`: a report made `calls` of the store, from
    -- state `store` to `after`, and printed `bytes`. From content `was` to content `now` of the
    -- writer, `bytes` were written, or a proper prefix if a write failed. `exit` is the exit
    -- status: `intended_exit`, or 2 if a write failed. `Means` relates whether a write failed, the
    -- calls, `bytes` and `intended_exit`. `r` is the specification of the store.
    pub record WritesReport (exit : ℕ) (Means : Bool → List StoreCall → List ℕ → ℕ → Type 0) : Type 0 where
      pub calls : List StoreCall
      pub stored : CallsStore r calls store after
      pub bytes : List ℕ
      pub intended_exit : ℕ
      pub printed : Printed was now exit bytes intended_exit
      pub is : Means printed.failed calls bytes intended_exit
