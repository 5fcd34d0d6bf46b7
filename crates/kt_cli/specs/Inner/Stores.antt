-- The effect of puts on the runs of a store.
use Rattle.std.specs.Prelude.{ℕ, List, [], ◌∷◌}
use Rattle.kt_cli.specs.Types.{Entry, Run, with_entry}

-- `runs_after_puts number entries runs`: `runs` after each of `entries` was put into the run with
-- number `number`, in order.
abbrev pub runs_after_puts : ℕ → List Entry → List Run → List Run
runs_after_puts number [] runs = runs
runs_after_puts number (e ∷ es) runs = runs_after_puts number es (with_entry number e runs)
