-- The error lines of commands.
use Rattle.std.specs.Prelude.{ℕ, List, ◌++◌, codes}
use Rattle.kt_cli.specs.Types.{StoreFault}
use Rattle.kt_store.specs.Ask.{fault_message}

-- `fault_line words`: the error line, in characters, with the message `words`.
abbrev pub fault_line : List ℕ → List ℕ
fault_line words = codes "kyua: E: " ++ words ++ codes "\n"

-- The error line of a command whose allocation failed.
abbrev pub memory_line : List ℕ
memory_line = fault_line (codes "out of memory")

-- `store_fault_line fault`: the error line of a command whose store call failed with `fault`.
abbrev pub store_fault_line : StoreFault → List ℕ
store_fault_line fault = fault_line (fault_message fault)
