-- Errors in a tree of Kyuafiles, with their files and lines.
use Rattle.std.specs.Prelude.{ℕ, List, [], ◌≡◌}
use Rattle.kt_suite.specs.Types.{NoMemory, ReadFault, ScriptFault, SuiteCause, SuiteFault, Unreadable}
use Rattle.kt_base.specs.declared.no_memory.NoMemory.{NoMemory as Refusal}
use Rattle.kt_script.specs.declared.fault.ScriptFault.TheVariants.{BadToken, NotLiteral, Unclosed}
use Rattle.kt_suite.specs.declared.tree.ReadFault.TheVariants.{Memory}

-- `fault_at file line cause`: the error with the cause `cause` in the line `line` of the file
-- `file`.
abbrev pub fault_at : List ℕ → ℕ → SuiteCause → SuiteFault
fault_at file line cause = record { cause = cause; path = file; line = line }

-- `no_memory refusal`: the error for the failed allocation `refusal`. The error has no file and no
-- line.
abbrev pub no_memory : Refusal → SuiteFault
no_memory refusal = fault_at [] 0 (NoMemory refusal)

-- `IsNoMemory fault`: `fault` is the error of a failed allocation.
abbrev pub IsNoMemory : SuiteFault → Type 0
IsNoMemory fault = (refusal : Refusal) × (fault ≡ no_memory refusal)

-- `read_fault file why`: the error of the Kyuafile `file` whose read failed with the error `why`.
abbrev pub read_fault : List ℕ → ReadFault → SuiteFault
read_fault file (Memory refusal) = no_memory refusal
read_fault file why = fault_at file 0 Unreadable

-- `script_line fault`: the line of the error `fault` of a script, or 0 if the error has no line.
abbrev pub script_line : ScriptFault → ℕ
script_line (BadToken line) = line
script_line (NotLiteral line) = line
script_line (Unclosed line) = line
script_line other = 0
