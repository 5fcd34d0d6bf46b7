-- The output and the exit status of `debug`.
use Rattle.std.specs.Prelude.{ℕ, List, ◌++◌, ◌==◌, flat_map, if◌then◌else◌}
use Rattle.kt_cli.specs.Types.{Entry, line_bytes}
use Rattle.kt_cli.specs.Totals.{bad_count}

-- `debug_bytes entry`: the outputs of the body and the cleanup of `entry`, followed by the line of
-- its case.
abbrev pub debug_bytes : Entry → List ℕ
debug_bytes entry = entry.body.out ++ entry.body.err ++ entry.cleanup.out ++ entry.cleanup.err ++ line_bytes entry

-- `all_debug_bytes entries`: the outputs of all `entries`, each followed by its line.
abbrev pub all_debug_bytes : List Entry → List ℕ
all_debug_bytes entries = flat_map debug_bytes entries

-- `debug_exit entries`: the exit status of `debug`: 1 if a case of `entries` failed or is broken,
-- else 0.
abbrev pub debug_exit : List Entry → ℕ
debug_exit entries = if bad_count entries == 0 then 0 else 1
