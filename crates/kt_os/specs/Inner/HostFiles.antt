-- The permissions of the host's files.
use Rattle.std.specs.Prelude.{ℕ, ◌==◌, Bool, not, bit_and}

-- `may_execute mode`: `true` if the owner, the group or others may execute a file with the
-- permission bits `mode` (73 is 0o111).
abbrev pub may_execute : ℕ → Bool
may_execute mode = not (bit_and mode 73 == 0)
