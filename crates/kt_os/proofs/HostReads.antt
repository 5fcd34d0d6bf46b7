-- The bytes that a read returns are a prefix of the remaining bytes of the file.
use Rattle.std.proofs.Common.{Option, ℕ, ◌≤◌, List, length}
use Rattle.std.specs.Io.KnownBytes.{Consumes}

-- `HasRead limit left rest bytes`: `bytes`, at most `limit` of them, were read. The remaining bytes
-- of the file go from `left` to `rest`.
pub record HasRead (limit : ℕ) (left rest : Option (List ℕ)) (bytes : List ℕ) : Type 0 where
  pub taken : Consumes left rest bytes
  pub few : length bytes ≤ limit
