-- The state of the reader between two lines of a list.
use Rattle.std.specs.Prelude.{List, Option}
use Rattle.kt_atflist.specs.declared.listing.CaseDef.{CaseDef}

-- `ReaderState`: a state of the reader of a list: the cases of the finished blocks, and the block
-- that has begun, if any.
pub record ReaderState : Type 0 where
  -- The test cases whose blocks in the list are finished, in order.
  pub cases : List CaseDef
  -- The case of the block that has begun, or nothing between two blocks.
  pub block : Option CaseDef
