-- The scan of a text is the part scanned so far, followed by the scan of the rest.
use Rattle.std.proofs.Common.{◌≡◌, ℕ, ◌+◌, List, length, option_map}
use Rattle.kt_script.proofs.Common.{long_comment_end}

-- ---- the end of a comment

-- `CountsOn n rest text`: `rest` is `text` after its first `n` bytes, in which no `]]` begins
pub record CountsOn (n : ℕ) (rest text : List ℕ) : Type 0 where
  pub so_far : option_map (λ m. n + m) (long_comment_end rest) ≡ long_comment_end text
  pub len : n + length rest ≡ length text
