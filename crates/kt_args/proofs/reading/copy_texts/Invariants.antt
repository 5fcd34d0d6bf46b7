use Rattle.std.proofs.Common.{◌≡◌, ℕ, List, take, Bor, chars, map}
use Rattle.kt_args.proofs.reading.copy_texts.Given as goal

-- `texts` has the arguments so far.
abbrev pub invariant-loop-word : goal.invariant-loop-word
invariant-loop-word l = l.texts ≡ map (λ (word : Bor (List ℕ)). chars word.now) (take l.word-index l.words)
