use Rattle.std.proofs.Common.{◌≡◌, ◌≤◌, ◌+◌, ◌-◌, ◌++◌, ℕ, List, Option, Some, None, length, take, drop, sym, ap, subst, ◌∙◌, arith, length-drop, length-take-le}
use Rattle.std.specs.Io.KnownBytes.{Appends, Keeps, append_known}
use Rattle.kt_cli.proofs.Common.{drop-take}
use lib.Seq.{paste}
use Rattle.std.proofs.lemmas.List.{append_assoc, take-append-drop}
use Rattle.std.proofs.lemmas.List.Edits.{take-paste}
use Rattle.kt_cli.proofs.output.fixed_buffer.FixedBuffer.write_buffered.Goals as goal

-- writing the first `n` held bytes keeps the written bytes followed by the held bytes
moved : (old new : Option (List ℕ)) (held : List ℕ) (n : ℕ) → Appends old new (take n held) → Keeps (append_known old held) (append_known new (drop n held))
moved None new held n h = tt
moved (Some xs) None held n h = absurd h
moved (Some xs) (Some ys) held n h = ap (λ l. l ++ drop n held) h ∙ append_assoc xs (take n held) (drop n held) ∙ ap (λ l. xs ++ l) (take-append-drop n held)

pub returns-clause-bytes : goal.returns-clause-bytes
returns-clause-bytes g c =
    let all = c.self.inside.memory in
    let count = c.self.inside.count in
    let from = c.write_until_failure-sent.result.0 in
    let size : length (take count all) ≡ count = length-take-le count all (omega (arith, c.self.invariant, c.self.told)) in
    let few : from ≤ count = omega (arith, size, c.write_until_failure-sent.ensures.bound) in
    let same : count - from ≡ 0 + (count - from) = omega arith in
    let whole : from + (count - from) ≡ count = omega (arith, few) in
    let left : take (count - from) c.copy_within.new.self ≡ drop from c.args.self.now =
    ap (take (count - from)) c.copy_within.ensures.after ∙ ap (λ k. take k (paste all 0 (drop from all) (count - from))) same
    ∙ take-paste all 0 (drop from all) (count - from) (omega arith) (omega (arith, c.self.invariant, c.self.told, length-drop from all))
    ∙ sym (drop-take from (count - from) all) ∙ ap (λ k. drop from (take k all)) whole ∙ ap (drop from) c.self.view_is in
    subst (λ (l : List ℕ). Keeps (append_known (g.W.Write.contents c.args.out.now) c.args.self.now) (append_known (g.W.Write.contents c.write_until_failure-sent.new.out) l)) (sym left)
    (moved _ _ c.args.self.now from (rw c.self.view_is at c.write_until_failure-sent.ensures.sent))
