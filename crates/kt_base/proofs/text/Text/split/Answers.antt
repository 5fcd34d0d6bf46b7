use Rattle.std.proofs.Common.{◌≡◌, ◌∙◌, ap, sym, map, List, ℕ, ◌==◌, arith}
use Rattle.kt_base.proofs.Common.{chars, encodes-chars}
use Rattle.kt_base.proofs.Pieces.{fused, split-chars}
use Rattle.std.proofs.lemmas.Grind.{common_steps}
use Rattle.std.proofs.lemmas.Iterator.Consumers.{map_from_collect}
use Rattle.std.proofs.lemmas.Iterator.Splits.{YieldsList-from_str_split}
use Rattle.std.proofs.lemmas.Result.{IfOk-at_ok}
use Rattle.std.proofs.lemmas.Str.{scalars-chars}
use Rattle.std.specs.List.{slice_split}
use Rattle.kt_base.proofs.text.Text.split.Goals as goal

pub returns : goal.returns
returns c =
    let sign = c.args.sign in
    let text = c.as_str.result.now in
    let split : map (λ x. x.now) c.in_ok-between.between.items ≡ slice_split (λ b. b == sign) text
    = IfOk-at_ok _ c.in_ok-between.was (map_from_collect _ c.collect.ensures.ran (YieldsList-from_str_split sign text c.requires.ascii c.split.ensures.text c.split.ensures.has_more c.split.ensures.pattern)) in
    let all : c.loop-part.parts ≡ map (λ x. chars x.now) c.in_ok-between.between.items = grind (arith, common_steps) in
    all ∙ fused (λ x. x.now) chars c.in_ok-between.between.items ∙ ap (map chars) split
    ∙ ap (λ (bs : List ℕ). map chars (slice_split (λ b. b == sign) bs)) (sym (encodes-chars text c.as_str.utf8))
    ∙ split-chars sign (chars text) c.requires.ascii (scalars-chars text c.as_str.utf8)
    ∙ ap (slice_split (λ d. d == sign)) c.as_str.ensures.characters
