use Rattle.std.proofs.Common.{◌≡◌, ◌∙◌, true, arith, sym, take}
use Rattle.std.specs.List.{list_all}
use Rattle.kt_report.proofs.Runs.{is_unescaped, all_first}
use Rattle.kt_report.proofs.escaping.unescaped_length.Goals as goal

pub loop-chunk-preserved : goal.loop-chunk-preserved
loop-chunk-preserved c =
    let cases = c.in-Some.ensures.cases in
    let all : list_all (is_unescaped c.args.attribute) (take 32 c.loop-chunk.rest.now) ≡ true = rw (← cases.0) (sym c.are_unescaped.ensures ∙ c.if-not-are_unescaped.false) in
    let first = all_first (is_unescaped c.args.attribute) 32 c.loop-chunk.rest.now (omega (arith, cases.2)) all in
    let was = c.loop-chunk.invariant in
    (rw cases.1 (omega (arith, was.0, first)), omega (arith, was.1, cases.2))
