use Rattle.std.proofs.Common.{rules, ◌∙◌, ◌≡◌, Some, map}
use Rattle.kt_args.proofs.Common.{all_of, found_of, rows_of}
use Rattle.std.proofs.lemmas.Result.{IfOk-weaker}
use Rattle.kt_args.proofs.ReadingLaws.{texts_are}
use Rattle.kt_args.proofs.reading.option_texts.Goals as goal

pub returns-in-Some : goal.returns-in-Some
returns-in-Some c =
    let rows = rows_of (found_of c.args.matches.now) in
    let found : Some (map (λ word. word.now) c.in-Some.words.now) ≡ all_of c.args.name.now rows = search rules in
    IfOk-weaker c.copy_texts.result _ _ (λ texts e. e ∙ texts_are c.args.name.now rows c.in-Some.words.now found) c.copy_texts.ensures
