use Rattle.std.proofs.Common.{◌≡◌, Some, ap, codes, slice_get, sym, ◌∙◌}
use Rattle.kt_cli.proofs.Common.{encode, shows_as, slice_get-get_or, utf8, warning_at}
use Rattle.kt_cli.proofs.messages.write_warning_at.Goals as goal
use Rattle.kt_base.proofs.Showing.{utf8_three}

pub returns-in-Some : goal.returns-in-Some
unfolding encode
returns-in-Some g c =
    let at = c.in-Some.ensures.lookup in
    let found : slice_get c.args.words.now c.args.position ≡ Some c.in-Some.word.now = slice_get-get_or c.args.words.now c.args.position c.in-Some.word.now at.3.0 ∙ ap Some (sym at.1) in
    let line = sym (utf8_three (codes "kyua: W: No test cases matched by the filter '") c.in-Some.word.now (codes "'.\n")) in
    shows_as (line ∙ ap (λ word. utf8 (warning_at word)) (sym found)) (rw c.as_bytes.ensures at c.emit_all.ensures)
