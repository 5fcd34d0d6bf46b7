use Rattle.std.proofs.Common.{codes, sym, ◌∙◌}
use Rattle.std.proofs.lemmas.Str.{encodes-chars}
use Rattle.kt_base.proofs.Showing.{utf8_three}
use Rattle.kt_cli.proofs.Common.{chars, encode, shows_as}
use Rattle.kt_cli.proofs.messages.write_error_line.Goals as goal

pub returns : goal.returns
unfolding encode
returns g c =
    let words = c.as_bytes.ensures.value ∙ sym (encodes-chars c.args.words.now c.utf8.words) in
    shows_as (sym (utf8_three (codes "kyua: E: ") (chars c.args.words.now) (codes "\n"))) (rw words at c.emit_all.ensures)
