use Rattle.std.proofs.Common.{codes, sym, ◌∙◌}
use Rattle.kt_plan.proofs.Common.{encode, chars, shows_as, utf8_five}
use Rattle.std.proofs.lemmas.Str.{encodes-chars}
use Rattle.kt_plan.proofs.selection_error.print_quoted.Goals as goal

pub returns : goal.returns
unfolding encode
returns g c =
    let what = c.as_bytes.ensures.value ∙ sym (encodes-chars c.args.what.now c.utf8.what) in
    let fault = c.as_bytes-3.ensures.value ∙ sym (encodes-chars c.args.fault.now c.utf8.fault) in
    let whole = utf8_five (chars c.args.what.now) (codes " '") c.args.word.now (codes "': ") (chars c.args.fault.now) in
    shows_as (sym whole) (rw (what, c.as_bytes-2.ensures, fault) at c.emit_all.ensures)
