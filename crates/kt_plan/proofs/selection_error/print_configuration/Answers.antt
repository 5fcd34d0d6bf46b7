use Rattle.std.proofs.Common.{codes, sym, ◌∙◌}
use Rattle.kt_plan.proofs.Common.{encode, shows_as, utf8-append, config_message}
use Rattle.kt_plan.proofs.SelectionMessages.{utf8-config}
use Rattle.kt_plan.proofs.selection_error.print_configuration.Goals as goal

pub returns : goal.returns
unfolding encode
returns g c =
    let words = c.as_bytes.ensures.value ∙ c.message.ensures ∙ sym (utf8-config c.args.fault) in
    shows_as (sym (utf8-append (codes "configuration: ") (config_message c.args.fault))) (rw words at c.emit_all.ensures)
