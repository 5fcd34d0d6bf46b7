use Rattle.std.proofs.Common.{ap, map, codes}
use Rattle.kt_report.proofs.Common.{utf8, printable_byte, shows_as, shows_both, shows_error, shows_more}
use Rattle.kt_report.proofs.pairs.write_property.Goals as goal

pub returns-in_err-emit_all : goal.returns-in_err-emit_all
returns-in_err-emit_all g c =
    shows_error _ _ c.from_residual.ensures.1 (shows_more (codes "\n") (shows_more (map printable_byte (utf8 c.args.pair.now.value)) (rw c.as_bytes.ensures at c.in_err-emit_all.ensures)))

pub returns-in_err-write_value : goal.returns-in_err-write_value
returns-in_err-write_value g c =
    shows_error _ _ c.from_residual-in_err-write_value.ensures.1 (shows_more (codes "\n") (shows_both (rw c.as_bytes.ensures at c.in_ok-emit_all.ensures) (shows_as (ap (map printable_byte) c.as_bytes-2.ensures) c.in_err-write_value.ensures)))

pub returns : goal.returns
returns g c =
    shows_both (shows_both (rw c.as_bytes.ensures at c.in_ok-emit_all.ensures) (shows_as (ap (map printable_byte) c.as_bytes-2.ensures) c.in_ok-write_value.ensures)) c.emit.ensures
