use Rattle.std.proofs.Common.{ap, flat_map}
use Rattle.kt_report.proofs.Common.{shows_as, shows_both, shows_error, shows_more, property_bytes}
use Rattle.kt_report.proofs.pairs.write_full_entry.Goals as goal

pub returns-in_err-line : goal.returns-in_err-line
returns-in_err-line g c = shows_error _ _ c.from_residual.ensures.1 (shows_more (flat_map property_bytes c.args.pairs.now) c.in_err-line.ensures)

pub returns : goal.returns
returns g c = shows_both c.in_ok-line.ensures (shows_as (ap (flat_map property_bytes) c.as_slice.ensures) c.write_properties.ensures)
