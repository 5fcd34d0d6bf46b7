use Rattle.std.proofs.Common.{◌∙◌}
use Rattle.kt_args.proofs.Common.{found_of, raw_values-rows}
use Rattle.kt_args.proofs.reading.option_values.Goals as goal

pub returns : goal.returns
returns c = c.get_strs.ensures ∙ raw_values-rows (found_of c.args.matches.now) c.args.name.now
