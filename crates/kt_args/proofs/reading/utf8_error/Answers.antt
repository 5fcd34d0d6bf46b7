use Rattle.kt_args.proofs.CommandLaws.{refused_for}
use Rattle.kt_args.proofs.reading.utf8_error.Goals as goal

pub returns : goal.returns
returns c = refused_for _ _ c.from_clap.ensures
