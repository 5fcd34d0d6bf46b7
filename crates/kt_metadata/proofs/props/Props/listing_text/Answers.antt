use Rattle.std.proofs.Common.{rules}
use Rattle.kt_metadata.proofs.Common.{chars}
use Rattle.kt_metadata.proofs.props.Props.listing_text.Goals as goal

pub returns-in-None : goal.returns-in-None
unfolding chars
returns-in-None c = search rules
