use Rattle.kt_script.proofs.Cuts.{first_cut}
use Rattle.kt_script.proofs.quotation.quoted_token.Goals as goal

pub range_from-requires : goal.range_from-requires
range_from-requires c = λ _. first_cut c.args.quote c.args.text.now c.requires.first c.utf8.text c.requires.small
