use Rattle.std.proofs.Common.{◌∙◌, arith}
use Rattle.std.proofs.lemmas.Str.{chars-nil}
use Rattle.kt_suite.proofs.Directories.{whole_name, before_slash}
use Rattle.kt_suite.proofs.paths.parent_slice.Goals as goal

pub returns-in-None : goal.returns-in-None
returns-in-None c = chars-nil ∙ (whole_name c.args.path.now c.utf8.path c.in-None.ensures.cases).2

pub returns-in-Some : goal.returns-in-Some
returns-in-Some c =
    let cut = c.in-Some.ensures.cases in
    before_slash c.args.path.now _ cut.0 cut.1 c.utf8.path (omega (arith, cut.5, cut.7)) cut.2 cut.3
