use Rattle.std.proofs.Common.{◌∙◌, arith}
use Rattle.std.proofs.lemmas.Str.{chars-nil}
use Rattle.kt_suite.proofs.Directories.{whole_name, after_slash}
use Rattle.kt_suite.proofs.paths.split_after_slash.Goals as goal

pub returns-in-None-clause-directory : goal.returns-in-None-clause-directory
returns-in-None-clause-directory c = chars-nil ∙ (whole_name c.args.path.now c.utf8.path c.in-None.ensures.cases).0

pub returns-in-None-clause-name : goal.returns-in-None-clause-name
returns-in-None-clause-name c = (whole_name c.args.path.now c.utf8.path c.in-None.ensures.cases).1

pub returns-in-Some-clause-directory : goal.returns-in-Some-clause-directory
returns-in-Some-clause-directory c =
    let cut = c.in-Some.ensures.cases in
    (after_slash _ _ _ cut.0 cut.1 _ c.utf8.path (omega (arith, cut.5, cut.7)) cut.2 c.split_at.ensures.front c.split_at.ensures.back (omega (arith, cut.7))).0

pub returns-in-Some-clause-name : goal.returns-in-Some-clause-name
returns-in-Some-clause-name c =
    let cut = c.in-Some.ensures.cases in
    (after_slash _ _ _ cut.0 cut.1 _ c.utf8.path (omega (arith, cut.5, cut.7)) cut.2 c.split_at.ensures.front c.split_at.ensures.back (omega (arith, cut.7))).1
