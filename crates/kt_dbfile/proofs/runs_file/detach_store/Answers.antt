use Rattle.kt_dbfile.proofs.Common.{arith}
use Rattle.kt_dbfile.proofs.runs_file.detach_store.Goals as goal

pub returns-clause-from : goal.returns-clause-from
returns-clause-from g c =
    let it = c.into_store.ensures in
    let early = it.quiet.clean in
    record { earlier = λ clean. omega (arith, clean, early); crash = it.quiet.outcomes; numbered = it.numbered; sound = it.sound }
