use Rattle.kt_dbfile.proofs.files.connect.Goals as goal

pub returns-in-Ok-clause-opened : goal.returns-in-Ok-clause-opened
returns-in-Ok-clause-opened g c clean = (c.in-Ok.ensures.opened clean, c.in-Ok.ensures.found clean)
