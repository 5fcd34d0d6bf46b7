use Rattle.kt_dbfile.proofs.OpeningLemmas.{taken_files}
use Rattle.kt_dbfile.proofs.runs_file.attach_files_and_convert.Goals as goal

pub returns-clause-attached : goal.returns-clause-attached
returns-clause-attached g c = taken_files c.args.connection c.attach_and_convert.result c.attach_and_convert.ensures.attached
