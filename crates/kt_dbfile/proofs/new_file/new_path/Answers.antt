use Rattle.kt_dbfile.proofs.Common.{IfOk-weaker, IsNewNameOf}
unfoldable use Rattle.std.specs.Str.{chars}
use Rattle.kt_dbfile.proofs.new_file.new_path.Goals as goal

pub returns : goal.returns
unfolding chars
returns c = IfOk-weaker c.path_with_suffix.result _ (IsNewNameOf c.args.file.now) (λ name is. is) c.path_with_suffix.ensures
