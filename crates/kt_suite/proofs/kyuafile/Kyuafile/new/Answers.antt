use Rattle.std.proofs.Common.{◌≡◌, chars, ◌++◌, ap, sym, ◌∙◌}
use Rattle.kt_suite.specs.Common.{directory_of, name_in}
use Rattle.kt_suite.proofs.Directories.{rejoined}
use Rattle.kt_suite.proofs.kyuafile.Kyuafile.new.Goals.{In_ok-name}
use Rattle.kt_suite.proofs.kyuafile.Kyuafile.new.Goals as goal

-- the two parts make up the path
whole : (c : In_ok-name) → c.in_ok-directory.directory ++ c.in_ok-name.name ≡ chars c.args.path.now
whole c =
    rw (c.in_ok-directory.ensures, c.split_after_slash.ensures.directory, c.in_ok-name.ensures, c.split_after_slash.ensures.name) (rejoined (chars c.args.path.now))

pub invariant_of-result : goal.invariant_of-result
invariant_of-result c =
    let path = sym (whole (goal.at.invariant_of-result c).In_ok-name) in (
      c.in_ok-directory.ensures ∙ c.split_after_slash.ensures.directory ∙ ap directory_of path,
      c.in_ok-name.ensures ∙ c.split_after_slash.ensures.name ∙ ap name_in path,
    )

pub returns : goal.returns
returns c = whole (goal.at.returns c).In_ok-name
