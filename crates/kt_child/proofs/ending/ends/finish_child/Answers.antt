use Rattle.std.proofs.Common.{◌∷◌, ◌++◌, refl}
use Rattle.kt_child.proofs.Common.{Now, ReadFile, stdout_path, stderr_path}
use Rattle.kt_child.proofs.Chains.{chain_append}
use Rattle.kt_child.proofs.ending.ends.finish_child.Goals as goal

pub returns-clause-left : goal.returns-clause-left
returns-clause-left g c =
    let n = c.moment-moment.ensures.asked in
    let r = c.read_evidence-evidence.ensures.gathered in
    let o = c.read_child_output-out.ensures.asked in
    let e = c.read_child_output-err.ensures.asked in
    let l = c.remove_dir_if_requested.ensures in
    let k = c.args.case.now in (
      Now n.0 ∷ (r.0 ++ ReadFile (stdout_path k.role k.paths) 1048576 o.0 ∷ ReadFile (stderr_path k.role k.paths) 1048576 e.0 ∷ l.0),
      (_, n.1, chain_append g.O.Os.leads _ _ _ r.0 _ r.1 (_, rw c.output_paths.ensures.out at o.1, (_, rw c.output_paths.ensures.err at e.1, l.1))),
      (
        n.0,
        r.0,
        o.0,
        e.0,
        l.0,
        refl,
        r.2,
        rw c.is_last_child.ensures at l.2,
        refl,
        refl,
        refl,
        o.2,
        e.2,
        n.2,
        c.read_child_output-out.ensures.within,
        c.read_child_output-err.ensures.within,
      ),
    )
