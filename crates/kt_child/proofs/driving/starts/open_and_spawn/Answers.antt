use Rattle.std.proofs.Common.{[], ◌∷◌, refl}
use Rattle.kt_child.proofs.Common.{open_call, spawn_call}
use Rattle.kt_child.proofs.Chains.{tries_failed, tries_more}
use Rattle.kt_child.proofs.driving.starts.open_and_spawn.Goals as goal

pub returns-in-Err : goal.returns-in-Err
returns-in-Err g c =
    let p = c.args.plan.now in
    tries_failed g.O.Os.leads _ _ (open_call p p.out) (open_call p p.err ∷ spawn_call p ∷ []) c.in-Err.fault _ c.in-Err.ensures c.refusal_cause.ensures

pub returns-in-Err-open_output : goal.returns-in-Err-open_output
returns-in-Err-open_output g c =
    let p = c.args.plan.now in
    tries_more g.O.Os.leads _ _ _ (open_call p p.out) (open_call p p.err ∷ spawn_call p ∷ []) _ c.in_default.ensures
    (tries_failed g.O.Os.leads _ _ (open_call p p.err) (spawn_call p ∷ []) c.in-Err-open_output.fault _ c.in-Err-open_output.ensures c.refusal_cause-in-Err-open_output.ensures)

pub returns-in-Ok : goal.returns-in-Ok
returns-in-Ok g c =
    let p = c.args.plan.now in
    tries_more g.O.Os.leads _ _ _ (open_call p p.out) (open_call p p.err ∷ spawn_call p ∷ []) _ c.in_default.ensures
    (tries_more g.O.Os.leads _ _ _ (open_call p p.err) (spawn_call p ∷ []) _ c.in_default-open_output.ensures
    (tries_more g.O.Os.leads _ _ _ (spawn_call p) [] _ c.in-Ok.ensures ([], refl, tt)))

pub returns-in-Err-spawn : goal.returns-in-Err-spawn
returns-in-Err-spawn g c =
    let p = c.args.plan.now in
    tries_more g.O.Os.leads _ _ _ (open_call p p.out) (open_call p p.err ∷ spawn_call p ∷ []) _ c.in_default.ensures
    (tries_more g.O.Os.leads _ _ _ (open_call p p.err) (spawn_call p ∷ []) _ c.in_default-open_output.ensures
    (tries_failed g.O.Os.leads _ _ (spawn_call p) [] c.in-Err-spawn.fault _ c.in-Err-spawn.ensures c.refusal_cause-in-Err-spawn.ensures))
