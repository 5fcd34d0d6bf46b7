use Rattle.std.proofs.Common.{◌≡◌, ◌∷◌, ◌++◌, ◌+◌, ◌<◌, ap, arith, drop, get_or, length, subst, List, ℕ}
use Rattle.kt_plan.proofs.Common.{common_steps, err_from_is_err_and, LeadsByCalls, IsCallPrefix, ChecksNeeds, Need, RecordsFound, Meta, candidate_meta, required_objects, needs_of_kinds, needs_of_kind}
use Rattle.kt_plan.proofs.Chains.{asked_short}
use Rattle.kt_plan.proofs.LookLaws.{looking_next, looking_all, looking_stopped}
use Rattle.kt_plan.proofs.plan.looking.probe_case_needs.Goals as goal
use Rattle.std.proofs.lemmas.List.{nil_from_length}

among_next : (needs : List Need) (i : ℕ) (d : Need) (meta : Meta) (words : List (List ℕ)) → i < length needs → words ≡ required_objects (get_or needs i d) meta
    → needs_of_kinds (drop i needs) meta ≡ needs_of_kind (get_or needs i d) words ++ needs_of_kinds (drop (i + 1) needs) meta
among_next needs i d meta words few same =
    let e : drop i needs ≡ get_or needs i d ∷ drop (i + 1) needs = grind (arith, few, common_steps) in
    rw same (ap (λ (ns : List Need). needs_of_kinds ns meta) e)

pub returns-in_err-probe_needs : goal.returns-in_err-probe_needs
returns-in_err-probe_needs g c =
    let p = err_from_is_err_and c.from_residual.result c.from_residual.ensures.1 in
    let kinds = c.need_kinds-need-items.result.now in
    let meta = candidate_meta c.args.candidate.now in
    let i = c.loop-need.need-index in
    asked_short g.W.World.replies c.args.world.now c.probe_needs.new.world _ _ c.from_residual.result p.0 p.1
    (subst (λ (needs : List (Need × List ℕ)). LeadsByCalls g.W.World.replies c.args.world.now c.probe_needs.new.world (λ answers. IsCallPrefix (ChecksNeeds needs) answers)) c.need_kinds-need-items.ensures
    (looking_stopped g.W.World.replies (needs_of_kinds kinds meta) c.args.world.now c.args.host.now (needs_of_kinds (drop i kinds) meta) _ (needs_of_kinds (drop (i + 1) kinds) meta) c.loop-need.world c.probe_needs.new.world c.loop-need.host
    (among_next kinds i _ meta _ c.loop-need-test.true c.required_objects.ensures) c.loop-need.invariant c.in_err-probe_needs.ensures))

pub loop-need-preserved : goal.loop-need-preserved
loop-need-preserved g c =
    let kinds = c.need_kinds-need-items.result.now in
    let meta = candidate_meta c.args.candidate.now in
    let i = c.loop-need.need-index in
    looking_next g.W.World.replies (needs_of_kinds kinds meta) c.args.world.now c.args.host.now (needs_of_kinds (drop i kinds) meta) _ (needs_of_kinds (drop (i + 1) kinds) meta) c.loop-need.world c.probe_needs.new.world c.loop-need.host c.probe_needs.new.host
    (among_next kinds i _ meta _ c.loop-need-test.true c.required_objects.ensures) c.loop-need.invariant c.in_ok-probe_needs.ensures

pub returns : goal.returns
returns g c =
    let kinds = c.need_kinds-need-items.result.now in
    let meta = candidate_meta c.args.candidate.now in
    let left = drop c.loop-need.need-index kinds in
    let none : length left ≡ 0 = grind (arith, common_steps) in
    subst (λ (needs : List (Need × List ℕ)). LeadsByCalls g.W.World.replies c.args.world.now c.loop-need.world (λ answers. ChecksNeeds needs answers × RecordsFound answers c.args.host.now c.loop-need.host)) c.need_kinds-need-items.ensures
    (looking_all g.W.World.replies (needs_of_kinds kinds meta) c.args.world.now c.args.host.now (needs_of_kinds left meta) c.loop-need.world c.loop-need.host (ap (λ (needs : List Need). needs_of_kinds needs meta) (nil_from_length left none)) c.loop-need.invariant)
