use Rattle.std.proofs.Common.{rules, ◌≡◌, Some, inl, sym, ◌∙◌, subst, IfOk, IsSome}
use Rattle.kt_os.proofs.Common.{ProcessState}
use Rattle.kt_os.proofs.HostStandings.{all_stay, changed, proceeds_by}
use Rattle.kt_os.specs.contracts.system.ChildPartialEq.TheImpl.{eq-value as same}
use Rattle.kt_os.proofs.host.host_os.HostOsOs.poll.Goals as goal

pub returns-in-Err : goal.returns-in-Err
returns-in-Err g c =
    let u = (c.get_mut.follows.holds c.poll.new.self).3 (search rules) in
    let v = changed {eq = same.it} (λ a b. search rules) _ _ c.args.child c.in-Some.held.now c.poll.new.self (sym c.in-Some.ensures.value) u.1 u.2 in
    let w = rw c.check_late_children-late.ensures.children at v in
    ((inl (proceeds_by _ _ _ _ w.0 w.1 c.poll.ensures.proceeds), w.2), c.check_late_children-late.ensures.limit, c.check_late_children-late.ensures.looks)

pub returns-in-Ok-None : goal.returns-in-Ok-None
returns-in-Ok-None g c =
    let u = (c.get_mut.follows.holds c.poll.new.self).3 (search rules) in
    let v = changed {eq = same.it} (λ a b. search rules) _ _ c.args.child c.in-Some.held.now c.poll.new.self (sym c.in-Some.ensures.value) u.1 u.2 in
    let w = rw c.check_late_children-late.ensures.children at v in
    let runs = c.in-Ok-None.ensures.running (search rules) in
    let stay = all_stay c.args.child _ _ (w.1 ∙ runs.1 ∙ sym w.0) w.2 in
    rw w.0 (search (rules, runs.0, stay))

pub returns-in-Ok-Some : goal.returns-in-Ok-Some
returns-in-Ok-Some g c =
    let u = (c.get_mut.follows.holds c.poll.new.self).3 (search rules) in
    let v = changed {eq = same.it} (λ a b. search rules) _ _ c.args.child c.in-Some.held.now c.poll.new.self (sym c.in-Some.ensures.value) u.1 u.2 in
    let w = rw c.check_late_children-late.ensures.children at v in
    let proceeds = proceeds_by _ _ _ _ w.0 w.1 c.poll.ensures.proceeds in
    let ended = subst (λ (t : ProcessState). IfOk c.poll.result (λ s. IsSome s → t ≡ Some s)) (sym w.1) c.poll.ensures.ended in
    search (rules, proceeds, ended, w.2)
