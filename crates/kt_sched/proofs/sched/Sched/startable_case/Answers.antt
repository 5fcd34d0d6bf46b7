use Rattle.std.proofs.Common.{rules}
use Rattle.kt_sched.proofs.Common.{subst, arith, inl, inr, Some, None, nat_tests, slice_get_read, IsStartableCase, SchedState}
use Rattle.kt_sched.proofs.Located.{start_within, turn_found}
use Rattle.kt_sched.proofs.sched.Sched.startable_case.Goals as goal

pub index-requires : goal.index-requires
index-requires c =
    let at = slice_get_read c.self.inside.order.items c.len.result c.self.inside.turn _ (omega (arith, c.len.ensures)) c.if-self-len.false c.index-i.ensures in
    search (rules, start_within c.self.invariant.3 c.self.inside.turn c.index-i.result.now at)

pub returns-then-self-eq0 : goal.returns-then-self-eq0
returns-then-self-eq0 c =
    let at = slice_get_read c.self.inside.order.items c.len.result c.self.inside.turn _ (omega (arith, c.len.ensures)) c.if-self-len.false c.index-i.ensures in
    subst (λ (b : SchedState). IsStartableCase b (Some c.index-i.result.now)) c.self.view_is (c.if-self.false, at, c.if-self-2.false, inl c.if-self-eq0.true)

pub returns-then-index : goal.returns-then-index
returns-then-index c =
    let at = slice_get_read c.self.inside.order.items c.len.result c.self.inside.turn _ (omega (arith, c.len.ensures)) c.if-self-len.false c.index-i.ensures in
    let found = turn_found c.self.invariant.3 c.index-i.result.now c.index.result.now at c.index.ensures in
    subst (λ (b : SchedState). IsStartableCase b None) c.self.view_is (inr (inr (inr (grind (arith, nat_tests, c.if-self-eq0.false), (_, at, (_, found, c.if-index.true))))))

pub returns-else-index : goal.returns-else-index
returns-else-index c =
    let at = slice_get_read c.self.inside.order.items c.len.result c.self.inside.turn _ (omega (arith, c.len.ensures)) c.if-self-len.false c.index-i.ensures in
    let found = turn_found c.self.invariant.3 c.index-i.result.now c.index.result.now at c.index.ensures in
    subst (λ (b : SchedState). IsStartableCase b (Some c.index-i.result.now)) c.self.view_is (c.if-self.false, at, c.if-self-2.false, inr (_, found, c.if-index.false))
