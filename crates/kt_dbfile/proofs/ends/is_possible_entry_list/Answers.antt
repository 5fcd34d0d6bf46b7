use Rattle.kt_dbfile.proofs.Common.{AllByRecursion, Entry, IsAscending, RunHead, all_map, ap, arith, ascending-map, length, length-map, nat_tests, outline_entry, subst, sym, ◌<◌, ◌∙◌, ◌≡◌, ◌≤◌}
use Rattle.kt_store.proofs.CloseLemmas.{at_most}
use Rattle.kt_dbfile.proofs.ends.is_possible_entry_list.Goals as goal

pub returns-then-entries-total : goal.returns-then-entries-total
returns-then-entries-total c r sound head are =
    let total : r.total ≡ length c.args.entries.now = sym (ap length are ∙ length-map r.entries outline_entry ∙ sound.whole (sym (ap (λ (h : RunHead). h.finished) head) ∙ c.if-head.true)) in
    c.has_contiguous_positions.ensures
    (subst (IsAscending (λ (a b : Entry). a.position < b.position)) (sym are) (ascending-map (λ (a b : Entry). a.position < b.position) outline_entry r.entries sound.ordered))
    (subst (AllByRecursion (λ (e : Entry). e.position < length c.args.entries.now)) (sym are) (all_map (λ (e : Entry). e.position < length c.args.entries.now) outline_entry r.entries (subst (λ n. AllByRecursion (λ (e : Entry). e.position < n) r.entries) total sound.below)))

pub returns-else-head : goal.returns-else-head
returns-else-head c r sound head are =
    let few : length c.args.entries.now ≤ c.args.head.total = omega (arith, ap length are, length-map r.entries outline_entry, at_most r sound, ap (λ (h : RunHead). h.total) head) in
    grind (arith, nat_tests, few)
