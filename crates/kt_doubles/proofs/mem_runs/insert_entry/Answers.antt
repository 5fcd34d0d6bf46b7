use Rattle.std.proofs.Common.{insert, rules, ◌≡◌, ◌≤◌, length, ap, ◌∙◌, sym, subst, ℕ, List}
use Rattle.kt_doubles.proofs.Common.{Entry, insert_by_position, insert_index}
use Rattle.kt_doubles.proofs.MemoryLaws.{inserted, place_within}
use Rattle.kt_doubles.proofs.mem_runs.insert_entry.Goals as goal

pub insert-inserted-requires : goal.insert-inserted-requires
insert-inserted-requires c =
    let e : c.insert_index-place.result ≡ insert_index c.args.entry.position c.into_vec-kept.result.items = search rules in
    let l : length c.into_vec-kept.result.items ≡ c.into_vec-kept.result.len = search rules in
    subst (λ (n : ℕ). n ≤ c.into_vec-kept.result.len) (sym e) (subst (λ (n : ℕ). insert_index c.args.entry.position c.into_vec-kept.result.items ≤ n) l (place_within c.args.entry.position c.into_vec-kept.result.items))

pub returns-clause-ok : goal.returns-clause-ok
returns-clause-ok c =
    let e : c.insert_index-place.result ≡ insert_index c.args.entry.position c.into_vec-kept.result.items = search rules in
    let kept : c.into_vec-kept.result.items ≡ c.args.entries.now = search rules in
    let i : c.from_vec.result ≡ insert c.into_vec-kept.result.items c.insert_index-place.result c.args.entry = search rules in
    i ∙ ap (λ (n : ℕ). insert c.into_vec-kept.result.items n c.args.entry) e ∙ inserted c.args.entry c.into_vec-kept.result.items ∙ ap (λ (es : List Entry). insert_by_position c.args.entry es) kept
