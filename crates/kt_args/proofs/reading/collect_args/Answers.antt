use Rattle.std.proofs.Common.{rules, ◌≡◌, length, refl}
use Rattle.kt_args.proofs.Common.{items_from_collect}
use Rattle.std.specs.Vec.Iter.{into_iter_items, into_iter_len}
use Rattle.std.proofs.lemmas.Iterator.Adapters.{YieldsList-from_vec}
use Rattle.kt_args.proofs.reading.collect_args.Goals as goal

pub returns : goal.returns
returns c =
    let size : into_iter_len c.args.words ≡ length (into_iter_items c.args.words) = search rules in
    let all = items_from_collect c.collect.result c.collect.ensures.ran (YieldsList-from_vec {s = c.args.words} (into_iter_items c.args.words) refl size) in
    search (rules, all)
