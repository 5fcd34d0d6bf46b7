use Rattle.kt_dbfile.proofs.Common.{and_parts, arith, refl, ◌&&◌, ◌∙◌}
use Rattle.kt_dbfile.proofs.OpeningLemmas.{seven}
use Rattle.kt_dbfile.proofs.opening.is_schema_2.Goals as goal

pub returns : goal.returns
returns c is =
    let meta = c.is_table.result && c.is_key_index.result in
    let runs = c.is_table-of_runs.result in
    let entries = c.is_table-2.result && c.is_key_index-2.result in
    let props = c.is_table-3.result && c.is_key_index-3.result in
    let last = and_parts ((meta && runs) && entries) props is in
    let later = and_parts (meta && runs) entries last.0 in
    let first = and_parts meta runs later.0 in
    let m = and_parts c.is_table.result c.is_key_index.result first.0 in
    let e = and_parts c.is_table-2.result c.is_key_index-2.result later.1 in
    let p = and_parts c.is_table-3.result c.is_key_index-3.result last.1 in
    seven c.args.rows.now c.meta-item.result c.meta_key-item.result c.runs-item.result c.entries-item.result c.entries_key-item.result c.props-item.result c.props_key-item.result (omega (arith, c.in-len7.len_at_least)) (omega (arith, c.in-len7.len_below))
    c.meta-item.is c.meta_key-item.is c.runs-item.is c.entries-item.is c.entries_key-item.is c.props-item.is c.props_key-item.is
    ∙ rw (c.is_table.ensures m.0, c.is_key_index.ensures m.1, c.is_table-of_runs.ensures first.1, c.is_table-2.ensures e.0, c.is_key_index-2.ensures e.1, c.is_table-3.ensures p.0, c.is_key_index-3.ensures p.1) refl
