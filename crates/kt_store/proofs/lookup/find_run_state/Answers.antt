use Rattle.kt_store.proofs.Common.{Row, all-slice_get, ap, arith, length, option_copied, option_map, run_at, slice_get, sym, ◌∙◌, ◌≤◌}
use Rattle.kt_store.proofs.RunLemmas.{tells_run, none_there, some_there, both_read, head, head_row}
use Rattle.kt_store.proofs.SqlFacts.{run_is}
use Rattle.kt_store.proofs.lookup.find_run_state.Goals as goal

pub get_column-requires : goal.get_column-requires
get_column-requires g c = omega (arith, all-slice_get (λ (l : Row). 2 ≤ length l) c.in_ok-rows.rows.items 0 c.in-Some.row.now (ap (λ l. slice_get l 0) (sym c.deref.ensures.value) ∙ sym c.first.ensures.value ∙ ap option_copied c.in-Some.is) c.in_ok-rows.ensures.wide)

pub get_column-requires-2 : goal.get_column-requires-2
get_column-requires-2 g c = omega (arith, all-slice_get (λ (l : Row). 2 ≤ length l) c.in_ok-rows.rows.items 0 c.in-Some.row.now (ap (λ l. slice_get l 0) (sym c.deref.ensures.value) ∙ sym c.first.ensures.value ∙ ap option_copied c.in-Some.is) c.in_ok-rows.ensures.wide)

pub query-requires : goal.query-requires
query-requires g c = record { plain = run_is.2; width = run_is.3 }

pub returns-in_default-clause-valid : goal.returns-in_default-clause-valid
returns-in_default-clause-valid g c runs has clean = (c.in_ok-rows.ensures.shown runs has clean).stored.tables.valid

pub returns-clause-valid : goal.returns-clause-valid
returns-clause-valid g c runs has clean = (c.in_ok-rows.ensures.shown runs has clean).stored.tables.valid

pub returns-in_default-clause-found : goal.returns-in_default-clause-found
returns-in_default-clause-found g c runs has clean =
    let items = c.in_ok-rows.rows.items in
    let are = tells_run g.S.Store c.query.new.conn runs c.args.run items (rw (c.int_value.ensures, c.from.ensures) at (c.in_ok-rows.ensures.shown runs has clean)) in
    sym (ap (option_map head) (none_there head_row (run_at runs c.args.run) items are (ap (λ l. slice_get l 0) (sym c.deref.ensures.value) ∙ sym c.first.ensures.value ∙ ap option_copied c.in_default.is)))

pub returns-clause-found : goal.returns-clause-found
returns-clause-found g c runs has clean =
    let items = c.in_ok-rows.rows.items in
    let are = tells_run g.S.Store c.query.new.conn runs c.args.run items (rw (c.int_value.ensures, c.from.ensures) at (c.in_ok-rows.ensures.shown runs has clean)) in
    let it = some_there head_row (run_at runs c.args.run) items c.in-Some.row.now are (ap (λ l. slice_get l 0) (sym c.deref.ensures.value) ∙ sym c.first.ensures.value ∙ ap option_copied c.in-Some.is) in
    both_read (run_at runs c.args.run) it.0 c.in-Some.row.now c.in_ok-total.total c.in_ok-finished.finished it.1 it.2 c.in_ok-total.ensures.value c.in_ok-finished.ensures.value
