use Rattle.kt_store.proofs.Common.{Entry, None, Option, Run, Some, [], ap, arith, entries_of, entry_at, find, get_or, length, length-map, map, map-id, refl, rules, run_at, subst, suc, sym, take, take_all, full_entry_columns, ℕ, ◌++◌, ◌+◌, ◌<◌, ◌∙◌, ◌∷◌, ◌≡◌}
use Rattle.kt_store.proofs.AskLemmas.{looked-then, was_clean}
use Rattle.kt_store.proofs.EntriesLemmas.{sound_of, up_of}
use Rattle.kt_store.proofs.SoundEntries.{IsOwn, are_own}
use Rattle.kt_store.proofs.OutputsLemmas.{has as is_at}
use Rattle.kt_store.proofs.RunLemmas.{one_more}
use Rattle.kt_store.proofs.entries.read_entries.Goals as goal

-- the first of a run's entries at a position is the run's entry at this position
there : (o : Option Run) (p : ℕ) (e : Entry) → find (is_at p) (entries_of o) ≡ Some e → entry_at o p ≡ Some e
there None p e is = is
there (Some r) p e is = is

pub returns-in_err-entry-clause-looked : goal.returns-in_err-entry-clause-looked
returns-in_err-entry-clause-looked g c = looked-then c.loop-row.invariant.0 c.read_entry.ensures.looked

pub returns-in_err-push_item-clause-looked : goal.returns-in_err-push_item-clause-looked
returns-in_err-push_item-clause-looked g c = looked-then c.loop-row.invariant.0 c.read_entry.ensures.looked

pub loop-row-preserved : goal.loop-row-preserved
loop-row-preserved g c = (
  looked-then c.loop-row.invariant.0 c.read_entry.ensures.looked,
  λ runs has clean valid are.
      let stands = c.loop-row.invariant.0.stands runs has in
      let i = c.loop-row.row-index in
      let o = run_at runs c.args.run in
      let es = entries_of o in
      let pushed : c.push_item.new.items.items ≡ c.loop-row.entries.items ++ c.in_ok-entry.entry ∷ [] = search rules in
      let low : i < length es = omega (arith, c.loop-row-test.true, ap length are, length-map es full_entry_columns) in
      let own = are_own es (up_of runs c.args.run valid) (sound_of runs c.args.run valid) in
      let it = one_more (IsOwn es) full_entry_columns (λ e. e) es i c.row-item.result own low (subst (λ l. c.row-item.result ≡ get_or l i c.row-item.result) are c.row-item.is) in
      let entry : c.in_ok-entry.entry ≡ it.0 = c.in_ok-entry.ensures.entry runs stands clean it.0 it.2.0 (there o it.0.position it.0 it.2.1) it.1 in
      let before = c.loop-row.invariant.1 runs has (was_clean c.read_entry.ensures.looked runs stands clean) valid are in
      let more : map (λ (e : Entry). e) (take (suc i) es) ≡ c.loop-row.entries.items ++ c.in_ok-entry.entry ∷ [] = it.3 ∙ rw (entry, before) refl in
      let place : suc i ≡ i + 1 = omega arith in
      pushed ∙ sym more ∙ ap (λ k. map (λ (e : Entry). e) (take k es)) place,
)

pub returns-clause-entries : goal.returns-clause-entries
returns-clause-entries g c runs has clean valid are =
    let es = entries_of (run_at runs c.args.run) in
    c.loop-row.invariant.1 runs has clean valid are ∙ map-id (take c.loop-row.row-index es) ∙ take_all c.loop-row.row-index es (omega (arith, c.loop-row-test.false, ap length are, length-map es full_entry_columns))
