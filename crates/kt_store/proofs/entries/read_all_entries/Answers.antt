use Rattle.kt_store.proofs.Common.{ap, entries_of, run_at, ◌∙◌}
use Rattle.kt_store.proofs.AskLemmas.{looked-then, was_clean}
use Rattle.kt_store.proofs.entries.read_all_entries.Goals as goal

pub returns-in_err-rows-clause-looked : goal.returns-in_err-rows-clause-looked
returns-in_err-rows-clause-looked g c = looked-then c.look_up_run.ensures.looked c.read_entry_rows.ensures.looked

pub returns-clause-entries : goal.returns-clause-entries
returns-clause-entries g c runs has clean =
    let stood = c.look_up_run.ensures.looked.stands runs has in
    let stands = c.read_entry_rows.ensures.looked.stands runs stood in
    let late = was_clean c.read_entries.ensures.looked runs stands clean in
    let found = c.in_ok-look_up_run.ensures.found runs has (was_clean c.read_entry_rows.ensures.looked runs stood late) in
    (found.0, found.1, c.in_ok-read_entries.ensures.entries runs stands clean (c.in_ok-rows.ensures.valid runs stood late) (c.deref.ensures.value ∙ c.in_ok-rows.ensures.all runs stood late) ∙ ap (λ n. entries_of (run_at runs n)) (c.run_key-number.ensures.same c.in_ok-look_up_run.ensures.small) ∙ ap entries_of found.1)

pub returns-in_err-read_entries-clause-looked : goal.returns-in_err-read_entries-clause-looked
returns-in_err-read_entries-clause-looked g c = looked-then c.look_up_run.ensures.looked (looked-then c.read_entry_rows.ensures.looked c.read_entries.ensures.looked)

pub returns-clause-looked : goal.returns-clause-looked
returns-clause-looked g c = looked-then c.look_up_run.ensures.looked (looked-then c.read_entry_rows.ensures.looked c.read_entries.ensures.looked)
