use Rattle.kt_store.proofs.CloseLemmas.{at_places}
use Rattle.kt_dbfile.proofs.ends.has_contiguous_positions.Goals as goal

pub returns-then-entry-place : goal.returns-then-entry-place
returns-then-entry-place c up below = absurd (c.if-entry-place.true (at_places c.args.entries.now c.loop-place.place c.index-entries-place.result up below c.loop-place-test.true c.index-entries-place.is))
