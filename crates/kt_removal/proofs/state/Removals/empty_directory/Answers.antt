use Rattle.kt_removal.proofs.Steps.{may_stays, stays_then}
use Rattle.kt_removal.proofs.state.Removals.empty_directory.Goals as goal

pub remove_next_entries-requires : goal.remove_next_entries-requires
remove_next_entries-requires g c = may_stays c.args.self.now c.loop.self c.args.directory.now c.loop.invariant c.requires

pub returns-then-not-remove_next_entries : goal.returns-then-not-remove_next_entries
returns-then-not-remove_next_entries g c =
    record { stays = stays_then c.args.self.now c.loop.self c.remove_next_entries.new.self c.loop.invariant c.remove_next_entries.ensures.stays }

pub returns-then-must_stop_after_step : goal.returns-then-must_stop_after_step
returns-then-must_stop_after_step g c =
    record { stays = stays_then c.args.self.now c.loop.self c.remove_next_entries.new.self c.loop.invariant c.remove_next_entries.ensures.stays }

pub loop-preserved : goal.loop-preserved
loop-preserved g c = stays_then c.args.self.now c.loop.self c.remove_next_entries.new.self c.loop.invariant c.remove_next_entries.ensures.stays
