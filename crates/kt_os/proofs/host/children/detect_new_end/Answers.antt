use Rattle.std.proofs.Common.{◌∙◌}
use Rattle.indexmap.proofs.CallerLemmas.{index_map_len-with_value_at}
use Rattle.kt_os.proofs.Common.{process_state_in}
use Rattle.kt_os.proofs.HostStandings.{all_proceed_more, all_proceed_set}
use Rattle.kt_os.proofs.host.children.detect_new_end.Goals as goal

pub returns-then-detect_new_end : goal.returns-then-detect_new_end
returns-then-detect_new_end g c =
    let m = c.loop-place.children in
    all_proceed_more (process_state_in c.args.children.now.entries) (process_state_in m.entries) _ c.loop-place.invariant.proceed
    (all_proceed_set m.entries c.loop-place.place _ c.detect_new_end.new.self c.index_mut-held.ensures.value c.detect_new_end.ensures.proceeds)

pub loop-place-preserved : goal.loop-place-preserved
loop-place-preserved g c =
    let m = c.loop-place.children in
    record {
      proceed =
          all_proceed_more (process_state_in c.args.children.now.entries) (process_state_in m.entries) _ c.loop-place.invariant.proceed
          (all_proceed_set m.entries c.loop-place.place _ c.detect_new_end.new.self c.index_mut-held.ensures.value c.detect_new_end.ensures.proceeds);
      many = index_map_len-with_value_at m c.loop-place.place c.detect_new_end.new.self ∙ c.loop-place.invariant.many;
    }
