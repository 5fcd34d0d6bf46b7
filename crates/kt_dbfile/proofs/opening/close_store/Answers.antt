use Rattle.kt_dbfile.proofs.Common.{AreClean, HasTrees, Image, IsClean, IsTrue, View, [], ap, arith, clean_is, may_leave_is, open_from, outcomes, subst, sym, ◌∙◌, ◌≡◌, ∥∥₁_map}
use Rattle.sqlite_trees.proofs.Doubt.{clean_of as ensure_sound, no_doubt}
use Rattle.sqlite_store.specs.FileStore.{state, view}
use Rattle.sqlite_store.proofs.StepLemmas.{quiet_then}
use Rattle.kt_dbfile.proofs.ReopenLemmas.{left_of, without_log_of}
use Rattle.kt_dbfile.proofs.opening.close_store.Goals as goal

pub returns-in-Ok-clause-closed : goal.returns-in-Ok-clause-closed
returns-in-Ok-clause-closed g c =
    let before = c.rollback.new.self in
    let last = c.checkpoint.new.self in
    let first = c.rollback.ensures.undone in
    let q = c.checkpoint.ensures.quiet in
    let stays = g.met.D.Disk.seen_may_stay in
    record {
      last = last;
      quiet = quiet_then c.rollback.ensures.quiet q;
      files = c.close-files.result;
      own = sym c.close-files.ensures;
      was_open = λ honest.
          let none : IsClean (view last) = no_doubt _ (clean_is last.pool ∙ subst (λ p. AreClean g.D.Disk p.0 p.1) c.close-files.ensures honest) in
          let clean : IsClean (view before) = omega (arith, q.clean) in
          (first.kept clean).was_open (open_from (state before) c.in-Ok.ensures.ready (ensure_sound (view before).is_clean clean));
      left = λ honest image may.
          let sure_now = subst (λ p. AreClean g.D.Disk p.0 p.1) c.close-files.ensures honest in
          let none : IsClean (view last) = no_doubt _ (clean_is last.pool ∙ sure_now) in
          let clean : IsClean (view before) = omega (arith, q.clean) in
          let h = open_from (state before) c.in-Ok.ensures.ready (ensure_sound (view before).is_clean clean) in
          let kept = first.kept clean in
          let on = c.in-Ok.ensures.open none in
          let same = c.checkpoint.ensures.same on in
          let committed : (view last).committed ≡ (view c.args.store).committed = ap (λ (v : View). v.committed) same ∙ kept.committed h in
          let numbered : (view last).is_numbered ≡ (view c.args.store).is_numbered = ap (λ (v : View). v.is_numbered) same ∙ first.numbered in
          let alone : Image = record image { log = [] } in
          subst (λ t. HasTrees (view c.args.store).is_numbered t image × HasTrees (view c.args.store).is_numbered t alone) committed
          (subst (λ n. HasTrees n (view last).committed image × HasTrees n (view last).committed alone) numbered
          (without_log_of last stays on (c.in-Ok.ensures.moved (c.rollback.ensures.logged (kept.was_open h))) image
          (may_leave_is last.pool image sure_now (subst (λ p. outcomes g.D.Disk p.0 p.1 image) c.close-files.ensures may))));
    }

pub returns-in-Err-clause-failed : goal.returns-in-Err-clause-failed
returns-in-Err-clause-failed g c =
    let last = c.checkpoint.new.self in
    let first = c.rollback.ensures.quiet in
    let second = c.checkpoint.ensures.quiet in
    record {
      quiet = quiet_then first second;
      left = λ honest image may.
          ∥∥₁_map (left_of last image (may_leave_is last.pool image honest may)) (λ it.
          (it.0, first.outcomes it.0 (second.outcomes it.0 it.1), it.2));
    }

-- a store that is open was not changed by the checkpoint
pub returns-in-Err-clause-numbered : goal.returns-in-Err-clause-numbered
returns-in-Err-clause-numbered g c clean opened =
    let first = c.rollback.ensures.undone in
    let same = c.checkpoint.ensures.same opened in
    let kept = first.kept (subst IsClean same clean) in
    (kept.was_open (subst (λ (v : View). IsTrue v.is_open) same opened), ap (λ (v : View). v.is_numbered) same ∙ first.numbered)
