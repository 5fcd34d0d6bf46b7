use Rattle.std.proofs.Common.{List, refl, sym, subst, is_ok}
use Rattle.kt_child.proofs.Common.{RunningChild}
use Rattle.kt_child.proofs.WaitSteps.{Waiting, waiting_more, waiting_over}
use Rattle.kt_child.proofs.polling.polls.poll_until_finished.Goals as goal

pub returns-in-Some-clause-waited : goal.returns-in-Some-clause-waited
returns-in-Some-clause-waited g c =
    waiting_over g.O.Os.leads c.args.os.now c.rounds.os c.poll_each_once.new.os c.args.children.now c.rounds.children c.poll_each_once.new.children
    c.in-Some.over.index c.in-Some.over.outcome c.rounds.invariant.waiting c.in-Some.ensures.over c.in-Some.ensures.before

pub rounds-preserved : goal.rounds-preserved
rounds-preserved g c =
    let P : List RunningChild → Type 0 = λ t. Waiting g.O.Os.leads c.args.os.now c.args.children.now c.pause.new.self t in
    record {
      waiting =
          subst P (sym (c.in_default.ensures.went_on refl))
          (waiting_more g.O.Os.leads c.args.os.now c.rounds.os c.poll_each_once.new.os c.pause.new.self c.args.children.now c.rounds.children
          (is_ok c.pause.result) c.rounds.invariant.waiting (c.in_default.ensures.none refl) c.pause.ensures);
      on = c.poll_each_once.ensures.on;
    }
