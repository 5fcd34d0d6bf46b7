use Rattle.std.proofs.Common.{rules, ◌≡◌, ◌≤◌, ◌+◌, suc, drop, length, ◌++◌, ◌∷◌, [], List, arith, ap, subst, sym}
use Rattle.kt_cli.proofs.Common.{common_steps, vec_len, vec_capacity, Command, Exit, command_state, world_of}
use Rattle.kt_cli.proofs.Sequencing.{GoesOn, goes_more, goes_all}
use Rattle.kt_cli.proofs.commands.execution.execute_all.Goals as goal
use Rattle.std.proofs.lemmas.List.{nil_from_length}

pub loop-command-preserved : goal.loop-command-preserved
loop-command-preserved g c =
    let i = c.loop-command.invariant in
    let rest = drop c.loop-command.command-index c.args.commands.now in
    let later = drop (c.loop-command.command-index + 1) c.args.commands.now in
    let e : rest ≡ c.command-item.result ∷ later = grind (arith, common_steps) in
    let more : c.push.new.self.items ≡ c.loop-command.exits.items ++ c.execute-exit.result ∷ [] = search rules in
    let shorter : length rest ≡ suc (length later) = ap (λ (cs : List Command). length cs) e in
    let longer : vec_len c.push.new.self ≡ vec_len c.loop-command.exits + 1 = search rules in
    let kept : vec_capacity c.loop-command.exits ≤ vec_capacity c.push.new.self = c.push.ensures.capacity in
    let old = command_state c.args.world.now c.args.results.now (g.O.Write.contents c.args.out.now) in
    let mid = command_state c.loop-command.world c.loop-command.results (g.O.Write.contents c.loop-command.out) in
    let next = command_state c.execute-exit.new.world c.execute-exit.new.results (g.O.Write.contents c.execute-exit.new.out) in
    record {
      goes = subst (λ (xs : List Exit). GoesOn (world_of g.W.Tree g.W.Launcher g.W.World) g.R.StoreSpec c.args.commands.now later old next xs) (sym more)
          (goes_more (world_of g.W.Tree g.W.Launcher g.W.World) g.R.StoreSpec _ _ _ _ _ _ _ _
          (subst (λ (cs : List Command). GoesOn (world_of g.W.Tree g.W.Launcher g.W.World) g.R.StoreSpec c.args.commands.now cs old mid c.loop-command.exits.items) e i.goes)
          c.execute-exit.ensures.did);
      idle = c.execute-exit.ensures.idle;
      room = omega (arith, i.room, shorter, longer, kept);
    }

pub returns-clause-did : goal.returns-clause-did
returns-clause-did g c =
    let rest = drop c.loop-command.command-index c.args.commands.now in
    let none : length rest ≡ 0 = grind (arith, common_steps) in
    let old = command_state c.args.world.now c.args.results.now (g.O.Write.contents c.args.out.now) in
    let new = command_state c.loop-command.world c.loop-command.results (g.O.Write.contents c.loop-command.out) in
    goes_all (world_of g.W.Tree g.W.Launcher g.W.World) g.R.StoreSpec _ _ _ _
    (subst (λ (cs : List Command). GoesOn (world_of g.W.Tree g.W.Launcher g.W.World) g.R.StoreSpec c.args.commands.now cs old new c.loop-command.exits.items)
    (nil_from_length rest none) c.loop-command.invariant.goes)
