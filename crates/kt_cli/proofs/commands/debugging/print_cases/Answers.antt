use Rattle.std.proofs.Common.{rules, is_err}
use Rattle.kt_cli.proofs.DebugRuns.{debug_ends}
use Rattle.kt_cli.proofs.commands.debugging.print_cases.Goals as goal

pub returns-clause-debugged : goal.returns-clause-debugged
returns-clause-debugged g c =
    let w = c.run_cases-answer.ensures.ran in
    let k = debug_ends _ (λ s. is_err s.written) (λ s. g.O.Write.contents s.out.now) (λ s. s.out.ghost_name) (λ s t e r h. h)
    c.args.plan w.trace w.gained c.run_cases-answer.result _ c.run_cases-answer.new.sink w.are w.ends in
    let n = k.printed.same_out in
    let s = k.printed.written in
    let m = s.more in
    record {
      trace = w.trace;
      leads = w.leads;
      entries = w.gained;
      ends = k.ends;
      written = search (rules, s, n);
    }
