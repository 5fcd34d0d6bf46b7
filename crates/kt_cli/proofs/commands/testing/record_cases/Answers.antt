use Rattle.std.proofs.Common.{rules, is_err}
use Rattle.kt_cli.proofs.Common.{recording}
use Rattle.kt_cli.proofs.Gainings.{whole}
use Rattle.kt_cli.proofs.commands.testing.record_cases.Goals as goal

pub returns-clause-records : goal.returns-clause-records
returns-clause-records g c =
    let w = c.run_cases-answer.ensures.ran in
    let k = whole g.R.StoreSpec _ (λ s. recording s.results.now s.number (is_err s.written) (g.O.Write.contents s.out.now))
    (λ s. s.results.ghost_name) (λ s. s.out.ghost_name) (λ s t e r h. h) _ _ _ _ _ _ _ w.are w.once w.ends in
    record {
      trace = w.trace;
      leads = w.leads;
      entries = w.gained;
      last = k.last;
      stored = search (rules, k.gained.same_store, k.gained.stored);
      written = search (rules, k.gained.same_out, k.gained.written);
      ends = k.ends;
    }
