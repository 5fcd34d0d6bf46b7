use Rattle.kt_store.proofs.Common.{IsSchema2Database, arith, entry_statements, on_err_weaker, on_ok_weaker, with_entry}
use Rattle.kt_store.proofs.CommitLemmas.{undone_holds, commit_stands, commit_lasts, commit_crash}
use Rattle.kt_store.proofs.FaultLemmas.{ok_later, err_later}
use Rattle.kt_store.proofs.FillLemmas.{entry_made}
use Rattle.kt_store.proofs.put.add_entry.Goals as goal

pub returns : goal.returns
returns g c = record {
  kept = on_err_weaker c.commit.result (λ undone runs has. undone_holds g.S.Store (λ db. IsSchema2Database db runs) c.args.conn.now c.commit.new.conn has (λ clean. omega (arith, clean, c.commit.ensures.crash.clean)) (λ clean. undone clean)) (err_later _ c.commit.result c.commit.ensures.undone);
  added = on_ok_weaker c.commit.result (λ done. record {
    stands = λ runs has fits.
        commit_stands g.S.Store (entry_statements c.args.run c.args.entry.now) c.args.conn.now c.commit.new.conn (with_entry c.args.run c.args.entry.now runs) c.commit.ensures.crash (entry_made g.S.Store runs c.args.entry.now c.args.run c.args.conn.now has fits)
        (λ clean. done clean);
    lasts = λ runs has fits.
        commit_lasts g.S.Store (entry_statements c.args.run c.args.entry.now) c.args.conn.now c.commit.new.conn (with_entry c.args.run c.args.entry.now runs) c.commit.ensures.crash (entry_made g.S.Store runs c.args.entry.now c.args.run c.args.conn.now has fits)
        (λ db opened may. g.met.S.Store.settled c.commit.new.conn.store db opened may) (λ clean. done clean);
  }) (ok_later _ c.commit.result c.commit.ensures.done);
  crash = λ runs has fits. commit_crash g.S.Store (entry_statements c.args.run c.args.entry.now) c.args.conn.now c.commit.new.conn (with_entry c.args.run c.args.entry.now runs) c.commit.ensures.crash (entry_made g.S.Store runs c.args.entry.now c.args.run c.args.conn.now has fits);
}
