use Rattle.std.proofs.Common.{rules, Ok, refl, sym, subst, List}
use Rattle.kt_cli.proofs.Common.{Run, Put}
use Rattle.kt_cli.proofs.Numbered.{put_more}
use Rattle.kt_cli.proofs.Saying.{says_no_more, says_on}
use Rattle.kt_cli.proofs.StoreChains.{stored_call}
use Rattle.kt_cli.proofs.commands.recorder.RecorderSink.put.Goals as goal

pub returns-then-is_err-clause-leads : goal.returns-then-is_err-clause-leads
returns-then-is_err-clause-leads g c =
    (refl, refl, (refl, stored_call g.R.StoreSpec (Put c.args.self.now.number c.args.entry (Ok tt)) _ _ c.in_default.ensures, says_no_more (search rules)))

pub returns-then-is_err-clause-ok : goal.returns-then-is_err-clause-ok
returns-then-is_err-clause-ok g c put h = (h.0, subst (λ (rs : List Run). g.R.StoreSpec.stands c.put.new.self rs) (sym (put_more c.args.self.now.number put c.args.entry h.0)) (c.in_default.ensures.stands _ h.1))

pub returns-clause-leads : goal.returns-clause-leads
returns-clause-leads g c =
    (refl, refl, (refl, stored_call g.R.StoreSpec (Put c.args.self.now.number c.args.entry (Ok tt)) _ _ c.in_default.ensures, says_on (search rules) c.line-self.ensures))

pub returns-clause-ok : goal.returns-clause-ok
returns-clause-ok g c put h = (h.0, subst (λ (rs : List Run). g.R.StoreSpec.stands c.put.new.self rs) (sym (put_more c.args.self.now.number put c.args.entry h.0)) (c.in_default.ensures.stands _ h.1))
