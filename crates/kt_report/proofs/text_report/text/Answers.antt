use Rattle.kt_report.proofs.Common.{shows_as, text_layout}
use Rattle.kt_report.proofs.InlineDetails.{all_written, none_fails, own_pairs, some_written, text_extends, text_is}
use Rattle.kt_report.proofs.text_report.text.Goals as goal

pub returns-in-Ok : goal.returns-in-Ok
returns-in-Ok g c =
    let w = c.in-Ok.ensures in
    let layout = text_layout w.0 c.args.verbose c.args.run.now in
    let own = own_pairs layout _ c.args.verbose _ w.2 in
    (w.0, w.1, shows_as (text_is w.0 c.args.kinds.now c.args.verbose c.args.run.now) (all_written layout _ own))

pub returns-in-Err-Details : goal.returns-in-Err-Details
returns-in-Err-Details g c =
    let w = rw c.in-Err-Details.field-0-is at c.in-Err-Details.ensures in
    let layout = text_layout w.0 c.args.verbose c.args.run.now in
    none_fails layout _ _ (own_pairs layout _ c.args.verbose _ w.2)

pub returns-in-Err-Report : goal.returns-in-Err-Report
returns-in-Err-Report g c =
    let w = rw c.in-Err-Report.field-0-is at c.in-Err-Report.ensures in
    let layout = text_layout w.0 c.args.verbose c.args.run.now in
    let own = own_pairs layout _ c.args.verbose _ w.2 in
    (w.0, w.1, shows_as (text_is w.0 c.args.kinds.now c.args.verbose c.args.run.now) (some_written layout _ _ (text_extends w.0 c.args.verbose c.args.run.now) own))
