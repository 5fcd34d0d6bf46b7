use Rattle.std.proofs.Common.{rules, ◌≡◌, true, false}
use Rattle.kt_report.proofs.TextSteps.{line_read, line_shown, line_cut}
use Rattle.kt_report.proofs.pairs.write_entry.Goals as goal

pub returns-then-verbose : goal.returns-then-verbose
returns-then-verbose g c =
    let on : c.args.verbose ≡ true = search rules in
    line_read g.D.DetailSource.reads_pairs c.args.verbose on c.write_verbose_entry.ensures

pub returns-in-Ok : goal.returns-in-Ok
returns-in-Ok g c =
    let off : c.args.verbose ≡ false = search rules in
    line_shown g.D.DetailSource.reads_pairs c.args.verbose off c.in-Ok.ensures

pub returns-in-Err : goal.returns-in-Err
returns-in-Err g c =
    let off : c.args.verbose ≡ false = search rules in
    line_cut g.D.DetailSource.reads_pairs c.args.verbose off c.in-Err.fault c.in-Err.ensures
