use Rattle.std.proofs.Common.{◌≡◌, ◌∙◌, ap, sym, subst, map, []}
use Rattle.kt_args.proofs.Common.{App, HasMatchesOf, app_of, fault_of, is_simple_and_free, found_of, rows_of, subcommand_rows_of, kyua_app}
use Rattle.std.specs.String.{string_bytes}
use Rattle.kt_args.proofs.CommandLaws.{enters, is_free_line, is_simple_line, number_in_range, reads_found}
use Rattle.kt_args.proofs.reading.read_command.Goals as goal

pub returns-in-Ok-clause-value : goal.returns-in-Ok-clause-value
returns-in-Ok-clause-value c =
    let words = map (λ word. string_bytes word) c.args.words.now in
    let line = c.in_ok-line.line in
    let matches = c.in-Ok.matches in
    let app : app_of line ≡ kyua_app = c.in_ok-line.ensures.app in
    let found : HasMatchesOf kyua_app words matches = subst (λ (a : App). HasMatchesOf a words matches) app c.in-Ok.ensures.matches in
    let none : fault_of (app_of line) words ≡ [] = c.in-Ok.ensures.kinds (ap is_simple_and_free app ∙ is_free_line) in
    reads_found words (rows_of (found_of matches)) (subcommand_rows_of matches) c.parse_matches.result (found is_simple_line).0 (found is_simple_line).1
    (enters line matches app c.in_ok-line.ensures.own c.in-Ok.ensures.parsed)
    (sym (ap (λ (a : App). fault_of a words) app) ∙ none) c.parse_matches.ensures

pub returns-in-Ok-clause-range : goal.returns-in-Ok-clause-range
returns-in-Ok-clause-range c = number_in_range (map (λ word. string_bytes word) c.args.words.now) c.parse_matches.result (returns-in-Ok-clause-value c)
