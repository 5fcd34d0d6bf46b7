-- Each command line that `clap` accepts names a command.
use Rattle.std.proofs.Common.{rules, tests, arith, IfOk, IfSome, ◌≤◌, subst, ◌≡◌, ◌∙◌, ℕ, Bool, true, false, cond, ◌||◌, ◌&&◌, List, [], ◌∷◌, Option, Some, None, refl, ap, ap₂, sym, is_some, Result, Ok, Err, bytes_eq, codes, find, option_map}
use Rattle.kt_args.proofs.Common.{list_all, App, IsParsedFrom, Row, Shape, Text, app_of, built, fault_of, first_of, is_simple, is_simple_and_free, matches_of, subcommand_of, subcommand_rows_of, out-Command, out-ArgMatches, argument_words, entered, label_of, names_of, rows_at, Kind, kyua_app, ParsesCommand, IsArgsFault, command_in, report_or_error, junit_or_error, report_in, junit_in, case_options_in, results_path, kinds_option, run_option}
use Rattle.std.specs.Option.{option_map_or}
use Rattle.clap.specs.declared.builder.command.Command.{Command as ClapCommand}
use Rattle.clap.specs.declared.parser.matches.ArgMatches.{ArgMatches}
use Rattle.clap.proofs.TakesLemmas.{some_rows}
use Rattle.clap.specs.Walk.{answers_to, stop_after}
use Rattle.clap.proofs.OnLiterals.{clap_on_literals}
use Rattle.kt_args.specs.declared.command.Command.{Command}
use Rattle.kt_args.specs.declared.options.CaseOptions.{CaseOptions}
use Rattle.kt_args.specs.Commands.{HasValidRun}
use Rattle.kt_base.specs.Limits.{greatest_run_number}
use Rattle.kt_args.specs.declared.command_fault.CommandFault.{CommandFault}
use Rattle.kt_args.specs.Inner.Reading.{IsResultOrNoMemory}
use Rattle.kt_args.specs.declared.command.Command.TheVariants as command
use Rattle.kt_args.specs.declared.command_fault.CommandFault.TheVariants as fault

-- `is_command name`: `name` is the name of one of the five commands.
abbrev pub is_command : Text → Bool
is_command name = bytes_eq name (codes "list") || (bytes_eq name (codes "test") || (bytes_eq name (codes "debug")
    || (bytes_eq name (codes "report") || bytes_eq name (codes "report-junit"))))

-- ---- the command that is found

found_named : (f : Shape → Bool) (ss : List Shape) → list_all (λ s. is_command s.name) ss ≡ true → option_map_or (λ (s : Shape). is_command s.name) (find f ss) true ≡ true
found_named f [] all = refl
found_named f (s ∷ ss) all = go (f s) (is_command s.name) refl (found_named f ss) all
  where
    go : (found b : Bool) → is_command s.name ≡ b
        → (list_all (λ s. is_command s.name) ss ≡ true → option_map_or (λ (s : Shape). is_command s.name) (find f ss) true ≡ true)
        → (b && list_all (λ s. is_command s.name) ss) ≡ true
        → option_map_or (λ (s : Shape). is_command s.name) (cond found (Some s) (find f ss)) true ≡ true
    go true true e rest h = e
    go false true e rest h = rest h
    go true false e rest h = cc
    go false false e rest h = cc

five : list_all (λ s. is_command s.name) (built kyua_app).subs ≡ true
unfolding clap_on_literals
five = refl

by_stop : (stop : Option (Text × List Text)) → option_map_or (λ (p : Text × List Row). is_command p.0) (entered (built kyua_app) stop) true ≡ true
by_stop None = refl
by_stop (Some p) = go (find (λ s. answers_to p.0 (label_of s)) (built kyua_app).subs) (found_named (λ s. answers_to p.0 (label_of s)) (built kyua_app).subs five)
  where
    go : (o : Option Shape) → option_map_or (λ (s : Shape). is_command s.name) o true ≡ true
        → option_map_or (λ (q : Text × List Row). is_command q.0) (option_map (λ s. rows_at s p.1) o) true ≡ true
    go None e = refl
    go (Some s) e = e

-- ---- the result for it

-- `Fits entered r`: the run number of the result `r`, if it has one, is 1 to 1,000,000. If
-- `entered`, so that a command was found, `r` is not `Usage`.
abbrev Fits : Bool → Result Command CommandFault → Type 0
Fits entered (Ok c) = HasValidRun c
Fits entered (Err (fault.Usage message)) = entered ≡ false
Fits entered (Err other) = Unit {0}

run_in_range : (o : Option Text) → IfSome (run_option o) (λ run'. IfSome run' (λ n. (1 ≤ n) × (n ≤ greatest_run_number)))
run_in_range None = tt
run_in_range (Some word) = search (rules, tests, arith)

report_fits : (before own : List Row) (kinds : Option (List Kind)) (run' : Option (Option ℕ)) → IfSome run' (λ o. IfSome o (λ n. (1 ≤ n) × (n ≤ greatest_run_number))) → Fits true (report_or_error before own kinds run')
report_fits before own None run' range = tt
report_fits before own (Some kinds) None range = tt
report_fits before own (Some kinds) (Some run') range = range

junit_fits : (before own : List Row) (run' : Option (Option ℕ)) → IfSome run' (λ o. IfSome o (λ n. (1 ≤ n) × (n ≤ greatest_run_number))) → Fits true (junit_or_error before own run')
junit_fits before own None range = tt
junit_fits before own (Some run') range = range

-- The result fits for each outcome of the comparisons of the name.
named_fits : (a b c d e : Bool) (options : CaseOptions) (file : List ℕ) (report junit : Result Command CommandFault) → Fits true report → Fits true junit
    → Fits (a || (b || (c || (d || e)))) (cond a (Ok (command.List options)) (cond b (Ok (command.Test options file)) (cond c (Ok (command.Debug options)) (cond d report (cond e junit (Err (fault.Usage [])))))))
named_fits true b c d e options file report junit r j = tt
named_fits false true c d e options file report junit r j = tt
named_fits false false true d e options file report junit r j = tt
named_fits false false false true e options file report junit r j = r
named_fits false false false false true options file report junit r j = j
named_fits false false false false false options file report junit r j = refl

in_fits : (before : List Row) (o : Option (Text × List Row)) → Fits (is_some o && option_map_or (λ (p : Text × List Row). is_command p.0) o true) (command_in before o)
in_fits before None = refl
in_fits before (Some p) =
    named_fits (bytes_eq p.0 (codes "list")) (bytes_eq p.0 (codes "test")) (bytes_eq p.0 (codes "debug")) (bytes_eq p.0 (codes "report")) (bytes_eq p.0 (codes "report-junit"))
    (case_options_in before p.1) (results_path p.1) (report_in before p.1) (junit_in before p.1)
    (report_fits before p.1 (kinds_option (first_of (codes "kinds") p.1)) _ (run_in_range (first_of (codes "run") p.1))) (junit_fits before p.1 _ (run_in_range (first_of (codes "run") p.1)))

both_true : (a b : Bool) → a ≡ true → b ≡ true → (a && b) ≡ false → ⊥
both_true a b p q r = cc

-- If `clap` finds a command, the result is not `Usage`.
pub no_usage : (before : List Row) (words : List Text) (message : List ℕ) → is_some (subcommand_of kyua_app words) ≡ true
    → command_in before (subcommand_of kyua_app words) ≡ Err (fault.Usage message) → ⊥
no_usage before words message some is =
    both_true (is_some (subcommand_of kyua_app words)) _ some (by_stop (stop_after (built kyua_app).top.rules (names_of (built kyua_app)) (argument_words kyua_app words)))
    (subst (Fits _) is (in_fits before (subcommand_of kyua_app words)))

-- The run number of each result is in its range.
pub number_in_range : (words : List Text) (r : Result Command CommandFault) → ParsesCommand words r → IfOk r HasValidRun
number_in_range words (Err f) s = tt
number_in_range words (Ok c) s = subst (Fits _) (sym s.1) (in_fits (matches_of kyua_app words) (subcommand_of kyua_app words))

-- ---- the arguments

-- The command line is simple, as `clap` defines it.
pub is_simple_line : is_simple kyua_app ≡ true
unfolding clap_on_literals
is_simple_line = refl

-- The command line is simple, and no argument has a rule about another argument.
pub is_free_line : is_simple_and_free kyua_app ≡ true
unfolding clap_on_literals
is_free_line = refl

-- A result for the values that `clap` finds is a result for the arguments.
pub reads_found : (words : List Text) (before : List Row) (o : Option (Text × List Row)) (r : Result Command CommandFault)
    → before ≡ matches_of kyua_app words → o ≡ subcommand_of kyua_app words → is_some o ≡ true → fault_of kyua_app words ≡ []
    → IsResultOrNoMemory (command_in before o) r → ParsesCommand words r
reads_found words before o (Ok c) e d some none a = (none, sym a ∙ ap₂ command_in e d)
reads_found words before o (Err fault.BadKind) e d some none a = (none, sym a ∙ ap₂ command_in e d)
reads_found words before o (Err fault.BadRun) e d some none a = (none, sym a ∙ ap₂ command_in e d)
reads_found words before o (Err (fault.NoMemory shortage)) e d some none a = tt
reads_found words before o (Err (fault.Usage message)) e d some none a =
    absurd (no_usage before words message (ap is_some (sym d) ∙ some) (ap (command_in before) (sym d) ∙ a))

-- An error that is right for a failed allocation is right for any other error.
pub refused_for : (short : Type 0) (f : CommandFault) → IsArgsFault short f → IsArgsFault ⊥ f
refused_for short fault.BadKind r = r
refused_for short fault.BadRun r = r
refused_for short (fault.NoMemory shortage) r = tt
refused_for short (fault.Usage message) r = λ none. none

-- A command line that `clap` accepts contains a command.
pub enters : (line : ClapCommand) (m : ArgMatches) → app_of line ≡ kyua_app → (out-Command line).has_globals ≡ false → IsParsedFrom line m
    → is_some (subcommand_rows_of m) ≡ true
enters line m app globals p =
    let parsed = p.parsed (p.from.globals ∙ globals) in
    let needed : (out-Command line).subcommand_required ≡ true = ap (λ (a : App). a.top.subcommand_required) app in
    sym (some_rows (out-ArgMatches m).subcommand) ∙ parsed.checked.subcommand (p.from.needs_subcommand ∙ needed)
