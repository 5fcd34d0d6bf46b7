use Rattle.kt_args.proofs.arguments.junit_command.Goals as goal

pub returns-clause-app : goal.returns-clause-app
returns-clause-app c =
    c.with_option.ensures.app _ _ c.run_arg.ensures.rule
    (c.with_option-line.ensures.app _ _ c.results_arg.ensures.rule c.new_command-line.ensures.app)
