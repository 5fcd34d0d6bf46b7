use Rattle.kt_args.proofs.arguments.kyua_command.Goals as goal

pub returns-clause-app : goal.returns-clause-app
returns-clause-app c =
    c.with_command.ensures.app _ _ c.junit_command.ensures.app
    (c.with_command-line-4.ensures.app _ _ c.report_command.ensures.app
    (c.with_command-line-3.ensures.app _ _ c.debug_command.ensures.app
    (c.with_command-line-2.ensures.app _ _ c.test_command.ensures.app
    (c.with_command-line.ensures.app _ _ c.list_command.ensures.app
    (c.with_option-line-2.ensures.app _ _ c.variable_arg.ensures.rule
    (c.with_option-line.ensures.app _ _ c.config_arg.ensures.rule c.bare_command.ensures.app))))))
