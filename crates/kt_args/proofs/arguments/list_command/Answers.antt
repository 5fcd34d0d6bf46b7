use Rattle.kt_args.proofs.arguments.list_command.Goals as goal

pub returns-clause-app : goal.returns-clause-app
returns-clause-app c =
    c.with_option.ensures.app _ _ c.filters_arg.ensures.rule
    (c.with_option-line-2.ensures.app _ _ c.work_arg.ensures.rule
    (c.with_option-line.ensures.app _ _ c.kyuafile_arg.ensures.rule c.new_command-line.ensures.app))
