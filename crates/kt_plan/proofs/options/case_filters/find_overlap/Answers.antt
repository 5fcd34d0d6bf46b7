use Rattle.kt_plan.proofs.Common.{apart}
use Rattle.kt_plan.proofs.CaseFilters.{names_word}
use Rattle.kt_plan.proofs.options.case_filters.find_overlap.Goals as goal

pub returns-in-Ok : goal.returns-in-Ok
returns-in-Ok c = apart c.in-Ok.ensures.ok

pub returns-in_ok-word-in-Err : goal.returns-in_ok-word-in-Err
returns-in_ok-word-in-Err c =
    names_word c.args.words.now c.args.filters.now c.in-Err.fault _ _ _ c.requires c.in-Err.ensures.first c.fault_position.ensures c.index-words-fault_position.is c.in_ok-word-in-Err.ensures
