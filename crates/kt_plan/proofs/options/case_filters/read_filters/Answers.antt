use Rattle.std.proofs.Common.{rules, sym, ◌∙◌, ◌≡◌, ap, Ok, Some}
use Rattle.kt_plan.proofs.Common.{FindsOverlap, filter_of, filters_of}
use Rattle.kt_plan.proofs.CaseFilters.{all_right, length_of_each, not_apart, not_one_case, not_parsed}
use Rattle.kt_plan.proofs.options.case_filters.read_filters.Goals as goal

pub returns-in_err-filters : goal.returns-in_err-filters
returns-in_err-filters c = not_parsed c.args.rule c.args.words.now _ _ c.from_residual-in_err-filters.ensures.1 (search rules)

pub find_overlap-requires : goal.find_overlap-requires
find_overlap-requires c =
    let e : filters_of c.args.words.now ≡ Ok c.in_ok-filters.filters = search rules in
    length_of_each filter_of c.args.words.now _ (e ∙ ap (λ x. Ok x) (sym c.as_slice.ensures))

pub returns-in-Some : goal.returns-in-Some
returns-in-Some c =
    let e : filters_of c.args.words.now ≡ Ok c.as_slice.result.now = search rules in
    let t : FindsOverlap c.args.words.now c.as_slice.result.now (Some c.in-Some.fault) = search rules in
    not_apart c.args.rule c.args.words.now _ _ e t

pub returns-then-is_case_missing : goal.returns-then-is_case_missing
returns-then-is_case_missing c =
    let e : filters_of c.args.words.now ≡ Ok c.in_ok-filters.filters = search rules in
    let t : FindsOverlap c.args.words.now c.in_ok-filters.filters c.in_ok-fault.field-0 = search rules in
    not_one_case c.args.rule c.args.words.now _ _ e c.in_default.not-Some t (search rules)

pub returns : goal.returns
returns c =
    let e : filters_of c.args.words.now ≡ Ok c.in_ok-filters.filters = search rules in
    let t : FindsOverlap c.args.words.now c.in_ok-filters.filters c.in_ok-fault.field-0 = search rules in
    all_right c.args.rule c.args.words.now _ _ e c.in_default.not-Some t (search rules)
