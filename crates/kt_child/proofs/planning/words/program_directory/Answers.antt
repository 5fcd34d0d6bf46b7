use Rattle.std.proofs.Common.{rules, ◌≡◌, ℕ, Bool, true, List, ap, sym, subst, IfOk, codes, if◌then◌else◌}
use Rattle.kt_child.proofs.Common.{chars}
use Rattle.kt_base.specs.Texts.{is_empty}
use Rattle.kt_suite.specs.Paths.{parent_of}
use Rattle.kt_child.proofs.planning.words.program_directory.Goals as goal

pub returns-then-is_empty : goal.returns-then-is_empty
unfolding chars
returns-then-is_empty c =
    let path = c.args.path.now in
    let empty : is_empty (parent_of path) ≡ true = search rules in
    let root = ap (λ (b : Bool). if b then codes "/" else parent_of path) empty in
    subst (λ (d : List ℕ). IfOk c.from_str.result (λ directory. directory ≡ d)) (sym root) c.from_str.ensures
