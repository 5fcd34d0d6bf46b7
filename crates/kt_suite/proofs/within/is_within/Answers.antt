use Rattle.std.proofs.Common.{rules, ◌≡◌, List, ℕ, false, sym, ap, ◌∙◌, ◌++◌, [], drop, length}
use Rattle.kt_suite.proofs.Common.{chars, is_within}
use Rattle.kt_suite.proofs.WithinPaths.{within-found, within-none, within-past}
use Rattle.kt_suite.proofs.within.is_within.Goals as goal

pub returns-then-not-is_component_end_at : goal.returns-then-not-is_component_end_at
returns-then-not-is_component_end_at c =
    let goes : is_within [] (drop (length c.as_str-directory.result.now) c.as_str-path.result.now) ≡ false = search rules in
    within-past c.as_str-directory.result.now c.as_str-path.result.now c.as_str-directory.utf8 c.as_str-path.utf8 goes
    ∙ ap (λ (d : List ℕ). is_within d (chars c.as_str-path.result.now)) c.as_str-directory.ensures.characters
    ∙ ap (λ (p : List ℕ). is_within c.args.directory.now p) c.as_str-path.ensures.characters

pub returns-in-None : goal.returns-in-None
returns-in-None c =
    within-none c.as_str-directory.result.now c.as_str-path.result.now c.as_str-directory.utf8 c.as_str-path.utf8 c.in-None.ensures.cases
    ∙ ap (λ (d : List ℕ). is_within d (chars c.as_str-path.result.now)) c.as_str-directory.ensures.characters
    ∙ ap (λ (p : List ℕ). is_within c.args.directory.now p) c.as_str-path.ensures.characters

pub returns-in-Some : goal.returns-in-Some
returns-in-Some c =
    let cut = c.in-Some.ensures.cases in
    c.is_component_end.ensures
    ∙ within-found c.as_str-directory.result.now c.as_str-path.result.now c.in-Some.rest.now c.as_str-directory.utf8 (cut.1.1 ∙ ap (λ (rest : List ℕ). c.as_str-directory.result.now ++ rest) (sym cut.2))
    ∙ ap (λ (d : List ℕ). is_within d (chars c.as_str-path.result.now)) c.as_str-directory.ensures.characters
    ∙ ap (λ (p : List ℕ). is_within c.args.directory.now p) c.as_str-path.ensures.characters
