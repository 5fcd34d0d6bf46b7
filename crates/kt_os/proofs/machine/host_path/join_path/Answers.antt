use Rattle.std.proofs.Common.{◌≡◌, ℕ, true, false, Option, Some, None, IfNone, Result, Ok, Err, is_some, is_ok, MatchResult, List, ◌++◌, IsUtf8}
use Rattle.std.proofs.lemmas.Str.{IsUtf8-append}
use Rattle.kt_os.proofs.machine.host_path.join_path.Goals as goal

-- a path that is concatenated from UTF-8 texts is UTF-8
is_text : (first second path directory between name : List ℕ) → IsUtf8 directory → IsUtf8 between → IsUtf8 name
    → first ≡ directory → second ≡ first ++ between → path ≡ second ++ name → IsUtf8 path
is_text first second path directory between name d b n one two three =
    rw (three, two, one) (IsUtf8-append (directory ++ between) name (IsUtf8-append directory between d b) n)

-- if a result can't be an error, the option made from it is not `None`
never_none : {A B E : Type 0} (P : Type 0) (o : Option A) (r : Result B E) (good : B → Type 0) (bad : E → Type 0) → is_some o ≡ is_ok r → MatchResult r good bad → ((e : E) → bad e → ⊥) → IfNone o P
never_none P None (Ok x) good bad e m refuted = absurd (let n : false ≡ true = e in cc)
never_none P None (Err fault) good bad e m refuted = absurd (refuted fault m)
never_none P (Some x) r good bad e m refuted = tt

pub returns-clause-long : goal.returns-clause-long
returns-clause-long c =
    never_none _ c.ok.result c.from_utf8.result _ _ c.ok.ensures.variant c.from_utf8.ensures.cases
    (λ e bad. bad.0 (is_text _ _ _ c.args.directory.now c.args.between.now c.args.name.now c.utf8.directory c.utf8.between c.utf8.name c.in_ok-from.ensures.put.1 c.in_ok-from-2.ensures.put.1 c.in_ok-end.ensures.put.1))
