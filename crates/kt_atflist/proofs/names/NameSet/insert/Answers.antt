use Rattle.std.proofs.Common.{◌≡◌, ◌∙◌, ◌∷◌, ◌++◌, [], false, ap, map, bytes_eq, ℕ, List}
use Rattle.kt_atflist.proofs.Common.{chars, list_any, characters}
use Rattle.kt_atflist.proofs.Keys.{inserted}
use Rattle.kt_atflist.proofs.names.NameSet.insert.Goals as goal

pub returns-clause-ok : goal.returns-clause-ok
returns-clause-ok c =
    let called : characters c.in_ok-key.key ≡ c.args.name.now = ap chars c.in_ok-key.ensures.ok ∙ c.as_str.ensures.characters in
    let absent : list_any (bytes_eq (characters c.in_ok-key.key)) (map characters c.self.inside.keys.keys) ≡ false
    = ap (λ (q : List ℕ). list_any (bytes_eq q) (map characters c.self.inside.keys.keys)) called ∙ ap (list_any (bytes_eq c.args.name.now)) c.self.view_is ∙ c.requires in
    ap (map characters) c.in_ok-insert.ensures.keys ∙ inserted c.self.inside.keys.keys c.in_ok-key.key absent
    ∙ ap (λ (ns : List (List ℕ)). ns ++ characters c.in_ok-key.key ∷ []) c.self.view_is ∙ ap (λ (n : List ℕ). c.args.self.now ++ n ∷ []) called
