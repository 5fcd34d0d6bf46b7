use Rattle.std.proofs.Common.{◌∙◌, ap, ℕ, List, bytes_eq}
use Rattle.kt_atflist.proofs.Common.{chars, list_any}
use Rattle.kt_atflist.proofs.Keys.{among}
use Rattle.kt_atflist.proofs.names.NameSet.contains.Goals as goal

pub returns : goal.returns
returns c =
    c.contains.ensures ∙ among c.as_str.result.now c.as_str.utf8 c.self.inside.keys.keys
    ∙ ap (list_any (bytes_eq (chars c.as_str.result.now))) c.self.view_is
    ∙ ap (λ (q : List ℕ). list_any (bytes_eq q) c.args.self.now) c.as_str.ensures.characters
