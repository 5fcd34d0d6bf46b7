use Rattle.std.proofs.Common.{◌≡◌, ◌∙◌, ap, sym, refl, Option, Some, None, is_some}
use Rattle.kt_metadata.proofs.Common.{option_map, chars}
use Rattle.kt_metadata.proofs.table.is_custom.Goals as goal

mapped : {A B : Type 0} (f : A → B) (o : Option A) → is_some (option_map f o) ≡ is_some o
mapped f None = refl
mapped f (Some x) = refl

pub returns : goal.returns
unfolding chars
returns c = c.is_some.ensures ∙ sym (mapped (λ part. chars part.now) c.non_empty_suffix.result) ∙ ap is_some c.non_empty_suffix.ensures
