use Rattle.std.proofs.Common.{◌∙◌}
use Rattle.std.proofs.lemmas.Result.{IfOk-weaker}
use Rattle.kt_metadata.proofs.KeyLaws.{name-found, stands, known}
use Rattle.kt_metadata.proofs.list_keys.property_name_of_key.Goals as goal

pub returns-clause-stands : goal.returns-clause-stands
returns-clause-stands c = IfOk-weaker c.name_of_key.result _ _ (λ found e. stands c.args.key.now found e) c.name_of_key.ensures

pub returns-clause-only : goal.returns-clause-only
returns-clause-only c = λ name is. IfOk-weaker c.name_of_key.result _ _ (λ found e. e ∙ name-found c.args.key.now name is) c.name_of_key.ensures

pub returns-clause-known : goal.returns-clause-known
returns-clause-known c = IfOk-weaker c.name_of_key.result _ _ (λ found e. known c.args.key.now found e) c.name_of_key.ensures
