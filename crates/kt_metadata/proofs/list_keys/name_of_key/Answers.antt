use Rattle.std.proofs.Common.{◌∙◌, ap, sym, Some, None, List, ℕ}
use Rattle.std.proofs.lemmas.Result.{IfOk-weaker}
use Rattle.kt_metadata.proofs.Common.{option_copied, option_map, chars, row_in}
use Rattle.kt_metadata.proofs.Tables.{key-found}
use Rattle.kt_metadata.proofs.list_keys.name_of_key.Goals as goal

pub returns-in_ok-from_str-in-Some : goal.returns-in_ok-from_str-in-Some
unfolding chars
returns-in_ok-from_str-in-Some c =
    ap (λ (n : List ℕ). Some n) c.in_ok-from_str-in-Some.ensures ∙ sym (key-found c.args.key.now (Some c.in-Some.row.now) (ap (λ o. option_map row_in (option_copied o)) (sym c.in-Some.is) ∙ c.row_with_key.ensures))

pub returns-in-None : goal.returns-in-None
unfolding chars
returns-in-None c = IfOk-weaker c.parse_custom_key.result _ _ (λ found e. e ∙ sym (key-found c.args.key.now None (ap (λ o. option_map row_in (option_copied o)) (sym c.in-None.is) ∙ c.row_with_key.ensures))) c.parse_custom_key.ensures
