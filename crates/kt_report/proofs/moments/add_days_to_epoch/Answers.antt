use Rattle.std.proofs.Common.{arith, w64, ◌<◌, ◌^◌, ℤ, subst, ◌∙◌}
use Rattle.kt_report.proofs.Common.{IsOnly, Day}
use Rattle.std.proofs.lemmas.Int.{to_z_pos}
use Rattle.kt_report.proofs.Days.{first_day, days_after}
use Rattle.kt_report.proofs.moments.add_days_to_epoch.Goals as goal

pub unwrap-requires : goal.unwrap-requires
unwrap-requires c =
    let small : c.args.days < 2 ^ 63 = omega (arith, c.requires) in
    let only = subst (λ (z : ℤ). IsOnly Day z c.days.result) (to_z_pos w64 c.args.days small) c.days.ensures in
    c.checked_add.ensures.succeeds.1 (days_after c.date.result c.days.result c.args.days (first_day c.date.result c.date.ensures.0 c.date.ensures.1 c.date.ensures.2) c.requires only).0

pub returns : goal.returns
returns c =
    let small : c.args.days < 2 ^ 63 = omega (arith, c.requires) in
    let only = subst (λ (z : ℤ). IsOnly Day z c.days.result) (to_z_pos w64 c.args.days small) c.days.ensures in
    let value = rw c.unwrap.ensures at c.checked_add.ensures.value in
    value ∙ (days_after c.date.result c.days.result c.args.days (first_day c.date.result c.date.ensures.0 c.date.ensures.1 c.date.ensures.2) c.requires only).1
