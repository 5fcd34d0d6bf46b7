use Rattle.std.proofs.Common.{arith, ◌≡◌, [], ◌∷◌, ◌++◌, Ok, Err, refl, add-one}
use Rattle.kt_child.proofs.Common.{Call, MakeDir, root_of}
use Rattle.kt_child.proofs.Chains.{chain_append}
use Rattle.kt_child.proofs.driving.driver.create_driver_root.Goals as goal

pub returns-in-Ok : goal.returns-in-Ok
returns-in-Ok g c =
    let f = c.loop-number.invariant in
    let n = c.loop-number.number in
    let last : Call = MakeDir (root_of c.args.base.now n) (Ok tt) in (
      f.0 ++ last ∷ [],
      chain_append g.O.Os.leads _ _ _ f.0 (last ∷ []) f.1 (_, rw c.in_ok-root.ensures at c.in-Ok.ensures, refl),
      (n, omega arith, f.0, f.2, refl, c.in_ok-root.ensures),
    )

pub loop-number-preserved : goal.loop-number-preserved
loop-number-preserved g c =
    let f = c.loop-number.invariant in
    let n = c.loop-number.number in
    let fault = c.in-Err._fault in
    let last : Call = MakeDir (root_of c.args.base.now n) (Err fault) in (
      f.0 ++ last ∷ [],
      chain_append g.O.Os.leads _ _ _ f.0 (last ∷ []) f.1 (_, rw c.in_ok-root.ensures at c.in-Err.ensures, refl),
      rw (add-one n) (f.0, fault, f.2, refl),
    )

pub returns : goal.returns
returns g c =
    let f = c.loop-number.invariant in
    let all : c.loop-number.number ≡ 1000 = omega arith in
    (f.0, f.1, rw all at f.2)
