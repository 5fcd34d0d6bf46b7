use Rattle.std.proofs.Common.{◌≡◌, ℕ, ◌+◌, ◌<◌, List, [], ◌∷◌, ◌++◌, map, take, length, get_or, refl, append_assoc}
use Rattle.kt_child.proofs.Common.{map_more, test_variable}
use Rattle.kt_child.proofs.planning.environment.push_test_variables.Goals as goal

-- Appending the image of the next element extends the mapped prefix by one.
mapped_more : {X Y : Type 0} (f : X → Y) (start now new : List Y) (xs : List X) (i : ℕ) (x : X) (y : Y)
    → i < length xs → x ≡ get_or xs i x → now ≡ start ++ map f (take i xs) → y ≡ f x → new ≡ now ++ y ∷ []
    → new ≡ start ++ map f (take (i + 1) xs)
mapped_more f start now new xs i x y lt at so is e = rw (e, so, append_assoc, is, map_more f xs i x lt, ← at) refl

pub loop-variable-preserved : goal.loop-variable-preserved
loop-variable-preserved c =
    mapped_more test_variable c.args.set.now c.loop-variable.set c.push.new.self c.as_slice-variable-items.result.now c.loop-variable.variable-index
    c.variable-item.result c.in_ok-passed.passed (search) c.variable-item.is c.loop-variable.invariant c.in_ok-passed.ensures c.in_ok-push.ensures.ok
