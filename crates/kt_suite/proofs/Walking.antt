-- The walk of one part of a tree after another.
use Rattle.std.proofs.Common.{Result, Ok, Err, ◌≡◌, ℕ, List, ◌∷◌, ◌++◌, sym, subst}
use Rattle.kt_suite.proofs.Common.{append_assoc, SuiteFault, Registry, Asked, Mark, LoadsMarks, through, stops, short}
use Rattle.kt_suite.proofs.Counting.{counted-append, counted-open_kyuafiles, totals, chain_of_marks, chain_then, next-append}

module _ {S : Type 0} {leads : S → Asked → S → Type 0} where
  -- Walking a part and then another part is walking both.
  pub walked-then : {old mid new : S} {G H B : List Mark → Type 0} {r s : Registry} {result : Result Registry SuiteFault} → LoadsMarks leads old mid G r (Ok s)
      → LoadsMarks leads mid new H s result → ((a b : List Mark) → G a → H b → B (a ++ b)) → LoadsMarks leads old new B r result
  walked-then {old} {mid} {new} {B = B} {r = r} {s = s} (through a _ g c k) (through b after h d n) both =
      through (a ++ b) after (both a b g h) (chain_of_marks leads a b old mid new c d) (counted-append r s after a b k n)
  walked-then {old} {mid} {new} {B = B} {r = r} {s = s} (through a _ g c k) (stops front back mark last fault h d n e) both =
      stops (a ++ front) back mark last fault (subst B (sym (append_assoc a front (mark ∷ back))) (both a (front ++ mark ∷ back) g h))
      (chain_of_marks leads a front old mid new c d) (counted-append r s last a front k n) e
  walked-then {old} {mid} {new} {B = B} {r = r} {s = s} (through a _ g c k) (short front back more last fault h l d n m) both =
      short (a ++ front) back more last fault (subst B (sym (append_assoc a front back)) (both a (front ++ back) g h)) l
      (chain_then leads a front more old mid new c d) (counted-append r s last a front k n) m

  -- A walk of marks for which `G` holds is a walk of marks for which a weaker `B` holds.
  pub walked-as : {old new : S} {G B : List Mark → Type 0} {r : Registry} {result : Result Registry SuiteFault} → LoadsMarks leads old new G r result
      → ((a : List Mark) → G a → B a) → LoadsMarks leads old new B r result
  walked-as (through marks after g c k) as_b = through marks after (as_b marks g) c k
  walked-as (stops front back mark last fault g c k d) as_b = stops front back mark last fault (as_b (front ++ mark ∷ back) g) c k d
  walked-as (short front back more last fault g l c k n) as_b = short front back more last fault (as_b (front ++ back) g) l c k n

  -- A walk that ended early does not depend on later marks or on the open files.
  pub walked-enough : {old new : S} {G B : List Mark → Type 0} {r : Registry} {files : List (List ℕ)} {fault : SuiteFault}
      → LoadsMarks leads old new G (record r { open_kyuafiles = files }) (Err fault) → ((a : List Mark) → G a → (b : List Mark) × B (a ++ b))
      → LoadsMarks leads old new B r (Err fault)
  walked-enough {B = B} {r = r} {files = files} (stops front back mark last fault g c k d) more =
      let w = more (front ++ mark ∷ back) g in
      stops front (back ++ w.0) mark (record last { open_kyuafiles = r.open_kyuafiles }) fault (subst B (append_assoc front (mark ∷ back) w.0) w.1) c
      (counted-open_kyuafiles (record r { open_kyuafiles = files }) last front r.open_kyuafiles k) d
  walked-enough {B = B} {r = r} {files = files} (short front back asked last fault g l c k n) more =
      let w = more (front ++ back) g in
      short front (back ++ w.0) asked (record last { open_kyuafiles = r.open_kyuafiles }) fault (subst B (append_assoc front back w.0) w.1) (next-append back w.0 asked l) c
      (counted-open_kyuafiles (record r { open_kyuafiles = files }) last front r.open_kyuafiles k) n

  -- A walk leaves the open files unchanged.
  pub walked-open_kyuafiles : {old new : S} {G : List Mark → Type 0} {r after : Registry} → LoadsMarks leads old new G r (Ok after) → after.open_kyuafiles ≡ r.open_kyuafiles
  walked-open_kyuafiles {r = r} (through marks after g c k) = (totals r after marks k).open_kyuafiles
