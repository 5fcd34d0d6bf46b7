-- Lemmas on the variables of a command, one change after the other.
use Rattle.std.proofs.Common.{add-one, ◌≡◌, ◌≢◌, ℕ, ◌+◌, ◌<◌, List, length, drop, drop-cons, get_or, Bool, true, false, Option, Some, None, refl, sym, ◌∙◌, ap, if◌then◌else◌}
use Rattle.kt_os.proofs.Common.{bytes_eq, utf8, setting_after_removals, setting_after_sets}
use Rattle.std.proofs.lemmas.Slice.Eq.{bytes_eq-Decides}
use Rattle.kt_base.specs.declared.variable.Variable.{Variable}

-- A change of one variable gives its new setting and leaves the others.
pub said_now : (one : List ℕ) (news : Option (Option (List ℕ))) (old new : List ℕ → Option (Option (List ℕ)))
    → new one ≡ news → ((k : List ℕ) → k ≢ one → new k ≡ old k)
    → (k : List ℕ) → new k ≡ (if bytes_eq one k then news else old k)
said_now one news old new e f k = by (bytes_eq one k) refl
  where
    by : (t : Bool) → bytes_eq one k ≡ t → new k ≡ (if t then news else old k)
    by true b = ap new (sym ((bytes_eq-Decides one k).0 b)) ∙ e
    by false b = f k (λ same. let h : bytes_eq one k ≡ true = (bytes_eq-Decides one k).1 (sym same) in let no : ⊥ = cc in no)

-- Removing the next name, and then the names after it, gives the setting after the removal of all
-- of them.
pub removed_step : (names : List (List ℕ)) (i : ℕ) (gone : List ℕ) (k : List ℕ) (old new : Option (Option (List ℕ))) → i < length names → gone ≡ get_or names i gone
    → new ≡ (if bytes_eq (utf8 gone) k then Some None else old) → setting_after_removals (drop (i + 1) names) k new ≡ setting_after_removals (drop i names) k old
removed_step names i gone k old new lt at e = rw (e, add-one, drop-cons names i gone lt, ← at) refl

-- Setting the next variable, and then the variables after it, gives the setting after all of them
-- were set.
pub set_step : (set : List Variable) (i : ℕ) (v : Variable) (k : List ℕ) (old new : Option (Option (List ℕ))) → i < length set → v ≡ get_or set i v
    → new ≡ (if bytes_eq (utf8 v.name) k then Some (Some (utf8 v.value)) else old) → setting_after_sets (drop (i + 1) set) k new ≡ setting_after_sets (drop i set) k old
set_step set i v k old new lt at e = rw (e, add-one, drop-cons set i v lt, ← at) refl
