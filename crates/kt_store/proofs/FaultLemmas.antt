-- Facts about the faults that calls return.
use Rattle.kt_store.proofs.Common.{Err, IfErr, IfOk, IsErrAnd, IsNoMemory, IsDatabaseFault, NoMemory, Ok, OnErr, OnOk, Result, StoreFault, subst, sym, ◌≡◌}

-- a fact about a fault holds for the fault of a result that returns it
pub if_same : {T : Type 0} (Q : StoreFault → Type 0) (r : Result T StoreFault) (e : StoreFault) → IsErrAnd r (λ x. x ≡ e) → Q e → IfErr r Q
if_same Q (Ok x) e h q = absurd h
if_same Q (Err fault) e h q = subst Q (sym h) q

-- two facts about the value of a result give a third one
pub if_both : {T E : Type 0} (P Q R : T → Type 0) (r : Result T E) → ((x : T) → P x → Q x → R x) → IfOk r P → IfOk r Q → IfOk r R
if_both P Q R (Ok x) f p q = f x p q
if_both P Q R (Err e) f p q = tt

-- if a premise gives a fact about success, success gives the fact under the premise
pub ok_later : {T E A : Type 0} (P : Type 0) (r : Result T E) → (A → OnOk r P) → OnOk r (A → P)
ok_later P (Ok x) f = f
ok_later P (Err e) f = tt

pub on_err : {T E : Type 0} (P : Type 0) (r : Result T E) → P → OnErr r P
on_err P (Ok x) p = tt
on_err P (Err e) p = p

pub err_later : {T E A : Type 0} (P : Type 0) (r : Result T E) → (A → OnErr r P) → OnErr r (A → P)
err_later P (Ok x) f = tt
err_later P (Err e) f = f

pub fault_later : {T E A : Type 0} (P : E → Type 0) (r : Result T E) → (A → IfErr r P) → IfErr r (λ e. A → P e)
fault_later P (Ok x) f = tt
fault_later P (Err e) f = f

-- if premises about a value give a fact about success, success gives the fact under these premises
pub ok_of : {T E A : Type 0} (B C P : A → Type 0) (r : Result T E) → ((a : A) → B a → C a → OnOk r (P a)) → OnOk r ((a : A) → B a → C a → P a)
ok_of B C P (Ok x) f = f
ok_of B C P (Err e) f = tt

pub fault_of : {T E A : Type 0} (B C : A → Type 0) (P : A → E → Type 0) (r : Result T E) → ((a : A) → B a → C a → IfErr r (P a)) → IfErr r (λ e. (a : A) → B a → C a → P a e)
fault_of B C P (Ok x) f = tt
fault_of B C P (Err e) f = f

-- an out-of-memory fault is a store fault
pub starved : (fault : StoreFault) → IsNoMemory fault → IsDatabaseFault fault
starved (NoMemory refusal) h = tt
starved _ h = absurd h

-- a fact about each store fault holds for a returned store fault
pub if_trouble : {T : Type 0} (Q : StoreFault → Type 0) (r : Result T StoreFault) → IsErrAnd r IsDatabaseFault → ((e : StoreFault) → IsDatabaseFault e → Q e) → IfErr r Q
if_trouble Q (Ok x) h each = absurd h
if_trouble Q (Err fault) h each = each fault h
