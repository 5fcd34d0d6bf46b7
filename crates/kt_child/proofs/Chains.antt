-- Lemmas on chains of calls.
use Rattle.std.proofs.Common.{◌≡◌, List, [], ◌∷◌, ◌++◌, Result, Ok, Err, refl, inl, inr}
use Rattle.kt_child.proofs.Common.{Refused, OsFault, Chain, Call, StartCall, MakesCalls, refusal_cause}

-- Two chains of calls, one after the other, are a chain.
pub chain_append : {O : Type 0} (leads : O → Call → O → Type 0) (a b d : O) (xs ys : List Call)
    → Chain leads a xs b → Chain leads b ys d → Chain leads a (xs ++ ys) d
chain_append leads a b d [] ys h k = rw h at k
chain_append leads a b d (x ∷ xs) ys h k = (h.0, h.1, chain_append leads h.0 b d xs ys h.2 k)

-- `Tries leads a asks r b`: the calls of `asks`, up to the first that fails, take the system from
-- `a` to `b` and give the result `r` (`MakesCalls`). `leads` is the relation of the system's calls.
abbrev pub Tries : {O : Type 0} → (O → Call → O → Type 0) → O → List StartCall → Result (Unit {0}) Refused → O → Type 0
Tries leads a asks r b = (calls : List Call) × Chain leads a calls b × MakesCalls asks calls r

-- If the first call succeeds, the calls of all `asks` are that call and those of the others.
pub tries_more : {O : Type 0} (leads : O → Call → O → Type 0) (a b d : O) (ask : StartCall) (asks : List StartCall) (r : Result (Unit {0}) Refused)
    → leads a (ask.call (Ok tt)) b → Tries leads b asks r d → Tries leads a (ask ∷ asks) r d
tries_more leads a b d ask asks (Ok done) h (calls, chain, tried) = (ask.call (Ok tt) ∷ calls, (b, h, chain), (refl, tried))
tries_more leads a b d ask asks (Err cause) h (calls, chain, tried) = (ask.call (Ok tt) ∷ calls, (b, h, chain), inr (refl, tried))

-- If the first call fails, no other call follows, and the result is its cause.
pub tries_failed : {O : Type 0} (leads : O → Call → O → Type 0) (a b : O) (ask : StartCall) (asks : List StartCall) (fault : OsFault) (cause : Refused)
    → leads a (ask.call (Err fault)) b → cause ≡ refusal_cause ask.cause fault → Tries leads a (ask ∷ asks) (Err cause) b
tries_failed leads a b ask asks fault cause h e = (ask.call (Err fault) ∷ [], (b, h, refl), inl (fault, refl, refl, e))
