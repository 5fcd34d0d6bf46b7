-- The contents of a writer over several writes.
use Rattle.std.proofs.Common.{Option, Some, None, Result, Ok, Err, is_err, arith, ◌≡◌, ◌<◌, ℕ, Bool, true, false, List, [], ◌∷◌, ◌++◌, length, take, drop, refl, ap, ◌∙◌, sym, subst, append_assoc, take-append-drop}
use Rattle.kt_base.proofs.Common.{append-nil, length-drop, encodes-append, Appends, Keeps, AppendsText, Emits, utf8}
use Rattle.std.specs.Result.{IsErrAnd}

-- the bytes of two joined texts are the bytes of the first text, then those of the second
pub utf8-append : (xs ys : List ℕ) → utf8 (xs ++ ys) ≡ utf8 xs ++ utf8 ys
utf8-append xs ys = encodes-append xs ys

-- the bytes of three, four or five joined texts are the bytes of each text in turn
pub utf8_three : (a b c : List ℕ) → utf8 (a ++ b ++ c) ≡ utf8 a ++ utf8 b ++ utf8 c
utf8_three a b c = utf8-append (a ++ b) c ∙ ap (λ (z : List ℕ). z ++ utf8 c) (utf8-append a b)

pub utf8_four : (a b c d : List ℕ) → utf8 (a ++ b ++ c ++ d) ≡ utf8 a ++ utf8 b ++ utf8 c ++ utf8 d
utf8_four a b c d = utf8-append (a ++ b ++ c) d ∙ ap (λ (z : List ℕ). z ++ utf8 d) (utf8_three a b c)

pub utf8_five : (a b c d e : List ℕ) → utf8 (a ++ b ++ c ++ d ++ e) ≡ utf8 a ++ utf8 b ++ utf8 c ++ utf8 d ++ utf8 e
utf8_five a b c d e = utf8-append (a ++ b ++ c ++ d) e ∙ ap (λ (z : List ℕ). z ++ utf8 e) (utf8_four a b c d)

pub appends_none : (old : Option (List ℕ)) → Appends old old []
appends_none None = tt
appends_none (Some xs) = sym (append-nil xs)

pub appends_both : (a b c : Option (List ℕ)) (xs ys : List ℕ) → Appends a b xs → Appends b c ys → Appends a c (xs ++ ys)
appends_both None b c xs ys p q = tt
appends_both (Some us) (Some vs) (Some ws) xs ys p q = q ∙ ap (λ (z : List ℕ). z ++ ys) p ∙ append_assoc us xs ys
appends_both (Some us) (Some vs) None xs ys p q = absurd q
appends_both (Some us) None c xs ys p q = absurd p

pub appends_kept : (a b c : Option (List ℕ)) (xs : List ℕ) → Appends a b xs → Keeps b c → Appends a c xs
appends_kept None b c xs p q = tt
appends_kept (Some us) (Some vs) (Some ws) xs p q = q ∙ p
appends_kept (Some us) (Some vs) None xs p q = absurd q
appends_kept (Some us) None c xs p q = absurd p

both : (a b d : Option (List ℕ)) (failed : Bool) (xs ys : List ℕ) → AppendsText a b false xs → AppendsText b d failed ys → AppendsText a d failed (xs ++ ys)
both a b d false xs ys p q = appends_both a b d xs ys p q
both a b d true xs ys p q = (xs ++ q.0, q.1, q.2, ap (λ (z : List ℕ). xs ++ z) q.3 ∙ sym (append_assoc xs q.0 (q.2 ∷ q.1)), appends_both a b d xs q.0 p q.4)

-- writing a text and then another text has the effect of writing the two texts joined
pub shows_both : {a b d : Option (List ℕ)} {failed : Bool} {xs ys : List ℕ} → Emits a b false xs → Emits b d failed ys → Emits a d failed (xs ++ ys)
shows_both {a} {b} {d} {failed} {xs} {ys} p q = record { holds = both a b d failed xs ys p.holds q.holds }

-- a failed write of a text has also the effect of a failed write of a longer text
pub shows_more : {a b : Option (List ℕ)} {xs : List ℕ} (ys : List ℕ) → Emits a b true xs → Emits a b true (xs ++ ys)
shows_more {a} {b} {xs} ys p = let h = p.holds in record { holds = (h.0, h.1 ++ ys, h.2, ap (λ (z : List ℕ). z ++ ys) h.3 ∙ append_assoc h.0 (h.2 ∷ h.1) ys, h.4) }

-- writing an empty text changes nothing
pub shows_none : {a : Option (List ℕ)} → Emits a a false []
shows_none {a} = record { holds = appends_none a }

-- a failed write of a text that is not empty may have written nothing
pub shows_nothing : {a : Option (List ℕ)} (x : ℕ) (xs : List ℕ) → Emits a a true (x ∷ xs)
shows_nothing {a} x xs = record { holds = ([], xs, x, refl, appends_none a) }

-- `Emits` of a text implies `Emits` of an equal text
pub shows_as : {a b : Option (List ℕ)} {failed : Bool} {xs ys : List ℕ} → xs ≡ ys → Emits a b failed xs → Emits a b failed ys
shows_as {a} {b} {failed} e p = subst (λ (zs : List ℕ). Emits a b failed zs) e p

-- `Emits` with one flag for a failure implies `Emits` with an equal flag
pub shows_of : {a b : Option (List ℕ)} {failed failed' : Bool} {xs : List ℕ} → failed ≡ failed' → Emits a b failed xs → Emits a b failed' xs
shows_of {a} {b} {xs = xs} e p = subst (λ (f : Bool). Emits a b f xs) e p

cut_at : (k : ℕ) (xs rest : List ℕ) → drop k xs ≡ rest → k < length xs → (more : List ℕ) × (next : ℕ) × (xs ≡ take k xs ++ next ∷ more)
cut_at k xs [] e few = absurd (let d = length-drop k xs in let l : length (drop k xs) ≡ 0 = ap length e in omega (arith, d, l, few))
cut_at k xs (b ∷ rest) e few = (rest, b, sym (take-append-drop k xs) ∙ ap (λ (z : List ℕ). take k xs ++ z) e)

-- a writer that got fewer bytes than the whole text has the contents after a failed write
pub shows_cut : (a b : Option (List ℕ)) (k : ℕ) (xs : List ℕ) → k < length xs → Appends a b (take k xs) → Emits a b true xs
shows_cut a b k xs few p = let cut = cut_at k xs (drop k xs) refl few in record { holds = (take k xs, cut.0, cut.1, cut.2, p) }

-- `Emits` of a failed write holds with the flag of a result that is an error, as after `?`
pub shows_error : {T E : Type 0} (r : Result T E) (Q : E → Type 0) {a b : Option (List ℕ)} {xs : List ℕ} → IsErrAnd r Q → Emits a b true xs → Emits a b (is_err r) xs
shows_error (Ok x) Q h p = absurd h
shows_error (Err y) Q h p = p
