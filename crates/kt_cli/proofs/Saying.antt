-- Lemmas about `WritesNext`, the relation of output that stops after a failed write.
use Rattle.std.proofs.Common.{Option, ◌≡◌, ℕ, Bool, true, false, List, [], ◌++◌, refl, sym, ◌∙◌, subst}
use Rattle.kt_cli.proofs.Common.{Emits, shows_both, shows_more, shows_none, shows_of, WritesNext, WritesMore}

-- writing bytes meets `WritesNext` if no write has failed before
pub says_on : {was now : Option (List ℕ)} {f g : Bool} {xs : List ℕ} → f ≡ false → Emits was now g xs → WritesNext was f now g xs
says_on {was} {now} {f} {g} {xs} e s = record { more = subst (λ (b : Bool). WritesMore was b now g xs) (sym e) s }

-- writing nothing after a failed write meets `WritesNext`
pub says_no_more : {was : Option (List ℕ)} {f : Bool} {xs : List ℕ} → f ≡ true → WritesNext was f was f xs
says_no_more {was} {f} {xs} e = record { more = subst (λ (b : Bool). WritesMore was b was b xs) (sym e) (refl, refl) }

-- writing no bytes meets `WritesNext`
pub says_nothing : (a : Option (List ℕ)) (f : Bool) → WritesNext a f a f []
says_nothing a false = record { more = shows_none }
says_nothing a true = record { more = (refl, refl) }

-- writing `xs` and then `ys` is writing both
pub says_both : (a b d : Option (List ℕ)) (f g h : Bool) (xs ys : List ℕ) → WritesNext a f b g xs → WritesNext b g d h ys → WritesNext a f d h (xs ++ ys)
says_both a b d false false h xs ys p q = record { more = shows_both p.more q.more }
says_both a b d false true h xs ys p q =
    record { more = shows_of (sym q.more.1) (subst (λ (o : Option (List ℕ)). Emits a o true (xs ++ ys)) (sym q.more.0) (shows_more ys p.more)) }
says_both a b d true g h xs ys p q =
    let r : WritesMore b true d h ys = subst (λ (x : Bool). WritesMore b x d h ys) p.more.1 q.more in
    record { more = (r.0 ∙ p.more.0, r.1) }
