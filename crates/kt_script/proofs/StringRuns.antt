-- A string as runs of plain bytes with stops between them.
use Rattle.std.proofs.Common.{◌≡◌, ℕ, suc, ◌+◌, Bool, true, false, eqb, List, [], ◌∷◌, ◌++◌, take, drop, Option, Some, None, Result, Ok, Err, refl, ap, sym, ◌∙◌, append_assoc, arith, inl, inr}
use Rattle.kt_script.proofs.Common.{nat_tests, prefix_len, cases_Bool, Flaw, StringElement, Quote, Escape, Flawed, with_prefix, with_escaped_byte, escape_element, escape_at, string_element_at, string_at, escape_of, is_plain}

pub with_front_twice : (xs ys : List ℕ) (n m : ℕ) (r : Result (List ℕ × ℕ) Flaw) → with_prefix xs n (with_prefix ys m r) ≡ with_prefix (xs ++ ys) (n + m) r
with_front_twice xs ys n m r = grind (arith, append_assoc {A = ℕ})

pub with_front_none : (r : Result (List ℕ × ℕ) Flaw) → with_prefix [] 0 r ≡ r
with_front_none r = grind arith

-- ---- plain bytes

pub plain_is : (quote c : ℕ) → is_plain quote c ≡ true → (eqb c quote ≡ false) × (eqb c 10 ≡ false) × (eqb c 92 ≡ false)
plain_is quote c e = (grind (arith, nat_tests, e), grind (arith, nat_tests, e), grind (arith, nat_tests, e))

one_more : (c : ℕ) (cs : List ℕ) (n : ℕ) (r : Result (List ℕ × ℕ) Flaw) → with_prefix (c ∷ take n cs) (1 + n) r ≡ with_prefix (take (1 + n) (c ∷ cs)) (1 + n) r
one_more c cs n r = let e : 1 + n ≡ suc n = omega arith in rw e refl

one_less : (c : ℕ) (cs : List ℕ) (n : ℕ) → drop (1 + n) (c ∷ cs) ≡ drop n cs
one_less c cs n = let e : 1 + n ≡ suc n = omega arith in rw e refl

-- a string is its first plain bytes, followed by the string after them
pub plain_run : (quote : ℕ) (text : List ℕ)
    → string_at quote false text ≡ with_prefix (take (prefix_len (is_plain quote) text) text) (prefix_len (is_plain quote) text) (string_at quote false (drop (prefix_len (is_plain quote) text) text))
plain_run quote [] = refl
plain_run quote (c ∷ cs) =
    elim (cases_Bool (is_plain quote c)) [
      | inl yes_plain ↦
          let tests = plain_is quote c yes_plain in
          let n : ℕ = prefix_len (is_plain quote) cs in
          rw (tests.0, tests.1, tests.2)
          (ap (with_prefix (c ∷ []) 1) (plain_run quote cs) ∙ with_front_twice (c ∷ []) (take n cs) 1 n (string_at quote false (drop n cs)) ∙ one_more c cs n (string_at quote false (drop n cs))
          ∙ ap (λ (left : List ℕ). with_prefix (take (1 + n) (c ∷ cs)) (1 + n) (string_at quote false left)) (sym (one_less c cs n)))
      | inr other ↦ rw other (sym (with_front_none (string_at quote false (c ∷ cs))))
    ]

-- no plain byte follows the first run of plain bytes
pub no_more : (p : ℕ → Bool) (text : List ℕ) → prefix_len p (drop (prefix_len p text) text) ≡ 0
no_more p [] = refl
no_more p (c ∷ cs) =
    elim (cases_Bool (p c)) [
      | inl passes ↦ rw passes (ap (prefix_len p) (one_less c cs (prefix_len p cs)) ∙ no_more p cs)
      | inr fails ↦ rw (fails, fails) refl
    ]

-- ---- the element after plain bytes

-- `after_stop quote text stop`: the result of reading the rest of a string that `quote` closes, if
-- the rest is at the beginning of `text` and begins with the element `stop` of the string
abbrev pub after_stop : ℕ → List ℕ → StringElement → Result (List ℕ × ℕ) Flaw
after_stop quote text Quote = Ok ([], 1)
after_stop quote text (Flawed flaw) = Err flaw
after_stop quote text (Escape c) = with_prefix (c ∷ []) 2 (string_at quote false (drop 2 text))

escape_follows : (quote c d : ℕ) (ds : List ℕ) (o : Option ℕ) → with_prefix [] 1 (with_escaped_byte o (string_at quote false ds)) ≡ after_stop quote (c ∷ d ∷ ds) (escape_element o)
escape_follows quote c d ds None = refl
escape_follows quote c d ds (Some e) = with_front_twice [] (e ∷ []) 1 1 (string_at quote false ds)

slash_follows : (quote c : ℕ) (cs : List ℕ) → with_prefix [] 1 (string_at quote true cs) ≡ after_stop quote (c ∷ cs) (escape_at cs)
slash_follows quote c [] = refl
slash_follows quote c (d ∷ ds) = escape_follows quote c d ds (escape_of d)

pub stops : (quote : ℕ) (text : List ℕ) → prefix_len (is_plain quote) text ≡ 0 → string_at quote false text ≡ after_stop quote text (string_element_at quote text)
stops quote [] none = refl
stops quote (c ∷ cs) none = grind (arith, nat_tests, slash_follows quote c cs, none)
