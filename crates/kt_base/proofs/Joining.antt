-- Concatenation of parts that are written one after the other.
use Rattle.std.proofs.Common.{◌≡◌, ◌≤◌, ◌<◌, ◌+◌, ℕ, List, [], ◌∷◌, ◌++◌, Bor, length, drop, get_or, map, sym, ap, ◌∙◌, append_assoc, drop-cons, add-one, drop_of_length-le}
use Rattle.kt_base.proofs.Common.{append-nil, joined, joined_after}

-- `lent parts`: the byte lists to which the slices `parts` refer
abbrev pub lent : List (Bor (List ℕ)) → List (List ℕ)
lent parts = map (λ (part : Bor (List ℕ)). part.now) parts

-- `joined_after front parts` is `front` followed by the concatenation of `parts`
pub joined_behind_is : (front : List ℕ) (parts : List (List ℕ)) → joined_after front parts ≡ front ++ joined parts
joined_behind_is front [] = sym (append-nil front)
joined_behind_is front (part ∷ parts) =
    joined_behind_is (front ++ part) parts ∙ append_assoc front part (joined parts) ∙ ap (λ (z : List ℕ). front ++ z) (sym (joined_behind_is part parts))

-- the concatenation is unchanged if the next part moves to the end of `front`
pub next_part : (front : List ℕ) (parts : List (Bor (List ℕ))) (i : ℕ) (d : Bor (List ℕ)) → i < length parts
    → joined_after (front ++ (get_or parts i d).now) (lent (drop (i + 1) parts)) ≡ joined_after front (lent (drop i parts))
next_part front parts i d few =
    ap (λ (k : ℕ). joined_after (front ++ (get_or parts i d).now) (lent (drop k parts))) (add-one i) ∙ sym (ap (λ (ps : List (Bor (List ℕ))). joined_after front (lent ps)) (drop-cons parts i d few))

-- `whole` is the concatenation of `front`, the next part and the parts after that part
pub next_cut : (front : List ℕ) (parts : List (Bor (List ℕ))) (i : ℕ) (d : Bor (List ℕ)) (whole : List ℕ) → i < length parts → joined_after front (lent (drop i parts)) ≡ whole
    → (front ++ (get_or parts i d).now) ++ joined (lent (drop (i + 1) parts)) ≡ whole
next_cut front parts i d whole few e = sym (joined_behind_is (front ++ (get_or parts i d).now) (lent (drop (i + 1) parts))) ∙ next_part front parts i d few ∙ e

-- `front` is `whole` if no part remains
pub no_part : (front : List ℕ) (parts : List (Bor (List ℕ))) (i : ℕ) (whole : List ℕ) → length parts ≤ i → joined_after front (lent (drop i parts)) ≡ whole → front ≡ whole
no_part front parts i whole all e = sym (ap (λ (ps : List (Bor (List ℕ))). joined_after front (lent ps)) (drop_of_length-le parts all)) ∙ e
