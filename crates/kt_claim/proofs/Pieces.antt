-- The loop over a piece.
use Rattle.std.proofs.Common.{◌≡◌, ℕ, ◌+◌, ◌≤◌, ◌<◌, Bool, true, false, not, List, [], ◌∷◌, ◌++◌, length, take, drop, refl, ap, sym, subst, ◌∙◌, append_assoc, arith, ◌||◌}
use Rattle.kt_claim.proofs.Common.{list_any, prefix_len, eqb-true, append-nil, length-append, nil_from_length, take-append-drop, is_newline, LineState, HasLines, Tally}
use Rattle.kt_claim.specs.TapStream.{limit}
use Rattle.kt_base.proofs.Lists.{take-one, drop-one}

-- ---- the first line of a piece

pub clean_at : (t : Bool) (b : ℕ) (rest : List ℕ) → is_newline b ≡ t → list_any is_newline (take (prefix_len (λ b. not (is_newline b)) rest) rest) ≡ false
    → list_any is_newline (take (prefix_len (λ b. not (is_newline b)) (b ∷ rest)) (b ∷ rest)) ≡ false
clean_at true b rest e so_far = rw e refl
clean_at false b rest e so_far =
    let n : ℕ = prefix_len (λ b. not (is_newline b)) rest in
    let cut : take (prefix_len (λ b. not (is_newline b)) (b ∷ rest)) (b ∷ rest) ≡ b ∷ take n rest = rw e (take-one n b rest) in
    ap (list_any is_newline) cut ∙ ap (λ (x : Bool). x || list_any is_newline (take n rest)) e ∙ so_far

pub clean : (rest : List ℕ) → list_any is_newline (take (prefix_len (λ b. not (is_newline b)) rest) rest) ≡ false
clean [] = refl
clean (b ∷ rest) = clean_at (is_newline b) b rest refl (clean rest)

pub head : List ℕ → ℕ
head [] = 0
head (b ∷ bs) = b

pub stops_at : (t : Bool) (b c : ℕ) (rest after : List ℕ) → is_newline b ≡ t
    → (drop (prefix_len (λ b. not (is_newline b)) rest) rest ≡ c ∷ after → is_newline c ≡ true)
    → drop (prefix_len (λ b. not (is_newline b)) (b ∷ rest)) (b ∷ rest) ≡ c ∷ after → is_newline c ≡ true
unfolding head
stops_at true b c rest after e so_far =
    let none : drop (prefix_len (λ b. not (is_newline b)) (b ∷ rest)) (b ∷ rest) ≡ b ∷ rest = rw e refl in
    λ h. ap is_newline (sym (ap head (sym none ∙ h))) ∙ e
stops_at false b c rest after e so_far =
    let cut : drop (prefix_len (λ b. not (is_newline b)) (b ∷ rest)) (b ∷ rest) ≡ drop (prefix_len (λ b. not (is_newline b)) rest) rest
    = rw e (drop-one (prefix_len (λ b. not (is_newline b)) rest) b rest) in
    λ h. so_far (sym cut ∙ h)

pub stops : (c : ℕ) (rest after : List ℕ) → drop (prefix_len (λ b. not (is_newline b)) rest) rest ≡ c ∷ after → is_newline c ≡ true
stops c [] after h = absurd (omega (arith, ap length h))
stops c (b ∷ rest) after h = stops_at (is_newline b) b c rest after refl (stops c rest after) h

-- ---- the loop over a piece

-- `Reaches first begun tally line rest piece`: reading the bytes of `piece` before `rest` leads to
-- the tally `tally` and the open line `line`. It begins with the tally `first` and the open line
-- `begun`.
abbrev pub Reaches : Tally → LineState → Tally → LineState → List ℕ → List ℕ → Type 0
Reaches first begun tally line rest piece = (fed : List ℕ) → length fed + length piece ≤ limit → HasLines first begun fed
    → (done : List ℕ) × (done ++ rest ≡ piece) × HasLines tally line (fed ++ done)

-- `GoesOn line new part`: `new` is the state `line` after `part`, which has no newline.
abbrev pub GoesOn : LineState → LineState → List ℕ → Type 0
GoesOn line new part = list_any is_newline part ≡ false → (tally : Tally) (fed : List ℕ) → HasLines tally line fed → HasLines tally new (fed ++ part)

pub piece_ends : (first tally : Tally) (begun line new : LineState) (rest part back piece : List ℕ) (n : ℕ) → Reaches first begun tally line rest piece
    → n ≡ prefix_len (λ b. not (is_newline b)) rest → part ≡ take n rest → back ≡ drop n rest → length back ≡ 0 → GoesOn line new part
    → (fed : List ℕ) → length fed + length piece ≤ limit → HasLines first begun fed → HasLines tally new (fed ++ piece)
piece_ends first tally begun line new rest part back piece n inv is front behind none goes fed short h =
    let i = inv fed short h in
    let no_newline : list_any is_newline part ≡ false = rw (front, is) (clean rest) in
    let all : part ≡ rest = sym (append-nil part) ∙ ap (λ (xs : List ℕ). part ++ xs) (sym (nil_from_length back none)) ∙ ap (λ (xs : List ℕ). xs ++ back) front
    ∙ ap (λ (xs : List ℕ). take n rest ++ xs) behind ∙ take-append-drop n rest in
    subst (λ (t : List ℕ). HasLines tally new t) (append_assoc fed i.0 part ∙ ap (λ (xs : List ℕ). fed ++ xs) (ap (λ (xs : List ℕ). i.0 ++ xs) all ∙ i.1))
    (goes no_newline tally (fed ++ i.0) i.2)

pub piece_goes_on : (first tally next : Tally) (begun line new last : LineState) (rest part back after piece : List ℕ) (n b : ℕ) → Reaches first begun tally line rest piece
    → n ≡ prefix_len (λ b. not (is_newline b)) rest → part ≡ take n rest → back ≡ drop n rest → back ≡ b ∷ after → GoesOn line new part
    → ((fed : List ℕ) → length fed < limit → HasLines tally new fed → HasLines next last (fed ++ 10 ∷ []))
    → Reaches first begun next last after piece
piece_goes_on first tally next begun line new last rest part back after piece n b inv is front behind split goes ends = λ fed short h.
    let i = inv fed short h in
    let no_newline : list_any is_newline part ≡ false = rw (front, is) (clean rest) in
    let newline : b ≡ 10 = eqb-true b 10 (stops b rest after (ap (λ (k : ℕ). drop k rest) (sym is) ∙ sym behind ∙ split)) in
    let all : part ++ 10 ∷ after ≡ rest = ap (λ (c : ℕ). part ++ c ∷ after) (sym newline) ∙ ap (λ (xs : List ℕ). part ++ xs) (sym split)
    ∙ ap (λ (xs : List ℕ). xs ++ back) front ∙ ap (λ (xs : List ℕ). take n rest ++ xs) behind ∙ take-append-drop n rest in
    let read : HasLines tally new ((fed ++ i.0) ++ part) = goes no_newline tally (fed ++ i.0) i.2 in
    let room : length ((fed ++ i.0) ++ part) < limit = omega (
      arith,
      short,
      length-append (fed ++ i.0) part,
      length-append fed i.0,
      ap length i.1,
      length-append i.0 rest,
      ap length all,
      length-append part (10 ∷ after),
    ) in (
      i.0 ++ (part ++ 10 ∷ []),
      append_assoc i.0 (part ++ 10 ∷ []) after ∙ ap (λ (xs : List ℕ). i.0 ++ xs) (append_assoc part (10 ∷ []) after ∙ all) ∙ i.1,
      subst (λ (t : List ℕ). HasLines next last t) (append_assoc (fed ++ i.0) part (10 ∷ []) ∙ append_assoc fed i.0 (part ++ 10 ∷ [])) (ends ((fed ++ i.0) ++ part) room read),
    )
