-- The texts of items that are written in order.
use Rattle.std.proofs.Common.{◌≡◌, ◌≤◌, ◌<◌, ◌+◌, ℕ, true, false, List, [], ◌++◌, length, take, drop, get_or, sym, ap, ◌∙◌, take-append-drop, flat_map, Option}
use Rattle.kt_report.proofs.Common.{flat_map-append, take_all, take_more, flat_map_more, shows_as, shows_both, shows_more, Emits}

-- The texts of the first items and of the next item are those of the next prefix.
pub in_turn_more : {X A : Type 0} (f : X → List A) (xs : List X) (i : ℕ) (d : X) → i < length xs → flat_map f (take i xs) ++ f (get_or xs i d) ≡ flat_map f (take (i + 1) xs)
in_turn_more f xs i d few = flat_map_more f [] (take i xs) (get_or xs i d) ∙ ap (flat_map f) (sym (take_more xs i d few))

pub in_turn_all : {X A : Type 0} (f : X → List A) (xs : List X) (n : ℕ) → flat_map f (take n xs) ++ flat_map f (drop n xs) ≡ flat_map f xs
in_turn_all f xs n = sym (flat_map-append f (take n xs) (drop n xs)) ∙ ap (flat_map f) (take-append-drop n xs)

-- If the next item was written, the texts of the next prefix were written.
pub shows_next : {X : Type 0} {a b c : Option (List ℕ)} (f : X → List ℕ) (xs : List X) (i : ℕ) (d : X) → i < length xs
    → Emits a b false (flat_map f (take i xs)) → Emits b c false (f (get_or xs i d)) → Emits a c false (flat_map f (take (i + 1) xs))
shows_next f xs i d few so_far next = shows_as (in_turn_more f xs i d few) (shows_both so_far next)

-- If the next item was cut off, the text of all items was cut off.
pub shows_cut_off : {X : Type 0} {a b c : Option (List ℕ)} (f : X → List ℕ) (xs : List X) (i : ℕ) (d : X) → i < length xs
    → Emits a b false (flat_map f (take i xs)) → Emits b c true (f (get_or xs i d)) → Emits a c true (flat_map f xs)
shows_cut_off f xs i d few so_far next =
    shows_as (in_turn_all f xs (i + 1)) (shows_more (flat_map f (drop (i + 1) xs)) (shows_as (in_turn_more f xs i d few) (shows_both so_far next)))

-- If no item is left, the texts of all items were written.
pub shows_whole : {X : Type 0} {a b : Option (List ℕ)} (f : X → List ℕ) (xs : List X) (i : ℕ) → length xs ≤ i → Emits a b false (flat_map f (take i xs)) → Emits a b false (flat_map f xs)
shows_whole f xs i all = shows_as (ap (flat_map f) (take_all i xs all))
