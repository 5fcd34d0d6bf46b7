-- The rows that a cursor finds under a key, and the last row.
use Rattle.kt_dbfile.proofs.Common.{AllByRecursion, AreNumbered, Backward, Int, IsUniqueRow, List, None, IndexesRows, Row, Run, SelectsColumns, Some, [], all-append, ap, append-nil, append_assoc, arith, has_prefix, column, drop, entry_of, false, filter, from_key, has_rowid, selected_columns, length, length-append, length-map, map, map-append, plain, pos, refl, reverse, reverse-append, reverse-reverse, rowid, run_row, slice_get, sought, subst, suc, sym, take, true, true≢false, up_to_key, ℕ, ℤ, ◌++◌, ◌+◌, ◌∙◌, ◌∷◌, ◌≡◌}
use Rattle.sqlite_trees.specs.View.{View, Advances, with_cursor}

module _ (columns cs : List ℕ) (key : Row) (mine table index : List Row) (p : IndexesRows cs key mine table index) where
  -- `Halfway now shown`: a cursor has the index entries `now` left, and `shown` has the columns of
  -- the rows that it has returned
  pub record Halfway (now shown : List Row) : Type 0 where
    pub done : List Row
    pub left : List Row
    pub split : p.rows ≡ done ++ left
    pub each : AllByRecursion (IsUniqueRow table) left
    pub hits : AllByRecursion (λ e. has_prefix key e ≡ true) (map (entry_of cs) left)
    pub now_is : now ≡ map (entry_of cs) left ++ p.rest
    pub shown_is : shown ≡ map (selected_columns columns) done

  none_past : (rest : List Row) (place : Row) (new : List Row) → AllByRecursion (λ e. has_prefix key e ≡ false) rest → rest ≡ place ∷ new → has_prefix key place ≡ true → ⊥
  none_past rest place new past is hit = true≢false (sym hit ∙ (subst (AllByRecursion (λ e. has_prefix key e ≡ false)) is past).0)

  module _ (place row : Row) (new : List Row) (hit : has_prefix key place ≡ true) (reads : (front : Row) (id : ℤ) → place ≡ front ++ Int id ∷ [] → filter (has_rowid id) table ≡ row ∷ []) where
    the_row : (r : Row) → IsUniqueRow table r → place ≡ entry_of cs r → r ≡ row
    the_row r at is =
        let found = reads (map (column r) cs) at.0 (is ∙ ap (λ v. map (column r) cs ++ v ∷ []) at.1) in
        let same : r ∷ [] ≡ row ∷ [] = sym at.2 ∙ found in
        cc

    pub halfway_step : (now shown : List Row) → Halfway now shown → now ≡ place ∷ new → Halfway new (shown ++ selected_columns columns row ∷ [])
    halfway_step now shown h is = go h.left h.split h.each h.hits (sym is ∙ h.now_is)
      where
        go : (left : List Row) → p.rows ≡ h.done ++ left → AllByRecursion (IsUniqueRow table) left → AllByRecursion (λ e. has_prefix key e ≡ true) (map (entry_of cs) left) → place ∷ new ≡ map (entry_of cs) left ++ p.rest
            → Halfway new (shown ++ selected_columns columns row ∷ [])
        go [] split each hits at = absurd (none_past p.rest place new p.past (sym at) hit)
        go (r ∷ left) split each hits at =
            let first : place ≡ entry_of cs r = cc in
            let others : new ≡ map (entry_of cs) left ++ p.rest = cc in
            let same = the_row r each.0 first in
            record {
              done = h.done ++ r ∷ [];
              left = left;
              split = split ∙ sym (append_assoc h.done (r ∷ []) left);
              each = each.1;
              hits = hits.1;
              now_is = others;
              shown_is = ap (λ l. l ++ selected_columns columns row ∷ []) h.shown_is ∙ ap (λ x. map (selected_columns columns) h.done ++ selected_columns columns x ∷ []) (sym same) ∙ sym (map-append (selected_columns columns) h.done (r ∷ []));
            }

    -- the row of the first index entry from the key on is the first of the rows under the key
    pub first_row : from_key plain key index ≡ place ∷ new → Some (drop 1 row) ≡ slice_get mine 0
    first_row is = go p.rows p.are p.each (sym is ∙ p.found)
      where
        go : (rows : List Row) → map (drop 1) rows ≡ mine → AllByRecursion (IsUniqueRow table) rows → place ∷ new ≡ map (entry_of cs) rows ++ p.rest → Some (drop 1 row) ≡ slice_get mine 0
        go [] are each at = absurd (none_past p.rest place new p.past (sym at) hit)
        go (r ∷ rows) are each at =
            let first : place ≡ entry_of cs r = cc in
            ap (λ (x : Row). Some (drop 1 x)) (sym (the_row r each.0 first)) ∙ ap (λ l. slice_get l 0) are

  pub first_none : (now : List Row) → now ≡ from_key plain key index → AllByRecursion (λ e. has_prefix key e ≡ false) (take 1 now) → None ≡ slice_get mine 0
  first_none now is none = go p.rows p.are p.hits (is ∙ p.found)
    where
      go : (rows : List Row) → map (drop 1) rows ≡ mine → AllByRecursion (λ e. has_prefix key e ≡ true) (map (entry_of cs) rows) → now ≡ map (entry_of cs) rows ++ p.rest → None ≡ slice_get mine 0
      go [] are hits at = ap (λ l. slice_get l 0) are
      go (r ∷ rows) are hits at = absurd (true≢false (sym hits.0 ∙ (subst (λ l. AllByRecursion (λ e. has_prefix key e ≡ false) (take 1 l)) at none).0))

  pub halfway_end : (now shown : List Row) → Halfway now shown → AllByRecursion (λ e. has_prefix key e ≡ false) (take 1 now) → SelectsColumns columns mine shown
  halfway_end now shown h none = go h.left h.split h.hits h.now_is
    where
      go : (left : List Row) → p.rows ≡ h.done ++ left → AllByRecursion (λ e. has_prefix key e ≡ true) (map (entry_of cs) left) → now ≡ map (entry_of cs) left ++ p.rest → SelectsColumns columns mine shown
      go [] split hits at = (p.rows, p.are, h.shown_is ∙ ap (map (selected_columns columns)) (sym (split ∙ append-nil h.done)))
      go (r ∷ left) split hits at = absurd (true≢false (sym hits.0 ∙ (subst (λ l. AllByRecursion (λ e. has_prefix key e ≡ false) (take 1 l)) at none).0))

-- ---- the number of index entries that begin with a key

-- `Passed key index now n`: a cursor over `index` passed `n` entries that begin with `key`, and has
-- the entries `now` left
pub record Passed (key : Row) (index now : List Row) (n : ℕ) : Type 0 where
  pub done : List Row
  pub split : from_key plain key index ≡ done ++ now
  pub hits : AllByRecursion (λ e. has_prefix key e ≡ true) done
  pub many : n ≡ length done

pub passed_one : (key place : Row) (index now new : List Row) (n : ℕ) → now ≡ place ∷ new → has_prefix key place ≡ true → Passed key index now n → Passed key index new (n + 1)
passed_one key place index now new n is hit p = record {
  done = p.done ++ place ∷ [];
  split = p.split ∙ ap (λ l. p.done ++ l) is ∙ sym (append_assoc p.done (place ∷ []) new);
  hits = all-append (λ e. has_prefix key e ≡ true) p.done (place ∷ []) p.hits (hit, tt);
  many = ap (λ k. k + 1) p.many ∙ sym (length-append p.done (place ∷ []));
}

as_long : (key : Row) (done now hits rest : List Row) → done ++ now ≡ hits ++ rest → AllByRecursion (λ e. has_prefix key e ≡ true) done → AllByRecursion (λ e. has_prefix key e ≡ true) hits
    → AllByRecursion (λ e. has_prefix key e ≡ false) rest → AllByRecursion (λ e. has_prefix key e ≡ false) (take 1 now) → length done ≡ length hits
as_long key [] now [] rest is all each past none = refl
as_long key [] now (h ∷ hits) rest is all each past none = absurd (true≢false (sym each.0 ∙ (subst (λ l. AllByRecursion (λ e. has_prefix key e ≡ false) (take 1 l)) is none).0))
as_long key (d ∷ done) now [] rest is all each past none = absurd (true≢false (sym all.0 ∙ (subst (AllByRecursion (λ e. has_prefix key e ≡ false)) (sym is) past).0))
as_long key (d ∷ done) now (h ∷ hits) rest is all each past none = let tails : done ++ now ≡ hits ++ rest = cc in ap suc (as_long key done now hits rest tails all.1 each.1 past none)

pub passed_all : (key : Row) (cs : List ℕ) (mine table index now : List Row) (n : ℕ) → IndexesRows cs key mine table index → Passed key index now n → AllByRecursion (λ e. has_prefix key e ≡ false) (take 1 now) → n ≡ length mine
passed_all key cs mine table index now n p h none =
    h.many ∙ as_long key h.done now (map (entry_of cs) p.rows) p.rest (sym h.split ∙ p.found) h.hits p.hits p.past none
    ∙ length-map p.rows (entry_of cs) ∙ sym (length-map p.rows (drop 1)) ∙ ap length p.are

-- ---- the last row

all_up : (rows : List Row) → up_to_key plain [] rows ≡ rows
all_up [] = refl
all_up (r ∷ rows) = ap (λ l. r ∷ l) (all_up rows)

ends_with : (rows left : List Row) (row : Row) → reverse rows ≡ row ∷ left → rows ≡ reverse left ++ row ∷ []
ends_with rows left row is = sym (reverse-reverse rows) ∙ ap reverse is ∙ reverse-append (row ∷ []) left

last_numbered : (n : ℕ) (runs : List Run) (front : List Row) (row : Row) → AreNumbered n runs → map run_row runs ≡ front ++ row ∷ [] → (length runs ≡ suc (length front)) × (rowid row ≡ Int (pos (n + length front)))
last_numbered n [] [] row h is = absurd cc
last_numbered n [] (f ∷ front) row h is = absurd cc
last_numbered n (r ∷ []) [] row h is =
    let same : run_row r ≡ row = cc in
    (refl, ap rowid (sym same) ∙ ap (λ k. Int (pos k)) (h.0 ∙ omega arith))
last_numbered n (r ∷ s ∷ runs) [] row h is = absurd cc
last_numbered n (r ∷ runs) (f ∷ front) row h is =
    let tails : map run_row runs ≡ front ++ row ∷ [] = cc in
    let it = last_numbered (suc n) runs front row h.1 tails in
    (ap suc it.0, it.1 ∙ ap (λ k. Int (pos k)) (omega arith))

pub last_is : (runs : List Run) (table front : List Row) (row : Row) → AreNumbered 1 runs → table ≡ map run_row runs → table ≡ front ++ row ∷ [] → rowid row ≡ Int (pos (length runs))
last_is runs table front row h are is =
    let it = last_numbered 1 runs front row h (sym are ∙ is) in
    it.1 ∙ ap (λ k. Int (pos k)) (omega (arith, it.0))

pub none_is : (runs : List Run) (table : List Row) → table ≡ map run_row runs → table ≡ [] → 0 ≡ length runs
none_is runs table are is = ap length (sym is ∙ are) ∙ length-map runs run_row

-- a cursor that moves backward from the end returns the last row, or none if there are no rows
pub sought_none : (old mid new : View) (rows : List Row) (row : Row) → mid ≡ with_cursor old 0 (sought plain Backward [] rows) → Advances mid new 0 row false → rows ≡ []
sought_none old mid new rows row is end =
    let e : Some (reverse (up_to_key plain [] rows)) ≡ Some [] = sym (ap (λ (v : View). v.cursors 0) is) ∙ end.0 in
    let none : reverse (up_to_key plain [] rows) ≡ [] = cc in
    sym (reverse-reverse rows) ∙ ap reverse (ap reverse (sym (all_up rows)) ∙ none)

pub sought_one : (old mid new : View) (rows : List Row) (row : Row) → mid ≡ with_cursor old 0 (sought plain Backward [] rows) → Advances mid new 0 row true → (front : List Row) × (rows ≡ front ++ row ∷ [])
sought_one old mid new rows row is one =
    let e : Some (reverse (up_to_key plain [] rows)) ≡ Some (row ∷ one.0) = sym (ap (λ (v : View). v.cursors 0) is) ∙ one.1 in
    let at : reverse (up_to_key plain [] rows) ≡ row ∷ one.0 = cc in
    (reverse one.0, ends_with rows one.0 row (ap reverse (sym (all_up rows)) ∙ at))
