-- The rows of a run in the order of an index.
use Rattle.kt_dbfile.proofs.Common.{AllByRecursion, Bool, Entry, Equal, Greater, Int, IsAscending, IsUniqueRow, IsIndex, IsIndexOf, IsPermutation, IsPermutation-filter, IsPermutation-map, IsPermutation-sym, IsPermutation-trans, IsShaped, IsTable, IsTrue, IsSchema2Of, Less, List, Null, Ordering, IndexesRows, Row, Run, Schema, Trees, Value, Variable, [], all-filter, all-permutation, all_weaker, ap, ap₂, ascending-filter, ascending-map, ascending_from_map, ascending_weaker, has_prefix, drop, entries_of, entry_at, entry_cmp, entry_of, entry_row, entry_rows, false, filter, filter-map, filter_all, filter_none, filter_passes, first_key, has_rowid, id_in, int_is, is_eq, is_gt, is_int, is_lt, map, map-id, not, ordering_then, pair_row, pair_rows_from, pairs_of, plain, pos, prefix_cmp, prop_rows, pull_back, recursion_from_All, refl, rowid, run_at, sorted_unique, subst, sym, then-Equal, true, value_cmp, value_cmp_total, ℕ, ◌&&◌, ◌++◌, ◌<◌, ◌==◌, ◌∙◌, ◌∷◌, ◌≡◌}
use Rattle.std.proofs.lemmas.Cmp.{tied_itself}
use Rattle.sqlite_trees.specs.declared.store.Shape.TheVariants.{Table}
use Rattle.sqlite_trees.proofs.TreeLemmas.{IsSortedTree, prefix_cmp_follows, from_key-filter, sorted_index, later_rowids}
use Rattle.sqlite_value.proofs.KeyLemmas.{entry_cmp_total}
use Rattle.sqlite_exec.proofs.PartitionLemmas.{sorted_from_ascending}
use Rattle.kt_store.proofs.EntryLemmas.{back, of_stored, of_run, all_pass, and_true}
use Rattle.kt_store.proofs.EntriesLemmas.{up_of}
use Rattle.kt_store.proofs.PairsLemmas.{of_entry, pairs_rise}
use Rattle.kt_store.proofs.Values.{below, equal, same_test}

-- ---- each row of a table is the only one with its rowid

keep_head : (p : Row → Bool) (x : Row) (xs : List Row) → p x ≡ true → filter p xs ≡ [] → filter p (x ∷ xs) ≡ x ∷ []
keep_head p x xs here none = rw here (ap (λ l. x ∷ l) none)

drop_head : (p : Row → Bool) (x : Row) (xs ys : List Row) → p x ≡ false → filter p xs ≡ ys → filter p (x ∷ xs) ≡ ys
drop_head p x xs ys other is = rw other is

alone : (rows : List Row) → IsTable rows → AllByRecursion (λ r. IsTrue (is_int (rowid r))) rows → AllByRecursion (IsUniqueRow rows) rows
alone [] up ints = tt
alone (x ∷ xs) up ints =
    let id = id_in (rowid x) in
    let is = int_is (rowid x) ints.0 in
    let tie : value_cmp (rowid x) (Int id) ≡ Equal = ap (λ v. value_cmp (rowid x) v) (sym is) ∙ tied_itself value_cmp_total (rowid x) in
    let none = filter_none (has_rowid id) xs (later_rowids (Int id) x xs (ap is_lt tie) up.0) in
    ((id, is, keep_head (has_rowid id) x xs (ap is_eq tie) none), each xs up.0 (alone xs up.1 ints.1))
  where
    each : (ys : List Row) → AllByRecursion (λ y. value_cmp (rowid x) (rowid y) ≡ Less) ys → AllByRecursion (IsUniqueRow xs) ys → AllByRecursion (IsUniqueRow (x ∷ xs)) ys
    each [] less at = tt
    each (y ∷ ys) less at = ((at.0.0, at.0.1, drop_head (has_rowid at.0.0) x xs (y ∷ []) (ap (λ v. is_eq (value_cmp (rowid x) v)) (sym at.0.1) ∙ ap is_eq less.0) at.0.2), each ys less.1 at.1)

-- ---- the parts of an index by a key

all_kept : (p : Row → Bool) (xs : List Row) → AllByRecursion (λ x. p x ≡ true) (filter p xs)
all_kept p xs = recursion_from_All (λ x. p x ≡ true) (filter p xs) (filter_passes p xs)

module _ (p q s : Row → Bool) (e : Row) (es : List Row) where
  low : p e ≡ false → q e ≡ false → s e ≡ false → filter p es ≡ filter q es ++ filter s es → filter p (e ∷ es) ≡ filter q (e ∷ es) ++ filter s (e ∷ es)
  low a b c more = rw (a, b, c) more

  here : p e ≡ true → q e ≡ true → s e ≡ false → filter p es ≡ filter q es ++ filter s es → filter p (e ∷ es) ≡ filter q (e ∷ es) ++ filter s (e ∷ es)
  here a b c more = rw (a, b, c) (ap (λ l. e ∷ l) more)

  high : p e ≡ true → q e ≡ false → s e ≡ true → filter p es ≡ es → filter q es ≡ [] → filter s es ≡ es → filter p (e ∷ es) ≡ filter q (e ∷ es) ++ filter s (e ∷ es)
  high a b c f g h = rw (a, b, c, f, g, h) refl

not_least : (o : Ordering) → is_gt o ≡ true → not (is_lt o) ≡ true
not_least Greater h = refl
not_least _ h = cc

not_equal : (o : Ordering) → is_gt o ≡ true → is_eq o ≡ false
not_equal Greater h = refl
not_equal _ h = cc

module _ (key : Row) where
  abbrev least : Row → Bool
  least e = not (is_lt (prefix_cmp plain e key))

  abbrev pub beyond : Row → Bool
  beyond e = is_gt (prefix_cmp plain e key)

  parts : (es : List Row) → IsSortedTree plain es → filter least es ≡ filter (has_prefix key) es ++ filter beyond es
  parts [] up = refl
  parts (e ∷ es) up = by (prefix_cmp plain e key) refl (parts es up.1)
    where
      by : (o : Ordering) → prefix_cmp plain e key ≡ o → filter least es ≡ filter (has_prefix key) es ++ filter beyond es → filter least (e ∷ es) ≡ filter (has_prefix key) (e ∷ es) ++ filter beyond (e ∷ es)
      by Less c more = low least (has_prefix key) beyond e es (ap (λ o. not (is_lt o)) c) (ap is_eq c) (ap is_gt c) more
      by Equal c more = here least (has_prefix key) beyond e es (ap (λ o. not (is_lt o)) c) (ap is_eq c) (ap is_gt c) more
      by Greater c more =
          let all : AllByRecursion (λ x. beyond x ≡ true) es = all_weaker _ (λ x. beyond x ≡ true) (λ x h. (prefix_cmp_follows plain key e x h).1 (ap is_gt c)) es up.0 in
          high least (has_prefix key) beyond e es (ap (λ o. not (is_lt o)) c) (ap is_eq c) (ap is_gt c)
          (filter_all least es (all_weaker _ (λ x. least x ≡ true) (λ x h. not_least (prefix_cmp plain x key) h) es all))
          (filter_none (has_prefix key) es (all_weaker _ (λ x. has_prefix key x ≡ false) (λ x h. not_equal (prefix_cmp plain x key) h) es all)) (filter_all beyond es all)

  past : (es : List Row) → AllByRecursion (λ e. has_prefix key e ≡ false) (filter beyond es)
  past es = all_weaker _ (λ e. has_prefix key e ≡ false) (λ e h. not_equal (prefix_cmp plain e key) h) (filter beyond es) (all_kept beyond es)

-- ---- the rows whose index entries begin with a key

same_rest : (r : Row) → drop 1 r ≡ drop 1 (back (drop 1 r))
same_rest [] = refl
same_rest (x ∷ r) = refl

module _ (columns : List ℕ) (key : Row) (all mine table index : List Row) (are : IsPermutation all (map (drop 1) table)) (same : (r : Row) → has_prefix key (entry_of columns r) ≡ has_prefix key (entry_of columns (back (drop 1 r))))
    (mine_is : filter (λ r. has_prefix key (entry_of columns (back r))) all ≡ mine) (rising : (rows : List Row) → map (drop 1) rows ≡ mine → IsIndex plain (map (entry_of columns) rows)) where
  pub places : IsShaped Table table → IsPermutation (map (entry_of columns) table) index → IsIndex plain index → IndexesRows columns key mine table index
  places shaped indexed up =
      let picked = filter (λ r. has_prefix key (entry_of columns r)) table in
      let stored : IsPermutation (map (drop 1) picked) mine =
      IsPermutation-sym _ _ (subst (λ l. IsPermutation l (map (drop 1) picked)) (map-id _ ∙ mine_is) (of_stored table all are (λ r. has_prefix key (entry_of columns r)) (drop 1) same same_rest)) in
      let it = pull_back (drop 1) _ mine stored picked refl in
      let rows = it.0 in
      let chosen : IsPermutation (map (entry_of columns) rows) (filter (has_prefix key) index) =
      IsPermutation-trans _ _ _ (IsPermutation-sym _ _ (IsPermutation-map (entry_of columns) picked rows it.1))
      (subst (λ l. IsPermutation l (filter (has_prefix key) index)) (filter-map (has_prefix key) (entry_of columns) table) (IsPermutation-filter (has_prefix key) _ _ indexed)) in
      let sorted = sorted_index plain index up in
      let unique : filter (has_prefix key) index ≡ map (entry_of columns) rows =
      sorted_unique (entry_cmp plain) (entry_cmp_total plain) _ _ (rising rows (sym it.2)) chosen
      (sorted_from_ascending (entry_cmp plain) (entry_cmp_total plain) _ (ascending-filter (λ a b. is_gt (entry_cmp plain a b) ≡ false) (has_prefix key) index sorted)) in
      record {
        rows = rows;
        are = sym it.2;
        each = all-permutation (IsUniqueRow table) _ _ it.1 (all-filter (IsUniqueRow table) (λ r. has_prefix key (entry_of columns r)) table (alone table shaped.0 shaped.1));
        rest = filter (beyond key) index;
        found = from_key-filter plain key index sorted ∙ parts key index sorted ∙ ap (λ l. l ++ filter (beyond key) index) unique;
        hits = subst (AllByRecursion (λ e. has_prefix key e ≡ true)) unique (all_kept (has_prefix key) index);
        past = past key index;
      }

-- ---- the index entries of rows ascend with their columns, for any rowids

abbrev Below : List ℕ → Row → Row → Type 0
Below columns x y = (a b : Value) → entry_cmp plain (entry_of columns (a ∷ x)) (entry_of columns (b ∷ y)) ≡ Less

module _ (columns : List ℕ) (none : entry_of columns [] ≡ entry_of columns (Null ∷ [])) where
  below_rows : (r s : Row) → Below columns (drop 1 r) (drop 1 s) → entry_cmp plain (entry_of columns r) (entry_of columns s) ≡ Less
  below_rows [] [] h = ap₂ (entry_cmp plain) none none ∙ h Null Null
  below_rows [] (y ∷ s) h = ap (λ (e : Row). entry_cmp plain e (entry_of columns (y ∷ s))) none ∙ h Null y
  below_rows (x ∷ r) [] h = ap (entry_cmp plain (entry_of columns (x ∷ r))) none ∙ h x Null
  below_rows (x ∷ r) (y ∷ s) h = h x y

  risen : (mine : List Row) → IsAscending (Below columns) mine → (rows : List Row) → map (drop 1) rows ≡ mine → IsIndex plain (map (entry_of columns) rows)
  risen mine up rows are =
      ascending-map (λ a b. entry_cmp plain a b ≡ Less) (entry_of columns) rows
      (ascending_weaker (λ a b. Below columns (drop 1 a) (drop 1 b)) (λ a b. entry_cmp plain (entry_of columns a) (entry_of columns b) ≡ Less) below_rows rows
      (ascending_from_map (Below columns) (drop 1) rows (subst (IsAscending (Below columns)) (sym are) up)))

-- ---- the entries of a run

abbrev pub cs : List ℕ
cs = 1 ∷ 2 ∷ []

entries_below : (n : ℕ) (d e : Entry) → d.position < e.position → Below cs (entry_row n d) (entry_row n e)
unfolding first_key
entries_below n d e h a b = rw (equal n, below d.position e.position h) refl

rise : (n : ℕ) (es : List Entry) → IsAscending (λ (a b : Entry). a.position < b.position) es → (rows : List Row) → map (drop 1) rows ≡ map (entry_row n) es → IsIndex plain (map (entry_of cs) rows)
rise n es up = risen cs refl (map (entry_row n) es)
    (ascending-map (Below cs) (entry_row n) es (ascending_weaker (λ (a b : Entry). a.position < b.position) (λ (a b : Entry). Below cs (entry_row n a) (entry_row n b)) (entries_below n) es up))

abbrev run_key : ℕ → Row
run_key n = Int (pos n) ∷ []

abbrev entry_key : ℕ → ℕ → Row
entry_key n p = Int (pos n) ∷ Int (pos p) ∷ []

then_both : (c d : Ordering) → is_eq (ordering_then c (ordering_then d Equal)) ≡ is_eq c && is_eq d
then_both Equal Less = refl
then_both _ _ = refl

same_run : (columns : List ℕ) (n : ℕ) (r : Row) → has_prefix (run_key n) (entry_of (1 ∷ columns) r) ≡ has_prefix (run_key n) (entry_of (1 ∷ columns) (back (drop 1 r)))
same_run columns n [] = refl
same_run columns n (x ∷ r) = refl

same_entry : (columns : List ℕ) (n p : ℕ) (r : Row) → has_prefix (entry_key n p) (entry_of (1 ∷ 2 ∷ columns) r) ≡ has_prefix (entry_key n p) (entry_of (1 ∷ 2 ∷ columns) (back (drop 1 r)))
same_entry columns n p [] = refl
same_entry columns n p (x ∷ r) = refl

in_run : (columns : List ℕ) (n m : ℕ) (r : Row) → has_prefix (run_key n) (entry_of (1 ∷ columns) (back (Int (pos m) ∷ r))) ≡ (m == n)
unfolding first_key
in_run columns n m r = ap is_eq (then-Equal (value_cmp (Int (pos m)) (Int (pos n)))) ∙ same_test m n

at_place : (n p m : ℕ) (e : Entry) → has_prefix (entry_key n p) (entry_of cs (back (entry_row m e))) ≡ (m == n) && (e.position == p)
unfolding first_key
at_place n p m e = then_both (value_cmp (Int (pos m)) (Int (pos n))) (value_cmp (Int (pos e.position)) (Int (pos p))) ∙ ap₂ (λ a b. a && b) (same_test m n) (same_test e.position p)

module _ (runs : List Run) (trees : Trees) (k : IsSchema2Of runs trees) (shaped : IsShaped Table (trees 3)) (up : IsIndex plain (trees 4)) (n : ℕ) where
  abbrev es : List Entry
  es = entries_of (run_at runs n)

  are : IsPermutation (entry_rows runs) (map (drop 1) (trees 3))
  are = subst (λ (t : Trees). IsPermutation (entry_rows runs) (map (drop 1) (t 3))) (sym k.2) k.3.entries_are

  indexed : IsPermutation (map (entry_of cs) (trees 3)) (trees 4)
  indexed = subst (λ (t : Trees). IsPermutation (map (entry_of cs) (t 3)) (t 4)) (sym k.2)
      (subst (λ (s : Schema). AllByRecursion (λ i. IsIndexOf i.columns (k.0.trees i.table) (k.0.trees i.tree)) s.indexes) k.3.schema k.1.obeys.indexed).1.0

  pub places_of_run : IndexesRows cs (run_key n) (map (entry_row n) es) (trees 3) (trees 4)
  places_of_run =
      places cs (run_key n) (entry_rows runs) (map (entry_row n) es) (trees 3) (trees 4) are (same_run (2 ∷ []) n)
      (of_run (λ r. has_prefix (run_key n) (entry_of cs (back r))) (λ e. true) n runs (λ m e. in_run (2 ∷ []) n m (drop 1 (entry_row m e)) ∙ sym (and_true (m == n))) k.3.valid.numbered ∙ ap (map (entry_row n)) (all_pass es))
      (rise n es (up_of runs n k.3.valid)) shaped indexed up

  pub place_of_entry : (p : ℕ) → IndexesRows cs (entry_key n p) (map (entry_row n) (filter (λ (e : Entry). e.position == p) es)) (trees 3) (trees 4)
  place_of_entry p =
      places cs (entry_key n p) (entry_rows runs) (map (entry_row n) (filter (λ (e : Entry). e.position == p) es)) (trees 3) (trees 4) are (same_entry [] n p)
      (of_run (λ r. has_prefix (entry_key n p) (entry_of cs (back r))) (λ e. e.position == p) n runs (at_place n p) k.3.valid.numbered)
      (rise n (filter (λ (e : Entry). e.position == p) es) (ascending-filter (λ (a b : Entry). a.position < b.position) (λ e. e.position == p) es (up_of runs n k.3.valid))) shaped indexed up

-- ---- the pairs of an entry

abbrev pub cs3 : List ℕ
cs3 = 1 ∷ 2 ∷ 3 ∷ []

pair_at_place : (n p m q k : ℕ) (v : Variable) → has_prefix (entry_key n p) (entry_of cs3 (back (pair_row m q k v))) ≡ (m == n) && (q == p)
unfolding first_key
pair_at_place n p m q k v = then_both (value_cmp (Int (pos m)) (Int (pos n))) (value_cmp (Int (pos q)) (Int (pos p))) ∙ ap₂ (λ a b. a && b) (same_test m n) (same_test q p)

by_place : (n p k j : ℕ) (v w : Variable) → k < j → Below cs3 (pair_row n p k v) (pair_row n p j w)
unfolding first_key
by_place n p k j v w h a b = rw (equal n, equal p, below k j h) refl

pub places_of_pairs : (runs : List Run) (trees : Trees) → IsSchema2Of runs trees → IsShaped Table (trees 5) → IsIndex plain (trees 6) → (n p : ℕ)
    → IndexesRows cs3 (entry_key n p) (pair_rows_from n p 0 (pairs_of (entry_at (run_at runs n) p))) (trees 5) (trees 6)
places_of_pairs runs trees k shaped up n p =
    let vs = pairs_of (entry_at (run_at runs n) p) in
    let mine = pair_rows_from n p 0 vs in
    let are : IsPermutation (prop_rows runs) (map (drop 1) (trees 5)) = subst (λ (t : Trees). IsPermutation (prop_rows runs) (map (drop 1) (t 5))) (sym k.2) k.3.props_are in
    let indexed : IsPermutation (map (entry_of cs3) (trees 5)) (trees 6) =
    subst (λ (t : Trees). IsPermutation (map (entry_of cs3) (t 5)) (t 6)) (sym k.2)
    (subst (λ (s : Schema). AllByRecursion (λ i. IsIndexOf i.columns (k.0.trees i.table) (k.0.trees i.tree)) s.indexes) k.3.schema k.1.obeys.indexed).1.1.0 in
    places cs3 (entry_key n p) (prop_rows runs) mine (trees 5) (trees 6) are (same_entry (3 ∷ []) n p) (of_entry (λ r. has_prefix (entry_key n p) (entry_of cs3 (back r))) n p runs k.3.valid (pair_at_place n p))
    (risen cs3 refl mine (pairs_rise n p (Below cs3) (by_place n p) 0 vs)) shaped indexed up
