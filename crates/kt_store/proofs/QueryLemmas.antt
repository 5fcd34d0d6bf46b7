-- The result of a query of a single table.
use Rattle.kt_store.proofs.Common.{Bool, Int, IsAnswerAs, IsAscending, IsPermutation, IsPermutation-map, IsPermutation-refl, IsPermutation-trans, IsSureAnswer, Less, List, None, Null, Output, Query, Row, Term, Trees, [], ap, ascending-map, cond, end, eval_all, false, filter, flat_map, holds, inner, list_all, lit, map, map-map, matches_as, nat_le, negsuc, output, output_cmp, overlay, pos, refl, sorted_unique, subst, sym, true, unwrap_or, ℕ, ◌++◌, ◌^◌, ◌∙◌, ◌∷◌, ◌≡◌}
use Rattle.sqlite_value.specs.declared.keys.Key.{Key}
use Rattle.sqlite_sql.proofs.QueryLemmas.{output_cmp_total}

abbrev pub selects : ℕ → List Term → List Term → List (Term × Key) → Query
selects t tests project order = record { from = inner t end; filter = tests; group = None; project = project; distinct = false; collations = []; order = order; limit = lit (Int (negsuc 0)); offset = lit (Int (pos 0)) }

pub overlay_none : (db : Trees) (t : ℕ) → overlay db [] t ≡ db t
overlay_none db t = go (nat_le (2 ^ 31) t)
  where
    go : (b : Bool) → unwrap_or (cond b None None) (db t) ≡ db t
    go true = refl
    go false = refl

module _ (t : ℕ) (tests project : List Term) (order : List (Term × Key)) (db : Trees) (params : Row) where
  abbrev pub passes : Row → Bool
  passes r = list_all (holds (params ∷ r ∷ [])) tests

  abbrev pub picked : List Row
  picked = filter passes (db t)

  abbrev pub show : Row → Row
  show r = eval_all project (params ∷ r ∷ [])

  abbrev pub q : Query
  q = selects t tests project order

  pub found : (rows : List Row) → flat_map (λ r. matches_as Null (overlay db []) tests end (params ∷ r ∷ [])) rows ≡ map (λ r. params ∷ r ∷ []) (filter passes rows)
  found [] = refl
  found (r ∷ rows) = go (passes r) (found rows)
    where
      go : (b : Bool) → flat_map (λ x. matches_as Null (overlay db []) tests end (params ∷ x ∷ [])) rows ≡ map (λ x. params ∷ x ∷ []) (filter passes rows)
          → cond b ((params ∷ r ∷ []) ∷ []) [] ++ flat_map (λ x. matches_as Null (overlay db []) tests end (params ∷ x ∷ [])) rows ≡ map (λ x. params ∷ x ∷ []) (cond b (r ∷ filter passes rows) (filter passes rows))
      go true more = ap (λ l. (params ∷ r ∷ []) ∷ l) more
      go false more = more

  abbrev pub outputs : List Row → List Output
  outputs rows = map (λ r. output q (params ∷ r ∷ [])) rows

  module _ (rows : List Row) (ensure_sound : IsSureAnswer q (overlay db []) params rows) where
    abbrev a : IsAnswerAs Null q (overlay db []) params rows
    a = ensure_sound Null

    kept : a.kept ≡ outputs picked
    kept = a.distinct ∙ ap (map (output q)) (a.grouped ∙ ap (flat_map (λ r. matches_as Null (overlay db []) tests end (params ∷ r ∷ []))) (overlay_none db t) ∙ found (db t)) ∙ map-map _ _ picked

    -- the result is the output of the rows that pass the WHERE, in some order
    pub answered : IsPermutation (map show picked) rows
    answered = subst (λ l. IsPermutation l rows) (map-map (λ (o : Output). o.1) (λ r. output q (params ∷ r ∷ [])) picked)
        (subst (λ l. IsPermutation (map (λ (o : Output). o.1) (outputs picked)) l) (sym a.shown) (IsPermutation-map (λ (o : Output). o.1) (outputs picked) a.ordered (subst (λ k. IsPermutation k a.ordered) kept a.same)))

    -- the result is a given permutation of the output, if the permutation ascends strictly in ORDER
    -- BY
    pub answered_sorted : (outs : List Output) → IsPermutation outs (outputs picked) → IsAscending (λ x y. output_cmp q x y ≡ Less) outs → rows ≡ map (λ (o : Output). o.1) outs
    answered_sorted outs same rises =
        let ordered : a.ordered ≡ outs = sorted_unique (output_cmp q) (output_cmp_total q) outs a.ordered rises
        (IsPermutation-trans _ _ _ same (subst (λ k. IsPermutation k a.ordered) kept a.same)) a.sorted in
        a.shown ∙ ap (map (λ (o : Output). o.1)) ordered

    -- the result is the output in table order, if it ascends strictly in ORDER BY
    pub answered_in_order : IsAscending (λ x y. output_cmp q (output q (params ∷ x ∷ [])) (output q (params ∷ y ∷ [])) ≡ Less) picked → rows ≡ map show picked
    answered_in_order rises =
        answered_sorted (outputs picked) (IsPermutation-refl (outputs picked)) (ascending-map (λ x y. output_cmp q x y ≡ Less) (λ r. output q (params ∷ r ∷ [])) picked rises)
        ∙ map-map (λ (o : Output). o.1) (λ r. output q (params ∷ r ∷ [])) picked
