-- Lemmas on the cases of programs, and on the calls for them.
use Rattle.std.proofs.Common.{Some, None, ◌≡◌, ◌≢◌, List, [], ◌∷◌, ◌++◌, sym, subst, append_assoc, append-nil, length}
use Rattle.kt_plan.proofs.Common.{Atf, Values, LeadsByCalls, Filter, Program, Candidate, candidates_of, variables_for, IsSelectable, listed, ListsProgramCases, listing, unlisted, single, ListsAllCases, one_and, IsAllListsPrefix, no_further, asks, passes, Reply, Lists}
use Rattle.kt_plan.proofs.Chains.{answered-as, answered-once, answered-then, asked_nothing}
use Rattle.kt_plan.specs.Types.{CaseDef, Listing, Variable}
use Rattle.kt_atflist.specs.Cases.{AreCases}
use Rattle.kt_plan.specs.Collecting.{none}
use Rattle.std.proofs.lemmas.List.{nil_from_length}

module _ {W : Type 0} (replies : W → Reply → W → Type 0) (config : Values) (filters : List Filter) where
  module _ (program : Program) (variables : List Variable) (old new : W) (answer : Listing) (atf : program.interface ≡ Atf) (w : IsSelectable filters program)
      (own : variables ≡ variables_for config program.suite) (h : replies old (Lists program variables answer) new) where
    -- The listing of an ATF program that `IsSelectable`, with the variables of its test suite, is
    -- its only call.
    listed_once : {P : List Reply → Type 0} → P (Lists program (variables_for config program.suite) answer ∷ []) → LeadsByCalls replies old new P
    listed_once p = answered-once (Lists program (variables_for config program.suite) answer) (subst (λ (vs : List Variable). replies old (Lists program vs answer) new) own h) p

    -- The program has the cases that it lists.
    pub offers_listed : (cases : List CaseDef) → AreCases program.props Atf (Some answer) cases → LeadsByCalls replies old new (λ answers. ListsProgramCases config filters program answers (candidates_of program cases))
    offers_listed cases a = listed_once (listing _ cases atf w (listed answer cases a))

    -- If an allocation fails after the listing, the listing is a prefix of the calls for the
    -- program.
    pub list_asked : LeadsByCalls replies old new (λ answers. IsAllListsPrefix config filters (program ∷ []) answers)
    list_asked = listed_once (asks program [] answer [] atf w (no_further []))

  -- An ATF program that is not `IsSelectable` has no cases and no calls.
  pub offers_none : (program : Program) (world : W) (cases : List CaseDef) → program.interface ≡ Atf → (IsSelectable filters program → ⊥) → cases ≡ []
      → LeadsByCalls replies world world (λ answers. ListsProgramCases config filters program answers (candidates_of program cases))
  offers_none program world cases e n c = asked_nothing replies world _ (subst (λ (cs : List CaseDef). ListsProgramCases config filters program [] (candidates_of program cs)) (sym c) (unlisted e n))

  -- A program that is not an ATF program has its cases without a call.
  pub offers_single : (program : Program) (world : W) (cases : List CaseDef) → program.interface ≢ Atf → AreCases program.props program.interface None cases
      → LeadsByCalls replies world world (λ answers. ListsProgramCases config filters program answers (candidates_of program cases))
  offers_single program world cases n a = asked_nothing replies world _ (single cases n a)

  -- All calls for a program, followed by a prefix of the calls for the programs after it, are a
  -- prefix of the calls for all these programs.
  first_of_one : (program : Program) (rest : List Program) (own more : List Reply) (found : List Candidate) → ListsProgramCases config filters program own found → IsAllListsPrefix config filters rest more
      → IsAllListsPrefix config filters (program ∷ rest) (own ++ more)
  first_of_one program rest _ more _ (listing _ _ e w (listed answer cases a)) h = asks program rest answer more e w h
  first_of_one program rest _ more _ (unlisted e n) h = passes program rest more (λ _. n) h
  first_of_one program rest _ more _ (single cases n a) h = passes program rest more (λ e _. n e) h

  -- A prefix of the calls for one program is a prefix of the calls for it and the programs after
  -- it.
  first_before : (program : Program) (rest : List Program) (answers : List Reply) → IsAllListsPrefix config filters (program ∷ []) answers → IsAllListsPrefix config filters (program ∷ rest) answers
  first_before program rest _ (no_further _) = no_further (program ∷ rest)
  first_before program rest _ (asks _ _ answer _ e w (no_further _)) = asks program rest answer [] e w (no_further rest)
  first_before program rest _ (passes _ _ _ n (no_further _)) = no_further (program ∷ rest)

  -- All calls for some programs are also a prefix of these calls.
  pub all_first : (programs : List Program) (answers : List Reply) (found : List Candidate) → ListsAllCases config filters programs answers found → IsAllListsPrefix config filters programs answers
  all_first _ _ _ none = no_further []
  all_first _ _ _ (one_and program programs answers more own others o h) = first_of_one program programs answers more own o (all_first programs more others h)

  -- The calls that give the cases of a program are a prefix of the calls for it.
  pub first_offered : (program : Program) (old new : W) (found : List Candidate) → LeadsByCalls replies old new (λ answers. ListsProgramCases config filters program answers found)
      → LeadsByCalls replies old new (λ answers. IsAllListsPrefix config filters (program ∷ []) answers)
  first_offered program old new found a = answered-as a (λ answers h. rw append-nil at (first_of_one program [] answers [] found h (no_further [])))

  -- `Offering programs old rest new found`: the calls so far led the world from the state `old` to
  -- the state `new`, and gave the candidates `found`. With calls for the remaining programs `rest`,
  -- they are all calls for the programs `programs`.
  abbrev pub Offering : List Program → W → List Program → W → List Candidate → Type 0
  Offering programs old rest new found = LeadsByCalls replies old new (λ answers.
      ((more : List Reply) (others : List Candidate) → ListsAllCases config filters rest more others → ListsAllCases config filters programs (answers ++ more) (found ++ others))
      × ((more : List Reply) → IsAllListsPrefix config filters rest more → IsAllListsPrefix config filters programs (answers ++ more)))

  module _ (programs : List Program) (old : W) where
    -- The cases of the next program extend the cases so far.
    pub offers_next : (rest after : List Program) (program : Program) (mid new : W) (found grown : List Candidate) (cases : List CaseDef) → rest ≡ program ∷ after → Offering programs old rest mid found
        → LeadsByCalls replies mid new (λ answers. ListsProgramCases config filters program answers (candidates_of program cases)) → grown ≡ found ++ candidates_of program cases → Offering programs old after new grown
    offers_next rest after program mid new found grown cases e o a g = let own = candidates_of program cases in answered-then o a (λ answers asked f h. (
      λ more others k. rw (append_assoc, g, append_assoc) (f.0 (asked ++ more) (own ++ others) (rw e (one_and program after asked more own others h k))),
      λ more k. rw append_assoc (f.1 (asked ++ more) (rw e (first_of_one program after asked more own h k))),
    ))

    -- The calls before a failed allocation are a prefix of the calls for all programs.
    pub offers_stopped : (rest after : List Program) (program : Program) (mid new : W) (found : List Candidate) → rest ≡ program ∷ after → Offering programs old rest mid found
        → LeadsByCalls replies mid new (λ answers. IsAllListsPrefix config filters (program ∷ []) answers) → LeadsByCalls replies old new (λ answers. IsAllListsPrefix config filters programs answers)
    offers_stopped rest after program mid new found e o a =
        answered-then o a (λ answers asked f h. f.1 asked (rw e (first_before program after asked h)))

    -- If no program remains, the cases so far are all cases.
    pub offers_all : (rest : List Program) (new : W) (found : List Candidate) → length rest ≡ 0 → Offering programs old rest new found → LeadsByCalls replies old new (λ answers. ListsAllCases config filters programs answers found)
    offers_all rest new found e o = answered-as o (λ answers f. rw (append-nil, append-nil) at (f.0 [] [] (rw (nil_from_length rest e) none)))
