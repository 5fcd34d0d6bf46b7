-- The root is read, and the counted marks decide the result.
use Rattle.std.proofs.Common.{Result, Ok, Err, ◌≡◌, ◌≤◌, ◌+◌, ℕ, List, [], ◌∷◌, ◌++◌, length, arith, refl, sym, subst, ap, ◌⊎◌, inl, inr}
use Rattle.kt_suite.proofs.Common.{append-nil, SuiteFault, Program, Registry, Asked, LeadsByCalls, Site, Mark, File, Includes, end, entered, HasTreeMarks, program_limit, LoadResult, calls_in, files_in, programs_in, DecidesNothing, Decides, Unfinished, Registered, all, stopped, AddsMarks, LoadsMarks, through, stops, short, HasFileMarks}
use Rattle.kt_suite.proofs.Counting.{totals}
use Rattle.kt_suite.proofs.Unfolding.{unfolds_to}

-- `root_counted`: the registry before the root is read: no file is open, and only the root is
-- counted.
abbrev pub root_counted : Registry
root_counted = record { open_kyuafiles = []; files = 1; programs = [] }

abbrev pub root_site : List ℕ → Site
root_site root = record { file = root; line = 0 }

tree_gives : (root : List ℕ) (marks : List Mark) → HasFileMarks [] root marks → HasTreeMarks root (File (root_site root) ∷ marks)
tree_gives root marks g =
    unfolds_to [] (Includes (root_site root) root ∷ []) (File (root_site root) ∷ (marks ++ [])) (File (root_site root) ∷ marks) (ap (λ (ms : List Mark). File (root_site root) ∷ ms) (append-nil marks))
    (entered [] (root_site root) root g.parts marks [] [] refl g.says g.unfolds (end []))

undecided : (root : List ℕ) (after : Registry) (marks : List Mark) → AddsMarks root_counted marks after → DecidesNothing (File (root_site root) ∷ marks)
undecided root after marks c =
    let t = totals root_counted after marks c in
    let few = t.few_files (omega arith) in
    let little = t.few_programs (omega arith) in
    record { faultless = t.faultless; files = omega (arith, t.files, few); programs = omega (arith, ap (λ (ps : List Program). length ps) t.programs, little) }

-- `answered result`: the programs of the registry `result`, or its error.
abbrev pub answered : Result Registry SuiteFault → LoadResult
answered (Ok r) = Ok r.programs
answered (Err fault) = Err fault

module _ {T : Type 0} (asks : T → Asked → T → Type 0) where
  registered_root : (old new : T) (root : List ℕ) (result : Result Registry SuiteFault) → LoadsMarks asks old new (HasFileMarks [] root) root_counted result
      → LeadsByCalls asks old new (λ asked. Registered asked root (answered result) ⊎ Unfinished asked root (answered result))
  registered_root old new root _ (through marks after g c k) =
      let r : Registered (calls_in marks) root (Ok (programs_in marks)) = all (File (root_site root) ∷ marks) (tree_gives root marks g) (undecided root after marks k) refl in
      record {
        asked = calls_in marks;
        chain = c;
        holds =
            inl (subst (λ (ps : List Program). Registered (calls_in marks) root (Ok ps)) (sym (totals root_counted after marks k).programs) r);
      }
  registered_root old new root _ (stops front back mark mid fault g c k d) =
      let t = totals root_counted mid front k in
      let p : length mid.programs ≡ length (programs_in front) = ap (λ (ps : List Program). length ps) t.programs in
      let decides = subst (λ (n : ℕ). Decides (1 + files_in front) n mark fault) p (subst (λ (n : ℕ). Decides n (length mid.programs) mark fault) t.files d) in
      record {
        asked = calls_in front;
        chain = c;
        holds = inl (stopped (File (root_site root) ∷ front) back mark fault (tree_gives root (front ++ mark ∷ back) g) (undecided root mid front k) decides refl);
      }
  registered_root old new root _ (short front back more mid fault g l c k n) =
      let begins : Unfinished (calls_in front ++ more) root (Err fault) = record {
        fault = fault;
        no_memory = n;
        refused = refl;
        front = File (root_site root) ∷ front;
        back = back;
        more = more;
        gives = tree_gives root (front ++ back) g;
        undecided = undecided root mid front k;
        next = l;
        is = refl;
      } in
      record { asked = calls_in front ++ more; chain = c; holds = inr begins }

  pub registered : (old new : T) (root : List ℕ) (start : Registry) (result : Result Registry SuiteFault) → start ≡ root_counted → LoadsMarks asks old new (HasFileMarks start.open_kyuafiles root) start result
      → LeadsByCalls asks old new (λ asked. Registered asked root (answered result) ⊎ Unfinished asked root (answered result))
  registered old new root start result e w = registered_root old new root result (subst (λ (s : Registry). LoadsMarks asks old new (HasFileMarks s.open_kyuafiles root) s result) e w)

  pub few_counted : (old new : T) (root : List ℕ) (start : Registry) (r : Registry) → start ≡ root_counted → LoadsMarks asks old new (HasFileMarks start.open_kyuafiles root) start (Ok r) → length r.programs ≤ program_limit
  few_counted old new root start r e (through marks _ g c k) =
      let p = ap (λ (s : Registry). length s.programs) e in (totals start r marks k).few_programs (omega (arith, p))
