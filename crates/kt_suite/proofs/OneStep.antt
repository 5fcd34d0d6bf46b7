-- The walk of one statement.
use Rattle.std.proofs.Common.{Bool, true, false, Some, None, Result, Ok, Err, ◌≡◌, ◌≤◌, ◌<◌, ◌+◌, ℕ, List, [], ◌∷◌, ◌++◌, length, refl, sym, subst, ◌⊎◌, inl, inr, IfOk, IfErr}
use Rattle.kt_suite.proofs.Common.{Variable, SuiteCause, MissingProgram, TooMany, SuiteFault, Meaning, Program, Registry, Missing, LoadStep, Next, Enter, Asked, Exists, IsNoMemory, sibling_of, Site, site_fault, lookup_mark, Mark, CallMark, File, ProgramMark, Fault, statement_parts, fault_of_read, include_cause, Unfolds, end, says, refused, entered, file_limit, program_limit, is_fault, file_too_many, program_too_many, no_question, LoadsMarks, through, stops, short, RegistersProgram, EntersInclude, CountsInclude, refuses, exceeds, scant, HasMeaningMarks, StepsTo, goes, enters, fails}
use Rattle.kt_base.specs.declared.child.Interface.{Interface}
use Rattle.kt_suite.specs.Inner.Walks.{counts}
use Rattle.kt_suite.specs.declared.meaning.Meaning.TheVariants as meaning
use Rattle.kt_suite.proofs.Unfolding.{some_file, some_marks}
use Rattle.kt_suite.proofs.Walking.{walked-as}

-- If `P` holds of a failed allocation and of the error `other`, `P` holds of an error that is
-- either.
pub blamed : (P : SuiteFault → Type 0) (other fault : SuiteFault) → (IsNoMemory fault → P fault) → P other → IsNoMemory fault ⊎ (fault ≡ other) → P fault
blamed P other fault p q (inl n) = p n
blamed P other fault p q (inr e) = subst P (sym e) q

module _ {S : Type 0} (leads : S → Asked → S → Type 0) where
  -- If no file is at the path of a program, `RegistersProgram` has the error `MissingProgram`.
  pub adds_missing : (old new : S) (at : Site) (r : Registry) (p : Program) (there : Bool) (fault : SuiteFault) → leads old (Exists p.path there) new → there ≡ false
      → IsNoMemory fault ⊎ (fault ≡ site_fault at MissingProgram) → RegistersProgram leads old new at r p (Err fault)
  adds_missing old new at r p there fault h e b =
      let asked = subst (λ (x : Bool). leads old (Exists p.path x) new) e h in
      blamed (λ f. RegistersProgram leads old new at r p (Err f)) (site_fault at MissingProgram) fault
      (short (CallMark (Exists p.path false) ∷ []) (Fault (site_fault at MissingProgram) ∷ []) [] r fault (false, refl) (no_question _) (new, asked, refl) refl)
      (stops (CallMark (Exists p.path false) ∷ []) [] (Fault (site_fault at MissingProgram)) r (site_fault at MissingProgram) (false, refl) (new, asked, refl) refl (is_fault (site_fault at MissingProgram))) b

  -- If the limit of programs is reached, `RegistersProgram` has the error `TooMany`.
  pub adds_too_many : (old new : S) (at : Site) (r : Registry) (p : Program) (there : Bool) (fault : SuiteFault) → leads old (Exists p.path there) new → there ≡ true → program_limit ≤ length r.programs
      → IsNoMemory fault ⊎ (fault ≡ site_fault at TooMany) → RegistersProgram leads old new at r p (Err fault)
  adds_too_many old new at r p there fault h e n b =
      let asked = subst (λ (x : Bool). leads old (Exists p.path x) new) e h in
      blamed (λ f. RegistersProgram leads old new at r p (Err f)) (site_fault at TooMany) fault
      (short (CallMark (Exists p.path true) ∷ []) (ProgramMark at p ∷ []) [] r fault (true, refl) (no_question _) (new, asked, refl) refl)
      (stops (CallMark (Exists p.path true) ∷ []) [] (ProgramMark at p) r (site_fault at TooMany) (true, refl) (new, asked, refl) refl (program_too_many at p n)) b

  pub adds_short : (old new : S) (at : Site) (r : Registry) (p : Program) (there : Bool) (fault : SuiteFault) → leads old (Exists p.path there) new → IsNoMemory fault → RegistersProgram leads old new at r p (Err fault)
  adds_short old new at r p there fault h n = short (CallMark (Exists p.path there) ∷ []) (lookup_mark at p there ∷ []) [] r fault (there, refl) (no_question _) (new, h, refl) refl n

  pub adds_one : (old new : S) (at : Site) (r after : Registry) (p : Program) (there : Bool) → leads old (Exists p.path there) new → there ≡ true → length r.programs < program_limit
      → after ≡ (record r { programs = r.programs ++ p ∷ [] }) → RegistersProgram leads old new at r p (Ok after)
  adds_one old new at r after p there h e n a =
      through (CallMark (Exists p.path true) ∷ ProgramMark at p ∷ []) after (true, refl) (new, subst (λ (x : Bool). leads old (Exists p.path x) new) e h, refl) (n, a)

  -- An allocation may fail before the program is looked up.
  pub adds_unasked : (old : S) (at : Site) (r : Registry) (p : Program) (fault : SuiteFault) → IsNoMemory fault → RegistersProgram leads old old at r p (Err fault)
  adds_unasked old at r p fault n = short [] (CallMark (Exists p.path true) ∷ ProgramMark at p ∷ []) [] r fault (true, refl) (no_question _) refl refl n

-- If the included file may not be entered, `CountsInclude` has the error with this cause.
pub enters_refused : (at : Site) (r : Registry) (path : List ℕ) (cause : SuiteCause) (fault : SuiteFault) → Some cause ≡ include_cause r.open_kyuafiles path → IsNoMemory fault ⊎ (fault ≡ site_fault at cause) → CountsInclude at r path (Err fault)
enters_refused at r path cause fault e b = blamed (λ f. CountsInclude at r path (Err f)) (site_fault at cause) fault (scant fault) (refuses cause (sym e)) b

pub enters_too_many : (at : Site) (r : Registry) (path : List ℕ) (fault : SuiteFault) → None ≡ include_cause r.open_kyuafiles path → file_limit ≤ r.files → IsNoMemory fault ⊎ (fault ≡ site_fault at TooMany) → CountsInclude at r path (Err fault)
enters_too_many at r path fault e n b = blamed (λ f. CountsInclude at r path (Err f)) (site_fault at TooMany) fault (scant fault) (exceeds (sym e) n) b

pub enters_well : (at : Site) (r after : Registry) (path : List ℕ) → None ≡ include_cause r.open_kyuafiles path → r.files < file_limit → after ≡ (record r { files = r.files + 1 }) → CountsInclude at r path (Ok after)
enters_well at r after path e n a = subst (λ (x : Registry). CountsInclude at r path (Ok x)) (sym a) (counts (sym e) n)

module _ {S : Type 0} (leads : S → Asked → S → Type 0) where
  -- An allocation may fail before the statement has a mark.
  at_once : (old : S) (r : Registry) (at : Site) (m : Meaning) (fault : SuiteFault) → IsNoMemory fault → LoadsMarks leads old old (HasMeaningMarks r.open_kyuafiles at m) r (Err fault)
  at_once old r at m fault n = let some = some_marks r.open_kyuafiles (statement_parts at true m) in short [] some.0 [] r fault (record { there = true; unfolds = some.1 }) (no_question _) refl refl n

  pub step_short : (old : S) (r : Registry) (at : Site) (m : Meaning) (fault : SuiteFault) → IsNoMemory fault → StepsTo leads old old r at m (Err fault)
  step_short old r at m fault n = fails fault (at_once old r at m fault n)

  pub step_wrong : (old : S) (r : Registry) (at : Site) (m : Meaning) (cause : SuiteCause) (fault : SuiteFault) → meaning.Wrong cause ≡ m
      → IsNoMemory fault ⊎ (fault ≡ site_fault at cause) → StepsTo leads old old r at m (Err fault)
  step_wrong old r at m cause fault e b =
      subst (λ (x : Meaning). StepsTo leads old old r at x (Err fault)) e
      (blamed (λ f. StepsTo leads old old r at (meaning.Wrong cause) (Err f)) (site_fault at cause) fault
      (λ n. fails fault (at_once old r at (meaning.Wrong cause) fault n))
      (fails (site_fault at cause) (stops [] [] (Fault (site_fault at cause)) r (site_fault at cause) (record { there = true; unfolds = says _ _ _ _ (end _) }) refl refl (is_fault (site_fault at cause)))) b)

  pub step_suite : (old : S) (r : Registry) (at : Site) (m : Meaning) (name : List ℕ) → meaning.Suite name ≡ m → StepsTo leads old old r at m (Ok (Next r))
  step_suite old r at m name e =
      subst (λ (x : Meaning). StepsTo leads old old r at x (Ok (Next r))) e
      (goes r (through [] r (record { there = true; unfolds = end _ }) refl refl))

  step_enter_at : (old : S) (r : Registry) (at : Site) (name : List ℕ) (result : Result Registry SuiteFault) → CountsInclude at r (sibling_of at.file name) result
      → StepsTo leads old old r at (meaning.Include name) (elim result as (λ _. Result LoadStep SuiteFault) [ Ok next ↦ Ok (Enter next (sibling_of at.file name)) | Err fault ↦ Err fault ])
  step_enter_at old r at name _ (refuses cause e) =
      fails (site_fault at cause) (stops [] [] (Fault (site_fault at cause)) r (site_fault at cause) (record { there = true; unfolds = refused _ _ _ _ _ _ e (end _) }) refl refl (is_fault (site_fault at cause)))
  step_enter_at old r at name _ (exceeds e n) =
      fails (site_fault at TooMany) (stops [] _ (File at) r (site_fault at TooMany) (record { there = true; unfolds = entered _ _ _ _ _ _ _ e (fault_of_read Missing) (some_file _ _) (end _) }) refl refl (file_too_many at n))
  step_enter_at old r at name _ (counts e n) = enters (sibling_of at.file name) refl e n refl
  step_enter_at old r at name _ (scant fault n) = fails fault (at_once old r at (meaning.Include name) fault n)

  pub step_included : (old : S) (r : Registry) (at : Site) (m : Meaning) (name : List ℕ) (result : Result LoadStep SuiteFault) → meaning.Include name ≡ m
      → IfOk result (λ step. EntersInclude at r (sibling_of at.file name) step) → IfErr result (λ fault. CountsInclude at r (sibling_of at.file name) (Err fault)) → StepsTo leads old old r at m result
  step_included old r at m name (Ok step) e ok err =
      subst (λ (x : Meaning). StepsTo leads old old r at x (Ok step)) e
      (subst (λ (x : LoadStep). StepsTo leads old old r at (meaning.Include name) (Ok x)) (sym ok.2) (step_enter_at old r at name (Ok ok.0) ok.1))
  step_included old r at m name (Err fault) e ok err =
      subst (λ (x : Meaning). StepsTo leads old old r at x (Err fault)) e (step_enter_at old r at name (Err fault) err)

  -- A walk of a program's marks is a walk of the marks of its statement.
  walk_program : (old new : S) (r : Registry) (at : Site) (interface : Interface) (name own : List ℕ) (props : List Variable) (result : Result Registry SuiteFault)
      → RegistersProgram leads old new at r (record { interface = interface; path = sibling_of at.file name; suite = own; props = props }) result
      → LoadsMarks leads old new (HasMeaningMarks r.open_kyuafiles at (meaning.Program interface name own props)) r result
  walk_program old new r at interface name own props result w =
      let m = meaning.Program interface name own props in
      walked-as w (λ marks g. record { there = g.0; unfolds = subst (λ (ms : List Mark). Unfolds r.open_kyuafiles (statement_parts at g.0 m) ms) (sym g.1) (says _ _ _ _ (says _ _ _ _ (end _))) })

  pub step_added : (old new : S) (r next : Registry) (at : Site) (m : Meaning) (interface : Interface) (name own : List ℕ) (props : List Variable)
      → meaning.Program interface name own props ≡ m → RegistersProgram leads old new at r (record { interface = interface; path = sibling_of at.file name; suite = own; props = props }) (Ok next)
      → StepsTo leads old new r at m (Ok (Next next))
  step_added old new r next at m interface name own props e a =
      subst (λ (x : Meaning). StepsTo leads old new r at x (Ok (Next next))) e (goes next (walk_program old new r at interface name own props (Ok next) a))

  pub step_not_added : (old new : S) (r : Registry) (at : Site) (m : Meaning) (interface : Interface) (name own : List ℕ) (props : List Variable) (fault : SuiteFault)
      → meaning.Program interface name own props ≡ m → RegistersProgram leads old new at r (record { interface = interface; path = sibling_of at.file name; suite = own; props = props }) (Err fault)
      → StepsTo leads old new r at m (Err fault)
  step_not_added old new r at m interface name own props fault e a =
      subst (λ (x : Meaning). StepsTo leads old new r at x (Err fault)) e (fails fault (walk_program old new r at interface name own props (Err fault) a))
