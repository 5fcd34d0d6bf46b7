-- Reading and opening a file.
use Rattle.std.proofs.Common.{Some, None, Result, Ok, Err, ◌≡◌, ℕ, List, ◌∷◌, length, sym, subst, ◌⊎◌, inl, inr}
use Rattle.kt_suite.proofs.Common.{ScriptFault, Stmt, Spells, HasFault, ReadFault, SuiteCause, NoSyntax, Script, SuiteFault, Asked, Read, IsParseFault, fault_at, read_fault, script_line, IsNoMemory, opening_cause, fault_of_read, no_script, no_statement, unopened, ChecksOpening, well, empty, badly, unclear, OpensFile, opens, declines, lacks}
use Rattle.kt_script.specs.Faults.{IfFault}
use Rattle.kt_suite.specs.Inner.Steps.{IsFaultAt}
use Rattle.kt_script.specs.declared.fault.ScriptFault.TheVariants as script
use Rattle.std.proofs.lemmas.List.{nil_from_length}

pub well_empty : (file : List ℕ) (stmts : List Stmt) (fault : SuiteFault) → length stmts ≡ 0 → IsFaultAt file 1 NoSyntax fault → ChecksOpening file stmts (Err fault)
well_empty file stmts fault e (inl n) = unclear fault n
well_empty file stmts fault e (inr f) = subst (λ (f : SuiteFault). ChecksOpening file stmts (Err f)) (sym f) (empty (nil_from_length stmts e))

pub well_wrong : (file : List ℕ) (stmts : List Stmt) (first : Stmt) (rest : List Stmt) (cause : SuiteCause) (fault : SuiteFault) → stmts ≡ first ∷ rest → Some cause ≡ opening_cause first.action
    → IsFaultAt file first.line cause fault → ChecksOpening file stmts (Err fault)
well_wrong file stmts first rest cause fault e w (inl n) = unclear fault n
well_wrong file stmts first rest cause fault e w (inr f) = subst (λ (f : SuiteFault). ChecksOpening file stmts (Err f)) (sym f) (badly first rest cause e (sym w))

pub well_right : (file : List ℕ) (stmts : List Stmt) (first : Stmt) (rest : List Stmt) → stmts ≡ first ∷ rest → None ≡ opening_cause first.action → ChecksOpening file stmts (Ok stmts)
well_right file stmts first rest e w = well first rest e (sym w)

module _ {S : Type 0} (leads : S → Asked → S → Type 0) where
  pub opens_unread : (old new : S) (file : List ℕ) (why : ReadFault) (fault : SuiteFault) → leads old (Read file (Err why)) new
      → IsNoMemory fault ⊎ (fault ≡ read_fault file why) → OpensFile leads old new file (Err fault)
  opens_unread old new file why fault h (inl n) = lacks (Err why) fault h n
  opens_unread old new file why fault h (inr e) = subst (λ (f : SuiteFault). OpensFile leads old new file (Err f)) (sym e) (declines (Err why) (read_fault file why) h (fault_of_read why))

is_due : (text : List ℕ) (why : ScriptFault) → IsParseFault why → IfFault {T = List Stmt} (Err why) (λ f. HasFault text f) → HasFault text why
is_due text (script.NoMemory refusal) n i = absurd n
is_due text why n i = i

module _ {S : Type 0} (leads : S → Asked → S → Type 0) where
  pub opens_no_script : (old new : S) (file text : List ℕ) (answer : Result (List ℕ) ReadFault) (why : ScriptFault) (fault : SuiteFault) → leads old (Read file answer) new → answer ≡ Ok text
      → IfFault {T = List Stmt} (Err why) (λ f. HasFault text f) → IsNoMemory fault ⊎ (IsParseFault why × (fault ≡ fault_at file (script_line why) (Script why))) → OpensFile leads old new file (Err fault)
  opens_no_script old new file text answer why fault h a i (inl n) = lacks answer fault h n
  opens_no_script old new file text answer why fault h a i (inr e) =
      subst (λ (f : SuiteFault). OpensFile leads old new file (Err f)) (sym e.1)
      (declines (Ok text) (fault_at file (script_line why) (Script why)) (subst (λ (x : Result (List ℕ) ReadFault). leads old (Read file x) new) a h) (no_script text why (is_due text why e.0 i)))

  opens_by : (old new : S) (file text : List ℕ) (stmts : List Stmt) (result : Result (List Stmt) SuiteFault) → leads old (Read file (Ok text)) new → Spells text stmts
      → ChecksOpening file stmts result → OpensFile leads old new file result
  opens_by old new file text stmts _ h s (well first rest e w) =
      subst (λ (xs : List Stmt). OpensFile leads old new file (Ok xs)) (sym e) (opens text first rest h (subst (λ (xs : List Stmt). Spells text xs) e s) w)
  opens_by old new file text stmts _ h s (empty e) = declines (Ok text) (fault_at file 1 NoSyntax) h (no_statement text (subst (λ (xs : List Stmt). Spells text xs) e s))
  opens_by old new file text stmts _ h s (badly first rest cause e w) =
      declines (Ok text) (fault_at file first.line cause) h (unopened text first rest cause (subst (λ (xs : List Stmt). Spells text xs) e s) w)
  opens_by old new file text stmts _ h s (unclear fault n) = lacks (Ok text) fault h n

  pub opens_script : (old new : S) (file text : List ℕ) (answer : Result (List ℕ) ReadFault) (stmts : List Stmt) (result : Result (List Stmt) SuiteFault) → leads old (Read file answer) new → answer ≡ Ok text
      → Spells text stmts → ChecksOpening file stmts result → OpensFile leads old new file result
  opens_script old new file text answer stmts result h a s w = opens_by old new file text stmts result (subst (λ (x : Result (List ℕ) ReadFault). leads old (Read file x) new) a h) s w
