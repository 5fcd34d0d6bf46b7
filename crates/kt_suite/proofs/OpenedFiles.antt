-- Files that were read, and perhaps opened.
use Rattle.std.proofs.Common.{Result, Ok, Err, ℕ, List, [], ◌∷◌, ◌++◌, refl}
use Rattle.kt_suite.proofs.Common.{Stmt, ReadFault, Missing, SuiteFault, Registry, Asked, Read, read_fault, IsNoMemory, CallMark, Fault, OneMark, fault_of_read, end, says, is_fault, thrown_away, LoadsMarks, stops, short, HasFileMarks, OpensFile, opens, declines, lacks}
use Rattle.kt_suite.proofs.Unfolding.{some_file}

module _ {T : Type 0} (asks : T → Asked → T → Type 0) where
  -- An allocation may fail after the read of a file.
  file_short : (old new : T) (r : Registry) (file : List ℕ) (answer : Result (List ℕ) ReadFault) (fault : SuiteFault) → asks old (Read file answer) new → IsNoMemory fault → LoadsMarks asks old new (HasFileMarks r.open_kyuafiles file) r (Err fault)
  file_short old new r file answer fault h n =
      short [] (CallMark (Read file (Err Missing)) ∷ Fault (read_fault file Missing) ∷ []) (Read file answer ∷ []) r fault
      (record { parts = OneMark (CallMark (Read file (Err Missing))) ∷ OneMark (Fault (read_fault file Missing)) ∷ []; says = fault_of_read Missing; unfolds = some_file (r.open_kyuafiles ++ file ∷ []) file })
      (thrown_away (Read file answer) (Read file (Err Missing)) (Fault (read_fault file Missing) ∷ []) refl) (new, h, refl) refl n

  -- The error of a file that was not opened is the error of the file's walk.
  pub unopened_file : (old new : T) (r : Registry) (file : List ℕ) (fault : SuiteFault) → OpensFile asks old new file (Err fault) → LoadsMarks asks old new (HasFileMarks r.open_kyuafiles file) r (Err fault)
  unopened_file old new r file _ (declines answer fault h s) =
      stops (CallMark (Read file answer) ∷ []) [] (Fault fault) r fault (record { parts = _; says = s; unfolds = says _ _ _ _ (says _ _ _ _ (end _)) }) (new, h, refl) refl (is_fault fault)
  unopened_file old new r file _ (lacks answer fault h n) = file_short old new r file answer fault h n

  -- An allocation may fail after a file is opened.
  pub opened_short : (old new : T) (r : Registry) (file : List ℕ) (stmts : List Stmt) (fault : SuiteFault) → OpensFile asks old new file (Ok stmts) → IsNoMemory fault → LoadsMarks asks old new (HasFileMarks r.open_kyuafiles file) r (Err fault)
  opened_short old new r file _ fault (opens text first rest h s w) n = file_short old new r file (Ok text) fault h n
