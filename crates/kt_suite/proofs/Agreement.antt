-- Two lists of a tree's marks are equal up to a call with two results.
use Rattle.std.proofs.Common.{Option, Some, None, Result, Ok, Err, Bool, ◌≡◌, ℕ, List, [], ◌∷◌, ◌++◌, refl, sym, subst, ap, ◌∙◌}
use Rattle.kt_suite.proofs.Common.{ScriptFault, Stmt, Spells, HasFault, ReadFault, SuiteCause, NoSyntax, Script, Meaning, Program, Asked, Read, Exists, IsSameCall, fault_at, read_fault, script_line, meaning_of, opening_cause, sibling_of, Site, site_fault, lookup_mark, Mark, CallMark, File, Fault, Part, OneMark, Includes, statement_parts, suite_after, HaveStatementParts, none, one, HasFileParts, fault_of_read, no_script, no_statement, unopened, opened, Unfolds, end, says, refused, entered, HasTreeMarks}
use Rattle.kt_suite.specs.declared.meaning.Meaning.TheVariants as meaning
use Rattle.kt_script.proofs.OneAnswer.{two_spelled, two_due, not_both}

-- `Agree ms ns`: the marks `ms` and `ns` are equal, or are equal up to the same call with two
-- results.
pub data Agree : List Mark → List Mark → Type 0 where
  both_end : Agree [] []
  same_mark : (m : Mark) (ms ns : List Mark) → Agree ms ns → Agree (m ∷ ms) (m ∷ ns)
  both_ask : (q r : Asked) (ms ns : List Mark) → IsSameCall q r → (q ≡ r → Agree ms ns) → Agree (CallMark q ∷ ms) (CallMark r ∷ ns)

-- `AgreeParts ps qs`: the parts `ps` and `qs` are equal, or are equal up to the same call with two
-- results.
pub data AgreeParts : List Part → List Part → Type 0 where
  no_parts : AgreeParts [] []
  same_part : (p : Part) (ps qs : List Part) → AgreeParts ps qs → AgreeParts (p ∷ ps) (p ∷ qs)
  parts_ask : (q r : Asked) (ps qs : List Part) → IsSameCall q r → (q ≡ r → AgreeParts ps qs) → AgreeParts (OneMark (CallMark q) ∷ ps) (OneMark (CallMark r) ∷ qs)

agree-append : (ms ns xs ys : List Mark) → Agree ms ns → Agree xs ys → Agree (ms ++ xs) (ns ++ ys)
agree-append _ _ xs ys both_end a = a
agree-append _ _ xs ys (same_mark m ms ns h) a = same_mark m (ms ++ xs) (ns ++ ys) (agree-append ms ns xs ys h a)
agree-append _ _ xs ys (both_ask q r ms ns s f) a = both_ask q r (ms ++ xs) (ns ++ ys) s (λ e. agree-append ms ns xs ys (f e) a)

abbrev read_in : Asked → Result (List ℕ) ReadFault → Result (List ℕ) ReadFault
read_in (Read p a) d = a
read_in (Exists p a) d = d

abbrev exists_in : Asked → Bool → Bool
exists_in (Read p a) d = d
exists_in (Exists p a) d = a

said_agree : (at : Site) (t u : Bool) (m : Meaning) (ps qs : List Part) → AgreeParts ps qs → AgreeParts (statement_parts at t m ++ ps) (statement_parts at u m ++ qs)
said_agree at t u (meaning.Wrong cause) ps qs a = same_part _ ps qs a
said_agree at t u (meaning.Suite name) ps qs a = a
said_agree at t u (meaning.Include name) ps qs a = same_part _ ps qs a
said_agree at t u (meaning.Program interface name suite props) ps qs a =
    let p : Program = record { interface = interface; path = sibling_of at.file name; suite = suite; props = props } in
    parts_ask (Exists (sibling_of at.file name) t) (Exists (sibling_of at.file name) u) (OneMark (lookup_mark at p t) ∷ ps) (OneMark (lookup_mark at p u) ∷ qs) refl
    (λ e. subst (λ (b : Bool). AgreeParts (OneMark (lookup_mark at p t) ∷ ps) (OneMark (lookup_mark at p b) ∷ qs)) (ap (λ (x : Asked). exists_in x t) e) (same_part (OneMark (lookup_mark at p t)) ps qs a))

statements_agree : (file : List ℕ) (suite : Option (List ℕ)) (stmts : List Stmt) (ps qs : List Part) → HaveStatementParts file suite stmts ps → HaveStatementParts file suite stmts qs → AgreeParts ps qs
statements_agree file suite [] _ _ (none _) (none _) = no_parts
statements_agree file suite (stmt ∷ rest) _ _ (one _ _ _ t ps h) (one _ _ _ u qs k) =
    said_agree (record { file = file; line = stmt.line }) t u (meaning_of suite stmt.action) ps qs (statements_agree file (suite_after suite (meaning_of suite stmt.action)) rest ps qs h k)

-- `AfterStatements file stmts parts`: the parts `parts` follow a read of the file `file` that
-- returned the statements `stmts`.
data AfterStatements (file : List ℕ) : List Stmt → List Part → Type 0 where
  a_none : AfterStatements file [] (OneMark (Fault (fault_at file 1 NoSyntax)) ∷ [])
  a_wrong : (first : Stmt) (rest : List Stmt) (cause : SuiteCause) → opening_cause first.action ≡ Some cause → AfterStatements file (first ∷ rest) (OneMark (Fault (fault_at file first.line cause)) ∷ [])
  a_right : (first : Stmt) (rest : List Stmt) (parts : List Part) → opening_cause first.action ≡ None → HaveStatementParts file None rest parts → AfterStatements file (first ∷ rest) parts

data AfterAnswer (file : List ℕ) : Result (List ℕ) ReadFault → List Part → Type 0 where
  b_unread : (why : ReadFault) → AfterAnswer file (Err why) (OneMark (Fault (read_fault file why)) ∷ [])
  b_faulty : (text : List ℕ) (why : ScriptFault) → HasFault text why → AfterAnswer file (Ok text) (OneMark (Fault (fault_at file (script_line why) (Script why))) ∷ [])
  b_script : (text : List ℕ) (stmts : List Stmt) (parts : List Part) → Spells text stmts → AfterStatements file stmts parts → AfterAnswer file (Ok text) parts

data Answering (file : List ℕ) : List Part → Type 0 where
  by : (answer : Result (List ℕ) ReadFault) (parts : List Part) → AfterAnswer file answer parts → Answering file (OneMark (CallMark (Read file answer)) ∷ parts)

answering : (file : List ℕ) (ps : List Part) → HasFileParts file ps → Answering file ps
answering file _ (fault_of_read why) = by (Err why) _ (b_unread why)
answering file _ (no_script text why i) = by (Ok text) _ (b_faulty text why i)
answering file _ (no_statement text s) = by (Ok text) _ (b_script text [] _ s a_none)
answering file _ (unopened text first rest cause s e) = by (Ok text) _ (b_script text (first ∷ rest) _ s (a_wrong first rest cause e))
answering file _ (opened text first rest parts s e h) = by (Ok text) parts (b_script text (first ∷ rest) parts s (a_right first rest parts e h))

behind_statements : (file : List ℕ) (stmts : List Stmt) (ps qs : List Part) → AfterStatements file stmts ps → AfterStatements file stmts qs → AgreeParts ps qs
behind_statements file [] _ _ a_none a_none = same_part _ [] [] no_parts
behind_statements file (first ∷ rest) _ _ (a_wrong _ _ a e) (a_wrong _ _ b f) =
    subst (λ (z : SuiteCause). AgreeParts (OneMark (Fault (fault_at file first.line a)) ∷ []) (OneMark (Fault (fault_at file first.line z)) ∷ []))
    (ap (λ (z : Option SuiteCause). elim z [ None ↦ a | Some cause ↦ cause ]) (sym e ∙ f)) (same_part _ [] [] no_parts)
behind_statements file (first ∷ rest) _ qs (a_wrong _ _ a e) (a_right _ _ _ f k) = let z = sym e ∙ f in absurd (cc)
behind_statements file (first ∷ rest) ps _ (a_right _ _ _ e h) (a_wrong _ _ b f) = let z = sym e ∙ f in absurd (cc)
behind_statements file (first ∷ rest) ps qs (a_right _ _ _ e h) (a_right _ _ _ f k) = statements_agree file None rest ps qs h k

behind_answer : (file : List ℕ) (answer : Result (List ℕ) ReadFault) (ps qs : List Part) → AfterAnswer file answer ps → AfterAnswer file answer qs → AgreeParts ps qs
behind_answer file (Err why) _ _ (b_unread _) (b_unread _) = same_part _ [] [] no_parts
behind_answer file (Ok text) _ _ (b_faulty _ f i) (b_faulty _ g j) =
    subst (λ (z : ScriptFault). AgreeParts (OneMark (Fault (fault_at file (script_line f) (Script f))) ∷ []) (OneMark (Fault (fault_at file (script_line z) (Script z))) ∷ [])) (two_due text f g i j) (same_part _ [] [] no_parts)
behind_answer file (Ok text) _ qs (b_faulty _ f i) (b_script _ stmts _ s b) = absurd (not_both text stmts f s i)
behind_answer file (Ok text) ps _ (b_script _ stmts _ s b) (b_faulty _ f i) = absurd (not_both text stmts f s i)
behind_answer file (Ok text) ps qs (b_script _ stmts _ s a) (b_script _ other _ t b) =
    behind_statements file stmts ps qs a (subst (λ (z : List Stmt). AfterStatements file z qs) (two_spelled text other stmts t s) b)

both_answering : (file : List ℕ) (ps qs : List Part) → Answering file ps → Answering file qs → AgreeParts ps qs
both_answering file _ _ (by a ps h) (by b qs k) =
    parts_ask (Read file a) (Read file b) ps qs refl
    (λ e. behind_answer file a ps qs h (subst (λ (x : Result (List ℕ) ReadFault). AfterAnswer file x qs) (sym (ap (λ (x : Asked). read_in x a) e)) k))

files_agree : (file : List ℕ) (ps qs : List Part) → HasFileParts file ps → HasFileParts file qs → AgreeParts ps qs
files_agree file ps qs h k = both_answering file ps qs (answering file ps h) (answering file qs k)

unfolds_agree : (files : List (List ℕ)) (ps qs : List Part) (ms ns : List Mark) → AgreeParts ps qs → Unfolds files ps ms → Unfolds files qs ns → Agree ms ns
unfolds_agree files _ _ _ _ no_parts (end _) (end _) = both_end
unfolds_agree files _ _ _ _ (same_part _ ps qs a) (says _ m _ ms u) (says _ _ _ ns v) = same_mark m ms ns (unfolds_agree files ps qs ms ns a u v)
unfolds_agree files _ _ _ _ (same_part _ ps qs a) (refused _ at path c _ ms e u) (refused _ _ _ d _ ns f v) =
    subst (λ (z : SuiteCause). Agree (Fault (site_fault at c) ∷ ms) (Fault (site_fault at z) ∷ ns)) (ap (λ (z : Option SuiteCause). elim z [ None ↦ c | Some cause ↦ cause ]) (sym e ∙ f))
    (same_mark (Fault (site_fault at c)) ms ns (unfolds_agree files ps qs ms ns a u v))
unfolds_agree files _ _ _ _ (same_part _ ps qs a) (refused _ at path c _ ms e u) (entered _ _ _ own inner _ ns f s i v) = let z = sym e ∙ f in absurd (cc)
unfolds_agree files _ _ _ _ (same_part _ ps qs a) (entered _ at path own inner _ ms e s i u) (refused _ _ _ d _ ns f v) = let z = sym e ∙ f in absurd (cc)
unfolds_agree files _ _ _ _ (same_part _ ps qs a) (entered _ at path own inner _ ms e s i u) (entered _ _ _ own' inner' _ ns f t j v) =
    same_mark (File at) (inner ++ ms) (inner' ++ ns) (agree-append inner inner' ms ns (unfolds_agree (files ++ path ∷ []) own own' inner inner' (files_agree path own own' s t) i j) (unfolds_agree files ps qs ms ns a u v))
unfolds_agree files _ _ _ _ (parts_ask q r ps qs s f) (says _ _ _ ms u) (says _ _ _ ns v) = both_ask q r ms ns s (λ e. unfolds_agree files ps qs ms ns (f e) u v)

pub trees_agree : (root : List ℕ) (ms ns : List Mark) → HasTreeMarks root ms → HasTreeMarks root ns → Agree ms ns
trees_agree root ms ns g h = unfolds_agree [] _ _ ms ns (same_part (Includes (record { file = root; line = 0 }) root) [] [] no_parts) g h
