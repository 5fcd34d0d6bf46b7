-- The values of a file, or its only fault.
use Rattle.std.proofs.Common.{Result, Ok, Err, IfOk, ◌≡◌, ℕ, List, [], ◌∷◌, ◌++◌, refl, sym, ap, ◌∙◌, subst, inl, inr, append-nil, append_assoc}
use Rattle.kt_config.proofs.Common.{ScriptFault, Stmt, Spells, Definition, Values, HasValuesSetBy, Adds, AddsDefinition, DefinitionsOrFault, with_prepended_definition, combined_definitions, definition_in, definitions_in, definitions_of_file, HasFault, IsConfigFile, IfFault, SucceedsWith, FailsWith, IsResultOfDefinitions, fault_of_script}
use Rattle.kt_script.specs.Spelling.{HasFault as HasScriptFault, ReturnsStatements as ScriptAnswers, ReturnsFault as ScriptRefuses}
use Rattle.kt_config.specs.declared.fault.ConfigFault.{ConfigFault}
use Rattle.kt_config.specs.declared.fault.ConfigFault.TheVariants.{NoMemory, UnknownVariable, BadValue, Script, NoSyntax, NotAssignment}
use Rattle.kt_config.specs.Names.{DefinitionResult}
use Rattle.kt_script.specs.declared.fault.ScriptFault.TheVariants as script
use Rattle.kt_script.proofs.OneAnswer.{two_spelled, not_both}

-- ---- statement by statement

-- `behind before outcome`: `outcome` with the definitions `before` prepended
abbrev pub behind : List Definition → DefinitionsOrFault → DefinitionsOrFault
behind before (Ok definitions) = Ok (before ++ definitions)
behind before (Err fault) = Err fault

-- `HasRead config stmts rest`: `config` has the values that the statements of `stmts` before its
-- suffix `rest` set
pub record HasRead (config : Values) (stmts rest : List Stmt) : Type 0 where
  pub before : List Definition
  pub holds : HasValuesSetBy config before
  pub all : definitions_in stmts ≡ behind before (definitions_in rest)

none_behind : (o : DefinitionsOrFault) → o ≡ behind [] o
none_behind (Ok definitions) = refl
none_behind (Err fault) = refl

pub nothing_read : (config : Values) (stmts : List Stmt) → HasValuesSetBy config [] → HasRead config stmts stmts
nothing_read config stmts h = record { before = []; holds = h; all = none_behind (definitions_in stmts) }

first_behind : (before : List Definition) (d : Definition) (o : DefinitionsOrFault) → behind before (with_prepended_definition d o) ≡ behind (before ++ d ∷ []) o
first_behind before d (Ok ds) = ap (λ (xs : List Definition). Ok xs) (sym (append_assoc before (d ∷ []) ds))
first_behind before d (Err fault) = refl

one_read : (config next : Values) (stmts rest after : List Stmt) (stmt : Stmt) (d : Definition) → HasRead config stmts rest → rest ≡ stmt ∷ after
    → Ok d ≡ definition_in stmt.action → Adds d config next → HasRead next stmts after
one_read config next stmts rest after stmt d r parts m adds = record {
  before = r.before ++ d ∷ [];
  holds = adds r.before r.holds;
  all = r.all ∙ ap (λ (ss : List Stmt). behind r.before (definitions_in ss)) parts
      ∙ ap (λ (meaning : DefinitionResult). behind r.before (combined_definitions meaning (definitions_in after))) (sym m)
      ∙ first_behind r.before d (definitions_in after);
}

next_by : (config next : Values) (stmts rest after : List Stmt) (stmt : Stmt) (m : DefinitionResult) → HasRead config stmts rest → rest ≡ stmt ∷ after
    → m ≡ definition_in stmt.action → AddsDefinition config next m → HasRead next stmts after
next_by config next stmts rest after stmt (Ok d) r parts m adds = one_read config next stmts rest after stmt d r parts m adds
next_by config next stmts rest after stmt (Err fault) r parts m adds = absurd adds

-- `HasRead` is preserved by adding the definition of the next statement
pub next_read : (config next : Values) (stmts rest after : List Stmt) (stmt : Stmt) → HasRead config stmts rest → rest ≡ stmt ∷ after
    → AddsDefinition config next (definition_in stmt.action) → HasRead next stmts after
next_read config next stmts rest after stmt r parts adds = next_by config next stmts rest after stmt (definition_in stmt.action) r parts refl adds

-- the fault of the next statement is the fault of all statements
pub fault_read : (config : Values) (stmts rest after : List Stmt) (stmt : Stmt) (fault : ConfigFault) → HasRead config stmts rest → rest ≡ stmt ∷ after
    → definition_in stmt.action ≡ Err fault → IsResultOfDefinitions (Err fault) (definitions_in stmts)
fault_read config stmts rest after stmt fault r parts m =
    let e : definitions_in stmts ≡ Err fault
    = r.all ∙ ap (λ (ss : List Stmt). behind r.before (definitions_in ss)) parts
    ∙ ap (λ (meaning : DefinitionResult). behind r.before (combined_definitions meaning (definitions_in after))) m in
    subst (λ (o : DefinitionsOrFault). IsResultOfDefinitions (Err fault) o) (sym e) refl

-- if no statement remains, the configuration has the values that all statements set
pub all_read : (config : Values) (stmts rest : List Stmt) → HasRead config stmts rest → rest ≡ [] → IsResultOfDefinitions (Ok config) (definitions_in stmts)
all_read config stmts rest r end =
    let e : definitions_in stmts ≡ Ok r.before
    = r.all ∙ ap (λ (ss : List Stmt). behind r.before (definitions_in ss)) end ∙ ap (λ (xs : List Definition). Ok xs) (append-nil r.before) in
    subst (λ (o : DefinitionsOrFault). IsResultOfDefinitions (Ok config) o) (sym e) r.holds

-- ---- faults by their kinds

fault_in : (fault : ConfigFault) (P : ConfigFault → Type 0) → P fault → IfFault {T = Values} (Err fault) P
fault_in (NoMemory refusal) P p = tt
fault_in UnknownVariable P p = p
fault_in BadValue P p = p
fault_in (Script cause) P p = p
fault_in NoSyntax P p = p
fault_in NotAssignment P p = p

refuses_same : (found fault : ConfigFault) → found ≡ fault → FailsWith {T = Values} (Err found) fault
refuses_same (NoMemory refusal) fault e = tt
refuses_same UnknownVariable fault e = e
refuses_same BadValue fault e = e
refuses_same (Script cause) fault e = e
refuses_same NoSyntax fault e = e
refuses_same NotAssignment fault e = e

-- ---- a file that is a script

same_err : {a b : ConfigFault} → a ≡ b → ◌≡◌ {A = DefinitionsOrFault} (Err a) (Err b)
same_err e = ap (λ (x : ConfigFault). Err x) e

-- `definitions_or outcome d`: the definitions in `outcome`, or the definitions `d` if `outcome` is
-- a fault
abbrev definitions_or : DefinitionsOrFault → List Definition → List Definition
definitions_or (Ok ds) d = ds
definitions_or (Err fault) d = d

-- `fault_or outcome d`: the fault in `outcome`, or the fault `d` if `outcome` has definitions
abbrev fault_or : DefinitionsOrFault → ConfigFault → ConfigFault
fault_or (Ok ds) d = d
fault_or (Err fault) d = fault

ok_cases : (text : List ℕ) (stmts : List Stmt) (r : Result Values ConfigFault) (o : DefinitionsOrFault) → Spells text stmts → definitions_of_file stmts ≡ o → IsResultOfDefinitions r o → IfOk r (λ config. IsConfigFile text config)
ok_cases text stmts (Ok config) (Ok ds) s e g = (stmts, ds, s, e, g)
ok_cases text stmts (Ok config) (Err fault) s e g = absurd g
ok_cases text stmts (Err found) o s e g = tt

only_cases : (r : Result Values ConfigFault) (o : DefinitionsOrFault) (ds : List Definition) → IsResultOfDefinitions r o → o ≡ Ok ds → SucceedsWith r ds
only_cases (Ok config) (Ok found) ds g e = subst (λ (xs : List Definition). HasValuesSetBy config xs) (ap (λ (x : DefinitionsOrFault). definitions_or x found) e) g
only_cases (Ok config) (Err fault) ds g e = absurd g
only_cases (Err found) (Ok other) ds g e = absurd g
only_cases (Err found) (Err fault) ds g e = absurd (cc)

fault_cases : (text : List ℕ) (stmts : List Stmt) (r : Result Values ConfigFault) (o : DefinitionsOrFault) → Spells text stmts → definitions_of_file stmts ≡ o → IsResultOfDefinitions r o → IfFault r (λ fault. HasFault text fault)
fault_cases text stmts (Ok config) o s e g = tt
fault_cases text stmts (Err found) (Ok ds) s e g = absurd g
fault_cases text stmts (Err found) (Err fault) s e g =
    fault_in found (λ x. HasFault text x) (inr (stmts, s, e ∙ same_err (sym g)))

due_cases : (r : Result Values ConfigFault) (o : DefinitionsOrFault) (fault : ConfigFault) → IsResultOfDefinitions r o → o ≡ Err fault → FailsWith r fault
due_cases (Ok config) (Ok ds) fault g e = absurd (cc)
due_cases (Ok config) (Err other) fault g e = absurd g
due_cases (Err found) (Ok ds) fault g e = absurd g
due_cases (Err found) (Err other) fault g e = refuses_same found fault (g ∙ ap (λ (x : DefinitionsOrFault). fault_or x other) e)

pub right_ok : (text : List ℕ) (stmts : List Stmt) → Spells text stmts → (r : Result Values ConfigFault) → IsResultOfDefinitions r (definitions_of_file stmts) → IfOk r (λ config. IsConfigFile text config)
right_ok text stmts s r g = ok_cases text stmts r (definitions_of_file stmts) s refl g

pub right_only : (text : List ℕ) (stmts : List Stmt) → Spells text stmts → (r : Result Values ConfigFault) → IsResultOfDefinitions r (definitions_of_file stmts)
    → (others : List Stmt) → (ds : List Definition) → Spells text others → definitions_of_file others ≡ Ok ds → SucceedsWith r ds
right_only text stmts s r g = λ others ds t o. only_cases r (definitions_of_file stmts) ds g (ap definitions_of_file (two_spelled text stmts others s t) ∙ o)

pub right_fault : (text : List ℕ) (stmts : List Stmt) → Spells text stmts → (r : Result Values ConfigFault) → IsResultOfDefinitions r (definitions_of_file stmts) → IfFault r (λ fault. HasFault text fault)
right_fault text stmts s r g = fault_cases text stmts r (definitions_of_file stmts) s refl g

pub right_due : (text : List ℕ) (stmts : List Stmt) → Spells text stmts → (r : Result Values ConfigFault) → IsResultOfDefinitions r (definitions_of_file stmts) → (fault : ConfigFault) → HasFault text fault → FailsWith r fault
right_due text stmts s r g fault (inl d) = absurd (not_both text stmts d.0 s d.1)
right_due text stmts s r g fault (inr d) = due_cases r (definitions_of_file stmts) fault g (ap definitions_of_file (two_spelled text stmts d.0 s d.1) ∙ d.2)

-- ---- a file that is not a script

by_cause : (text : List ℕ) (cause : ScriptFault) (fault : ConfigFault) → ((f : ScriptFault) → HasScriptFault text f → cause ≡ f) → ((stmts : List Stmt) → Spells text stmts → ⊥) → HasFault text fault → Script cause ≡ fault
by_cause text cause fault due none (inl d) = ap Script (due d.0 d.1) ∙ sym d.2
by_cause text cause fault due none (inr d) = absurd (none d.0 d.1)

due_in : (text : List ℕ) (cause : ScriptFault) (fault : ConfigFault) → ((f : ScriptFault) → HasScriptFault text f → ScriptRefuses (Err cause) f)
    → ((stmts : List Stmt) → Spells text stmts → ScriptAnswers (Err cause) stmts) → HasFault text fault → FailsWith {T = Values} (Err (fault_of_script cause)) fault
due_in text (script.NoMemory refusal) fault due none d = tt
due_in text script.NotUtf8 fault due none d = by_cause text script.NotUtf8 fault due none d
due_in text (script.BadToken line) fault due none d = by_cause text (script.BadToken line) fault due none d
due_in text (script.NotLiteral line) fault due none d = by_cause text (script.NotLiteral line) fault due none d
due_in text (script.Unclosed line) fault due none d = by_cause text (script.Unclosed line) fault due none d
due_in text script.TooLong fault due none d = by_cause text script.TooLong fault due none d

pub script_due : (text : List ℕ) (cause : ScriptFault) (found : ConfigFault) → found ≡ fault_of_script cause → ((f : ScriptFault) → HasScriptFault text f → ScriptRefuses (Err cause) f)
    → ((stmts : List Stmt) → Spells text stmts → ScriptAnswers (Err cause) stmts) → (fault : ConfigFault) → HasFault text fault → FailsWith {T = Values} (Err found) fault
script_due text cause found e due none fault d = subst (λ (x : ConfigFault). FailsWith {T = Values} (Err x) fault) (sym e) (due_in text cause fault due none d)

only_in : (cause : ScriptFault) (stmts : List Stmt) (ds : List Definition) → ScriptAnswers (Err cause) stmts → SucceedsWith (Err (fault_of_script cause)) ds
only_in (script.NoMemory refusal) stmts ds a = tt
only_in script.NotUtf8 stmts ds a = absurd a
only_in (script.BadToken line) stmts ds a = absurd a
only_in (script.NotLiteral line) stmts ds a = absurd a
only_in (script.Unclosed line) stmts ds a = absurd a
only_in script.TooLong stmts ds a = absurd a

pub script_only : (text : List ℕ) (cause : ScriptFault) (found : ConfigFault) → found ≡ fault_of_script cause
    → ((stmts : List Stmt) → Spells text stmts → ScriptAnswers (Err cause) stmts)
    → (stmts : List Stmt) (ds : List Definition) → Spells text stmts → definitions_of_file stmts ≡ Ok ds → SucceedsWith (Err found) ds
script_only text cause found e none = λ stmts ds s o. subst (λ (f : ConfigFault). SucceedsWith (Err f) ds) (sym e) (only_in cause stmts ds (none stmts s))
