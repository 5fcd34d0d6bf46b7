-- From the result for the tokens to the result for the text.
use Rattle.std.proofs.Common.{◌≡◌, ℕ, ◌≤◌, List, length, Result, Ok, Err, sym, subst, inr, IfOk, IsUtf8}
use Rattle.kt_script.proofs.Common.{ScriptFault, NoMemory, Stmt, Token, Script, IfFault, IsFaultOf, tokens, script_length_limit, Spells, HasFault, ReturnsStatements}
use Rattle.kt_script.proofs.Sound.{one_script}
use Rattle.kt_script.proofs.OneReading.{one_reading}
use Rattle.kt_script.proofs.SomeReading.{some_reading}

script_of : (stmts : List Stmt) (text : List ℕ) → Spells text stmts → Script (tokens 1 0 text) stmts
script_of stmts text s = subst (λ (ts : List Token). Script ts stmts) (one_reading 1 text s.tokens s.read) s.script

pub spelled : (r : Result (List Stmt) ScriptFault) (text cs : List ℕ) → length text ≤ script_length_limit → IsUtf8 text → cs ≡ text
    → IfOk r (λ stmts. Script (tokens 1 0 cs) stmts) → IfOk r (λ stmts. Spells text stmts)
spelled (Ok stmts) text cs short utf8 is script =
    record { short = short; utf8 = utf8; tokens = tokens 1 0 text; read = some_reading 1 text; script = subst (λ (xs : List ℕ). Script (tokens 1 0 xs) stmts) is script }
spelled (Err f) text cs short utf8 is script = tt

answers_ok : (stmts others : List Stmt) (text cs : List ℕ) → cs ≡ text → Script (tokens 1 0 cs) stmts → Spells text others → stmts ≡ others
answers_ok stmts others text cs is script s = one_script (tokens 1 0 text) stmts others (subst (λ (xs : List ℕ). Script (tokens 1 0 xs) stmts) is script) (script_of others text s)

never : (f : ScriptFault) (others : List Stmt) (text cs : List ℕ) → cs ≡ text → IsFaultOf (tokens 1 0 cs) f → Spells text others → ⊥
never f others text cs is fault s = fault.no_script others (subst (λ (xs : List ℕ). Script (tokens 1 0 xs) others) (sym is) (script_of others text s))

pub only_answer : (r : Result (List Stmt) ScriptFault) (text cs : List ℕ) → cs ≡ text → IfOk r (λ stmts. Script (tokens 1 0 cs) stmts)
    → IfFault r (λ f. IsFaultOf (tokens 1 0 cs) f) → (others : List Stmt) → Spells text others → ReturnsStatements r others
only_answer (Ok stmts) text cs is script fault others s = answers_ok stmts others text cs is script s
only_answer (Err (NoMemory refusal)) text cs is script fault others s = tt
only_answer (Err f) text cs is script fault others s = never f others text cs is fault s

for_tokens : (f : ScriptFault) (text cs : List ℕ) → length text ≤ script_length_limit → IsUtf8 text → cs ≡ text → IsFaultOf (tokens 1 0 cs) f → HasFault text f
for_tokens f text cs short utf8 is fault = inr (inr (short, utf8, tokens 1 0 text, some_reading 1 text, subst (λ (xs : List ℕ). IsFaultOf (tokens 1 0 xs) f) is fault))

pub refused : (r : Result (List Stmt) ScriptFault) (text cs : List ℕ) → length text ≤ script_length_limit → IsUtf8 text → cs ≡ text
    → IfFault r (λ f. IsFaultOf (tokens 1 0 cs) f) → IfFault r (λ f. HasFault text f)
refused (Ok stmts) text cs short utf8 is fault = tt
refused (Err (NoMemory refusal)) text cs short utf8 is fault = tt
refused (Err f) text cs short utf8 is fault = for_tokens f text cs short utf8 is fault
