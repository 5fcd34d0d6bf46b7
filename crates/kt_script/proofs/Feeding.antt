-- The tokens that a parser has read after another token.
use Rattle.std.proofs.Common.{◌≡◌, ℕ, List, [], ◌∷◌, ◌++◌, Option, Some, None, refl, ap, sym, ◌∙◌}
use Rattle.kt_script.proofs.Common.{Token, ScriptState, Parser, Stmt, brackets_after, open_bracket_lines, next, option_to_list, position_after, completed_statements, HasRead}
use Rattle.kt_script.proofs.Sound.{transition_of_tokens-push}
use Rattle.std.proofs.lemmas.Option.{same_Some}

open_bracket_lines-push : (lines : List ℕ) (ts : List Token) (t : Token) → open_bracket_lines lines (ts ++ t ∷ []) ≡ brackets_after (open_bracket_lines lines ts) t.line t.kind
open_bracket_lines-push lines [] t = refl
open_bracket_lines-push lines (s ∷ ts) t = open_bracket_lines-push (brackets_after lines s.line s.kind) ts t

reads_on : (old new : Parser) (place after : ScriptState) (read : List Token) (t : Token) (to : ScriptState × Option Stmt) → HasRead place old read → next place t ≡ Some to
    → to.0 ≡ after → new.statements ≡ old.statements ++ option_to_list to.1 → new.brackets.items ≡ brackets_after old.brackets.items t.line t.kind → HasRead after new (read ++ t ∷ [])
reads_on old new place after read t to h step leads statements brackets = record {
  runs = rw (← leads, statements) (transition_of_tokens-push read t place old.statements to h.runs step);
  brackets = brackets ∙ ap (λ (lines : List ℕ). brackets_after lines t.line t.kind) h.brackets ∙ sym (open_bracket_lines-push [] read t);
}

pub fed : (old new : Parser) (place after : ScriptState) (t : Token) (o : Option (ScriptState × Option Stmt)) → next place t ≡ o → Some after ≡ position_after o → new.statements ≡ old.statements ++ completed_statements o
    → new.brackets.items ≡ brackets_after old.brackets.items t.line t.kind → (read : List Token) → HasRead place old read → HasRead after new (read ++ t ∷ [])
fed old new place after t None step leads statements brackets read h = absurd cc
fed old new place after t (Some to) step leads statements brackets read h = reads_on old new place after read t to h step (sym (same_Some after to.0 leads)) statements brackets

pub unfit : (o : Option (ScriptState × Option Stmt)) → None ≡ position_after o → o ≡ None
unfit None e = refl
unfit (Some to) e = absurd cc
