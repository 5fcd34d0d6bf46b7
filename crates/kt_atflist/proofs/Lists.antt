-- Reading line by line gives the cases of a text, or its first fault.
use Rattle.std.proofs.Common.{Ok, Err, bytes_eq, ◌≡◌, ◌⊎◌, ℕ, ◌+◌, Bool, true, false, List, [], ◌∷◌, Option, Some, None, refl, ap, sym, subst, ◌∙◌, inl, inr}
use Rattle.kt_atflist.proofs.Common.{find, IsUtf8, is_utf8, false≢true, IsUtf8-from_is_utf8, is_utf8-from_IsUtf8, lines, header, ParseResult, fault_at, IsNextState, begins, gives, ends, IsBlockSequence, no_block, last_block, line, is_first_line_cause, is_later_line_cause, first_line_causes, later_line_causes, IsFaultyLine, first, further, HasFirstFault, here, later, IsList, list, IsFault, no_first, other_first, no_second, other_second, no_third, in_blocks, IsResult, IsOutOfMemory, IsResultOrOutOfMemory, is_empty, line_ident, line_key, line_value, result_after_step, cases_with_block, step_from, read_rest, initial_state, read_blocks, read_from_line_2, read_lines, read_list, BadHeader, ListFault, CaseDef, ReaderState, ListStep, NextState, FaultyLine}
use Rattle.kt_atflist.specs.declared.list_fault.ListCause.{ListCause}
use Rattle.kt_atflist.proofs.LineCases.{Led, led_by, step_goes}
use Rattle.kt_atflist.proofs.Utf8.{read_utf8, read_other}

-- ---- the code's result is the specified result

-- `Reads n r ls o`: `o` is the specified result of the lines `ls`, whose first has the number `n`,
-- if `r` is the reader's state before them.
abbrev Reads : ℕ → ReaderState → List (List ℕ) → ParseResult → Type 0
Reads n r ls (Ok all) = IsBlockSequence r.cases r.block ls all
Reads n r ls (Err fault) = HasFirstFault n r.cases r.block ls fault

ended : (n : ℕ) (r : ReaderState) (block : Option CaseDef) → IsBlockSequence r.cases block [] (cases_with_block r.cases block)
ended n r None = no_block r.cases
ended n r (Some block) = last_block r.cases block

went_on : (n : ℕ) (r next : ReaderState) (one : List ℕ) (rest : List (List ℕ)) (o : ParseResult) → IsNextState r.cases one r.block next → Reads (n + 1) next rest o → Reads n r (one ∷ rest) o
went_on n r next one rest (Ok all) g h = line r.cases r.block one rest next all g h
went_on n r next one rest (Err fault) g h = later n r.cases r.block one rest next fault g h

one_read : (n : ℕ) (r : ReaderState) (one : List ℕ) (rest : List (List ℕ)) (s : ListStep) → Led r.cases one r.block s
    → ((next : ReaderState) → Reads (n + 1) next rest (read_rest (n + 1) next rest)) → Reads n r (one ∷ rest) (result_after_step n s (λ next. read_rest (n + 1) next rest))
one_read n r one rest (FaultyLine cause) h more = here n r.cases r.block one rest cause h
one_read n r one rest (NextState next) h more = went_on n r next one rest (read_rest (n + 1) next rest) h (more next)

reads : (n : ℕ) (r : ReaderState) (ls : List (List ℕ)) → Reads n r ls (read_rest n r ls)
reads n r [] = ended n r r.block
reads n r (one ∷ rest) = one_read n r one rest (step_from r.cases r.block one) (led_by r.cases r.block one) (λ next. reads (n + 1) next rest)

-- `Gives ls o`: `o` is the specified result of all lines `ls`.
abbrev Gives : List (List ℕ) → ParseResult → Type 0
Gives ls (Ok cases) = IsList ls cases
Gives ls (Err fault) = IsFault ls fault

blocks_give : (one two three : List ℕ) (rest : List (List ℕ)) (o : ParseResult) → bytes_eq one header ≡ true → is_empty two ≡ true → Reads 3 initial_state (three ∷ rest) o → Gives (one ∷ two ∷ three ∷ rest) o
blocks_give one two three rest (Ok cases) e f h = list one two three rest cases e f h
blocks_give one two three rest (Err fault) e f h = in_blocks one two three rest fault e f h

third_gives : (one two : List ℕ) (rest : List (List ℕ)) → bytes_eq one header ≡ true → is_empty two ≡ true → Gives (one ∷ two ∷ rest) (read_blocks rest)
third_gives one two [] e f = no_third one two e f
third_gives one two (three ∷ rest) e f = blocks_give one two three rest (read_rest 3 initial_state (three ∷ rest)) e f (reads 3 initial_state (three ∷ rest))

second_at : (one two : List ℕ) (rest : List (List ℕ)) (t : Bool) → bytes_eq one header ≡ true → is_empty two ≡ t → Gives (one ∷ two ∷ rest) (read_from_line_2 (two ∷ rest))
second_at one two rest true e f =
    let s : read_from_line_2 (two ∷ rest) ≡ read_blocks rest = rw f refl in
    subst (Gives (one ∷ two ∷ rest)) (sym s) (third_gives one two rest e f)
second_at one two rest false e f =
    let s : read_from_line_2 (two ∷ rest) ≡ Err (fault_at BadHeader 2) = rw f refl in
    subst (Gives (one ∷ two ∷ rest)) (sym s) (other_second one two rest e f)

second_gives : (one : List ℕ) (rest : List (List ℕ)) → bytes_eq one header ≡ true → Gives (one ∷ rest) (read_from_line_2 rest)
second_gives one [] e = no_second one e
second_gives one (two ∷ rest) e = second_at one two rest (is_empty two) e refl

first_at : (one : List ℕ) (rest : List (List ℕ)) (t : Bool) → bytes_eq one header ≡ t → Gives (one ∷ rest) (read_lines (one ∷ rest))
first_at one rest true e =
    let s : read_lines (one ∷ rest) ≡ read_from_line_2 rest = rw e refl in
    subst (Gives (one ∷ rest)) (sym s) (second_gives one rest e)
first_at one rest false e =
    let s : read_lines (one ∷ rest) ≡ Err (fault_at BadHeader 1) = rw e refl in
    subst (Gives (one ∷ rest)) (sym s) (other_first one rest e)

lines_give : (ls : List (List ℕ)) → Gives ls (read_lines ls)
lines_give [] = no_first
lines_give (one ∷ rest) = first_at one rest (bytes_eq one header) refl

utf8_answer : (text : List ℕ) (o : ParseResult) → IsUtf8 text → Gives (lines text) o → IsResult text o
utf8_answer text (Ok cases) u h = (u, h)
utf8_answer text (Err fault) u h = inr (u, h)

answers_at : (text : List ℕ) (t : Bool) → is_utf8 text ≡ t → IsResult text (read_list text)
answers_at text true e =
    let u = IsUtf8-from_is_utf8 text e in
    subst (IsResult text) (sym (read_utf8 text u)) (utf8_answer text (read_lines (lines text)) u (lines_give (lines text)))
answers_at text false e =
    let u : IsUtf8 text → ⊥ = λ v. false≢true (sym e ∙ is_utf8-from_IsUtf8 text v) in
    subst (IsResult text) (sym (read_other text u)) (inl (u, refl))

pub answers : (text : List ℕ) → IsResult text (read_list text)
answers text = answers_at text (is_utf8 text) refl

-- ---- the specified result is unique

cause_in : Option ListCause → ListCause → ListCause
cause_in None d = d
cause_in (Some cause) d = cause

one_cause : (o : Option ListCause) (c d : ListCause) → o ≡ Some c → o ≡ Some d → c ≡ d
unfolding cause_in
one_cause o c d e f = ap (λ (x : Option ListCause). cause_in x c) (sym e ∙ f)

no_cause : (o : Option ListCause) (c : ListCause) → o ≡ None → o ≡ Some c → ⊥
no_cause o c e f = let g = sym e ∙ f in absurd (cc)

fails_once : (cases : List CaseDef) (block : Option CaseDef) (one : List ℕ) (c d : ListCause) → IsFaultyLine cases one block c → IsFaultyLine cases one block d → c ≡ d
fails_once cases None one c d (first _ e) (first _ f) = one_cause (find (is_first_line_cause cases (line_ident one)) first_line_causes) c d e f
fails_once cases (Some block) one c d (further _ _ _ e) (further _ _ _ f) = one_cause (find (is_later_line_cause block (line_key one) (line_value one)) later_line_causes) c d e f

goes_or_fails : (cases : List CaseDef) (block : Option CaseDef) (one : List ℕ) (next : ReaderState) (c : ListCause) → IsNextState cases one block next → IsFaultyLine cases one block c → ⊥
goes_or_fails cases None one next c (begins name e f g) (first _ h) =
    let q : find (is_first_line_cause cases (line_ident one)) first_line_causes ≡ None = ap (λ (o : Option (List ℕ)). find (is_first_line_cause cases o) first_line_causes) e ∙ rw (f, g) refl in
    no_cause (find (is_first_line_cause cases (line_ident one)) first_line_causes) c q h
goes_or_fails cases (Some block) one next c (gives _ value property e v k w p g h) (further _ _ _ i) =
    let q : find (is_later_line_cause block (line_key one) (line_value one)) later_line_causes ≡ None = rw (v, k, w, p, g, h) refl in
    no_cause (find (is_later_line_cause block (line_key one) (line_value one)) later_line_causes) c q i
goes_or_fails cases (Some block) one next c (ends _ e) (further _ _ f _) = false≢true (sym f ∙ e)

fails_at : (cases : List CaseDef) (block : Option CaseDef) (one : List ℕ) (c : ListCause) (s : ListStep) → Led cases one block s → IsFaultyLine cases one block c → s ≡ FaultyLine c
fails_at cases block one c (FaultyLine d) h f = ap (λ (x : ListCause). FaultyLine x) (fails_once cases block one d c h f)
fails_at cases block one c (NextState next) h f = absurd (goes_or_fails cases block one next c h f)

step_fails : (cases : List CaseDef) (block : Option CaseDef) (one : List ℕ) (c : ListCause) → IsFaultyLine cases one block c → step_from cases block one ≡ FaultyLine c
step_fails cases block one c f = fails_at cases block one c (step_from cases block one) (led_by cases block one) f

spelled_reads : (n : ℕ) (cases : List CaseDef) (block : Option CaseDef) (ls : List (List ℕ)) (all : List CaseDef) → IsBlockSequence cases block ls all
    → read_rest n (record { cases = cases; block = block }) ls ≡ Ok all
spelled_reads n cases None [] all (no_block _) = refl
spelled_reads n cases (Some block) [] all (last_block _ _) = refl
spelled_reads n cases block (one ∷ rest) all (line _ _ _ _ next _ g h) =
    ap (λ (s : ListStep). result_after_step n s (λ m. read_rest (n + 1) m rest)) (step_goes cases block one next g) ∙ spelled_reads (n + 1) next.cases next.block rest all h

faulty_reads : (n : ℕ) (cases : List CaseDef) (block : Option CaseDef) (ls : List (List ℕ)) (fault : ListFault) → HasFirstFault n cases block ls fault
    → read_rest n (record { cases = cases; block = block }) ls ≡ Err fault
faulty_reads n cases block [] fault x' = elim x' [ ]
faulty_reads n cases block (one ∷ rest) fault (here _ _ _ _ _ cause f) =
    ap (λ (s : ListStep). result_after_step n s (λ m. read_rest (n + 1) m rest)) (step_fails cases block one cause f)
faulty_reads n cases block (one ∷ rest) fault (later _ _ _ _ _ next _ g h) =
    ap (λ (s : ListStep). result_after_step n s (λ m. read_rest (n + 1) m rest)) (step_goes cases block one next g) ∙ faulty_reads (n + 1) next.cases next.block rest fault h

list_reads : (ls : List (List ℕ)) (cases : List CaseDef) → IsList ls cases → read_lines ls ≡ Ok cases
list_reads ls cases (list one two three rest _ e f h) =
    let s : read_lines (one ∷ two ∷ three ∷ rest) ≡ read_rest 3 initial_state (three ∷ rest) = rw (e, f) refl in
    s ∙ spelled_reads 3 [] None (three ∷ rest) cases h

fault_reads : (ls : List (List ℕ)) (fault : ListFault) → IsFault ls fault → read_lines ls ≡ Err fault
fault_reads ls fault no_first = refl
fault_reads ls fault (other_first one rest e) = rw e refl
fault_reads ls fault (no_second one e) = rw e refl
fault_reads ls fault (other_second one two rest e f) = rw (e, f) refl
fault_reads ls fault (no_third one two e f) = rw (e, f) refl
fault_reads ls fault (in_blocks one two three rest _ e f h) =
    let s : read_lines (one ∷ two ∷ three ∷ rest) ≡ read_rest 3 initial_state (three ∷ rest) = rw (e, f) refl in
    s ∙ faulty_reads 3 [] None (three ∷ rest) fault h

pub only_answer : (text : List ℕ) (answer : ParseResult) → IsResult text answer → read_list text ≡ answer
only_answer text (Ok cases) h = read_utf8 text h.0 ∙ list_reads (lines text) cases h.1
only_answer text (Err fault) (inl h) = read_other text h.0 ∙ ap (λ (f : ListFault). Err f) (sym h.1)
only_answer text (Err fault) (inr h) = read_utf8 text h.0 ∙ fault_reads (lines text) fault h.1

-- A text has at most one result.
pub one_answer : (text : List ℕ) (a b : ParseResult) → IsResult text a → IsResult text b → a ≡ b
one_answer text a b p q = sym (only_answer text a p) ∙ only_answer text b q

pub answered : (text : List ℕ) (result : ParseResult) → result ≡ read_list text → IsResult text result
answered text result e = subst (IsResult text) (sym e) (answers text)

-- The result that `read_lines` specifies for the lines of a text is a result of the text.
pub lines_answered : (text : List ℕ) (result : ParseResult) → IsUtf8 text → IsResultOrOutOfMemory result (read_lines (lines text)) → IsOutOfMemory result ⊎ IsResult text result
lines_answered text result u (inl memory) = inl memory
lines_answered text result u (inr e) = inr (answered text result (e ∙ sym (read_utf8 text u)))

pub lines_only : (text : List ℕ) (result : ParseResult) → IsUtf8 text → IsResultOrOutOfMemory result (read_lines (lines text)) → (answer : ParseResult) → IsResult text answer → IsResultOrOutOfMemory result answer
lines_only text result u (inl memory) answer h = inl memory
lines_only text result u (inr e) answer h = inr (e ∙ sym (read_utf8 text u) ∙ only_answer text answer h)
