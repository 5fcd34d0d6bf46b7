-- The concatenated parts of a reason's text.
use Rattle.std.proofs.Common.{◌≡◌, ◌≢◌, ℕ, Bool, true, List, [], ◌++◌, refl, sym, ◌∙◌, append_assoc, codes, append-nil}
use Rattle.kt_base.proofs.Common.{decimal, chars, chars-nil, encodes-append, Phrase, OtherExitCode, OtherSignal, TestsFailed, MemoryNeeded, DiskNeeded, phrase_text, utf8}
use Rattle.kt_base.specs.declared.child.Outcome.{Outcome}
use Rattle.kt_base.specs.declared.child.Outcome.TheVariants.{Exited, Signaled}
use Rattle.kt_base.specs.Reasons.{core_dump_text, outcome_text, counted_text}
use Rattle.kt_base.proofs.PhraseWords.{chars-phrase}

pub words_text : (head : List ℕ) → chars head ++ (chars [] ++ ([] ++ (chars [] ++ ([] ++ chars [])))) ≡ chars head
words_text head = rw chars-nil (append-nil (chars head))

pub one_number_text : (head lead first tail : List ℕ) → head ++ (lead ++ (first ++ (chars [] ++ ([] ++ tail)))) ≡ head ++ (lead ++ (first ++ tail))
one_number_text head lead first tail = rw chars-nil refl

pub two_numbers_text : (head first between second tail : List ℕ) → head ++ (chars [] ++ (first ++ (between ++ (second ++ tail)))) ≡ head ++ (first ++ (between ++ (second ++ tail)))
two_numbers_text head first between second tail = rw chars-nil refl

-- a text that consists of a phrase's message alone is the text of the phrase
pub phrase_alone : (text head : List ℕ) (phrase : Phrase) → text ≡ chars head → head ≡ phrase_text phrase → text ≡ phrase_text phrase
phrase_alone text head phrase e h = rw (e, h) (chars-phrase phrase)

-- the text of a phrase with an exit status or a signal is the concatenation of its parts
pub exited_text : (text head : List ℕ) (phrase : Phrase) (ending : Outcome) (code : ℕ) → text ≡ chars head ++ (chars (codes "exited with code ") ++ (decimal code ++ chars []))
    → head ≡ phrase_text phrase → ending ≡ Exited code → text ≡ phrase_text phrase ++ outcome_text ending
unfolding chars
exited_text text head phrase ending code e h is = rw (e, h, is, chars-phrase phrase, append-nil (decimal code)) refl

pub signaled_text : (text head words : List ℕ) (phrase : Phrase) (ending : Outcome) (signal : ℕ) (core : Bool) → text ≡ chars head ++ (chars (codes "received signal ") ++ (decimal signal ++ chars words))
    → head ≡ phrase_text phrase → chars words ≡ core_dump_text core → ending ≡ Signaled signal core → text ≡ phrase_text phrase ++ outcome_text ending
unfolding chars
signaled_text text head words phrase ending signal core e h w is = rw (e, h, is, w, chars-phrase phrase) refl

pub dumped_words : chars (codes " (core dumped)") ≡ core_dump_text true
unfolding chars
dumped_words = refl

pub unended_text : (text head : List ℕ) (phrase : Phrase) (ending : Outcome) → text ≡ chars head → head ≡ phrase_text phrase
    → ((code : ℕ) → ending ≢ Exited code) → ((signal : ℕ) (core : Bool) → ending ≢ Signaled signal core) → text ≡ phrase_text phrase ++ outcome_text ending
unended_text text head phrase (Exited code) e h n m = absurd (n code refl)
unended_text text head phrase (Signaled signal core) e h n m = absurd (m signal core refl)
unended_text text head phrase ending e h n m = phrase_alone text head phrase e h ∙ sym (append-nil (phrase_text phrase))

-- the text of a phrase with its numbers is the concatenation of its parts
pub exit_codes_text : (text : List ℕ) (phrase : Phrase) (m n : ℕ) → text ≡ chars (codes "Expected exit code ") ++ (decimal m ++ (chars (codes " but got ") ++ (decimal n ++ chars []))) → phrase ≡ OtherExitCode → text ≡ counted_text phrase m n
unfolding chars
exit_codes_text text phrase m n e is = rw (e, is) (simp (append_assoc, append-nil))

pub signals_text : (text : List ℕ) (phrase : Phrase) (m n : ℕ) → text ≡ chars (codes "Expected signal ") ++ (decimal m ++ (chars (codes " but got ") ++ (decimal n ++ chars []))) → phrase ≡ OtherSignal → text ≡ counted_text phrase m n
unfolding chars
signals_text text phrase m n e is = rw (e, is) (simp (append_assoc, append-nil))

pub tests_failed_text : (text : List ℕ) (phrase : Phrase) (m n : ℕ) → text ≡ chars [] ++ (decimal m ++ (chars (codes " of ") ++ (decimal n ++ chars (codes " tests failed")))) → phrase ≡ TestsFailed → text ≡ counted_text phrase m n
unfolding chars
tests_failed_text text phrase m n e is = rw (e, is) (simp append_assoc)

pub memory_text : (text : List ℕ) (phrase : Phrase) (m n : ℕ) → text ≡ chars (codes "Requires ") ++ (decimal m ++ (chars (codes " bytes of physical memory but only ") ++ (decimal n ++ chars (codes " available")))) → phrase ≡ MemoryNeeded → text ≡ counted_text phrase m n
unfolding chars
memory_text text phrase m n e is = rw (e, is) (simp append_assoc)

pub disk_text : (text : List ℕ) (phrase : Phrase) (m n : ℕ) → text ≡ chars (codes "Requires ") ++ (decimal m ++ (chars (codes " bytes of free disk space but only ") ++ (decimal n ++ chars (codes " available")))) → phrase ≡ DiskNeeded → text ≡ counted_text phrase m n
unfolding chars
disk_text text phrase m n e is = rw (e, is) (simp append_assoc)

plain_count : (phrase : Phrase) (m n : ℕ) → phrase ≢ OtherExitCode → phrase ≢ OtherSignal → phrase ≢ TestsFailed → phrase ≢ MemoryNeeded → phrase ≢ DiskNeeded
    → counted_text phrase m n ≡ phrase_text phrase ++ decimal m
plain_count OtherExitCode m n a b c d e = absurd (a refl)
plain_count OtherSignal m n a b c d e = absurd (b refl)
plain_count TestsFailed m n a b c d e = absurd (c refl)
plain_count MemoryNeeded m n a b c d e = absurd (d refl)
plain_count DiskNeeded m n a b c d e = absurd (e refl)
plain_count phrase m n a b c d e = refl

pub count_text : (text head : List ℕ) (phrase : Phrase) (m n : ℕ) → text ≡ chars head ++ (chars [] ++ (decimal m ++ chars [])) → head ≡ phrase_text phrase
    → phrase ≢ OtherExitCode → phrase ≢ OtherSignal → phrase ≢ TestsFailed → phrase ≢ MemoryNeeded → phrase ≢ DiskNeeded → text ≡ counted_text phrase m n
unfolding chars
count_text text head phrase m n is h a b c d e = rw (is, h, chars-phrase phrase, append-nil (decimal m)) (sym (plain_count phrase m n a b c d e))

-- the bytes of a text of six parts are the bytes of its four pieces, in the order of their writes
pub parts_bytes : (a l f b s t : List ℕ) → utf8 (a ++ (l ++ (f ++ (b ++ (s ++ t))))) ≡ utf8 a ++ (utf8 (l ++ f) ++ (utf8 (b ++ s) ++ utf8 t))
parts_bytes a l f b s t = simp (encodes-append, append_assoc)

-- a text to which six parts are appended one by one is the text followed by all six parts
pub appended : (start a l f b s t after1 after2 after3 after4 after5 after6 : List ℕ) → after1 ≡ start ++ a → after2 ≡ after1 ++ l → after3 ≡ after2 ++ f
    → after4 ≡ after3 ++ b → after5 ≡ after4 ++ s → after6 ≡ after5 ++ t → after6 ≡ start ++ (a ++ (l ++ (f ++ (b ++ (s ++ t)))))
appended start a l f b s t after1 after2 after3 after4 after5 after6 e1 e2 e3 e4 e5 e6 = rw (e6, e5, e4, e3, e2, e1) (simp append_assoc)
