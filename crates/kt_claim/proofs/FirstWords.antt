-- The keyword that a line begins with.
use Rattle.std.proofs.Common.{◌≡◌, ℕ, Bool, true, false, List, refl, sym, subst, codes}
use Rattle.kt_claim.proofs.Common.{bytes_eq, list_any, bytes_eq-Decides, is_newline, keyword_of, claim_of_keyword}
use Rattle.kt_claim.specs.ResultFile as says
use Rattle.kt_claim.specs.declared.result_line.Keyword.TheVariants as word
use Rattle.kt_claim.proofs.Words.{Agrees, plain_word, passed_word, number_word}

-- ---- each word

pub by_word : (t : Bool) (w x : List ℕ) (P : List ℕ → Type 0) → bytes_eq w x ≡ t → P x → (bytes_eq w x ≡ false → P w) → P w
by_word true w x P e here next = subst P (sym ((bytes_eq-Decides w x).0 e)) here
by_word false w x P e here next = next e

-- `Read rest w`: `claim_of_keyword` gives the claim of a line of the keyword `w` and `rest`, or its
-- error.
abbrev pub Read : List ℕ → List ℕ → Type 0
Read rest w = Agrees w rest (claim_of_keyword (keyword_of w) rest)

pub unknown : (w rest : List ℕ) → bytes_eq w (codes "passed") ≡ false → bytes_eq w (codes "failed") ≡ false → bytes_eq w (codes "skipped") ≡ false
    → bytes_eq w (codes "expected_death") ≡ false → bytes_eq w (codes "expected_failure") ≡ false → bytes_eq w (codes "expected_timeout") ≡ false
    → bytes_eq w (codes "expected_exit") ≡ false → bytes_eq w (codes "expected_signal") ≡ false → Read rest w
unfolding keyword_of
unknown w rest e1 e2 e3 e4 e5 e6 e7 e8 = rw (e1, e2, e3, e4, e5, e6, e7, e8) refl

pub read_passed : (rest : List ℕ) → Read rest (codes "passed")
unfolding keyword_of
read_passed rest = passed_word rest

pub read_failed : (rest : List ℕ) → list_any is_newline rest ≡ false → Read rest (codes "failed")
unfolding keyword_of
read_failed rest none = plain_word (codes "failed") rest word.Failed refl (λ r. refl) says.failed none

pub read_skipped : (rest : List ℕ) → list_any is_newline rest ≡ false → Read rest (codes "skipped")
unfolding keyword_of
read_skipped rest none = plain_word (codes "skipped") rest word.Skipped refl (λ r. refl) says.skipped none

pub read_death : (rest : List ℕ) → list_any is_newline rest ≡ false → Read rest (codes "expected_death")
unfolding keyword_of
read_death rest none = plain_word (codes "expected_death") rest word.ExpectedDeath refl (λ r. refl) says.expected_death none

pub read_failure : (rest : List ℕ) → list_any is_newline rest ≡ false → Read rest (codes "expected_failure")
unfolding keyword_of
read_failure rest none = plain_word (codes "expected_failure") rest word.ExpectedFailure refl (λ r. refl) says.expected_failure none

pub read_timeout : (rest : List ℕ) → list_any is_newline rest ≡ false → Read rest (codes "expected_timeout")
unfolding keyword_of
read_timeout rest none = plain_word (codes "expected_timeout") rest word.ExpectedTimeout refl (λ r. refl) says.expected_timeout none

pub read_exit : (rest : List ℕ) → list_any is_newline rest ≡ false → Read rest (codes "expected_exit")
unfolding keyword_of
read_exit rest none = number_word (codes "expected_exit") rest word.ExpectedExit refl (λ r. refl) says.expected_exit says.expected_exit_of none

pub read_signal : (rest : List ℕ) → list_any is_newline rest ≡ false → Read rest (codes "expected_signal")
unfolding keyword_of
read_signal rest none = number_word (codes "expected_signal") rest word.ExpectedSignal refl (λ r. refl) says.expected_signal says.expected_signal_of none

pub read_word : (w rest : List ℕ) → list_any is_newline rest ≡ false → Read rest w
read_word w rest none =
    by_word (bytes_eq w (codes "passed")) w (codes "passed") (Read rest) refl (read_passed rest) (λ e1.
    by_word (bytes_eq w (codes "failed")) w (codes "failed") (Read rest) refl (read_failed rest none) (λ e2.
    by_word (bytes_eq w (codes "skipped")) w (codes "skipped") (Read rest) refl (read_skipped rest none) (λ e3.
    by_word (bytes_eq w (codes "expected_death")) w (codes "expected_death") (Read rest) refl (read_death rest none) (λ e4.
    by_word (bytes_eq w (codes "expected_failure")) w (codes "expected_failure") (Read rest) refl (read_failure rest none) (λ e5.
    by_word (bytes_eq w (codes "expected_timeout")) w (codes "expected_timeout") (Read rest) refl (read_timeout rest none) (λ e6.
    by_word (bytes_eq w (codes "expected_exit")) w (codes "expected_exit") (Read rest) refl (read_exit rest none) (λ e7.
    by_word (bytes_eq w (codes "expected_signal")) w (codes "expected_signal") (Read rest) refl (read_signal rest none) (λ e8.
    unknown w rest e1 e2 e3 e4 e5 e6 e7 e8))))))))
