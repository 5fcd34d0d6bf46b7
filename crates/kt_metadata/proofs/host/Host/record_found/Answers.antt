use Rattle.std.proofs.Common.{Bool, true, false, ◌≡◌, ℕ, List, ◌||◌, cond, refl, sym, ap, ◌∙◌, bytes_eq, BTreeSet, Global, string_bytes}
use Rattle.kt_metadata.proofs.Common.{contains_text, String, utf8, is_found, is_same_need, RecordsAsFound, Host, Need, File, Program}
use Rattle.std.proofs.Math.Bool.{or-false}
use Rattle.std.proofs.lemmas.Map.Text.{btree_set_updates_text}
use Rattle.kt_metadata.proofs.host.Host.record_found.Goals as goal

or_last : (b x : Bool) → cond b true x ≡ (x || b)
or_last true true = refl
or_last true false = refl
or_last false true = refl
or_last false false = refl

-- A file is recorded as found.
noted_file : (name : List ℕ) (old : Host) (files : BTreeSet (String Global)) → ((bytes : List ℕ) → contains_text files bytes ≡ (contains_text old.files bytes || bytes_eq (utf8 name) bytes))
    → RecordsAsFound File name old (record { root = old.root; files = files; programs = old.programs; memory = old.memory; disk = old.disk })
noted_file name old files h = record { found = by; root = refl; memory = refl; disk = refl }
  where
    by : (need : Need) (word : List ℕ) → is_found need (record { root = old.root; files = files; programs = old.programs; memory = old.memory; disk = old.disk }) word ≡ (is_found need old word || is_same_need File name need word)
    by File word = h (utf8 word)
    by Program word = sym (or-false (contains_text old.programs (utf8 word)))

-- A program is recorded as found.
noted_program : (name : List ℕ) (old : Host) (programs : BTreeSet (String Global)) → ((bytes : List ℕ) → contains_text programs bytes ≡ (contains_text old.programs bytes || bytes_eq (utf8 name) bytes))
    → RecordsAsFound Program name old (record { root = old.root; files = old.files; programs = programs; memory = old.memory; disk = old.disk })
noted_program name old programs h = record { found = by; root = refl; memory = refl; disk = refl }
  where
    by : (need : Need) (word : List ℕ) → is_found need (record { root = old.root; files = old.files; programs = programs; memory = old.memory; disk = old.disk }) word ≡ (is_found need old word || is_same_need Program name need word)
    by File word = sym (or-false (contains_text old.files (utf8 word)))
    by Program word = h (utf8 word)

pub returns-in_ok-insert-in-File : goal.returns-in_ok-insert-in-File
returns-in_ok-insert-in-File c =
    let same : string_bytes c.into_string-name.result ≡ utf8 c.args.word.now = c.into_string-name.ensures ∙ ap utf8 c.in_ok-copy.ensures in
    rw c.in-File.is
    (noted_file c.args.word.now c.args.self.now c.insert.new.self
    (λ bytes. btree_set_updates_text (string_bytes c.into_string-name.result) c.args.self.now.files c.insert.new.self true c.in_ok-insert-in-File.ensures.updates bytes
    ∙ ap (λ (w : List ℕ). cond (bytes_eq w bytes) true (contains_text c.args.self.now.files bytes)) same
    ∙ or_last (bytes_eq (utf8 c.args.word.now) bytes) (contains_text c.args.self.now.files bytes)))

pub returns-in_ok-insert-in-Program : goal.returns-in_ok-insert-in-Program
returns-in_ok-insert-in-Program c =
    let same : string_bytes c.into_string-name.result ≡ utf8 c.args.word.now = c.into_string-name.ensures ∙ ap utf8 c.in_ok-copy.ensures in
    rw c.in-Program.is
    (noted_program c.args.word.now c.args.self.now c.insert-in-Program.new.self
    (λ bytes. btree_set_updates_text (string_bytes c.into_string-name.result) c.args.self.now.programs c.insert-in-Program.new.self true c.in_ok-insert-in-Program.ensures.updates bytes
    ∙ ap (λ (w : List ℕ). cond (bytes_eq w bytes) true (contains_text c.args.self.now.programs bytes)) same
    ∙ or_last (bytes_eq (utf8 c.args.word.now) bytes) (contains_text c.args.self.now.programs bytes)))
