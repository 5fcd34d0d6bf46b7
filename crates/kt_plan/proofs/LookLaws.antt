-- Lemmas on the checks of required files and programs, and on their record.
use Rattle.std.proofs.Common.{Bool, true, false, Option, ◌≡◌, ℕ, List, [], ◌∷◌, ◌++◌, ◌&&◌, ◌||◌, refl, sym, ap, ◌∙◌, subst, append_assoc, append-nil}
use Rattle.kt_plan.proofs.Common.{LeadsByCalls, is_found, is_same_need, RecordsAsFound, Host, Need, Candidate, RecordsFound, finds, needs_of_cases, ChecksNeeds, nothing, asked, ProbesHost, IsProbePrefix, IsCallPrefix, Reply, Finds, IsRoot, HasMemory, HasDisk}
use Rattle.kt_plan.proofs.Chains.{answered-as, answered-once, answered-then}
use Rattle.std.specs.List.{list_any}
use Rattle.std.proofs.lemmas.List.Folds.{list_any-append}
use Rattle.std.proofs.Math.Bool.{or-false, and-true, and-false, or_assoc}

-- A host that records two lists of results, one after the other, records the joined list.
notes_more : (answers more : List Reply) (a b d : Host) → RecordsFound answers a b → RecordsFound more b d → RecordsFound (answers ++ more) a d
notes_more answers more a b d h k = record {
  found = λ need word.
      k.found need word ∙ ap (λ (x : Bool). x || list_any (finds need word) more) (h.found need word)
      ∙ or_assoc (is_found need a word) (list_any (finds need word) answers) (list_any (finds need word) more)
      ∙ ap (λ (x : Bool). is_found need a word || x) (sym (list_any-append (finds need word) answers more));
  root = k.root ∙ h.root;
  memory = k.memory ∙ h.memory;
  disk = k.disk ∙ h.disk;
}

-- A file or program that doesn't exist leaves the record unchanged.
notes_missing : (need : Need) (name : List ℕ) (host : Host) → RecordsFound (Finds need name false ∷ []) host host
notes_missing need name host = record {
  found = λ other word. sym (or-false (is_found other host word)) ∙ ap (λ (x : Bool). is_found other host word || x) (sym (or-false (is_same_need need name other word && false) ∙ and-false (is_same_need need name other word)));
  root = refl;
  memory = refl;
  disk = refl;
}

-- A file or program that exists is recorded.
notes_there : (need : Need) (name : List ℕ) (old new : Host) → RecordsAsFound need name old new → RecordsFound (Finds need name true ∷ []) old new
notes_there need name old new k = record {
  found = λ other word. k.found other word ∙ ap (λ (x : Bool). is_found other old word || x) (sym (or-false (is_same_need need name other word && true) ∙ and-true (is_same_need need name other word)));
  root = k.root;
  memory = k.memory;
  disk = k.disk;
}

-- The checks of one list of requirements, followed by the checks of another, are the checks of
-- both.
looks_append : (some after : List (Need × List ℕ)) (answers more : List Reply) → ChecksNeeds some answers → ChecksNeeds after more → ChecksNeeds (some ++ after) (answers ++ more)
looks_append _ after _ more nothing k = k
looks_append _ after _ more (asked need word needs answer answers h) k = asked need word (needs ++ after) answer (answers ++ more) (looks_append needs after answers more h k)

-- Each list of requirements has a list of checks.
asks_all : (needs : List (Need × List ℕ)) → (answers : List Reply) × ChecksNeeds needs answers
asks_all [] = ([], nothing)
asks_all (first ∷ needs) = let rest = asks_all needs in (Finds first.0 first.1 false ∷ rest.0, asked first.0 first.1 needs false rest.0 rest.1)

-- Four lists of results can be joined in two ways.
rejoined : (a b d e : List Reply) → a ++ ((b ++ d) ++ e) ≡ (a ++ b) ++ (d ++ e)
rejoined a b d e = ap (λ (ts : List Reply). a ++ ts) (append_assoc b d e) ∙ sym (append_assoc a b (d ++ e))

-- All calls to the host are also a prefix of these calls.
pub all_surveyed : (cases : List Candidate) (answers : List Reply) (host : Host) → ProbesHost cases answers host → IsProbePrefix cases answers
all_surveyed cases answers host s = record {
  root = host.root;
  memory = host.memory;
  disk = host.disk;
  looked = s.looked;
  asked = s.asked;
  first = ([], subst (λ (ts : List Reply). ChecksNeeds (needs_of_cases cases) ts) (sym (append-nil s.looked)) s.all);
}

module _ {W : Type 0} (replies : W → Reply → W → Type 0) where
  -- The check of a file or program that doesn't exist leaves the record unchanged.
  pub word_missing : (need : Need) (name : List ℕ) (old new : W) (host : Host) (answer : Bool) → answer ≡ false → replies old (Finds need name answer) new
      → LeadsByCalls replies old new (λ answers. ChecksNeeds ((need, name) ∷ []) answers × RecordsFound answers host host)
  word_missing need name old new host answer missing h =
      answered-once (Finds need name false) (subst (λ (b : Bool). replies old (Finds need name b) new) missing h) (asked need name [] false [] nothing, notes_missing need name host)

  -- The check of a file or program that exists records it.
  pub word_there : (need : Need) (name : List ℕ) (old new : W) (was now : Host) (answer : Bool) → answer ≡ true → replies old (Finds need name answer) new → RecordsAsFound need name was now
      → LeadsByCalls replies old new (λ answers. ChecksNeeds ((need, name) ∷ []) answers × RecordsFound answers was now)
  word_there need name old new was now answer there h n =
      answered-once (Finds need name true) (subst (λ (b : Bool). replies old (Finds need name b) new) there h) (asked need name [] true [] nothing, notes_there need name was now n)

  -- If an allocation fails after a check, this check is the only call so far.
  pub word_asked : (need : Need) (name : List ℕ) (old new : W) (answer : Bool) → replies old (Finds need name answer) new → LeadsByCalls replies old new (λ answers. IsCallPrefix (ChecksNeeds ((need, name) ∷ [])) answers)
  word_asked need name old new answer h = answered-once (Finds need name answer) h ([], asked need name [] answer [] nothing)

  module _ (needs : List (Need × List ℕ)) (old : W) (was : Host) where
    -- `Looking rest new now`: the checks so far led the world to the state `new`, and the host
    -- `now` has their results. With checks of the remaining requirements `rest`, they are all
    -- checks.
    abbrev pub Looking : List (Need × List ℕ) → W → Host → Type 0
    Looking rest new now =
        LeadsByCalls replies old new (λ answers. ((more : List Reply) → ChecksNeeds rest more → ChecksNeeds needs (answers ++ more)) × RecordsFound answers was now)

    -- The checks of the next requirements extend the checks so far.
    pub looking_next : (rest some after : List (Need × List ℕ)) (mid new : W) (then now : Host) → rest ≡ some ++ after → Looking rest mid then
        → LeadsByCalls replies mid new (λ answers. ChecksNeeds some answers × RecordsFound answers then now) → Looking after new now
    looking_next rest some after mid new then now e l a = answered-then l a (λ answers own g h. (
      λ more k. rw append_assoc (g.0 (own ++ more) (rw e (looks_append some after own more h.0 k))),
      notes_more answers own was then now g.1 h.1,
    ))

    -- The checks before a failed allocation are a prefix of all checks.
    pub looking_stopped : (rest some after : List (Need × List ℕ)) (mid new : W) (then : Host) → rest ≡ some ++ after → Looking rest mid then
        → LeadsByCalls replies mid new (λ answers. IsCallPrefix (ChecksNeeds some) answers) → LeadsByCalls replies old new (λ answers. IsCallPrefix (ChecksNeeds needs) answers)
    looking_stopped rest some after mid new then e l a =
        let others = asks_all after in
        answered-then l a (λ answers own g h. (
          h.0 ++ others.0,
          subst (λ (ts : List Reply). ChecksNeeds needs ts) (rejoined answers own h.0 others.0) (g.0 ((own ++ h.0) ++ others.0) (rw e (looks_append some after (own ++ h.0) others.0 h.1 others.1))),
        ))

    -- If no requirement remains, the checks so far are all checks.
    pub looking_all : (rest : List (Need × List ℕ)) (new : W) (now : Host) → rest ≡ [] → Looking rest new now → LeadsByCalls replies old new (λ answers. ChecksNeeds needs answers × RecordsFound answers was now)
    looking_all rest new now e l = answered-as l (λ answers g. (rw append-nil at (g.0 [] (rw e nothing)), g.1))

  -- The checks for root, memory, disk space and the requirements are all calls to the host.
  pub surveyed : (cases : List Candidate) (old a b d new : W) (was now : Host) (root : Bool) (memory disk : Option ℕ) → was.root ≡ root → was.memory ≡ memory → was.disk ≡ disk
      → ((need : Need) (word : List ℕ) → is_found need was word ≡ false) → replies old (IsRoot root) a → replies a (HasMemory memory) b → replies b (HasDisk disk) d
      → LeadsByCalls replies d new (λ answers. ChecksNeeds (needs_of_cases cases) answers × RecordsFound answers was now) → LeadsByCalls replies old new (λ answers. ProbesHost cases answers now)
  surveyed cases old a b d new was now root memory disk r m k none x y z h = record {
    asked = IsRoot root ∷ HasMemory memory ∷ HasDisk disk ∷ h.asked;
    chain = (a, x, (b, y, (d, z, h.chain)));
    holds = record {
      looked = h.asked;
      asked = rw (h.holds.1.root ∙ r, h.holds.1.memory ∙ m, h.holds.1.disk ∙ k) refl;
      all = h.holds.0;
      found = λ need word. h.holds.1.found need word ∙ ap (λ (t : Bool). t || list_any (finds need word) h.asked) (none need word);
    };
  }

  -- The calls to the host before a failed allocation are a prefix of all these calls.
  pub survey_stopped : (cases : List Candidate) (old a b d new : W) (root : Bool) (memory disk : Option ℕ) → replies old (IsRoot root) a → replies a (HasMemory memory) b → replies b (HasDisk disk) d
      → LeadsByCalls replies d new (λ answers. IsCallPrefix (ChecksNeeds (needs_of_cases cases)) answers) → LeadsByCalls replies old new (λ answers. IsProbePrefix cases answers)
  survey_stopped cases old a b d new root memory disk x y z h = record {
    asked = IsRoot root ∷ HasMemory memory ∷ HasDisk disk ∷ h.asked;
    chain = (a, x, (b, y, (d, z, h.chain)));
    holds = record { root = root; memory = memory; disk = disk; looked = h.asked; asked = refl; first = h.holds };
  }
