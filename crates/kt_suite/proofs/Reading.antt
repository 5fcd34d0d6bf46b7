-- A file that is read statement by statement.
use Rattle.std.proofs.Common.{drop, Option, None, Ok, Err, ◌≡◌, ◌-◌, ℕ, List, [], ◌∷◌, ◌++◌, length, take, ◌<◌, arith, length-append, refl, sym, subst, ap, ◌∙◌}
use Rattle.kt_suite.proofs.Common.{append_assoc, append-nil, take_at, Stmt, SuiteFault, Meaning, Registry, LoadStep, Enter, Asked, Read, meaning_of, Site, Mark, CallMark, Part, OneMark, statement_parts, suite_after, HaveStatementParts, none, one, opened, Unfolds, end, says, AddsMarks, LoadsMarks, through, HasFileMarks, HasMeaningMarks, StepsTo, enters, OpensFile, opens}
use Rattle.kt_suite.proofs.Counting.{counted-open_kyuafiles, totals}
use Rattle.kt_suite.proofs.Unfolding.{unfolds-append, some_marks, some_parts}
use Rattle.kt_suite.proofs.Walking.{walked-enough, walked-open_kyuafiles, walked-then}
use Rattle.kt_suite.proofs.Inclusions.{entered_below}
use Rattle.std.proofs.lemmas.List.{nil_from_length}

-- `begun r file`: the registry `r` with the file `file` added to the open files.
abbrev pub begun : Registry → List ℕ → Registry
begun r file = record r { open_kyuafiles = r.open_kyuafiles ++ file ∷ [] }

-- `ReadSoFar files file suite left front`: the marks `front`, followed by the marks of the
-- remaining statements `left`, are the marks of reading the file `file` while the files `files` are
-- open. `suite` is the test suite before `left`.
pub record ReadSoFar (files : List (List ℕ)) (file : List ℕ) (suite : Option (List ℕ)) (left : List Stmt) (front : List Mark) : Type 0 where
  pub goes_on : (parts : List Part) (marks : List Mark) → HaveStatementParts file suite left parts → Unfolds (files ++ file ∷ []) parts marks → HasFileMarks files file (front ++ marks)

-- `Reading asks old new start file r suite left`: the file `file` was read up to the remaining
-- statements `left`, which took the registry from `start` to `r`. By the relation `asks`, the calls
-- lead from the tree's state `old` to its state `new`. `suite` is the test suite before `left`.
abbrev pub Reading : {T : Type 0} → (T → Asked → T → Type 0) → T → T → Registry → List ℕ → Registry → Option (List ℕ) → List Stmt → Type 0
Reading asks old new start file r suite left = LoadsMarks asks old new (ReadSoFar start.open_kyuafiles file suite left) (begun start file) (Ok r)

-- After a file is opened, only its first statement has been read.
pub reading_first : {T : Type 0} (asks : T → Asked → T → Type 0) (old new : T) (start : Registry) (file : List ℕ) (r : Registry) (stmts left : List Stmt) (suite : Option (List ℕ)) → OpensFile asks old new file (Ok stmts) → r ≡ begun start file → left ≡ drop 1 stmts → suite ≡ None
    → Reading asks old new start file r suite left
reading_first asks old new start file r _ left suite (opens text first rest h s w) e d n =
    through (CallMark (Read file (Ok text)) ∷ []) r
    (record {
      goes_on = λ parts marks p u. record {
        parts = OneMark (CallMark (Read file (Ok text))) ∷ parts;
        says = opened text first rest parts s w (subst (λ (xs : List Stmt). HaveStatementParts file None xs parts) d (subst (λ (x : Option (List ℕ)). HaveStatementParts file x left parts) n p));
        unfolds = says _ _ _ _ u;
      };
    })
    (new, h, refl) e

module _ {T : Type 0} (asks : T → Asked → T → Type 0) (old mid new : T) (start : Registry) (file : List ℕ) (r : Registry) (suite : Option (List ℕ)) (stmt : Stmt) (rest left : List Stmt)
    (is : left ≡ stmt ∷ rest) (f : Reading asks old mid start file r suite left) where
  abbrev at : Site
  at = record { file = file; line = stmt.line }

  abbrev meaning : Meaning
  meaning = meaning_of suite stmt.action

  -- The marks so far, followed by the marks of the next statement, are the marks after this
  -- statement.
  one_more : (front marks : List Mark) → ReadSoFar start.open_kyuafiles file suite left front → HasMeaningMarks r.open_kyuafiles at meaning marks
      → ReadSoFar start.open_kyuafiles file (suite_after suite meaning) rest (front ++ marks)
  one_more front marks g h = record {
    goes_on = λ parts more p u.
        let own = statement_parts at h.there meaning in
        let unfolds = subst (λ (xs : List (List ℕ)). Unfolds xs own marks) (walked-open_kyuafiles f) h.unfolds in
        subst (HasFileMarks start.open_kyuafiles file) (sym (append_assoc front marks more))
        (g.goes_on (own ++ parts) (marks ++ more) (subst (λ (xs : List Stmt). HaveStatementParts file suite xs (own ++ parts)) (sym is) (one suite stmt rest h.there parts p))
        (unfolds-append (start.open_kyuafiles ++ file ∷ []) own parts marks more unfolds u));
  }

  -- Executing a statement reads the file up to the next statement.
  pub reading_next : (after : Registry) (named : Option (List ℕ)) → named ≡ suite_after suite meaning → LoadsMarks asks mid new (HasMeaningMarks r.open_kyuafiles at meaning) r (Ok after)
      → Reading asks old new start file after named rest
  reading_next after named n w = subst (λ (x : Option (List ℕ)). Reading asks old new start file after x rest) (sym n) (walked-then f w one_more)

  -- A statement with the mark that decides, or with a failed allocation, ends the file.
  pub reading_stops : (fault : SuiteFault) → LoadsMarks asks mid new (HasMeaningMarks r.open_kyuafiles at meaning) r (Err fault) → LoadsMarks asks old new (HasFileMarks start.open_kyuafiles file) start (Err fault)
  reading_stops fault w =
      let others = some_parts file (suite_after suite meaning) rest in
      let more = some_marks (start.open_kyuafiles ++ file ∷ []) others.0 in
      walked-enough (walked-then f w one_more) (λ front (g : ReadSoFar start.open_kyuafiles file (suite_after suite meaning) rest front). (more.0, g.goes_on others.0 more.0 others.1 more.1))

without : (xs : List (List ℕ)) (x : List ℕ) → take (length (xs ++ x ∷ []) - 1) (xs ++ x ∷ []) ≡ xs
without xs x = take_at xs (x ∷ []) (length (xs ++ x ∷ []) - 1) (omega (arith, length-append xs (x ∷ [])))

-- If no statement remains, the whole file was read.
pub reading_all : {T : Type 0} (asks : T → Asked → T → Type 0) (old new : T) (start : Registry) (file : List ℕ) (r after : Registry) (suite : Option (List ℕ)) (left : List Stmt) → length left ≡ 0
    → Reading asks old new start file r suite left → after ≡ (record r { open_kyuafiles = take (length r.open_kyuafiles - 1) r.open_kyuafiles })
    → LoadsMarks asks old new (HasFileMarks start.open_kyuafiles file) start (Ok after)
reading_all asks old new start file _ after suite left e (through front r g c k) a =
    let same : r.open_kyuafiles ≡ start.open_kyuafiles ++ file ∷ [] = (totals (begun start file) r front k).open_kyuafiles in
    let back : take (length r.open_kyuafiles - 1) r.open_kyuafiles ≡ start.open_kyuafiles = ap (λ (xs : List (List ℕ)). take (length xs - 1) xs) same ∙ without start.open_kyuafiles file in
    let whole : HasFileMarks start.open_kyuafiles file (front ++ []) = g.goes_on [] [] (subst (λ (xs : List Stmt). HaveStatementParts file suite xs []) (sym (nil_from_length left e)) (none suite)) (end _) in
    through front after (subst (HasFileMarks start.open_kyuafiles file) (append-nil front) whole) c
    (subst (λ (x : Registry). AddsMarks start front x) (sym (a ∙ ap (λ (xs : List (List ℕ)). record r { open_kyuafiles = xs }) back)) (counted-open_kyuafiles (begun start file) r front start.open_kyuafiles k))

module _ {T : Type 0} (asks : T → Asked → T → Type 0) where
  -- A file is entered only if fewer files than the limit are open.
  deep : (old mid sub : T) (start : Registry) (file : List ℕ) (r next : Registry) (suite : Option (List ℕ)) (m : Meaning) (at : Site) (path : List ℕ) (left : List Stmt)
      → Reading asks old mid start file r suite left → StepsTo asks mid sub r at m (Ok (Enter next path)) → 32 - length next.open_kyuafiles < 32 - length start.open_kyuafiles
  deep old mid sub start file r _ suite m at _ left f (enters path p e n s) =
      let same = ap (λ (xs : List (List ℕ)). length xs) (walked-open_kyuafiles f) in
      let room = entered_below r.open_kyuafiles path e in
      omega (arith, same, room, length-append start.open_kyuafiles (file ∷ []))

  pub deeper : (old mid sub : T) (start : Registry) (file : List ℕ) (r next : Registry) (suite : Option (List ℕ)) (m : Meaning) (at : Site) (path : List ℕ) (step : LoadStep) (left : List Stmt) → step ≡ Enter next path
      → Reading asks old mid start file r suite left → StepsTo asks mid sub r at m (Ok step) → 32 - length next.open_kyuafiles < 32 - length start.open_kyuafiles
  deeper old mid sub start file r next suite m at path step left is f s = deep old mid sub start file r next suite m at path left f (subst (λ (x : LoadStep). StepsTo asks mid sub r at m (Ok x)) is s)
