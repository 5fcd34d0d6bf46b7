-- The search for a program in the directories of `PATH`.
use Rattle.std.proofs.Common.{◌≡◌, ◌∙◌, ℕ, ◌==◌, ◌<◌, ◌+◌, Bool, true, false, List, [], ◌∷◌, length, ap, sym, subst, arith, drop, IsUtf8, Some}
use Rattle.std.proofs.lemmas.List.Elements.{All-from_get_or}
use Rattle.std.proofs.lemmas.List.Sums.{fails_before_first}
use Rattle.std.proofs.lemmas.List.Splits.{slice_split_first, slice_split_none}
use Rattle.std.proofs.lemmas.Str.{IsUtf8-drop}
use Rattle.std.specs.Char.{len_utf8}
use Rattle.std.specs.Str.Pattern.{FindsChar}
use Rattle.std.specs.List.{after_first, before_first, position_or_len, slice_split}
use Rattle.kt_os.proofs.Common.{HasProgram, HostResponse, SearchesDirectories, directories, further, here, nowhere}

-- `colon b`: `true` if the byte `b` is a colon
abbrev pub colon : ℕ → Bool
colon b = b == 58

-- a list of directories without a colon is one directory
none_splits : (xs : List ℕ) → position_or_len colon xs ≡ length xs → slice_split colon xs ≡ xs ∷ []
none_splits xs e = slice_split_none colon xs (All-from_get_or (λ b. colon b ≡ false) xs 0 (λ k low. fails_before_first colon xs k 0 (omega (arith, e, low))))

-- the bytes after a colon of a UTF-8 text are UTF-8
pub behind_text : (s behind : List ℕ) (i j : ℕ) → IsUtf8 s → FindsChar 58 s (Some (i, j)) → behind ≡ drop j s → IsUtf8 behind
behind_text s behind i j u f b =
    let at = f.1 in
    subst IsUtf8 (sym b) (subst (λ (k : ℕ). IsUtf8 (drop k s)) (sym at.ends) (IsUtf8-drop s (i + len_utf8 58) u at.after))

module _ {M : Type 0} (answers : M → HostResponse → M → Type 0) (name : List ℕ) where
  -- if the program is not in the first directory, the search of the whole list has the result of
  -- the search after the colon
  pub goes_on : (among rest directory behind : List ℕ) (was old mid : M) → position_or_len colon rest < length rest → directory ≡ before_first colon rest
      → behind ≡ after_first colon rest → HasProgram answers name directory false old mid
      → ((answer : Bool) (new : M) → SearchesDirectories answers name (directories rest) answer old new → SearchesDirectories answers name (directories among) answer was new)
      → (answer : Bool) (new : M) → SearchesDirectories answers name (directories behind) answer mid new → SearchesDirectories answers name (directories among) answer was new
  goes_on among rest directory behind was old mid within d b lacks goes answer new s =
      goes answer new (subst (λ (ds : List (List ℕ)). SearchesDirectories answers name ds answer old new)
      (ap (λ (x : List ℕ). x ∷ directories behind) d ∙ ap (λ (x : List ℕ). before_first colon rest ∷ slice_split colon x) b ∙ sym (slice_split_first colon rest 0 within))
      (further directory (directories behind) answer old mid new lacks s))

  -- if the first directory has the program, the search returns `true`
  pub goes_here : (rest directory : List ℕ) (old new : M) → position_or_len colon rest < length rest → directory ≡ before_first colon rest
      → HasProgram answers name directory true old new → SearchesDirectories answers name (directories rest) true old new
  goes_here rest directory old new within d has =
      rw (slice_split_first colon rest 0 within) (here (before_first colon rest) (slice_split colon (after_first colon rest)) old new (rw d at has))

  -- the search of a list without a colon is that in its only directory
  pub goes_last : (rest : List ℕ) (answer : Bool) (old new : M) → position_or_len colon rest ≡ length rest → HasProgram answers name rest answer old new
      → SearchesDirectories answers name (directories rest) answer old new
  goes_last rest true old new none is = rw (none_splits rest none) (here rest [] old new is)
  goes_last rest false old new none is = rw (none_splits rest none) (further rest [] false old new new is (nowhere new))
