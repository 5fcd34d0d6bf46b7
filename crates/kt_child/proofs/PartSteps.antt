-- Lemmas on a file that is read in parts.
use Rattle.std.proofs.Common.{◌≡◌, ℕ, ◌+◌, List, [], ◌∷◌, ◌++◌, length, Result, Some, None, refl, sym, ◌∙◌, ap, append_assoc, length-append}
use Rattle.kt_child.proofs.Common.{OsFault, FileRead, PartsResult, Complete, Chain, Call, TakesBytes, IsReadEnd, Reads, next_part_call, bytes_of}
use Rattle.kt_child.specs.Ending.Parts.{last, more}
use Rattle.kt_child.proofs.Chains.{chain_append}

-- `Taking has_taken leads path part limit start now reader got`: the first parts of the file
-- `path`, `got` bytes in all, were read and fed to `reader`, which takes the system from `start` to
-- `now`. A read of the rest completes the read of the file. A part has at most `part` bytes, and
-- all parts at most `limit`. `has_taken` relates a reader to its bytes, and `leads` is the relation
-- of the system's calls.
abbrev pub Taking : {R O : Type 0} → (R → List ℕ → Type 0) → (O → Call → O → Type 0) → List ℕ → ℕ → ℕ → O → O → R → ℕ → Type 0
Taking has_taken leads path part limit start now reader got =
    (taken : List ℕ) × has_taken reader taken × (got ≡ length taken) × (calls : List Call) × Chain leads start calls now
    × ((rest : List Call) (end : PartsResult) (bytes : List ℕ) → Reads path part limit taken rest end bytes → Reads path part limit [] (calls ++ rest) end bytes)

-- For a reader that is fed a file from its start.
module _ {R O : Type 0} (has_taken : R → List ℕ → Type 0) (leads : O → Call → O → Type 0) (path : List ℕ) (part limit : ℕ) (start : O) where
  -- If more follows after the next part, a read of the rest still completes the read of the file.
  pub taking_more : (now new : O) (reader reader' : R) (got got' : ℕ) (answer : Result FileRead OsFault)
      → Taking has_taken leads path part limit start now reader got
      → leads now (next_part_call path part limit got answer) new
      → IsReadEnd limit got answer None
      → TakesBytes has_taken reader reader' (bytes_of answer)
      → got' ≡ got + length (bytes_of answer)
      → Taking has_taken leads path part limit start new reader' got'
  taking_more now new reader reader' got got' answer (taken, has, e, calls, chain, on) led goes takes f =
      let call : Call = next_part_call path part limit (length taken) answer in (
        taken ++ bytes_of answer,
        takes taken has,
        f ∙ ap (λ m. m + length (bytes_of answer)) e ∙ sym (length-append taken (bytes_of answer)),
        calls ++ call ∷ [],
        chain_append leads start now new calls (call ∷ []) chain (new, rw e at led, refl),
        λ rest end bytes h. rw append_assoc (on (call ∷ rest) end bytes (more taken bytes answer rest end (rw e at goes) h)),
      )

  -- The last part completes the read.
  pub taking_over : (now new : O) (reader reader' : R) (got : ℕ) (answer : Result FileRead OsFault) (end : PartsResult)
      → Taking has_taken leads path part limit start now reader got
      → leads now (next_part_call path part limit got answer) new
      → IsReadEnd limit got answer (Some end)
      → (end ≡ Complete → TakesBytes has_taken reader reader' (bytes_of answer))
      → (calls : List Call) × (bytes : List ℕ) × Chain leads start calls new × Reads path part limit [] calls end bytes
      × (end ≡ Complete → has_taken reader' bytes)
  taking_over now new reader reader' got answer end (taken, has, e, calls, chain, on) led ends takes =
      let call : Call = next_part_call path part limit (length taken) answer in (
        calls ++ call ∷ [],
        taken ++ bytes_of answer,
        chain_append leads start now new calls (call ∷ []) chain (new, rw e at led, refl),
        on (call ∷ []) end (taken ++ bytes_of answer) (last taken answer end (rw e at ends)),
        λ whole. takes whole taken has,
      )
