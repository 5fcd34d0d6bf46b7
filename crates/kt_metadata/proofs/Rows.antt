-- The text of a reason.
use Rattle.std.proofs.Common.{◌≡◌, ℕ, Bool, false, List, ◌++◌, sym, ap, ◌∙◌, Option, Some, codes}
use Rattle.kt_metadata.proofs.Common.{enclosed_text, is_allowed, unsupported_reason_text}
use Rattle.kt_base.specs.declared.verdict.Reason.{Reason}
use Rattle.kt_base.specs.Reasons.{reason_text}

-- A reason with the element `found` between `front` and `back` is the text that `enclosed_text`
-- returns.
pub around_found : (front back word text : List ℕ) (found : Option (List ℕ)) → found ≡ Some word → text ≡ front ++ (word ++ back) → Some text ≡ enclosed_text front back found
around_found front back word text found e f = ap (λ (t : List ℕ). Some t) f ∙ sym (ap (enclosed_text front back) e)

-- If `word` isn't allowed, the reason with `word` is the text that `unsupported_reason_text`
-- returns.
pub unlisted_told : (front word : List ℕ) (reason : Reason) (listed : List (List ℕ)) (found : Bool) → found ≡ is_allowed listed word → found ≡ false
    → reason_text reason ≡ front ++ (word ++ codes "' not supported") → Some (reason_text reason) ≡ unsupported_reason_text front listed word
unlisted_told front word reason listed found f off t =
    let other : is_allowed listed word ≡ false = sym f ∙ off in
    rw other (ap (λ (x : List ℕ). Some x) t)
