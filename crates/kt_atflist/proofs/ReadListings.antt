-- Results of the bytes of a listing.
use Rattle.std.proofs.Common.{Result, Ok, Err, ◌≡◌, ◌⊎◌, ℕ, List, Some, None, ap, sym, subst, ◌∙◌, inl, inr}
use Rattle.kt_atflist.proofs.Common.{Phrase, Reason, Fixed, Counted, list_failure_reason, fault_phrase, IsParsedList, no_list, IsListingResult, unstarted, unreadable, too_long, read, ParseResult, IsOutOfMemory, fault_at, IsResult, Listing, NoMemory, ListFault, CaseDef}
use Rattle.kt_base.specs.declared.child.Outcome.{Outcome as Ending}
use Rattle.kt_base.specs.declared.phrase.Phrase.TheVariants.{ListUnreadable, ListTooLong}
use Rattle.kt_base.specs.declared.failed_start.Refused.{Refused}
use Rattle.kt_base.specs.Reasons.{refused_reason}
use Rattle.kt_atflist.specs.Listings.{listed, unlisted}
use Rattle.kt_atflist.specs.declared.listing.ListBytes.{ListBytes}
use Rattle.kt_atflist.specs.declared.listing.ListBytes.TheVariants as bytes
use Rattle.kt_atflist.specs.declared.listing.Listing.TheVariants as listing
use Rattle.kt_atflist.specs.declared.list_fault.ListCause.TheVariants as cause

-- A result with cases is not the error of a failed allocation, so the text is a list of these
-- cases.
pub cases_read : (slice text : List ℕ) (cases : List CaseDef) → slice ≡ text → IsOutOfMemory (Ok cases) ⊎ IsResult slice (Ok cases) → IsParsedList text (Ok cases)
cases_read slice text cases e (inl (refusal, n)) = absurd (cc)
cases_read slice text cases e (inr a) = listed cases (subst (λ (t : List ℕ). IsResult t (Ok cases)) e a)

fault_in : ParseResult → ListFault → ListFault
fault_in (Ok cases) d = d
fault_in (Err fault) d = fault

pub fault_read : (slice text : List ℕ) (fault : ListFault) (phrase : Phrase) → slice ≡ text → IsOutOfMemory (Err fault) ⊎ IsResult slice (Err fault)
    → Ok phrase ≡ fault_phrase fault.cause → IsParsedList text (Err (Counted phrase fault.line 0))
unfolding fault_in
fault_read slice text fault phrase e (inl (refusal, n)) p =
    let same : fault ≡ fault_at (cause.NoMemory refusal) 0 = ap (λ (o : ParseResult). fault_in o fault) n in
    let z : ◌≡◌ {A = Result Phrase NoMemory} (Ok phrase) (Err refusal) = p ∙ ap (λ (f : ListFault). fault_phrase f.cause) same in
    absurd (cc)
fault_read slice text fault phrase e (inr a) p = no_list fault phrase (subst (λ (t : List ℕ). IsResult t (Err fault)) e a) (sym p)

pub refused_by : (l : Listing) (r : Refused) (reason : Reason) → l ≡ listing.Refused r → reason ≡ refused_reason r → IsListingResult l (Err reason)
refused_by l r reason e f = subst (λ (x : Listing). IsListingResult x (Err reason)) (sym e) (subst (λ (x : Reason). IsListingResult (listing.Refused r) (Err x)) (sym f) (unstarted r))

pub ended_by : (l : Listing) (outcome : Ending) (b : ListBytes) (reason : Reason) → l ≡ listing.Ended outcome b → Some reason ≡ list_failure_reason outcome → IsListingResult l (Err reason)
ended_by l outcome b reason e f = subst (λ (x : Listing). IsListingResult x (Err reason)) (sym e) (unlisted outcome b reason (sym f))

pub unreadable_by : (l : Listing) (outcome : Ending) (b : ListBytes) → l ≡ listing.Ended outcome b → None ≡ list_failure_reason outcome → b ≡ bytes.Unreadable → IsListingResult l (Err (Fixed ListUnreadable))
unreadable_by l outcome b e f g = subst (λ (x : Listing). IsListingResult x (Err (Fixed ListUnreadable))) (sym (e ∙ ap (listing.Ended outcome) g)) (unreadable outcome (sym f))

pub too_long_by : (l : Listing) (outcome : Ending) (b : ListBytes) → l ≡ listing.Ended outcome b → None ≡ list_failure_reason outcome → b ≡ bytes.TooLong → IsListingResult l (Err (Fixed ListTooLong))
too_long_by l outcome b e f g = subst (λ (x : Listing). IsListingResult x (Err (Fixed ListTooLong))) (sym (e ∙ ap (listing.Ended outcome) g)) (too_long outcome (sym f))

pub read_by : (l : Listing) (outcome : Ending) (b : ListBytes) (text : List ℕ) (found : Result (List CaseDef) Reason) → l ≡ listing.Ended outcome b → None ≡ list_failure_reason outcome → b ≡ bytes.Read text
    → IsParsedList text found → IsListingResult l found
read_by l outcome b text found e f g h = subst (λ (x : Listing). IsListingResult x found) (sym (e ∙ ap (listing.Ended outcome) g)) (read outcome text found (sym f) h)
