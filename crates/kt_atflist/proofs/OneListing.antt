-- A listing has at most one result, and a program at most one list of cases.
use Rattle.std.proofs.Common.{Result, Ok, Err, ◌≡◌, ℕ, List, [], ◌∷◌, Option, Some, None, map, refl, ap, sym, ◌∙◌}
use Rattle.kt_atflist.proofs.Common.{Interface, NoMemory, Phrase, Reason, Counted, Variable, overlaid_case, list_case, AreCases, tap, plain, listed, unlisted, fault_phrase, list_failure_reason, IsParsedList, no_list, IsListingResult, unstarted, unreadable, too_long, read, ParseResult, CaseDef, ListFault, Listing}
use Rattle.kt_atflist.specs.Listings.{listed as read_list, unlisted as unread}
use Rattle.kt_atflist.proofs.Lists.{one_answer}

-- `Found`: the result of a listing: cases, or the reason why it can't be used.
abbrev Found : Type 0
Found = Result (List CaseDef) Reason

-- `fault_in result other`: the fault in `result`, or the fault `other` if `result` has cases.
abbrev fault_in : ParseResult → ListFault → ListFault
fault_in (Ok cases) other = other
fault_in (Err fault) other = fault

-- `cases_in result other`: the cases in `result`, or the cases `other` if `result` is a fault.
abbrev cases_in : ParseResult → List CaseDef → List CaseDef
cases_in (Ok cases) other = cases
cases_in (Err fault) other = other

-- `phrase_in result other`: the phrase in `result`, or the phrase `other` if `result` is an error.
abbrev phrase_in : Result Phrase NoMemory → Phrase → Phrase
phrase_in (Ok phrase) other = phrase
phrase_in (Err refusal) other = other

same_fault : (text : List ℕ) (f g : ListFault) (p q : Phrase) → f ≡ g → fault_phrase f.cause ≡ Ok p → fault_phrase g.cause ≡ Ok q → ◌≡◌ {A = Found} (Err (Counted p f.line 0)) (Err (Counted q g.line 0))
same_fault text f g p q e h i =
    let same : p ≡ q = ap (λ (r : Result Phrase NoMemory). phrase_in r p) (sym h ∙ ap (λ (x : ListFault). fault_phrase x.cause) e ∙ i) in
    ap (λ (x : Phrase). Err (Counted x f.line 0)) same ∙ ap (λ (x : ListFault). Err (Counted q x.line 0)) e

read_once : (text : List ℕ) (a b : Found) → IsParsedList text a → IsParsedList text b → a ≡ b
read_once text a b (no_list f p d h) (no_list g q e i) = same_fault text f g p q (ap (λ (o : ParseResult). fault_in o f) (one_answer text (Err f) (Err g) d e)) h i
read_once text a b (no_list f p d h) (read_list cases s) = let z = one_answer text (Err f) (Ok cases) d s in absurd (cc)
read_once text a b (read_list cases s) (no_list g q e i) = let z = one_answer text (Ok cases) (Err g) s e in absurd (cc)
read_once text a b (read_list cases s) (read_list others t) = ap (λ (o : ParseResult). Ok (cases_in o cases)) (one_answer text (Ok cases) (Ok others) s t)

-- `reason_in reason other`: the optional reason `reason`, or the reason `other` if it is absent.
abbrev reason_in : Option Reason → Reason → Reason
reason_in (Some reason) other = reason
reason_in None other = other

same_reason : (o : Option Reason) (r s : Reason) → o ≡ Some r → o ≡ Some s → ◌≡◌ {A = Found} (Err r) (Err s)
same_reason o r s e f = ap (λ (x : Option Reason). Err (reason_in x r)) (sym e ∙ f)

no_reason : (o : Option Reason) (r : Reason) → o ≡ Some r → o ≡ None → ⊥
no_reason o r e f = let z = sym e ∙ f in absurd (cc)

lists_once : (listing : Listing) (a b : Found) → IsListingResult listing a → IsListingResult listing b → a ≡ b
lists_once listing a b (unstarted r) (unstarted _) = refl
lists_once listing a b (unread o bs r e) (unread _ _ s f) = same_reason (list_failure_reason o) r s e f
lists_once listing a b (unread o bs r e) (unreadable _ f) = absurd (no_reason (list_failure_reason o) r e f)
lists_once listing a b (unread o bs r e) (too_long _ f) = absurd (no_reason (list_failure_reason o) r e f)
lists_once listing a b (unread o bs r e) (read _ text found f h) = absurd (no_reason (list_failure_reason o) r e f)
lists_once listing a b (unreadable o e) (unread _ _ s f) = absurd (no_reason (list_failure_reason o) s f e)
lists_once listing a b (unreadable o e) (unreadable _ f) = refl
lists_once listing a b (too_long o e) (unread _ _ s f) = absurd (no_reason (list_failure_reason o) s f e)
lists_once listing a b (too_long o e) (too_long _ f) = refl
lists_once listing a b (read o text found e h) (unread _ _ s f) = absurd (no_reason (list_failure_reason o) s f e)
lists_once listing a b (read o text found e h) (read _ _ other f i) = read_once text found other h i

-- `found_in found other`: the cases in `found`, or the cases `other` if `found` is a reason.
abbrev found_in : Found → List CaseDef → List CaseDef
found_in (Ok cases) other = cases
found_in (Err reason) other = other

-- `why_in found other`: the reason in `found`, or the reason `other` if `found` has cases.
abbrev why_in : Found → Reason → Reason
why_in (Ok cases) other = other
why_in (Err reason) other = reason

pub cases_once : (props : List Variable) (interface : Interface) (listing : Option Listing) (first second : List CaseDef) → AreCases props interface listing first → AreCases props interface listing second
    → first ≡ second
cases_once props interface listing first second (tap _) (tap _) = refl
cases_once props interface listing first second (plain _) (plain _) = refl
cases_once props interface listing first second (listed l cases h) (listed _ others i) =
    ap (λ (f : Found). map (overlaid_case props) (found_in f cases)) (lists_once l (Ok cases) (Ok others) h i)
cases_once props interface listing first second (listed l cases h) (unlisted _ reason i) = let z = lists_once l (Ok cases) (Err reason) h i in absurd (cc)
cases_once props interface listing first second (unlisted l reason h) (listed _ others i) = let z = lists_once l (Err reason) (Ok others) h i in absurd (cc)
cases_once props interface listing first second (unlisted l reason h) (unlisted _ other i) =
    ap (λ (f : Found). overlaid_case props (list_case (why_in f reason)) ∷ []) (lists_once l (Err reason) (Err other) h i)
