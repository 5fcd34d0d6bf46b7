-- The test cases of a program, by its interface and the result of its listing.
use Rattle.std.proofs.Common.{Result, Ok, Err, ◌≡◌, ◌⊎◌, inl, inr, List, [], ◌∷◌, Option, Some, map, sym, subst}
use Rattle.kt_atflist.proofs.Common.{Interface, Reason, Variable, overlaid_case, main_case, list_case, AreCases, tap, plain, listed, unlisted, IsListingResult, CaseDef, Listing}
use Rattle.kt_base.specs.declared.child.Interface.TheVariants.{Atf, Tap, Plain}

pub listed_by : (props : List Variable) (listing : Listing) (found : Result (List CaseDef) Reason) (own cases : List CaseDef) → IsListingResult listing found → found ≡ Ok own
    → cases ≡ map (overlaid_case props) own → AreCases props Atf (Some listing) cases
listed_by props listing found own cases l e f = subst (AreCases props Atf (Some listing)) (sym f) (listed listing own (subst (IsListingResult listing) e l))

pub unlisted_by : (props : List Variable) (listing : Listing) (found : Result (List CaseDef) Reason) (reason : Reason) (cases : List CaseDef) → IsListingResult listing found → found ≡ Err reason
    → cases ≡ overlaid_case props (list_case reason) ∷ [] → AreCases props Atf (Some listing) cases
unlisted_by props listing found reason cases l e f = subst (AreCases props Atf (Some listing)) (sym f) (unlisted listing reason (subst (IsListingResult listing) e l))

pub main_by : (props : List Variable) (interface : Interface) (listing : Option Listing) (cases : List CaseDef) → (interface ≡ Tap) ⊎ (interface ≡ Plain)
    → cases ≡ overlaid_case props main_case ∷ [] → AreCases props interface listing cases
main_by props interface listing cases (inl e) f = rw (e, f) (tap listing)
main_by props interface listing cases (inr e) f = rw (e, f) (plain listing)
