-- The test cases of a program.
use Rattle.std.specs.Prelude.{List, [], ◌∷◌, ◌++◌, Option, Some, Ok, Err, map, codes}
use Rattle.kt_base.specs.LastValues.{last_values}
use Rattle.kt_base.specs.declared.child.Interface.{Interface}
use Rattle.kt_base.specs.declared.child.Interface.TheVariants.{Atf, Tap, Plain}
use Rattle.kt_base.specs.declared.verdict.Reason.{Reason}
use Rattle.kt_base.specs.declared.variable.Variable.{Variable}
use Rattle.kt_atflist.specs.Listings.{IsListingResult}
use Rattle.kt_atflist.specs.Blocks.{empty_case}
use Rattle.kt_atflist.specs.declared.listing.CaseDef.{CaseDef}
use Rattle.kt_atflist.specs.declared.listing.Listing.{Listing}

-- `overlaid_case props case`: the test case `case` with the properties `props` of its program
-- added. A property of the case replaces the same property of the program.
abbrev pub overlaid_case : List Variable → CaseDef → CaseDef
overlaid_case props case = record { name = case.name; props = last_values (props ++ case.props); fault = case.fault }

-- `main_case`: the only case of a TAP or plain program, before the program's properties are added.
abbrev pub main_case : CaseDef
main_case = empty_case (codes "main")

-- `list_case reason`: the only case of an ATF program whose list of test cases can't be used. Its
-- fault is the reason `reason`.
abbrev pub list_case : Reason → CaseDef
list_case reason = record { name = codes "__test_cases_list__"; props = []; fault = Some reason }

-- `AreCases props interface listing cases`: `cases` are the test cases, in order, of a program with
-- the properties `props` and the interface `interface`. `listing` is the result of running an ATF
-- program to list its cases. It must be present for an ATF program, and is ignored for another
-- program.
pub data AreCases (props : List Variable) : Interface → Option Listing → List CaseDef → Type 0 where
  tap : (listing : Option Listing) → AreCases props Tap listing (overlaid_case props main_case ∷ [])
  plain : (listing : Option Listing) → AreCases props Plain listing (overlaid_case props main_case ∷ [])
  listed : (listing : Listing) (found : List CaseDef) → IsListingResult listing (Ok found) → AreCases props Atf (Some listing) (map (overlaid_case props) found)
  unlisted : (listing : Listing) (reason : Reason) → IsListingResult listing (Err reason) → AreCases props Atf (Some listing) (overlaid_case props (list_case reason) ∷ [])
