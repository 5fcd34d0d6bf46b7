use Rattle.std.proofs.Common.{◌≡◌, ◌∙◌, [], ap, List, IfOk, subst}
use Rattle.kt_metadata.proofs.Common.{Variable}
use Rattle.kt_metadata.proofs.Listings.{listing-settled, listing-alone}
use Rattle.kt_metadata.specs.Listing.{listing}
use Rattle.kt_metadata.proofs.props.Props.listing.Goals as goal
use Rattle.kt_metadata.proofs.props.Props.listing.Goals.{After-listing}

-- If the case sets no property, the listing is the listing of the program.
alone : (c : After-listing) → listing c.deref.result.now ≡ listing c.args.self.now
alone c =
    let none : c.self.inside.own ≡ [] = c.is_empty.ensures.0 c.if-is_empty.true in
    ap listing c.deref.ensures ∙ listing-alone c.self.inside.program c.in-Some.program c.self.inside.own c.args.self.now c.self.view_is c.in-Some.is none

pub returns-in-Some-clause-value : goal.returns-in-Some-clause-value
returns-in-Some-clause-value c =
    subst (λ (all : List Variable). IfOk c.listing.result (λ (pairs : List Variable). pairs ≡ all)) (alone c) c.listing.ensures

pub returns-in-Some-clause-defined : goal.returns-in-Some-clause-defined
returns-in-Some-clause-defined c = λ definitions last.
    subst (λ (all : List Variable). IfOk c.listing.result (λ (pairs : List Variable). pairs ≡ all)) (alone c ∙ ap listing last ∙ listing-settled definitions) c.listing.ensures

pub returns-in_default-clause-defined : goal.returns-in_default-clause-defined
returns-in_default-clause-defined c = λ definitions last.
    subst (λ (all : List Variable). IfOk c.create_listing.result (λ (pairs : List Variable). pairs ≡ all)) (ap listing last ∙ listing-settled definitions) c.create_listing.ensures
