-- Listings of a case's properties over a program's properties.
use Rattle.std.proofs.Common.{◌≡◌, ◌∙◌, ◌++◌, ap, append-nil, sym, List, [], ℕ, Option, Some}
use Rattle.std.specs.Rc.{rc_value}
use Rattle.std.specs.declared.rc.Rc.{Rc}
use Rattle.kt_metadata.proofs.Common.{fun_ext, Variable, last_values, twice, value_is, texts_of, custom_pairs, property_pairs, table, program_layer}
use Rattle.kt_metadata.specs.Listing.{listing}

-- The listing of the last values is the listing of the definitions.
pub listing-settled : (definitions : List Variable) → listing (last_values definitions) ≡ listing definitions
listing-settled definitions =
    ap (λ (pairs : List Variable). property_pairs (texts_of (last_values definitions)) table ++ custom_pairs pairs) (twice definitions)
    ∙ ap (λ (texts : List ℕ → Option (List ℕ)). property_pairs texts table ++ custom_pairs (last_values definitions)) (fun_ext (λ (name : List ℕ). value_is name definitions))

-- If a case sets no property, its listing is the listing of its program's shared layer.
pub listing-alone : {Z : Type 0} (program : Option (Rc (List Variable) Z)) (layer : Rc (List Variable) Z) (own all : List Variable)
    → last_values (program_layer program ++ own) ≡ all → program ≡ Some layer → own ≡ [] → listing (rc_value layer) ≡ listing all
listing-alone program layer own all v e n =
    sym (ap listing (sym v ∙ ap (λ (pairs : List Variable). last_values (program_layer program ++ pairs)) n
    ∙ ap (λ p. last_values (program_layer p ++ [])) e ∙ ap last_values (append-nil (rc_value layer))) ∙ listing-settled (rc_value layer))
