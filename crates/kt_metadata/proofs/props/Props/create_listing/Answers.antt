use Rattle.std.proofs.Common.{◌∙◌, ◌++◌, ap, List}
use Rattle.kt_metadata.proofs.Common.{chars, Variable, texts_of, custom_pairs, property_pairs, table}
use Rattle.kt_metadata.proofs.props.Props.create_listing.Goals as goal

pub returns : goal.returns
unfolding chars
returns c =
    c.in_ok-add_custom_properties.ensures
    ∙ ap (λ (pairs : List Variable). pairs ++ custom_pairs c.args.self.now) (c.in_ok-add_table_properties.ensures ∙ ap (λ (pairs : List Variable). pairs ++ property_pairs (texts_of c.args.self.now) table) c.new-pairs.ensures)
    ∙ ap (λ (pairs : List Variable). property_pairs (texts_of c.args.self.now) table ++ custom_pairs pairs) c.allocator.ensures
