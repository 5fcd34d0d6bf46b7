-- Exports the names that most proofs of this crate cite. Declares nothing.
pub use Rattle.std.proofs.Math.Path.{fun_ext}
pub use Rattle.std.proofs.lemmas.Grind.{common_steps}
pub use Rattle.std.proofs.lemmas.Str.{IsUtf8-string_bytes, chars-append, chars-nil, encodes-append, encodes-chars}
pub use Rattle.std.specs.BTreeSet.{IsEmpty, contains_text}
pub use Rattle.std.specs.List.{find, list_all, list_any}
pub use Rattle.std.specs.Option.{option_copied, option_map, option_or}
pub use Rattle.std.specs.Str.{IsUtf8}
unfoldable pub use Rattle.std.specs.Str.{chars}
pub use Rattle.std.specs.String.{string_bytes, string_eq}
pub use Rattle.std.specs.declared.string.String.{String}
pub use Rattle.kt_base.proofs.LastValueLaws.{overlaid, twice, value_is}
pub use Rattle.kt_base.proofs.Names.{same, value_of-append}
pub use Rattle.kt_base.specs.Characters.{is_space}
pub use Rattle.kt_base.specs.LastValues.{last_values, value_of}
pub use Rattle.kt_base.specs.Utf8.{utf8}
pub use Rattle.kt_base.specs.declared.variable.Variable.{Variable}
pub use Rattle.kt_config.proofs.Puttings.{first-settled, first_value, put, put-settled, settled-put}
pub use Rattle.kt_metadata.specs.Effective.{parsed_value, meta_of, size_or_default, texts_of, timeout_or_default, truth_in, user_in, elements_in}
pub use Rattle.kt_metadata.specs.Inner.Layers.{HaveParsedValues, AreConsistent, HasParsedValue, program_layer, pair_in, pairs_in}
pub use Rattle.kt_metadata.specs.Inner.Rows.{row_in}
pub use Rattle.kt_metadata.specs.ListKeys.{IsKeyOf, has_key, name_of_key}
pub use Rattle.kt_metadata.specs.Listing.{custom_pairs, property_pairs, space_prefixed, truth_text, user_text}
pub use Rattle.kt_metadata.specs.Overlays.{name_with_value}
pub use Rattle.kt_metadata.specs.Properties.{PropertyRow, after_prefix, non_empty_text, form_of_property, has_name, is_custom, non_empty_suffix, table, value_fault, value_in, value_of_text}
pub use Rattle.kt_metadata.specs.Requirements.{RecordsAsFound, enclosed_text, is_allowed, is_found, is_same_need, unsupported_reason_text, need_text, required_objects}
pub use Rattle.kt_metadata.specs.Words.{AreElements, IsElementEnd, with_element, is_element, list_elements, elements_from}
pub use Rattle.kt_metadata.specs.declared.host.Host.{Host}
pub use Rattle.kt_metadata.specs.declared.host.Need.{Need}
pub use Rattle.kt_metadata.specs.declared.host.Need.TheVariants.{File, Program}
pub use Rattle.kt_metadata.specs.declared.value.PropertyDefinition.{PropertyDefinition}
