-- Exports the definitions that the clauses of this crate cite. Declares nothing.
pub use Rattle.std.specs.List.{filter, find, list_any}
pub use Rattle.std.specs.Option.{option_copied, option_map}
pub use Rattle.kt_base.specs.Characters.{is_space}
pub use Rattle.kt_base.specs.LastValues.{last_values, value_of}
pub use Rattle.kt_base.specs.Limits.{longest_timeout_seconds}
pub use Rattle.kt_base.specs.Reasons.{reason_text}
pub use Rattle.kt_base.specs.declared.variable.Variable.{Variable}
pub use Rattle.kt_metadata.specs.Configured.{is_undefined}
pub use Rattle.kt_metadata.specs.Effective.{effective, parsed_value, size_or_default, texts_of, timeout_or_default, truth_in, user_in, elements_in}
pub use Rattle.kt_metadata.specs.Inner.Layers.{HasParsedValue, program_layer}
pub use Rattle.kt_metadata.specs.Inner.Rows.{row_in}
pub use Rattle.kt_metadata.specs.ListKeys.{IsKeyOf, has_key, name_of_key}
pub use Rattle.kt_metadata.specs.Listing.{custom_pairs, has_value, listing, property_pairs, property_text}
pub use Rattle.kt_metadata.specs.Overlays.{name_with_value}
pub use Rattle.kt_metadata.specs.Properties.{IfFault, definition_fault, non_empty_text, form_of_property, has_name, is_custom, is_kyuafile_property, non_empty_suffix, value_of_text}
pub use Rattle.kt_metadata.specs.Requirements.{RecordsAsFound, amount_reason_text, architecture_reason_text, config_reason_text, first_reason, host_reason_texts, is_allowed, is_found, unsupported_reason_text, need_reason_text, required_objects, platform_reason_text, requirement_reason_texts, text_in, user_reason_text}
pub use Rattle.kt_metadata.specs.Values.{factor_of, is_not_absolute, is_relative_with_slash, timeout_of_number, number_of, checked_product, truth_of, unit_of, user_of}
pub use Rattle.kt_metadata.specs.Words.{AreElements, with_element, list_elements, elements_from}
pub use Rattle.kt_metadata.specs.declared.host.Need.{Need}
