-- The properties of a case as names with texts.
use Rattle.std.specs.Prelude.{ℕ, Bool, true, false, not, List, [], ◌∷◌, ◌++◌, Option, codes, map, unwrap_or}
use Rattle.std.specs.List.{filter}
use Rattle.std.specs.Fmt.{decimal}
use Rattle.kt_base.specs.declared.variable.Variable.{Variable}
use Rattle.kt_base.specs.LastValues.{last_values}
use Rattle.kt_base.specs.Texts.{is_empty}
use Rattle.kt_metadata.specs.declared.form.Form.{Form}
use Rattle.kt_metadata.specs.declared.form.Form.TheVariants as form
use Rattle.kt_metadata.specs.declared.value.RequiredUser.{RequiredUser}
use Rattle.kt_metadata.specs.declared.value.RequiredUser.TheVariants.{Any, Root, Unprivileged}
use Rattle.kt_metadata.specs.declared.value.Value.{Value}
use Rattle.kt_metadata.specs.declared.value.Value.TheVariants as value
use Rattle.kt_metadata.specs.Properties.{PropertyRow, table, is_custom}
use Rattle.kt_metadata.specs.Effective.{texts_of, parsed_value, default_timeout_seconds}

-- `space_prefixed words`: the concatenation of the elements `words`, with a space before each
-- element.
abbrev pub space_prefixed : List (List ℕ) → List ℕ
space_prefixed [] = []
space_prefixed (word ∷ words) = 32 ∷ (word ++ space_prefixed words)

-- `space_joined words`: the concatenation of the elements `words`, with one space between two
-- elements.
abbrev pub space_joined : List (List ℕ) → List ℕ
space_joined [] = []
space_joined (word ∷ words) = word ++ space_prefixed words

-- `truth_text value`: the text of the truth value `value` in a listing of properties.
abbrev pub truth_text : Bool → List ℕ
truth_text true = codes "true"
truth_text false = codes "false"

-- `user_text user`: the text of the required user `user` in a listing of properties. It is empty
-- for `Any`.
abbrev pub user_text : RequiredUser → List ℕ
user_text Any = []
user_text Root = codes "root"
user_text Unprivileged = codes "unprivileged"

-- `listing_text value text`: the text of the value `value` in a listing of properties. The value
-- was parsed from the text `text`.
abbrev pub listing_text : Value → List ℕ → List ℕ
listing_text (value.Elements words) text = space_joined words
listing_text value.Text text = text
listing_text (value.Truth b) text = truth_text b
listing_text (value.Size bytes) text = decimal bytes
listing_text (value.RequiredUser user) text = user_text user
listing_text (value.Timeout seconds) text = decimal seconds

-- `default_value form`: the value of a property that isn't set, if its values have the form `form`.
abbrev pub default_value : Form → Value
default_value form.Elements = value.Elements []
default_value form.Files = value.Elements []
default_value form.Programs = value.Elements []
default_value form.Text = value.Text
default_value form.Truth = value.Truth false
default_value form.Size = value.Size 0
default_value form.RequiredUser = value.RequiredUser Any
default_value form.Timeout = value.Timeout default_timeout_seconds

-- `property_text texts r`: the text that a listing has for the property in the table row `r`. It is
-- the text of the property's value, or of its default value if the property isn't set. The function
-- `texts` maps the name of a property to the text to which the property is set, or to nothing.
abbrev pub property_text : (List ℕ → Option (List ℕ)) → PropertyRow → List ℕ
property_text texts r = listing_text (unwrap_or (parsed_value texts r.name) (default_value r.form)) (unwrap_or (texts r.name) [])

-- `property_pair texts r`: the name of the property in the table row `r`, with the text that a
-- listing has for the property. The function `texts` maps the name of a property to the text to
-- which the property is set, or to nothing.
abbrev pub property_pair : (List ℕ → Option (List ℕ)) → PropertyRow → Variable
property_pair texts r = record { name = r.name; value = property_text texts r }

-- `has_value pair`: the value of the name-value pair `pair` isn't empty.
abbrev pub has_value : Variable → Bool
has_value pair = not (is_empty pair.value)

-- `is_custom_pair pair`: the name in the pair `pair` is the name of a custom property.
abbrev pub is_custom_pair : Variable → Bool
is_custom_pair pair = is_custom pair.name

-- `property_pairs texts rows`: for each property in the table rows `rows`, its name with the text
-- that a listing has for it, in order. Properties with empty texts are omitted. The function
-- `texts` maps the name of a property to the text to which the property is set, or to nothing.
abbrev pub property_pairs : (List ℕ → Option (List ℕ)) → List PropertyRow → List Variable
property_pairs texts rows = filter has_value (map (property_pair texts) rows)

-- `custom_pairs pairs`: the pairs of custom properties in `pairs`, in order, without those whose
-- text is empty.
abbrev pub custom_pairs : List Variable → List Variable
custom_pairs pairs = filter has_value (filter is_custom_pair pairs)

-- `listing definitions`: the listing of the properties of a program or a case, which has the
-- definitions `definitions`. The listing has pairs of names and texts. First come the properties of
-- the table, in its order. An unset property of the table has the text of its default value. The
-- custom properties that are set follow, in the order of their first definitions. Properties with
-- empty texts are omitted.
abbrev pub listing : List Variable → List Variable
listing definitions = property_pairs (texts_of definitions) table ++ custom_pairs (last_values definitions)
