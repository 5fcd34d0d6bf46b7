-- The table of properties and the values of their texts.
use Rattle.std.specs.Prelude.{ℕ, Bool, not, ◌==◌, ◌&&◌, bytes_eq, codes, List, [], ◌∷◌, Option, Some, None, is_some, option_and_then, if◌then◌else◌, Result, Ok, Err}
use Rattle.std.specs.List.{find, list_any}
use Rattle.std.specs.Option.{option_map}
use Rattle.kt_metadata.specs.declared.form.Form.{Form}
use Rattle.kt_metadata.specs.declared.form.Form.TheVariants as form
use Rattle.kt_metadata.specs.declared.value.Value.{Value}
use Rattle.kt_metadata.specs.declared.value.Value.TheVariants as value
use Rattle.kt_metadata.specs.declared.fault.PropFault.{PropFault}
use Rattle.kt_metadata.specs.declared.fault.PropFault.TheVariants.{NoMemory, UnknownProperty, BadValue}
use Rattle.kt_metadata.specs.Words.{list_elements}
use Rattle.kt_metadata.specs.Values.{truth_of, user_of, size_of, timeout_of, is_not_absolute, is_relative_with_slash}

-- `PropertyRow`: a row of the table of properties with fixed names. It has the name of a property,
-- its key in lists of ATF cases, and the form of its values.
pub record PropertyRow : Type 0 where
  pub name : List ℕ
  pub key : List ℕ
  pub form : Form

-- `row name key f`: the table row of the property `name` with the key `key` and values of the form
-- `f`.
abbrev row : List ℕ → List ℕ → Form → PropertyRow
row name key f = record { name = name; key = key; form = f }

-- `table`: the rows of the properties with fixed names, in the order of a listing of properties.
abbrev pub table : List PropertyRow
table =
    row (codes "allowed_architectures") (codes "require.arch") form.Elements
    ∷ row (codes "allowed_platforms") (codes "require.machine") form.Elements
    ∷ row (codes "description") (codes "descr") form.Text
    ∷ row (codes "has_cleanup") (codes "has.cleanup") form.Truth
    ∷ row (codes "is_exclusive") (codes "is.exclusive") form.Truth
    ∷ row (codes "required_configs") (codes "require.config") form.Elements
    ∷ row (codes "required_disk_space") (codes "require.diskspace") form.Size
    ∷ row (codes "required_files") (codes "require.files") form.Files
    ∷ row (codes "required_memory") (codes "require.memory") form.Size
    ∷ row (codes "required_programs") (codes "require.progs") form.Programs
    ∷ row (codes "required_user") (codes "require.user") form.RequiredUser
    ∷ row (codes "timeout") (codes "timeout") form.Timeout ∷ []

-- `non_empty_text text`: the text `text`, or nothing if it is empty.
abbrev pub non_empty_text : List ℕ → Option (List ℕ)
non_empty_text [] = None
non_empty_text (c ∷ cs) = Some (c ∷ cs)

-- `after_prefix front text`: the text `text` without its prefix `front`, or nothing if `text`
-- doesn't begin with `front`.
abbrev pub after_prefix : List ℕ → List ℕ → Option (List ℕ)
after_prefix [] text = Some text
after_prefix (c ∷ front) [] = None
after_prefix (c ∷ front) (d ∷ text) = if c == d then after_prefix front text else None

-- `non_empty_suffix front text`: the text `text` without its prefix `front`. Nothing if `text`
-- doesn't begin with `front` or has nothing after it.
abbrev pub non_empty_suffix : List ℕ → List ℕ → Option (List ℕ)
non_empty_suffix front text = option_and_then non_empty_text (after_prefix front text)

-- `is_custom name`: the text `name` is the name of a custom property: `custom.` and at least one
-- character.
abbrev pub is_custom : List ℕ → Bool
is_custom name = is_some (non_empty_suffix (codes "custom.") name)

-- `has_name name r`: the name in the row `r` of the property table is `name`.
abbrev pub has_name : List ℕ → PropertyRow → Bool
has_name name r = bytes_eq name r.name

-- `form_of_property name`: the form of the values of the property `name`. It is `Text` for a custom
-- property, otherwise the form in the table. Nothing if no property has this name.
abbrev pub form_of_property : List ℕ → Option Form
form_of_property name = if is_custom name then Some form.Text else option_map (λ r. r.form) (find (has_name name) table)

-- `is_kyuafile_property name`: a Kyuafile may set the property `name`. The property exists, and is
-- not `has_cleanup`, which only a list of ATF cases may set.
abbrev pub is_kyuafile_property : List ℕ → Bool
is_kyuafile_property name = not (bytes_eq name (codes "has_cleanup")) && is_some (form_of_property name)

-- `valid_elements is_wrong found`: the list `found` as a property value, or nothing if one of its
-- elements satisfies the test `is_wrong`.
abbrev pub valid_elements : (List ℕ → Bool) → List (List ℕ) → Option Value
valid_elements is_wrong found = if list_any is_wrong found then None else Some (value.Elements found)

-- `value_in form text`: the value of the form `form` that `text` represents, or nothing if `text`
-- is invalid.
abbrev pub value_in : Form → List ℕ → Option Value
value_in form.Elements text = Some (value.Elements (list_elements text))
value_in form.Files text = valid_elements is_not_absolute (list_elements text)
value_in form.Programs text = valid_elements is_relative_with_slash (list_elements text)
value_in form.Text text = Some value.Text
value_in form.Truth text = option_map (λ b. value.Truth b) (truth_of text)
value_in form.Size text = option_map (λ n. value.Size n) (size_of text)
value_in form.RequiredUser text = option_map (λ u. value.RequiredUser u) (user_of text)
value_in form.Timeout text = option_map (λ n. value.Timeout n) (timeout_of text)

-- `value_of_text name text`: the value of the property `name` that `text` represents, or nothing if
-- the name or the text is invalid.
abbrev pub value_of_text : List ℕ → List ℕ → Option Value
value_of_text name text = option_and_then (λ f. value_in f text) (form_of_property name)

-- `value_fault form text`: the error of setting a property to `text`, or nothing if this succeeds.
-- The values of the property have the form `form`. If `form` is absent, the property is unknown.
abbrev pub value_fault : Option Form → List ℕ → Option PropFault
value_fault None text = Some UnknownProperty
value_fault (Some f) text = if is_some (value_in f text) then None else Some BadValue

-- `definition_fault name text`: the error of setting the property `name` to `text`, or nothing if
-- this succeeds. If no property has the name `name`, the error is `UnknownProperty` for each
-- `text`.
abbrev pub definition_fault : List ℕ → List ℕ → Option PropFault
definition_fault name text = value_fault (form_of_property name) text

-- `IfFault result P`: if `result` is an error other than `NoMemory`, the error satisfies the
-- predicate `P`.
abbrev pub IfFault : {T : Type 0} → Result T PropFault → (PropFault → Type 0) → Type 0
IfFault (Ok x) P = Unit {0}
IfFault (Err (NoMemory refusal)) P = Unit {0}
IfFault (Err fault) P = P fault
