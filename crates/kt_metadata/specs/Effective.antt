-- The properties of a case, with their defaults.
use Rattle.std.specs.Prelude.{ℕ, Bool, false, codes, List, [], Option, Some, unwrap_or, option_and_then}
use Rattle.kt_base.specs.declared.variable.Variable.{Variable}
use Rattle.kt_base.specs.LastValues.{value_of}
use Rattle.kt_metadata.specs.declared.value.RequiredUser.{RequiredUser}
use Rattle.kt_metadata.specs.declared.value.RequiredUser.TheVariants.{Any}
use Rattle.kt_metadata.specs.declared.value.Value.{Value}
use Rattle.kt_metadata.specs.declared.value.Value.TheVariants.{Elements, Truth, Size, RequiredUser as OfUser, Timeout}
use Rattle.kt_metadata.specs.declared.meta.Meta.{Meta}
use Rattle.kt_metadata.specs.Properties.{value_of_text}

-- `texts_of definitions name`: the text of the last definition of the property `name` in the list
-- `definitions`, or nothing if the list does not define the property.
abbrev pub texts_of : List Variable → List ℕ → Option (List ℕ)
texts_of definitions name = value_of name definitions

-- `parsed_value texts name`: the value of the property `name`, or nothing if the property isn't set
-- or its text is invalid. The function `texts` maps the name of a property to the text to which the
-- property is set, or to nothing.
abbrev pub parsed_value : (List ℕ → Option (List ℕ)) → List ℕ → Option Value
parsed_value texts name = option_and_then (value_of_text name) (texts name)

-- `elements_in value`: the elements of the value `value`, or an empty list if `value` is absent or
-- isn't a list.
abbrev pub elements_in : Option Value → List (List ℕ)
elements_in (Some (Elements found)) = found
elements_in other = []

-- `truth_in value`: the truth value `value`, or false if `value` is absent or isn't a truth value.
abbrev pub truth_in : Option Value → Bool
truth_in (Some (Truth b)) = b
truth_in other = false

-- `size_or_default value`: the size `value`, in bytes, or 0 if `value` is absent or isn't a size.
abbrev pub size_or_default : Option Value → ℕ
size_or_default (Some (Size bytes)) = bytes
size_or_default other = 0

-- `user_in value`: the required user `value`, or `Any` if `value` is absent or isn't a user.
abbrev pub user_in : Option Value → RequiredUser
user_in (Some (OfUser user)) = user
user_in other = Any

-- `default_timeout_seconds`: the timeout of a case without a `timeout` property, in seconds.
abbrev pub default_timeout_seconds : ℕ
default_timeout_seconds = 300

-- `timeout_or_default value`: the timeout `value`, in seconds, or the default timeout if `value` is
-- absent or isn't a timeout.
abbrev pub timeout_or_default : Option Value → ℕ
timeout_or_default (Some (Timeout seconds)) = seconds
timeout_or_default other = default_timeout_seconds

-- `meta_of texts`: the effective properties of a case. Each has the value that its text represents,
-- or its default if it isn't set. The function `texts` maps the name of a property to the text to
-- which the property is set, or to nothing.
abbrev pub meta_of : (List ℕ → Option (List ℕ)) → Meta
meta_of texts = record {
  allowed_architectures = elements_in (parsed_value texts (codes "allowed_architectures"));
  allowed_platforms = elements_in (parsed_value texts (codes "allowed_platforms"));
  description = unwrap_or (texts (codes "description")) [];
  has_cleanup = truth_in (parsed_value texts (codes "has_cleanup"));
  is_exclusive = truth_in (parsed_value texts (codes "is_exclusive"));
  required_configs = elements_in (parsed_value texts (codes "required_configs"));
  required_disk_space = size_or_default (parsed_value texts (codes "required_disk_space"));
  required_files = elements_in (parsed_value texts (codes "required_files"));
  required_memory = size_or_default (parsed_value texts (codes "required_memory"));
  required_programs = elements_in (parsed_value texts (codes "required_programs"));
  required_user = user_in (parsed_value texts (codes "required_user"));
  timeout = timeout_or_default (parsed_value texts (codes "timeout"));
}

-- `effective definitions`: the effective properties of a case with the definitions `definitions`:
-- each has the value of its last definition, or its default.
abbrev pub effective : List Variable → Meta
effective definitions = meta_of (texts_of definitions)
