-- Lists of names with their last values.
use Rattle.std.specs.Prelude.{◌≡◌, ℕ, Bool, not, List, [], ◌∷◌, ◌++◌, Option, Some, None, unwrap_or, if◌then◌else◌}
use Rattle.std.specs.List.{filter}
use Rattle.std.specs.Option.{option_or}
use Rattle.std.specs.Str.{bytes_eq}
use Rattle.kt_base.specs.declared.variable.Variable.{Variable}

-- `is_named name pair`: the name of the pair `pair` is `name`.
abbrev pub is_named : List ℕ → Variable → Bool
is_named name pair = bytes_eq name pair.name

-- `value_of name pairs`: the value of the last pair named `name` in the list `pairs`, or nothing if
-- no pair has this name.
abbrev pub value_of : List ℕ → List Variable → Option (List ℕ)
value_of name [] = None
value_of name (pair ∷ pairs) = option_or (value_of name pairs) (if is_named name pair then Some pair.value else None)

-- `pairs_without name pairs`: `pairs` without the pairs named `name`.
abbrev pub pairs_without : List ℕ → List Variable → List Variable
pairs_without name pairs = filter (λ pair. not (is_named name pair)) pairs

-- `last_values pairs`: one pair for each name in `pairs`, with the last value of that name. The
-- names are in the order of their first occurrences.
abbrev pub last_values : List Variable → List Variable
last_values [] = []
last_values (pair ∷ pairs) = record { name = pair.name; value = unwrap_or (value_of pair.name pairs) pair.value } ∷ pairs_without pair.name (last_values pairs)

-- `Replaces pair old new`: the list `new` is the list `old` with `pair` in place of one pair of the
-- same name.
pub record Replaces (pair : Variable) (old new : List Variable) : Type 0 where
  pub front : List Variable
  pub back : List Variable
  pub before : Variable
  pub name : before.name ≡ pair.name
  pub old_is : old ≡ front ++ before ∷ back
  pub new_is : new ≡ front ++ pair ∷ back
