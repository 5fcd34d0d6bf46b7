-- The keys of properties in a list of ATF cases.
use Rattle.std.specs.Prelude.{◌≡◌, ℕ, Bool, bytes_eq, codes, List, ◌∷◌, ◌++◌, Option, Some, slice_get}
use Rattle.std.specs.List.{find}
use Rattle.std.specs.Option.{option_map, option_or}
use Rattle.kt_metadata.specs.Properties.{PropertyRow, table, non_empty_suffix}

-- `IsKeyOf key name`: a list of ATF cases uses the key `key` for the property `name`. The key is
-- that of the property's row in `table`, or `X-NAME` for `custom.NAME`.
pub data IsKeyOf : List ℕ → List ℕ → Type 0 where
  listed : (place : ℕ) (r : PropertyRow) → slice_get table place ≡ Some r → IsKeyOf r.key r.name
  custom : (c : ℕ) (cs : List ℕ) → IsKeyOf (codes "X-" ++ (c ∷ cs)) (codes "custom." ++ (c ∷ cs))

-- `has_key key r`: the key in the row `r` of the property table is `key`.
abbrev pub has_key : List ℕ → PropertyRow → Bool
has_key key r = bytes_eq key r.key

-- `name_of_key key`: the name of the property for which a list of ATF cases uses the key `key`, or
-- nothing if no property has this key.
abbrev pub name_of_key : List ℕ → Option (List ℕ)
name_of_key key = option_or (option_map (λ r. r.name) (find (has_key key) table)) (option_map (λ part. codes "custom." ++ part) (non_empty_suffix (codes "X-") key))
