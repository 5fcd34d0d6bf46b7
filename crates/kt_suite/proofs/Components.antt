-- A path whose components are appended one by one.
use Rattle.std.proofs.Common.{arith, ◌≡◌, ℕ, Bool, true, false, List, [], ◌∷◌, ◌++◌, refl, ◌∙◌, cond, if◌then◌else◌, append_assoc, filter}
use Rattle.kt_suite.proofs.Common.{join_with_byte, with_component, is_kept_component}

-- `with_components path parts`: the path `path` with the components `parts` appended, except those
-- that are empty or `.`.
abbrev pub with_components : List ℕ → List (List ℕ) → List ℕ
with_components path [] = path
with_components path (part ∷ parts) = with_components (with_component path part) parts

-- `glued path parts`: the path `path` with the components `parts` appended, each after a slash.
abbrev glued : List ℕ → List (List ℕ) → List ℕ
glued path [] = path
glued path (part ∷ parts) = path ++ 47 ∷ join_with_byte 47 (part ∷ parts)

glued-more : (path part : List ℕ) (parts : List (List ℕ)) → glued (path ++ 47 ∷ part) parts ≡ path ++ 47 ∷ join_with_byte 47 (part ∷ parts)
glued-more path part [] = refl
glued-more path part (next ∷ parts) = append_assoc path (47 ∷ part) (47 ∷ join_with_byte 47 (next ∷ parts))

glued-first : (part : List ℕ) (parts : List (List ℕ)) → glued part parts ≡ join_with_byte 47 (part ∷ parts)
glued-first part [] = refl
glued-first part (next ∷ parts) = refl

with-glued : (c : ℕ) (path : List ℕ) (parts : List (List ℕ)) → with_components (c ∷ path) parts ≡ glued (c ∷ path) (filter is_kept_component parts)
with-glued c path [] = refl
with-glued c path (part ∷ parts) =
    grind (arith, with-glued c (path ++ 47 ∷ part) parts ∙ glued-more (c ∷ path) part (filter is_kept_component parts), with-glued c path parts)

first_part : (part : List ℕ) (parts : List (List ℕ)) (b : Bool) → is_kept_component part ≡ b → with_components [] parts ≡ join_with_byte 47 (filter is_kept_component parts)
    → with_components (if b then part else []) parts ≡ join_with_byte 47 (cond b (part ∷ filter is_kept_component parts) (filter is_kept_component parts))
first_part [] parts true e h = absurd (cc)
first_part (c ∷ part) parts true e h = with-glued c part parts ∙ glued-first (c ∷ part) (filter is_kept_component parts)
first_part part parts false e h = h

-- Appending all components to an empty path joins the components that are neither empty nor `.`.
pub with-join : (parts : List (List ℕ)) → with_components [] parts ≡ join_with_byte 47 (filter is_kept_component parts)
with-join [] = refl
with-join (part ∷ parts) = first_part part parts (is_kept_component part) refl (with-join parts)
