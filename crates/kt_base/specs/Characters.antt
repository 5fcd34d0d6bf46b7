-- Kinds of characters.
use Rattle.std.specs.Prelude.{ℕ, Bool, false, nat_le, ◌==◌, ◌&&◌, ◌||◌, List, [], ◌∷◌}

-- `is_space c`: the character `c` is white space: the space, or a character with a code from 9 to
-- 13, such as the tab (9) and the newline (10).
abbrev pub is_space : ℕ → Bool
is_space c = c == 32 || (nat_le 9 c && nat_le c 13)

-- `is_slash c`: the character `c` is the slash, which separates the components of a path.
abbrev pub is_slash : ℕ → Bool
is_slash c = c == 47

-- `is_absolute path`: the path with the characters `path` is absolute: it begins with a slash.
abbrev pub is_absolute : List ℕ → Bool
is_absolute [] = false
is_absolute (c ∷ cs) = is_slash c
