-- The output of a case, in XML.
use Rattle.std.proofs.Common.{◌≡◌, ℕ, true, false, List, [], ◌∷◌, ◌++◌, length, refl, ap, nat_eq, arith, codes}
use Rattle.kt_report.proofs.Common.{length-le-encodes, eqb-true, utf8, output_element}

-- A text without bytes has no element.
pub no_output : (name text bytes : List ℕ) → bytes ≡ utf8 text → nat_eq (length bytes) 0 ≡ true → [] ≡ output_element name text
no_output name [] bytes e n = refl
no_output name (c ∷ text) bytes e n = absurd (let z = eqb-true (length bytes) 0 n in let l = length-le-encodes (c ∷ text) in let k : length bytes ≡ length (utf8 (c ∷ text)) = ap length e in omega (arith, z, l, k))

pub some_output : (name text bytes : List ℕ) → bytes ≡ utf8 text → nat_eq (length bytes) 0 ≡ false
    → codes "<" ++ name ++ codes ">" ++ utf8 text ++ codes "</" ++ name ++ codes ">\n" ≡ output_element name text
some_output name [] bytes e n = absurd (let z : nat_eq (length bytes) 0 ≡ true = rw e refl in cc)
some_output name (c ∷ text) bytes e n = refl
