-- A text has characters if and only if it has bytes.
use Rattle.std.proofs.Common.{◌≡◌, ℕ, List, [], ◌∷◌, length, Some, None, ap, sym, refl, arith, encode_utf8_all}
use Rattle.kt_metadata.proofs.Common.{chars, IsUtf8, chars-nil, encodes-chars, non_empty_text}

-- A text without bytes has no characters.
pub non_empty_text-empty : (bs : List ℕ) → length bs ≡ 0 → non_empty_text (chars bs) ≡ None
non_empty_text-empty [] e = ap non_empty_text chars-nil
non_empty_text-empty (b ∷ bs) e = absurd (omega (arith, e))

non_empty_text-some_next : (cs bs : List ℕ) → encode_utf8_all cs ≡ bs → (length bs ≡ 0 → ⊥) → non_empty_text cs ≡ Some cs
non_empty_text-some_next [] bs e full = absurd (full (ap length (sym e)))
non_empty_text-some_next (c ∷ cs) bs e full = refl

-- A text with bytes has characters.
pub non_empty_text-some : (bs : List ℕ) → IsUtf8 bs → (length bs ≡ 0 → ⊥) → non_empty_text (chars bs) ≡ Some (chars bs)
non_empty_text-some bs u full = non_empty_text-some_next (chars bs) bs (encodes-chars bs u) full
