-- Lines of a text that is read in pieces.
use Rattle.std.proofs.Common.{◌≡◌, ℕ, ◌≤◌, ◌<◌, ◌^◌, Bool, true, false, List, [], ◌∷◌, ◌++◌, map, length, refl, ap, sym, ◌∙◌, append_assoc, arith}
use Rattle.kt_claim.proofs.Common.{list_any, append-nil, length-append, is_newline, lines, with_prepended_byte, without_cr, without_trailing_blanks, tap_of_lines, lines_of, LineState, with_held_cr, facts_of, facts_of_kind, facts_with, is_reason, KeepsIfReason, IsStateAfter, IsTally, HasLines, Tally, LineProgress, LineKind}
use Rattle.kt_claim.specs.TapStream.{limit}
use Rattle.kt_claim.specs.declared.evidence.Tap.{Tap}
use Rattle.kt_claim.specs.declared.open_line.LineKind.TheVariants.{Plan}
use Rattle.kt_claim.specs.declared.open_line.LineProgress.TheVariants as begun
use Rattle.kt_claim.proofs.Tallies.{quiet}
use Rattle.std.proofs.lemmas.Bool.{or_parts}

-- A line with its newline is the first line of a text.
pub lines-line : (line rest : List ℕ) → list_any is_newline line ≡ false → lines (line ++ 10 ∷ rest) ≡ line ∷ lines rest
lines-line [] rest none = refl
lines-line (b ∷ line) rest none =
    rw ((or_parts (is_newline b) (list_any is_newline line) none).0, lines-line line rest (or_parts (is_newline b) (list_any is_newline line) none).1) refl

-- A text without a newline is one line.
pub lines-last : (b : ℕ) (line : List ℕ) → list_any is_newline (b ∷ line) ≡ false → lines (b ∷ line) ≡ (b ∷ line) ∷ []
lines-last b [] none = rw (or_parts (is_newline b) false none).0 refl
lines-last b (c ∷ line) none =
    rw (or_parts (is_newline b) (list_any is_newline (c ∷ line)) none).0 (ap (with_prepended_byte b) (lines-last c line (or_parts (is_newline b) (list_any is_newline (c ∷ line)) none).1))

pub map-snoc : (xs : List (List ℕ)) (x : List ℕ) → map without_cr (xs ++ x ∷ []) ≡ map without_cr xs ++ without_cr x ∷ []
map-snoc [] x = refl
map-snoc (y ∷ xs) x = ap (λ (ys : List (List ℕ)). without_cr y ∷ ys) (map-snoc xs x)

pub length-map : (xs : List (List ℕ)) → length (map without_cr xs) ≡ length xs
length-map [] = refl
length-map (y ∷ xs) = omega (arith, length-map xs)

-- `Ends line kind`: a line that ends in the state `line` is of the kind `kind`.
abbrev pub Ends : LineState → LineKind → Type 0
Ends line kind = (is_reason line.begun ≡ false → (kept : List ℕ) → facts_of_kind kind [] ≡ facts_with line.begun kept []) × (is_reason line.begun ≡ true → kind ≡ Plan 0)

-- If a line ends in the state `b`, its facts are the facts of its kind.
pub ends_at : (b : LineProgress) (kept : List ℕ) (kind : LineKind) → KeepsIfReason b kept
    → (is_reason b ≡ false → (k : List ℕ) → facts_of_kind kind [] ≡ facts_with b k []) → (is_reason b ≡ true → kind ≡ Plan 0)
    → facts_with b kept [] ≡ facts_of_kind kind (without_trailing_blanks kept)
ends_at begun.Reason kept kind keeps plain reason =
    ap (λ (xs : List ℕ). facts_of_kind (Plan 0) (without_trailing_blanks xs)) (append-nil kept) ∙ ap (λ (k : LineKind). facts_of_kind k (without_trailing_blanks kept)) (sym (reason refl))
ends_at b kept kind keeps plain reason = sym (plain refl kept) ∙ ap (λ (xs : List ℕ). facts_of_kind kind (without_trailing_blanks xs)) (sym keeps)

pub no_more : (held_cr : Bool) (b : LineProgress) (kept : List ℕ) → facts_with b kept (without_cr (with_held_cr held_cr [])) ≡ facts_with b kept []
no_more true b kept = refl
no_more false b kept = refl

-- A line that has ended has the facts of its kind.
pub line_is : (line : LineState) (kind : LineKind) (came : List ℕ) → Ends line kind → IsStateAfter line.begun line.kept line.held_cr came → facts_of (without_cr came) ≡ facts_of_kind kind (without_trailing_blanks line.kept)
line_is line kind came ends k =
    ap (λ (xs : List ℕ). facts_of (without_cr xs)) (sym (append-nil came)) ∙ k.facts [] ∙ no_more line.held_cr line.begun line.kept ∙ ends_at line.begun line.kept kind k.keeps ends.0 ends.1

-- `Adds old new kind reason`: `new` is the tally `old` with one more line of the kind `kind` and
-- the reason `reason`.
abbrev pub Adds : Tally → Tally → LineKind → List ℕ → Type 0
Adds old new kind reason = (line : List ℕ) (ls : List (List ℕ)) → facts_of line ≡ facts_of_kind kind reason → length ls < 2 ^ 32 → IsTally old ls → IsTally new (ls ++ line ∷ [])

-- A reader that has read no bytes has an empty tally.
pub none_read : (tally : Tally) (kept : List ℕ) → IsTally tally [] → kept ≡ [] → HasLines tally (record { begun = begun.Nothing; kept = kept; held_cr = false }) []
none_read tally kept t none = record {
  whole = [];
  open_line = [];
  tallied = t;
  one_line = refl;
  rest = λ more. refl;
  fits = omega arith;
  known = record { keeps = none; facts = λ more. refl };
}

pub line_ends : (old new : Tally) (line : LineState) (kind : LineKind) (fed : List ℕ) → Ends line kind → Adds old new kind (without_trailing_blanks line.kept)
    → length fed < limit → HasLines old line fed → HasLines new (record { begun = begun.Nothing; kept = []; held_cr = false }) (fed ++ 10 ∷ [])
line_ends old new line kind fed ends adds short h = record {
  whole = h.whole ++ h.open_line ∷ [];
  open_line = [];
  tallied = rw (map-snoc h.whole h.open_line) (adds (without_cr h.open_line) (map without_cr h.whole) (line_is line kind h.open_line ends h.known)
      (omega (arith, length-map h.whole, h.fits, short)) h.tallied);
  one_line = refl;
  rest = λ more. ap lines (append_assoc fed (10 ∷ []) more) ∙ h.rest (10 ∷ more) ∙ ap (λ (ls : List (List ℕ)). h.whole ++ ls) (lines-line h.open_line more h.one_line)
      ∙ sym (append_assoc h.whole (h.open_line ∷ []) (lines more));
  fits = omega (arith, h.fits, length-append h.whole (h.open_line ∷ []), length-append fed (10 ∷ []));
  known = record { keeps = refl; facts = λ more. refl };
}

pub any-append : (xs ys : List ℕ) → list_any is_newline xs ≡ false → list_any is_newline ys ≡ false → list_any is_newline (xs ++ ys) ≡ false
any-append [] ys a b = b
any-append (x ∷ xs) ys a b =
    rw (or_parts (is_newline x) (list_any is_newline xs) a).0 (any-append xs ys (or_parts (is_newline x) (list_any is_newline xs) a).1 b)

pub line_goes_on : (tally : Tally) (line new : LineState) (part fed : List ℕ) → list_any is_newline part ≡ false
    → ((came : List ℕ) → IsStateAfter line.begun line.kept line.held_cr came → IsStateAfter new.begun new.kept new.held_cr (came ++ part)) → HasLines tally line fed → HasLines tally new (fed ++ part)
line_goes_on tally line new part fed none goes h = record {
  whole = h.whole;
  open_line = h.open_line ++ part;
  tallied = h.tallied;
  one_line = any-append h.open_line part h.one_line none;
  rest = λ more. ap lines (append_assoc fed part more) ∙ h.rest (part ++ more) ∙ ap (λ (t : List ℕ). h.whole ++ lines t) (sym (append_assoc h.open_line part more));
  fits = omega (arith, h.fits, length-append h.open_line part, length-append fed part);
  known = goes h.open_line h.known;
}

pub all_lines : (tally : Tally) (line : LineState) (fed : List ℕ) (h : HasLines tally line fed) → lines fed ≡ h.whole ++ lines h.open_line
all_lines tally line fed h = ap lines (sym (append-nil fed)) ∙ h.rest [] ∙ ap (λ (t : List ℕ). h.whole ++ lines t) (append-nil h.open_line)

-- The open line counts as the last line, and an empty last line changes nothing.
pub last_line : (tap : Tap) (whole : List (List ℕ)) (came : List ℕ) → list_any is_newline came ≡ false → tap ≡ tap_of_lines (map without_cr whole ++ without_cr came ∷ [])
    → tap ≡ tap_of_lines (map without_cr (whole ++ lines came))
last_line tap whole [] none is = is ∙ quiet (map without_cr whole) ∙ ap (λ (ls : List (List ℕ)). tap_of_lines (map without_cr ls)) (sym (append-nil whole))
last_line tap whole (b ∷ came) none is = is ∙ ap tap_of_lines (sym (map-snoc whole (b ∷ came)) ∙ ap (λ (ls : List (List ℕ)). map without_cr (whole ++ ls)) (sym (lines-last b came none)))

pub tap_at_end : (old new : Tally) (line : LineState) (kind : LineKind) (tap : Tap) (fed : List ℕ) → Ends line kind → Adds old new kind (without_trailing_blanks line.kept)
    → ((ls : List (List ℕ)) → IsTally new ls → tap ≡ tap_of_lines ls) → length fed ≤ limit → HasLines old line fed → tap ≡ tap_of_lines (lines_of fed)
tap_at_end old new line kind tap fed ends adds says short h =
    last_line tap h.whole h.open_line h.one_line
    (says (map without_cr h.whole ++ without_cr h.open_line ∷ [])
    (adds (without_cr h.open_line) (map without_cr h.whole) (line_is line kind h.open_line ends h.known) (omega (arith, length-map h.whole, h.fits, short)) h.tallied))
    ∙ ap (λ (ls : List (List ℕ)). tap_of_lines (map without_cr ls)) (sym (all_lines old line fed h))
