-- Tokens that complete a statement after its name are the rest of a statement, and each state can
-- be completed.
use Rattle.std.proofs.Common.{◌≡◌, ℕ, Bool, true, false, List, [], ◌∷◌, ◌++◌, Some, refl, ap, append_assoc, if◌then◌else◌}
use Rattle.kt_script.proofs.Common.{append-nil, TokenKind, Name, Quoted, Number, Truth, OpenParen, CloseParen, OpenBrace, CloseBrace, OpenBracket, CloseBracket, Equals, Comma, Semicolon, Dot, Literal, Pair, Action, Call, Assign, Table, State, AfterName, AfterParen, AfterArgument, Pairs, AfterKeyBracket, AfterKeyString, AfterKey, AfterKeyEquals, AfterPair, AfterDot, AfterPathBracket, AfterPathString, AfterPath, AfterPathEquals, Transition, Advance, Accept, literal_kind, pair, IsKey, by_name, by_text, IsSeparator, comma, semicolon, no_pairs, last_pair, pair_and, ArePathParts, no_parts, named_part, quoted_part, IsStatement, call, call_table, call_text, bare_table, assign, with_pair, step}
use Rattle.kt_script.specs.declared.syntax.Arg.TheVariants as arg
use Rattle.kt_script.specs.declared.syntax.Literal.TheVariants as literal
use Rattle.kt_script.specs.Grammar as grammar
use Rattle.kt_script.proofs.Complete.{walk, bind_some}
use Rattle.std.proofs.lemmas.Option.{same_Some}

-- `walk` over joined tokens is `walk` over the first tokens, then over the second
pub walk-append : (xs ys : List TokenKind) (s r : Transition) → walk s xs ≡ Some r → walk s (xs ++ ys) ≡ walk r ys
walk-append [] ys s r e = ap (λ (s : Transition). walk s ys) (same_Some s r e)
walk-append (k ∷ xs) ys (Advance q) r e = let b = bind_some (step q k) (λ s. walk s xs) r e in rw b.1 (walk-append xs ys b.0 r b.2)
walk-append (k ∷ xs) ys (Accept a) r e = absurd cc

-- ---- tables

-- `parens b`: the tokens of a call after the brace that closes its table. The table is in
-- parentheses if `b` is true
abbrev parens : Bool → List TokenKind
parens true = CloseParen ∷ []
parens false = []

-- `EndsTable t words a`: the tokens `words` complete the table `t` and its statement, whose action
-- is `a`
data EndsTable (t : Table) : List TokenKind → Action → Type 0 where
  table_ends : {words : List TokenKind} {pairs : List Pair} → grammar.Pairs words pairs
      → EndsTable t (words ++ CloseBrace ∷ parens t.in_parens) (Call t.name (arg.Table (t.pairs ++ pairs)))

-- the tokens after the closing brace are `parens b`, and the action is the call `c`
closes : (b : Bool) (c a : Action) (w : List TokenKind) → walk (if b then Advance (AfterArgument c) else Accept c) w ≡ Some (Accept a) → (w ≡ parens b) × (c ≡ a)
closes true c a (CloseParen ∷ []) e = (refl, cc)
closes true c a _ e = absurd cc
closes false c a [] e = (refl, cc)
closes false c a (k ∷ w) e = absurd cc

-- a closing brace completes a table without another pair
closed_at_once : (t : Table) (w : List TokenKind) (a : Action) → (w ≡ parens t.in_parens) × (Call t.name (arg.Table t.pairs) ≡ a)
    → EndsTable t (CloseBrace ∷ w) a
closed_at_once t w a d =
    let none : EndsTable t (CloseBrace ∷ parens t.in_parens) (Call t.name (arg.Table (t.pairs ++ []))) = table_ends no_pairs in
    rw (d.0, ← d.1) (rw append-nil at none)

-- a last pair and a closing brace complete a table
closed_after : (t : Table) (words : List TokenKind) (key : List ℕ) (v : Literal) (w : List TokenKind) (a : Action) → IsKey words key
    → (w ≡ parens t.in_parens) × (Call t.name (arg.Table (with_pair t key v).pairs) ≡ a)
    → EndsTable t (words ++ Equals ∷ literal_kind v ∷ CloseBrace ∷ w) a
closed_after t words key v w a is d =
    let one : EndsTable t ((words ++ Equals ∷ literal_kind v ∷ []) ++ CloseBrace ∷ parens t.in_parens) (Call t.name (arg.Table (with_pair t key v).pairs)) = table_ends (last_pair is v) in
    rw (d.0, ← d.1) (rw append_assoc at one)

-- a pair, a separator and tokens that complete the table complete the table, too
pair_and_more : (t : Table) (words : List TokenKind) (key : List ℕ) (v : Literal) (s : TokenKind) (w : List TokenKind) (a : Action) → IsKey words key → IsSeparator s
    → EndsTable (with_pair t key v) w a
    → EndsTable t (words ++ Equals ∷ literal_kind v ∷ s ∷ w) a
pair_and_more t words key v s w a is sep (table_ends {words = others} {pairs = ps} more) =
    let all : EndsTable t ((words ++ Equals ∷ literal_kind v ∷ s ∷ others) ++ CloseBrace ∷ parens t.in_parens) (Call t.name (arg.Table (t.pairs ++ pair key v ∷ ps))) = table_ends (pair_and is v sep more) in
    rw append_assoc (rw append_assoc at all)

-- a pair and the tokens after it complete a table, if the tokens after a separator do
module _ (t : Table) (words : List TokenKind) (key : List ℕ) (is : IsKey words key) (w : List TokenKind) (a : Action) (later : (u : Table) → walk (Advance (Pairs u)) w ≡ Some (Accept a) → EndsTable u w a) where
  pair_ends : (v : Literal) (s : TokenKind) → walk (Advance (AfterPair (with_pair t key v))) (s ∷ w) ≡ Some (Accept a)
      → EndsTable t (words ++ Equals ∷ literal_kind v ∷ s ∷ w) a
  pair_ends v Comma e = pair_and_more t words key v Comma w a is comma (later (with_pair t key v) e)
  pair_ends v Semicolon e = pair_and_more t words key v Semicolon w a is semicolon (later (with_pair t key v) e)
  pair_ends v CloseBrace e = closed_after t words key v w a is (closes t.in_parens (Call t.name (arg.Table (with_pair t key v).pairs)) a w e)
  pair_ends v _ e = absurd cc

  pair_at : (k s : TokenKind) → walk (Advance (AfterKeyEquals t key)) (k ∷ s ∷ w) ≡ Some (Accept a) → EndsTable t (words ++ Equals ∷ k ∷ s ∷ w) a
  pair_at (Quoted x) s e = pair_ends (literal.Text x) s e
  pair_at (Number n) s e = pair_ends (literal.Number n) s e
  pair_at (Truth b) s e = pair_ends (literal.Truth b) s e
  pair_at _ s e = absurd cc

-- a value does not complete the statement of a table
no_end : (t : Table) (key : List ℕ) (k : TokenKind) (a : Action) → walk (Advance (AfterKeyEquals t key)) (k ∷ []) ≡ Some (Accept a) → ⊥
no_end t key (Quoted x) a e = cc
no_end t key _ a e = cc

-- tokens that lead from a table to the end of its statement complete the table
table_is : (t : Table) (w : List TokenKind) (a : Action) → walk (Advance (Pairs t)) w ≡ Some (Accept a) → EndsTable t w a
table_is t (CloseBrace ∷ w) a e = closed_at_once t w a (closes t.in_parens (Call t.name (arg.Table t.pairs)) a w e)
table_is t (Name n ∷ Equals ∷ k ∷ s ∷ w) a e = pair_at t (Name n ∷ []) n (by_name n) w a (λ u. table_is u w a) k s e
table_is t (Name n ∷ Equals ∷ k ∷ []) a e = absurd (no_end t n k a e)
table_is t (OpenBracket ∷ Quoted n ∷ CloseBracket ∷ Equals ∷ k ∷ s ∷ w) a e =
    pair_at t (OpenBracket ∷ Quoted n ∷ CloseBracket ∷ []) n (by_text n) w a (λ u. table_is u w a) k s e
table_is t (OpenBracket ∷ Quoted n ∷ CloseBracket ∷ Equals ∷ k ∷ []) a e = absurd (no_end t n k a e)
table_is t _ a e = absurd cc

-- ---- paths

-- `EndsPath path words a`: the tokens `words` complete the path `path` and its assignment, whose
-- action is `a`
data EndsPath (path : List (List ℕ)) : List TokenKind → Action → Type 0 where
  path_ends : {words : List TokenKind} {parts : List (List ℕ)} (v : Literal) → ArePathParts words parts → EndsPath path (words ++ Equals ∷ literal_kind v ∷ []) (Assign (path ++ parts) v)

-- a dot and a name, followed by tokens that complete the longer path, complete the path
name_then : (path : List (List ℕ)) (n : List ℕ) (w : List TokenKind) (a : Action) → EndsPath (path ++ n ∷ []) w a → EndsPath path (Dot ∷ Name n ∷ w) a
name_then path n w a (path_ends v more) = rw append_assoc (path_ends v (named_part n more))

-- a string in brackets, followed by tokens that complete the longer path, completes the path
text_then : (path : List (List ℕ)) (t : List ℕ) (w : List TokenKind) (a : Action) → EndsPath (path ++ t ∷ []) w a
    → EndsPath path (OpenBracket ∷ Quoted t ∷ CloseBracket ∷ w) a
text_then path t w a (path_ends v more) = rw append_assoc (path_ends v (quoted_part t more))

-- `=` and a value complete an assignment
value_then : (path : List (List ℕ)) (v : Literal) (a : Action) → Some (Accept (Assign path v)) ≡ Some (Accept a)
    → EndsPath path (Equals ∷ literal_kind v ∷ []) a
value_then path v a e =
    let same : Assign path v ≡ a = cc in
    let all : EndsPath path (Equals ∷ literal_kind v ∷ []) (Assign (path ++ []) v) = path_ends v no_parts in
    rw (← same) (rw append-nil at all)

-- tokens that lead from a path to the end of its statement complete the path
path_is : (path : List (List ℕ)) (w : List TokenKind) (a : Action) → walk (Advance (AfterPath path)) w ≡ Some (Accept a) → EndsPath path w a
path_is path (Dot ∷ Name n ∷ w) a e = name_then path n w a (path_is (path ++ n ∷ []) w a e)
path_is path (OpenBracket ∷ Quoted t ∷ CloseBracket ∷ w) a e = text_then path t w a (path_is (path ++ t ∷ []) w a e)
path_is path (Equals ∷ Quoted t ∷ []) a e = value_then path (literal.Text t) a e
path_is path (Equals ∷ Number n ∷ []) a e = value_then path (literal.Number n) a e
path_is path (Equals ∷ Truth b ∷ []) a e = value_then path (literal.Truth b) a e
path_is path _ a e = absurd cc

-- ---- statements

-- tokens that are a statement with the action `b` are a statement with the equal action `a`
ended : (w : List TokenKind) (b a : Action) → Some (Accept b) ≡ Some (Accept a) → IsStatement w b → IsStatement w a
ended w b a e st = let same : b ≡ a = cc in rw (← same) st

-- a name and a table without parentheses are a statement
bare : (n : List ℕ) (w : List TokenKind) (a : Action) → EndsTable (record { name = n; in_parens = false; pairs = [] }) w a
    → IsStatement (Name n ∷ OpenBrace ∷ w) a
bare n w a (table_ends are) = bare_table n are

-- a name and a table in parentheses are a statement
in_parens : (n : List ℕ) (w : List TokenKind) (a : Action) → EndsTable (record { name = n; in_parens = true; pairs = [] }) w a
    → IsStatement (Name n ∷ OpenParen ∷ OpenBrace ∷ w) a
in_parens n w a (table_ends are) = call_table n are

-- a name and tokens that complete its path are an assignment
assigned : (n : List ℕ) (w : List TokenKind) (a : Action) → EndsPath (n ∷ []) w a → IsStatement (Name n ∷ w) a
assigned n w a (path_ends v more) = assign n more v

-- a name and tokens that lead from the name to an end are a statement
pub statement_is : (n : List ℕ) (w : List TokenKind) (a : Action) → walk (Advance (AfterName n)) w ≡ Some (Accept a) → IsStatement (Name n ∷ w) a
statement_is n (Quoted t ∷ []) a e = ended (Name n ∷ Quoted t ∷ []) (Call n (arg.Value (literal.Text t))) a e (call_text n t)
statement_is n (OpenBrace ∷ w) a e = bare n w a (table_is (record { name = n; in_parens = false; pairs = [] }) w a e)
statement_is n (OpenParen ∷ OpenBrace ∷ w) a e = in_parens n w a (table_is (record { name = n; in_parens = true; pairs = [] }) w a e)
statement_is n (OpenParen ∷ Quoted t ∷ CloseParen ∷ []) a e =
    ended (Name n ∷ OpenParen ∷ Quoted t ∷ CloseParen ∷ []) (Call n (arg.Value (literal.Text t))) a e (call n (literal.Text t))
statement_is n (OpenParen ∷ Number m ∷ CloseParen ∷ []) a e =
    ended (Name n ∷ OpenParen ∷ Number m ∷ CloseParen ∷ []) (Call n (arg.Value (literal.Number m))) a e (call n (literal.Number m))
statement_is n (OpenParen ∷ Truth b ∷ CloseParen ∷ []) a e =
    ended (Name n ∷ OpenParen ∷ Truth b ∷ CloseParen ∷ []) (Call n (arg.Value (literal.Truth b))) a e (call n (literal.Truth b))
statement_is n (Dot ∷ w) a e = assigned n (Dot ∷ w) a (path_is (n ∷ []) (Dot ∷ w) a e)
statement_is n (OpenBracket ∷ w) a e = assigned n (OpenBracket ∷ w) a (path_is (n ∷ []) (OpenBracket ∷ w) a e)
statement_is n (Equals ∷ w) a e = assigned n (Equals ∷ w) a (path_is (n ∷ []) (Equals ∷ w) a e)
statement_is n _ a e = absurd cc

-- the closing brace and `parens b` complete the call
brace_ends : (b : Bool) (c : Action) → walk (if b then Advance (AfterArgument c) else Accept c) (parens b) ≡ Some (Accept c)
brace_ends true c = refl
brace_ends false c = refl

-- each state has tokens that lead to an end
pub some_end : (q : State) → (w : List TokenKind) × (a : Action) × (walk (Advance q) w ≡ Some (Accept a))
some_end (AfterName n) = (Quoted [] ∷ [], _, refl)
some_end (AfterParen n) = (Quoted [] ∷ CloseParen ∷ [], _, refl)
some_end (AfterArgument c) = (CloseParen ∷ [], _, refl)
some_end (Pairs t) = (CloseBrace ∷ parens t.in_parens, _, brace_ends t.in_parens _)
some_end (AfterKeyBracket t) = (Quoted [] ∷ CloseBracket ∷ Equals ∷ Truth true ∷ CloseBrace ∷ parens t.in_parens, _, brace_ends t.in_parens _)
some_end (AfterKeyString t key) = (CloseBracket ∷ Equals ∷ Truth true ∷ CloseBrace ∷ parens t.in_parens, _, brace_ends t.in_parens _)
some_end (AfterKey t key) = (Equals ∷ Truth true ∷ CloseBrace ∷ parens t.in_parens, _, brace_ends t.in_parens _)
some_end (AfterKeyEquals t key) = (Truth true ∷ CloseBrace ∷ parens t.in_parens, _, brace_ends t.in_parens _)
some_end (AfterPair t) = (CloseBrace ∷ parens t.in_parens, _, brace_ends t.in_parens _)
some_end (AfterDot path) = (Name [] ∷ Equals ∷ Truth true ∷ [], _, refl)
some_end (AfterPathBracket path) = (Quoted [] ∷ CloseBracket ∷ Equals ∷ Truth true ∷ [], _, refl)
some_end (AfterPathString path) = (CloseBracket ∷ Equals ∷ Truth true ∷ [], _, refl)
some_end (AfterPath path) = (Equals ∷ Truth true ∷ [], _, refl)
some_end (AfterPathEquals path) = (Truth true ∷ [], _, refl)
