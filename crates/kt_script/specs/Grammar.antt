-- The grammar of scripts, by cases.
use Rattle.std.specs.Prelude.{◌≡◌, ℕ, List, [], ◌∷◌, ◌++◌, map}
use Rattle.kt_script.specs.Types.{Action, Assign, Call, CloseBrace, CloseBracket, CloseParen, Comma, Dot, Equals, TokenKind, Literal, Name, Number, OpenBrace, OpenBracket, OpenParen, Pair, Quoted, Semicolon, Stmt, Token, Truth}
use Rattle.kt_script.specs.declared.syntax.Literal.TheVariants as literal
use Rattle.kt_script.specs.declared.syntax.Arg.TheVariants.{Value, Table}

-- `literal_kind v`: the kind of the token that represents the literal `v`.
-- value = string | number | "true" | "false"
abbrev pub literal_kind : Literal → TokenKind
literal_kind (literal.Text t) = Quoted t
literal_kind (literal.Number n) = Number n
literal_kind (literal.Truth b) = Truth b

-- `IsKey kinds key`: tokens of the kinds `kinds` are a key of a table. The text of the key is
-- `key`.
-- key = name | "[" string "]"
pub data IsKey : List TokenKind → List ℕ → Type 0 where
  by_name : (n : List ℕ) → IsKey (Name n ∷ []) n
  by_text : (t : List ℕ) → IsKey (OpenBracket ∷ Quoted t ∷ CloseBracket ∷ []) t

-- `pair key v`: the pair of the name `key` and the value `v`.
abbrev pub pair : List ℕ → Literal → Pair
pair key v = record { name = key; value = v }

-- `IsSeparator kind`: a token of the kind `kind` can separate two pairs of a table.
-- separator = "," | ";"
pub data IsSeparator : TokenKind → Type 0 where
  comma : IsSeparator Comma
  semicolon : IsSeparator Semicolon

-- `Pairs kinds pairs`: tokens of the kinds `kinds` between the braces of a table represent the
-- pairs `pairs`.
-- pairs = [ pair { ("," | ";") pair } [ "," | ";" ] ], pair = (name | "[" string "]") "=" value
pub data Pairs : List TokenKind → List Pair → Type 0 where
  no_pairs : Pairs [] []
  last_pair : {kinds : List TokenKind} {key : List ℕ} → IsKey kinds key → (v : Literal) → Pairs (kinds ++ Equals ∷ literal_kind v ∷ []) (pair key v ∷ [])
  pair_and : {kinds rest : List TokenKind} {key : List ℕ} {s : TokenKind} {pairs : List Pair} → IsKey kinds key → (v : Literal) → IsSeparator s → Pairs rest pairs
      → Pairs (kinds ++ Equals ∷ literal_kind v ∷ s ∷ rest) (pair key v ∷ pairs)

-- `ArePathParts kinds parts`: tokens of the kinds `kinds`, which follow the first name of a
-- variable's path, represent `parts`, the other parts of the path.
-- parts = { "." name | "[" string "]" }
pub data ArePathParts : List TokenKind → List (List ℕ) → Type 0 where
  no_parts : ArePathParts [] []
  named_part : {kinds : List TokenKind} {parts : List (List ℕ)} (n : List ℕ) → ArePathParts kinds parts → ArePathParts (Dot ∷ Name n ∷ kinds) (n ∷ parts)
  quoted_part : {kinds : List TokenKind} {parts : List (List ℕ)} (t : List ℕ) → ArePathParts kinds parts → ArePathParts (OpenBracket ∷ Quoted t ∷ CloseBracket ∷ kinds) (t ∷ parts)

-- `IsStatement kinds action`: tokens of the kinds `kinds` are a statement with the action `action`.
-- stmt = name "(" (value | table) ")" | name string | name table | path "=" value
pub data IsStatement : List TokenKind → Action → Type 0 where
  call : (n : List ℕ) (v : Literal) → IsStatement (Name n ∷ OpenParen ∷ literal_kind v ∷ CloseParen ∷ []) (Call n (Value v))
  call_table : {kinds : List TokenKind} {pairs : List Pair} (n : List ℕ) → Pairs kinds pairs
      → IsStatement (Name n ∷ OpenParen ∷ OpenBrace ∷ kinds ++ CloseBrace ∷ CloseParen ∷ []) (Call n (Table pairs))
  call_text : (n t : List ℕ) → IsStatement (Name n ∷ Quoted t ∷ []) (Call n (Value (literal.Text t)))
  bare_table : {kinds : List TokenKind} {pairs : List Pair} (n : List ℕ) → Pairs kinds pairs
      → IsStatement (Name n ∷ OpenBrace ∷ kinds ++ CloseBrace ∷ []) (Call n (Table pairs))
  assign : {kinds : List TokenKind} {parts : List (List ℕ)} (n : List ℕ) → ArePathParts kinds parts → (v : Literal)
      → IsStatement (Name n ∷ kinds ++ Equals ∷ literal_kind v ∷ []) (Assign (n ∷ parts) v)

-- `token_kinds ts`: the kinds of the tokens `ts`.
abbrev pub token_kinds : List Token → List TokenKind
token_kinds ts = map (λ t. t.kind) ts

-- `first_token_line ts`: the line of the first of the tokens `ts`, or 0 if there are no tokens.
abbrev pub first_token_line : List Token → ℕ
first_token_line [] = 0
first_token_line (t ∷ ts) = t.line

-- `statement_of_tokens tokens a`: the statement whose tokens are `tokens` and whose action is `a`.
-- The line of the statement is that of its first token.
abbrev pub statement_of_tokens : List Token → Action → Stmt
statement_of_tokens tokens a = record { line = first_token_line tokens; action = a }

-- `Script ts stmts`: the tokens `ts` are a script, which consists of the statements `stmts`.
-- script = { stmt [";"] }
pub data Script : List Token → List Stmt → Type 0 where
  no_stmts : Script [] []
  stmt_and : (tokens : List Token) {rest : List Token} {a : Action} {stmts : List Stmt} → IsStatement (token_kinds tokens) a → Script rest stmts → Script (tokens ++ rest) (statement_of_tokens tokens a ∷ stmts)
  ended_and : (tokens : List Token) {rest : List Token} {a : Action} {stmts : List Stmt} (t : Token) → IsStatement (token_kinds tokens) a → t.kind ≡ Semicolon → Script rest stmts
      → Script (tokens ++ t ∷ rest) (statement_of_tokens tokens a ∷ stmts)
