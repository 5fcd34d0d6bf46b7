-- The test cases of a list, and the fault of a text that isn't a list.
use Rattle.std.specs.Prelude.{◌≡◌, ◌⊎◌, ℕ, ◌+◌, Bool, true, false, not, ◌||◌, List, [], ◌∷◌, ◌++◌, codes, bytes_eq, Option, Some, None, Result, Ok, Err, is_some}
use Rattle.std.specs.List.{find}
use Rattle.std.specs.Str.{IsUtf8}
use Rattle.kt_base.specs.Lossy.{lossy}
use Rattle.kt_base.specs.declared.no_memory.NoMemory.{NoMemory}
use Rattle.kt_base.specs.declared.variable.Variable.{Variable}
use Rattle.kt_base.specs.Lines.{lines}
use Rattle.kt_base.specs.Texts.{is_empty}
use Rattle.kt_atflist.specs.BlockLines.{line_ident, is_case_name, line_key, line_value}
use Rattle.kt_metadata.specs.ListKeys.{name_of_key}
use Rattle.kt_atflist.specs.Blocks.{is_listed, has_property, empty_case, with_property, is_valid_property}
use Rattle.kt_atflist.specs.declared.list_fault.ListCause.{ListCause}
use Rattle.kt_atflist.specs.declared.list_fault.ListCause.TheVariants as cause
use Rattle.kt_atflist.specs.declared.list_fault.ListCause.TheVariants.{BadHeader, BadLine, NoIdent, RepeatedKey, RepeatedIdent, UnknownKey, BadValue, EmptyList, NotUtf8}
use Rattle.kt_atflist.specs.declared.list_fault.ListFault.{ListFault}
use Rattle.kt_atflist.specs.declared.listing.CaseDef.{CaseDef}
use Rattle.kt_atflist.specs.ReaderState.{ReaderState}

-- `ParseResult`: the result of parsing a list: the cases of the list, or its first fault.
abbrev pub ParseResult : Type 0
ParseResult = Result (List CaseDef) ListFault

-- `header`: the first line of each list of test cases, without its newline.
abbrev pub header : List ℕ
header = codes "Content-Type: application/X-atf-tp; version=\"1\""

-- `fault_at cause line`: the fault with the cause `cause` in the line with the number `line`.
abbrev pub fault_at : ListCause → ℕ → ListFault
fault_at cause line = record { cause = cause; line = line }

-- ---- valid lines

-- `IsNextState cases line block next`: the line `line` is valid, and `next` is the reader's state
-- after it. Before the line, the finished blocks have the cases `cases`, and `block` is the block
-- that has begun, or nothing between two blocks.
pub data IsNextState (cases : List CaseDef) (line : List ℕ) : Option CaseDef → ReaderState → Type 0 where
  begins : (name : List ℕ) → line_ident line ≡ Some name → is_case_name name ≡ true → is_listed cases (lossy name) ≡ false
      → IsNextState cases line None (record { cases = cases; block = Some (empty_case (lossy name)) })
  gives : (block : CaseDef) (value : List ℕ) (property : List ℕ) → is_empty line ≡ false → line_value line ≡ Some value → is_empty (line_key line) ≡ false
      → bytes_eq (lossy (line_key line)) (codes "ident") ≡ false → name_of_key (lossy (line_key line)) ≡ Some property
      → has_property block.props property ≡ false → is_valid_property property (lossy value) ≡ true
      → IsNextState cases line (Some block) (record { cases = cases; block = Some (with_property block property (lossy value)) })
  ends : (block : CaseDef) → is_empty line ≡ true → IsNextState cases line (Some block) (record { cases = cases ++ block ∷ []; block = None })

-- `IsBlockSequence cases block lines all`: the lines `lines` are valid, and a list that ends with
-- these lines has the cases `all`. Before the lines, the finished blocks have the cases `cases`,
-- and `block` is the block that has begun, or nothing between two blocks.
pub data IsBlockSequence : List CaseDef → Option CaseDef → List (List ℕ) → List CaseDef → Type 0 where
  no_block : (cases : List CaseDef) → IsBlockSequence cases None [] cases
  last_block : (cases : List CaseDef) (block : CaseDef) → IsBlockSequence cases (Some block) [] (cases ++ block ∷ [])
  line : (cases : List CaseDef) (block : Option CaseDef) (first : List ℕ) (rest : List (List ℕ)) (next : ReaderState) (all : List CaseDef)
      → IsNextState cases first block next → IsBlockSequence next.cases next.block rest all → IsBlockSequence cases block (first ∷ rest) all

-- ---- faulty lines

-- `is_repeated_property pairs name`: one of the properties `pairs` already has the name `name`.
-- False if `name` is absent.
abbrev pub is_repeated_property : List Variable → Option (List ℕ) → Bool
is_repeated_property pairs None = false
is_repeated_property pairs (Some property) = has_property pairs property

-- `is_invalid_property name value`: the property `name` does not accept the value `value`. False if
-- `name` is absent.
abbrev pub is_invalid_property : Option (List ℕ) → List ℕ → Bool
is_invalid_property None value = false
is_invalid_property (Some property) value = not (is_valid_property property value)

-- `is_first_line_cause cases ident cause`: the first line of a block has a fault with the cause
-- `cause`. The cases of the earlier blocks are `cases`. `ident` is the name in the line, or nothing
-- if the line doesn't begin with `ident: `.
abbrev pub is_first_line_cause : List CaseDef → Option (List ℕ) → ListCause → Bool
is_first_line_cause cases None NoIdent = true
is_first_line_cause cases (Some name) BadValue = not (is_case_name name)
is_first_line_cause cases (Some name) RepeatedIdent = is_listed cases (lossy name)
is_first_line_cause cases ident _ = false

-- `is_later_line_cause block key value cause`: a line of the block `block`, after its first line,
-- has a fault with the cause `cause`. `key` is the key in the line. `value` is the value in the
-- line, or nothing if the line has none.
abbrev pub is_later_line_cause : CaseDef → List ℕ → Option (List ℕ) → ListCause → Bool
is_later_line_cause block key None BadLine = true
is_later_line_cause block key (Some value) BadLine = is_empty key
is_later_line_cause block key (Some value) RepeatedKey = bytes_eq (lossy key) (codes "ident") || is_repeated_property block.props (name_of_key (lossy key))
is_later_line_cause block key (Some value) UnknownKey = not (is_some (name_of_key (lossy key)))
is_later_line_cause block key (Some value) BadValue = is_invalid_property (name_of_key (lossy key)) (lossy value)
is_later_line_cause block key value _ = false

-- `first_line_causes`: the possible causes of a fault in the first line of a block. The first cause
-- that applies is reported.
abbrev pub first_line_causes : List ListCause
first_line_causes = NoIdent ∷ BadValue ∷ RepeatedIdent ∷ []

-- `later_line_causes`: the possible causes of a fault in a line of a block after its first line.
-- The first cause that applies is reported.
abbrev pub later_line_causes : List ListCause
later_line_causes = BadLine ∷ RepeatedKey ∷ UnknownKey ∷ BadValue ∷ []

-- `IsFaultyLine cases line block cause`: the line `line` is faulty, and `cause` is the cause that
-- is reported. Before the line, the finished blocks have the cases `cases`, and `block` is the
-- block that has begun, or nothing between two blocks. An empty line in a block is valid.
pub data IsFaultyLine (cases : List CaseDef) (line : List ℕ) : Option CaseDef → ListCause → Type 0 where
  first : (cause : ListCause) → find (is_first_line_cause cases (line_ident line)) first_line_causes ≡ Some cause → IsFaultyLine cases line None cause
  further : (block : CaseDef) (cause : ListCause) → is_empty line ≡ false → find (is_later_line_cause block (line_key line) (line_value line)) later_line_causes ≡ Some cause
      → IsFaultyLine cases line (Some block) cause

-- `HasFirstFault n cases block lines fault`: one of the lines `lines` is faulty, and `fault` is the
-- fault of the first faulty line. The first of `lines` has the number `n`. Before the lines
-- `lines`, the finished blocks have the cases `cases`, and `block` is the block that has begun, or
-- nothing between two blocks.
pub data HasFirstFault : ℕ → List CaseDef → Option CaseDef → List (List ℕ) → ListFault → Type 0 where
  here : (n : ℕ) (cases : List CaseDef) (block : Option CaseDef) (first : List ℕ) (rest : List (List ℕ)) (cause : ListCause)
      → IsFaultyLine cases first block cause → HasFirstFault n cases block (first ∷ rest) (fault_at cause n)
  later : (n : ℕ) (cases : List CaseDef) (block : Option CaseDef) (first : List ℕ) (rest : List (List ℕ)) (next : ReaderState) (fault : ListFault)
      → IsNextState cases first block next → HasFirstFault (n + 1) next.cases next.block rest fault → HasFirstFault n cases block (first ∷ rest) fault

-- ---- whole texts

-- `IsList lines cases`: the lines `lines` are a list of the cases `cases`: the header, an empty
-- line, and at least one block.
pub data IsList : List (List ℕ) → List CaseDef → Type 0 where
  list : (first second third : List ℕ) (rest : List (List ℕ)) (cases : List CaseDef) → bytes_eq first header ≡ true → is_empty second ≡ true
      → IsBlockSequence [] None (third ∷ rest) cases → IsList (first ∷ second ∷ third ∷ rest) cases

-- `IsFault lines fault`: the lines `lines` are not a list, and `fault` is the fault of the first
-- line that is faulty or missing.
pub data IsFault : List (List ℕ) → ListFault → Type 0 where
  no_first : IsFault [] (fault_at BadHeader 1)
  other_first : (first : List ℕ) (rest : List (List ℕ)) → bytes_eq first header ≡ false → IsFault (first ∷ rest) (fault_at BadHeader 1)
  no_second : (first : List ℕ) → bytes_eq first header ≡ true → IsFault (first ∷ []) (fault_at BadHeader 2)
  other_second : (first second : List ℕ) (rest : List (List ℕ)) → bytes_eq first header ≡ true → is_empty second ≡ false
      → IsFault (first ∷ second ∷ rest) (fault_at BadHeader 2)
  no_third : (first second : List ℕ) → bytes_eq first header ≡ true → is_empty second ≡ true → IsFault (first ∷ second ∷ []) (fault_at EmptyList 3)
  in_blocks : (first second third : List ℕ) (rest : List (List ℕ)) (fault : ListFault) → bytes_eq first header ≡ true → is_empty second ≡ true
      → HasFirstFault 3 [] None (third ∷ rest) fault → IsFault (first ∷ second ∷ third ∷ rest) fault

-- `IsListText text cases`: the bytes `text` are valid UTF-8 and a list of the cases `cases`.
abbrev pub IsListText : List ℕ → List CaseDef → Type 0
IsListText text cases = IsUtf8 text × IsList (lines text) cases

-- `HasFault text fault`: the bytes `text` aren't a list, and `fault` is their fault. It is
-- `NotUtf8` if `text` isn't UTF-8, otherwise the fault of the first faulty or missing line.
abbrev pub HasFault : List ℕ → ListFault → Type 0
HasFault text fault = (¬ (IsUtf8 text) × (fault ≡ fault_at NotUtf8 0)) ⊎ (IsUtf8 text × IsFault (lines text) fault)

-- `IsResult text result`: the result `result` has the cases of the list `text`, or is the fault of
-- `text` if `text` isn't a list.
abbrev pub IsResult : List ℕ → Result (List CaseDef) ListFault → Type 0
IsResult text (Ok cases) = IsListText text cases
IsResult text (Err fault) = HasFault text fault

-- `IsOutOfMemory result`: the result `result` of a parser is the error of a failed allocation.
abbrev pub IsOutOfMemory : ParseResult → Type 0
IsOutOfMemory result = (refusal : NoMemory) × (result ≡ Err (fault_at (cause.NoMemory refusal) 0))

-- `IsResultOrOutOfMemory result answer`: the result `result` of a parser is the specified result
-- `answer`, or the error of a failed allocation.
abbrev pub IsResultOrOutOfMemory : ParseResult → ParseResult → Type 0
IsResultOrOutOfMemory result answer = IsOutOfMemory result ⊎ (result ≡ answer)
