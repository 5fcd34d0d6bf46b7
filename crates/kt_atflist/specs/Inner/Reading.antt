-- The code's reading of a list of test cases, line by line.
use Rattle.std.specs.Prelude.{ℕ, ◌+◌, if◌then◌else◌, List, [], ◌∷◌, ◌++◌, codes, bytes_eq, Option, Some, None, Result, Ok, Err}
use Rattle.std.specs.Str.{is_utf8}
use Rattle.kt_base.specs.Lossy.{lossy}
use Rattle.kt_metadata.specs.ListKeys.{name_of_key}
use Rattle.kt_base.specs.Lines.{lines}
use Rattle.kt_base.specs.Texts.{is_empty}
use Rattle.kt_atflist.specs.BlockLines.{line_ident, is_case_name, line_key, line_value}
use Rattle.kt_atflist.specs.Blocks.{is_listed, has_property, empty_case, with_property, is_valid_property}
use Rattle.kt_atflist.specs.CaseList.{ParseResult, header, fault_at}
use Rattle.kt_atflist.specs.declared.listing.CaseDef.{CaseDef}
use Rattle.kt_atflist.specs.declared.list_fault.ListCause.{ListCause}
use Rattle.kt_atflist.specs.declared.list_fault.ListCause.TheVariants.{BadHeader, BadLine, NoIdent, RepeatedKey, RepeatedIdent, UnknownKey, BadValue, EmptyList, NotUtf8}
use Rattle.kt_atflist.specs.ReaderState.{ReaderState}
use Rattle.kt_atflist.specs.declared.reading.ListStep.{ListStep}
use Rattle.kt_atflist.specs.declared.reading.ListStep.TheVariants.{NextState, FaultyLine}

-- `begin_block cases name`: the result of reading the first line of a block for the case `name`:
-- the reader's next state, or the fault `RepeatedIdent`. The fault occurs if one of the cases
-- `cases` of the earlier blocks has the name `name`.
abbrev pub begin_block : List CaseDef → List ℕ → ListStep
begin_block cases name = if is_listed cases name then FaultyLine RepeatedIdent else NextState (record { cases = cases; block = Some (empty_case name) })

-- `case_name_in ident`: the name of a case that the bytes `ident` encode, or the cause of the
-- line's fault. `ident` are the bytes after `ident: ` in the first line of a block. The cause is
-- `NoIdent` if `ident` is absent, and `BadValue` if `ident` can't be the name of a case.
abbrev pub case_name_in : Option (List ℕ) → Result (List ℕ) ListCause
case_name_in None = Err NoIdent
case_name_in (Some ident) = if is_case_name ident then Ok (lossy ident) else Err BadValue

-- `first_line_step cases name`: the result of reading the first line of a block in a list: the
-- reader's next state, or the cause of the line's fault. The cases of the earlier blocks are
-- `cases`. `name` is the name in the line, or the cause of the fault.
abbrev pub first_line_step : List CaseDef → Result (List ℕ) ListCause → ListStep
first_line_step cases (Err cause) = FaultyLine cause
first_line_step cases (Ok name) = begin_block cases name

-- `BlockResult`: the result of reading a line that sets a property of a listed case: the changed
-- block of the case, or the cause of the line's fault.
abbrev pub BlockResult : Type 0
BlockResult = Result CaseDef ListCause

-- `change_result block cause`: the result of reading a line that sets a property. It is the cause
-- `cause` of the line's fault, or the block `block` after the line if `cause` is absent.
abbrev pub change_result : CaseDef → Option ListCause → BlockResult
change_result block None = Ok block
change_result block (Some cause) = Err cause

-- `set_property block name value`: the block `block` with the property `name` set to `value` by a
-- line, or the cause of the line's fault. If `name` is absent, the cause is `UnknownKey`, since no
-- property has the key of the line.
abbrev pub set_property : CaseDef → Option (List ℕ) → List ℕ → BlockResult
set_property block None value = Err UnknownKey
set_property block (Some name) value =
    if has_property block.props name then Err RepeatedKey
    else if is_valid_property name value then Ok (with_property block name value)
    else Err BadValue

-- `set_key block key value`: the block `block` with the property of the key `key` set to `value`,
-- or the cause of the fault in the line with this key and value.
abbrev pub set_key : CaseDef → List ℕ → List ℕ → BlockResult
set_key block key value = if bytes_eq key (codes "ident") then Err RepeatedKey else set_property block (name_of_key key) value

-- `set_from_line block key value`: the block `block` after a line that sets a property, or the
-- cause of the line's fault. `key` are the bytes of the key in the line, and `value` are those of
-- the value. If `value` is absent or `key` is empty, the cause is `BadLine`.
abbrev pub set_from_line : CaseDef → List ℕ → Option (List ℕ) → BlockResult
set_from_line block key None = Err BadLine
set_from_line block key (Some value) = if is_empty key then Err BadLine else set_key block (lossy key) (lossy value)

-- `property_line_step cases change`: the result of reading a line that sets a property: the
-- reader's next state, or the cause of the line's fault. The cases of the earlier blocks are
-- `cases`. `change` is the block after the line, or the cause of the fault.
abbrev pub property_line_step : List CaseDef → BlockResult → ListStep
property_line_step cases (Err cause) = FaultyLine cause
property_line_step cases (Ok block) = NextState (record { cases = cases; block = Some block })

-- `later_line_step cases block line`: the result of reading `line`, a line of the block `block`
-- after its first line. It is the reader's next state, or the cause of the line's fault. The cases
-- of the earlier blocks are `cases`. An empty line ends the block.
abbrev pub later_line_step : List CaseDef → CaseDef → List ℕ → ListStep
later_line_step cases block line = if is_empty line then NextState (record { cases = cases ++ block ∷ []; block = None }) else property_line_step cases (set_from_line block (line_key line) (line_value line))

-- `step_from cases block line`: the result of reading the line `line`: the reader's next state, or
-- the cause of the line's fault. The cases of the earlier blocks are `cases`. The line belongs to
-- the block `block`, or begins a block if `block` is absent.
abbrev pub step_from : List CaseDef → Option CaseDef → List ℕ → ListStep
step_from cases None line = first_line_step cases (case_name_in (line_ident line))
step_from cases (Some block) line = later_line_step cases block line

-- `step_of r line`: the result of reading `line` in the reader's state `r`: the next state, or the
-- cause of the line's fault.
abbrev pub step_of : ReaderState → List ℕ → ListStep
step_of r line = step_from r.cases r.block line

-- `cases_with_block cases block`: the cases `cases` of finished blocks, followed by the case of the
-- block `block` if it is present.
abbrev pub cases_with_block : List CaseDef → Option CaseDef → List CaseDef
cases_with_block cases None = cases
cases_with_block cases (Some block) = cases ++ block ∷ []

-- `cases_at_end r`: the test cases of a list that ends in the state `r` of its reader.
abbrev pub cases_at_end : ReaderState → List CaseDef
cases_at_end r = cases_with_block r.cases r.block

-- `result_after_step n step more`: the result of parsing a list: its cases, or its first fault.
-- `step` is the result of reading line `n`. The function `more` maps the reader's state after line
-- `n` to the result of parsing.
abbrev pub result_after_step : ℕ → ListStep → (ReaderState → ParseResult) → ParseResult
result_after_step n (FaultyLine cause) more = Err (fault_at cause n)
result_after_step n (NextState r) more = more r

-- `read_rest n r lines`: the cases of a list, or its first fault. `r` is the reader's state before
-- line `n`, and `lines` are the lines from line `n` on.
abbrev pub read_rest : ℕ → ReaderState → List (List ℕ) → ParseResult
read_rest n r [] = Ok (cases_at_end r)
read_rest n r (line ∷ rest) = result_after_step n (step_of r line) (λ next. read_rest (n + 1) next rest)

-- `initial_state`: the state of the reader before the first block of a list: no case and no block.
abbrev pub initial_state : ReaderState
initial_state = record { cases = []; block = None }

-- `read_blocks lines`: the cases of a list, or its first fault. `lines` are the lines from line 3
-- on. Lines 1 and 2 are valid.
abbrev pub read_blocks : List (List ℕ) → ParseResult
read_blocks [] = Err (fault_at EmptyList 3)
read_blocks (line ∷ rest) = read_rest 3 initial_state (line ∷ rest)

-- `read_from_line_2 lines`: the cases of a list, or its first fault. `lines` are the lines from
-- line 2 on, and line 1 is valid.
abbrev pub read_from_line_2 : List (List ℕ) → ParseResult
read_from_line_2 [] = Err (fault_at BadHeader 2)
read_from_line_2 (line ∷ rest) = if is_empty line then read_blocks rest else Err (fault_at BadHeader 2)

-- `read_lines lines`: the cases of the list with the lines `lines`, or its first fault.
abbrev pub read_lines : List (List ℕ) → ParseResult
read_lines [] = Err (fault_at BadHeader 1)
read_lines (line ∷ rest) = if bytes_eq line header then read_from_line_2 rest else Err (fault_at BadHeader 1)

-- `read_list text`: the cases of the list with the bytes `text`, or its first fault.
abbrev pub read_list : List ℕ → ParseResult
read_list text = if is_utf8 text then read_lines (lines text) else Err (fault_at NotUtf8 0)
