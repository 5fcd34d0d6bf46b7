-- The definitions in a configuration file, and the results of reading the file.
use Rattle.std.specs.Prelude.{ℕ, ◌≡◌, Bool, false, ◌==◌, ◌&&◌, List, [], ◌∷◌, Result, Ok, Err, bytes_eq, codes, if◌then◌else◌, ◌⊎◌}
use Rattle.kt_script.specs.declared.fault.ScriptFault.{ScriptFault}
use Rattle.kt_script.specs.declared.syntax.Action.{Action}
use Rattle.kt_script.specs.declared.syntax.Action.TheVariants.{Call, Assign}
use Rattle.kt_script.specs.declared.syntax.Arg.{Arg}
use Rattle.kt_script.specs.declared.syntax.Arg.TheVariants.{Value, Table}
use Rattle.kt_script.specs.declared.syntax.Stmt.{Stmt}
use Rattle.kt_script.specs.declared.syntax.Literal.TheVariants.{Text, Number, Truth}
use Rattle.kt_script.specs.LiteralText.{text_of}
use Rattle.kt_script.specs.Spelling.{Spells, HasFault as HasScriptFault}
use Rattle.kt_config.specs.declared.meaning.Definition.{Definition}
use Rattle.kt_config.specs.declared.fault.ConfigFault.{ConfigFault}
use Rattle.kt_config.specs.declared.fault.ConfigFault.TheVariants.{NoMemory, NotAssignment, NoSyntax, Script}
use Rattle.kt_config.specs.Names.{DefinitionResult, definition_of}
use Rattle.kt_config.specs.Values.{Values}
use Rattle.kt_config.specs.Holding.{HasValuesSetBy, Adds}

-- `is_syntax_version arg`: the argument `arg` of a call is the number 2.
abbrev pub is_syntax_version : Arg → Bool
is_syntax_version (Value (Number n)) = n == 2
is_syntax_version (Value (Text t)) = false
is_syntax_version (Value (Truth b)) = false
is_syntax_version (Table pairs) = false

-- `is_syntax_call action`: the action `action` of a statement is the call `syntax(2)`.
abbrev pub is_syntax_call : Action → Bool
is_syntax_call (Call name arg) = bytes_eq name (codes "syntax") && is_syntax_version arg
is_syntax_call (Assign parts value) = false

-- `definition_in action`: the definition in a statement with the action `action`, or the fault of
-- the statement. The statement is not the first of its configuration file.
abbrev pub definition_in : Action → DefinitionResult
definition_in (Call name arg) = Err NotAssignment
definition_in (Assign parts value) = definition_of parts (text_of value)

-- `DefinitionsOrFault`: the definitions in a configuration file, in order, or the first fault of
-- the file.
abbrev pub DefinitionsOrFault : Type 0
DefinitionsOrFault = Result (List Definition) ConfigFault

-- `with_prepended_definition definition outcome`: the definitions in `outcome` with `definition`
-- prepended. A fault in `outcome` is unchanged.
abbrev pub with_prepended_definition : Definition → DefinitionsOrFault → DefinitionsOrFault
with_prepended_definition definition (Ok definitions) = Ok (definition ∷ definitions)
with_prepended_definition definition (Err fault) = Err fault

-- `combined_definitions meaning rest`: the definitions in several statements, or their first fault.
-- `meaning` is the definition or the fault of the first statement. `rest` are the definitions or
-- the first fault of the other statements.
abbrev pub combined_definitions : DefinitionResult → DefinitionsOrFault → DefinitionsOrFault
combined_definitions (Ok definition) rest = with_prepended_definition definition rest
combined_definitions (Err fault) rest = Err fault

-- `definitions_in stmts`: the definitions in the statements `stmts`, or their first fault. The
-- statements follow the first statement of a configuration file.
abbrev pub definitions_in : List Stmt → DefinitionsOrFault
definitions_in [] = Ok []
definitions_in (stmt ∷ stmts) = combined_definitions (definition_in stmt.action) (definitions_in stmts)

-- `definitions_of_file stmts`: the definitions in a configuration file with the statements `stmts`,
-- or the first fault of the file. The first statement must be `syntax(2)`.
abbrev pub definitions_of_file : List Stmt → DefinitionsOrFault
definitions_of_file [] = Err NoSyntax
definitions_of_file (stmt ∷ stmts) = if is_syntax_call stmt.action then definitions_in stmts else Err NoSyntax

-- `HasFault text fault`: the bytes `text` are not a configuration file, and `fault` is their fault.
-- If `text` is not a script, this is the fault of the script. Otherwise, it is the first fault of
-- the statements.
abbrev pub HasFault : List ℕ → ConfigFault → Type 0
HasFault text fault =
    ((cause : ScriptFault) × HasScriptFault text cause × (fault ≡ Script cause))
    ⊎ ((stmts : List Stmt) × Spells text stmts × (definitions_of_file stmts ≡ Err fault))

-- `IsConfigFile text config`: the bytes `text` are a configuration file, which sets the values
-- `config`.
abbrev pub IsConfigFile : List ℕ → Values → Type 0
IsConfigFile text config =
    (stmts : List Stmt) × (definitions : List Definition)
    × Spells text stmts × (definitions_of_file stmts ≡ Ok definitions) × HasValuesSetBy config definitions

-- `IfFault result P`: if `result` is a fault and not a failed allocation, the fault satisfies the
-- predicate `P`.
abbrev pub IfFault : {T : Type 0} → Result T ConfigFault → (ConfigFault → Type 0) → Type 0
IfFault (Ok x) P = Unit {0}
IfFault (Err (NoMemory refusal)) P = Unit {0}
IfFault (Err fault) P = P fault

-- `SucceedsWith result definitions`: the result `result` of reading a configuration file has the
-- values that `definitions` set, or is a failed allocation.
abbrev pub SucceedsWith : Result Values ConfigFault → List Definition → Type 0
SucceedsWith (Ok config) definitions = HasValuesSetBy config definitions
SucceedsWith (Err (NoMemory refusal)) definitions = Unit {0}
SucceedsWith (Err fault) definitions = ⊥

-- `FailsWith result fault`: the result `result` of reading a configuration file is the fault
-- `fault` or a failed allocation.
abbrev pub FailsWith : {T : Type 0} → Result T ConfigFault → ConfigFault → Type 0
FailsWith (Ok x) fault = ⊥
FailsWith (Err (NoMemory refusal)) fault = Unit {0}
FailsWith (Err found) fault = found ≡ fault

-- `AddsDefinition old new meaning`: `meaning` is a definition and not a fault, and the values `new`
-- are the values `old` after that definition.
abbrev pub AddsDefinition : Values → Values → DefinitionResult → Type 0
AddsDefinition old new (Ok definition) = Adds definition old new
AddsDefinition old new (Err fault) = ⊥
