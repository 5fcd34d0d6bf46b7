-- Exports the definitions that the clauses of this crate cite. Declares nothing.
pub use Rattle.std.specs.List.{prefix_len}
pub use Rattle.std.specs.Str.{IsCharBoundary}
pub use Rattle.kt_base.specs.Characters.{is_space}
pub use Rattle.kt_base.specs.Digits.{decimal_from, number_in_64_bits}
pub use Rattle.kt_script.specs.Faults.{IfFault, IsFaultOf}
pub use Rattle.kt_script.specs.Grammar.{Script}
pub use Rattle.kt_script.specs.Inner.Comments.{long_comment_end, comment_at}
pub use Rattle.kt_script.specs.Inner.Automaton.{IsInStatement}
pub use Rattle.kt_script.specs.Inner.Reading.{HasRead, IsUnexpectedToken}
pub use Rattle.kt_script.specs.Inner.Strings.{decoded_string, escape_at, quoted_at, string_element_at, string_at}
pub use Rattle.kt_script.specs.Inner.Tokens.{punctuation_lexeme, lexeme_at, tokens, tokens_in}
pub use Rattle.kt_script.specs.Inner.Words.{begins_with_name_start, name_at, number_at}
pub use Rattle.kt_script.specs.Letters.{escape_of, is_name_start, is_plain, is_name_byte}
pub use Rattle.kt_script.specs.Spelling.{ReturnsStatements, IsResultOf, HasFault, ReturnsFault, Spells, script_length_limit}
pub use Rattle.kt_script.specs.TokenRules.{AreTokens, has_bracket_level, line_at_end, punctuation_kind_of, kind_of_word}
pub use Rattle.kt_script.specs.declared.fault.ScriptFault.{ScriptFault}
pub use Rattle.kt_script.specs.declared.script_state.ScriptState.TheVariants.{Start}
pub use Rattle.kt_script.specs.declared.syntax.Stmt.{Stmt}
pub use Rattle.kt_script.specs.declared.token.Token.{Token}
