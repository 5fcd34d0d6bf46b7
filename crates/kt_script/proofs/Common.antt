-- Exports the names that most proofs of this crate cite. Declares nothing.
pub use Rattle.std.proofs.Math.Seq.{drop-append_seam, take-append_seam}
pub use Rattle.std.proofs.lemmas.Bool.Decides.{nat_tests}
pub use Rattle.std.proofs.lemmas.Bool.{cases_Bool, cases_lt, eqb-true, false≢true, not-false, or_parts}
pub use Rattle.std.proofs.lemmas.List.{append-nil, nil_from_length}
pub use Rattle.std.proofs.lemmas.List.Sums.{prefix_len-le-length, prefix_len_passes, prefix_len_stops}
pub use Rattle.std.proofs.lemmas.Str.{IsCharBoundary-after_ascii, IsCharBoundary-before_ascii, IsCharBoundary-end, IsCharBoundary-from_rest, IsCharBoundary-start, IsUtf8-append, IsUtf8-drop, IsUtf8-from_ascii, IsUtf8-from_is_utf8, IsUtf8-nil, IsUtf8-take, chars-IsAscii, chars-append, chars-nil, is_utf8-from_IsUtf8}
pub use Rattle.std.specs.List.{prefix_len, starts_with}
pub use Rattle.std.specs.Str.{IsAscii, IsCharBoundary, is_utf8}
unfoldable pub use Rattle.std.specs.Str.{chars}
pub use Rattle.kt_base.specs.Characters.{is_space}
pub use Rattle.kt_base.specs.Digits.{decimal_from, number_in_64_bits, is_digit}
pub use denote.Shadow.{shadow}
pub use denote.Text.{Utf8}
pub use Rattle.std.specs.Option.{option_to_list}
pub use Rattle.kt_script.specs.Faults.{IsScriptPrefix, IfFault, IsFaultOf, HasUnexpectedToken, HasUnfinishedStatement, brackets_after, end_fault, fault_of, last, open_bracket_lines}
pub use Rattle.kt_script.specs.Grammar.{IsKey, ArePathParts, Script, IsSeparator, IsStatement, assign, bare_table, by_name, by_text, call, call_table, call_text, comma, ended_and, first_token_line, token_kinds, last_pair, named_part, no_pairs, no_parts, no_stmts, pair, pair_and, statement_of_tokens, quoted_part, semicolon, stmt_and, literal_kind}
pub use Rattle.kt_script.specs.Inner.Automaton.{IsBetweenStatements, begin_statement, transition_after_table, completed_statements, transition_after_statement, transition_of_step, next, position_after, transition_of_tokens, step, literal_of, with_pair}
pub use Rattle.kt_script.specs.Inner.Comments.{long_comment_end, comment_at}
pub use Rattle.kt_script.specs.Inner.Pieces.{blank, invalid_lexeme, token}
pub use Rattle.kt_script.specs.Inner.Reading.{HasRead, IsUnexpectedToken}
pub use Rattle.kt_script.specs.Inner.Strings.{decoded_string, escape_at, escape_element, with_escaped_byte, quoted_token, quoted_at, string_element_at, string_at, with_prefix}
pub use Rattle.kt_script.specs.Inner.Tokens.{tokens_in}
unfoldable pub use Rattle.kt_script.specs.Inner.Tokens.{lexeme_at, tokens}
pub use Rattle.kt_script.specs.Inner.Words.{begins_with_name_start, name_at, number_lexeme, number_at}
pub use Rattle.kt_script.specs.Letters.{escape_of, is_name_start, is_plain, is_name_byte}
pub use Rattle.kt_script.specs.Spelling.{ReturnsStatements, IsResultOf, HasFault, ReturnsFault, Spells, script_length_limit}
pub use Rattle.kt_script.specs.TokenRules.{IsBlank, Closes, AllSatisfy, HasFlaw, IsStringContent, IsInvalidFirstByte, AreTokens, HasNoCommentEnd, HasNoEscape, StopsAt, IsToken, punctuation_token, name_token, number_token, string_token, bad_escape, blank_first, endless_comment, endless_string, escape, is_not_newline, is_quote, itself, large_number, lettered_number, leveled_comment, line_after, line_comment, line_at_end, lone_dash, long_comment, punctuation_kind_of, invalid_token, not_yet, nothing, opens_leveled_comment, opens_long_comment, space, invalid_first_byte, no_text, kind_of_word, token_first}
pub use Rattle.kt_script.specs.Types.{Action, Assign, Bad, Invalid, Call, CloseBrace, CloseBracket, CloseParen, Comma, Dot, Unterminated, Equals, Flaw, TokenKind, LeveledComment, Literal, Name, NoMemory, NotUtf8, Number, OpenBrace, OpenBracket, OpenParen, Pair, Lexeme, ScriptState, Quoted, ScriptFault, Semicolon, Start, Stmt, Token, TooLong, Truth, AfterStatement, InStatement}
pub use Rattle.kt_script.specs.declared.parser.Parser.{Parser}
pub use Rattle.kt_script.specs.declared.token.StringElement.{StringElement}
pub use Rattle.kt_script.specs.declared.token.StringElement.TheVariants.{Escape, Flawed, Quote}
pub use Rattle.kt_script.specs.declared.state.State.{State}
pub use Rattle.kt_script.specs.declared.state.State.TheVariants.{AfterArgument, AfterDot, AfterKeyEquals, AfterKeyBracket, AfterKeyString, AfterKey, AfterName, AfterParen, AfterPair, Pairs, AfterPath, AfterPathEquals, AfterPathBracket, AfterPathString}
pub use Rattle.kt_script.specs.declared.state.Transition.{Transition}
pub use Rattle.kt_script.specs.declared.state.Transition.TheVariants.{Advance}
pub use Rattle.kt_script.specs.declared.state.Transition.TheVariants.{Accept}
pub use Rattle.kt_script.specs.declared.state.Table.{Table}
