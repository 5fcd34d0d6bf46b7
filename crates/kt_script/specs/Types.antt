-- Exports the types that the definitions of this crate name. Declares nothing.
pub use Rattle.kt_script.specs.declared.fault.ScriptFault.{ScriptFault}
pub use Rattle.kt_script.specs.declared.fault.ScriptFault.TheVariants.{BadToken, NoMemory, NotLiteral, NotUtf8, TooLong, Unclosed}
pub use Rattle.kt_script.specs.declared.script_state.ScriptState.{ScriptState}
pub use Rattle.kt_script.specs.declared.script_state.ScriptState.TheVariants.{Start, AfterStatement, InStatement}
pub use Rattle.kt_script.specs.declared.syntax.Action.{Action}
pub use Rattle.kt_script.specs.declared.syntax.Action.TheVariants.{Assign, Call}
pub use Rattle.kt_script.specs.declared.syntax.Literal.{Literal}
pub use Rattle.kt_script.specs.declared.syntax.Pair.{Pair}
pub use Rattle.kt_script.specs.declared.syntax.Stmt.{Stmt}
pub use Rattle.kt_script.specs.declared.token.Flaw.{Flaw}
pub use Rattle.kt_script.specs.declared.token.Flaw.TheVariants.{Bad, Unterminated, LeveledComment}
pub use Rattle.kt_script.specs.declared.token.TokenKind.{TokenKind}
pub use Rattle.kt_script.specs.declared.token.TokenKind.TheVariants.{Invalid, CloseBrace, CloseBracket, CloseParen, Comma, Dot, Equals, Name, Number, OpenBrace, OpenBracket, OpenParen, Quoted, Semicolon, Truth}
pub use Rattle.kt_script.specs.declared.token.Lexeme.{Lexeme}
pub use Rattle.kt_script.specs.declared.token.Token.{Token}
