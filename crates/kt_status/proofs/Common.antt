-- Exports the names that most proofs of this crate cite. Declares nothing.
pub use Rattle.std.proofs.lemmas.Bool.{eq-eqb, eqb-true, lt-ltb, ltb-true}
pub use Rattle.kt_base.specs.Verdicts.{VerdictValue}
pub use Rattle.kt_base.specs.declared.child.Outcome.{Outcome}
pub use Rattle.kt_base.specs.declared.child.Outcome.TheVariants.{Exited, Signaled, TimedOut, WaitFailed}
pub use Rattle.kt_status.specs.Inner.Verdicts.{atf_verdict, verdict_after_good_body, plain_verdict, tap_verdict, verdict_after_cleanup, verdict_of, verdict_of_refusal}
pub use Rattle.kt_status.specs.Tables.{AtfRow, CleanupRow, IsFirstRow, IsVerdict, IsVerdictAfterCleanup, IsVerdictOfRefusal, PlainRow, RefusalRow, TapRow}
