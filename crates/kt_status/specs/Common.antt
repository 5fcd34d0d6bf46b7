-- Exports the definitions that the clauses of this crate cite. Declares nothing.
pub use Rattle.kt_base.specs.Phrases.{phrase_text}
pub use Rattle.kt_base.specs.Reasons.{outcome_text}
pub use Rattle.kt_base.specs.Verdicts.{VerdictValue, broken}
pub use Rattle.kt_status.specs.Inner.Verdicts.{atf_verdict, verdict_after_good_body, plain_verdict, tap_verdict}
pub use Rattle.kt_status.specs.Tables.{IsVerdict, IsVerdictAfterCleanup, IsVerdictOfRefusal, claim_fault_text, tap_fault_text}
