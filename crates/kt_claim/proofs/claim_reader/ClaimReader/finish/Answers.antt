use Rattle.std.proofs.Common.{rules}
use Rattle.kt_claim.proofs.Claims.{related, unique}
use Rattle.kt_claim.proofs.claim_reader.ClaimReader.finish.Goals as goal

pub returns-clause-value : goal.returns-clause-value
returns-clause-value c = λ fed h. related c.claim_of.result fed (search rules)

pub returns-clause-only : goal.returns-clause-only
returns-clause-only c = λ fed h claim is. unique c.claim_of.result fed claim (search rules) is
