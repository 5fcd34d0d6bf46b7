use Rattle.std.proofs.Common.{[]}
use Rattle.kt_claim.proofs.claim_reader.read_claim.Goals as goal

pub returns-clause-only : goal.returns-clause-only
returns-clause-only c = λ claim is. c.finish.ensures.only c.args.file.now (c.in_ok-feed.ensures.ok [] c.new-reader.ensures) claim is
