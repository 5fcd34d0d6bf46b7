use Rattle.std.proofs.Common.{rules}
use Rattle.std.proofs.lemmas.Result.{MatchResult-weaker}
use Rattle.kt_cli.proofs.Common.{not_absolute, none_made}
use Rattle.kt_cli.proofs.Refusing.{none_asked}
use Rattle.kt_cli.proofs.host.host_execution.create_driver.Goals as goal

pub returns-in-Ok-clause-refused : goal.returns-in-Ok-clause-refused
returns-in-Ok-clause-refused g c = MatchResult-weaker c.new.result c.new.ensures (λ _ _. tt) (λ fault none. none_made fault.0 none.0 fault.1 none.1 none.2)

pub returns-in-Err-clause-refused : goal.returns-in-Err-clause-refused
returns-in-Err-clause-refused g c = none_asked g.O.Os c.args.os _ _

pub returns-then-not-is_absolute-clause-refused : goal.returns-then-not-is_absolute-clause-refused
returns-then-not-is_absolute-clause-refused g c = not_absolute (search rules)
