-- Lists of pairs that can share their memory.
use Rattle.std.specs.Prelude.{List, Option, Some, None, Vec}
use Rattle.std.specs.Rc.{rc_value}
use Rattle.std.specs.declared.rc.Rc.{Rc}
use Rattle.kt_base.specs.declared.variable.Variable.{Variable}

-- `shared_or_own shared own`: the pairs of a `Variables` whose fields are `shared` and `own`: the
-- pairs in `shared` if it is present, otherwise `own`.
abbrev pub shared_or_own : {Y Z : Type 0} → Option (Rc (Vec Variable Y) Z) → List Variable → List Variable
shared_or_own (Some pairs) own = (rc_value pairs).items
shared_or_own None own = own
