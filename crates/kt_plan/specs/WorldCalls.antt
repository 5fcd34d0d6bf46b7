-- Calls to a world, to its tree and to its host, in one list.
use Rattle.std.specs.Prelude.{List, ◌++◌, map}
use Rattle.kt_plan.specs.Types.{Asked}
use Rattle.kt_plan.specs.Reply.{Reply}

-- `WorldCall`: a call to the tree or to the host of a world, with its result.
pub data WorldCall : Type 0 where
  CallToTree : Asked → WorldCall
  CallToHost : Reply → WorldCall

-- `WorldLeads asks replies old call new`: the call `call` may lead the world from the state
-- `old` to `new`. `asks` is the relation of calls to the tree, and `replies` is the relation of
-- calls to the host.
abbrev pub WorldLeads : {W : Type 0} → (W → Asked → W → Type 0) → (W → Reply → W → Type 0) → W → WorldCall → W → Type 0
WorldLeads asks replies old (CallToTree call) new = asks old call new
WorldLeads asks replies old (CallToHost call) new = replies old call new

-- `tree_calls calls`: the calls to the tree in the list `calls`, as calls to the world.
abbrev pub tree_calls : List Asked → List WorldCall
tree_calls calls = map CallToTree calls

-- `host_calls calls`: the calls to the host in the list `calls`, as calls to the world.
abbrev pub host_calls : List Reply → List WorldCall
host_calls calls = map CallToHost calls

-- `IsCallPrefix AreAll calls`: the list of calls `calls` can be extended at its end to a list for
-- which `AreAll` is true.
abbrev pub IsCallPrefix : {Q : Type 0} → (List Q → Type 0) → List Q → Type 0
IsCallPrefix {Q} AreAll calls = (more : List Q) × AreAll (calls ++ more)
