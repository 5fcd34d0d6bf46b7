-- Lemmas on calls to a tree and to a host, in one list.
use Rattle.std.proofs.Common.{List, [], ◌∷◌}
use Rattle.kt_plan.proofs.Common.{Chain, Asked, WorldLeads, tree_calls, host_calls, Reply}

module _ {W : Type 0} (asks : W → Asked → W → Type 0) (replies : W → Reply → W → Type 0) where
  -- Calls to the tree are calls to its world.
  pub chain_of_tree : (asked : List Asked) (a b : W) → Chain asks a asked b → Chain (WorldLeads asks replies) a (tree_calls asked) b
  chain_of_tree [] a b p = p
  chain_of_tree (q ∷ qs) a b p = (p.0, p.1, chain_of_tree qs p.0 b p.2)

  -- Calls to the host are calls to its world.
  pub chain_of_host : (answers : List Reply) (a b : W) → Chain replies a answers b → Chain (WorldLeads asks replies) a (host_calls answers) b
  chain_of_host [] a b p = p
  chain_of_host (q ∷ qs) a b p = (p.0, p.1, chain_of_host qs p.0 b p.2)
