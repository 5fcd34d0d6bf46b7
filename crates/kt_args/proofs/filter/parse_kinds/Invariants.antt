use Rattle.std.proofs.Common.{◌≡◌, List, ◌++◌, drop, map, option_map}
use Rattle.kt_args.proofs.Common.{Kind, comma_elements, kinds_of_elements}
use Rattle.kt_args.proofs.filter.parse_kinds.Given as goal

-- The kinds so far, followed by the kinds of the other elements, are the kinds of the filter.
abbrev pub invariant-loop-element : goal.invariant-loop-element
invariant-loop-element l = kinds_of_elements (comma_elements l.filter) ≡ option_map (λ (kinds : List Kind). l.kinds ++ kinds) (kinds_of_elements (map (λ x. x.now) (drop l.element-index l.element-items)))
