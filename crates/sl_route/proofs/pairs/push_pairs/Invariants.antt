use Rattle.std.proofs.Common.{◌≡◌, ◌++◌, length, string_bytes}
use Rattle.std.specs.List.{flat_map}
use Rattle.sl_parts.specs.Parts.{below}
use Rattle.sl_route.proofs.pairs.push_pairs.Given as goal

abbrev pub invariant-loop-device : goal.invariant-loop-device
invariant-loop-device g l = string_bytes l.out ≡ string_bytes l.fn.out ++ flat_map (λ d. flat_map (g.T.PairText.text l.net.parts d) (below (length l.net.parts.hosts))) (below l.device)
