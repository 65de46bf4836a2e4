use Rattle.std.proofs.Common.{◌≡◌, ◌++◌, string_bytes}
use Rattle.std.specs.List.{flat_map}
use Rattle.sl_parts.specs.Parts.{below}
use Rattle.sl_route.proofs.pairs.push_device.Given as goal

abbrev pub invariant-loop-host : goal.invariant-loop-host
invariant-loop-host g l = string_bytes l.out ≡ string_bytes l.fn.out ++ flat_map (g.T.PairText.text l.net.parts l.device) (below l.host)
