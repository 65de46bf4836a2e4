use Rattle.std.proofs.Common.{◌≡◌, map, take}
use Rattle.std.specs.Prelude.{filter}
use Rattle.sl_layout.specs.Net.{link_of, same_sort}
use Rattle.sl_layout.specs.Wires.{out_of}
use Rattle.sl_control.proofs.wires.outs_of.Given as goal

abbrev pub invariant-loop-link : goal.invariant-loop-link
invariant-loop-link l = l.outs.items ≡ map (out_of l.net) (filter (λ k. same_sort (link_of l.net k).sort l.sort) (take l.link-index l.link-items))
