use Rattle.std.proofs.Common.{◌≡◌, ◌+◌, drop, map, length}
use Rattle.std.specs.VecDeque.{deque_len}
use Rattle.sl_actor.specs.Held.{held}
use Rattle.sl_actor.specs.Made.{AreNew}
use Rattle.sl_actor.proofs.make.assemble_each.Given as goal

abbrev pub invariant-loop-machine : goal.invariant-loop-machine
invariant-loop-machine g l =
    (l.machines.items ≡ drop (length l.actors.items) l.initial.machines.items)
    × (l.takes.items ≡ drop (length l.actors.items) l.initial.takes.items)
    × (l.outs.items ≡ drop (length l.actors.items) l.initial.outs.items)
    × (length l.actors.items + length l.machines.items ≡ length l.initial.machines.items)
    × AreNew g.A.Machine.state g.A.Machine.counts l.initial.machines.items (length l.actors.items) l.initial.takes.items l.initial.outs.items (map held l.actors.items)

abbrev pub decreases-loop-machine : goal.decreases-loop-machine
decreases-loop-machine g l = deque_len l.machines
