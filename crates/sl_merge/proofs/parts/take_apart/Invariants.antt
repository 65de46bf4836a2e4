use Rattle.std.proofs.Common.{◌≡◌, ◌++◌, Some, map}
use Rattle.std.specs.Option.{option_map}
use Rattle.std.specs.VecDeque.{deque_len}
use Rattle.sl_actor.specs.Held.{held}
use Rattle.sl_actor.specs.Outs.{out_view}
use Rattle.sl_merge.proofs.parts.take_apart.Given as goal

abbrev pub invariant-loop-actor : goal.invariant-loop-actor
invariant-loop-actor g l =
    (map g.A.Machine.state l.machines.items ++ map (λ a. a.state) (map held l.actors.items) ≡ map (λ a. a.state) (map held l.fn.actors.items))
    × (map g.A.Machine.counts l.machines.items ++ map (λ a. a.counts) (map held l.actors.items) ≡ map (λ a. a.counts) (map held l.fn.actors.items))
    × (map (λ log. log.items) l.logs.items ++ map (λ a. a.log) (map held l.actors.items) ≡ map (λ a. a.log) (map held l.fn.actors.items))
    × (l.takes.items ++ map (λ a. map Some a.takes) (map held l.actors.items) ≡ map (λ a. map Some a.takes) (map held l.fn.actors.items))
    × (map (λ row. map (option_map out_view) row) l.outs.items ++ map (λ a. map Some a.outs) (map held l.actors.items) ≡ map (λ a. map Some a.outs) (map held l.fn.actors.items))

abbrev pub decreases-loop-actor : goal.decreases-loop-actor
decreases-loop-actor g l = deque_len l.actors
