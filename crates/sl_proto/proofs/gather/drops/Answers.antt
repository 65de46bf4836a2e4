use Rattle.std.proofs.Common.{◌≡◌, ℕ, ◌+◌, List, Some, ap, arith, take}
use Rattle.std.specs.Prelude.{slice_get}
use Rattle.sl_model.specs.Words.{weigh}
use Rattle.sl_world.specs.World.{scene}
use Rattle.sl_proto.specs.Nodes.{NodeState, node_state}
use Rattle.sl_proto.specs.Told.{drops_told}
use Rattle.sl_proto.proofs.Told.{weigh_next}
use Rattle.sl_proto.proofs.gather.drops.Goals as goal

pub overflow_add-bad : goal.overflow_add-bad
overflow_add-bad c = let next = weigh_next (λ x. (drops_told x).bad) (scene c.args.world.now).states c.loop-actor.actor (node_state c.machine.result.now) c.machine.ensures.state in
    let same = ap (λ d. d.bad) c.drops_at-more.ensures in
    omega (arith, next.0, next.1, same, c.loop-actor.invariant.bad, c.requires.bad)

pub overflow_add-expired : goal.overflow_add-expired
overflow_add-expired c = let next = weigh_next (λ x. (drops_told x).expired) (scene c.args.world.now).states c.loop-actor.actor (node_state c.machine.result.now) c.machine.ensures.state in
    let same = ap (λ d. d.expired) c.drops_at-more.ensures in
    omega (arith, next.0, next.1, same, c.loop-actor.invariant.expired, c.requires.expired)

pub overflow_add-noroute : goal.overflow_add-noroute
overflow_add-noroute c = let next = weigh_next (λ x. (drops_told x).noroute) (scene c.args.world.now).states c.loop-actor.actor (node_state c.machine.result.now) c.machine.ensures.state in
    let same = ap (λ d. d.noroute) c.drops_at-more.ensures in
    omega (arith, next.0, next.1, same, c.loop-actor.invariant.noroute, c.requires.noroute)

-- one node more, in each of the three
sum-next : (f : NodeState → ℕ) (xs : List NodeState) (i total more : ℕ) (x : NodeState) → slice_get xs i ≡ Some x → total ≡ weigh f (take i xs) → more ≡ f x → total + more ≡ weigh f (take (i + 1) xs)
sum-next f xs i total more x e t m = let next = weigh_next f xs i x e in omega (arith, next.0, t, m)

pub loop-actor-preserved : goal.loop-actor-preserved
loop-actor-preserved c = let xs = (scene c.args.world.now).states in
    let i = c.loop-actor.actor in
    let x = node_state c.machine.result.now in
    record {
      bad = sum-next (λ x. (drops_told x).bad) xs i c.loop-actor.bad c.drops_at-more.result.bad x c.machine.ensures.state c.loop-actor.invariant.bad (ap (λ d. d.bad) c.drops_at-more.ensures);
      expired = sum-next (λ x. (drops_told x).expired) xs i c.loop-actor.expired c.drops_at-more.result.expired x c.machine.ensures.state c.loop-actor.invariant.expired (ap (λ d. d.expired) c.drops_at-more.ensures);
      noroute = sum-next (λ x. (drops_told x).noroute) xs i c.loop-actor.noroute c.drops_at-more.result.noroute x c.machine.ensures.state c.loop-actor.invariant.noroute (ap (λ d. d.noroute) c.drops_at-more.ensures);
    }
