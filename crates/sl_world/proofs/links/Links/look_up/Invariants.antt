use Rattle.std.proofs.Common.{◌≡◌, ◌<◌, ℕ, take, map, length}
use Rattle.sl_world.specs.Scene.{links_of}
use Rattle.sl_world.specs.Looked.{entry_of, step_at}
use Rattle.sl_world.proofs.links.Links.look_up.Given as goal

abbrev pub invariant-loop-actor : goal.invariant-loop-actor
invariant-loop-actor g l =
    record {
      entries : map entry_of l.steps.items ≡ links_of l.self.plan (take l.actor-index l.schedule);
      alone : (k : ℕ) → k < length l.steps.items → (step_at l.steps.items k).run ≡ 1;
    }
