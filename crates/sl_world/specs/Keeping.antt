-- What every schedule keeps of a world.
use Rattle.std.specs.Prelude.{◌≡◌, length}
use Rattle.sl_world.specs.Scene.{Scene}

-- the same wiring, and as many machines and links
pub record SameShape {S M : Type 0} (w v : Scene S M) : Type 0 where
  pub plan : v.plan ≡ w.plan
  pub states : length v.states ≡ length w.states
  pub lines : length v.lines ≡ length w.lines
