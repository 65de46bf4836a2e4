-- Actors in a ring: each has a link to the next one.
use Rattle.std.specs.Prelude.{◌≡◌, ◌<◌, ◌+◌, ◌==◌, ℕ, List, length, replicate, if◌then◌else◌}
use Rattle.sl_machine.specs.Plan.{Plan, link_at}
use Rattle.sl_machine.specs.declared.wiring.Link.{Link}
use Rattle.thread_tests.specs.declared.passer.Passer.{Passer}

-- the actor after this one, of so many
abbrev pub next : ℕ → ℕ → ℕ
next count actor = if actor + 1 == count then 0 else actor + 1

-- the links of the first actors of a ring
pub record AreInRing (count firsts : ℕ) (links : List Link) : Type 0 where
  pub each : length links ≡ firsts
  pub is : (k : ℕ) → k < firsts → link_at links k ≡ record { from = k; out = 0; to = next count k; choice = 0 }

pub record IsRing (count : ℕ) (plan : Plan) : Type 0 where
  pub links : AreInRing count count plan.links
  pub ins : plan.ins ≡ replicate count 1
  pub outs : plan.outs ≡ replicate count 1
  pub actions : plan.actions ≡ replicate count 1

-- the hops of a machine's tokens, those that it has left, and those that came
abbrev pub PasserState : Type 0
PasserState = ℕ × ℕ × ℕ

abbrev pub passer_state : Passer → PasserState
passer_state p = (p.hops, p.left, p.seen)
