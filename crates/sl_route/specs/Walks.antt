-- Routes in the words of walks of any length, and how a route goes on.
--     IsWalk parts d e walk    a walk from the device d to the device e
use Rattle.std.specs.Prelude.{◌≡◌, ℕ, ◌≤◌, [], ◌∷◌, ◌++◌, map, length, Option, Some, None}
use Rattle.std.specs.List.{Contains}
use Rattle.sl_parts.specs.declared.parts.CablePart.{CablePart}
use Rattle.sl_parts.specs.Parts.{Parts}
use Rattle.sl_route.specs.Route.{Walk, turned, hops, next_port}

-- a cable of the net, in one of its two directions
abbrev pub IsCable : Parts → CablePart → Type 0
IsCable parts c = Contains (parts.cables ++ map turned parts.cables) c

-- each cable begins at the device where the one before ends
abbrev pub IsWalk : Parts → ℕ → ℕ → Walk → Type 0
IsWalk parts d e [] = d ≡ e
IsWalk parts d e (c ∷ cs) = IsCable parts c × (c.a.device ≡ d) × IsWalk parts c.b.device e cs

-- some walk has n cables, and none has fewer
pub record IsLeast (parts : Parts) (d e n : ℕ) : Type 0 where
  pub walk : Walk
  pub leads : IsWalk parts d e walk
  pub size : length walk ≡ n
  pub least : (other : Walk) → IsWalk parts d e other → n ≤ length other

-- the least number of cables of a walk, where there is a walk
abbrev pub AreHops : Parts → ℕ → ℕ → Option ℕ → Type 0
AreHops parts d e None = (walk : Walk) → IsWalk parts d e walk → ⊥
AreHops parts d e (Some n) = IsLeast parts d e n

-- by the next port a cable leads to a device from which the host is one cable nearer
pub record LeadsNearer (parts : Parts) (d h n : ℕ) : Type 0 where
  pub cable : CablePart
  pub is_cable : IsCable parts cable
  pub begins : cable.a.device ≡ d
  pub port : next_port parts d h ≡ Some cable.a.port
  pub nearer : hops parts cable.b.device h ≡ Some n
