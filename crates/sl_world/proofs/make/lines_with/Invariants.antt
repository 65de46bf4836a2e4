use Rattle.std.proofs.Common.{◌≡◌, ◌≤◌, ℕ, length, map, take, get_or, None, []}
use Rattle.sl_world.specs.Scene.{lines_with}
use Rattle.sl_world.specs.Mesh.{lines_of}
use Rattle.sl_world.proofs.make.lines_with.Given as goal

abbrev pub invariant-loop-link : goal.invariant-loop-link
invariant-loop-link g l =
    record {
      made : lines_of l.lines.items ≡ lines_with (take l.link l.initial.losses.items) (take l.link l.lost) (take l.link (map (λ v. v.items) l.initial.rests.items));
      losses_left : (j : ℕ) → l.link ≤ j → get_or l.losses.items j None ≡ get_or l.initial.losses.items j None;
      rests_left : (j : ℕ) → l.link ≤ j → get_or (map (λ v. v.items) l.rests.items) j [] ≡ get_or (map (λ v. v.items) l.initial.rests.items) j [];
      losses_each : length l.losses.items ≡ length l.initial.losses.items;
      rests_each : length l.rests.items ≡ length l.initial.rests.items;
    }
