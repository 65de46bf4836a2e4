use Rattle.std.proofs.Common.{◌≡◌, ◌<◌, ℕ}
use Rattle.sl_world.specs.Mesh.{lines_of, room_at, KeepsSomeRoom}
use Rattle.sl_world.specs.Places.{place_of}
use Rattle.sl_world.proofs.links.make_room_at.Given as goal

abbrev pub invariant-loop-number : goal.invariant-loop-number
invariant-loop-number g l =
    record {
      same : lines_of l.lines ≡ lines_of l.initial.lines;
      keeps : KeepsSomeRoom l.initial.lines l.lines;
      room : (o : ℕ) → o < l.number → 0 < room_at l.lines (place_of l.outs l.actor o);
    }
