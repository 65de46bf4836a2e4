use Rattle.std.proofs.Common.{◌≡◌, ◌+◌, ◌<◌, length, ℕ, true}
use Rattle.std.specs.Prelude.{slice_index, All}
use Rattle.sl_world.specs.Scene.{put_each}
use Rattle.sl_world.specs.Mesh.{lines_of, room_at, KeepsSomeRoom, HasRoomFor, IsElsewhere}
use Rattle.sl_world.specs.Places.{place_of}
use Rattle.sl_world.proofs.links.put_at_places.Given as goal

abbrev pub invariant-loop-number : goal.invariant-loop-number
invariant-loop-number g l =
    record {
      rest : put_each (place_of l.outs l.actor) l.out.items (lines_of l.lines) ≡ put_each (place_of l.outs l.actor) l.fn.out.items (lines_of l.initial.lines);
      others : (k : ℕ) → IsElsewhere (place_of l.outs l.actor) l.fn.out.items k → (room_at l.lines k ≡ room_at l.initial.lines k) × IsElsewhere (place_of l.outs l.actor) l.out.items k;
      within : All (λ p. slice_index l.outs.starts.items l.actor + p.0 < length l.outs.places.items) l.out.items;
      room : HasRoomFor (place_of l.outs l.actor) l.lines l.out.items;
      some : l.roomy ≡ true → KeepsSomeRoom l.initial.lines l.lines;
      space : l.out.room ≡ l.fn.out.room;
    }

abbrev pub decreases-loop-number : goal.decreases-loop-number
decreases-loop-number g l = length l.out.items
