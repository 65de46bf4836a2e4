use Rattle.std.proofs.Common.{◌≡◌, length, map, take}
use Rattle.std.specs.List.{AllByRecursion}
use Rattle.sl_value.specs.Valued.{kept_view, HasRoom}
use Rattle.sl_value.proofs.kept.make_room.Given as goal

abbrev pub invariant-loop-i : goal.invariant-loop-i
invariant-loop-i l = record {
  same : map kept_view l.kept.items ≡ map kept_view l.initial.kept.items;
  room : AllByRecursion (HasRoom l.room) (take l.i l.kept.items);
  len : length l.kept.items ≡ length l.initial.kept.items;
}
