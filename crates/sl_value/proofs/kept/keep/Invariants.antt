use Rattle.std.proofs.Common.{◌≡◌, ◌++◌, length, map, take, drop}
use Rattle.std.specs.List.{AllByRecursion}
use Rattle.sl_value.specs.Valued.{kept_view, kept_of, HasRoom}
use Rattle.sl_value.proofs.kept.keep.Given as goal

abbrev pub invariant-loop-i : goal.invariant-loop-i
invariant-loop-i l =
    let us = map kept_view l.initial.kept.items in
    record {
      kept : map kept_view l.kept.items ≡ map (kept_of l.view l.done) (take l.i us) ++ drop l.i us;
      room : AllByRecursion (HasRoom l.ring) (drop l.i l.kept.items);
      len : length l.kept.items ≡ length l.initial.kept.items;
    }
