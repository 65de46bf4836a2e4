use Rattle.std.proofs.Common.{◌≡◌}
use Rattle.sl_saves.specs.Lists.{list_window, list_size}
use Rattle.sl_saves.specs.Rings.{ring_window, ring_size}
use Rattle.base_tests.proofs.tests.saves.adopt_unready.Given as goal

abbrev pub invariant-loop-turn : goal.invariant-loop-turn
invariant-loop-turn l = record {
  of_list_window : list_window l.list ≡ 7;
  of_list_size : list_size l.list ≡ list_size l.fn.list;
  of_ring_window : ring_window l.slots ≡ 7;
  of_ring_size : ring_size l.slots ≡ ring_size l.fn.slots;
}
