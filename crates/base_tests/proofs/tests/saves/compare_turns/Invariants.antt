use Rattle.std.proofs.Common.{◌≡◌, length}
use Rattle.sl_saves.specs.Lists.{list_window, list_size}
use Rattle.sl_saves.specs.Rings.{ring_window, ring_size}
use Rattle.base_tests.proofs.tests.saves.compare_turns.Given as goal

abbrev pub invariant-loop : goal.invariant-loop
invariant-loop l = record {
  of_list_window : list_window l.list ≡ l.window;
  of_list_size : list_size l.list ≡ l.ring;
  of_ring_window : ring_window l.slots ≡ l.window;
  of_ring_size : ring_size l.slots ≡ l.ring;
  one_slots : length l.views.one.slots ≡ l.ring;
  other_slots : length l.views.other.slots ≡ l.ring;
}
