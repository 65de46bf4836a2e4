use Rattle.std.proofs.Common.{◌≡◌, map}
use Rattle.std.specs.Prelude.{filter, slice_index_or}
use Rattle.sl_layout.specs.declared.actor.ActorId.TheVariants.{Unit as OfUnit}
use Rattle.sl_parts.specs.Parts.{below}
use Rattle.sl_layout.specs.Net.{is_unit, nobody}
use Rattle.sl_layout.proofs.units.list_units.Given as goal

abbrev pub invariant-loop-i : goal.invariant-loop-i
invariant-loop-i l = record {
  numbers : l.numbers.items ≡ filter (λ a. is_unit (slice_index_or l.actors a nobody)) (below l.i);
  ids : map OfUnit l.ids.items ≡ map (λ a. slice_index_or l.actors a nobody) l.numbers.items;
}
