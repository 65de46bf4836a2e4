use Rattle.std.proofs.Common.{◌<◌, ap, ◌∙◌, length, arith}
use Rattle.sl_observe.specs.Observer.{unit_at, after_done}
use Rattle.sl_observe.specs.Kept.{states}
use Rattle.sl_observe.proofs.UnitLists.{floors_kept, length_states}
use Rattle.sl_observe.proofs.units.take_done.Goals as goal

pub returns-then-place-len-clause-floors : goal.returns-then-place-len-clause-floors
returns-then-place-len-clause-floors c =
    let us = states c.args.units.now.items in
    let place = c.args.done.now.unit in
    let size = length_states c.args.units.now.items in
    let within : place < length us = omega (arith, size, c.len.ensures) in
    c.set.ensures ∙ floors_kept us (states c.collect_at.new.units.items) c.args.floors.now place c.floor_at.result (after_done c.args.ring c.args.link c.args.done.now (unit_at us place)) within c.requires.floors
    c.collect_at.ensures.set (c.floor_at.ensures ∙ ap (λ xs. (unit_at (states xs) place).floor) c.as_slice.ensures.value)
