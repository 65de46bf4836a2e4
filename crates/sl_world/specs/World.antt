-- What a world of machines stands for.
use Rattle.std.specs.Prelude.{map}
use Rattle.sl_machine.specs.declared.machine.Machine.{Ghosts}
use Rattle.sl_world.specs.Scene.{Scene}
use Rattle.sl_world.specs.declared.world.World.{World}

abbrev pub scene : {A M : Type 0} {g : Ghosts A M} → World A M g → Scene g.State M
scene {A} {M} {g} w =
    record { plan = w.links.plan; states = map g.state w.machines.items; lines = w.links.lines; book = w.book.entries }
