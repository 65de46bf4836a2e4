use Rattle.std.proofs.Common.{◌∙◌}
use Rattle.sl_world.specs.World.{scene}
use Rattle.sl_check.proofs.Driven.{pass-tells}
use Rattle.sl_check.proofs.nodes.take_pass.Goals as goal

pub returns-clause-idle : goal.returns-clause-idle
returns-clause-idle c = pass-tells c.books_grow_by_turns.ensures.schedule c.idle_passes_settle.ensures c.settled_worlds_are_idle.ensures c.args.net.now (scene c.args.world.now) (scene c.drive.new.taker) c.as_slice.result.now
    c.entries.result c.entries-before.result (c.as_slice.ensures.value ∙ c.in_ok-pass.ensures) c.in_ok-drive.ensures.driven.follows c.entries.ensures c.entries-before.ensures
