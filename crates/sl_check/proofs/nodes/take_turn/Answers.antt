use Rattle.sl_world.specs.World.{scene}
use Rattle.sl_check.proofs.Driven.{turn-tells}
use Rattle.sl_check.proofs.nodes.take_turn.Goals as goal

pub returns-clause-turn : goal.returns-clause-turn
returns-clause-turn c = turn-tells c.books_grow_by_turns.ensures.schedule c.args.net.now (scene c.args.world.now) (scene c.drive.new.taker) c.args.entry c.entries.result c.entries-before.result
    c.in_ok-drive.ensures.driven.follows c.entries.ensures c.entries-before.ensures
