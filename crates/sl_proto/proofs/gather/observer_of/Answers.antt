use Rattle.sl_world.specs.World.{scene}
use Rattle.sl_proto.proofs.Told.{has_observer}
use Rattle.sl_proto.proofs.gather.observer_of.Goals as goal

pub observer-requires : goal.observer-requires
observer-requires c = has_observer c.worlds_take_turns.ensures c.args.input.now c.requires.0 (scene c.args.world.now) c.requires.1

pub returns-clause-rows : goal.returns-clause-rows
returns-clause-rows c = c.nodes_tell_findings.ensures.rows c.args.input.now c.requires.0 (scene c.args.world.now) c.observer.result.now.state c.requires.1 c.observer.ensures
