use Rattle.std.proofs.Common.{arith}
use Rattle.sl_actor.specs.Held.{held}
use Rattle.actor_tests.specs.Lines.{in_line}
use Rattle.world_tests.specs.Relays.{relay_rules}
use Rattle.actor_tests.specs.Lines.{states_in_line}
use Rattle.actor_tests.proofs.TurnLemmas.{turned}
use Rattle.actor_tests.proofs.merge.turn_at.Goals as goal

pub returns-in_err-turn : goal.returns-in_err-turn
returns-in_err-turn g c =
    let t = turned held relay_rules states_in_line c.args.actors.now.items c.args.place c.index_mut-actor.result.now c.turn.new.self (omega arith) c.index_mut-actor.ensures.value c.turn.ensures.ends c.turn.ensures.counts c.turn.ensures.follows c.requires.follow in
    record { wired = c.made_actors_are_wired.ensures.kept in_line _ _ t.0 c.requires.wired; follow = t.1 }

pub returns : goal.returns
returns g c =
    let t = turned held relay_rules states_in_line c.args.actors.now.items c.args.place c.index_mut-actor.result.now c.turn.new.self (omega arith) c.index_mut-actor.ensures.value c.turn.ensures.ends c.turn.ensures.counts c.turn.ensures.follows c.requires.follow in
    record { wired = c.made_actors_are_wired.ensures.kept in_line _ _ t.0 c.requires.wired; follow = t.1 }
