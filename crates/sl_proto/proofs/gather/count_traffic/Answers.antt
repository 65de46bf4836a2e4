use Rattle.std.proofs.Common.{arith, ap, ◌∙◌, take_all}
use Rattle.std.specs.Prelude.{option_map}
use Rattle.sl_model.specs.Words.{numbers}
use Rattle.sl_proto.specs.declared.node.Traffic.{Traffic}
use Rattle.sl_proto.specs.Told.{sent_told, delivered_told}
use Rattle.sl_proto.proofs.Told.{numbers_grow}
use Rattle.sl_proto.proofs.gather.count_traffic.Goals as goal

pub loop-actor-preserved : goal.loop-actor-preserved
loop-actor-preserved g c =
    let states = (g.T.Taker.scene c.args.taker.now).states in
    let i = c.loop-actor.actor in
    record {
      sent = numbers_grow sent_told states i c.loop-actor.sent.items c.add_traffic.new.sent.items (option_map (λ (t : Traffic). t.sent) c.traffic.result) (omega (arith, c.requires, c.loop-actor-test.true))
          (λ x here. (c.traffic.ensures x here).sent) c.loop-actor.invariant.sent c.in_ok-add_traffic.ensures.sent;
      delivered = numbers_grow delivered_told states i c.loop-actor.delivered.items c.add_traffic.new.delivered.items (option_map (λ (t : Traffic). t.delivered) c.traffic.result) (omega (arith, c.requires, c.loop-actor-test.true))
          (λ x here. (c.traffic.ensures x here).delivered) c.loop-actor.invariant.delivered c.in_ok-add_traffic.ensures.delivered;
    }

pub returns-clause-sent : goal.returns-clause-sent
returns-clause-sent g c = let states = (g.T.Taker.scene c.args.taker.now).states in
    c.loop-actor.invariant.sent ∙ ap (numbers sent_told) (take_all c.loop-actor.actor states (omega (arith, c.requires, c.loop-actor-test.false)))

pub returns-clause-delivered : goal.returns-clause-delivered
returns-clause-delivered g c = let states = (g.T.Taker.scene c.args.taker.now).states in
    c.loop-actor.invariant.delivered ∙ ap (numbers delivered_told) (take_all c.loop-actor.actor states (omega (arith, c.requires, c.loop-actor-test.false)))
