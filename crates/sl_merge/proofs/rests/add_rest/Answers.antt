use Rattle.sl_merge.proofs.RestLemmas.{rest_added, on_all}
use Rattle.sl_merge.proofs.rests.add_rest.Goals as goal

pub returns : goal.returns
returns g c =
    let m = c.meet.ensures in
    let e = c.add.ensures in
    on_all c.add.result
    (rest_added c.args.end c.args.part c.args.rests.now c.add.new.self c.meet.result.put c.meet.result.taken c.meet.result.left c.in_ok-messages.messages.items c.add_messages.new.messages.items m.put m.taken m.left c.in_ok-messages.ensures c.in_ok-add_messages.ensures)
    e.losses e.lost e.messages
