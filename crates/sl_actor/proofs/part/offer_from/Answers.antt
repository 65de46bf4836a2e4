use Rattle.sl_actor.proofs.WaitingLemmas.{full_sent, full_view, if_false}
use Rattle.sl_actor.proofs.part.offer_from.Goals as goal

pub returns-in-Full-clause-sent : goal.returns-in-Full-clause-sent
returns-in-Full-clause-sent g c =
    let e = c.offer.ensures in
    let f = c.in-Full.ensures in
    full_sent c.loop-s.part c.offer.new.self _ _ e.channel e.capacity f.same (cc (f.back, c.in-Some.ensures.items)) c.loop-s.invariant.0

pub returns-in-Full-clause-none : goal.returns-in-Full-clause-none
returns-in-Full-clause-none g c =
    let e = c.offer.ensures in
    let f = c.in-Full.ensures in
    if_false c.loop-s.any (λ none. full_view c.loop-s.part c.offer.new.self _ _ e.channel e.capacity f.same e.told (cc (f.back, c.in-Some.ensures.items)) (c.loop-s.invariant.1 none))
