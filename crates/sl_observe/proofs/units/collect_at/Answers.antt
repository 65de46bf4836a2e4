use Rattle.std.proofs.Common.{ap, sym, ◌∙◌, set}
use Rattle.std.proofs.lemmas.List.{get_or_read}
use Rattle.sl_observe.specs.Observer.{new_unit, after_done}
use Rattle.sl_observe.specs.Kept.{states}
use Rattle.sl_observe.proofs.UnitLists.{states_set, state_at}
use Rattle.sl_observe.proofs.units.collect_at.Goals as goal

pub returns-clause-set : goal.returns-clause-set
returns-clause-set c =
    let us = c.args.units.now.items in
    let place = c.args.place in
    let hears = after_done c.args.ring c.args.link c.args.done.now in
    let read = get_or_read us place c.index_mut-unit.result.now c.requires.place c.index_mut-unit.ensures.value (record { state = new_unit 0 0; room = 0 }) in
    let heard = c.collect.ensures.state ∙ ap hears (ap (λ u. u.state) read ∙ sym (state_at us place c.requires.place)) in
    states_set us place c.collect.new.self ∙ ap (set (states us) place) heard
