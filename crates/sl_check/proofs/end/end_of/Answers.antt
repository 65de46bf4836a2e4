use Rattle.std.proofs.Common.{◌≡◌, true, false, sym, subst, ap, rules, All}
use Rattle.sl_machine.specs.Plan.{HasChoice}
use Rattle.sl_layout.specs.Net.{Net}
use Rattle.sl_layout.specs.Wiring.{plan_of}
use Rattle.sl_net.specs.Input.{Input}
use Rattle.sl_world.specs.World.{scene}
use Rattle.sl_check.specs.Driven.{IsIdle}
use Rattle.sl_check.proofs.Ended.{keeps-in, idle-in, unsettled-in, took-on, ended-in}
use Rattle.sl_check.proofs.end.end_of.Goals as goal

pub follow-requires-clause-choices : goal.follow-requires-clause-choices
follow-requires-clause-choices c = subst (λ (n : Net). All (λ e. HasChoice (plan_of n) e.0 e.1) c.args.schedule.now) (sym (ap (λ (i : Input). i.net) c.input.view_is)) c.requires.choices

pub returns-in_err-entry-clause-stands : goal.returns-in_err-entry-clause-stands
returns-in_err-entry-clause-stands c = keeps-in c.args.input.now c.input.inside.net (scene c.args.world.now) (scene c.follow.new.world) (ap (λ (i : Input). i.net) c.input.view_is) c.follow.ensures.stands c.requires.stands

pub returns-in-Some-clause-ending : goal.returns-in-Some-clause-ending
returns-in-Some-clause-ending c = idle-in c.args.input.now c.input.inside.net (scene c.args.world.now) (scene c.follow.new.world) (scene c.follow.new.world) c.args.schedule.now (ap (λ (i : Input). i.net) c.input.view_is) c.requires.stands c.follow.ensures.stands
    c.in-Some.entry (rw c.in-Some.is at c.in_ok-entry.ensures.idle)

pub returns-in-Some-clause-stands : goal.returns-in-Some-clause-stands
returns-in-Some-clause-stands c = keeps-in c.args.input.now c.input.inside.net (scene c.args.world.now) (scene c.follow.new.world) (ap (λ (i : Input). i.net) c.input.view_is) c.follow.ensures.stands c.requires.stands

-- after the settling pass

pub returns-in_err-take_pass-clause-stands : goal.returns-in_err-take_pass-clause-stands
returns-in_err-take_pass-clause-stands c = keeps-in c.args.input.now c.input.inside.net (scene c.follow.new.world) (scene c.take_pass.new.world) (ap (λ (i : Input). i.net) c.input.view_is) c.take_pass.ensures.stands
    (keeps-in c.args.input.now c.input.inside.net (scene c.args.world.now) (scene c.follow.new.world) (ap (λ (i : Input). i.net) c.input.view_is) c.follow.ensures.stands c.requires.stands)

pub returns-then-not-branch-clause-ending : goal.returns-then-not-branch-clause-ending
returns-then-not-branch-clause-ending c =
    let idle : c.in_ok-take_pass.field-0 ≡ false = search rules in
    unsettled-in c.args.input.now c.input.inside.net (scene c.args.world.now) (scene c.follow.new.world) (scene c.take_pass.new.world) c.args.schedule.now (ap (λ (i : Input). i.net) c.input.view_is) c.requires.stands c.follow.ensures.stands
    (rw c.in_default.is at c.in_ok-entry.ensures.all)
    (subst (λ b. IsIdle c.input.inside.net (scene c.follow.new.world) b (scene c.take_pass.new.world)) idle c.in_ok-take_pass.ensures.idle)

pub returns-then-not-branch-clause-stands : goal.returns-then-not-branch-clause-stands
returns-then-not-branch-clause-stands c = keeps-in c.args.input.now c.input.inside.net (scene c.follow.new.world) (scene c.take_pass.new.world) (ap (λ (i : Input). i.net) c.input.view_is) c.take_pass.ensures.stands
    (keeps-in c.args.input.now c.input.inside.net (scene c.args.world.now) (scene c.follow.new.world) (ap (λ (i : Input). i.net) c.input.view_is) c.follow.ensures.stands c.requires.stands)

pub returns-clause-ending : goal.returns-clause-ending
returns-clause-ending c =
    let idle : c.in_ok-take_pass.field-0 ≡ true = search rules in
    ended-in c.args.input.now c.input.inside.net (scene c.args.world.now) (scene c.follow.new.world) (scene c.take_pass.new.world) c.args.schedule.now (ap (λ (i : Input). i.net) c.input.view_is) c.requires.stands c.follow.ensures.stands
    (rw c.in_default.is at c.in_ok-entry.ensures.all)
    (subst (λ b. IsIdle c.input.inside.net (scene c.follow.new.world) b (scene c.take_pass.new.world)) idle c.in_ok-take_pass.ensures.idle)
    c.take_pass.ensures.stands c.worlds_finish_well.ensures.finished c.worlds_finish_well.ensures.only c.in_ok-finished.finished _ (sym c.in_ok-finished.ensures) c.ending.ensures

pub ends_well-requires-clause-stands : goal.ends_well-requires-clause-stands
ends_well-requires-clause-stands c = keeps-in c.args.input.now c.input.inside.net (scene c.follow.new.world) (scene c.take_pass.new.world) (ap (λ (i : Input). i.net) c.input.view_is) c.take_pass.ensures.stands
    (keeps-in c.args.input.now c.input.inside.net (scene c.args.world.now) (scene c.follow.new.world) (ap (λ (i : Input). i.net) c.input.view_is) c.follow.ensures.stands c.requires.stands)

pub returns-in_err-finished-clause-stands : goal.returns-in_err-finished-clause-stands
returns-in_err-finished-clause-stands c = keeps-in c.args.input.now c.input.inside.net (scene c.follow.new.world) (scene c.take_pass.new.world) (ap (λ (i : Input). i.net) c.input.view_is) c.take_pass.ensures.stands
    (keeps-in c.args.input.now c.input.inside.net (scene c.args.world.now) (scene c.follow.new.world) (ap (λ (i : Input). i.net) c.input.view_is) c.follow.ensures.stands c.requires.stands)

pub returns-clause-stands : goal.returns-clause-stands
returns-clause-stands c = keeps-in c.args.input.now c.input.inside.net (scene c.follow.new.world) (scene c.take_pass.new.world) (ap (λ (i : Input). i.net) c.input.view_is) c.take_pass.ensures.stands
    (keeps-in c.args.input.now c.input.inside.net (scene c.args.world.now) (scene c.follow.new.world) (ap (λ (i : Input). i.net) c.input.view_is) c.follow.ensures.stands c.requires.stands)

pub ends_well-requires-clause-schedule : goal.ends_well-requires-clause-schedule
ends_well-requires-clause-schedule c =
    let idle : c.in_ok-take_pass.field-0 ≡ true = search rules in
    took-on c.args.input.now c.input.inside.net (scene c.args.world.now) (scene c.follow.new.world) (scene c.take_pass.new.world) c.args.schedule.now (ap (λ (i : Input). i.net) c.input.view_is) c.requires.stands c.follow.ensures.stands
    (rw c.in_default.is at c.in_ok-entry.ensures.all)
    (subst (λ b. IsIdle c.input.inside.net (scene c.follow.new.world) b (scene c.take_pass.new.world)) idle c.in_ok-take_pass.ensures.idle) c.take_pass.ensures.stands

pub returns-clause-finished : goal.returns-clause-finished
returns-clause-finished c e =
    let idle : c.in_ok-take_pass.field-0 ≡ true = search rules in
    took-on c.args.input.now c.input.inside.net (scene c.args.world.now) (scene c.follow.new.world) (scene c.take_pass.new.world) c.args.schedule.now (ap (λ (i : Input). i.net) c.input.view_is) c.requires.stands c.follow.ensures.stands
    (rw c.in_default.is at c.in_ok-entry.ensures.all)
    (subst (λ b. IsIdle c.input.inside.net (scene c.follow.new.world) b (scene c.take_pass.new.world)) idle c.in_ok-take_pass.ensures.idle) c.take_pass.ensures.stands
