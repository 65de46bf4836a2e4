use Rattle.std.proofs.Common.{◌≡◌, true, false, subst, ap, ◌∙◌, rules}
use Rattle.sl_net.specs.Input.{Input}
use Rattle.sl_model.specs.Losses.{losses}
use Rattle.sl_model.specs.Setup.{setup_of}
use Rattle.sl_model.specs.Books.{schedule_of}
use Rattle.sl_world.specs.World.{scene}
use Rattle.sl_model.specs.Ending.{HasEnding}
use Rattle.sl_model.specs.declared.ending.Ending.TheVariants.{Idle, Unfinished, Finished}
use Rattle.sl_check.proofs.Checking.{choices-of, answers-no-trace, answers-idle, answers-unfinished, answers-yes, answers-no-report, no-other}
use Rattle.sl_check.proofs.check.check_claim.Goals as goal

pub first_world-requires : goal.first_world-requires
first_world-requires c = c.accepted_inputs_can_run.ensures c.args.input.now c.requires

pub end_of-requires-clause-choices : goal.end_of-requires-clause-choices
end_of-requires-clause-choices c = choices-of c.passes_are_choices.ensures.spelled c.args.input.now c.input.inside.net c.args.text.now c.in-Some.claim.report.now c.in-Some.claim.schedule.items c.as_slice.result.now
    (ap (λ (i : Input). i.net) c.input.view_is) (rw c.in-Some.is at c.in_ok-claim.ensures.read) c.as_slice.ensures.value

pub returns-in_default : goal.returns-in_default
returns-in_default c = answers-no-trace c.args.input.now c.input.inside.net c.args.text.now (ap (λ (i : Input). i.net) c.input.view_is) (rw c.in_default.is at c.in_ok-claim.ensures.none)

pub returns-in-Idle : goal.returns-in-Idle
returns-in-Idle c = answers-idle c.args.input.now c.input.inside.net c.args.text.now (ap (λ (i : Input). i.net) c.input.view_is) c.in-Some.claim.report.now c.in-Some.claim.schedule.items
    (rw c.in-Some.is at c.in_ok-claim.ensures.read) c.in-Idle.entry
    (subst (λ es. HasEnding (setup_of c.args.input.now) (losses c.args.input.now) es (Idle c.in-Idle.entry)) c.as_slice.ensures.value (subst (HasEnding (setup_of c.args.input.now) (losses c.args.input.now) c.as_slice.result.now) c.in-Idle.is c.in_ok-entry.ensures.ending))

pub returns-in-Unfinished : goal.returns-in-Unfinished
returns-in-Unfinished c = answers-unfinished c.args.input.now c.input.inside.net c.args.text.now (ap (λ (i : Input). i.net) c.input.view_is) c.in-Some.claim.report.now c.in-Some.claim.schedule.items
    (rw c.in-Some.is at c.in_ok-claim.ensures.read)
    (subst (λ es. HasEnding (setup_of c.args.input.now) (losses c.args.input.now) es Unfinished) c.as_slice.ensures.value (subst (HasEnding (setup_of c.args.input.now) (losses c.args.input.now) c.as_slice.result.now) c.in-Unfinished.is c.in_ok-entry.ensures.ending))

pub returns-then-branch : goal.returns-then-branch
returns-then-branch c =
    let same : c.in_ok-is_report-in-Finished.field-0 ≡ true = search rules in
    answers-yes c.args.input.now c.input.inside.net c.args.text.now (ap (λ (i : Input). i.net) c.input.view_is) c.in-Some.claim.report.now c.in-Some.claim.schedule.items
    (rw c.in-Some.is at c.in_ok-claim.ensures.read)
    (subst (λ es. HasEnding (setup_of c.args.input.now) (losses c.args.input.now) es Finished) c.as_slice.ensures.value (subst (HasEnding (setup_of c.args.input.now) (losses c.args.input.now) c.as_slice.result.now) c.in-Finished.is c.in_ok-entry.ensures.ending))
    (schedule_of (scene c.end_of.new.world).book) (c.in_ok-entry.ensures.finished c.in-Finished.is ∙ c.as_slice.ensures.value) (c.in_ok-is_report-in-Finished.ensures.0 same)

pub returns : goal.returns
returns c =
    let other : c.in_ok-is_report-in-Finished.field-0 ≡ false = search rules in
    answers-no-report c.args.input.now c.input.inside.net c.args.text.now (ap (λ (i : Input). i.net) c.input.view_is) c.in-Some.claim.report.now c.in-Some.claim.schedule.items
    (rw c.in-Some.is at c.in_ok-claim.ensures.read)
    (subst (λ es. HasEnding (setup_of c.args.input.now) (losses c.args.input.now) es Finished) c.as_slice.ensures.value (subst (HasEnding (setup_of c.args.input.now) (losses c.args.input.now) c.as_slice.result.now) c.in-Finished.is c.in_ok-entry.ensures.ending))
    (schedule_of (scene c.end_of.new.world).book) (c.in_ok-entry.ensures.finished c.in-Finished.is ∙ c.as_slice.ensures.value) (no-other c.in_ok-is_report-in-Finished.field-0 c.in_ok-is_report-in-Finished.ensures other)
