use Rattle.sl_proto.proofs.Choices.{choice-of, pass-choices, sweep-choices, resend-choice, has-actors}
use Rattle.sl_proto.proofs.schedule.passes_are_choices.Goals as goal

pub returns-clause-passes : goal.returns-clause-passes
returns-clause-passes c net settling n = pass-choices net settling

pub returns-clause-sweeps : goal.returns-clause-sweeps
returns-clause-sweeps c net n = sweep-choices net

pub returns-clause-resend : goal.returns-clause-resend
returns-clause-resend c net n = let wired = c.nets_are_wired.ensures net n in resend-choice net (has-actors net n.made) wired.observer

pub returns-clause-spelled : goal.returns-clause-spelled
returns-clause-spelled c net a k h = choice-of net a k h.actor h.choice
