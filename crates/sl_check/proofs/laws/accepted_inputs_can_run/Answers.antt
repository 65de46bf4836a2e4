use Rattle.sl_check.proofs.Runnable.{can-run}
use Rattle.sl_check.proofs.laws.accepted_inputs_can_run.Goals as goal

pub returns : goal.returns
returns c i a = can-run c.passes_are_choices.ensures.spelled i a
