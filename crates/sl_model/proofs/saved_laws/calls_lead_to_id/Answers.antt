use Rattle.sl_model.proofs.Saved.Entries.{number-calls, rising-calls}
use Rattle.sl_model.proofs.saved_laws.calls_lead_to_id.Goals as goal

pub returns-clause-number : goal.returns-clause-number
returns-clause-number c = number-calls

pub returns-clause-rising : goal.returns-clause-rising
returns-clause-rising c = rising-calls
