use Rattle.sl_model.proofs.Saved.Windows.{last-id}
use Rattle.sl_model.proofs.verdict_laws.last_seen_numbers_are_below.Goals as goal

pub returns : goal.returns
returns c = last-id
