use Rattle.sl_model.proofs.Saved.Entries.{entries-are}
use Rattle.sl_model.proofs.saved_laws.entries_are_values.Goals as goal

pub returns : goal.returns
returns c = entries-are
