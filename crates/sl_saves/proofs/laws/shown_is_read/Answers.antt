use Rattle.std.proofs.Common.{◌∙◌}
use Rattle.sl_saves.specs.Calls.{saves, saved}
use Rattle.sl_saves.proofs.Held.{held-fitting}
use Rattle.sl_saves.proofs.Walks.{shown-read}
use Rattle.sl_saves.proofs.laws.shown_is_read.Goals as goal

pub returns-clause-held : goal.returns-clause-held
returns-clause-held c = shown-read

pub returns-clause-fitting : goal.returns-clause-fitting
returns-clause-fitting c n view calls k s one h l f = shown-read n view calls k s one h l ∙ held-fitting (saved k (saves n calls)) f
