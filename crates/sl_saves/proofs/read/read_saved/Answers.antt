use Rattle.std.proofs.Common.{◌∙◌}
use Rattle.sl_saves.specs.Calls.{saves, saved}
use Rattle.sl_saves.proofs.Held.{held-fitting}
use Rattle.sl_saves.proofs.Walks.{read-as}
use Rattle.sl_saves.proofs.read.read_saved.Goals as goal

pub returns-clause-saved : goal.returns-clause-saved
returns-clause-saved c n calls s e = c.in-Some.ensures.value ∙ read-as n c.args.view.now calls c.args.id c.args.k e s c.requires.least c.requires.most c.requires.near

pub returns-clause-fitting : goal.returns-clause-fitting
returns-clause-fitting c n calls s e f = c.in-Some.ensures.value ∙ read-as n c.args.view.now calls c.args.id c.args.k e s c.requires.least c.requires.most c.requires.near
    ∙ held-fitting (saved c.args.k (saves n calls)) f
