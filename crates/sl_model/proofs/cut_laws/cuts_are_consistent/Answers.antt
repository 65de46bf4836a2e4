use Rattle.sl_model.proofs.cut_laws.cuts_are_consistent.Goals as goal
use Rattle.sl_model.proofs.Cuts.Prefixes.{always-consistent}

pub returns : goal.returns
returns c s lost es k n = always-consistent s lost es k (c.nets_are_wired.ensures s.net n)
