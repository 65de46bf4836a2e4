use Rattle.sl_model.specs.World.{world}
use Rattle.sl_balance.proofs.OneCuts.{of_findings}
use Rattle.sl_balance.proofs.laws.lines_are_of_one_cut.Goals as goal

pub returns : goal.returns
returns c = λ s lost es net. of_findings s.credits s.net lost (world s lost es) (λ k. c.cuts_are_consistent.ensures s lost es k net) s.count
