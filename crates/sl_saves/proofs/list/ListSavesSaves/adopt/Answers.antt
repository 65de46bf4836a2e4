use Rattle.std.proofs.Common.{◌∷◌, subst, sym, rules}
use Rattle.sl_saves.specs.Calls.{Adopt}
use Rattle.sl_saves.specs.Keeping.{IsListed}
use Rattle.sl_saves.proofs.Lists.{list-adopt}
use Rattle.sl_saves.proofs.list.ListSavesSaves.adopt.Goals as goal

pub returns-clause-kept : goal.returns-clause-kept
returns-clause-kept c = search rules

pub returns-clause-shows : goal.returns-clause-shows
returns-clause-shows c calls s = let n = c.args.self.now.credits in
    subst (λ l. IsListed n l (Adopt c.args.by c.args.packets c.args.bytes ∷ calls)) (sym (returns-clause-kept c))
    (list-adopt n c.args.by c.args.packets c.args.bytes _ calls c.requires.least s)
