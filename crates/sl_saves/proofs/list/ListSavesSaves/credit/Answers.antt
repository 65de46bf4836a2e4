use Rattle.std.proofs.Common.{◌∷◌, subst, sym, arith}
use Rattle.std.proofs.lemmas.Grind.{common_steps}
use Rattle.sl_saves.specs.Calls.{Credit, Credited}
use Rattle.sl_saves.specs.Keeping.{IsListed}
use Rattle.sl_saves.proofs.Lists.{list-credit}
use Rattle.sl_saves.proofs.list.ListSavesSaves.credit.Goals as goal

pub returns-clause-kept : goal.returns-clause-kept
returns-clause-kept c = grind (arith, common_steps)

pub returns-clause-shows : goal.returns-clause-shows
returns-clause-shows c calls s =
    let x : Credit = record { channel = c.args.channel; age = c.args.age; bytes = c.args.bytes } in
    let n = c.args.self.now.credits in
    subst (λ l. IsListed n l (Credited x ∷ calls)) (sym (returns-clause-kept c)) (list-credit n x _ calls c.requires.channel s)
