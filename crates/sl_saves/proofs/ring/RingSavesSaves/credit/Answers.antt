use Rattle.std.proofs.Common.{subst, sym, ◌∷◌, arith}
use Rattle.sl_saves.specs.Calls.{Credit, Credited}
use Rattle.sl_saves.specs.Views.{IsShown}
use Rattle.sl_saves.proofs.Rings.{ring-credit}
use Rattle.sl_saves.proofs.ring.RingSavesSaves.credit.Goals as goal

pub returns-clause-shows : goal.returns-clause-shows
returns-clause-shows c calls s = let x : Credit = record { channel = c.args.channel; age = c.args.age; bytes = c.args.bytes } in
    let n = c.args.self.now.credits in
    subst (λ v. IsShown n v (Credited x ∷ calls)) (sym c.credit.ensures.value) (ring-credit n _ x calls c.requires.channel (omega arith) s)
