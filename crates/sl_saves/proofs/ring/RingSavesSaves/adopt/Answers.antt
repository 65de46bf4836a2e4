use Rattle.std.proofs.Common.{subst, sym, ◌∷◌, arith}
use Rattle.sl_saves.specs.Calls.{Adopt}
use Rattle.sl_saves.specs.Views.{IsShown}
use Rattle.sl_saves.proofs.Rings.{ring-adopt}
use Rattle.sl_saves.proofs.ring.RingSavesSaves.adopt.Goals as goal

pub returns-clause-shows : goal.returns-clause-shows
returns-clause-shows c calls s = let n = c.args.self.now.credits in
    subst (λ v. IsShown n v (Adopt c.args.by c.args.packets c.args.bytes ∷ calls)) (sym c.adopt.ensures)
    (ring-adopt n _ c.args.by c.args.packets c.args.bytes calls c.requires.least (omega arith) s)
