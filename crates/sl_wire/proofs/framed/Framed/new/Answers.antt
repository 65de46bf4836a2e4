use Rattle.sl_wire.proofs.Words.{same_words}
use Rattle.sl_wire.proofs.framed.Framed.new.Goals as goal

pub returns : goal.returns
returns c = rw (c.eight.ensures, c.eight-2.ensures, c.eight-3.ensures) (same_words _ c.requires (λ i. (c.type_inv.bytes i).fits))
