use Rattle.std.proofs.Common.{ap, ◌∙◌, true}
use Rattle.std.proofs.lemmas.Bool.{eq-eqb}
use Rattle.std.specs.Prelude.{slice_range}
use Rattle.sl_wire.specs.Frames.{all_zero}
use Rattle.sl_wire.proofs.Words.{no_packet}
use Rattle.sl_wire.proofs.framed.Framed.has_no_packet.Goals as goal

pub returns-then-self-eq0 : goal.returns-then-self-eq0
returns-then-self-eq0 c = no_packet c.self.inside.front _ c.self.inside.back true (eq-eqb _ _ c.if-self-eq0.true) ∙ ap (λ f. all_zero (slice_range f.bytes 4 15)) c.self.view_is
