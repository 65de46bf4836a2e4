use Rattle.std.proofs.Common.{ap, ◌∙◌}
use Rattle.std.proofs.lemmas.Bool.{ne_eqb}
use Rattle.sl_wire.specs.Frames.{all_zero, reserved_in}
use Rattle.sl_wire.proofs.Words.{reserved_two, reserved_else}
use Rattle.sl_wire.proofs.framed.Framed.is_reserved.Goals as goal

pub returns-then-version-eq2 : goal.returns-then-version-eq2
returns-then-version-eq2 c =
    reserved_two c.self.inside.front c.self.inside.middle c.self.inside.back c.args.version c.if-version-eq2.true
    ∙ ap (λ f. all_zero (reserved_in c.args.version f.bytes)) c.self.view_is

pub returns-else-version-eq2 : goal.returns-else-version-eq2
returns-else-version-eq2 c =
    reserved_else c.self.inside.front c.self.inside.middle c.self.inside.back c.args.version (ne_eqb _ _ c.if-version-eq2.false)
    ∙ ap (λ f. all_zero (reserved_in c.args.version f.bytes)) c.self.view_is
