use Rattle.std.proofs.Common.{arith}
use Rattle.sl_ids.proofs.width.Width.new.Goals as goal

pub returns-else-bits-ge1-clause-fits : goal.returns-else-bits-ge1-clause-fits
returns-else-bits-ge1-clause-fits c = (λ e. cc, λ h. absurd (omega (arith, c.else-bits-ge1.either)))
