use Rattle.std.proofs.Common.{subst, sym}
use Rattle.sl_parts.specs.Lists.{Each}
use Rattle.sl_read.specs.Accepted.{HasVersion}
use Rattle.sl_read.proofs.Settled.{parts_versioned}
use Rattle.sl_read.proofs.read.net_in.Goals as goal

pub build-requires : goal.build-requires
build-requires c = parts_versioned _ _ _ _ _ c.requires.version (subst (Each HasVersion) (sym c.as_slice-2.ensures) c.requires.cables) c.in_ok-parts.ensures
