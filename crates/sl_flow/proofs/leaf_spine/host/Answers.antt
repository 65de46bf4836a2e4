use Rattle.std.proofs.Common.{refl}
use Rattle.sl_flow.proofs.SampleLemmas.{letter_name}
use Rattle.sl_flow.proofs.leaf_spine.host.Goals as goal

pub named-requires : goal.named-requires
named-requires c = letter_name 104 c.args.h refl c.requires
