use Rattle.std.proofs.Common.{refl}
use Rattle.sl_flow.proofs.SampleLemmas.{letter_name}
use Rattle.sl_flow.proofs.leaf_spine.leaf.Goals as goal

pub named-requires : goal.named-requires
named-requires c = letter_name 108 c.args.i refl c.requires
