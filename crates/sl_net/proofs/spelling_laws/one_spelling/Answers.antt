use Rattle.sl_net.proofs.Spellings.{one_spelled}
use Rattle.sl_net.proofs.spelling_laws.one_spelling.Goals as goal

pub returns : goal.returns
returns c = let names = c.nets_have_names.ensures in
    one_spelled c.args.net.now c.parts.ensures.net c.parts.ensures.right c.parts.ensures.valid names.devices names.hosts
