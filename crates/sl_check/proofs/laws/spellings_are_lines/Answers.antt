use Rattle.sl_check.proofs.Printable.{spelled-line}
use Rattle.sl_check.proofs.laws.spellings_are_lines.Goals as goal

pub returns : goal.returns
returns c = λ a b h. spelled-line c.args.net.now c.nets_have_names.ensures a b
