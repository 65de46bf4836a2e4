use Rattle.std.proofs.Common.{rules}
use Rattle.sl_world.proofs.book.note.Goals as goal

pub returns : goal.returns
returns c = search rules
