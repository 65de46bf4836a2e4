use Rattle.std.proofs.Common.{refl}
use Rattle.sl_model.specs.Losses.{losses}
use Rattle.sl_emul.proofs.run.tell_run.Goals as goal

pub findings-requires-clause-stands : goal.findings-requires-clause-stands
findings-requires-clause-stands c = (losses c.args.input.now, c.requires.stands)

pub returns : goal.returns
returns c = record {
  book_is = c.into_book-nodes.ensures.book;
  front_is = refl;
  tells = c.in-Ok.ensures (losses c.args.input.now) c.requires.stands c.requires.finished;
  nodes_are = c.into_book-nodes.ensures.machines;
}
