use Rattle.sl_model.proofs.Finishing.OneBook.{one-book}
use Rattle.sl_model.proofs.finish_laws.runs_have_one_book.Goals as goal

pub returns : goal.returns
returns c i lost a b m n p q = one-book i lost a b m n p q
