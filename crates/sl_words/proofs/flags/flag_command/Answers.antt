use borrow.Author.Rules.{rules}
use Rattle.sl_words.proofs.flags.flag_command.Goals as goal

pub returns : goal.returns
returns c = search rules
