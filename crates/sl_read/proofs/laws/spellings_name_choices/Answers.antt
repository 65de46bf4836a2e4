use Rattle.std.proofs.Common.{refl, sym}
use Rattle.sl_net.specs.Spelling.{choice_text}
use Rattle.sl_read.proofs.Settled.{one_choice}
use Rattle.sl_read.proofs.laws.spellings_name_choices.Goals as goal

pub returns : goal.returns
returns c = λ a d h. sym (one_choice c.args.net.now (choice_text c.args.net.now a d) a d c.one_spelling.ensures h refl)
