use Rattle.std.proofs.Common.{subst}
use Rattle.sl_net.specs.Input.{Input}
use Rattle.sl_net.specs.Spelled.{HasOneSpelling}
use Rattle.sl_check.specs.Spellings.{SpellsLines}
use Rattle.sl_check.proofs.Answers.{one_answer}
use Rattle.sl_check.proofs.laws.claims_have_one_answer.Goals as goal

pub returns : goal.returns
returns c = one_answer c.args.input.now (subst (λ (i : Input). HasOneSpelling i.net) c.input.view_is c.one_spelling.ensures)
    (subst (λ (i : Input). SpellsLines i.net) c.input.view_is c.spellings_are_lines.ensures) c.endings_are_one.ensures
