use Rattle.std.proofs.Common.{subst}
use Rattle.sl_net.specs.Input.{Input}
use Rattle.sl_model.specs.Losses.{losses}
use Rattle.sl_model.specs.Setup.{setup_of}
use Rattle.sl_net.specs.Names.{HasNames}
use Rattle.sl_check.proofs.Answers.{printed-right}
use Rattle.sl_check.proofs.laws.printed_runs_are_right.Goals as goal

pub returns : goal.returns
returns c = λ bytes book text read ends few. printed-right c.args.input.now (subst (λ (i : Input). HasNames i.net.parts) c.input.view_is c.nets_have_names.ensures) bytes book text read
    (c.legal_books_are_choices.ensures (setup_of c.args.input.now) (losses c.args.input.now) book ends.0) ends few
