use Rattle.sl_check.proofs.OneAnswer.{one-checked}
use Rattle.sl_check.proofs.laws.streams_have_one_answer.Goals as goal

pub returns : goal.returns
returns c = λ bytes a b alone x y g h. one-checked c.args.input.now c.claims_have_one_answer.ensures bytes alone a b x y g h
