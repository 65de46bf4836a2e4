use Rattle.sl_model.proofs.Worlds.Steps.{history_size, length_steps}
use Rattle.sl_model.specs.History.{history}
use Rattle.std.proofs.Common.{arith, ◌≡◌}
use Rattle.std.proofs.lemmas.Grind.{common_steps}
use Rattle.std.specs.Prelude.{reverse}
use Rattle.sl_cut.proofs.history.World.steps.Goals as goal

pub returns-in-Some-clause-size : goal.returns-in-Some-clause-size
returns-in-Some-clause-size c = let e : reverse c.steps.result.now ≡ history c.args.self.now c.args.actor = grind (arith, common_steps) in
    let k = history_size c.args.self.now c.args.actor in
    omega (arith, k, length_steps c.steps.result.now (history c.args.self.now c.args.actor) e)
