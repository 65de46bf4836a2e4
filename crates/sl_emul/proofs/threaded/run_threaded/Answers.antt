use Rattle.std.proofs.Common.{ℕ, ◌<◌, ◌^◌, subst}
use Rattle.sl_model.specs.Losses.{losses}
use Rattle.sl_world.specs.World.{scene}
use Rattle.sl_emul.specs.Threaded.{IsThreadedBook}
use Rattle.sl_emul.proofs.Books.{outcome-of}
use Rattle.sl_emul.proofs.threaded.run_threaded.Goals as goal

pub returns-clause-run : goal.returns-clause-run
returns-clause-run g c =
    let i = c.args.input.now in
    outcome-of IsThreadedBook i (losses i) (scene c.in_ok-ran.ran.world) _ _ _ _ _ c.in_ok-ran.ensures.run c.in_ok-tell_run.ensures

pub returns-clause-passed : goal.returns-clause-passed
returns-clause-passed g c few = c.in_ok-ran.ensures.passed (subst (λ (n : ℕ). n < 2 ^ 27) c.in_ok-tell_run.ensures.front_is few)
