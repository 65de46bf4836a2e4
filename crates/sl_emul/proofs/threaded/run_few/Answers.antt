use Rattle.std.proofs.Common.{ℕ, ◌^◌, ◌<◌, subst}
use Rattle.std.proofs.lemmas.Result.{IfOk-weaker}
use Rattle.sl_model.specs.Losses.{losses}
use Rattle.sl_world.specs.World.{scene}
use Rattle.sl_emul.proofs.ThreadedBook.{has-ended}
use Rattle.sl_emul.proofs.threaded.run_few.Goals as goal

pub returns : goal.returns
returns g c =
    let i = c.args.input.now in
    let came = c.in_ok-world.ensures in
    record {
      run = IfOk-weaker c.finish_run.result _ _
          (λ r done. has-ended i (losses i) (scene c.in_ok-world.world) _ _ done c.books_grow_by_turns.ensures.schedule c.runs_are_bounded.ensures c.cuts_are_consistent.ensures c.requires.can.net came.stands came.front came.rest)
          c.finish_run.ensures;
      passed = IfOk-weaker c.finish_run.result _ _ (λ r done few. came.passed (subst (λ (n : ℕ). n < 2 ^ 27) done.front_is few)) c.finish_run.ensures;
    }
