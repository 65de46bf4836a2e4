use Rattle.std.proofs.lemmas.Result.{IfOk-weaker}
use Rattle.sl_model.specs.Losses.{losses}
use Rattle.sl_world.specs.World.{scene}
use Rattle.sl_proto.specs.RunBook.{IsRunBook}
use Rattle.sl_emul.proofs.Books.{outcome-of}
use Rattle.sl_emul.proofs.stepped.run_stepped.Goals as goal

pub returns : goal.returns
returns c =
    let i = c.args.input.now in
    IfOk-weaker c.tell_run.result _ _ (λ r told. outcome-of IsRunBook i (losses i) (scene c.in_ok-ran.ran.world) _ _ _ _ _ c.in_ok-ran.ensures told) c.tell_run.ensures
