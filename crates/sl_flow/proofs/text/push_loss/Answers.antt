use Rattle.std.proofs.Common.{◌≡◌, ◌++◌, OnOk, string_bytes, subst}
use Rattle.sl_net.specs.Input.{LossSpec}
use Rattle.sl_flow.specs.InputText.{loss_line}
use Rattle.sl_flow.proofs.text.push_loss.Goals as goal

pub returns : goal.returns
unfolding loss_line
returns c = subst (λ (l : LossSpec). OnOk c.write.result (string_bytes c.write.new.self ≡ string_bytes c.args.out.now ++ loss_line l)) c.loss.view_is c.write.ensures.bytes
