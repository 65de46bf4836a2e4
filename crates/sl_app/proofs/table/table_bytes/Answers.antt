use Rattle.std.proofs.Common.{ap, ◌∙◌}
use Rattle.std.proofs.lemmas.Result.{IfOk-weaker}
use Rattle.sl_balance.specs.BalanceText.{balance_text}
use Rattle.sl_app.proofs.table.table_bytes.Goals as goal

pub returns : goal.returns
returns c = IfOk-weaker c.balance_bytes-text.result _ _ (λ text is. is ∙ ap (balance_text c.args.input.now.net) (c.as_slice.ensures.value ∙ c.in_ok-lines.ensures)) c.balance_bytes-text.ensures
