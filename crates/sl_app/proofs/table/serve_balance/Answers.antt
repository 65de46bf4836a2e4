use Rattle.std.proofs.Common.{ap, ◌∙◌}
use Rattle.sl_balance.specs.Balance.{balance}
use Rattle.sl_balance.specs.BalanceText.{balance_text}
use Rattle.sl_model.specs.declared.findings.Findings.{Findings}
use Rattle.sl_app.proofs.RunLemmas.{few_counts}
use Rattle.sl_app.proofs.table.serve_balance.Goals as goal

pub table_bytes-text-requires : goal.table_bytes-text-requires
table_bytes-text-requires c =
    few_counts c.counts_are_few.ensures c.args.input.now c.in_ok-run.run'.book.entries _ c.requires.small c.in_ok-run.ensures.run.within c.in_ok-run.ensures.tells

pub returns-clause-table : goal.returns-clause-table
returns-clause-table c =
    let net = c.args.input.now.net in
    let told = c.in_ok-run.ensures in
    let served = c.text_of_run.ensures in
    rw (served.book, served.front, served.nodes, served.text) (record {
      run = told.run;
      text_is = c.in_ok-text.ensures ∙ ap (λ (f : Findings). balance_text net (balance net f.list)) told.tells;
    })
