use Rattle.std.proofs.Common.{ap, sym, ◌∙◌, refl}
use Rattle.std.proofs.lemmas.List.{drop_all}
use Rattle.toml.specs.View.{items_view}
use Rattle.sl_read.specs.Rows.{all_tables}
use Rattle.sl_read.proofs.RowLemmas.{same_err, tables_more, tables_refused}
use Rattle.sl_read.proofs.rows.all_tables.Goals as goal

pub loop-index-init : goal.loop-index-init
loop-index-init c = refl

pub loop-index-preserved : goal.loop-index-preserved
loop-index-preserved c =
    let e = rw (c.element.ensures, c.index-values-index.is) at c.in_ok-table_at.ensures in
    sym (tables_more c.args.at c.args.key c.args.values.now c.loop-index.index _ _ c.loop-index-test.true e) ∙ c.loop-index.invariant

pub returns-in_err-table_at : goal.returns-in_err-table_at
returns-in_err-table_at c =
    let e = rw (c.element.ensures, c.index-values-index.is) at c.in_err-table_at.ensures in
    same_err _ _ c.from_residual.ensures ∙ sym (tables_refused c.args.at c.args.key c.args.values.now c.loop-index.index _ _ c.loop-index-test.true e) ∙ c.loop-index.invariant

pub returns : goal.returns
returns c = sym (sym c.loop-index.invariant ∙ ap (λ vs. all_tables c.args.at c.args.key c.loop-index.index (items_view vs)) (drop_all c.loop-index.index c.args.values.now c.loop-index-test.false))
