use Rattle.std.proofs.Common.{ap, sym, ◌∙◌}
use Rattle.std.proofs.lemmas.List.{drop_all}
use Rattle.toml.specs.View.{view, items_view}
use Rattle.sl_form.specs.declared.refusal.Refusal.{Refusal}
use Rattle.sl_read.specs.Rows.{rows, row}
use Rattle.sl_read.proofs.RowLemmas.{refused_part, with_front, with_front_none, with_front_all, rows_more, rows_refused}
use Rattle.sl_read.proofs.rows.rows.Goals as goal

pub loop-index-init : goal.loop-index-init
loop-index-init g c = rw c.new-found.ensures.items (with_front_none _)

pub loop-index-preserved : goal.loop-index-preserved
loop-index-preserved g c =
    let read = ap (λ v. row c.args.at c.args.key g.R.Row.row_of c.loop-index.index (view v)) (sym c.index-values-index.is) ∙ c.in_ok-read_row.ensures in
    let more = rows_more c.args.at c.args.key g.R.Row.row_of c.args.values.now c.loop-index.index c.index-values-index.result c.loop-index.found.items c.in_ok-read_row.field-0 c.loop-index-test.true read in
    rw c.in_ok-push.ensures.items (sym more ∙ c.loop-index.invariant)

pub returns-in_err-read_row : goal.returns-in_err-read_row
returns-in_err-read_row g c =
    let same = ap (λ v. row c.args.at c.args.key g.R.Row.row_of c.loop-index.index (view v)) (sym c.index-values-index.is) in
    let refused = λ (x : Refusal). rows_refused c.args.at c.args.key g.R.Row.row_of c.args.values.now c.loop-index.index c.index-values-index.result c.loop-index.found.items x c.loop-index-test.true in
    refused_part c.from_residual.result c.in_err-read_row.field-0.0 (row c.args.at c.args.key g.R.Row.row_of c.loop-index.index (view c.index-values-index.result)) _ c.from_residual.ensures
    (λ x h. sym c.loop-index.invariant ∙ refused x (same ∙ h)) c.in_err-read_row.ensures

pub returns : goal.returns
returns g c = sym c.loop-index.invariant ∙ ap (λ vs. with_front c.loop-index.found.items (rows c.args.at c.args.key g.R.Row.row_of c.loop-index.index (items_view vs))) (drop_all c.loop-index.index c.args.values.now c.loop-index-test.false) ∙ with_front_all _
