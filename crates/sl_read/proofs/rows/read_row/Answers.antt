use Rattle.std.proofs.Common.{◌≡◌, Result, Ok, Err, ap, subst, sym}
use Rattle.toml.specs.Data.{Members}
use Rattle.toml.specs.View.{view, table_view}
use Rattle.sl_form.specs.declared.refusal.Refusal.{Refusal}
use Rattle.sl_form.specs.declared.refusal.ReadError.TheVariants.{Refused}
use Rattle.sl_form.specs.Paths.{element}
use Rattle.sl_form.specs.Refusals.{◌>>=◌, Answers}
use Rattle.sl_read.specs.Rows.{table_at}
use Rattle.sl_read.proofs.RowLemmas.{refused_part}
use Rattle.sl_read.proofs.rows.read_row.Goals as goal

pub returns-in_err-table : goal.returns-in_err-table
returns-in_err-table g c =
    let e = subst (λ q. table_at q (view c.args.value.now) ≡ Err c.in_err-table.field-0.0) c.element.ensures c.in_err-table.ensures in
    refused_part c.from_residual.result (Refused c.in_err-table.field-0.0) (table_at (element c.args.at c.args.key c.args.index) (view c.args.value.now)) _
    c.from_residual.ensures (λ x h. ap (λ r. r >>= g.R.Row.row_of c.args.index) h) e

pub returns : goal.returns
returns g c =
    let e = subst (λ q. table_at q (view c.args.value.now) ≡ Ok (table_view c.in_ok-table.table.now)) c.element.ensures c.in_ok-table.ensures in
    subst (λ (r : Result Members Refusal). Answers c.read.result (r >>= g.R.Row.row_of c.args.index)) (sym e) c.read.ensures
