use Rattle.std.proofs.Common.{ap, sym, ◌∙◌}
use Rattle.std.proofs.lemmas.List.{drop_all}
use Rattle.toml.specs.View.{view, items_view}
use Rattle.sl_form.specs.declared.path.TableName.TheVariants.{Script}
use Rattle.sl_form.specs.declared.path.Key.TheVariants.{Entries}
use Rattle.sl_form.specs.Paths.{element}
use Rattle.sl_form.specs.Fields.{text_at}
use Rattle.sl_read.specs.Tables.{texts_of}
use Rattle.sl_read.proofs.RowLemmas.{refused_part, with_front, with_front_none, with_front_all, texts_more, texts_refused}
use Rattle.sl_read.proofs.script.texts_of.Goals as goal

pub loop-index-init : goal.loop-index-init
loop-index-init c = rw c.new-found.ensures.items (with_front_none _)

pub loop-index-preserved : goal.loop-index-preserved
loop-index-preserved c =
    let same = ap (λ v. text_at (element Script Entries c.loop-index.index) (view v)) (sym c.index-values-index.is) in
    let more = texts_more c.args.values.now c.loop-index.index c.index-values-index.result c.loop-index.found.items c.in_ok-text_of.field-0 c.loop-index-test.true (same ∙ c.in_ok-text_of.ensures) in
    rw c.in_ok-push.ensures.items (sym more ∙ c.loop-index.invariant)

pub returns-in_err-text_of : goal.returns-in_err-text_of
returns-in_err-text_of c =
    let same = ap (λ v. text_at (element Script Entries c.loop-index.index) (view v)) (sym c.index-values-index.is) in
    refused_part c.from_residual.result c.in_err-text_of.field-0.0 (text_at (element Script Entries c.loop-index.index) (view c.index-values-index.result)) _ c.from_residual.ensures
    (λ x h. sym c.loop-index.invariant ∙ texts_refused c.args.values.now c.loop-index.index c.index-values-index.result c.loop-index.found.items x c.loop-index-test.true (same ∙ h)) c.in_err-text_of.ensures

pub returns : goal.returns
returns c = sym c.loop-index.invariant ∙ ap (λ vs. with_front c.loop-index.found.items (texts_of c.loop-index.index (items_view vs))) (drop_all c.loop-index.index c.args.values.now c.loop-index-test.false) ∙ with_front_all _
