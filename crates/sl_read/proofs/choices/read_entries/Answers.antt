use Rattle.std.proofs.Common.{ap, sym, ◌∙◌, arith}
use Rattle.std.proofs.lemmas.List.{drop_all}
use Rattle.sl_form.specs.declared.refusal.Refusal.{Refusal}
use Rattle.sl_form.specs.declared.refusal.ReadError.TheVariants.{Refused}
use Rattle.sl_read.specs.Choices.{entries_of, fitting}
use Rattle.sl_read.proofs.RowLemmas.{refused_part, with_front, with_front_none, with_front_all, entries_more, entries_refused}
use Rattle.sl_read.proofs.choices.read_entries.Goals as goal

pub loop-index-init : goal.loop-index-init
loop-index-init c = record { entries = rw c.new-found.ensures.items (with_front_none _); few = omega arith }

pub loop-index-preserved : goal.loop-index-preserved
loop-index-preserved c =
    let read = ap (fitting c.args.net.now c.loop-index.index c.loop-index.used) (sym c.index-texts-index.is ∙ sym c.as_str.ensures) ∙ sym c.in_ok-entry.ensures.entry in
    let more = entries_more c.args.net.now c.args.texts.now c.loop-index.index c.loop-index.used c.index-texts-index.result c.loop-index.found.items c.in_ok-entry.entry c.loop-index-test.true read in
    record { entries = rw (c.in_ok-push.ensures.items, c.passes-used.ensures) (sym more ∙ c.loop-index.invariant.entries); few = rw c.passes-used.ensures c.in_ok-entry.ensures.few }

pub overflow_add-used : goal.overflow_add-used
overflow_add-used c = omega (arith, c.in_ok-entry.ensures.few)

pub returns-in_err-entry : goal.returns-in_err-entry
returns-in_err-entry c =
    let same = ap (fitting c.args.net.now c.loop-index.index c.loop-index.used) (sym c.index-texts-index.is ∙ sym c.as_str.ensures) in
    let refused = λ (x : Refusal). entries_refused c.args.net.now c.args.texts.now c.loop-index.index c.loop-index.used c.index-texts-index.result c.loop-index.found.items x c.loop-index-test.true in
    refused_part c.from_residual.result (Refused c.in_err-entry.field-0.0) (fitting c.args.net.now c.loop-index.index c.loop-index.used c.as_str.result.now) _ c.from_residual.ensures
    (λ x h. sym c.loop-index.invariant.entries ∙ refused x (same ∙ h)) (sym c.in_err-entry.ensures.entry)

pub returns : goal.returns
returns c = sym c.loop-index.invariant.entries ∙ ap (λ ts. with_front c.loop-index.found.items (entries_of c.args.net.now c.loop-index.index c.loop-index.used ts)) (drop_all c.loop-index.index c.args.texts.now c.loop-index-test.false) ∙ with_front_all _
