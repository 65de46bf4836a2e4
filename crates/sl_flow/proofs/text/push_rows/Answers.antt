use Rattle.std.proofs.Common.{◌++◌, [], cond, take, codes, string_bytes, sym, ap, ◌∙◌, append_assoc}
use Rattle.std.specs.Prelude.{◌==◌}
use Rattle.sl_flow.specs.InputText.{rows_text}
use Rattle.sl_flow.proofs.Joined.{joined_more}
use Rattle.sl_flow.proofs.text.push_rows.Goals as goal

pub loop-i-preserved : goal.loop-i-preserved
loop-i-preserved g c =
    let row = g.R.Row.text c.args.parts.now in
    let i = c.loop-i.i in
    let rows = c.args.rows.now in
    let old = string_bytes c.args.out.now in
    let before = rows_text row (take i rows) in
    let parted = cond (i == 0) [] (codes ", ") in
    let this = c.index-rows-i.result in
    c.in_ok-push.ensures ∙ ap (λ text. text ++ row this) (c.in_ok-push_separator.ensures ∙ ap (λ text. text ++ parted) c.loop-i.invariant)
    ∙ append_assoc (old ++ before) parted (row this) ∙ append_assoc old before (parted ++ row this)
    ∙ ap (λ x. old ++ (before ++ (parted ++ row x))) c.index-rows-i.is
    ∙ ap (λ text. old ++ text) (sym (joined_more row (codes ", ") rows i this c.loop-i-test.true))
