use Rattle.std.proofs.Common.{sym, ◌∙◌}
use Rattle.sl_unit.specs.Wires.{is_out}
use Rattle.sl_unit.proofs.Spans.{one_without}
use Rattle.sl_unit.proofs.wires.span_of.Goals as goal
use Rattle.sl_unit.proofs.wires.span_of.Goals.{then-leads, else-leads}

pub loop-i-preserved : goal.loop-i-preserved
loop-i-preserved c =
    let p = is_out c.args.way c.args.exits.now in
    let so_far = c.loop-i.invariant.span in
    elim c.if-leads.branch [
      | then-leads w ↦ record { span = rw w.span-is (w.with-span.ensures p (sym c.leads.ensures ∙ w.if-leads.true) so_far) }
      | else-leads w ↦ record { span = rw w.span-is (one_without p c.loop-i.i c.loop-i.span (sym c.leads.ensures ∙ w.if-leads.false) so_far) }
    ]
