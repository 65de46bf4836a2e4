use Rattle.std.proofs.Common.{◌≡◌, ℕ, Some, sym, ap, subst, ◌∙◌}
use Rattle.std.specs.Prelude.{option_map}
use Rattle.sl_control.specs.Control.{ControlState}
use Rattle.sl_value.specs.Valued.{CanReadAll, first_done}
use Rattle.sl_value.proofs.Reports.{report-reads}
use Rattle.sl_value.proofs.control.ValueControl.take_dump.Goals as goal

pub keep-requires-clause-read : goal.keep-requires-clause-read
keep-requires-clause-read c =
    let s = c.self.inside.control.state in
    let d = c.args.dump.now in
    let found : first_done c.take_dump.new.out.items ≡ Some c.in-Some.done.now =
    ap first_done (sym c.items.ensures) ∙ sym c.first_done.ensures ∙ ap (option_map (λ x. x.now)) c.in-Some.is in
    subst (λ (n : ℕ). CanReadAll n d.view c.in-Some.done.now) (sym (c.ring.ensures ∙ ap (λ (t : ControlState). t.wires.sizes.ring) c.take_dump.ensures.state))
    (report-reads s.wires.sizes s.wires.done c.args.link d s.units c.in-Some.done.now (ap first_done (sym c.take_dump.ensures.puts) ∙ found))
