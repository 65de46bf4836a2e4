use Rattle.std.proofs.Common.{ℕ, ◌<◌, ◌++◌, ◌∷◌, [], ap, sym, ◌∙◌, arith}
use Rattle.std.specs.Prelude.{cond}
use Rattle.sl_parts.specs.Parts.{is_used}
use Rattle.sl_parts.proofs.Tables.{used-is}
use Rattle.sl_layout.proofs.layout.device_ports.Goals as goal
use Rattle.sl_layout.proofs.Grouping.{filter_noted}

pub loop-port-preserved : goal.loop-port-preserved
loop-port-preserved c =
    let parts = c.args.parts.now in
    let port = c.loop-port.port in
    let test = λ (p : ℕ). is_used parts (record { device = c.args.device; port = p }) in
    let few : port < 8 = omega (arith, c.loop-port-test.true, c.ports_of-port-end.ensures, c.requires.valid.ports c.args.device) in
    c.in_ok-push_if.ensures ∙ ap (λ xs. xs ++ cond c.is_used.result (port ∷ []) []) c.loop-port.invariant
    ∙ sym (filter_noted test port c.is_used.result (c.is_used.ensures ∙ used-is parts c.args.table.now (record { device = c.args.device; port = port }) c.requires.shown c.requires.device few))
