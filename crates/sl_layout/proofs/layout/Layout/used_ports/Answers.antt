use Rattle.std.specs.List.{All}
use Rattle.sl_parts.specs.Valid.{IsValid}
use Rattle.sl_layout.proofs.Ends.{small_ports}
use Rattle.std.proofs.Common.{◌<◌, subst, sym, [], ap, ◌∙◌, length, get_or, arith, zero-add}
use Rattle.std.proofs.lemmas.List.FromFn.{get_or-map-range_with_len, length-map-range_with_len}
use Rattle.sl_parts.specs.Parts.{used_ports}
use Rattle.sl_layout.proofs.layout.Layout.used_ports.Goals as goal

pub row-requires : goal.row-requires
row-requires c =
    let inside = c.self.inside in
    omega (arith, ap length c.as_slice.ensures.value, ap length c.self.invariant.used_are, length-map-range_with_len (used_ports inside.parts) 0 (length inside.parts.devices), ap (λ p. length p.devices) c.self.view_is)

pub returns-clause-ports : goal.returns-clause-ports
returns-clause-ports c =
    let inside = c.self.inside in
    let device = c.args.device in
    c.row.ensures ∙ ap (λ xs. get_or xs device []) (c.as_slice.ensures.value ∙ c.self.invariant.used_are)
    ∙ get_or-map-range_with_len (used_ports inside.parts) 0 (length inside.parts.devices) device _ [] (omega (arith, ap (λ p. length p.devices) c.self.view_is)) (zero-add device)
    ∙ ap (λ p. used_ports p device) c.self.view_is

pub returns-clause-small : goal.returns-clause-small
returns-clause-small c =
    subst (All (λ p. p < 8)) (sym (returns-clause-ports c)) (small_ports c.args.self.now c.args.device (subst IsValid c.self.view_is c.self.invariant.valid))
