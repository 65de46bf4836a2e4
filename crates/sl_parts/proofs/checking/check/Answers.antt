use Rattle.std.proofs.Common.{◌≡◌, ap, ◌∙◌, length, arith}
use Rattle.sl_parts.proofs.Checked.{near_ends}
use Rattle.sl_parts.proofs.checking.check.Goals as goal

pub join_cables-requires-clause-near : goal.join_cables-requires-clause-near
join_cables-requires-clause-near c =
    let parts = c.args.parts.now in
    let cables : c.as_slice.result.now ≡ parts.cables = c.as_slice.ensures.value ∙ ap (λ p. p.cables) c.parts.view_is in
    let devices : c.len.result ≡ length parts.devices = omega (arith, ap (λ p. length p.devices) c.parts.view_is, c.parts.inside.devices.ok.0) in
    rw (cables, devices) (near_ends parts c.in_ok-check_ranges.ensures.valid)
