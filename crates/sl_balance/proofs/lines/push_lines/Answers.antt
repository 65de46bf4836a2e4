use Rattle.std.proofs.Common.{◌≡◌, ◌≤◌, ◌++◌, length, get_or, map, ap, ◌∙◌, arith, zero-add, ℕ}
use Rattle.std.specs.Prelude.{[]}
use Rattle.std.proofs.lemmas.List.{length-map}
use Rattle.std.proofs.lemmas.List.Sums.{length-filter, count_by-le-length}
use Rattle.std.proofs.lemmas.List.FromFn.{get_or-map-range_with_len, length-map-range_with_len, length-range_with_len}
use Rattle.sl_parts.specs.Parts.{below}
use Rattle.sl_layout.specs.Net.{actor_of, units}
use Rattle.sl_balance.specs.Cabled.{is_cabled, unit_at, cabled}
use Rattle.sl_balance.specs.Balance.{packets_at, line_of, device_line}
use Rattle.sl_parts.proofs.Lists.{walk_more}
use Rattle.sl_balance.proofs.lines.push_lines.Goals as goal

pub row-requires : goal.row-requires
row-requires c = omega (arith, ap length c.requires.table, length-map-range_with_len (cabled c.args.net.now) 0 (length c.args.net.now.parts.devices), c.device_count-device-end.ensures)

pub push_line-requires-clause-few : goal.push_line-requires-clause-few
push_line-requires-clause-few c =
    let net = c.args.net.now in
    let d = c.loop-device.device in
    let places : c.row.result.now ≡ cabled net d =
    c.row.ensures ∙ ap (λ t. get_or t d []) c.requires.table ∙ get_or-map-range_with_len (cabled net) 0 (length net.parts.devices) d _ [] (omega (arith, c.device_count-device-end.ensures)) (zero-add d) in
    let test = λ (i : ℕ). is_cabled net.parts d (actor_of net (unit_at net i)) in
    let few : length (cabled net d) ≤ length (below (length (units net))) = omega (arith, length-filter test (below (length (units net))), count_by-le-length test (below (length (units net)))) in
    let mapped : length (map (packets_at c.args.rows.now) c.row.result.now) ≡ length c.row.result.now = simp length-map in
    omega (
      arith,
      few,
      length-range_with_len 0 (length (units net)),
      c.unit_count-units.ensures.few,
      c.unit_count-units.ensures.count,
      ap length c.as_slice.ensures.value,
      ap length c.in_ok-counts.ensures.counts,
      mapped,
      ap length places,
    )

pub loop-device-preserved : goal.loop-device-preserved
loop-device-preserved c =
    let net = c.args.net.now in
    let d = c.loop-device.device in
    let rows = c.args.rows.now in
    let places : c.row.result.now ≡ cabled net d =
    c.row.ensures ∙ ap (λ t. get_or t d []) c.requires.table ∙ get_or-map-range_with_len (cabled net) 0 (length net.parts.devices) d _ [] (omega (arith, c.device_count-device-end.ensures)) (zero-add d) in
    let counts : c.as_slice.result.now ≡ map (packets_at rows) (cabled net d) = c.as_slice.ensures.value ∙ c.in_ok-counts.ensures.counts ∙ ap (map (packets_at rows)) places in
    walk_more (device_line net c.args.k rows) d _ _ _ (c.in_ok-push_line.ensures ∙ ap (λ ns. c.loop-device.lines.items ++ line_of c.args.k d ns) counts) c.loop-device.invariant
