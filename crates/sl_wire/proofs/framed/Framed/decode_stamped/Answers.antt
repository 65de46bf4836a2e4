use Rattle.std.proofs.Common.{◌≡◌, ◌-◌, true, false, ap, sym, ◌∙◌, refl, arith}
use Rattle.std.specs.Prelude.{not, ◌&&◌, ◌||◌, ◌==◌, slice_index}
use Rattle.std.proofs.lemmas.Bool.{eq-eqb, ne_eqb}
use Rattle.sl_wire.specs.Frames.{channel_fits, packet_fits, all_zero, reserved_in, check_in, id_in}
use Rattle.sl_wire.proofs.Stamped.{one_or_two, stamped, checked}
use Rattle.sl_wire.proofs.framed.Framed.decode_stamped.Goals.{else-version-eq2-via-then-version-eq2+else-check-raw, else-version-eq2-via-else-version-eq2}
use Rattle.sl_wire.proofs.framed.Framed.decode_stamped.Goals.{then-not-channel_fits-via-then-not-channel_fits, then-not-channel_fits-via-else-not-channel_fits+then-not-packet_fits, then-not-channel_fits-via-else-not-channel_fits+else-not-packet_fits+then-not-is_reserved}
use Rattle.sl_wire.proofs.framed.Framed.decode_stamped.Goals as goal

pub returns-then-version-ne2 : goal.returns-then-version-ne2
returns-then-version-ne2 c =
    let v = c.version-version.result in
    sym (stamped c.args.width.bits c.args.self.now.bytes c.args.kind v c.requires c.version-version.ensures ∙ rw (ne_eqb v 1 c.if-version-ne1.true, ne_eqb v 2 c.if-version-ne2.true) refl)

pub returns-then-not-stamp_fits : goal.returns-then-not-stamp_fits
returns-then-not-stamp_fits c =
    let v = c.version-version.result in
    let version = one_or_two v (omega (arith, c.else-version-ne1.either)) (omega (arith, c.else-version-ne1.either)) in
    let id = rw c.id-raw.ensures at (sym c.stamp_fits.ensures ∙ c.if-not-stamp_fits.true) in
    sym (stamped c.args.width.bits c.args.self.now.bytes c.args.kind v c.requires c.version-version.ensures ∙ rw (version, id) refl)

pub returns-then-not-channel_fits : goal.returns-then-not-channel_fits
returns-then-not-channel_fits c =
    let v = c.version-version.result in
    let bytes = c.args.self.now.bytes in
    let version = one_or_two v (omega (arith, c.else-version-ne1.either)) (omega (arith, c.else-version-ne1.either)) in
    let id = rw c.id-raw.ensures at (sym c.stamp_fits.ensures ∙ c.if-not-stamp_fits.false) in
    let channel = rw c.channel-channel.ensures at (sym c.channel_fits.ensures) in
    let unfit = elim c.then-not-channel_fits.branch as
    (λ _. (not (channel_fits c.args.kind (slice_index bytes 1)) || (not (packet_fits c.args.kind bytes) || not (all_zero (reserved_in v bytes)))) ≡ true) [
      | then-not-channel_fits-via-then-not-channel_fits w ↦ rw (channel, w.if-not-channel_fits.true) refl
      | then-not-channel_fits-via-else-not-channel_fits+then-not-packet_fits w ↦ rw (channel, w.if-not-channel_fits.false, sym w.packet_fits.ensures, w.if-not-packet_fits.true) refl
      | then-not-channel_fits-via-else-not-channel_fits+else-not-packet_fits+then-not-is_reserved w ↦
          rw (channel, w.if-not-channel_fits.false, sym w.packet_fits.ensures, w.if-not-packet_fits.false, sym w.is_reserved.ensures, w.if-not-is_reserved.true) refl
    ] in
    sym (stamped c.args.width.bits bytes c.args.kind v c.requires c.version-version.ensures ∙ rw (version, id, unfit) refl)

pub returns : goal.returns
returns c =
    let v = c.version-version.result in
    let bytes = c.args.self.now.bytes in
    let passes = elim c.else-version-eq2.branch as (λ _. ((v == 2) && not (check_in bytes == 65535 - id_in bytes)) ≡ false) [
      | else-version-eq2-via-then-version-eq2+else-check-raw w ↦ rw (w.if-version-eq2.true, eq-eqb (check_in bytes) (65535 - id_in bytes) (sym w.check.ensures ∙ (w.if-check-raw.false ∙ ap (λ n. 65535 - n) c.id-raw.ensures))) refl
      | else-version-eq2-via-else-version-eq2 w ↦ rw (ne_eqb v 2 w.if-version-eq2.false) refl
    ] in
    rw (c.id-raw.ensures, c.channel-channel.ensures, c.packet.ensures) (checked
    c.args.width.bits
    bytes
    c.args.kind
    v
    false
    c.requires
    c.version-version.ensures
    (one_or_two v (omega (arith, c.else-version-ne1.either)) (omega (arith, c.else-version-ne1.either)))
    (rw c.id-raw.ensures at (sym c.stamp_fits.ensures ∙ c.if-not-stamp_fits.false))
    (rw c.channel-channel.ensures at (sym c.channel_fits.ensures ∙ c.if-not-channel_fits.false))
    (sym c.packet_fits.ensures ∙ c.if-not-packet_fits.false)
    (sym c.is_reserved.ensures ∙ c.if-not-is_reserved.false)
    passes)

pub returns-then-check-raw : goal.returns-then-check-raw
returns-then-check-raw c =
    let bytes = c.args.self.now.bytes in
    let unlike = ne_eqb (check_in bytes) (65535 - id_in bytes) (λ e. c.if-check-raw.true (c.check.ensures ∙ (e ∙ ap (λ n. 65535 - n) (sym c.id-raw.ensures)))) in
    checked
    c.args.width.bits
    bytes
    c.args.kind
    c.version-version.result
    true
    c.requires
    c.version-version.ensures
    (rw c.if-version-eq2.true refl)
    (rw c.id-raw.ensures at (sym c.stamp_fits.ensures ∙ c.if-not-stamp_fits.false))
    (rw c.channel-channel.ensures at (sym c.channel_fits.ensures ∙ c.if-not-channel_fits.false))
    (sym c.packet_fits.ensures ∙ c.if-not-packet_fits.false)
    (sym c.is_reserved.ensures ∙ c.if-not-is_reserved.false)
    (rw (c.if-version-eq2.true, unlike) refl)
