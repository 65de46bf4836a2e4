-- What a frame of a kind with an id says, by the tests of its columns.
use Rattle.std.proofs.Common.{◌≡◌, ℕ, zero, suc, ◌-◌, ◌≤◌, Bool, true, sym, ◌∙◌, refl, arith}
use Rattle.std.specs.Prelude.{◌≢◌, not, ◌||◌, ◌&&◌, ◌==◌, if◌then◌else◌, List, slice_index, Some, Result, Ok, Err}
use Rattle.sl_net.specs.declared.input.Packet.{Packet}
use Rattle.sl_wire.specs.declared.frame.Kind.{Kind}
use Rattle.sl_wire.specs.declared.frame.Kind.TheVariants.{Plain, Carried, Probe, Init}
use Rattle.sl_wire.specs.declared.frame.Header.{Header}
use Rattle.sl_wire.specs.declared.frame.WireFault.{WireFault}
use Rattle.sl_wire.specs.declared.frame.WireFault.TheVariants.{E2, E3, E4, E5}
use Rattle.sl_wire.specs.Frames.{stamp_fits, channel_fits, packet_fits, all_zero, reserved_in, id_in, check_in, header_of, packet_of, kind_decoded}

pub one_or_two : (v : ℕ) → 1 ≤ v → v ≤ 2 → ((v == 1) || (v == 2)) ≡ true
one_or_two zero l h = absurd (omega (arith, l))
one_or_two (suc zero) l h = refl
one_or_two (suc (suc zero)) l h = refl
one_or_two (suc (suc (suc v))) l h = absurd (omega (arith, h))

-- by whether the version, the id, the channel, the packet and the last bytes fit, and whether the check fails
abbrev by_tests : Bool → Bool → Bool → Bool → Bool → Bool → ℕ × Header × Packet → Result (ℕ × Header × Packet) WireFault
by_tests version id channel packet last fails x =
    if version then (if not id then Err E3 else if not channel || (not packet || not last) then Err E4 else if fails then Err E5 else Ok x) else Err E2

abbrev fails_check : ℕ → List ℕ → Bool
fails_check v bytes = (v == 2) && not (check_in bytes == 65535 - id_in bytes)

pub stamped : (bits : ℕ) (bytes : List ℕ) (kind : Kind) (v : ℕ) → kind ≢ Plain → v ≡ slice_index bytes 15 → kind_decoded bits bytes (Some kind)
    ≡ by_tests ((v == 1) || (v == 2)) (stamp_fits bits v (id_in bytes)) (channel_fits kind (slice_index bytes 1)) (packet_fits kind bytes) (all_zero (reserved_in v bytes)) (fails_check v bytes)
    (v, header_of kind bytes, packet_of bytes)
stamped bits bytes Plain v h is = absurd (h refl)
stamped bits bytes Carried v h is = rw is refl
stamped bits bytes Probe v h is = rw is refl
stamped bits bytes Init v h is = rw is refl

-- what it says where the columns fit, by its check
pub checked : (bits : ℕ) (bytes : List ℕ) (kind : Kind) (v : ℕ) (fails : Bool) → kind ≢ Plain → v ≡ slice_index bytes 15 → ((v == 1) || (v == 2)) ≡ true
    → stamp_fits bits v (id_in bytes) ≡ true → channel_fits kind (slice_index bytes 1) ≡ true → packet_fits kind bytes ≡ true → all_zero (reserved_in v bytes) ≡ true
    → fails_check v bytes ≡ fails → (if fails then Err E5 else Ok (v, header_of kind bytes, packet_of bytes)) ≡ kind_decoded bits bytes (Some kind)
checked bits bytes kind v fails h is one id channel packet last check = sym (stamped bits bytes kind v h is ∙ rw (one, id, channel, packet, last, check) refl)
