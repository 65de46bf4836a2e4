-- Frames: plain ones are the same by their fields and by their columns; what a unit reads of one on a stamped link, and of its stamp; and which
-- puts of a machine stand for those of a step.
--     Distances, ReadsFrames     laws of wrapped ids and of frames
--     reading bits l i k         how the stamp k is read where l was last seen and the id is i
use Rattle.std.proofs.Common.{◌≡◌, ℕ, ◌+◌, ◌-◌, ◌*◌, List, [], ◌∷◌, length, refl, sym, ap, ◌∙◌, Some, None, arith, inl, inr, ◌<◌, ◌≤◌, ◌++◌, subst, append-nil}
use Rattle.std.specs.Prelude.{get_or, ◌⊎◌, true, false, Bool, not, ◌&&◌, ◌||◌, ◌==◌, if◌then◌else◌, take, drop, slice_index, slice_range, Result, Ok, Err, nat_lt, nat_le, map}
use Rattle.std.specs.List.{list_all}
use Rattle.std.proofs.lemmas.Bool.{eq-eqb, ne_eqb, le-leb, leb-true, lt-ltb, cases_lt}
use Rattle.std.proofs.lemmas.Bool.Decides.{eqb_tells}
use Rattle.std.proofs.lemmas.List.{take_all, length-drop, get_or_past}
use Rattle.std.proofs.Math.Pow.{pow_mono}
use Rattle.std.proofs.lemmas.Nat.{mod_below, pow_pos}
use Rattle.sl_net.specs.declared.input.Packet.{Packet}
use Rattle.sl_wire.specs.declared.frame.Kind.{Kind}
use Rattle.sl_wire.specs.declared.frame.Kind.TheVariants.{Plain, Carried, Probe, Init}
use Rattle.sl_wire.specs.declared.frame.Header.{Header}
use Rattle.sl_wire.specs.declared.frame.WireFault.{WireFault}
use Rattle.sl_wire.specs.declared.frame.WireFault.TheVariants.{E1, E2, E3, E4, E5}
use Rattle.sl_wire.specs.declared.message.Msg.TheVariants.{Frame, Wire}
use Rattle.sl_wire.specs.Carried.{bytes_on, carrying, framed, frame_on, if_read}
use Rattle.sl_wire.specs.Frames.{plain_header, frame, decoded, kind_of, kind_decoded, columns_decoded, check_decoded, version_fits, id_fits, channel_fits, packet_fits, number, id_in, check_in, reserved_in, packet_of, header_of, all_zero, plain_frame as wire_frame, IsFrame, carries, stamp_fits, carried_header, probe_header, init_header, no_packet}
use Rattle.sl_unit.specs.Step.{plain_of, plain_packet, send}
use Rattle.sl_model.specs.Frame.{plain_frame, packet_at, number_at, packet_of as cut_packet}
use Rattle.sl_ids.specs.Ids.{modulus, wrapped, distance}
use Rattle.sl_ids.specs.Wids.{wid}
use Rattle.sl_layout.specs.declared.actor.ActorId.{ActorId}
use Rattle.sl_layout.specs.declared.actor.ActorId.TheVariants.{Observer, Control, Unit as OfUnit, Host}
use Rattle.sl_layout.specs.Net.{Net, actor_of, nobody, links_into, links_out}
use Rattle.sl_layout.specs.Roster.{IsActor}
use Rattle.sl_net.specs.declared.input.Snapshot.{Snapshot}
use Rattle.sl_layout.specs.declared.actor.Side.{Side}
use Rattle.sl_layout.specs.declared.actor.Side.TheVariants.{Ingress, Egress}
use Rattle.sl_parts.specs.declared.parts.CablePart.{CablePart}
use Rattle.sl_parts.specs.declared.parts.PortRef.{PortRef}
use Rattle.sl_parts.specs.Parts.{same_port, version_at}
use Rattle.sl_parts.specs.Lists.{Each}
use Rattle.sl_parts.proofs.Lists.{each-from_all}
use Rattle.sl_net.specs.Wired.{IsWired}
use Rattle.sl_unit.specs.declared.registers.Channel.{Channel}
use Rattle.sl_unit.specs.declared.registers.RelativeStamp.{RelativeStamp}
use Rattle.sl_unit.specs.Registers.{Registers, last_on, read_on, rise, age, is_near}
use Rattle.sl_unit.specs.Made.{port_of, version_on, version_of, exits_of, entrance_by, entrances_of}
use Rattle.sl_model.specs.History.{History, id, last}
use Rattle.sl_model.specs.UnitWindow.{IsTakeable}
use Rattle.sl_wire.specs.Sizes.{sizes_of, Sizes}
use Rattle.sl_simulation.specs.Messages.{CarryIds, version_from, IsMessage, AreSent}
use Rattle.sl_layout.specs.declared.actor.Sort.{Sort}
use Rattle.sl_layout.specs.Wires.{out_of}
use Rattle.sl_wire.specs.declared.message.Msg.{Msg}
use Rattle.sl_unit.specs.declared.wires.Entrance.TheVariants.{Other}
use Rattle.sl_unit.specs.declared.wires.Way.TheVariants.{All, Toward}
use Rattle.sl_unit.specs.Wires.{Wires, outs}
use Rattle.sl_machine.specs.Machine.{send_all as sent_all}
use Rattle.sl_model.specs.declared.message.Message.{Message}
use Rattle.sl_model.specs.declared.message.Put.{Put}
use Rattle.sl_model.specs.Puts.{send_all, crossbar_to}

pub frame-is : (p : Packet) → wire_frame p ≡ plain_frame p
unfolding frame plain_frame
frame-is p = refl

pub carried-plain : (p : Packet) → framed 1 plain_header p ≡ carrying (plain_frame p)
unfolding frame plain_frame
carried-plain p = refl

pub bytes-carried : (bytes : List ℕ) → bytes_on (carrying bytes) ≡ Some bytes
bytes-carried bytes = by_bool (length bytes == 24)
  where
    by_bool : (b : Bool) → bytes_on (if b then Frame (record { bytes = bytes }) else Wire bytes) ≡ Some bytes
    by_bool true = refl
    by_bool false = refl

fields-are : (bytes : List ℕ) → packet_of bytes ≡ packet_at bytes
unfolding packet_of
fields-are bytes = λ i. record { src = two 4 5 i; dst = two 6 7 i; seq = wide i; len = two 12 13 i; hops = slice_index bytes 14 }
  where
    two : (a b : ℕ) → number (slice_index bytes a) (slice_index bytes b) ≡ 256 * slice_index bytes a + slice_index bytes b
    two a b = omega arith

    wide : number (slice_index bytes 8) (slice_index bytes 9) * 65536 + number (slice_index bytes 10) (slice_index bytes 11) ≡ 65536 * number_at bytes 8 + number_at bytes 10
    wide = omega arith

zeros-are : (bytes : List ℕ) → all_zero bytes ≡ list_all (λ b. b == 0) bytes
zeros-are [] = refl
zeros-are (b ∷ bytes) = ap (λ z. (b == 0) && z) (zeros-are bytes)

number-zero : (a b : ℕ) → (number a b == 0) ≡ ((a == 0) && (b == 0))
number-zero a b = by_tells (eqb_tells a 0) (eqb_tells b 0)
  where
    by_tells : (((a == 0) ≡ true) × (a ≡ 0)) ⊎ (((a == 0) ≡ false) × (a ≡ 0 → ⊥)) → (((b == 0) ≡ true) × (b ≡ 0)) ⊎ (((b == 0) ≡ false) × (b ≡ 0 → ⊥)) → (number a b == 0) ≡ ((a == 0) && (b == 0))
    by_tells (inl p) (inl q) = eq-eqb (number a b) 0 (omega (arith, p.1, q.1)) ∙ sym (ap (λ z. z && (b == 0)) p.0 ∙ q.0)
    by_tells (inl p) (inr q) = ne_eqb (number a b) 0 (λ e. q.1 (omega (arith, e))) ∙ sym (ap (λ z. z && (b == 0)) p.0 ∙ q.0)
    by_tells (inr p) q = ne_eqb (number a b) 0 (λ e. p.1 (omega (arith, e))) ∙ sym (ap (λ z. z && (b == 0)) p.0)

-- Frames of other kinds hold no plain packet.

abbrev read : Bool → Bool → Bool → Result (ℕ × Header × Packet) WireFault → Result (ℕ × Header × Packet) WireFault
read version id rest r = if version then if id then Err E3 else if rest then Err E4 else r else Err E2

read-none : (v a b : Bool) (r : Result (ℕ × Header × Packet) WireFault) → plain_of r ≡ None → plain_of (read v a b r) ≡ None
read-none true true b r n = refl
read-none true false true r n = refl
read-none true false false r n = n
read-none false a b r n = refl

unchecked : (b : Bool) (r : Result (ℕ × Header × Packet) WireFault) → plain_of r ≡ None → plain_of (if b then Err E5 else r) ≡ None
unchecked true r n = refl
unchecked false r n = n

of-kind : (bits : ℕ) (bytes : List ℕ) (k : Kind) → plain_of (Ok (slice_index bytes 15, header_of k bytes, packet_of bytes)) ≡ None → plain_of (kind_decoded bits bytes (Some k)) ≡ None
of-kind bits bytes k n = read-none (version_fits k (slice_index bytes 15)) (not (id_fits bits (slice_index bytes 15) k (id_in bytes)))
    (not (channel_fits k (slice_index bytes 1)) || (not (packet_fits k bytes) || not (all_zero (reserved_in (slice_index bytes 15) bytes)))) (check_decoded bytes (slice_index bytes 15) k)
    (unchecked ((slice_index bytes 15 == 2) && not (check_in bytes == 65535 - id_in bytes)) (Ok (slice_index bytes 15, header_of k bytes, packet_of bytes)) n)

other-kind : (bits : ℕ) (bytes : List ℕ) (x y z : Bool) → plain_of (kind_decoded bits bytes (if x then Some Carried else if y then Some Probe else if z then Some Init else None)) ≡ None
other-kind bits bytes true y z = of-kind bits bytes Carried refl
other-kind bits bytes false true z = of-kind bits bytes Probe refl
other-kind bits bytes false false true = of-kind bits bytes Init refl
other-kind bits bytes false false false = refl

-- Frames of the plain kind.

read-some : (h : Header) (p : Packet) → plain_of (Ok (1, h, p)) ≡ Some p → (a b c v z : Bool)
    → plain_of (read v (not (b && c)) (not a || (not true || not z)) (Ok (1, h, p))) ≡ (if (a && (b && (c && true))) && (v && z) then Some p else None)
read-some h p e true true true true true = e
read-some h p e true true true true false = refl
read-some h p e true true true false true = refl
read-some h p e true true true false false = refl
read-some h p e true true false true true = refl
read-some h p e true true false true false = refl
read-some h p e true true false false true = refl
read-some h p e true true false false false = refl
read-some h p e true false true true true = refl
read-some h p e true false true true false = refl
read-some h p e true false true false true = refl
read-some h p e true false true false false = refl
read-some h p e true false false true true = refl
read-some h p e true false false true false = refl
read-some h p e true false false false true = refl
read-some h p e true false false false false = refl
read-some h p e false true true true true = refl
read-some h p e false true true true false = refl
read-some h p e false true true false true = refl
read-some h p e false true true false false = refl
read-some h p e false true false true true = refl
read-some h p e false true false true false = refl
read-some h p e false true false false true = refl
read-some h p e false true false false false = refl
read-some h p e false false true true true = refl
read-some h p e false false true true false = refl
read-some h p e false false true false true = refl
read-some h p e false false true false false = refl
read-some h p e false false false true true = refl
read-some h p e false false false true false = refl
read-some h p e false false false false true = refl
read-some h p e false false false false false = refl

-- a plain frame is of version 1 alone
one-version : (bits : ℕ) (bytes : List ℕ) (v : ℕ) → plain_of (if v == 1 then columns_decoded bits bytes v Plain else Err E2) ≡ plain_of (if v == 1 then columns_decoded bits bytes 1 Plain else Err E2)
one-version bits bytes v = by_tells (eqb_tells v 1)
  where
    by_tells : (((v == 1) ≡ true) × (v ≡ 1)) ⊎ (((v == 1) ≡ false) × (v ≡ 1 → ⊥)) → plain_of (if v == 1 then columns_decoded bits bytes v Plain else Err E2) ≡ plain_of (if v == 1 then columns_decoded bits bytes 1 Plain else Err E2)
    by_tells (inl q) = ap (λ w. plain_of (if v == 1 then columns_decoded bits bytes w Plain else Err E2)) q.1
    by_tells (inr q) = ap (λ b. plain_of (if b then columns_decoded bits bytes v Plain else Err E2)) q.0 ∙ sym (ap (λ b. plain_of (if b then columns_decoded bits bytes 1 Plain else Err E2)) q.0)

plain-kind : (bits : ℕ) (bytes : List ℕ) → plain_of (kind_decoded bits bytes (Some Plain))
    ≡ (if ((slice_index bytes 1 == 0) && ((slice_index bytes 2 == 0) && ((slice_index bytes 3 == 0) && true))) && ((slice_index bytes 15 == 1) && all_zero (slice_range bytes 16 24)) then Some (packet_of bytes) else None)
plain-kind bits bytes = one-version bits bytes (slice_index bytes 15)
    ∙ ap (λ n. plain_of (read (slice_index bytes 15 == 1) (not n) (not (slice_index bytes 1 == 0) || (not true || not (all_zero (slice_range bytes 16 24)))) (Ok (1, header_of Plain bytes, packet_of bytes)))) (number-zero (slice_index bytes 2) (slice_index bytes 3))
    ∙ read-some (header_of Plain bytes) (packet_of bytes) refl (slice_index bytes 1 == 0) (slice_index bytes 2 == 0) (slice_index bytes 3 == 0) (slice_index bytes 15 == 1) (all_zero (slice_range bytes 16 24))

-- The bytes of both.

front : (bytes : List ℕ) → length bytes ≡ 24 → list_all (λ b. b == 0) (take 4 bytes) ≡ ((slice_index bytes 0 == 0) && ((slice_index bytes 1 == 0) && ((slice_index bytes 2 == 0) && ((slice_index bytes 3 == 0) && true))))
front [] e = absurd (omega (arith, e))
front (a ∷ []) e = absurd (omega (arith, e))
front (a ∷ b ∷ []) e = absurd (omega (arith, e))
front (a ∷ b ∷ c ∷ []) e = absurd (omega (arith, e))
front (a ∷ b ∷ c ∷ d ∷ bytes) e = refl

back : (bytes : List ℕ) → length bytes ≡ 24 → all_zero (slice_range bytes 16 24) ≡ list_all (λ b. b == 0) (drop 16 bytes)
back bytes e = ap all_zero (take_all 8 (drop 16 bytes) (let l = length-drop 16 bytes in omega (arith, l, e))) ∙ zeros-are (drop 16 bytes)

abbrev right : List ℕ → Bool
right bytes = list_all (λ b. b == 0) (take 4 bytes) && ((slice_index bytes 15 == 1) && list_all (λ b. b == 0) (drop 16 bytes))

long : (bits : ℕ) (bytes : List ℕ) → length bytes ≡ 24 → plain_of (kind_decoded bits bytes (kind_of (slice_index bytes 0))) ≡ (if right bytes then Some (packet_at bytes) else None)
long bits bytes e = by_tells (eqb_tells (slice_index bytes 0) 0)
  where
    by_tells : (((slice_index bytes 0 == 0) ≡ true) × (slice_index bytes 0 ≡ 0)) ⊎ (((slice_index bytes 0 == 0) ≡ false) × (slice_index bytes 0 ≡ 0 → ⊥))
        → plain_of (kind_decoded bits bytes (kind_of (slice_index bytes 0))) ≡ (if right bytes then Some (packet_at bytes) else None)
    by_tells (inl q) = ap (λ b. plain_of (kind_decoded bits bytes (if b then Some Plain else if slice_index bytes 0 == 1 then Some Carried else if slice_index bytes 0 == 2 then Some Probe else if slice_index bytes 0 == 3 then Some Init else None))) q.0
        ∙ plain-kind bits bytes
        ∙ (λ i. if ((slice_index bytes 1 == 0) && ((slice_index bytes 2 == 0) && ((slice_index bytes 3 == 0) && true))) && ((slice_index bytes 15 == 1) && back bytes e i) then Some (fields-are bytes i) else None)
        ∙ sym (ap (λ b. if b && ((slice_index bytes 15 == 1) && list_all (λ b. b == 0) (drop 16 bytes)) then Some (packet_at bytes) else None)
        (front bytes e ∙ ap (λ b. b && ((slice_index bytes 1 == 0) && ((slice_index bytes 2 == 0) && ((slice_index bytes 3 == 0) && true)))) q.0))
    by_tells (inr q) = ap (λ b. plain_of (kind_decoded bits bytes (if b then Some Plain else if slice_index bytes 0 == 1 then Some Carried else if slice_index bytes 0 == 2 then Some Probe else if slice_index bytes 0 == 3 then Some Init else None))) q.0
        ∙ other-kind bits bytes (slice_index bytes 0 == 1) (slice_index bytes 0 == 2) (slice_index bytes 0 == 3)
        ∙ sym (ap (λ b. if b && ((slice_index bytes 15 == 1) && list_all (λ b. b == 0) (drop 16 bytes)) then Some (packet_at bytes) else None)
        (front bytes e ∙ ap (λ b. b && ((slice_index bytes 1 == 0) && ((slice_index bytes 2 == 0) && ((slice_index bytes 3 == 0) && true)))) q.0))

pub plain-is : (bits : ℕ) (bytes : List ℕ) → plain_packet bits bytes ≡ cut_packet bytes
unfolding decoded cut_packet
plain-is bits bytes = by_tells (eqb_tells (length bytes) 24)
  where
    by_tells : (((length bytes == 24) ≡ true) × (length bytes ≡ 24)) ⊎ (((length bytes == 24) ≡ false) × (length bytes ≡ 24 → ⊥))
        → plain_of (if length bytes == 24 then kind_decoded bits bytes (kind_of (slice_index bytes 0)) else Err E1) ≡ (if (length bytes == 24) && right bytes then Some (packet_at bytes) else None)
    by_tells (inl q) = ap (λ b. plain_of (if b then kind_decoded bits bytes (kind_of (slice_index bytes 0)) else Err E1)) q.0 ∙ long bits bytes q.1
        ∙ sym (ap (λ b. if b && right bytes then Some (packet_at bytes) else None) q.0)
    by_tells (inr q) = ap (λ b. plain_of (if b then kind_decoded bits bytes (kind_of (slice_index bytes 0)) else Err E1)) q.0
        ∙ sym (ap (λ b. if b && right bytes then Some (packet_at bytes) else None) q.0)

abbrev pub Distances : Type 0
Distances = (bits a b : ℕ) → a ≤ b → b < a + modulus bits → distance bits (wrapped bits a) (wrapped bits b) ≡ b - a

abbrev pub ReadsFrames : Type 0
ReadsFrames = (bits : ℕ) (bytes : List ℕ) (v : ℕ) (h : Header) (p : Packet) → IsFrame bits bytes v h p → decoded bits bytes ≡ Ok (v, h, p)

-- Stamps.

abbrev pub reading : ℕ → ℕ → ℕ → ℕ → RelativeStamp
reading bits l i k = record { stamp = wid bits k; ahead = k - l; lead = i - l }

pub reads : Distances → (bits window c k : ℕ) (h : History) (ch : Channel) (r : Registers) → window < modulus bits → IsTakeable window c h k → last_on ch r ≡ wid bits (last c h) → r.id ≡ wid bits (id h)
    → read_on bits ch (wid bits k) r ≡ reading bits (last c h) (id h) k
reads law bits window c k h ch r few t e q =
    let a = t.order in let b = t.ahead in let u = t.behind in let v = t.lag in
    let x = ap (λ w. distance bits w.raw (wrapped bits k)) e ∙ law bits (last c h) k a (omega (arith, b, few)) in
    let y = (λ j. distance bits (e j).raw (q j).raw) ∙ law bits (last c h) (id h) u (omega (arith, v, few)) in
    λ j. record { stamp = wid bits k; ahead = x j; lead = y j }

pub rise-is : (bits l i k : ℕ) → l ≤ i → rise (reading bits l i k) ≡ k - i
rise-is bits l i k p = omega (arith, p)

pub age-is : (bits l i k : ℕ) → l ≤ k → age (reading bits l i k) ≡ i - k
age-is bits l i k p = omega (arith, p)

pub near-is : (bits window c k : ℕ) (h : History) → IsTakeable window c h k → is_near window (reading bits (last c h) (id h) k) ≡ true
near-is bits window c k h t =
    let a = t.order in let b = t.ahead in let x = t.above in let y = t.below in let u = t.behind in
    let p = le-leb (k - last c h) window (omega (arith, b)) in
    let q = le-leb (rise (reading bits (last c h) (id h) k)) window (omega (arith, x, rise-is bits (last c h) (id h) k u)) in
    let s = le-leb (age (reading bits (last c h) (id h) k)) window (omega (arith, y, age-is bits (last c h) (id h) k a)) in
    λ j. p j && (q j && s j)

-- Frames.

-- a version that carries ids of so many bits is one of the two, and has room for each
is-version : (bits v : ℕ) → carries bits v ≡ true → ((v == 1) || (v == 2)) ≡ true
is-version bits v e = by_bools (v == 1) (v == 2) e
  where
    by_bools : (x y : Bool) → (y || (x && nat_le bits 8)) ≡ true → (x || y) ≡ true
    by_bools true y e = refl
    by_bools false true e = refl
    by_bools false false e = e

stamp-fits : (bits v n : ℕ) → carries bits v ≡ true → stamp_fits bits v (wrapped bits n) ≡ true
stamp-fits bits v n e = by_bools (v == 2) (v == 1) e
  where
    low : wrapped bits n < modulus bits
    low = mod_below n (modulus bits) (pow_pos bits)

    by_bools : (x y : Bool) → (x || (y && nat_le bits 8)) ≡ true → (nat_lt (wrapped bits n) (modulus bits) && (x || nat_lt (wrapped bits n) 256)) ≡ true
    by_bools true y e = ap (λ b. b && true) (lt-ltb (wrapped bits n) (modulus bits) low)
    by_bools false true e =
        let few : bits ≤ 8 = leb-true bits 8 e in
        let most : modulus bits ≤ modulus 8 = pow_mono few in
        let is : modulus 8 ≡ 256 = refl in
        ap (λ b. b && nat_lt (wrapped bits n) 256) (lt-ltb (wrapped bits n) (modulus bits) low) ∙ lt-ltb (wrapped bits n) 256 (omega (arith, low, most, is))
    by_bools false false e = let x : false ≡ true = e in cc

module _ (law : ReadsFrames) (bits v k : ℕ) (e : carries bits v ≡ true) where
  pub reads-carried : (port : ℕ) (p : Packet) → port < 8 → frame_on bits (framed v (carried_header (wid bits k) port) p) ≡ Some (carried_header (wid bits k) port, p)
  reads-carried port p few = ap if_read (law bits (frame v (carried_header (wid bits k) port) p) v (carried_header (wid bits k) port) p
      (record { canonical = record { version = is-version bits v e; id = stamp-fits bits v k e; channel = lt-ltb port 8 few; packet = tt }; spelled = refl }))

  pub reads-probe : (port : ℕ) → port < 8 → frame_on bits (framed v (probe_header (wid bits k) port) no_packet) ≡ Some (probe_header (wid bits k) port, no_packet)
  reads-probe port few = ap if_read (law bits (frame v (probe_header (wid bits k) port) no_packet) v (probe_header (wid bits k) port) no_packet
      (record { canonical = record { version = is-version bits v e; id = stamp-fits bits v k e; channel = lt-ltb port 8 few; packet = (refl, refl, refl, refl, refl) }; spelled = refl }))

  pub reads-init : frame_on bits (framed v (init_header (wid bits k)) no_packet) ≡ Some (init_header (wid bits k), no_packet)
  reads-init = ap if_read (law bits (frame v (init_header (wid bits k)) no_packet) v (init_header (wid bits k)) no_packet
      (record { canonical = record { version = is-version bits v e; id = stamp-fits bits v k e; channel = refl; packet = (refl, refl, refl, refl, refl) }; spelled = refl }))

-- The frames of each actor carry all ids.

carries-at : (bits v : ℕ) (p : PortRef) (cs : List CablePart) → carries bits v ≡ true → Each (λ c. carries bits c.version ≡ true) cs → carries bits (version_at v cs p) ≡ true
carries-at bits v p [] e h = e
carries-at bits v p (c ∷ cs) e h = by_bool (same_port c.a p || same_port c.b p) (carries-at bits v p cs e h.1)
  where
    by_bool : (b : Bool) → carries bits (version_at v cs p) ≡ true → carries bits (if b then c.version else version_at v cs p) ≡ true
    by_bool true k = h.0
    by_bool false k = k

pub version-carries : (net : Net) (table : Snapshot) → CarryIds net table → (a : ℕ) → carries table.width (version_from net (sizes_of table) a) ≡ true
version-carries net table t a = by_actor (actor_of net a)
  where
    by_actor : (x : ActorId) → carries table.width (version_of net.parts.cables table.version x) ≡ true
    by_actor (OfUnit u) = by_side u.side
      where
        by_side : (s : Side) → carries table.width (version_on net.parts.cables table.version u.device u.port s) ≡ true
        by_side Ingress = t.snapshot
        by_side Egress = carries-at table.width table.version (record { device = u.device; port = u.port }) net.parts.cables t.snapshot (each-from_all (λ c. carries table.width c.version ≡ true) net.parts.cables t.cables)
    by_actor Observer = t.snapshot
    by_actor (Control d) = t.snapshot
    by_actor (Host n) = t.snapshot

-- A port is one of eight.

pub port-few : (net : Net) → IsWired net → (a : ℕ) → port_of (actor_of net a) < 8
port-few net wired a = by_cases (cases_lt a (length net.actors))
  where
    by_actor : (x : ActorId) → IsActor net.parts x → port_of x < 8
    by_actor (OfUnit u) h = let low = h.1 in let v = wired.valid in let few = v.ports u.device in omega (arith, low, few)
    by_actor Observer h = omega arith
    by_actor (Control d) h = omega arith
    by_actor (Host n) h = omega arith

    by_cases : (a < length net.actors) ⊎ (length net.actors ≤ a) → port_of (actor_of net a) < 8
    by_cases (inl p) = by_actor (actor_of net a) (wired.actor a p)
    by_cases (inr p) = let e = ap port_of (get_or_past net.actors a nobody p) in omega (arith, e)

pub sent-append : (net : Net) (sizes : Sizes) (us : ℕ → History) (a : ℕ) (told : ℕ → ℕ) (ps qs : List Put) (xs ys : List (ℕ × Msg)) → AreSent net sizes us a told ps xs → AreSent net sizes us a told qs ys
    → AreSent net sizes us a told (ps ++ qs) (xs ++ ys)
sent-append net sizes us a told [] qs [] ys h k = k
sent-append net sizes us a told (p ∷ ps) qs (x ∷ xs) ys h k = (h.0, sent-append net sizes us a told ps qs xs ys h.1 k)
sent-append net sizes us a told [] qs (x ∷ xs) ys h k = absurd h
sent-append net sizes us a told (p ∷ ps) qs [] ys h k = absurd h

pub sent-nil : (net : Net) (sizes : Sizes) (us : ℕ → History) (a : ℕ) (told : ℕ → ℕ) (ps : List Put) (xs : List (ℕ × Msg)) → AreSent net sizes us a told ps xs → AreSent net sizes us a told (ps ++ []) xs
sent-nil net sizes us a told ps xs h = subst (λ qs. AreSent net sizes us a told qs xs) (sym (append-nil ps)) h

-- a message on some links
pub sends-are : (net : Net) (sizes : Sizes) (us : ℕ → History) (a : ℕ) (told : ℕ → ℕ) (m : Message) (x : Msg) (ls : List ℕ) → IsMessage net sizes us a told m x
    → AreSent net sizes us a told (send_all m ls) (sent_all x (map (out_of net) ls))
sends-are net sizes us a told m x [] h = tt
sends-are net sizes us a told m x (l ∷ ls) h = ((refl, h), sends-are net sizes us a told m x ls h)

-- the law of the links of a unit
pub record Links : Type 0 where
  pub sorts : (net : Net) (a : ℕ) (s : Sort) → outs (All s) (exits_of net a) ≡ map (out_of net) (links_out net a s)
  pub toward : (net : Net) (a device port : ℕ) → outs (Toward device port) (exits_of net a) ≡ map (out_of net) (crossbar_to net a device port)
  pub entrances : (net : Net) (a c : ℕ) → c < length (links_into net a) → get_or (entrances_of net a) c Other ≡ entrance_by net a c

-- on all links of a sort
pub sort-sent : Links → (net : Net) (sizes : Sizes) (us : ℕ → History) (a : ℕ) (told : ℕ → ℕ) (m : Message) (x : Msg) (s : Sort) (w : Wires) → w.exits ≡ exits_of net a → IsMessage net sizes us a told m x
    → AreSent net sizes us a told (send_all m (links_out net a s)) (send w (All s) x)
sort-sent links net sizes us a told m x s w e h = subst (λ os. AreSent net sizes us a told (send_all m (links_out net a s)) (sent_all x os)) (sym (ap (λ es. outs (All s) es) e ∙ links.sorts net a s)) (sends-are net sizes us a told m x (links_out net a s) h)

-- on the crossbar link to the egress unit of a port
pub toward-sent : Links → (net : Net) (sizes : Sizes) (us : ℕ → History) (a : ℕ) (told : ℕ → ℕ) (m : Message) (x : Msg) (d port : ℕ) (w : Wires) → w.exits ≡ exits_of net a → IsMessage net sizes us a told m x
    → AreSent net sizes us a told (send_all m (crossbar_to net a d port)) (send w (Toward d port) x)
toward-sent links net sizes us a told m x d port w e h = subst (λ os. AreSent net sizes us a told (send_all m (crossbar_to net a d port)) (sent_all x os)) (sym (ap (λ es. outs (Toward d port) es) e ∙ links.toward net a d port)) (sends-are net sizes us a told m x (crossbar_to net a d port) h)

pub sent-if : (net : Net) (sizes : Sizes) (us : ℕ → History) (a : ℕ) (told : ℕ → ℕ) (b : Bool) (ps : List Put) (xs : List (ℕ × Msg)) → AreSent net sizes us a told ps xs → AreSent net sizes us a told (if b then ps else []) (if b then xs else [])
sent-if net sizes us a told true ps xs h = h
sent-if net sizes us a told false ps xs h = tt

pub sent-unless : (net : Net) (sizes : Sizes) (us : ℕ → History) (a : ℕ) (told : ℕ → ℕ) (b : Bool) (ps : List Put) (xs : List (ℕ × Msg)) → AreSent net sizes us a told ps xs → AreSent net sizes us a told (if b then [] else ps) (if b then [] else xs)
sent-unless net sizes us a told true ps xs h = tt
sent-unless net sizes us a told false ps xs h = h
