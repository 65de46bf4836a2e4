-- The puts of a turn fit the unit's outgoing links: each goes on one of them, and no two on one.
use Rattle.std.proofs.Common.{◌≡◌, ℕ, zero, suc, ◌+◌, ◌-◌, ◌<◌, ◌≤◌, List, [], ◌∷◌, ◌++◌, length, refl, sym, ap, subst, ◌∙◌, Option, Some, None, arith, append_assoc, append-nil, get_or, inl, inr}
use Rattle.std.specs.Prelude.{cond, true, false, Bool, filter, nat_lt, not, ◌⊎◌, ◌==◌, ◌&&◌, ◌||◌, if◌then◌else◌}
use Rattle.std.proofs.lemmas.Bool.{lt-ltb}
use Rattle.std.proofs.lemmas.Bool.Decides.{eqb_tells}
use Rattle.std.specs.List.{range_with_len}
use Rattle.sl_machine.specs.Machine.{After, is_fitting, puts_on, send_all}
use Rattle.sl_parts.specs.Parts.{below}
use Rattle.sl_layout.specs.declared.actor.Sort.TheVariants as sort
use Rattle.sl_net.specs.declared.input.Packet.{Packet}
use Rattle.sl_layout.specs.Net.{same_sort}
use Rattle.sl_wire.specs.declared.message.Msg.{Msg}
use Rattle.sl_ids.specs.declared.wid.Wid.{Wid}
use Rattle.sl_wire.specs.declared.frame.Header.{Header}
use Rattle.sl_wire.specs.declared.frame.Kind.{Kind}
use Rattle.sl_wire.specs.declared.frame.Kind.TheVariants.{Plain, Carried, Probe, Init as InitKind}
use Rattle.sl_wire.specs.declared.message.Msg.TheVariants.{Poll as PollMsg, Notice, Dump}
use Rattle.sl_wire.specs.Frames.{plain_header}
use Rattle.sl_wire.specs.Carried.{bytes_on, frame_on, framed}
use Rattle.sl_unit.specs.declared.wires.Entrance.{Entrance}
use Rattle.sl_unit.specs.declared.wires.Entrance.TheVariants.{Host, Cable, Crossbar, Init, Poll, Other}
use Rattle.sl_unit.specs.declared.wires.Way.{Way}
use Rattle.sl_unit.specs.declared.wires.Way.TheVariants.{All, Toward}
use Rattle.sl_unit.specs.declared.registers.Channel.TheVariants.{Cpu, Upstream}
use Rattle.sl_unit.specs.declared.registers.RelativeStamp.{RelativeStamp}
use Rattle.sl_unit.specs.Wires.{Wires, is_out, no_exit, port_to}
use Rattle.sl_unit.specs.Registers.{Registers, more, counted, is_near, after_stamp, after_data, dump_of}
use Rattle.sl_unit.specs.Step.{UnitState, send, data_frame, probe_frame, onward, routed, passed, probed, initiated, absorbed, stamped, read, plain_packet, from_host, of_host, by_cable, by_crossbar, by_init, of_frame, take_at}
use Rattle.sl_unit.proofs.Ways.{sort_of, ways_apart}

-- a number below the first is on none of the links
low_absent : (m : Msg) (p : ℕ → Bool) (o t k : ℕ) → o < t → puts_on o (send_all m (filter p (range_with_len t k))) ≡ false
low_absent m p o t zero h = refl
low_absent m p o t (suc k) h = by_bool (p t) (low_absent m p o (t + 1) k (omega arith)) (eqb_tells t o)
  where
    by_bool : (b : Bool) → puts_on o (send_all m (filter p (range_with_len (t + 1) k))) ≡ false → (((t == o) ≡ true) × (t ≡ o)) ⊎ (((t == o) ≡ false) × (t ≡ o → ⊥))
        → puts_on o (send_all m (cond b (t ∷ filter p (range_with_len (t + 1) k)) (filter p (range_with_len (t + 1) k)))) ≡ false
    by_bool false r e = r
    by_bool true r (inl e) = absurd (omega (arith, e.1))
    by_bool true r (inr e) = ap (λ b. b || puts_on o (send_all m (filter p (range_with_len (t + 1) k)))) e.0 ∙ r

-- and so is a number that doesn't pass
other_absent : (m : Msg) (q : ℕ → Bool) (o : ℕ) (xs : List ℕ) → q o ≡ false → puts_on o (send_all m (filter q xs)) ≡ false
other_absent m q o [] h = refl
other_absent m q o (x ∷ xs) h = by_bool (q x) refl (other_absent m q o xs h) (eqb_tells x o)
  where
    by_bool : (b : Bool) → q x ≡ b → puts_on o (send_all m (filter q xs)) ≡ false → (((x == o) ≡ true) × (x ≡ o)) ⊎ (((x == o) ≡ false) × (x ≡ o → ⊥))
        → puts_on o (send_all m (cond b (x ∷ filter q xs) (filter q xs))) ≡ false
    by_bool false e r t = r
    by_bool true e r (inl t) = absurd (let z : true ≡ false = sym e ∙ ap q t.1 ∙ h in cc)
    by_bool true e r (inr t) = ap (λ b. b || puts_on o (send_all m (filter q xs))) t.0 ∙ r

on_append : (o : ℕ) (ps qs : List (ℕ × Msg)) → puts_on o ps ≡ false → puts_on o qs ≡ false → puts_on o (ps ++ qs) ≡ false
on_append o [] qs h k = k
on_append o (p ∷ ps) qs h k = by_bool (p.0 == o) h (λ h. on_append o ps qs h k)
  where
    by_bool : (b : Bool) → (b || puts_on o ps) ≡ false → (puts_on o ps ≡ false → puts_on o (ps ++ qs) ≡ false) → (b || puts_on o (ps ++ qs)) ≡ false
    by_bool true h f = h
    by_bool false h f = f h

all_fit : (n : ℕ) (m : Msg) (p : ℕ → Bool) (ps : List (ℕ × Msg)) (s k : ℕ) → s + k ≤ n → is_fitting n ps ≡ true → ((o : ℕ) → p o ≡ true → puts_on o ps ≡ false)
    → is_fitting n (send_all m (filter p (range_with_len s k)) ++ ps) ≡ true
all_fit n m p ps s zero h f a = f
all_fit n m p ps s (suc k) h f a = by_bool (p s) refl (all_fit n m p ps (s + 1) k (omega arith) f a)
  where
    rest : List (ℕ × Msg)
    rest = send_all m (filter p (range_with_len (s + 1) k)) ++ ps

    by_bool : (b : Bool) → p s ≡ b → is_fitting n (send_all m (filter p (range_with_len (s + 1) k)) ++ ps) ≡ true
        → is_fitting n (send_all m (cond b (s ∷ filter p (range_with_len (s + 1) k)) (filter p (range_with_len (s + 1) k))) ++ ps) ≡ true
    by_bool false e r = r
    by_bool true e r = let t : nat_lt s n ≡ true = lt-ltb s n (omega arith) in
        let q : puts_on s (send_all m (filter p (range_with_len (s + 1) k)) ++ ps) ≡ false = on_append s (send_all m (filter p (range_with_len (s + 1) k))) ps (low_absent m p s (s + 1) k (omega arith)) (a s e) in
        ap (λ b. b && (not (puts_on s (send_all m (filter p (range_with_len (s + 1) k)) ++ ps)) && is_fitting n (send_all m (filter p (range_with_len (s + 1) k)) ++ ps))) t
        ∙ ap (λ b. not b && is_fitting n (send_all m (filter p (range_with_len (s + 1) k)) ++ ps)) q ∙ r

-- puts on a way, before puts that don't go on its links
way_first : (w : Wires) (a : Way) (m : Msg) (ps : List (ℕ × Msg)) → is_fitting (length w.exits) ps ≡ true → ((o : ℕ) → is_out a w.exits o ≡ true → puts_on o ps ≡ false)
    → is_fitting (length w.exits) (send w a m ++ ps) ≡ true
way_first w a m ps f h = all_fit (length w.exits) m (is_out a w.exits) ps 0 (length w.exits) (omega arith) f h

pub one_fits : (w : Wires) (a : Way) (m : Msg) → is_fitting (length w.exits) (send w a m) ≡ true
one_fits w a m = subst (λ ps. is_fitting (length w.exits) ps ≡ true) (append-nil (send w a m)) (way_first w a m [] refl (λ o t. refl))

way_absent : (w : Wires) (a b : Way) (m : Msg) → same_sort (sort_of a) (sort_of b) ≡ false → (o : ℕ) → is_out a w.exits o ≡ true → puts_on o (send w b m) ≡ false
way_absent w a b m q o t = other_absent m (is_out b w.exits) o (below (length w.exits)) (ways_apart a b q (get_or w.exits o no_exit) t)

two_fit : (w : Wires) (a b : Way) (m n : Msg) → same_sort (sort_of a) (sort_of b) ≡ false → is_fitting (length w.exits) (send w a m ++ send w b n) ≡ true
two_fit w a b m n q = way_first w a m (send w b n) (one_fits w b n) (way_absent w a b n q)

-- alone and with a notice
pub record IsFit (w : Wires) (ps : List (ℕ × Msg)) : Type 0 where
  pub alone : is_fitting (length w.exits) ps ≡ true
  pub noticed : is_fitting (length w.exits) (ps ++ send w (All sort.Notice) Notice) ≡ true

none_fit : (w : Wires) → IsFit w []
none_fit w = record { alone = refl; noticed = one_fits w (All sort.Notice) Notice }

way_fits : (w : Wires) (a : Way) (m : Msg) → same_sort (sort_of a) sort.Notice ≡ false → IsFit w (send w a m)
way_fits w a m q = record { alone = one_fits w a m; noticed = two_fit w a (All sort.Notice) m Notice q }

routed_fit : (w : Wires) (p : Packet) (r : Registers) → IsFit w (routed w p r).puts
routed_fit w p r = by_hops (p.hops == 0) (by_port (port_to w p.dst))
  where
    by_port : (o : Option ℕ) → IsFit w (onward w p r o).puts
    by_port None = none_fit w
    by_port (Some port) = way_fits w (Toward w.device port) (data_frame w r (record p { hops = p.hops - 1 })) refl

    by_hops : (b : Bool) → IsFit w (onward w p r (port_to w p.dst)).puts
        → IsFit w (if b then record { state = record r { expired = more r.expired 1 }; puts = [] } else onward w p r (port_to w p.dst)).puts
    by_hops true h = none_fit w
    by_hops false h = h

passed_fit : (w : Wires) (p : Packet) (r : Registers) → IsFit w (passed w p r).puts
passed_fit w p r =
    let packets = send w (All sort.Cable) (data_frame w r p) in
    let frames = send w (All sort.ToHost) (framed 1 plain_header p) in
    let notes = send w (All sort.Notice) Notice in record {
      alone = two_fit w (All sort.Cable) (All sort.ToHost) (data_frame w r p) (framed 1 plain_header p) refl;
      noticed = subst (λ ps. is_fitting (length w.exits) ps ≡ true) (sym (append_assoc packets frames notes))
          (way_first w (All sort.Cable) (data_frame w r p) (frames ++ notes) (two_fit w (All sort.ToHost) (All sort.Notice) (framed 1 plain_header p) Notice refl)
          (λ o t. on_append o frames notes (way_absent w (All sort.Cable) (All sort.ToHost) (framed 1 plain_header p) refl o t) (way_absent w (All sort.Cable) (All sort.Notice) Notice refl o t)));
    }

probed_fit : (w : Wires) (own : Bool) (r : Registers) → IsFit w (probed w own r).puts
probed_fit w true r = way_fits w (All sort.Cable) (probe_frame w r) refl
probed_fit w false r = none_fit w

stamped_fits : (s : UnitState) (x : RelativeStamp) (a : After Registers Msg) → IsFit s.wires a.puts → is_fitting (length s.wires.exits) (stamped s x a).puts ≡ true
stamped_fits s x a h = by_bools (is_near s.window x) (x.ahead == 0)
  where
    puts_by : Bool → Bool → After UnitState Msg
    puts_by near same = if near then record { state = record s { registers = a.state }; puts = a.puts ++ (if same then [] else send s.wires (All sort.Notice) Notice) } else record { state = s; puts = [] }

    by_bools : (near same : Bool) → is_fitting (length s.wires.exits) (puts_by near same).puts ≡ true
    by_bools false same = refl
    by_bools true true = subst (λ ps. is_fitting (length s.wires.exits) ps ≡ true) (sym (append-nil a.puts)) h.alone
    by_bools true false = h.noticed

-- What a unit puts, by what it takes.

host_fits : (s : UnitState) (o : Option (List ℕ)) → is_fitting (length s.wires.exits) (of_host s o).puts ≡ true
host_fits s None = refl
host_fits s (Some bytes) = by_packet (plain_packet s.wires.bits bytes)
  where
    by_packet : (o : Option Packet) → is_fitting (length s.wires.exits) (from_host s o).puts ≡ true
    by_packet None = refl
    by_packet (Some p) = (routed_fit s.wires p (counted p.len s.registers)).alone

frame_fits : (s : UnitState) (taken : Kind → Wid → Packet → After UnitState Msg) (o : Option (Header × Packet))
    → ((k : Kind) (stamp : Wid) (p : Packet) → is_fitting (length s.wires.exits) (taken k stamp p).puts ≡ true) → is_fitting (length s.wires.exits) (of_frame s taken o).puts ≡ true
frame_fits s taken None h = refl
frame_fits s taken (Some f) h = h f.0.kind f.0.id f.1

cable_fits : (i : ℕ) (s : UnitState) (k : Kind) (stamp : Wid) (p : Packet) → is_fitting (length s.wires.exits) (by_cable i s k stamp p).puts ≡ true
cable_fits i s Carried stamp p = let x = read s (Upstream i) stamp in let r = after_data s.credits i x p s.registers in stamped_fits s x (routed s.wires p r) (routed_fit s.wires p r)
cable_fits i s Probe stamp p = let x = read s (Upstream i) stamp in stamped_fits s x (absorbed (after_stamp (Upstream i) x s.registers)) (none_fit s.wires)
cable_fits i s Plain stamp p = refl
cable_fits i s InitKind stamp p = refl

crossbar_fits : (i : ℕ) (own : Bool) (s : UnitState) (k : Kind) (stamp : Wid) (p : Packet) → is_fitting (length s.wires.exits) (by_crossbar i own s k stamp p).puts ≡ true
crossbar_fits i own s Carried stamp p = let x = read s (Upstream i) stamp in let r = after_data s.credits i x p s.registers in stamped_fits s x (passed s.wires p r) (passed_fit s.wires p r)
crossbar_fits i own s Probe stamp p = let x = read s (Upstream i) stamp in let r = after_stamp (Upstream i) x s.registers in stamped_fits s x (probed s.wires own r) (probed_fit s.wires own r)
crossbar_fits i own s Plain stamp p = refl
crossbar_fits i own s InitKind stamp p = refl

init_fits : (s : UnitState) (k : Kind) (stamp : Wid) (p : Packet) → is_fitting (length s.wires.exits) (by_init s k stamp p).puts ≡ true
init_fits s InitKind stamp p = let x = read s Cpu stamp in let r = after_stamp Cpu x s.registers in stamped_fits s x (initiated s.wires r) (way_fits s.wires (All sort.Crossbar) (probe_frame s.wires r) refl)
init_fits s Plain stamp p = refl
init_fits s Carried stamp p = refl
init_fits s Probe stamp p = refl

pub take_fits : (e : Entrance) (s : UnitState) (m : Msg) → is_fitting (length s.wires.exits) (take_at e s m).puts ≡ true
take_fits Host s m = host_fits s (bytes_on m)
take_fits (Cable i) s m = frame_fits s (by_cable i s) (frame_on s.wires.bits m) (cable_fits i s)
take_fits (Crossbar i own) s m = frame_fits s (by_crossbar i own s) (frame_on s.wires.bits m) (crossbar_fits i own s)
take_fits Init s m = frame_fits s (by_init s) (frame_on s.wires.bits m) (init_fits s)
take_fits Poll s (PollMsg _) = one_fits s.wires (All sort.Dump) (Dump (dump_of s.registers))
take_fits Poll s _ = refl
take_fits Other s m = refl
