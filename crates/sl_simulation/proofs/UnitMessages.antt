-- A unit's machine takes a message, of each kind, as the unit's history says.
--     Ends ..     the state after a message stands for the history after the step, and the puts for its puts
use Rattle.std.proofs.Common.{◌≡◌, ℕ, ◌+◌, ◌-◌, ◌^◌, ◌<◌, ◌≤◌, List, [], ◌++◌, length, refl, sym, ap, subst, ◌∙◌, Option, Some, None, arith, inl, inr, zero-add, suc, ◌∷◌}
use Rattle.std.specs.Prelude.{◌⊎◌, true, false, Bool, ◌&&◌, not, ◌==◌, if◌then◌else◌, map, is_none, slice_get, option_and_then, unwrap_or, option_map}
use Rattle.std.proofs.lemmas.Bool.{cases_lt, eq-eqb, ne_eqb, lt-ltb}
use Rattle.std.proofs.lemmas.List.{length-map}
use Rattle.std.proofs.lemmas.Option.{slice_get-get_or, slice_get_past}
use Rattle.std.proofs.lemmas.List.FromFn.{get_or-map-range_with_len, length-range_with_len}
use Rattle.sl_machine.specs.Machine.{After}
use Rattle.sl_layout.specs.declared.actor.Side.{Side}
use Rattle.sl_layout.specs.declared.actor.Side.TheVariants.{Ingress, Egress}
use Rattle.sl_layout.specs.declared.actor.Sort.TheVariants.{Notice as NoticeSort, ToHost, Cable as CableSort, Crossbar as CrossbarSort, Init as InitSort, Dump as DumpSort}
use Rattle.sl_layout.specs.declared.actor.ActorId.TheVariants.{Unit as OfUnit}
use Rattle.sl_layout.specs.declared.actor.UnitId.{UnitId}
use Rattle.sl_net.specs.declared.input.Packet.{Packet}
use Rattle.sl_net.specs.declared.input.Snapshot.{Snapshot}
use Rattle.sl_parts.specs.Parts.{Parts, below}
use Rattle.sl_layout.specs.Net.{Net, actor_of, links_out, data_channels, choices_of, place_in}
use Rattle.sl_route.specs.Least.{least}
use Rattle.sl_route.specs.Route.{next_port, least_walks, first_port}
use Rattle.sl_saves.specs.declared.entry.View.{View}
use Rattle.sl_wire.specs.declared.message.Msg.{Msg}
use Rattle.sl_wire.specs.declared.message.Msg.TheVariants as wire
use Rattle.sl_wire.specs.Sizes.{Sizes, sizes_of}
use Rattle.sl_wire.specs.Frames.{carried_header, probe_header, plain_header, no_packet}
use Rattle.sl_wire.specs.Carried.{framed}
use Rattle.sl_ids.specs.Wids.{wid}
use Rattle.sl_unit.specs.declared.registers.RelativeStamp.{RelativeStamp}
use Rattle.sl_unit.specs.Wires.{Wires, port_to}
use Rattle.sl_unit.specs.Registers.{Registers, more, is_near, dump_of, after_stamp, after_data, counted as counted_by}
use Rattle.sl_layout.specs.Devices.{device_of}
use Rattle.sl_unit.specs.Made.{port_of, entrances_of, exits_of, ports_of, version_of}
use Rattle.sl_unit.specs.declared.wires.Way.TheVariants.{All}
use Rattle.sl_unit.specs.Step.{UnitState, onward, routed, stamped, notices, ignored, send, data_frame, probe_frame, plain_packet, from_host, cable_data, cable_probe, crossbar_data, crossbar_probe, initiation, dumped, passed, probed, initiated, absorbed}
use Rattle.sl_model.specs.declared.message.Message.TheVariants.{Data, Notice as NoticeMsg, Host as HostMsg, Probe as ProbeMsg, Init as InitMsg, Poll as PollMsg, Dump as DumpMsg}
use Rattle.sl_model.specs.declared.message.Put.{Put}
use Rattle.sl_model.specs.History.{History, id, stamp_of, last, first}
use Rattle.sl_model.specs.Puts.{send_all, route, notice_puts, onward as puts_onward, route_frame}
use Rattle.sl_simulation.specs.Messages.{AreSent, version_from, IsDumpOf}
use Rattle.sl_simulation.specs.UnitImage.{IsUnitOf, new_state, Keeps, dropped}
use Rattle.sl_parts.specs.Lists.{Member}
use Rattle.sl_unit.specs.declared.registers.Channel.TheVariants.{Cpu, Upstream}
use Rattle.sl_model.specs.declared.message.Message.{Message}
use Rattle.sl_model.specs.declared.message.Step.{Step}
use Rattle.sl_model.specs.Words.{tally}
use Rattle.sl_model.specs.World.{taking}
use Rattle.sl_model.specs.Counting.{packets, bytes, bad, expired, noroute, counted, is_bad, is_expired, is_noroute}
use Rattle.sl_model.specs.Frame.{packet_of, plain_frame}
use Rattle.sl_model.specs.Calls.{calls}
use Rattle.sl_model.specs.UnitWindow.{IsTakeable}
use Rattle.sl_simulation.proofs.UnitRegisters.{regs, Moves, HasChannels, HasRoom, IsRead, has-registers, data-moves, probe-moves, init-moves, quiet-moves}
use Rattle.sl_simulation.proofs.UnitFrames.{Links, sent-append, sent-nil, sort-sent, toward-sent, sent-unless, carried-plain, plain-is, reading, near-is, sent-if}

-- Links.

abbrev pub ports_by : Net → ℕ → Side → List (Option ℕ)
ports_by net d Ingress = ports_of net d
ports_by net d Egress = []

-- the links of a unit of the device d
abbrev pub wires_at : Net → ℕ → ℕ → Side → Snapshot → Wires
wires_at net u d side n =
    record { device = d; port = port_of (actor_of net u); entrances = entrances_of net u; exits = exits_of net u; ports = ports_by net d side; bits = n.width; version = version_of net.parts.cables n.version (actor_of net u); actions = 0 }

pub wires-are : (net : Net) (u : ℕ) (i : UnitId) (n : Snapshot) → actor_of net u ≡ OfUnit i → (new_state net u n i.side).wires ≡ wires_at net u i.device i.side n
wires-are net u i n q = by_side i.side
  where
    by_side : (side : Side) → (new_state net u n side).wires ≡ wires_at net u i.device side n
    by_side Ingress = λ j. record { device = device_of (q j); port = port_of (actor_of net u); entrances = entrances_of net u; exits = exits_of net u; ports = ports_of net (device_of (q j)); bits = n.width; version = version_of net.parts.cables n.version (actor_of net u); actions = 0 }
    by_side Egress = λ j. record { device = device_of (q j); port = port_of (actor_of net u); entrances = entrances_of net u; exits = exits_of net u; ports = []; bits = n.width; version = version_of net.parts.cables n.version (actor_of net u); actions = 0 }

-- a host past the last has no port
no-port : (parts : Parts) (d host : ℕ) → length parts.hosts ≤ host → next_port parts d host ≡ None
unfolding next_port
no-port parts d host p = ap (option_and_then (λ at. least (map (first_port at.port) (least_walks parts d at.device)))) (slice_get_past (map (λ h. h.at) parts.hosts) host (omega (arith, p, length-map parts.hosts (λ h. h.at))))

pub port-is : (net : Net) (u d host : ℕ) (n : Snapshot) → port_to (wires_at net u d Ingress n) host ≡ next_port net.parts d host
port-is net u d host n = by_cases (cases_lt host (length net.parts.hosts))
  where
    long : length (map (next_port net.parts d) (below (length net.parts.hosts))) ≡ length net.parts.hosts
    long = length-map (below (length net.parts.hosts)) (next_port net.parts d) ∙ length-range_with_len 0 (length net.parts.hosts)

    by_cases : (host < length net.parts.hosts) ⊎ (length net.parts.hosts ≤ host) → option_and_then (λ port. port) (slice_get (map (next_port net.parts d) (below (length net.parts.hosts))) host) ≡ next_port net.parts d host
    by_cases (inl p) = ap (option_and_then (λ port. port)) (slice_get-get_or (map (next_port net.parts d) (below (length net.parts.hosts))) host None (omega (arith, p, long)))
        ∙ get_or-map-range_with_len (next_port net.parts d) 0 (length net.parts.hosts) host _ None p (zero-add host)
    by_cases (inr p) = ap (option_and_then (λ port. port)) (slice_get_past (map (next_port net.parts d) (below (length net.parts.hosts))) host (omega (arith, p, long))) ∙ sym (no-port net.parts d host p)

-- A packet's further way at an ingress unit, after the history h.

abbrev pub one_if : Bool → ℕ
one_if b = if b then 1 else 0

pub record Routes (net : Net) (sizes : Sizes) (us : ℕ → History) (told : ℕ → ℕ) (u d : ℕ) (h : History) (b e n : ℕ) (saved : View) (p : Packet) (a : After Registers Msg) : Type 0 where
  pub state : a.state ≡ regs net sizes.bits u h b (one_if (p.hops == 0) + e) (one_if (not (p.hops == 0) && is_none (next_port net.parts d p.dst)) + n) saved
  pub sent : AreSent net sizes us u told (route net u d (id h) p) a.puts

pub routes : Links → (net : Net) (us : ℕ → History) (told : ℕ → ℕ) (u d : ℕ) (h : History) (b e n : ℕ) (saved : View) (p : Packet) (t : Snapshot) → e + 1 < 2 ^ 64 → n + 1 < 2 ^ 64
    → Routes net (sizes_of t) us told u d h b e n saved p (routed (wires_at net u d Ingress t) p (regs net t.width u h b e n saved))
routes links net us told u d h b e n saved p t room more_room = of_port (by_hops (p.hops == 0) (next_port net.parts d p.dst))
  where
    by_hops : (z : Bool) (o : Option ℕ)
        → ((if z then record { state = record (regs net t.width u h b e n saved) { expired = more e 1 }; puts = [] } else onward (wires_at net u d Ingress t) p (regs net t.width u h b e n saved) o).state
        ≡ regs net t.width u h b (one_if z + e) (one_if (not z && is_none o) + n) saved)
        × AreSent net (sizes_of t) us u told (if z then [] else puts_onward net u d (id h) (record p { hops = p.hops - 1 }) o)
        (if z then record { state = record (regs net t.width u h b e n saved) { expired = more e 1 }; puts = [] } else onward (wires_at net u d Ingress t) p (regs net t.width u h b e n saved) o).puts
    by_hops true o = let x : more e 1 ≡ 1 + e = omega (arith, room) in let y : n ≡ 0 + n = omega arith in (λ j. regs net t.width u h b (x j) (y j) saved, tt)
    by_hops false None = let x : e ≡ 0 + e = omega arith in let y : more n 1 ≡ 1 + n = omega (arith, more_room) in (λ j. regs net t.width u h b (x j) (y j) saved, tt)
    by_hops false (Some port) = let x : e ≡ 0 + e = omega arith in let y : n ≡ 0 + n = omega arith in (
      λ j. regs net t.width u h b (x j) (y j) saved,
      toward-sent links net (sizes_of t) us u told (Data (id h) (record p { hops = p.hops - 1 })) (framed (version_from net (sizes_of t) u) (carried_header (wid t.width (id h)) (port_of (actor_of net u))) (record p { hops = p.hops - 1 })) d port (wires_at net u d Ingress t) refl refl,
    )

    of_port : ((if p.hops == 0 then record { state = record (regs net t.width u h b e n saved) { expired = more e 1 }; puts = [] } else onward (wires_at net u d Ingress t) p (regs net t.width u h b e n saved) (next_port net.parts d p.dst)).state
        ≡ regs net t.width u h b (one_if (p.hops == 0) + e) (one_if (not (p.hops == 0) && is_none (next_port net.parts d p.dst)) + n) saved)
        × AreSent net (sizes_of t) us u told (if p.hops == 0 then [] else puts_onward net u d (id h) (record p { hops = p.hops - 1 }) (next_port net.parts d p.dst))
        (if p.hops == 0 then record { state = record (regs net t.width u h b e n saved) { expired = more e 1 }; puts = [] } else onward (wires_at net u d Ingress t) p (regs net t.width u h b e n saved) (next_port net.parts d p.dst)).puts
        → Routes net (sizes_of t) us told u d h b e n saved p (routed (wires_at net u d Ingress t) p (regs net t.width u h b e n saved))
    of_port x = let q = port-is net u d p.dst t in record {
      state = ap (λ o. (if p.hops == 0 then record { state = record (regs net t.width u h b e n saved) { expired = more e 1 }; puts = [] } else onward (wires_at net u d Ingress t) p (regs net t.width u h b e n saved) o).state) q ∙ x.0;
      sent = subst (λ o. AreSent net (sizes_of t) us u told (route net u d (id h) p) (if p.hops == 0 then record { state = record (regs net t.width u h b e n saved) { expired = more e 1 }; puts = [] } else onward (wires_at net u d Ingress t) p (regs net t.width u h b e n saved) o).puts) (sym q) x.1;
    }

-- A stamp.

pub record Ends (net : Net) (table : Snapshot) (u : ℕ) (i : UnitId) (us : ℕ → History) (told : ℕ → ℕ) (h : History) (ps : List Put) (after : After UnitState Msg) : Type 0 where
  pub stands : IsUnitOf net table u i h after.state
  pub sent : AreSent net (sizes_of table) us u told ps after.puts

-- its notice
pub noticed : Links → (net : Net) (sizes : Sizes) (us : ℕ → History) (told : ℕ → ℕ) (u before k : ℕ) (s : UnitState) (x : RelativeStamp) → s.wires.exits ≡ exits_of net u → before ≤ k → x.ahead ≡ k - before
    → AreSent net sizes us u told (notice_puts net u before (Some k)) (notices s x)
noticed links net sizes us told u before k s x e low q = subst (λ t. AreSent net sizes us u told (notice_puts net u before (Some k)) (if t then [] else send s.wires (All NoticeSort) wire.Notice)) (same (cases_lt before k))
    (sent-unless net sizes us u told (before == k) (send_all NoticeMsg (links_out net u NoticeSort)) (send s.wires (All NoticeSort) wire.Notice) (sort-sent links net sizes us u told NoticeMsg wire.Notice NoticeSort s.wires e refl))
  where
    same : (before < k) ⊎ (k ≤ before) → (before == k) ≡ (x.ahead == 0)
    same (inl p) = ne_eqb before k (λ z. omega (arith, z, p)) ∙ sym (ne_eqb x.ahead 0 (λ z. omega (arith, z, q, p)))
    same (inr p) = eq-eqb before k (omega (arith, low, p)) ∙ sym (eq-eqb x.ahead 0 (omega (arith, q, p)))

-- a is what the machine makes of the stamp, ps the puts without the notice
pub stamped-ends : Links → (net : Net) (table : Snapshot) (u : ℕ) (i : UnitId) (us : ℕ → History) (told : ℕ → ℕ) (h : History) (ps : List Put) (before k : ℕ) (s : UnitState) (x : RelativeStamp) (a : After Registers Msg)
    → s.wires.exits ≡ exits_of net u → before ≤ k → x.ahead ≡ k - before → is_near s.window x ≡ true
    → IsUnitOf net table u i h (record s { registers = a.state }) → AreSent net (sizes_of table) us u told ps a.puts
    → Ends net table u i us told h (ps ++ (notice_puts net u before (Some k) ++ [])) (stamped s x a)
stamped-ends links net table u i us told h ps before k s x a e low q near stands sent =
    subst (λ t. Ends net table u i us told h (ps ++ (notice_puts net u before (Some k) ++ [])) (if t then record { state = record s { registers = a.state }; puts = a.puts ++ notices s x } else ignored s)) (sym near)
    (record {
      stands = stands;
      sent = sent-append net (sizes_of table) us u told ps (notice_puts net u before (Some k) ++ []) a.puts (notices s x) sent
          (sent-nil net (sizes_of table) us u told (notice_puts net u before (Some k)) (notices s x) (noticed links net (sizes_of table) us told u before k s x e low q));
    })

-- what is given of a turn by the choice c that takes m, after the history h
pub record IsGiven (net : Net) (table : Snapshot) (u d p : ℕ) (side : Side) (c : ℕ) (h : History) (saved : View) (m : Message) : Type 0 where
  pub actor : actor_of net u ≡ OfUnit (record { device = d; port = p; side = side })
  pub chans : HasChannels net u
  pub keeps : Keeps (sizes_of table) saved (calls (data_channels net u) h)
  pub room : HasRoom h m
  pub few : length h + 1 < 2 ^ 64
  pub near : (k : ℕ) → stamp_of m ≡ Some k → IsTakeable table.window c h k
  pub holds : table.window ≤ table.ring
  pub links : Links

abbrev pub unit_at : ℕ → ℕ → Side → UnitId
unit_at d p side = record { device = d; port = p; side = side }

-- the registers and the state that stand for h, with these saved entries
abbrev pub regs_at : Net → ℕ → ℕ → ℕ → Side → History → View → Registers
regs_at net bits u d side h saved = regs net bits u h (dropped side (bad h)) (dropped side (expired h)) (dropped side (noroute net.parts d h)) saved

abbrev pub state_at : Net → Snapshot → ℕ → ℕ → Side → History → View → UnitState
state_at net table u d side h saved = record { wires = wires_at net u d side table; window = table.window; credits = table.credits; registers = regs_at net table.width u d side h saved }

-- how the unit reads the stamp k of the choice c
abbrev pub reading_at : Snapshot → ℕ → ℕ → History → RelativeStamp
reading_at table c k h = reading table.width (last c h) (id h) k

-- an adoption is by no more than a ring has slots
is-read : (table : Snapshot) (c k : ℕ) (h : History) → IsTakeable table.window c h k → table.window ≤ table.ring → IsRead (sizes_of table) c k h
is-read table c k h t holds = let a = t.above in let b = t.below in record { low = t.order; behind = t.behind; near = omega (arith, a, holds); back = omega (arith, b, holds) }

tally-le : (t : Step → Bool) (h : History) → tally t h ≤ length h
tally-le t [] = omega arith
tally-le t (s ∷ h) = by_bool (t s) (tally-le t h)
  where
    by_bool : (b : Bool) → tally t h ≤ length h → (if b then 1 else 0) + tally t h ≤ suc (length h)
    by_bool true k = omega (arith, k)
    by_bool false k = omega (arith, k)

stands : (net : Net) (table : Snapshot) (u d p : ℕ) (side : Side) (h : History) (b e n : ℕ) (r : Registers) → actor_of net u ≡ OfUnit (unit_at d p side) → Moves net (sizes_of table) u h b e n r
    → b ≡ dropped side (bad h) → e ≡ dropped side (expired h) → n ≡ dropped side (noroute net.parts d h)
    → IsUnitOf net table u (unit_at d p side) h (record { wires = wires_at net u d side table; window = table.window; credits = table.credits; registers = r })
stands net table u d p side h b e n r q m x y z = record { wires = sym (wires-are net u (unit_at d p side) table q); window = refl; credits = refl; registers = has-registers net (sizes_of table) u (unit_at d p side) h b e n r m x y z }

-- the place of a data channel
abbrev pub place : Net → ℕ → ℕ → ℕ
place net u c = place_in 0 c (data_channels net u)

-- Data packets and probes of the cable.

pub cable-data : (net : Net) (table : Snapshot) (u d p : ℕ) (us : ℕ → History) (told : ℕ → ℕ) (c k : ℕ) (q : Packet) (ps : List Put) (h : History) (saved : View)
    → IsGiven net table u d p Ingress c h saved (Data k q) → Member c (data_channels net u) → (Member c (choices_of net u InitSort) → ⊥)
    → Ends net table u (unit_at d p Ingress) us told (taking c (Data k q) ps ∷ h) (route net u d (id (taking c (Data k q) ps ∷ h)) q ++ (notice_puts net u (last c h) (Some k) ++ []))
    (cable_data (state_at net table u d Ingress h saved) (place net u c) q (reading_at table c k h))
cable-data net table u d p us told c k q ps h saved g m out =
    of_moves (data-moves net (sizes_of table) u c k q ps h (bad h) (expired h) (noroute net.parts d h) saved g.chans g.room m out g.keeps (is-read table c k h (g.near k refl) g.holds))
  where
    of_routes : (v : Moves net (sizes_of table) u (taking c (Data k q) ps ∷ h) (bad h) (expired h) (noroute net.parts d h) (after_data table.credits (place net u c) (reading_at table c k h) q (regs_at net table.width u d Ingress h saved)))
        → Routes net (sizes_of table) us told u d (taking c (Data k q) ps ∷ h) (bad h) (expired h) (noroute net.parts d h) v.saved q
        (routed (wires_at net u d Ingress table) q (regs net table.width u (taking c (Data k q) ps ∷ h) (bad h) (expired h) (noroute net.parts d h) v.saved))
        → Ends net table u (unit_at d p Ingress) us told (taking c (Data k q) ps ∷ h) (route net u d (id (taking c (Data k q) ps ∷ h)) q ++ (notice_puts net u (last c h) (Some k) ++ []))
        (cable_data (state_at net table u d Ingress h saved) (place net u c) q (reading_at table c k h))
    of_routes v r = let e = ap (routed (wires_at net u d Ingress table) q) v.is in let t = g.near k refl in let z : bad h ≡ 0 + bad h = omega arith in
        stamped-ends g.links net table u (unit_at d p Ingress) us told (taking c (Data k q) ps ∷ h) (route net u d (id (taking c (Data k q) ps ∷ h)) q) (last c h) k (state_at net table u d Ingress h saved) (reading_at table c k h)
        (routed (wires_at net u d Ingress table) q (after_data table.credits (place net u c) (reading_at table c k h) q (regs_at net table.width u d Ingress h saved)))
        refl t.order refl (near-is table.width table.window c k h t)
        (stands net table u d p Ingress (taking c (Data k q) ps ∷ h) (bad h) (one_if (q.hops == 0) + expired h) (one_if (not (q.hops == 0) && is_none (next_port net.parts d q.dst)) + noroute net.parts d h)
        (routed (wires_at net u d Ingress table) q (after_data table.credits (place net u c) (reading_at table c k h) q (regs_at net table.width u d Ingress h saved))).state g.actor
        (record { saved = v.saved; is = ap (λ a. a.state) e ∙ r.state; keeps = v.keeps }) z refl refl)
        (subst (λ a. AreSent net (sizes_of table) us u told (route net u d (id (taking c (Data k q) ps ∷ h)) q) a.puts) (sym e) r.sent)

    of_moves : Moves net (sizes_of table) u (taking c (Data k q) ps ∷ h) (bad h) (expired h) (noroute net.parts d h) (after_data table.credits (place net u c) (reading_at table c k h) q (regs_at net table.width u d Ingress h saved))
        → Ends net table u (unit_at d p Ingress) us told (taking c (Data k q) ps ∷ h) (route net u d (id (taking c (Data k q) ps ∷ h)) q ++ (notice_puts net u (last c h) (Some k) ++ []))
        (cable_data (state_at net table u d Ingress h saved) (place net u c) q (reading_at table c k h))
    of_moves v = of_routes v (routes g.links net us told u d (taking c (Data k q) ps ∷ h) (bad h) (expired h) (noroute net.parts d h) v.saved q table
        (omega (arith, g.few, tally-le (λ s. is_expired (counted s)) h)) (omega (arith, g.few, tally-le (λ s. is_noroute net.parts d (counted s)) h)))

pub cable-probe : (net : Net) (table : Snapshot) (u d p : ℕ) (us : ℕ → History) (told : ℕ → ℕ) (c k : ℕ) (ps : List Put) (h : History) (saved : View)
    → IsGiven net table u d p Ingress c h saved (ProbeMsg k) → Member c (data_channels net u) → (Member c (choices_of net u InitSort) → ⊥)
    → Ends net table u (unit_at d p Ingress) us told (taking c (ProbeMsg k) ps ∷ h) ([] ++ (notice_puts net u (last c h) (Some k) ++ []))
    (cable_probe (state_at net table u d Ingress h saved) (place net u c) (reading_at table c k h))
cable-probe net table u d p us told c k ps h saved g m out =
    of_moves (probe-moves net (sizes_of table) u c k ps h (bad h) (expired h) (noroute net.parts d h) saved g.chans m out g.keeps (is-read table c k h (g.near k refl) g.holds))
  where
    of_moves : Moves net (sizes_of table) u (taking c (ProbeMsg k) ps ∷ h) (bad h) (expired h) (noroute net.parts d h) (after_stamp (Upstream (place net u c)) (reading_at table c k h) (regs_at net table.width u d Ingress h saved))
        → Ends net table u (unit_at d p Ingress) us told (taking c (ProbeMsg k) ps ∷ h) ([] ++ (notice_puts net u (last c h) (Some k) ++ []))
        (cable_probe (state_at net table u d Ingress h saved) (place net u c) (reading_at table c k h))
    of_moves v = let t = g.near k refl in let x : bad h ≡ 0 + bad h = omega arith in let y : expired h ≡ 0 + expired h = omega arith in let z : noroute net.parts d h ≡ 0 + noroute net.parts d h = omega arith in
        stamped-ends g.links net table u (unit_at d p Ingress) us told (taking c (ProbeMsg k) ps ∷ h) [] (last c h) k (state_at net table u d Ingress h saved) (reading_at table c k h)
        (absorbed (after_stamp (Upstream (place net u c)) (reading_at table c k h) (regs_at net table.width u d Ingress h saved)))
        refl t.order refl (near-is table.width table.window c k h t)
        (stands net table u d p Ingress (taking c (ProbeMsg k) ps ∷ h) (bad h) (expired h) (noroute net.parts d h)
        (after_stamp (Upstream (place net u c)) (reading_at table c k h) (regs_at net table.width u d Ingress h saved)) g.actor v x y z) tt

-- Initiations.

pub init-stamp : (net : Net) (table : Snapshot) (u d p : ℕ) (us : ℕ → History) (told : ℕ → ℕ) (c k : ℕ) (ps : List Put) (h : History) (saved : View)
    → IsGiven net table u d p Ingress c h saved (InitMsg k) → Member c (choices_of net u InitSort) → (Member c (data_channels net u) → ⊥)
    → Ends net table u (unit_at d p Ingress) us told (taking c (InitMsg k) ps ∷ h) (send_all (ProbeMsg (id (taking c (InitMsg k) ps ∷ h))) (links_out net u CrossbarSort) ++ (notice_puts net u (last c h) (Some k) ++ []))
    (initiation (state_at net table u d Ingress h saved) (reading_at table c k h))
init-stamp net table u d p us told c k ps h saved g m out =
    of_moves (init-moves net (sizes_of table) u c k ps h (bad h) (expired h) (noroute net.parts d h) saved g.chans m out g.keeps (is-read table c k h (g.near k refl) g.holds))
  where
    of_moves : Moves net (sizes_of table) u (taking c (InitMsg k) ps ∷ h) (bad h) (expired h) (noroute net.parts d h) (after_stamp Cpu (reading_at table c k h) (regs_at net table.width u d Ingress h saved))
        → Ends net table u (unit_at d p Ingress) us told (taking c (InitMsg k) ps ∷ h) (send_all (ProbeMsg (id (taking c (InitMsg k) ps ∷ h))) (links_out net u CrossbarSort) ++ (notice_puts net u (last c h) (Some k) ++ []))
        (initiation (state_at net table u d Ingress h saved) (reading_at table c k h))
    of_moves v = let t = g.near k refl in let x : bad h ≡ 0 + bad h = omega arith in let y : expired h ≡ 0 + expired h = omega arith in let z : noroute net.parts d h ≡ 0 + noroute net.parts d h = omega arith in
        stamped-ends g.links net table u (unit_at d p Ingress) us told (taking c (InitMsg k) ps ∷ h) (send_all (ProbeMsg (id (taking c (InitMsg k) ps ∷ h))) (links_out net u CrossbarSort)) (last c h) k (state_at net table u d Ingress h saved) (reading_at table c k h)
        (initiated (wires_at net u d Ingress table) (after_stamp Cpu (reading_at table c k h) (regs_at net table.width u d Ingress h saved)))
        refl t.order refl (near-is table.width table.window c k h t)
        (stands net table u d p Ingress (taking c (InitMsg k) ps ∷ h) (bad h) (expired h) (noroute net.parts d h)
        (after_stamp Cpu (reading_at table c k h) (regs_at net table.width u d Ingress h saved)) g.actor v x y z)
        (sort-sent g.links net (sizes_of table) us u told (ProbeMsg (id (taking c (InitMsg k) ps ∷ h))) (probe_frame (wires_at net u d Ingress table) (after_stamp Cpu (reading_at table c k h) (regs_at net table.width u d Ingress h saved))) CrossbarSort (wires_at net u d Ingress table) refl
        (ap (λ r. framed (version_from net (sizes_of table) u) (probe_header r.id (port_of (actor_of net u))) no_packet) v.is))

-- Data packets and probes of the crossbar.

pub crossbar-data : (net : Net) (table : Snapshot) (u d p : ℕ) (us : ℕ → History) (told : ℕ → ℕ) (c k : ℕ) (own : Bool) (q : Packet) (ps : List Put) (h : History) (saved : View)
    → IsGiven net table u d p Egress c h saved (Data k q) → Member c (data_channels net u) → (Member c (choices_of net u InitSort) → ⊥)
    → Ends net table u (unit_at d p Egress) us told (taking c (Data k q) ps ∷ h)
    ((send_all (Data (id (taking c (Data k q) ps ∷ h)) q) (links_out net u CableSort) ++ send_all (HostMsg (plain_frame q)) (links_out net u ToHost)) ++ (notice_puts net u (last c h) (Some k) ++ []))
    (crossbar_data (state_at net table u d Egress h saved) (place net u c) q (reading_at table c k h))
crossbar-data net table u d p us told c k own q ps h saved g m out = of_moves (data-moves net (sizes_of table) u c k q ps h 0 0 0 saved g.chans g.room m out g.keeps (is-read table c k h (g.near k refl) g.holds))
  where
    of_moves : Moves net (sizes_of table) u (taking c (Data k q) ps ∷ h) 0 0 0 (after_data table.credits (place net u c) (reading_at table c k h) q (regs_at net table.width u d Egress h saved))
        → Ends net table u (unit_at d p Egress) us told (taking c (Data k q) ps ∷ h)
        ((send_all (Data (id (taking c (Data k q) ps ∷ h)) q) (links_out net u CableSort) ++ send_all (HostMsg (plain_frame q)) (links_out net u ToHost)) ++ (notice_puts net u (last c h) (Some k) ++ []))
        (crossbar_data (state_at net table u d Egress h saved) (place net u c) q (reading_at table c k h))
    of_moves v = let t = g.near k refl in
        stamped-ends g.links net table u (unit_at d p Egress) us told (taking c (Data k q) ps ∷ h) (send_all (Data (id (taking c (Data k q) ps ∷ h)) q) (links_out net u CableSort) ++ send_all (HostMsg (plain_frame q)) (links_out net u ToHost))
        (last c h) k (state_at net table u d Egress h saved) (reading_at table c k h)
        (passed (wires_at net u d Egress table) q (after_data table.credits (place net u c) (reading_at table c k h) q (regs_at net table.width u d Egress h saved)))
        refl t.order refl (near-is table.width table.window c k h t)
        (stands net table u d p Egress (taking c (Data k q) ps ∷ h) 0 0 0 (after_data table.credits (place net u c) (reading_at table c k h) q (regs_at net table.width u d Egress h saved)) g.actor v refl refl refl)
        (sent-append net (sizes_of table) us u told (send_all (Data (id (taking c (Data k q) ps ∷ h)) q) (links_out net u CableSort)) (send_all (HostMsg (plain_frame q)) (links_out net u ToHost))
        (send (wires_at net u d Egress table) (All CableSort) (data_frame (wires_at net u d Egress table) (after_data table.credits (place net u c) (reading_at table c k h) q (regs_at net table.width u d Egress h saved)) q)) (send (wires_at net u d Egress table) (All ToHost) (framed 1 plain_header q))
        (sort-sent g.links net (sizes_of table) us u told (Data (id (taking c (Data k q) ps ∷ h)) q) (data_frame (wires_at net u d Egress table) (after_data table.credits (place net u c) (reading_at table c k h) q (regs_at net table.width u d Egress h saved)) q) CableSort (wires_at net u d Egress table) refl (ap (λ r. framed (version_from net (sizes_of table) u) (carried_header r.id (port_of (actor_of net u))) q) v.is))
        (sort-sent g.links net (sizes_of table) us u told (HostMsg (plain_frame q)) (framed 1 plain_header q) ToHost (wires_at net u d Egress table) refl (carried-plain q)))

pub crossbar-probe : (net : Net) (table : Snapshot) (u d p : ℕ) (us : ℕ → History) (told : ℕ → ℕ) (c k : ℕ) (own : Bool) (ps : List Put) (h : History) (saved : View)
    → IsGiven net table u d p Egress c h saved (ProbeMsg k) → Member c (data_channels net u) → (Member c (choices_of net u InitSort) → ⊥)
    → Ends net table u (unit_at d p Egress) us told (taking c (ProbeMsg k) ps ∷ h)
    ((if own then send_all (ProbeMsg (id (taking c (ProbeMsg k) ps ∷ h))) (links_out net u CableSort) else []) ++ (notice_puts net u (last c h) (Some k) ++ []))
    (crossbar_probe (state_at net table u d Egress h saved) (place net u c) own (reading_at table c k h))
crossbar-probe net table u d p us told c k own ps h saved g m out = of_moves (probe-moves net (sizes_of table) u c k ps h 0 0 0 saved g.chans m out g.keeps (is-read table c k h (g.near k refl) g.holds))
  where
    of_moves : Moves net (sizes_of table) u (taking c (ProbeMsg k) ps ∷ h) 0 0 0 (after_stamp (Upstream (place net u c)) (reading_at table c k h) (regs_at net table.width u d Egress h saved))
        → Ends net table u (unit_at d p Egress) us told (taking c (ProbeMsg k) ps ∷ h)
        ((if own then send_all (ProbeMsg (id (taking c (ProbeMsg k) ps ∷ h))) (links_out net u CableSort) else []) ++ (notice_puts net u (last c h) (Some k) ++ []))
        (crossbar_probe (state_at net table u d Egress h saved) (place net u c) own (reading_at table c k h))
    of_moves v = let t = g.near k refl in
        stamped-ends g.links net table u (unit_at d p Egress) us told (taking c (ProbeMsg k) ps ∷ h) (if own then send_all (ProbeMsg (id (taking c (ProbeMsg k) ps ∷ h))) (links_out net u CableSort) else [])
        (last c h) k (state_at net table u d Egress h saved) (reading_at table c k h)
        (probed (wires_at net u d Egress table) own (after_stamp (Upstream (place net u c)) (reading_at table c k h) (regs_at net table.width u d Egress h saved)))
        refl t.order refl (near-is table.width table.window c k h t)
        (stands net table u d p Egress (taking c (ProbeMsg k) ps ∷ h) 0 0 0 (after_stamp (Upstream (place net u c)) (reading_at table c k h) (regs_at net table.width u d Egress h saved)) g.actor v refl refl refl)
        (sent-if net (sizes_of table) us u told own (send_all (ProbeMsg (id (taking c (ProbeMsg k) ps ∷ h))) (links_out net u CableSort)) (send (wires_at net u d Egress table) (All CableSort) (probe_frame (wires_at net u d Egress table) (after_stamp (Upstream (place net u c)) (reading_at table c k h) (regs_at net table.width u d Egress h saved))))
        (sort-sent g.links net (sizes_of table) us u told (ProbeMsg (id (taking c (ProbeMsg k) ps ∷ h))) (probe_frame (wires_at net u d Egress table) (after_stamp (Upstream (place net u c)) (reading_at table c k h) (regs_at net table.width u d Egress h saved))) CableSort (wires_at net u d Egress table) refl (ap (λ r. framed (version_from net (sizes_of table) u) (probe_header r.id (port_of (actor_of net u))) no_packet) v.is)))

-- Frames of the host.

abbrev one_of : Option Packet → ℕ
one_of o = unwrap_or (option_map (λ q. 1) o) 0

abbrev long_of : Option Packet → ℕ
long_of o = unwrap_or (option_map (λ q. q.len) o) 0

pub host-frame : (net : Net) (table : Snapshot) (u d p : ℕ) (us : ℕ → History) (told : ℕ → ℕ) (c : ℕ) (bs : List ℕ) (ps : List Put) (h : History) (saved : View)
    → IsGiven net table u d p Ingress c h saved (HostMsg bs)
    → Ends net table u (unit_at d p Ingress) us told (taking c (HostMsg bs) ps ∷ h) (route_frame net u d (id (taking c (HostMsg bs) ps ∷ h)) (packet_of bs) ++ [])
    (from_host (state_at net table u d Ingress h saved) (plain_packet table.width bs))
host-frame net table u d p us told c bs ps h saved g = subst (λ o. Ends net table u (unit_at d p Ingress) us told (taking c (HostMsg bs) ps ∷ h) (route_frame net u d (id (taking c (HostMsg bs) ps ∷ h)) (packet_of bs) ++ []) (from_host (state_at net table u d Ingress h saved) o))
    (sym (plain-is table.width bs)) (by_packet (packet_of bs) refl)
  where
    e_room : expired h + 1 < 2 ^ 64
    e_room = omega (arith, g.few, tally-le (λ s. is_expired (counted s)) h)

    n_room : noroute net.parts d h + 1 < 2 ^ 64
    n_room = omega (arith, g.few, tally-le (λ s. is_noroute net.parts d (counted s)) h)

    of_bad : packet_of bs ≡ None → Ends net table u (unit_at d p Ingress) us told (taking c (HostMsg bs) ps ∷ h) [] (from_host (state_at net table u d Ingress h saved) None)
    of_bad e =
        let x : packets h ≡ packets (taking c (HostMsg bs) ps ∷ h) = (let z = ap one_of e in omega (arith, z)) in
        let y : bytes h ≡ bytes (taking c (HostMsg bs) ps ∷ h) = (let z = ap long_of e in omega (arith, z)) in
        let eb : more (bad h) 1 ≡ bad (taking c (HostMsg bs) ps ∷ h) = (let z = ap (λ o. one_if (is_none o)) e in omega (arith, z, g.few, tally-le (λ s. is_bad s.taken) h)) in
        let ee : expired h ≡ expired (taking c (HostMsg bs) ps ∷ h) = (let z = ap (λ o. one_if (is_expired o)) e in omega (arith, z)) in
        let en : noroute net.parts d h ≡ noroute net.parts d (taking c (HostMsg bs) ps ∷ h) = (let z = ap (λ o. one_if (is_noroute net.parts d o)) e in omega (arith, z)) in record {
          stands = stands net table u d p Ingress (taking c (HostMsg bs) ps ∷ h) (more (bad h) 1) (expired h) (noroute net.parts d h) (regs net table.width u h (more (bad h) 1) (expired h) (noroute net.parts d h) saved) g.actor
              (quiet-moves net (sizes_of table) u c (HostMsg bs) ps h (more (bad h) 1) (expired h) (noroute net.parts d h) (packets h) (bytes h) saved refl refl x y g.keeps) eb ee en;
          sent = tt;
        }

    of_routes : (q : Packet) → packet_of bs ≡ Some q
        → (v : Moves net (sizes_of table) u (taking c (HostMsg bs) ps ∷ h) (bad h) (expired h) (noroute net.parts d h) (counted_by q.len (regs_at net table.width u d Ingress h saved)))
        → Routes net (sizes_of table) us told u d (taking c (HostMsg bs) ps ∷ h) (bad h) (expired h) (noroute net.parts d h) v.saved q
        (routed (wires_at net u d Ingress table) q (regs net table.width u (taking c (HostMsg bs) ps ∷ h) (bad h) (expired h) (noroute net.parts d h) v.saved))
        → Ends net table u (unit_at d p Ingress) us told (taking c (HostMsg bs) ps ∷ h) (route net u d (id (taking c (HostMsg bs) ps ∷ h)) q) (from_host (state_at net table u d Ingress h saved) (Some q))
    of_routes q e v r = let f = ap (routed (wires_at net u d Ingress table) q) v.is in
        let eb : bad h ≡ bad (taking c (HostMsg bs) ps ∷ h) = (let z = ap (λ o. one_if (is_none o)) e in omega (arith, z)) in record {
          stands = stands net table u d p Ingress (taking c (HostMsg bs) ps ∷ h) (bad h) (one_if (q.hops == 0) + expired h) (one_if (not (q.hops == 0) && is_none (next_port net.parts d q.dst)) + noroute net.parts d h)
              (routed (wires_at net u d Ingress table) q (counted_by q.len (regs_at net table.width u d Ingress h saved))).state g.actor
              (record { saved = v.saved; is = ap (λ a. a.state) f ∙ r.state; keeps = v.keeps }) eb
              (sym (ap (λ o. one_if (is_expired o) + expired h) e)) (sym (ap (λ o. one_if (is_noroute net.parts d o) + noroute net.parts d h) e));
          sent = subst (λ a. AreSent net (sizes_of table) us u told (route net u d (id (taking c (HostMsg bs) ps ∷ h)) q) a.puts) (sym f) r.sent;
        }

    of_plain : (q : Packet) → packet_of bs ≡ Some q
        → Ends net table u (unit_at d p Ingress) us told (taking c (HostMsg bs) ps ∷ h) (route net u d (id (taking c (HostMsg bs) ps ∷ h)) q) (from_host (state_at net table u d Ingress h saved) (Some q))
    of_plain q e =
        let room = g.room in let rp = room.packets in let rb = room.bytes in
        let x : more (packets h) 1 ≡ packets (taking c (HostMsg bs) ps ∷ h) = (let z = ap one_of e in omega (arith, z, rp)) in
        let y : more (bytes h) q.len ≡ bytes (taking c (HostMsg bs) ps ∷ h) = (let z = ap long_of e in omega (arith, z, rb)) in
        let v = quiet-moves net (sizes_of table) u c (HostMsg bs) ps h (bad h) (expired h) (noroute net.parts d h) (more (packets h) 1) (more (bytes h) q.len) saved refl refl x y g.keeps in
        of_routes q e v (routes g.links net us told u d (taking c (HostMsg bs) ps ∷ h) (bad h) (expired h) (noroute net.parts d h) v.saved q table e_room n_room)

    by_packet : (o : Option Packet) → packet_of bs ≡ o
        → Ends net table u (unit_at d p Ingress) us told (taking c (HostMsg bs) ps ∷ h) (route_frame net u d (id (taking c (HostMsg bs) ps ∷ h)) (packet_of bs) ++ []) (from_host (state_at net table u d Ingress h saved) o)
    by_packet None e = subst (λ o. Ends net table u (unit_at d p Ingress) us told (taking c (HostMsg bs) ps ∷ h) (route_frame net u d (id (taking c (HostMsg bs) ps ∷ h)) o ++ []) (from_host (state_at net table u d Ingress h saved) None)) (sym e) (of_bad e)
    by_packet (Some q) e = let a = of_plain q e in
        subst (λ o. Ends net table u (unit_at d p Ingress) us told (taking c (HostMsg bs) ps ∷ h) (route_frame net u d (id (taking c (HostMsg bs) ps ∷ h)) o ++ []) (from_host (state_at net table u d Ingress h saved) (Some q))) (sym e)
        (record { stands = a.stands; sent = sent-nil net (sizes_of table) us u told (route net u d (id (taking c (HostMsg bs) ps ∷ h)) q) (from_host (state_at net table u d Ingress h saved) (Some q)).puts a.sent })

-- Polls.

-- the dump of registers after a step
dump-is : (net : Net) (sizes : Sizes) (u : ℕ) (h : History) (b e n : ℕ) (r : Registers) → Moves net sizes u h b e n r → IsDumpOf net sizes u h (dump_of r)
dump-is net sizes u h b e n r m = subst (λ r. IsDumpOf net sizes u h (dump_of r)) (sym m.is) (record {
  id = refl;
  cpu = refl;
  last = refl;
  size = m.keeps.size;
  shown = m.keeps.shown;
})

pub poll-dump : (net : Net) (table : Snapshot) (u d p : ℕ) (side : Side) (us : ℕ → History) (told : ℕ → ℕ) (c : ℕ) (ps : List Put) (h : History) (saved : View)
    → IsGiven net table u d p side c h saved PollMsg → us u ≡ taking c PollMsg ps ∷ h
    → Ends net table u (unit_at d p side) us told (taking c PollMsg ps ∷ h) (send_all (DumpMsg (suc (length h))) (links_out net u DumpSort))
    (dumped (state_at net table u d side h saved))
poll-dump net table u d p side us told c ps h saved g now = record {
  stands = stands net table u d p side (taking c PollMsg ps ∷ h) (dropped side (bad h)) (dropped side (expired h)) (dropped side (noroute net.parts d h)) (regs_at net table.width u d side h saved) g.actor moves (same side (bad h)) (same side (expired h)) (same side (noroute net.parts d h));
  sent = sort-sent g.links net (sizes_of table) us u told (DumpMsg (suc (length h))) (wire.Dump (dump_of (regs_at net table.width u d side h saved))) DumpSort (wires_at net u d side table) refl
      (record { dump = dump_of (regs_at net table.width u d side h saved); is = refl; of = subst (λ k. IsDumpOf net (sizes_of table) u k (dump_of (regs_at net table.width u d side h saved))) (sym whole) (dump-is net (sizes_of table) u (taking c PollMsg ps ∷ h) (dropped side (bad h)) (dropped side (expired h)) (dropped side (noroute net.parts d h)) (regs_at net table.width u d side h saved) moves) });
}
  where
    same : (side : Side) (n : ℕ) → dropped side n ≡ dropped side (0 + n)
    same Ingress n = omega arith
    same Egress n = refl

    moves : Moves net (sizes_of table) u (taking c PollMsg ps ∷ h) (dropped side (bad h)) (dropped side (expired h)) (dropped side (noroute net.parts d h)) (regs_at net table.width u d side h saved)
    moves = let x : packets h ≡ packets h + 0 = omega arith in let y : bytes h ≡ bytes h + 0 = omega arith in
        quiet-moves net (sizes_of table) u c PollMsg ps h (dropped side (bad h)) (dropped side (expired h)) (dropped side (noroute net.parts d h)) (packets h) (bytes h) saved refl refl x y g.keeps

    whole : first (suc (length h)) (us u) ≡ taking c PollMsg ps ∷ h
    whole = ap (first (suc (length h))) now ∙ ap (λ t. if t then taking c PollMsg ps ∷ h else first (suc (length h)) h) (lt-ltb (length h) (suc (length h)) (omega arith))
