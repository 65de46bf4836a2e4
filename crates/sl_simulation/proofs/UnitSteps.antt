-- A unit's turn by its machine: from any state that stands for a history, and in a world, beside its first state and the turns of others.
use Rattle.std.proofs.Common.{◌≡◌, ℕ, ◌<◌, List, ◌∷◌, refl, sym, ap, subst, ◌∙◌, Some, inl, inr, zero, suc, ◌-◌, ◌*◌, ◌^◌, ◌≤◌, [], ◌++◌, length, arith}
use Rattle.std.specs.Prelude.{◌⊎◌, true, Bool, slice_get, take, replicate, map, unwrap_or, option_map, option_and_then}
use Rattle.std.proofs.lemmas.Option.{get_or_from_slice_get, slice_get_within}
use Rattle.std.proofs.lemmas.List.{length-replicate}
use Rattle.std.proofs.Math.Nat.{mod-le}
use Rattle.sl_layout.specs.declared.actor.Side.{Side}
use Rattle.sl_layout.specs.declared.actor.Side.TheVariants.{Ingress, Egress}
use Rattle.sl_layout.specs.declared.actor.Sort.{Sort}
use Rattle.sl_layout.specs.declared.actor.Sort.TheVariants.{FromHost, Cable, Crossbar, Init, Poll}
use Rattle.sl_layout.specs.declared.actor.ActorId.TheVariants.{Unit as OfUnit}
use Rattle.sl_net.specs.declared.input.Snapshot.{Snapshot}
use Rattle.sl_layout.specs.Net.{Net, actor_of, link_of, links_into, data_channels, choices_of, action_choice}
use Rattle.sl_net.specs.Wired.{unit_receives, IsWired, receives}
use Rattle.sl_parts.specs.Lists.{Member}
use Rattle.sl_parts.proofs.Lists.{each-at}
use Rattle.sl_net.specs.Ways.{IsChoice, HasWays}
use Rattle.sl_saves.specs.declared.entry.View.{View}
use Rattle.sl_wire.specs.declared.message.Msg.{Msg}
use Rattle.sl_wire.specs.Sizes.{sizes_of}
use Rattle.sl_ids.specs.Ids.{modulus}
use Rattle.sl_ids.specs.Wids.{wid}
use Rattle.sl_machine.specs.Machine.{After}
use Rattle.sl_net.specs.declared.input.Packet.{Packet}
use Rattle.sl_wire.specs.Frames.{carried_header, probe_header, init_header, no_packet}
use Rattle.sl_wire.specs.Carried.{carrying, framed}
use Rattle.sl_unit.specs.declared.wires.Entrance.TheVariants as from
use Rattle.sl_unit.specs.declared.registers.Channel.TheVariants.{Cpu, Upstream}
use Rattle.sl_unit.specs.Wires.{entrance_at}
use Rattle.sl_unit.specs.Made.{entrance, is_own, port_of, IsRanged}
use Rattle.sl_unit.specs.Step.{UnitState, read, of_host, from_host, plain_packet, of_frame, by_cable, by_crossbar, by_init, cable_data, cable_probe, crossbar_data, crossbar_probe, initiation, take_at, unit_take}
use Rattle.sl_model.specs.declared.message.Message.{Message}
use Rattle.sl_model.specs.declared.message.Message.TheVariants.{Host as HostMsg, Data, Probe as ProbeMsg, Init as InitMsg, Poll as PollMsg}
use Rattle.sl_model.specs.History.{History, World, Losses, history, stamp_of, stamp_taken, id, last}
use Rattle.sl_model.specs.Puts.{unit_puts, is_own_port, puts_of, action}
use Rattle.sl_model.specs.World.{taking, Entry, start, next_step, turn, world}
use Rattle.sl_model.specs.Fit.{fits, fits_link}
use Rattle.sl_model.proofs.Cuts.Collected.{IsChannel, each-channel}
use Rattle.sl_simulation.specs.Messages.{CarryIds, IsMessage, version_from}
use Rattle.sl_model.proofs.Saved.Settled.{is-channel}
use Rattle.sl_model.specs.UnitWindow.{IsTakeable}
use Rattle.sl_layout.specs.declared.actor.UnitId.{UnitId}
use Rattle.sl_saves.specs.Views.{IsShown, free_slot}
use Rattle.sl_wire.specs.Wids.{no_wid}
use Rattle.sl_unit.specs.Registers.{first_registers}
use Rattle.sl_model.specs.declared.message.Put.{Put}
use Rattle.sl_model.specs.declared.message.Step.{Step}
use Rattle.sl_model.specs.Setup.{Setup}
use Rattle.sl_model.specs.Counting.{counted_in, packets, bytes}
use Rattle.sl_model.specs.Short.{TakesShort, IsShort}
use Rattle.sl_model.specs.Turns.{Takes, Acts, TakesTurns}
use Rattle.sl_simulation.specs.UnitImage.{IsUnitOf, HasRegisters, UnitSimulates, dropped, new_state, IsStampNear, CanTake, step_on}
use Rattle.sl_model.proofs.Cuts.Collected.{distinct-channels}
use Rattle.sl_simulation.proofs.UnitRegisters.{wids-at, first-only, HasChannels, regs-is}
use Rattle.sl_simulation.proofs.UnitFrames.{Links, bytes-carried, Distances, ReadsFrames, reads, reads-carried, reads-probe, reads-init, version-carries, port-few}
use Rattle.sl_simulation.proofs.UnitMessages.{wires_at, Ends, IsGiven, unit_at, state_at, reading_at, place, host-frame, cable-data, cable-probe, init-stamp, crossbar-data, crossbar-probe, poll-dump, wires-are}

-- What comes by a choice.

came-by : Links → (net : Net) (table : Snapshot) (u d p : ℕ) (side : Side) (c l : ℕ) → actor_of net u ≡ OfUnit (unit_at d p side) → slice_get (links_into net u) c ≡ Some l
    → entrance_at (wires_at net u d side table) c ≡ entrance (link_of net l).sort (place net u c) (is_own_port net d p l)
came-by links net table u d p side c l q k = let at = get_or_from_slice_get (links_into net u) c l 0 k in
    links.entrances net u c (slice_get_within (links_into net u) c l k)
    ∙ (λ j. entrance (link_of net (at j)).sort (place net u c) (is_own (q j) (actor_of net (link_of net (at j)).from)))

-- a data channel is no choice of initiations
no-init : (net : Net) → HasWays net → (u c l : ℕ) → slice_get (links_into net u) c ≡ Some l → ((link_of net l).sort ≡ Init → ⊥) → Member c (choices_of net u Init) → ⊥
no-init net ways u c l k n m = n (ap (λ l. (link_of net l).sort) (sym (get_or_from_slice_get (links_into net u) c l 0 k)) ∙ (each-at (IsChoice net u Init) c (choices_of net u Init) (ways.choices u Init) m).sort)

no-channel : (net : Net) (u c l : ℕ) → slice_get (links_into net u) c ≡ Some l → (link_of net l).sort ≡ Init → Member c (data_channels net u) → ⊥
no-channel net u c l k n m = of_channel (each-at (IsChannel net u) c (data_channels net u) (each-channel net u) m)
  where
    of_channel : IsChannel net u c → ⊥
    of_channel i = let e : i.link ≡ l = cc (i.into, k) in by_sort (ap (λ l. (link_of net l).sort) e ∙ n) i.data_sort
      where
        by_sort : (link_of net i.link).sort ≡ Init → ((link_of net i.link).sort ≡ Cable) ⊎ ((link_of net i.link).sort ≡ Crossbar) → ⊥
        by_sort x (inl y) = let z : Init ≡ Cable = sym x ∙ y in cc
        by_sort x (inr y) = let z : Init ≡ Crossbar = sym x ∙ y in cc

is-init : (net : Net) → HasWays net → (u c l : ℕ) → slice_get (links_into net u) c ≡ Some l → (link_of net l).sort ≡ Init → Member c (choices_of net u Init)
is-init net ways u c l k n = ways.chosen u Init c l k n

-- What a frame or bytes of the host do to a unit's machine.

-- what is given of wrapped ids and of frames
pub record GivenFrames (net : Net) (table : Snapshot) : Type 0 where
  pub distances : Distances
  pub frames : ReadsFrames
  pub wide : table.window < modulus table.width
  pub ports : (a : ℕ) → port_of (actor_of net a) < 8
  pub carried : CarryIds net table

module _ (net : Net) (table : Snapshot) (w : GivenFrames net table) (u d p : ℕ) (side : Side) (c a : ℕ) (h : History) (saved : View) where
  abbrev now : UnitState
  now = state_at net table u d side h saved

  -- a stamp on a data channel, and one on the link of initiations
  channel-read : (j : ℕ) → HasChannels net u → IsTakeable table.window c h j → Member c (data_channels net u) → read now (Upstream (place net u c)) (wid table.width j) ≡ reading_at table c j h
  channel-read j chans t m = reads w.distances table.width table.window c j h (Upstream (place net u c)) now.registers w.wide t (wids-at table.width (data_channels net u) c h m chans.few) refl

  init-read : (j : ℕ) → HasChannels net u → IsTakeable table.window c h j → Member c (choices_of net u Init) → read now Cpu (wid table.width j) ≡ reading_at table c j h
  init-read j chans t m = reads w.distances table.width table.window c j h Cpu now.registers w.wide t (ap (wid table.width) (first-only (choices_of net u Init) c h m chans.inits)) refl

  cable-data-taken : (j : ℕ) (q : Packet) → HasChannels net u → IsTakeable table.window c h j → Member c (data_channels net u)
      → take_at (from.Cable (place net u c)) now (framed (version_from net (sizes_of table) a) (carried_header (wid table.width j) (port_of (actor_of net a))) q) ≡ cable_data now (place net u c) q (reading_at table c j h)
  cable-data-taken j q chans t m = ap (of_frame now (by_cable (place net u c) now)) (reads-carried w.frames table.width (version_from net (sizes_of table) a) j (version-carries net table w.carried a) (port_of (actor_of net a)) q (w.ports a)) ∙ ap (cable_data now (place net u c) q) (channel-read j chans t m)

  cable-probe-taken : (j : ℕ) → HasChannels net u → IsTakeable table.window c h j → Member c (data_channels net u)
      → take_at (from.Cable (place net u c)) now (framed (version_from net (sizes_of table) a) (probe_header (wid table.width j) (port_of (actor_of net a))) no_packet) ≡ cable_probe now (place net u c) (reading_at table c j h)
  cable-probe-taken j chans t m = ap (of_frame now (by_cable (place net u c) now)) (reads-probe w.frames table.width (version_from net (sizes_of table) a) j (version-carries net table w.carried a) (port_of (actor_of net a)) (w.ports a)) ∙ ap (cable_probe now (place net u c)) (channel-read j chans t m)

  crossbar-data-taken : (own : Bool) (j : ℕ) (q : Packet) → HasChannels net u → IsTakeable table.window c h j → Member c (data_channels net u)
      → take_at (from.Crossbar (place net u c) own) now (framed (version_from net (sizes_of table) a) (carried_header (wid table.width j) (port_of (actor_of net a))) q) ≡ crossbar_data now (place net u c) q (reading_at table c j h)
  crossbar-data-taken own j q chans t m = ap (of_frame now (by_crossbar (place net u c) own now)) (reads-carried w.frames table.width (version_from net (sizes_of table) a) j (version-carries net table w.carried a) (port_of (actor_of net a)) q (w.ports a)) ∙ ap (crossbar_data now (place net u c) q) (channel-read j chans t m)

  crossbar-probe-taken : (own : Bool) (j : ℕ) → HasChannels net u → IsTakeable table.window c h j → Member c (data_channels net u)
      → take_at (from.Crossbar (place net u c) own) now (framed (version_from net (sizes_of table) a) (probe_header (wid table.width j) (port_of (actor_of net a))) no_packet) ≡ crossbar_probe now (place net u c) own (reading_at table c j h)
  crossbar-probe-taken own j chans t m = ap (of_frame now (by_crossbar (place net u c) own now)) (reads-probe w.frames table.width (version_from net (sizes_of table) a) j (version-carries net table w.carried a) (port_of (actor_of net a)) (w.ports a)) ∙ ap (crossbar_probe now (place net u c) own) (channel-read j chans t m)

  init-taken : (j : ℕ) → HasChannels net u → IsTakeable table.window c h j → Member c (choices_of net u Init)
      → take_at from.Init now (framed table.version (init_header (wid table.width j)) no_packet) ≡ initiation now (reading_at table c j h)
  init-taken j chans t m = ap (of_frame now (by_init now)) (reads-init w.frames table.width table.version j w.carried.snapshot) ∙ ap (initiation now) (init-read j chans t m)

  host-taken : (bs : List ℕ) → take_at from.Host now (carrying bs) ≡ from_host now (plain_packet table.width bs)
  host-taken bs = ap (of_host now) (bytes-carried bs)

-- A message of each kind.

-- the turn ends as the step by the choice c does, which takes m from the link l
abbrev Becomes : Net → Snapshot → ℕ → ℕ → ℕ → Side → (ℕ → History) → (ℕ → ℕ) → ℕ → ℕ → History → Message → After UnitState Msg → Type 0
Becomes net table u d p side us told c l h m after = Ends net table u (unit_at d p side) us told (taking c m (unit_puts net u (unit_at d p side) h c l m) ∷ h) (unit_puts net u (unit_at d p side) h c l m) after

-- the goal for a message that comes by a link of a sort
abbrev Goes : Net → Snapshot → ℕ → ℕ → ℕ → Side → (ℕ → History) → (ℕ → ℕ) → ℕ → ℕ → History → View → Sort → Message → Msg → Type 0
Goes net table u d p side us told c l h saved t m x = Becomes net table u d p side us told c l h m (take_at (entrance t (place net u c) (is_own_port net d p l)) (state_at net table u d side h saved) x)

ingress-goes : (net : Net) → HasWays net → (table : Snapshot) → GivenFrames net table → (u d p : ℕ) (us vs : ℕ → History) (told was : ℕ → ℕ) (a c l : ℕ) (h : History) (saved : View) (t : Sort) (m : Message) (x : Msg)
    → IsGiven net table u d p Ingress c h saved m → slice_get (links_into net u) c ≡ Some l → (link_of net l).sort ≡ t → unit_receives Ingress t ≡ true → fits t m ≡ true → IsMessage net (sizes_of table) vs a was m x
    → us u ≡ taking c m (unit_puts net u (unit_at d p Ingress) h c l m) ∷ h → Goes net table u d p Ingress us told c l h saved t m x
ingress-goes net ways table w u d p us vs told was a c l h saved FromHost (HostMsg bs) x g k s r f e now = subst (Goes net table u d p Ingress us told c l h saved FromHost (HostMsg bs)) (sym e)
    (subst (Becomes net table u d p Ingress us told c l h (HostMsg bs)) (sym (host-taken net table w u d p Ingress c a h saved bs))
    (host-frame net table u d p us told c bs (unit_puts net u (unit_at d p Ingress) h c l (HostMsg bs)) h saved g))
ingress-goes net ways table w u d p us vs told was a c l h saved Cable (Data j q) x g k s r f e now = let m = is-channel net u c l k (inl s) in
    subst (Goes net table u d p Ingress us told c l h saved Cable (Data j q)) (sym e)
    (subst (Becomes net table u d p Ingress us told c l h (Data j q)) (sym (cable-data-taken net table w u d p Ingress c a h saved j q g.chans (g.near j refl) m))
    (cable-data net table u d p us told c j q (unit_puts net u (unit_at d p Ingress) h c l (Data j q)) h saved g m (no-init net ways u c l k (λ z. let y : Cable ≡ Init = sym s ∙ z in cc))))
ingress-goes net ways table w u d p us vs told was a c l h saved Cable (ProbeMsg j) x g k s r f e now = let m = is-channel net u c l k (inl s) in
    subst (Goes net table u d p Ingress us told c l h saved Cable (ProbeMsg j)) (sym e)
    (subst (Becomes net table u d p Ingress us told c l h (ProbeMsg j)) (sym (cable-probe-taken net table w u d p Ingress c a h saved j g.chans (g.near j refl) m))
    (cable-probe net table u d p us told c j (unit_puts net u (unit_at d p Ingress) h c l (ProbeMsg j)) h saved g m (no-init net ways u c l k (λ z. let y : Cable ≡ Init = sym s ∙ z in cc))))
ingress-goes net ways table w u d p us vs told was a c l h saved Init (InitMsg j) x g k s r f e now = let m = is-init net ways u c l k s in
    subst (Goes net table u d p Ingress us told c l h saved Init (InitMsg j)) (sym e)
    (subst (Becomes net table u d p Ingress us told c l h (InitMsg j)) (sym (init-taken net table w u d p Ingress c a h saved j g.chans (g.near j refl) m))
    (init-stamp net table u d p us told c j (unit_puts net u (unit_at d p Ingress) h c l (InitMsg j)) h saved g m (no-channel net u c l k s)))
ingress-goes net ways table w u d p us vs told was a c l h saved Poll PollMsg x g k s r f e now = subst (Goes net table u d p Ingress us told c l h saved Poll PollMsg) (sym e)
    (poll-dump net table u d p Ingress us told c (unit_puts net u (unit_at d p Ingress) h c l PollMsg) h saved g now)
ingress-goes net ways table w u d p us vs told was a c l h saved _ _ x g k s r f e now = absurd cc

egress-goes : (net : Net) → HasWays net → (table : Snapshot) → GivenFrames net table → (u d p : ℕ) (us vs : ℕ → History) (told was : ℕ → ℕ) (a c l : ℕ) (h : History) (saved : View) (t : Sort) (m : Message) (x : Msg)
    → IsGiven net table u d p Egress c h saved m → slice_get (links_into net u) c ≡ Some l → (link_of net l).sort ≡ t → unit_receives Egress t ≡ true → fits t m ≡ true → IsMessage net (sizes_of table) vs a was m x
    → us u ≡ taking c m (unit_puts net u (unit_at d p Egress) h c l m) ∷ h → Goes net table u d p Egress us told c l h saved t m x
egress-goes net ways table w u d p us vs told was a c l h saved Crossbar (Data j q) x g k s r f e now = let m = is-channel net u c l k (inr s) in
    subst (Goes net table u d p Egress us told c l h saved Crossbar (Data j q)) (sym e)
    (subst (Becomes net table u d p Egress us told c l h (Data j q)) (sym (crossbar-data-taken net table w u d p Egress c a h saved (is_own_port net d p l) j q g.chans (g.near j refl) m))
    (crossbar-data net table u d p us told c j (is_own_port net d p l) q (unit_puts net u (unit_at d p Egress) h c l (Data j q)) h saved g m (no-init net ways u c l k (λ z. let y : Crossbar ≡ Init = sym s ∙ z in cc))))
egress-goes net ways table w u d p us vs told was a c l h saved Crossbar (ProbeMsg j) x g k s r f e now = let m = is-channel net u c l k (inr s) in
    subst (Goes net table u d p Egress us told c l h saved Crossbar (ProbeMsg j)) (sym e)
    (subst (Becomes net table u d p Egress us told c l h (ProbeMsg j)) (sym (crossbar-probe-taken net table w u d p Egress c a h saved (is_own_port net d p l) j g.chans (g.near j refl) m))
    (crossbar-probe net table u d p us told c j (is_own_port net d p l) (unit_puts net u (unit_at d p Egress) h c l (ProbeMsg j)) h saved g m (no-init net ways u c l k (λ z. let y : Crossbar ≡ Init = sym s ∙ z in cc))))
egress-goes net ways table w u d p us vs told was a c l h saved Poll PollMsg x g k s r f e now = subst (Goes net table u d p Egress us told c l h saved Poll PollMsg) (sym e)
    (poll-dump net table u d p Egress us told c (unit_puts net u (unit_at d p Egress) h c l PollMsg) h saved g now)
egress-goes net ways table w u d p us vs told was a c l h saved _ _ x g k s r f e now = absurd cc

-- what a unit takes
pub goes : (net : Net) → HasWays net → (table : Snapshot) → GivenFrames net table → (u d p : ℕ) (side : Side) (us vs : ℕ → History) (told was : ℕ → ℕ) (a c l : ℕ) (h : History) (saved : View) (m : Message) (x : Msg)
    → IsGiven net table u d p side c h saved m → slice_get (links_into net u) c ≡ Some l → unit_receives side (link_of net l).sort ≡ true → fits_link net l m ≡ true → IsMessage net (sizes_of table) vs a was m x
    → us u ≡ taking c m (unit_puts net u (unit_at d p side) h c l m) ∷ h
    → Ends net table u (unit_at d p side) us told (taking c m (unit_puts net u (unit_at d p side) h c l m) ∷ h) (unit_puts net u (unit_at d p side) h c l m) (unit_take (state_at net table u d side h saved) c x)
goes net ways table w u d p side us vs told was a c l h saved m x g k r f e now =
    subst (λ t. Ends net table u (unit_at d p side) us told (taking c m (unit_puts net u (unit_at d p side) h c l m) ∷ h) (unit_puts net u (unit_at d p side) h c l m) (take_at t (state_at net table u d side h saved) x))
    (sym (came-by g.links net table u d p side c l g.actor k)) (by_side side g r now)
  where
    by_side : (side : Side) → IsGiven net table u d p side c h saved m → unit_receives side (link_of net l).sort ≡ true → us u ≡ taking c m (unit_puts net u (unit_at d p side) h c l m) ∷ h
        → Goes net table u d p side us told c l h saved (link_of net l).sort m x
    by_side Ingress g r now = ingress-goes net ways table w u d p us vs told was a c l h saved (link_of net l).sort m x g k refl r f e now
    by_side Egress g r now = egress-goes net ways table w u d p us vs told was a c l h saved (link_of net l).sort m x g k refl r f e now

-- a step of a unit takes a message
pub unit-takes : (s : Setup) (lost : Losses) (w : World) (u : ℕ) (i : UnitId) (step : Step) → actor_of s.net u ≡ OfUnit i → Takes s lost w u step ⊎ Acts s w u step → Takes s lost w u step
unit-takes s lost w u i step q (inl t) = t
unit-takes s lost w u i step q (inr t) = absurd (never (step.choice - action_choice s.net u) step.puts (ap (λ a. action s t.acted.floor u a (history w u) (step.choice - action_choice s.net u)) (sym q) ∙ t.acted.puts))
  where
    never : (n : ℕ) (ps : List Put) → action s t.acted.floor u (OfUnit i) (history w u) n ≡ Some ps → ⊥
    never n ps e = cc

-- The first state.

-- no stamp was taken
abbrev unseen : ℕ → ℕ
unseen c = 0

no-stamps : (n k : ℕ) (xs : List ℕ) → n ≤ k → take n (map unseen xs ++ replicate k (unseen 0)) ≡ replicate n (unseen 0)
no-stamps zero k xs p = refl
no-stamps (suc n) k (x ∷ xs) p = ap (λ r. unseen 0 ∷ r) (no-stamps n k xs (omega (arith, p)))
no-stamps (suc n) zero [] p = absurd (omega (arith, p))
no-stamps (suc n) (suc k) [] p = ap (λ r. unseen 0 ∷ r) (no-stamps n k [] (omega (arith, p)))

no-stamp : (xs : List ℕ) → unseen 0 ≡ unwrap_or (option_map unseen (slice_get xs 0)) (unseen 0)
no-stamp [] = refl
no-stamp (x ∷ xs) = refl

pub new-stands : ((n size : ℕ) → 1 ≤ size → IsShown n (record { at = 0; slots = replicate size free_slot }) []) → (net : Net) (table : Snapshot) (u : ℕ) (i : UnitId) → IsRanged table → IsUnitOf net table u i [] (new_state net u table i.side)
new-stands first net table u i r = by_side i.side
  where
    new : (side : Side) → HasRegisters net (sizes_of table) u (record { device = i.device; port = i.port; side = side }) [] (first_registers table.ring)
    new side = record {
      id = none-wrapped;
      cpu = none-wrapped ∙ ap (wid table.width) (no-stamp (choices_of net u Init));
      last = sym (ap (map (wid table.width)) (no-stamps 8 8 (data_channels net u) (omega arith)) ∙ all-wrapped);
      packets = refl;
      bytes = refl;
      bad = nothing side;
      expired = nothing side;
      noroute = nothing side;
      saved = record {
        shown = let w = r.some_window in let v = r.some_ring in first table.credits table.ring (omega (arith, w, v));
        size = length-replicate table.ring free_slot;
      };
    }
      where
        none-wrapped : no_wid ≡ wid table.width 0
        none-wrapped = ap (λ n. record { raw = n }) (let p = mod-le 0 (modulus table.width) in omega (arith, p))

        all-wrapped : map (wid table.width) (replicate 8 0) ≡ replicate 8 no_wid
        all-wrapped = ap (replicate 8) (sym none-wrapped)

        nothing : (side : Side) → 0 ≡ dropped side 0
        nothing Ingress = refl
        nothing Egress = refl

    by_side : (side : Side) → IsUnitOf net table u (record { device = i.device; port = i.port; side = side }) [] (new_state net u table side)
    by_side Ingress = record { wires = refl; window = refl; credits = refl; registers = new Ingress }
    by_side Egress = record { wires = refl; window = refl; credits = refl; registers = new Egress }

-- From any state.

-- what laws say of any history, of distances and of frames
pub record Facts : Type 0 where
  pub below : (c : ℕ) (h : History) → last c h ≤ id h
  pub few_packets : (h : History) → packets h ≤ length h
  pub few_bytes : (h : History) → TakesShort h → bytes h ≤ 65535 * length h
  pub distances : Distances
  pub frames : ReadsFrames
  pub links : Links

takeable : (window c : ℕ) (h : History) (j : ℕ) → last c h ≤ id h → IsStampNear window c h j → IsTakeable window c h j
takeable window c h j b n = let o = n.order in let a = n.ahead in let l = n.lag in record {
  order = o;
  ahead = a;
  above = omega (arith, a, b);
  below = omega (arith, l, o);
  behind = b;
  lag = l;
}

given : Facts → (net : Net) (table : Snapshot) (u c l : ℕ) (i : UnitId) (h : History) (m : Message) (st : UnitState) → IsWired net → table.window ≤ table.ring → actor_of net u ≡ OfUnit i
    → CanTake net table u c l h m → IsUnitOf net table u i h st → IsGiven net table u i.device i.port i.side c h st.registers.saved m
given facts net table u c l i h m st wired holds q can stands = let few = can.few in let len = can.packet in record {
  actor = q;
  chans = record { distinct = distinct-channels net u; few = wired.few_channels u i q; inits = wired.one_init u i q };
  keeps = stands.registers.saved;
  room = record {
    packets = omega (arith, few, facts.few_packets h);
    bytes = omega (arith, few, len, facts.few_bytes h can.packets);
  };
  few = omega (arith, few);
  near = λ j z. takeable table.window c h j (facts.below c h) (can.near j z);
  holds = holds;
  links = facts.links;
}

pub steps-anywhere : Facts → (net : Net) (table : Snapshot) (u c l a : ℕ) (i : UnitId) (h : History) (m : Message) (x : Msg) (st : UnitState) (us vs : ℕ → History) (was told : ℕ → ℕ)
    → IsWired net → table.window < modulus table.width → table.window ≤ table.ring → CarryIds net table → actor_of net u ≡ OfUnit i → CanTake net table u c l h m
    → IsMessage net (sizes_of table) us a was m x → IsUnitOf net table u i h st → vs u ≡ step_on net u i h c l m ∷ h
    → UnitSimulates net table u i vs told (step_on net u i h c l m).puts (unit_take st c x)
steps-anywhere facts net table u c l a i h m x st us vs was told wired wide holds carried q can y stands now =
    subst (λ st. UnitSimulates net table u i vs told (step_on net u i h c l m).puts (unit_take st c x)) (sym state)
    (record {
      stands = subst (λ g. IsUnitOf net table u i g (unit_take (state_at net table u i.device i.side h st.registers.saved) c x).state) (sym now) ends.stands;
      sent = ends.sent;
    })
  where
    state : st ≡ state_at net table u i.device i.side h st.registers.saved
    state = let w = stands.wires ∙ wires-are net u i table q in let v = stands.window in let n = stands.credits in let r = regs-is net (sizes_of table) u i h st.registers stands.registers in
        λ j. record { wires = w j; window = v j; credits = n j; registers = r j }

    receives-it : unit_receives i.side (link_of net l).sort ≡ true
    receives-it = let o = wired.ways.into u c l can.into in subst (λ b. receives b (link_of net l).sort ≡ true) (ap (actor_of net) o.to ∙ q) (wired.receiver l o.is_link)

    ends : Ends net table u (unit_at i.device i.port i.side) vs told (step_on net u i h c l m ∷ h) (step_on net u i h c l m).puts (unit_take (state_at net table u i.device i.side h st.registers.saved) c x)
    ends = goes net wired.ways table (record { distances = facts.distances; frames = facts.frames; wide = wide; ports = port-few net wired; carried = carried }) u i.device i.port i.side vs us told was a c l h st.registers.saved m x
        (given facts net table u c l i h m st wired holds q can stands) can.into receives-it can.fits y now

-- The unit's own turn, in a world.

record IsTurn (s : Setup) (lost : Losses) (es : List Entry) (u c : ℕ) (i : UnitId) (step : Step) (m : Message) : Type 0 where
  pub link : ℕ
  pub into : slice_get (links_into s.net u) c ≡ Some link
  pub step_is : step ≡ taking c m (unit_puts s.net u i (history (world s lost es) u) c link m)
  pub fits : fits_link s.net link m ≡ true

is-turn : TakesTurns → (s : Setup) (lost : Losses) (es : List Entry) (u c : ℕ) (i : UnitId) (step : Step) (m : Message) → actor_of s.net u ≡ OfUnit i → next_step s lost (world s lost es) (u, c) ≡ Some step → step.taken ≡ Some m
    → IsTurn s lost es u c i step m
is-turn turns s lost es u c i step m q n e = of_takes (unit-takes s lost (world s lost es) u i step q (turns.view s lost (world s lost es) (u, c) step n))
  where
    of_takes : Takes s lost (world s lost es) u step → IsTurn s lost es u c i step m
    of_takes t =
        let ch : step.choice ≡ c = turns.choice s lost (world s lost es) (u, c) step n in
        let me : t.took.message ≡ m = cc (t.took.taken, e) in
        let ps = t.took.puts ∙ (λ j. puts_of s u (q j) (history (world s lost es) u) (ch j) t.took.link (me j)) in
        record {
          link = t.took.link;
          into = ap (slice_get (links_into s.net u)) (sym ch) ∙ t.took.into;
          step_is = λ j. record { choice = ch j; taken = e j; puts = ps j };
          fits = subst (λ m. fits_link s.net t.took.link m ≡ true) me (turns.fits s lost (world s lost es) u step (turns.fifo_run s lost es) t);
        }

pub takes-follow : Facts → TakesTurns → (s : Setup) (table : Snapshot) (lost : Losses) (es : List Entry) (u c : ℕ) (i : UnitId) (step : Step) (m : Message) (x : Msg) (st : UnitState) (vs : ℕ → History) (a : ℕ) (was told : ℕ → ℕ)
    → ((k : ℕ) → stamp_taken step ≡ Some k → IsTakeable s.window step.choice (history (world s lost es) u) k) → ((fs : List Entry) → TakesShort (history (world s lost fs) u))
    → IsWired s.net → s.window ≡ table.window → table.window < modulus table.width → table.window ≤ table.ring → CarryIds s.net table → length es < 2 ^ 40
    → actor_of s.net u ≡ OfUnit i → next_step s lost (world s lost es) (u, c) ≡ Some step → step.taken ≡ Some m → IsMessage s.net (sizes_of table) vs a was m x → IsUnitOf s.net table u i (history (world s lost es) u) st
    → UnitSimulates s.net table u i (λ b. history (turn s lost (world s lost es) (u, c)) b) told step.puts (unit_take st c x)
takes-follow facts turns s table lost es u c i step m x st vs a was told near short wired t wide holds carried few q n e y stands = of_turn (is-turn turns s lost es u c i step m q n e)
  where
    h : History
    h = history (world s lost es) u

    new : history (world s lost (es ++ (u, c) ∷ [])) u ≡ step ∷ h
    new = ap (λ v. history v u) (turns.parts s lost (start s.net) es ((u, c) ∷ [])) ∙ (turns.grows s lost es (u, c) step n).same

    packet : IsShort m
    packet = subst (λ o. unwrap_or (option_map (λ p. p.len) (option_and_then counted_in o)) 0 < 2 ^ 16) e (subst TakesShort new (short (es ++ (u, c) ∷ []))).0

    stamp-near : (k : ℕ) → stamp_of m ≡ Some k → IsStampNear table.window c h k
    stamp-near k v = let w = subst (λ w. IsTakeable w c h k) t (subst (λ d. IsTakeable s.window d h k) (turns.choice s lost (world s lost es) (u, c) step n) (near k (ap (option_and_then stamp_of) e ∙ v))) in
        record { order = w.order; ahead = w.ahead; lag = w.lag }

    of_turn : IsTurn s lost es u c i step m → UnitSimulates s.net table u i (λ b. history (turn s lost (world s lost es) (u, c)) b) told step.puts (unit_take st c x)
    of_turn z =
        subst (λ ps. UnitSimulates s.net table u i (λ b. history (turn s lost (world s lost es) (u, c)) b) told ps (unit_take st c x)) (sym (ap (λ v. v.puts) z.step_is))
        (steps-anywhere facts s.net table u c z.link a i h m x st vs (λ b. history (turn s lost (world s lost es) (u, c)) b) was told wired wide holds carried q
        (record { into = z.into; fits = z.fits; few = omega (arith, turns.few s lost es u, few); packets = short es; packet = packet; near = stamp-near }) y stands
        ((turns.grows s lost es (u, c) step n).same ∙ ap (λ v. v ∷ h) z.step_is))
