-- The findings of runs are sayable.
use Rattle.std.proofs.Common.{◌≡◌, ℕ, zero, suc, ◌+◌, ◌*◌, ◌-◌, ◌≤◌, List, [], ◌∷◌, ◌++◌, length, Bool, true, false, not, Option, Some, None, refl, sym, subst, ◌⊎◌, inl, inr, arith, length-append, ◌<◌, ◌^◌, drop, map, replicate, ap, ◌∙◌, length-take}
use Rattle.std.specs.Prelude.{◌==◌, cond, if◌then◌else◌, flat_map, option_map, slice_get, unwrap_or, filter}
use Rattle.std.proofs.lemmas.Bool.{eqb-true}
use Rattle.sl_parts.specs.Lists.{Each, Member}
use Rattle.sl_parts.proofs.Lists.{each-of, each-map, each-flat, each-append, distinct-filter, distinct-from, each-imp, each-from, each-from_all, each-passes, length_filter_le, Distinct}
use Rattle.sl_layout.specs.declared.actor.Side.{Side}
use Rattle.sl_layout.specs.declared.actor.Side.TheVariants.{Ingress, Egress}
use Rattle.sl_layout.specs.declared.actor.UnitId.{UnitId}
use Rattle.sl_layout.specs.declared.actor.ActorId.{ActorId}
use Rattle.sl_layout.specs.declared.actor.ActorId.TheVariants.{Observer, Control, Unit as OfUnit, Host as OfHost}
use Rattle.sl_layout.specs.declared.actor.Sort.{Sort}
use Rattle.sl_layout.specs.declared.actor.Sort.TheVariants.{FromHost, ToHost, Cable, Crossbar, Init, Poll, Notice, Dump, Begin, Done}
use Rattle.sl_layout.specs.Net.{Net, actor_of, link_of, link_numbers, links_out, action_choice, unit_place, link_at, choices_of, choice_of, same_sort, units, hosts, data_channels}
use Rattle.sl_layout.specs.Serving.{ServedUnit, served}
use Rattle.sl_net.specs.declared.input.Packet.{Packet}
use Rattle.sl_route.specs.Route.{next_port}
use Rattle.sl_model.specs.declared.message.Message.{Message}
use Rattle.sl_model.specs.declared.message.Message.TheVariants.{Host as HostMsg, Data, Probe as ProbeMsg, Init as InitMsg, Poll as PollMsg, Notice as NoticeMsg, Dump as DumpMsg, Begin as BeginMsg, Done as DoneMsg}
use Rattle.sl_model.specs.declared.message.Put.{Put}
use Rattle.sl_model.specs.declared.message.Step.{Step}
use Rattle.sl_model.specs.Fit.{fits, fits_link}
use Rattle.sl_model.specs.Frame.{plain_frame, packet_of}
use Rattle.sl_model.specs.History.{History, last, stamp_of, taken, on_link, put, World, Losses, history, id}
use Rattle.sl_model.specs.Knowledge.{is_outstanding, is_again, is_swept, issued, can_issue, can_resend, observer, floor, unit_floor}
use Rattle.sl_model.specs.Made.{Took, Acted, IsMade}
use Rattle.sl_model.specs.Puts.{send, send_all, crossbar_to, onward, route, route_frame, ingress_puts, is_own_port, egress_puts, side_puts, notice_puts, dump_puts, id_after, unit_puts, poll_puts, dump_answer, control_puts, puts_of, guarded, action}
use Rattle.sl_model.specs.Setup.{Setup, frames_of}
use Rattle.std.proofs.lemmas.List.{length-map, length-replicate}
use Rattle.std.proofs.lemmas.List.Elements.{All-replicate}
use Rattle.std.proofs.lemmas.List.FromFn.{length-range_with_len}
use Rattle.std.specs.List.{range_with_len}
use Rattle.sl_layout.specs.Devices.{device_of}
use Rattle.sl_net.specs.Ways.{IsChoice}
use Rattle.sl_net.specs.Wired.{IsNet, IsWired}
use Rattle.sl_saves.specs.Keeping.{no_total}
use Rattle.sl_route.specs.Least.{least}
use Rattle.sl_model.specs.declared.verdict.Verdict.{Verdict}
use Rattle.sl_model.specs.declared.verdict.Verdict.TheVariants.{Consistent, Inconsistent, Pending, NotIssued}
use Rattle.sl_model.specs.declared.findings.Finding.{Finding}
use Rattle.sl_model.specs.Words.{Rises}
use Rattle.sl_model.specs.Counting.{packets, bytes, bad, expired, noroute}
use Rattle.sl_model.specs.Cut.{before, channel_value}
use Rattle.sl_model.specs.Findings.{channel_links, eight_totals, row, rows_for, finding, ingress_units, over_ingress, lost_on, lost_of, sent_by, delivered_to, findings}
use Rattle.sl_model.specs.Late.{IsLateData}
use Rattle.sl_model.specs.Matching.{is_data, IsDataChannel}
use Rattle.sl_model.specs.Short.{TakesShort}
use Rattle.sl_model.specs.Turns.{TakesTurns}
use Rattle.sl_model.specs.Verdict.{verdict}
use Rattle.sl_model.specs.Window.{IsInWindow, known_counts, after_steps}
use Rattle.sl_model.specs.World.{Entry, world, receiver}
use Rattle.sl_report.specs.Sayable.{IsSmall, TotalIsSayable, IsSayableRow, RowsAreSayable, HasRowsFor, IsSayableFinding, AreSayableCounts, IsSayable}
use Rattle.sl_report.proofs.Named.{IsUnitOf, each_unit, host_count}
use Rattle.sl_report.proofs.Causes.{verdict_small}
use Rattle.sl_report.proofs.Sums.{weigh_less, weigh_most, tally_most, each_take, each_past, before_few, before_short, late_count, late_bytes}

-- A step puts few messages on a link that may lose them.

-- the sorts of links that may lose messages
abbrev is_lossy_sort : Sort → Bool
is_lossy_sort Cable = true
is_lossy_sort Crossbar = true
is_lossy_sort Init = true
is_lossy_sort Notice = true
is_lossy_sort _ = false

-- polls and Dones, which none of these links carries
abbrev is_aside : Message → Bool
is_aside PollMsg = true
is_aside (DoneMsg u n) = true
is_aside _ = false

aside_apart : (s : Sort) (m : Message) → is_lossy_sort s ≡ true → is_aside m ≡ true → fits s m ≡ true → ⊥
aside_apart Cable PollMsg h k e = let z : false ≡ true = e in cc
aside_apart Crossbar PollMsg h k e = let z : false ≡ true = e in cc
aside_apart Init PollMsg h k e = let z : false ≡ true = e in cc
aside_apart Notice PollMsg h k e = let z : false ≡ true = e in cc
aside_apart Cable (DoneMsg u n) h k e = let z : false ≡ true = e in cc
aside_apart Crossbar (DoneMsg u n) h k e = let z : false ≡ true = e in cc
aside_apart Init (DoneMsg u n) h k e = let z : false ≡ true = e in cc
aside_apart Notice (DoneMsg u n) h k e = let z : false ≡ true = e in cc
aside_apart FromHost m h k e = let z : false ≡ true = h in cc
aside_apart ToHost m h k e = let z : false ≡ true = h in cc
aside_apart Poll m h k e = let z : false ≡ true = h in cc
aside_apart Dump m h k e = let z : false ≡ true = h in cc
aside_apart Begin m h k e = let z : false ≡ true = h in cc
aside_apart Done m h k e = let z : false ≡ true = h in cc
aside_apart s (HostMsg b) h k e = let z : false ≡ true = k in cc
aside_apart s (Data t p) h k e = let z : false ≡ true = k in cc
aside_apart s (ProbeMsg t) h k e = let z : false ≡ true = k in cc
aside_apart s (InitMsg t) h k e = let z : false ≡ true = k in cc
aside_apart s NoticeMsg h k e = let z : false ≡ true = k in cc
aside_apart s (DumpMsg n) h k e = let z : false ≡ true = k in cc
aside_apart s (BeginMsg n) h k e = let z : false ≡ true = k in cc

-- Puts on one link.

on_append : (l : ℕ) (ps qs : List Put) → length (on_link l (ps ++ qs)) ≡ length (on_link l ps) + length (on_link l qs)
on_append l [] qs = omega arith
on_append l (p ∷ ps) qs = go (p.link == l) (on_append l ps qs)
  where
    go : (b : Bool) → length (on_link l (ps ++ qs)) ≡ length (on_link l ps) + length (on_link l qs)
        → length (cond b (p.message ∷ on_link l (ps ++ qs)) (on_link l (ps ++ qs))) ≡ length (cond b (p.message ∷ on_link l ps) (on_link l ps)) + length (on_link l qs)
    go true e = omega (arith, e)
    go false e = e

none : (l : ℕ) (m : Message) (ls : List ℕ) → (Member l ls → ⊥) → length (on_link l (send_all m ls)) ≤ 0
none l m [] h = omega arith
none l m (k ∷ ks) h = go (k == l) refl (none l m ks (λ p. h (inr p)))
  where
    go : (b : Bool) → (k == l) ≡ b → length (on_link l (send_all m ks)) ≤ 0 → length (cond b (m ∷ on_link l (send_all m ks)) (on_link l (send_all m ks))) ≤ 0
    go true q e = absurd (h (inl (sym (eqb-true k l q))))
    go false q e = e

once : (l : ℕ) (m : Message) (ls : List ℕ) → Distinct ls → length (on_link l (send_all m ls)) ≤ 1
once l m [] d = omega arith
once l m (k ∷ ks) d = go (k == l) refl (once l m ks d.1)
  where
    go : (b : Bool) → (k == l) ≡ b → length (on_link l (send_all m ks)) ≤ 1 → length (cond b (m ∷ on_link l (send_all m ks)) (on_link l (send_all m ks))) ≤ 1
    go true q e = let z = none l m ks (λ p. d.0 (subst (λ x. Member x ks) (sym (eqb-true k l q)) p)) in omega (arith, z)
    go false q e = e

module _ (net : Net) where
  distinct_out : (a : ℕ) (s : Sort) → Distinct (links_out net a s)
  distinct_out a s = distinct-filter _ _ (distinct-filter _ (link_numbers net) (distinct-from 0 (length net.links)))

  once_out : (l a : ℕ) (m : Message) (s : Sort) → length (on_link l (send_all m (links_out net a s))) ≤ 1
  once_out l a m s = once l m (links_out net a s) (distinct_out a s)

  module _ (l : ℕ) (lossy : is_lossy_sort (link_of net l).sort ≡ true) where
    aside_none : (ps : List Put) → Each (λ p. fits_link net p.link p.message ≡ true) ps → Each (λ p. is_aside p.message ≡ true) ps → length (on_link l ps) ≤ 0
    aside_none [] h k = omega arith
    aside_none (p ∷ ps) h k = go (p.link == l) refl (aside_none ps h.1 k.1)
      where
        go : (b : Bool) → (p.link == l) ≡ b → length (on_link l ps) ≤ 0 → length (cond b (p.message ∷ on_link l ps) (on_link l ps)) ≤ 0
        go true q e = absurd (aside_apart (link_of net l).sort p.message lossy k.0 (subst (λ x. fits_link net x p.message ≡ true) (eqb-true p.link l q) h.0))
        go false q e = e

    -- Units.

    route_few : (u d k : ℕ) (q : Packet) → length (on_link l (route net u d k q)) ≤ 1
    route_few u d k q = go (q.hops == 0) (next_port net.parts d q.dst)
      where
        go : (b : Bool) (o : Option ℕ) → length (on_link l (if b then [] else onward net u d k (record q { hops = q.hops - 1 }) o)) ≤ 1
        go true o = omega arith
        go false None = omega arith
        go false (Some port) = once l (Data k (record q { hops = q.hops - 1 })) (crossbar_to net u d port) (distinct-filter _ _ (distinct_out u Crossbar))

    ingress_few : (u d k : ℕ) (m : Message) → length (on_link l (ingress_puts net u d k m)) ≤ 1
    ingress_few u d k (HostMsg bytes) = go (packet_of bytes)
      where
        go : (o : Option Packet) → length (on_link l (route_frame net u d k o)) ≤ 1
        go None = omega arith
        go (Some q) = route_few u d k q
    ingress_few u d k (Data s q) = route_few u d k q
    ingress_few u d k (InitMsg s) = once_out l u (ProbeMsg k) Crossbar
    ingress_few u d k (ProbeMsg s) = omega arith
    ingress_few u d k PollMsg = omega arith
    ingress_few u d k NoticeMsg = omega arith
    ingress_few u d k (DumpMsg n) = omega arith
    ingress_few u d k (BeginMsg n) = omega arith
    ingress_few u d k (DoneMsg v n) = omega arith

    egress_few : (u d p k j : ℕ) (m : Message) → length (on_link l (egress_puts net u d p k j m)) ≤ 2
    egress_few u d p k j (Data s q) = omega (arith, on_append l (send_all (Data k q) (links_out net u Cable)) (send_all (HostMsg (plain_frame q)) (links_out net u ToHost)), once_out l u (Data k q) Cable, once_out l u (HostMsg (plain_frame q)) ToHost)
    egress_few u d p k j (ProbeMsg s) = go (is_own_port net d p j)
      where
        go : (b : Bool) → length (on_link l (if b then send_all (ProbeMsg k) (links_out net u Cable) else [])) ≤ 2
        go true = omega (arith, once_out l u (ProbeMsg k) Cable)
        go false = omega arith
    egress_few u d p k j (HostMsg bytes) = omega arith
    egress_few u d p k j (InitMsg s) = omega arith
    egress_few u d p k j PollMsg = omega arith
    egress_few u d p k j NoticeMsg = omega arith
    egress_few u d p k j (DumpMsg n) = omega arith
    egress_few u d p k j (BeginMsg n) = omega arith
    egress_few u d p k j (DoneMsg v n) = omega arith

    side_few : (u : ℕ) (i : UnitId) (s : Side) (k j : ℕ) (m : Message) → length (on_link l (side_puts net u i s k j m)) ≤ 2
    side_few u i Ingress k j m = omega (arith, ingress_few u i.device k m)
    side_few u i Egress k j m = egress_few u i.device i.port k j m

    notice_few : (u before : ℕ) (o : Option ℕ) → length (on_link l (notice_puts net u before o)) ≤ 1
    notice_few u before None = omega arith
    notice_few u before (Some s) = go (before == s)
      where
        go : (b : Bool) → length (on_link l (if b then [] else send_all NoticeMsg (links_out net u Notice))) ≤ 1
        go true = omega arith
        go false = once_out l u NoticeMsg Notice

    dump_few : (u n : ℕ) (m : Message) → length (on_link l (dump_puts net u n m)) ≤ 1
    dump_few u n PollMsg = once_out l u (DumpMsg n) Dump
    dump_few u n (HostMsg bytes) = omega arith
    dump_few u n (Data s q) = omega arith
    dump_few u n (ProbeMsg s) = omega arith
    dump_few u n (InitMsg s) = omega arith
    dump_few u n NoticeMsg = omega arith
    dump_few u n (DumpMsg j) = omega arith
    dump_few u n (BeginMsg j) = omega arith
    dump_few u n (DoneMsg v j) = omega arith

    unit_few : (u : ℕ) (i : UnitId) (h : History) (c j : ℕ) (m : Message) → length (on_link l (unit_puts net u i h c j m)) ≤ 4
    unit_few u i h c j m =
        let a = side_puts net u i i.side (id_after m h) j m in
        let b = notice_puts net u (last c h) (stamp_of m) in
        let d = dump_puts net u (suc (length h)) m in
        omega (arith, on_append l a (b ++ d), on_append l b d, side_few u i i.side (id_after m h) j m, notice_few u (last c h) (stamp_of m), dump_few u (suc (length h)) m)

    -- Control planes.

    each_if : (b : Bool) (ps : List Put) → Each (λ p. is_aside p.message ≡ true) ps → Each (λ p. is_aside p.message ≡ true) (if b then ps else [])
    each_if true ps h = h
    each_if false ps h = tt

    poll_aside : (v : ServedUnit) (h : History) → Each (λ p. is_aside p.message ≡ true) (poll_puts v h)
    poll_aside v h = go (is_outstanding v h)
      where
        go : (b : Bool) → Each (λ p. is_aside p.message ≡ true) (if b then [] else send PollMsg v.poll ∷ [])
        go true = tt
        go false = (refl, tt)

    each_served : (f : ServedUnit → List Put) (vs : List ServedUnit) → ((v : ServedUnit) → Each (λ p. is_aside p.message ≡ true) (f v)) → Each (λ p. is_aside p.message ≡ true) (flat_map f vs)
    each_served f vs h = each-flat (λ p. is_aside p.message ≡ true) f vs (each-of (λ v. Each (λ p. is_aside p.message ≡ true) (f v)) vs (λ v m. h v))

    answer_aside : (a n : ℕ) (h : History) (v : ServedUnit) → Each (λ p. is_aside p.message ≡ true) (dump_answer net a h n v)
    answer_aside a n h v = each-append (λ p. is_aside p.message ≡ true) (send_all (DoneMsg (unit_place net v.unit) n) (links_out net a Done)) (if is_again (action_choice net a) v h then send PollMsg v.poll ∷ [] else [])
        (each-map (λ p. is_aside p.message ≡ true) (send (DoneMsg (unit_place net v.unit) n)) (links_out net a Done) (each-of (λ x. true ≡ true) (links_out net a Done) (λ x m. refl)))
        (each_if (is_again (action_choice net a) v h) (send PollMsg v.poll ∷ []) (refl, tt))

    control_few : (a : ℕ) (h : History) (c : ℕ) (m : Message) → Each (λ p. fits_link net p.link p.message ≡ true) (control_puts net a h c m) → length (on_link l (control_puts net a h c m)) ≤ 4
    control_few a h c (BeginMsg k) f = omega (arith, once_out l a (InitMsg k) Init)
    control_few a h c NoticeMsg f = omega (
      arith,
      aside_none (control_puts net a h c NoticeMsg) f
          (each_served (λ v. if c == v.notice then poll_puts v h else []) (served net a) (λ v. each_if (c == v.notice) (poll_puts v h) (poll_aside v h))),
    )
    control_few a h c (DumpMsg n) f = omega (
      arith,
      aside_none (control_puts net a h c (DumpMsg n)) f
          (each_served (λ v. if c == v.dump then dump_answer net a h n v else []) (served net a) (λ v. each_if (c == v.dump) (dump_answer net a h n v) (answer_aside a n h v))),
    )
    control_few a h c (HostMsg bytes) f = omega arith
    control_few a h c (Data s q) f = omega arith
    control_few a h c (ProbeMsg s) f = omega arith
    control_few a h c (InitMsg s) f = omega arith
    control_few a h c PollMsg f = omega arith
    control_few a h c (DoneMsg v n) f = omega arith

module _ (s : Setup) (l : ℕ) (lossy : is_lossy_sort (link_of s.net l).sort ≡ true) where
  puts_few : (a : ℕ) (x : ActorId) (h : History) (c j : ℕ) (m : Message) → Each (λ p. fits_link s.net p.link p.message ≡ true) (puts_of s a x h c j m) → length (on_link l (puts_of s a x h c j m)) ≤ 4
  puts_few a (Control d) h c j m f = control_few s.net l lossy a h c m f
  puts_few a (OfUnit i) h c j m f = unit_few s.net l lossy a i h c j m
  puts_few a Observer h c j m f = omega arith
  puts_few a (OfHost i) h c j m f = omega arith

  some_puts : (ps qs : List Put) → Some ps ≡ Some qs → length (on_link l ps) ≤ 4 → length (on_link l qs) ≤ 4
  some_puts ps qs e h = subst (λ o. length (on_link l (unwrap_or o [])) ≤ 4) e h

  guarded_few : (b : Bool) (ps qs : List Put) → guarded b ps ≡ Some qs → length (on_link l ps) ≤ 4 → length (on_link l qs) ≤ 4
  guarded_few true ps qs e h = some_puts ps qs e h
  guarded_few false ps qs e h = absurd (cc)

  guarded_each : (P : Put → Type 0) (b : Bool) (ps qs : List Put) → guarded b ps ≡ Some qs → Each P qs → Each P ps
  guarded_each P true ps qs e h = subst (λ o. Each P (unwrap_or o [])) (sym e) h
  guarded_each P false ps qs e h = absurd (cc)

  action_few : (f a : ℕ) (x : ActorId) (h : History) (n : ℕ) (ps : List Put) → action s f a x h n ≡ Some ps → Each (λ p. fits_link s.net p.link p.message ≡ true) ps → length (on_link l ps) ≤ 4
  action_few f a Observer h zero ps e k = guarded_few (can_issue s f h) _ ps e (omega (arith, once_out s.net l 0 (BeginMsg (suc (issued s.net h))) Begin))
  action_few f a Observer h (suc zero) ps e k = guarded_few (can_resend s f h) _ ps e (omega (arith, once_out s.net l 0 (BeginMsg (issued s.net h)) Begin))
  action_few f a Observer h (suc (suc n)) ps e k = absurd (cc)
  action_few f a (Control d) h zero ps e k =
      let polls = flat_map (λ v. poll_puts v h) (served s.net a) in
      guarded_few (not (is_swept s.net a h)) polls ps e
      (omega (
        arith,
        aside_none s.net l lossy polls (guarded_each (λ p. fits_link s.net p.link p.message ≡ true) (not (is_swept s.net a h)) polls ps e k)
            (each_served s.net l lossy (λ v. poll_puts v h) (served s.net a) (λ v. poll_aside s.net l lossy v h)),
      ))
  action_few f a (Control d) h (suc n) ps e k = absurd (cc)
  action_few f a (OfUnit i) h n ps e k = absurd (cc)
  action_few f a (OfHost i) h zero ps e k = go (slice_get (frames_of s i) (taken (action_choice s.net a) h)) e
    where
      go : (o : Option (List ℕ)) → option_map (λ bytes. send_all (HostMsg bytes) (links_out s.net a FromHost)) o ≡ Some ps → length (on_link l ps) ≤ 4
      go (Some bytes) q = some_puts _ ps q (omega (arith, once_out s.net l a (HostMsg bytes) FromHost))
      go None q = absurd (cc)
  action_few f a (OfHost i) h (suc n) ps e k = absurd (cc)

  step_few : (a : ℕ) (h : History) (step : Step) → Took s a h step ⊎ Acted s a h step → Each (λ p. fits_link s.net p.link p.message ≡ true) step.puts → length (on_link l step.puts) ≤ 4
  step_few a h step (inl t) k = subst (λ ps. length (on_link l ps) ≤ 4) (sym t.puts)
      (puts_few a (actor_of s.net a) h step.choice t.link t.message (subst (λ ps. Each (λ p. fits_link s.net p.link p.message ≡ true) ps) t.puts k))
  step_few a h step (inr t) k = action_few t.floor a (actor_of s.net a) h (step.choice - action_choice s.net a) step.puts t.puts k

  -- on such a link no more than four messages a step
  put_few : ((a : ℕ) (h : History) (step : Step) → Took s a h step ⊎ Acted s a h step → Each (λ p. fits_link s.net p.link p.message ≡ true) step.puts)
      → (a : ℕ) (h : History) → IsMade s a h → length (put l h) ≤ 4 * length h
  put_few fit a [] made = omega arith
  put_few fit a (step ∷ h) made =
      let more = length-append (put l h) (on_link l step.puts) in
      omega (arith, more, put_few fit a h made.1, step_few a h step made.0 (fit a h step made.0))

-- The run.

rises_low : (n : ℕ) (xs : List ℕ) (b : ℕ) → Rises n xs b → n ≤ b
rises_low n [] b h = h
rises_low n (x ∷ xs) b h = omega (arith, h.0, rises_low x xs b h.1)

-- What is known of the run, from the laws of histories.
pub record IsKnown (s : Setup) (lost : Losses) (es : List Entry) : Type 0 where
  pub net : IsNet s.net
  pub wired : IsWired s.net
  pub turns : TakesTurns
  pub links : length s.net.links ≤ 77888
  pub count : s.count < 2 ^ 64
  pub few : length es < 2 ^ 40
  pub window : IsInWindow s lost (world s lost es)
  pub issues : issued s.net (observer (world s lost es)) ≤ s.count
  pub late : (k l : ℕ) → IsDataChannel s.net l → IsLateData s.net lost (world s lost es) k l
  pub packets : (h : History) → packets h ≤ length h
  pub bytes : (h : History) → TakesShort h → bytes h ≤ 65535 * length h
  pub short : (u : ℕ) → TakesShort (history (world s lost es) u)

module _ (s : Setup) (lost : Losses) (es : List Entry) (known : IsKnown s lost es) where
  abbrev w : World
  w = world s lost es

  -- how many steps an actor makes
  steps : (a : ℕ) → length (history w a) < 2 ^ 40
  steps a = omega (arith, known.turns.few s lost es a, known.few)

  taken_few : (c a : ℕ) → IsSmall (taken c (history w a))
  taken_few c a = omega (arith, known.turns.at_most c (history w a), steps a)

  id_small : (u : ℕ) → IsSmall (id (history w u))
  id_small u = omega (arith, known.window.ids u, known.issues, known.count)

  floor_issued : floor s.net w ≤ issued s.net (observer w)
  floor_issued = go (units s.net) refl (each_unit s.net)
    where
      go : (us : List ℕ) → units s.net ≡ us → Each (IsUnitOf s.net) us → floor s.net w ≤ issued s.net (observer w)
      go [] e h = let z : floor s.net w ≡ issued s.net (observer w) = ap (λ us. unwrap_or (least (map (unit_floor s.net w) us)) (issued s.net (observer w))) e in omega (arith, z)
      go (u ∷ us) e h =
          let r = known.wired.reports u h.0.id h.0.is in
          let k = (known.window.knowledge u h.0.id h.0.is r).ids in
          omega (arith, rises_low (floor s.net w) (map (after_steps id w u) (known_counts s.net lost w u r)) (id (history w u)) k, known.window.ids u)

  floor_small : IsSmall (floor s.net w)
  floor_small = omega (arith, floor_issued, known.issues, known.count)

  -- Rows.

  is_channel : (u c : ℕ) (t : Sort) → is_data t ≡ true → IsChoice s.net u t c → IsDataChannel s.net (link_at s.net u c)
  is_channel u c t d h = record { link = (known.wired.ways.into u c (link_at s.net u c) h.into).is_link; data_sort = ap is_data h.sort ∙ d }

  each_channel : (u : ℕ) → Each (IsDataChannel s.net) (channel_links s.net u)
  each_channel u = each-map (IsDataChannel s.net) (link_at s.net u) (data_channels s.net u)
      (each-append (λ c. IsDataChannel s.net (link_at s.net u c)) (choices_of s.net u Cable) (choices_of s.net u Crossbar)
      (each-imp (IsChoice s.net u Cable) (λ c. IsDataChannel s.net (link_at s.net u c)) (choices_of s.net u Cable) (λ c h. is_channel u c Cable refl h) (known.wired.ways.choices u Cable))
      (each-imp (IsChoice s.net u Crossbar) (λ c. IsDataChannel s.net (link_at s.net u c)) (choices_of s.net u Crossbar) (λ c h. is_channel u c Crossbar refl h) (known.wired.ways.choices u Crossbar)))

  total_small : (k l : ℕ) → IsDataChannel s.net l → TotalIsSayable (channel_value s.net lost w k l)
  total_small k l h =
      let d = known.late k l h in
      let a = (link_of s.net l).to in
      (omega (arith, d.packets, late_count k (choice_of s.net l) (receiver s.net w l), steps a), omega (arith, d.bytes, late_bytes k (choice_of s.net l) (receiver s.net w l) (known.short a), steps a))

  totals : (k u : ℕ) → Each TotalIsSayable (map (channel_value s.net lost w k) (channel_links s.net u))
  totals k u = each-map TotalIsSayable (channel_value s.net lost w k) (channel_links s.net u)
      (each-imp (IsDataChannel s.net) (λ l. TotalIsSayable (channel_value s.net lost w k l)) (channel_links s.net u) (λ l h. total_small k l h) (each_channel u))

  zeros : Each (λ t. t ≡ no_total) (replicate 8 no_total)
  zeros = each-from_all (λ t. t ≡ no_total) (replicate 8 no_total) (All-replicate (λ t. t ≡ no_total) 8 no_total refl)

  row_sayable : (k u : ℕ) → IsSayableRow s.net u (row s.net lost w k u)
  row_sayable k u =
      let ts = map (channel_value s.net lost w k) (channel_links s.net u) in
      let h = history w u in
      let few = before_few k h in
      record {
        packets = omega (arith, known.packets (before k h), few, steps u);
        bytes = omega (arith, known.bytes (before k h) (before_short k h (known.short u)), few, steps u);
        eight = omega (arith, length-take 8 (ts ++ replicate 8 no_total), length-append ts (replicate 8 no_total), length-replicate 8 no_total);
        totals = each_take TotalIsSayable 8 (ts ++ replicate 8 no_total) (each-append TotalIsSayable ts (replicate 8 no_total) (totals k u)
            (each-imp (λ t. t ≡ no_total) TotalIsSayable (replicate 8 no_total) (λ t e. subst TotalIsSayable (sym e) (omega arith, omega arith)) zeros));
        past = subst (λ n. Each (λ t. t ≡ no_total) (drop n (eight_totals ts))) (length-map (channel_links s.net u) (channel_value s.net lost w k)) (each_past (λ t. t ≡ no_total) 8 ts (replicate 8 no_total) zeros);
      }

  rows_sayable : (k : ℕ) (us : List ℕ) → RowsAreSayable s.net us (map (row s.net lost w k) us)
  rows_sayable k [] = tt
  rows_sayable k (u ∷ us) = (row_sayable k u, rows_sayable k us)

  rows_for_sayable : (k : ℕ) (v : Verdict) → HasRowsFor s.net v (rows_for s.net lost w k v)
  rows_for_sayable k Consistent = rows_sayable k (units s.net)
  rows_for_sayable k (Inconsistent unit cause) = refl
  rows_for_sayable k (Pending unit lag) = refl
  rows_for_sayable k (NotIssued unit floor) = refl

  each_finding : Each (IsSayableFinding s.net) (findings s lost es).list
  each_finding = each-map (IsSayableFinding s.net) (finding s.credits s.net lost w) (range_with_len 1 s.count)
      (each-from (λ k. IsSayableFinding s.net (finding s.credits s.net lost w k)) 1 s.count
      (λ k low high. record { verdict = verdict_small s.net s.credits w k (omega (arith, high, known.count)) id_small floor_small; rows = rows_for_sayable k (verdict s.credits s.net w k) }))

  numbers_same : (ks : List ℕ) → map (λ (f : Finding). f.k) (map (finding s.credits s.net lost w) ks) ≡ ks
  numbers_same [] = refl
  numbers_same (k ∷ ks) = ap (λ xs. k ∷ xs) (numbers_same ks)

  -- Hosts, drops and losses.

  counts_sayable : (f : ℕ → ℕ) → ((a : ℕ) → IsSmall (f a)) → AreSayableCounts s.net (map f (hosts s.net))
  counts_sayable f h = record {
    hosts = length-map (hosts s.net) f ∙ host_count s.net known.net.made;
    each = each-map IsSmall f (hosts s.net) (each-of (λ a. IsSmall (f a)) (hosts s.net) (λ a m. h a));
  }

  drops_small : (count : ℕ → History → ℕ) → ((d : ℕ) (h : History) → count d h ≤ length h) → IsSmall (over_ingress s.net w count)
  drops_small count h = omega (
    arith,
    weigh_less (λ u. count (device_of (actor_of s.net u)) (history w u)) (λ u. length (history w u)) (ingress_units s.net) (λ u. h (device_of (actor_of s.net u)) (history w u)),
    known.turns.ingress s.net w (known.turns.actors s lost es),
    known.turns.all_few s lost es,
    known.few,
  )

  lost_few : (l : ℕ) → is_lossy_sort (link_of s.net l).sort ≡ true → lost_on s.net lost w l ≤ 2 ^ 42
  lost_few l h =
      let a = (link_of s.net l).from in
      let p = put_few s l h (λ b g step m. known.turns.puts s b g step m) a (history w a) ((known.turns.fifo_run s lost es).made a) in
      omega (arith, tally_most (λ n. lost l n) (range_with_len 1 (length (put l (history w a)))), length-range_with_len 1 (length (put l (history w a))), p, steps a)

  lost_small : (t : Sort) → is_lossy_sort t ≡ true → IsSmall (lost_of s.net lost w t)
  lost_small t h =
      let ls = filter (λ l. same_sort (link_of s.net l).sort t) (link_numbers s.net) in
      let p = weigh_most (lost_on s.net lost w) ls (each-imp (λ l. same_sort (link_of s.net l).sort t ≡ true) (λ l. lost_on s.net lost w l ≤ 2 ^ 42) ls
      (λ l e. lost_few l (ap is_lossy_sort (known.wired.ways.is_sort l t e) ∙ h)) (each-passes (λ l. same_sort (link_of s.net l).sort t) (link_numbers s.net))) in
      omega (arith, p, length_filter_le (λ l. same_sort (link_of s.net l).sort t) (link_numbers s.net), length-range_with_len 0 (length s.net.links), known.links)

  pub runs_sayable : IsSayable s.net s.count (findings s lost es)
  runs_sayable = record {
    issued = omega (arith, known.issues, known.count);
    floor = floor_small;
    resent = taken_few (suc (action_choice s.net 0)) 0;
    numbers = numbers_same (range_with_len 1 s.count);
    each = each_finding;
    sent = counts_sayable (sent_by s.net w) (λ a. taken_few (action_choice s.net a) a);
    delivered = counts_sayable (delivered_to w) (λ a. taken_few 0 a);
    drops = record {
      bad = drops_small (λ d h. bad h) (λ d h. tally_most _ h);
      expired = drops_small (λ d h. expired h) (λ d h. tally_most _ h);
      noroute = drops_small (λ d h. noroute s.net.parts d h) (λ d h. tally_most _ h);
    };
    lost = record { cable = lost_small Cable refl; crossbar = lost_small Crossbar refl; init = lost_small Init refl; notice = lost_small Notice refl };
  }
