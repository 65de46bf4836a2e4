-- What an entry does to one link: its receiver takes the next message, or takes none, and what was carried only grows; and what a step puts on a link
-- that data packets go by, as data packets: what is sent there.
--     reach w k es    the world after the first k entries
--     sent_on o q ls       what is put on the link o, where the same is put on each of these links
--     shown o ps           the data packets of the messages on the link o
use Rattle.std.proofs.Common.{◌≡◌, ℕ, zero, suc, ◌-◌, ◌<◌, ◌≤◌, ◌⊎◌, List, [], ◌∷◌, ◌++◌, length, take, refl, sym, ap, subst, ◌∙◌, Option, Some, None, arith, inl, inr, append-nil, append_assoc, length-append}
use Rattle.std.specs.Prelude.{true, false, slice_get, option_map, option_and_then, nat_eq, Bool, ◌&&◌, not, cond, ◌==◌, if◌then◌else◌, map, flat_map}
use Rattle.std.proofs.lemmas.Bool.Decides.{eqb_tells}
use Rattle.std.proofs.lemmas.List.{length-map, length-set}
use Rattle.sl_layout.specs.declared.actor.ActorId.{ActorId}
use Rattle.sl_layout.specs.Net.{link_of, links_into, choice_of, action_choice, Net, same_actor, same_sort, egress, actor_of, links_from, links_out, unit_place}
use Rattle.sl_net.proofs.Sorts.{is-into, choice-takes, choice-is, each-out}
use Rattle.sl_model.specs.declared.message.Message.{Message}
use Rattle.sl_model.specs.declared.message.Put.{Put}
use Rattle.sl_model.specs.declared.message.Step.{Step}
use Rattle.sl_model.specs.History.{World, Losses, history, taken, History, last, on_link, stamp_of}
use Rattle.sl_model.specs.Setup.{Setup, frames_of}
use Rattle.sl_model.specs.Puts.{puts_of, action, send, send_all, crossbar_to, onward, route_frame, ingress_puts, is_own_port, egress_puts, side_puts, notice_puts, dump_puts, id_after, unit_puts, poll_puts, dump_answer, control_puts, begin_all, guarded}
use Rattle.sl_model.specs.World.{Entry, start, carried, front, taking, acting, floor_for, step_by, next_step, after, turn, run}
use Rattle.sl_model.specs.Turns.{GrowsAt}
use Rattle.sl_model.proofs.Worlds.Turns.{grows-after, next-within, taken-this, taken-other}
use Rattle.sl_model.proofs.Worlds.FifoRuns.{carried-more}
use Rattle.sl_layout.specs.declared.actor.ActorId.TheVariants.{Observer, Control, Unit as OfUnit, Host as OfHost}
use Rattle.sl_layout.specs.declared.actor.Side.{Side}
use Rattle.sl_layout.specs.declared.actor.Side.TheVariants.{Ingress, Egress}
use Rattle.sl_layout.specs.declared.actor.UnitId.{UnitId}
use Rattle.sl_layout.specs.declared.actor.Sort.{Sort}
use Rattle.sl_layout.specs.declared.actor.Sort.TheVariants.{FromHost, ToHost, Cable, Crossbar, Init, Poll, Notice, Dump, Begin, Done}
use Rattle.sl_layout.specs.Serving.{ServedUnit, serving, served}
use Rattle.sl_net.specs.declared.input.Packet.{Packet}
use Rattle.sl_net.specs.Ways.{IsOut}
use Rattle.sl_net.specs.Wired.{unit_receives}
use Rattle.sl_parts.specs.Lists.{Each}
use Rattle.sl_parts.proofs.Lists.{each-map, each-imp, filter-and}
use Rattle.sl_route.specs.Route.{next_port}
use Rattle.sl_model.specs.declared.message.Message.TheVariants.{Host as HostMsg, Data, Probe as ProbeMsg, Init as InitMsg, Poll as PollMsg, Notice as NoticeMsg, Dump as DumpMsg, Begin as BeginMsg, Done as DoneMsg}
use Rattle.sl_model.specs.Counting.{counted_in}
use Rattle.sl_model.specs.Fit.{fits}
use Rattle.sl_model.specs.Frame.{plain_frame, packet_of}
use Rattle.sl_model.specs.Knowledge.{is_again, is_swept, issued, can_issue, can_resend}
use Rattle.sl_model.proofs.Saved.Polls.{on-append, send-off, polls-else, again-else}
use Rattle.sl_poll.specs.declared.way.Way.TheVariants.{Along, Across}
use Rattle.sl_poll.specs.declared.way.Sends.{Sends}
use Rattle.sl_poll.specs.Ways.{bears, links_by, to_port, routed, from_ingress, from_egress, from_side, sends_of, injected, frames_for}

abbrev pub Sized : Setup → World → Type 0
Sized s w = length w ≡ length s.net.actors

pub sized-start : (s : Setup) → Sized s (start s.net)
sized-start s = simp length-map

pub sized-turn : (s : Setup) (lost : Losses) (w : World) (e : Entry) → Sized s w → Sized s (turn s lost w e)
sized-turn s lost w e z = by_next (next_step s lost w e)
  where
    by_next : (o : Option Step) → Sized s (after w e.0 o)
    by_next None = z
    by_next (Some step) = length-set w e.0 (step ∷ history w e.0) ∙ z

-- a step is added to the history of its actor
pub step-grows : (s : Setup) (lost : Losses) (w : World) (e : Entry) (step : Step) → Sized s w → next_step s lost w e ≡ Some step → GrowsAt w (after w e.0 (Some step)) e.0 step
step-grows s lost w e step z q = grows-after w e.0 step (subst (λ n. e.0 < n) (sym z) (next-within s lost w e step q))

-- What a step took.

pub record TookFrom (s : Setup) (lost : Losses) (w : World) (e : Entry) (step : Step) : Type 0 where
  pub link : ℕ
  pub into : slice_get (links_into s.net e.0) e.1 ≡ Some link
  pub message : Message
  pub found : slice_get (carried s.net lost w link) (taken e.1 (history w e.0)) ≡ Some message
  pub choice : step.choice ≡ e.1
  pub takes : step.taken ≡ Some message

pub record TookNone (s : Setup) (e : Entry) (step : Step) : Type 0 where
  pub into : slice_get (links_into s.net e.0) e.1 ≡ None
  pub choice : step.choice ≡ e.1

view : (s : Setup) (lost : Losses) (w : World) (e : Entry) (step : Step) → next_step s lost w e ≡ Some step → TookFrom s lost w e step ⊎ TookNone s e step
view s lost w e step n = of_actor (slice_get s.net.actors e.0) n
  where
    of_message : (actor : ActorId) (l : ℕ) → slice_get (links_into s.net e.0) e.1 ≡ Some l → (o : Option Message) → front s.net lost w e.0 e.1 l ≡ o
        → option_map (λ m. taking e.1 m (puts_of s e.0 actor (history w e.0) e.1 l m)) o ≡ Some step → TookFrom s lost w e step ⊎ TookNone s e step
    of_message actor l k None q h = absurd cc
    of_message actor l k (Some m) q h = let x : taking e.1 m (puts_of s e.0 actor (history w e.0) e.1 l m) ≡ step = cc in
        inl (record { link = l; into = k; message = m; found = q; choice = ap (λ (st : Step). st.choice) (sym x); takes = ap (λ (st : Step). st.taken) (sym x) })

    of_action : slice_get (links_into s.net e.0) e.1 ≡ None → (o : Option (List Put)) → option_map (acting e.1) o ≡ Some step → TookFrom s lost w e step ⊎ TookNone s e step
    of_action k None h = absurd cc
    of_action k (Some ps) h = let x : acting e.1 ps ≡ step = cc in inr (record { into = k; choice = ap (λ (st : Step). st.choice) (sym x) })

    of_link : (actor : ActorId) (o : Option ℕ) → slice_get (links_into s.net e.0) e.1 ≡ o → step_by s lost w e.0 e.1 o actor ≡ Some step → TookFrom s lost w e step ⊎ TookNone s e step
    of_link actor (Some l) k h = of_message actor l k (front s.net lost w e.0 e.1 l) refl h
    of_link actor None k h = of_action k (action s (floor_for s.net w actor) e.0 actor (history w e.0) (e.1 - action_choice s.net e.0)) h

    of_actor : (o : Option ActorId) → option_and_then (step_by s lost w e.0 e.1 (slice_get (links_into s.net e.0) e.1)) o ≡ Some step → TookFrom s lost w e step ⊎ TookNone s e step
    of_actor None h = absurd cc
    of_actor (Some actor) h = of_link actor (slice_get (links_into s.net e.0) e.1) refl h

abbrev pub reach : Setup → Losses → World → ℕ → List Entry → World
reach s lost w k [] = w
reach s lost w zero (e ∷ es) = w
reach s lost w (suc k) (e ∷ es) = reach s lost (turn s lost w e) k es

module _ (s : Setup) (lost : Losses) (l : ℕ) (link : l < length s.net.links) where
  -- how many messages of the link its receiver took, and what it carried
  abbrev pub took : World → ℕ
  took w = taken (choice_of s.net l) (history w (link_of s.net l).to)

  abbrev pub bore : World → List Message
  bore w = carried s.net lost w l

  -- the entry takes the next message of the link
  pub record Next (w : World) (e : Entry) : Type 0 where
    pub step : Step
    pub makes : next_step s lost w e ≡ Some step
    pub into : slice_get (links_into s.net e.0) e.1 ≡ Some l
    pub message : Message
    pub takes : step.taken ≡ Some message
    pub found : slice_get (bore w) (took w) ≡ Some message
    pub place : taken e.1 (history w e.0) ≡ took w
    pub more : took (turn s lost w e) ≡ suc (took w)

  -- it takes none of it
  pub record Other (w : World) (e : Entry) : Type 0 where
    pub same : took (turn s lost w e) ≡ took w
    pub idle : slice_get (links_into s.net e.0) e.1 ≡ Some l → next_step s lost w e ≡ None

  pub moved : (w : World) (e : Entry) → Sized s w → Next w e ⊎ Other w e
  moved w e z = by_next (next_step s lost w e) refl
    where
      by_next : (o : Option Step) → next_step s lost w e ≡ o → Next w e ⊎ Other w e
      by_next None q = inr (record { same = ap (λ o. took (after w e.0 o)) q; idle = λ k. q })
      by_next (Some step) q = by_view (view s lost w e step q)
        where
          is : turn s lost w e ≡ after w e.0 (Some step)
          is = ap (after w e.0) q

          grows : GrowsAt w (after w e.0 (Some step)) e.0 step
          grows = step-grows s lost w e step z q

          -- the link's own actor and choice
          stays : (slice_get (links_into s.net e.0) e.1 ≡ Some l → ⊥) → step.choice ≡ e.1 → took (after w e.0 (Some step)) ≡ took w
          stays never ch = by_actor (eqb_tells (link_of s.net l).to e.0)
            where
              by_choice : (link_of s.net l).to ≡ e.0 → ((nat_eq step.choice (choice_of s.net l) ≡ true) × (step.choice ≡ choice_of s.net l)) ⊎ ((nat_eq step.choice (choice_of s.net l) ≡ false) × (step.choice ≡ choice_of s.net l → ⊥))
                  → took (after w e.0 (Some step)) ≡ took w
              by_choice q (inl r) = absurd (never (subst (λ a. slice_get (links_into s.net a) e.1 ≡ Some l) q
                  (subst (λ c. slice_get (links_into s.net (link_of s.net l).to) c ≡ Some l) (sym r.1 ∙ ch) (choice-takes s.net l link))))
              by_choice q (inr r) = ap (λ a. taken (choice_of s.net l) (history (after w e.0 (Some step)) a)) q ∙ ap (taken (choice_of s.net l)) grows.same
                  ∙ taken-other (choice_of s.net l) step (history w e.0) r.1 ∙ ap (λ a. taken (choice_of s.net l) (history w a)) (sym q)

              by_actor : ((nat_eq (link_of s.net l).to e.0 ≡ true) × ((link_of s.net l).to ≡ e.0)) ⊎ ((nat_eq (link_of s.net l).to e.0 ≡ false) × ((link_of s.net l).to ≡ e.0 → ⊥))
                  → took (after w e.0 (Some step)) ≡ took w
              by_actor (inl r) = by_choice r.1 (eqb_tells step.choice (choice_of s.net l))
              by_actor (inr r) = ap (taken (choice_of s.net l)) (grows.other (link_of s.net l).to r.1)

          other : (slice_get (links_into s.net e.0) e.1 ≡ Some l → ⊥) → step.choice ≡ e.1 → Next w e ⊎ Other w e
          other never ch = inr (record { same = ap took is ∙ stays never ch; idle = λ k. absurd (never k) })

          next : (t : TookFrom s lost w e step) → t.link ≡ l → Next w e ⊎ Other w e
          next t r = let into : slice_get (links_into s.net e.0) e.1 ≡ Some l = t.into ∙ ap Some r in
              let to : (link_of s.net l).to ≡ e.0 = (is-into s.net e.0 e.1 l into).to in
              let ch : choice_of s.net l ≡ e.1 = choice-is s.net e.0 e.1 l into in
              let place : taken e.1 (history w e.0) ≡ took w = ap (λ c. taken c (history w e.0)) (sym ch) ∙ ap (λ a. taken (choice_of s.net l) (history w a)) (sym to) in
              inl (record {
                step = step;
                makes = q;
                into = into;
                message = t.message;
                takes = t.takes;
                found = ap (slice_get (bore w)) (sym place) ∙ ap (λ k. slice_get (carried s.net lost w k) (taken e.1 (history w e.0))) (sym r) ∙ t.found;
                place = place;
                more = ap took is ∙ ap (λ a. taken (choice_of s.net l) (history (after w e.0 (Some step)) a)) to ∙ ap (taken (choice_of s.net l)) grows.same
                    ∙ taken-this (choice_of s.net l) step (history w e.0) (t.choice ∙ sym ch) ∙ ap suc (ap (λ a. taken (choice_of s.net l) (history w a)) (sym to));
              })

          by_link : (t : TookFrom s lost w e step) → ((nat_eq t.link l ≡ true) × (t.link ≡ l)) ⊎ ((nat_eq t.link l ≡ false) × (t.link ≡ l → ⊥)) → Next w e ⊎ Other w e
          by_link t (inl r) = next t r.1
          by_link t (inr r) = other (λ k. r.1 (let x : Some t.link ≡ Some l = sym t.into ∙ k in cc)) t.choice

          by_view : TookFrom s lost w e step ⊎ TookNone s e step → Next w e ⊎ Other w e
          by_view (inl t) = by_link t (eqb_tells t.link l)
          by_view (inr t) = other (λ k. let x : None ≡ Some l = sym t.into ∙ k in cc) t.choice

  -- what was carried grows at its end
  pub grown : (w : World) (e : Entry) → Sized s w → (more : List Message) × (bore (turn s lost w e) ≡ bore w ++ more)
  grown w e z = by_next (next_step s lost w e) refl
    where
      by_next : (o : Option Step) → next_step s lost w e ≡ o → (more : List Message) × (bore (after w e.0 o) ≡ bore w ++ more)
      by_next None q = ([], sym (append-nil (bore w)))
      by_next (Some step) q = carried-more s.net lost w (after w e.0 (Some step)) e.0 step l (step-grows s lost w e step z q)

  pub took-rises : (w : World) (e : Entry) → Sized s w → took w ≤ took (turn s lost w e)
  took-rises w e z = go (moved w e z)
    where
      go : Next w e ⊎ Other w e → took w ≤ took (turn s lost w e)
      go (inl n) = omega (arith, n.more)
      go (inr o) = omega (arith, o.same)

  pub took-reach : (w : World) (k : ℕ) (es : List Entry) → Sized s w → took w ≤ took (reach s lost w k es)
  took-reach w k [] z = omega arith
  took-reach w zero (e ∷ es) z = omega arith
  took-reach w (suc k) (e ∷ es) z = let r = took-reach (turn s lost w e) k es (sized-turn s lost w e z) in omega (arith, r, took-rises w e z)

  pub bore-rises : (w : World) (e : Entry) → Sized s w → length (bore w) ≤ length (bore (turn s lost w e))
  bore-rises w e z = let g = grown w e z in omega (arith, ap length g.1, length-append (bore w) g.0)

  pub bore-reach : (w : World) (k : ℕ) (es : List Entry) → Sized s w → length (bore w) ≤ length (bore (reach s lost w k es))
  bore-reach w k [] z = omega arith
  bore-reach w zero (e ∷ es) z = omega arith
  bore-reach w (suc k) (e ∷ es) z = let r = bore-reach (turn s lost w e) k es (sized-turn s lost w e z) in omega (arith, r, bore-rises w e z)

  pub bore-run : (w : World) (es : List Entry) → Sized s w → (more : List Message) × (bore (run s lost w es) ≡ bore w ++ more)
  bore-run w [] z = ([], sym (append-nil (bore w)))
  bore-run w (e ∷ es) z = let g = grown w e z in let r = bore-run (turn s lost w e) es (sized-turn s lost w e z) in
      (g.0 ++ r.0, r.1 ∙ ap (λ ms. ms ++ r.0) g.1 ∙ append_assoc (bore w) g.0 r.0)

pub reach-is : (s : Setup) (lost : Losses) (w : World) (k : ℕ) (es : List Entry) → reach s lost w k es ≡ run s lost w (take k es)
reach-is s lost w zero [] = refl
reach-is s lost w (suc k) [] = refl
reach-is s lost w zero (e ∷ es) = refl
reach-is s lost w (suc k) (e ∷ es) = reach-is s lost (turn s lost w e) k es

abbrev pub sent_on : ℕ → Option Packet → List ℕ → List (Option Packet)
sent_on o q [] = []
sent_on o q (l ∷ ls) = cond (l == o) (q ∷ sent_on o q ls) (sent_on o q ls)

abbrev pub sent_by : Net → ℕ → ℕ → Option Sends → List (Option Packet)
sent_by net a o None = []
sent_by net a o (Some x) = sent_on o x.packet (links_by net a x.way)

abbrev pub shown : ℕ → List Put → List (Option Packet)
shown o ps = map counted_in (on_link o ps)

send-shown : (o : ℕ) (m : Message) (ls : List ℕ) → shown o (send_all m ls) ≡ sent_on o (counted_in m) ls
send-shown o m [] = refl
send-shown o m (l ∷ ls) = by_bool (l == o) (send-shown o m ls)
  where
    by_bool : (b : Bool) → shown o (send_all m ls) ≡ sent_on o (counted_in m) ls
        → map counted_in (cond b (m ∷ on_link o (send_all m ls)) (on_link o (send_all m ls))) ≡ cond b (counted_in m ∷ sent_on o (counted_in m) ls) (sent_on o (counted_in m) ls)
    by_bool true ih = ap (λ r. counted_in m ∷ r) ih
    by_bool false ih = ih

-- what is put on other links only shows nothing here
off-shown : (o : ℕ) (ps qs : List Put) → on_link o qs ≡ [] → shown o (ps ++ qs) ≡ shown o ps
off-shown o ps qs q = ap (map counted_in) (on-append o ps qs ∙ ap (λ r. on_link o ps ++ r) q ∙ append-nil (on_link o ps))

other-sort : (s t : Sort) → bears s ≡ true → bears t ≡ false → s ≡ t → ⊥
other-sort s t p q e = let x : true ≡ false = sym p ∙ ap bears e ∙ q in absurd cc

module _ (net : Net) (o : ℕ) (on : bears (link_of net o).sort ≡ true) where
  off : (a : ℕ) (t : Sort) (m : Message) → bears t ≡ false → on_link o (send_all m (links_out net a t)) ≡ []
  off a t m q = send-off net a o t m (other-sort (link_of net o).sort t on q)

  when-off : (b : Bool) (ps : List Put) → on_link o ps ≡ [] → on_link o (if b then ps else []) ≡ []
  when-off true ps q = q
  when-off false ps q = refl

  unless-off : (b : Bool) (ps : List Put) → on_link o ps ≡ [] → on_link o (if b then [] else ps) ≡ []
  unless-off true ps q = refl
  unless-off false ps q = q

  both-off : (ps qs : List Put) → on_link o ps ≡ [] → on_link o qs ≡ [] → on_link o (ps ++ qs) ≡ []
  both-off ps qs p q = on-append o ps qs ∙ ap (λ r. r ++ on_link o qs) p ∙ q

  -- Units.

  across : (u d port : ℕ) → crossbar_to net u d port ≡ links_by net u (Across (record { device = d; port = port; side = Egress }))
  across u d port = filter-and (λ l. same_sort (link_of net l).sort Crossbar) (λ l. same_actor (actor_of net (link_of net l).to) (egress d port)) (links_from net u)

  onward-shown : (u d k : ℕ) (q : Packet) (port : Option ℕ) → shown o (onward net u d k q port) ≡ sent_by net u o (to_port d q port)
  onward-shown u d k q None = refl
  onward-shown u d k q (Some port) = send-shown o (Data k q) (crossbar_to net u d port) ∙ ap (sent_on o (Some q)) (across u d port)

  routed-shown : (u d k : ℕ) (q : Option Packet) → shown o (route_frame net u d k q) ≡ sent_by net u o (routed net.parts d q)
  routed-shown u d k None = refl
  routed-shown u d k (Some q) = by_bool (q.hops == 0)
    where
      less : Packet
      less = record q { hops = q.hops - 1 }

      by_bool : (b : Bool) → shown o (if b then [] else onward net u d k less (next_port net.parts d q.dst)) ≡ sent_by net u o (if b then None else to_port d less (next_port net.parts d q.dst))
      by_bool true = refl
      by_bool false = onward-shown u d k less (next_port net.parts d q.dst)

  ingress-shown : (u d k : ℕ) (s : Sort) (m : Message) → fits s m ≡ true → shown o (ingress_puts net u d k m) ≡ sent_by net u o (from_ingress net.parts d s (counted_in m))
  ingress-shown u d k FromHost (HostMsg b) f = routed-shown u d k (packet_of b)
  ingress-shown u d k ToHost (HostMsg b) f = routed-shown u d k (packet_of b)
  ingress-shown u d k Cable (Data t q) f = routed-shown u d k (Some q)
  ingress-shown u d k Crossbar (Data t q) f = routed-shown u d k (Some q)
  ingress-shown u d k Cable (ProbeMsg t) f = refl
  ingress-shown u d k Crossbar (ProbeMsg t) f = refl
  ingress-shown u d k Init (InitMsg t) f = send-shown o (ProbeMsg k) (links_out net u Crossbar)
  ingress-shown u d k Poll PollMsg f = refl
  ingress-shown u d k Notice NoticeMsg f = refl
  ingress-shown u d k Dump (DumpMsg n) f = refl
  ingress-shown u d k Begin (BeginMsg n) f = refl
  ingress-shown u d k Done (DoneMsg p n) f = refl
  ingress-shown u d k _ _ f = absurd cc

  egress-shown : (u : ℕ) (i : UnitId) (k l : ℕ) (s : Sort) (m : Message) → fits s m ≡ true → unit_receives Egress s ≡ true → shown o (egress_puts net u i.device i.port k l m) ≡ sent_by net u o (from_egress net i l s (counted_in m))
  egress-shown u i k l Crossbar (Data t q) f r = off-shown o (send_all (Data k q) (links_out net u Cable)) (send_all (HostMsg (plain_frame q)) (links_out net u ToHost)) (off u ToHost (HostMsg (plain_frame q)) refl)
      ∙ send-shown o (Data k q) (links_out net u Cable)
  egress-shown u i k l Crossbar (ProbeMsg t) f r = by_bool (is_own_port net i.device i.port l)
    where
      by_bool : (b : Bool) → shown o (if b then send_all (ProbeMsg k) (links_out net u Cable) else []) ≡ sent_by net u o (if true && b then Some (record { packet = None; way = Along Cable }) else None)
      by_bool true = send-shown o (ProbeMsg k) (links_out net u Cable)
      by_bool false = refl
  egress-shown u i k l Poll PollMsg f r = refl
  egress-shown u i k l _ _ f r = absurd cc

  side-shown : (u : ℕ) (i : UnitId) (side : Side) (k l : ℕ) (s : Sort) (m : Message) → fits s m ≡ true → unit_receives side s ≡ true → shown o (side_puts net u i side k l m) ≡ sent_by net u o (from_side net i side l s (counted_in m))
  side-shown u i Ingress k l s m f r = ingress-shown u i.device k s m f
  side-shown u i Egress k l s m f r = egress-shown u i k l s m f r

  notice-off : (u before : ℕ) (t : Option ℕ) → on_link o (notice_puts net u before t) ≡ []
  notice-off u before None = refl
  notice-off u before (Some t) = unless-off (before == t) (send_all NoticeMsg (links_out net u Notice)) (off u Notice NoticeMsg refl)

  dump-off : (u n : ℕ) (m : Message) → on_link o (dump_puts net u n m) ≡ []
  dump-off u n PollMsg = off u Dump (DumpMsg n) refl
  dump-off u n _ = refl

  unit-shown : (u : ℕ) (i : UnitId) (h : History) (c l : ℕ) (m : Message) → fits (link_of net l).sort m ≡ true → unit_receives i.side (link_of net l).sort ≡ true
      → shown o (unit_puts net u i h c l m) ≡ sent_by net u o (sends_of net (OfUnit i) l (counted_in m))
  unit-shown u i h c l m f r = off-shown o (side_puts net u i i.side (id_after m h) l m) (notice_puts net u (last c h) (stamp_of m) ++ dump_puts net u (suc (length h)) m)
      (both-off (notice_puts net u (last c h) (stamp_of m)) (dump_puts net u (suc (length h)) m) (notice-off u (last c h) (stamp_of m)) (dump-off u (suc (length h)) m))
      ∙ side-shown u i i.side (id_after m h) l (link_of net l).sort m f r

  -- Control planes, whose puts go by other links.

  served-off : (a : ℕ) (f : ServedUnit → List Put) → ((v : ServedUnit) → (v.poll ≡ o → ⊥) → on_link o (f v) ≡ []) → on_link o (flat_map f (served net a)) ≡ []
  served-off a f each = all (served net a) (each-map (λ (v : ServedUnit). v.poll ≡ o → ⊥) (serving net a) (links_out net a Poll)
      (each-imp (IsOut net a Poll) (λ l. l ≡ o → ⊥) (links_out net a Poll) (λ l x e. other-sort (link_of net o).sort Poll on refl (ap (λ k. (link_of net k).sort) (sym e) ∙ x.sort)) (each-out net a Poll)))
    where
      all : (vs : List ServedUnit) → Each (λ (v : ServedUnit). v.poll ≡ o → ⊥) vs → on_link o (flat_map f vs) ≡ []
      all [] e = refl
      all (v ∷ vs) e = both-off (f v) (flat_map f vs) (each v e.0) (all vs e.1)

  control-off : (a : ℕ) (h : History) (c : ℕ) (m : Message) → on_link o (control_puts net a h c m) ≡ []
  control-off a h c (BeginMsg k) = off a Init (InitMsg k) refl
  control-off a h c NoticeMsg = served-off a (λ v. if c == v.notice then poll_puts v h else []) (λ v ne. when-off (c == v.notice) (poll_puts v h) (polls-else v h o ne))
  control-off a h c (DumpMsg n) = served-off a (λ v. if c == v.dump then dump_answer net a h n v else []) (λ v ne. when-off (c == v.dump) (dump_answer net a h n v)
      (both-off (send_all (DoneMsg (unit_place net v.unit) n) (links_out net a Done)) (if is_again (action_choice net a) v h then send PollMsg v.poll ∷ [] else [])
      (off a Done (DoneMsg (unit_place net v.unit) n) refl) (again-else (is_again (action_choice net a) v h) v.poll o ne)))
  control-off a h c _ = refl

-- A step that takes a message, and one that acts.

pub taken-shown : (s : Setup) (o : ℕ) → bears (link_of s.net o).sort ≡ true → (a : ℕ) (actor : ActorId) (h : History) (c l : ℕ) (m : Message) → fits (link_of s.net l).sort m ≡ true
    → ((i : UnitId) → actor ≡ OfUnit i → unit_receives i.side (link_of s.net l).sort ≡ true) → shown o (puts_of s a actor h c l m) ≡ sent_by s.net a o (sends_of s.net actor l (counted_in m))
taken-shown s o on a Observer h c l m f r = refl
taken-shown s o on a (Control d) h c l m f r = ap (map counted_in) (control-off s.net o on a h c m)
taken-shown s o on a (OfUnit i) h c l m f r = unit-shown s.net o on a i h c l m f (r i refl)
taken-shown s o on a (OfHost i) h c l m f r = refl

guarded-off : (o : ℕ) (b : Bool) (xs ps : List Put) → on_link o xs ≡ [] → guarded b xs ≡ Some ps → on_link o ps ≡ []
guarded-off o true xs ps q e = let x : xs ≡ ps = cc in ap (on_link o) (sym x) ∙ q
guarded-off o false xs ps q e = absurd cc

pub acted-shown : (s : Setup) (o : ℕ) → bears (link_of s.net o).sort ≡ true → (f a : ℕ) (actor : ActorId) (h : History) (n : ℕ) (ps : List Put) → action s f a actor h n ≡ Some ps
    → shown o ps ≡ sent_by s.net a o (injected (option_map packet_of (slice_get (frames_for s actor) (taken (action_choice s.net a) h))))
acted-shown s o on f a Observer h zero ps e = ap (map counted_in) (guarded-off o (can_issue s f h) (begin_all s.net (suc (issued s.net h))) ps (off s.net o on 0 Begin (BeginMsg (suc (issued s.net h))) refl) e)
acted-shown s o on f a Observer h (suc zero) ps e = ap (map counted_in) (guarded-off o (can_resend s f h) (begin_all s.net (issued s.net h)) ps (off s.net o on 0 Begin (BeginMsg (issued s.net h)) refl) e)
acted-shown s o on f a (Control d) h zero ps e = ap (map counted_in) (guarded-off o (not (is_swept s.net a h)) (flat_map (λ v. poll_puts v h) (served s.net a)) ps
    (served-off s.net o on a (λ v. poll_puts v h) (λ v ne. polls-else v h o ne)) e)
acted-shown s o on f a (OfHost i) h zero ps e = of_frame (slice_get (frames_of s i) (taken (action_choice s.net a) h)) e
  where
    of_frame : (x : Option (List ℕ)) → option_map (λ bytes. send_all (HostMsg bytes) (links_out s.net a FromHost)) x ≡ Some ps → shown o ps ≡ sent_by s.net a o (injected (option_map packet_of x))
    of_frame None q = absurd cc
    of_frame (Some bytes) q = let x : send_all (HostMsg bytes) (links_out s.net a FromHost) ≡ ps = cc in ap (shown o) (sym x) ∙ send-shown o (HostMsg bytes) (links_out s.net a FromHost)
acted-shown s o on f a Observer h (suc (suc n)) ps e = absurd cc
acted-shown s o on f a (Control d) h (suc n) ps e = absurd cc
acted-shown s o on f a (OfHost i) h (suc n) ps e = absurd cc
acted-shown s o on f a (OfUnit i) h n ps e = absurd cc
