-- What hostile steps take and put is bad, and nothing else is; and what units and control planes put is told anew, where what they take is.
use Rattle.std.proofs.Common.{◌≡◌, ℕ, suc, zero, ◌-◌, List, [], ◌∷◌, ◌++◌, length, refl, sym, ap, subst, ◌∙◌, Option, Some, None, inl, inr}
use Rattle.std.specs.Prelude.{true, false, Bool, ◌⊎◌, ◌||◌, ◌==◌, cond, not, if◌then◌else◌, filter, flat_map, option_map, slice_get, is_none, map, max, nat_eq, unwrap_or}
use Rattle.std.specs.List.{list_any}
use Rattle.std.proofs.lemmas.Bool.Decides.{eqb_tells}
use Rattle.std.proofs.lemmas.List.{map-append}
use Rattle.sl_layout.specs.declared.actor.ActorId.{ActorId}
use Rattle.sl_layout.specs.declared.actor.ActorId.TheVariants.{Observer, Control, Unit as OfUnit, Host as OfHost}
use Rattle.sl_layout.specs.declared.actor.Side.{Side}
use Rattle.sl_layout.specs.declared.actor.Side.TheVariants.{Ingress, Egress}
use Rattle.sl_layout.specs.declared.actor.Sort.TheVariants.{FromHost, Init, Dump, Begin, Done, Poll}
use Rattle.sl_layout.specs.Net.{Net, actor_of, links_out, action_choice, unit_place, link_of, links_into, choice_of}
use Rattle.sl_layout.specs.Serving.{ServedUnit, served, serving}
use Rattle.sl_net.specs.declared.input.Packet.{Packet}
use Rattle.sl_parts.specs.Lists.{Each}
use Rattle.sl_parts.proofs.Lists.{each-append, each-imp, each-flat, each-of, each-map}
use Rattle.sl_model.specs.declared.message.Message.{Message}
use Rattle.sl_model.specs.declared.message.Message.TheVariants.{Host as HostMsg, Init as InitMsg, Poll as PollMsg, Notice as NoticeMsg, Dump as DumpMsg, Begin as BeginMsg, Done as DoneMsg}
use Rattle.sl_model.specs.declared.message.Put.{Put}
use Rattle.sl_model.specs.declared.message.Step.{Step}
use Rattle.sl_model.specs.Frame.{packet_of}
use Rattle.sl_model.specs.Words.{listed}
use Rattle.sl_model.specs.History.{History, stamp_of, last, on_link, taken, id}
use Rattle.sl_model.specs.Counting.{is_bad}
use Rattle.sl_model.specs.Setup.{Setup, frames_of}
use Rattle.sl_model.specs.Knowledge.{is_again, is_swept, issued, can_issue, can_resend}
use Rattle.sl_model.specs.Puts.{send, send_all, route_frame, side_puts, dump_puts, id_after, dump_answer, control_puts, puts_of, guarded, action, notice_puts, unit_puts, poll_puts, begin_all}
use Rattle.sl_model.specs.Made.{Took, Acted}
use Rattle.sl_cut.specs.Honest.{puts_bad, is_hostile, honest_setup}
use Rattle.sl_layout.specs.declared.actor.UnitId.{UnitId}
use Rattle.sl_net.specs.Ways.{IsOut}
use Rattle.sl_net.specs.Wired.{IsWired, Reports}
use Rattle.sl_cut.proofs.Hostile.Flowing.{IsFlowing, AreFlowing, flow-side, flow-notice, flow-poll, flow-all, flow-if}
use Rattle.sl_cut.proofs.Hostile.Kept.{taken-kept, outstanding-kept, again-kept, swept-kept, issue-kept, resend-kept}
use Rattle.sl_cut.proofs.Honest.Anew.{unmoved, Telling, anew, anew_put, anew_step, stamp-anew, keeps-anew}

abbrev pub is_good : Message → Bool
is_good m = not (is_bad (Some m))

abbrev pub IsFair : Put → Type 0
IsFair p = puts_bad p ≡ false

-- What is put for a message that is taken, and by all but hosts of their own, is fair.

fair-all : (m : Message) → is_bad (Some m) ≡ false → (ls : List ℕ) → Each IsFair (send_all m ls)
fair-all m e [] = tt
fair-all m e (l ∷ ls) = (e, fair-all m e ls)

fair-if : (b : Bool) (ps qs : List Put) → Each IsFair ps → Each IsFair qs → Each IsFair (if b then ps else qs)
fair-if true ps qs e f = e
fair-if false ps qs e f = f

fair-flow : (ps : List Put) → AreFlowing ps → Each IsFair ps
fair-flow ps e = each-imp (λ p. IsFlowing p.message) IsFair ps (λ p f. fair p.message f) e
  where
    fair : (m : Message) → IsFlowing m → is_bad (Some m) ≡ false
    fair (HostMsg bytes) f = f
    fair (DumpMsg n) f = refl
    fair (DoneMsg place n) f = refl
    fair _ f = refl

fair-dump : (net : Net) (u n : ℕ) (m : Message) → Each IsFair (dump_puts net u n m)
fair-dump net u n PollMsg = fair-all (DumpMsg n) refl (links_out net u Dump)
fair-dump net u n _ = tt

fair-answer : (net : Net) (a : ℕ) (h : History) (n : ℕ) (v : ServedUnit) → Each IsFair (dump_answer net a h n v)
fair-answer net a h n v = each-append IsFair _ _ (fair-all (DoneMsg (unit_place net v.unit) n) refl (links_out net a Done)) (fair-if (is_again (action_choice net a) v h) (send PollMsg v.poll ∷ []) [] (refl, tt) tt)

fair-each : (f : ServedUnit → List Put) → ((v : ServedUnit) → Each IsFair (f v)) → (vs : List ServedUnit) → Each IsFair (flat_map f vs)
fair-each f e vs = each-flat IsFair f vs (each-of (λ v. Each IsFair (f v)) vs (λ v m. e v))

fair-control : (net : Net) (a : ℕ) (h : History) (c : ℕ) (m : Message) → Each IsFair (control_puts net a h c m)
fair-control net a h c (BeginMsg k) = fair-all (InitMsg k) refl (links_out net a Init)
fair-control net a h c NoticeMsg = fair-each _ (λ v. fair-if (c == v.notice) _ [] (fair-flow _ (flow-poll v h)) tt) (served net a)
fair-control net a h c (DumpMsg n) = fair-each _ (λ v. fair-if (c == v.dump) _ [] (fair-answer net a h n v) tt) (served net a)
fair-control net a h c _ = tt

pub fair-took : (s : Setup) (a : ℕ) (actor : ActorId) (h : History) (c l : ℕ) (m : Message) → Each IsFair (puts_of s a actor h c l m)
fair-took s a (Control d) h c l m = fair-control s.net a h c m
fair-took s a (OfUnit i) h c l m = each-append IsFair _ _ (fair-flow _ (flow-side s.net a i i.side (id_after m h) l m))
    (each-append IsFair _ _ (fair-flow _ (flow-notice s.net a (last c h) (stamp_of m))) (fair-dump s.net a (suc (length h)) m))
fair-took s a Observer h c l m = tt
fair-took s a (OfHost i) h c l m = tt

fair-guarded : (b : Bool) (ps qs : List Put) → Each IsFair ps → guarded b ps ≡ Some qs → Each IsFair qs
fair-guarded true ps qs e g = let q : ps ≡ qs = cc in subst (Each IsFair) q e
fair-guarded false ps qs e g = absurd cc

-- an own action puts what is fair, or is that of a host that sends a frame
pub record Sends (s : Setup) (a : ℕ) (h : History) (n : ℕ) (ps : List Put) (i : ℕ) : Type 0 where
  pub bytes : List ℕ
  pub first_action : n ≡ 0
  pub next : slice_get (frames_of s i) (taken (action_choice s.net a) h) ≡ Some bytes
  pub puts : ps ≡ send_all (HostMsg bytes) (links_out s.net a FromHost)

pub sends-of : (s : Setup) (f a i : ℕ) (h : History) (n : ℕ) (ps : List Put) → action s f a (OfHost i) h n ≡ Some ps → Sends s a h n ps i
sends-of s f a i h zero ps e = by_frame (slice_get (frames_of s i) (taken (action_choice s.net a) h)) refl e
  where
    by_frame : (o : Option (List ℕ)) → slice_get (frames_of s i) (taken (action_choice s.net a) h) ≡ o
        → option_map (λ bytes. send_all (HostMsg bytes) (links_out s.net a FromHost)) o ≡ Some ps → Sends s a h 0 ps i
    by_frame None q e = absurd cc
    by_frame (Some bytes) q e = record { bytes = bytes; first_action = refl; next = q; puts = (let x : send_all (HostMsg bytes) (links_out s.net a FromHost) ≡ ps = cc in sym x) }
sends-of s f a i h (suc n) ps e = absurd cc

pub fair-acted : (s : Setup) (f a : ℕ) (actor : ActorId) (h : History) (n : ℕ) (ps : List Put) → ((i : ℕ) → actor ≡ OfHost i → ⊥) → action s f a actor h n ≡ Some ps → Each IsFair ps
fair-acted s f a Observer h zero ps ne e = fair-guarded (can_issue s f h) _ ps (fair-all (BeginMsg (suc (issued s.net h))) refl (links_out s.net 0 Begin)) e
fair-acted s f a Observer h (suc zero) ps ne e = fair-guarded (can_resend s f h) _ ps (fair-all (BeginMsg (issued s.net h)) refl (links_out s.net 0 Begin)) e
fair-acted s f a Observer h (suc (suc n)) ps ne e = absurd cc
fair-acted s f a (Control d) h zero ps ne e = fair-guarded (not (is_swept s.net a h)) _ ps (fair-each _ (λ v. fair-flow _ (flow-poll v h)) (served s.net a)) e
fair-acted s f a (Control d) h (suc n) ps ne e = absurd cc
fair-acted s f a (OfUnit i) h n ps ne e = absurd cc
fair-acted s f a (OfHost i) h n ps ne e = absurd (ne i refl)

-- Puts on a link, and what was taken.

pub none-bad : (ps : List Put) → Each IsFair ps → list_any puts_bad ps ≡ false
none-bad [] e = refl
none-bad (p ∷ ps) e = (λ i. e.0 i || none-bad ps e.1 i)

pub none-bad-each : (ps : List Put) → list_any puts_bad ps ≡ false → Each IsFair ps
none-bad-each [] e = tt
none-bad-each (p ∷ ps) e = by_bool (puts_bad p) refl e (none-bad-each ps)
  where
    by_bool : (b : Bool) → puts_bad p ≡ b → (b || list_any puts_bad ps) ≡ false → (list_any puts_bad ps ≡ false → Each IsFair ps) → Each IsFair (p ∷ ps)
    by_bool true q e rest = absurd cc
    by_bool false q e rest = (q, rest e)

pub good-fair : (l : ℕ) (ps : List Put) → Each IsFair ps → filter is_good (on_link l ps) ≡ on_link l ps
good-fair l [] e = refl
good-fair l (p ∷ ps) e = by_bool (p.link == l) (good-fair l ps e.1)
  where
    by_bool : (b : Bool) → filter is_good (on_link l ps) ≡ on_link l ps → filter is_good (cond b (p.message ∷ on_link l ps) (on_link l ps)) ≡ cond b (p.message ∷ on_link l ps) (on_link l ps)
    by_bool true f = ap (λ b. cond (not b) (p.message ∷ filter is_good (on_link l ps)) (filter is_good (on_link l ps))) e.0 ∙ ap (λ r. p.message ∷ r) f
    by_bool false f = f

sent-bad : (l : ℕ) (m : Message) (ls : List ℕ) → is_bad (Some m) ≡ true → filter is_good (on_link l (send_all m ls)) ≡ []
sent-bad l m [] e = refl
sent-bad l m (k ∷ ls) e = by_bool (k == l) (sent-bad l m ls e)
  where
    by_bool : (b : Bool) → filter is_good (on_link l (send_all m ls)) ≡ [] → filter is_good (cond b (m ∷ on_link l (send_all m ls)) (on_link l (send_all m ls))) ≡ []
    by_bool true f = ap (λ b. cond (not b) (m ∷ filter is_good (on_link l (send_all m ls))) (filter is_good (on_link l (send_all m ls)))) e ∙ f
    by_bool false f = f

any-sent : (m : Message) (ls : List ℕ) → list_any puts_bad (send_all m ls) ≡ true → is_bad (Some m) ≡ true
any-sent m [] e = absurd cc
any-sent m (l ∷ ls) e = by_bool (is_bad (Some m)) refl e (any-sent m ls)
  where
    by_bool : (b : Bool) → is_bad (Some m) ≡ b → (b || list_any puts_bad (send_all m ls)) ≡ true → (list_any puts_bad (send_all m ls) ≡ true → is_bad (Some m) ≡ true) → is_bad (Some m) ≡ true
    by_bool true q e rest = q
    by_bool false q e rest = rest e

-- a unit and a control plane put nothing for a bad frame
bad-puts : (s : Setup) (a : ℕ) (actor : ActorId) (h : History) (c l : ℕ) (m : Message) → is_bad (Some m) ≡ true → puts_of s a actor h c l m ≡ []
bad-puts s a (Control d) h c l (HostMsg bytes) e = refl
bad-puts s a (OfUnit i) h c l (HostMsg bytes) e = by_side i.side
  where
    none : packet_of bytes ≡ None
    none = by_packet (packet_of bytes) e
      where
        by_packet : (o : Option Packet) → is_none o ≡ true → o ≡ None
        by_packet None q = refl
        by_packet (Some p) q = absurd cc

    by_side : (side : Side) → side_puts s.net a i side (id_after (HostMsg bytes) h) l (HostMsg bytes) ++ [] ≡ []
    by_side Ingress = ap (λ o. route_frame s.net a i.device (id_after (HostMsg bytes) h) o ++ []) none
    by_side Egress = refl
bad-puts s a Observer h c l (HostMsg bytes) e = refl
bad-puts s a (OfHost i) h c l (HostMsg bytes) e = refl
bad-puts s a actor h c l _ e = absurd cc

-- what a hostile step puts and takes is bad
pub record IsGone (s : Step) : Type 0 where
  pub puts : (l : ℕ) → filter is_good (on_link l s.puts) ≡ []
  pub taken : filter is_good (listed s.taken) ≡ []

pub gone : (s : Setup) (a : ℕ) (h : History) (step : Step) → Took s a h step ⊎ Acted s a h step → is_hostile step ≡ true → IsGone step
gone s a h step (inl t) e = by_bool (is_bad (Some t.message)) refl
  where
    by_bool : (b : Bool) → is_bad (Some t.message) ≡ b → IsGone step
    by_bool true q = record {
      puts = λ l. ap (λ ps. filter is_good (on_link l ps)) (t.puts ∙ bad-puts s a (actor_of s.net a) h step.choice t.link t.message q);
      taken = ap (λ o. filter is_good (listed o)) t.taken ∙ ap (λ b. cond (not b) (t.message ∷ []) []) q;
    }
    by_bool false q = let none : list_any puts_bad step.puts ≡ false = ap (list_any puts_bad) t.puts ∙ none-bad _ (fair-took s a (actor_of s.net a) h step.choice t.link t.message) in
        let f : is_hostile step ≡ false = (λ i. is_bad (t.taken i) || none i) ∙ ap (λ b. b || false) q in absurd cc
gone s a h step (inr x) e = by_actor (actor_of s.net a) x.puts
  where
    quiet : is_bad step.taken ≡ false
    quiet = ap is_bad x.taken

    none-taken : filter is_good (listed step.taken) ≡ []
    none-taken = ap (λ o. filter is_good (listed o)) x.taken

    fair : Each IsFair step.puts → IsGone step
    fair f = let y : is_hostile step ≡ false = (λ i. quiet i || none-bad step.puts f i) in absurd cc

    by_actor : (actor : ActorId) → action s x.floor a actor h (step.choice - action_choice s.net a) ≡ Some step.puts → IsGone step
    by_actor Observer p = fair (fair-acted s x.floor a Observer h _ step.puts (λ i q. cc) p)
    by_actor (Control d) p = fair (fair-acted s x.floor a (Control d) h _ step.puts (λ i q. cc) p)
    by_actor (OfUnit i) p = absurd cc
    by_actor (OfHost i) p = let y = sends-of s x.floor a i h _ step.puts p in
        let b : is_bad (Some (HostMsg y.bytes)) ≡ true = any-sent (HostMsg y.bytes) (links_out s.net a FromHost) (ap (list_any puts_bad) (sym y.puts) ∙ ap (λ b. b || list_any puts_bad step.puts) (sym quiet) ∙ e) in
        record { puts = λ l. ap (λ ps. filter is_good (on_link l ps)) y.puts ∙ sent-bad l (HostMsg y.bytes) (links_out s.net a FromHost) b; taken = none-taken }

-- and any other is as it is
pub record IsStaying (s : Step) : Type 0 where
  pub fair : Each IsFair s.puts
  pub puts : (l : ℕ) → filter is_good (on_link l s.puts) ≡ on_link l s.puts
  pub good : is_bad s.taken ≡ false
  pub taken : filter is_good (listed s.taken) ≡ listed s.taken

pub stays : (step : Step) → is_hostile step ≡ false → IsStaying step
stays step e = by_bool (is_bad step.taken) refl e
  where
    by_taken : (o : Option Message) → is_bad o ≡ false → filter is_good (listed o) ≡ listed o
    by_taken None q = refl
    by_taken (Some m) q = ap (λ b. cond (not b) (m ∷ []) []) q

    by_bool : (b : Bool) → is_bad step.taken ≡ b → (b || list_any puts_bad step.puts) ≡ false → IsStaying step
    by_bool true q f = absurd cc
    by_bool false q f = let fair = none-bad-each step.puts f in record { fair = fair; puts = λ l. good-fair l step.puts fair; good = q; taken = by_taken step.taken q }

-- What flows stays what it is.
flow-anew : (tell : Telling) (net : Net) (ps : List Put) → AreFlowing ps → map (anew_put tell net) ps ≡ ps
flow-anew tell net [] e = refl
flow-anew tell net (p ∷ ps) e = λ i. record { link = p.link; message = same p.message e.0 i } ∷ flow-anew tell net ps e.1 i
  where
    same : (m : Message) → IsFlowing m → anew tell net p.link m ≡ m
    same (DumpMsg n) f = absurd f
    same (DoneMsg place n) f = absurd f
    same _ f = refl

-- Units.

side-anew : (tell : Telling) (net : Net) (u : ℕ) (i : UnitId) (side : Side) (k l : ℕ) (m : Message) → side_puts net u i side k l (anew tell net l m) ≡ side_puts net u i side k l m
side-anew tell net u i Ingress k l = unmoved (side_puts net u i Ingress k l) (λ m n. refl) (λ place m n. refl) tell net l
side-anew tell net u i Egress k l = unmoved (side_puts net u i Egress k l) (λ m n. refl) (λ place m n. refl) tell net l

dumps-sent : (tell : Telling) (net : Net) (u n k : ℕ) → tell (unit_place net u) k ≡ n → (ls : List ℕ) → Each (IsOut net u Dump) ls → send_all (DumpMsg n) ls ≡ map (anew_put tell net) (send_all (DumpMsg k) ls)
dumps-sent tell net u n k t [] e = refl
dumps-sent tell net u n k t (l ∷ ls) e = let x : n ≡ tell (unit_place net (link_of net l).from) k = sym t ∙ ap (λ a. tell (unit_place net a) k) (sym e.0.from) in
    λ i. send (DumpMsg (x i)) l ∷ dumps-sent tell net u n k t ls e.1 i

-- n is how many steps the unit has made with this one, k the same with hostile steps
dump-anew : (tell : Telling) (net : Net) (u l n k : ℕ) (m : Message) → (m ≡ PollMsg → tell (unit_place net u) k ≡ n) → Each (IsOut net u Dump) (links_out net u Dump)
    → dump_puts net u n (anew tell net l m) ≡ map (anew_put tell net) (dump_puts net u k m)
dump-anew tell net u l n k PollMsg t e = dumps-sent tell net u n k (t refl) (links_out net u Dump) e
dump-anew tell net u l n k (DumpMsg j) t e = refl
dump-anew tell net u l n k (DoneMsg place j) t e = refl
dump-anew tell net u l n k _ t e = refl

pub unit-anew : (tell : Telling) (net : Net) (u : ℕ) (i : UnitId) (g h : History) (c l : ℕ) (m : Message) → id g ≡ id h → last c g ≡ last c h
    → (m ≡ PollMsg → tell (unit_place net u) (suc (length h)) ≡ suc (length g)) → Each (IsOut net u Dump) (links_out net u Dump)
    → unit_puts net u i g c l (anew tell net l m) ≡ map (anew_put tell net) (unit_puts net u i h c l m)
unit-anew tell net u i g h c l m same seen t outs =
    let k = max (unwrap_or (stamp_of m) 0) (id h) in
    let side = side_puts net u i i.side k l m in
    let notice = notice_puts net u (last c h) (stamp_of m) in
    let dump = dump_puts net u (suc (length h)) m in
    (λ j. side_puts net u i i.side (max (unwrap_or (stamp-anew tell net l m j) 0) (same j)) l (anew tell net l m)
    ++ (notice_puts net u (seen j) (stamp-anew tell net l m j) ++ dump_puts net u (suc (length g)) (anew tell net l m)))
    ∙ (λ j. (side-anew tell net u i i.side k l m ∙ sym (flow-anew tell net side (flow-side net u i i.side k l m))) j
    ++ (sym (flow-anew tell net notice (flow-notice net u (last c h) (stamp_of m))) j ++ dump-anew tell net u l (suc (length g)) (suc (length h)) m t outs j))
    ∙ sym (map-append (anew_put tell net) side (notice ++ dump) ∙ ap (λ r. map (anew_put tell net) side ++ r) (map-append (anew_put tell net) notice dump))

-- Control planes.

-- a dump that a control plane takes by the choice for a unit's dumps comes from the unit
pub dump-wire : (net : Net) (a d c l : ℕ) → IsWired net → actor_of net a ≡ Control d → slice_get (links_into net a) c ≡ Some l → Each (λ v. c ≡ v.dump → (link_of net l).from ≡ v.unit) (served net a)
dump-wire net a d c l wired q k = each-map (λ v. c ≡ v.dump → (link_of net l).from ≡ v.unit) (serving net a) (links_out net a Poll)
    (each-imp (IsOut net a Poll) (λ p. c ≡ (serving net a p).dump → (link_of net l).from ≡ (link_of net p).to) (links_out net a Poll) from (wired.ways.outs a Poll))
  where
    from : (p : ℕ) → IsOut net a Poll p → c ≡ (serving net a p).dump → (link_of net l).from ≡ (link_of net p).to
    from p o e =
        let unit = wired.poll_to p o.is_link o.sort in
        let r : Reports net (link_of net p).to = wired.reports (link_of net p).to unit.0 unit.1 in
        let here : a ≡ r.control = sym o.from ∙ ap (λ x. (link_of net x).from) (r.polled p refl o.sort) ∙ r.poll_from in
        let choice : c ≡ choice_of net r.dump = e ∙ ap (λ b. (serving net b p).dump) here ∙ r.dump_choice in
        let there : slice_get (links_into net a) c ≡ Some r.dump = (λ i. slice_get (links_into net (here i)) (choice i)) ∙ r.dump_taken in
        let one : l ≡ r.dump = cc in
        ap (λ x. (link_of net x).from) one ∙ r.dump_out.from

flat-same : (f : Put → Put) (x y : ServedUnit → List Put) (vs : List ServedUnit) → Each (λ v. x v ≡ map f (y v)) vs → flat_map x vs ≡ map f (flat_map y vs)
flat-same f x y [] e = refl
flat-same f x y (v ∷ vs) e = (λ i. e.0 i ++ flat-same f x y vs e.1 i) ∙ sym (map-append f (y v) (flat_map y vs))

dones-sent : (tell : Telling) (net : Net) (place n : ℕ) (ls : List ℕ) → send_all (DoneMsg place (tell place n)) ls ≡ map (anew_put tell net) (send_all (DoneMsg place n) ls)
dones-sent tell net place n [] = refl
dones-sent tell net place n (l ∷ ls) = ap (λ ps. send (DoneMsg place (tell place n)) l ∷ ps) (dones-sent tell net place n ls)

poll-anew : (tell : Telling) (net : Net) (a : ℕ) (h : History) (v : ServedUnit) → poll_puts v (map (anew_step tell net a) h) ≡ map (anew_put tell net) (poll_puts v h)
poll-anew tell net a h v = ap (λ b. if b then [] else send PollMsg v.poll ∷ []) (outstanding-kept (anew_step tell net a) (keeps-anew tell net a) v h)
    ∙ sym (flow-anew tell net (poll_puts v h) (flow-poll v h))

answer-anew : (tell : Telling) (net : Net) (a : ℕ) (h : History) (n : ℕ) (v : ServedUnit)
    → dump_answer net a (map (anew_step tell net a) h) (tell (unit_place net v.unit) n) v ≡ map (anew_put tell net) (dump_answer net a h n v)
answer-anew tell net a h n v =
    let dones = send_all (DoneMsg (unit_place net v.unit) n) (links_out net a Done) in
    let again = if is_again (action_choice net a) v h then send PollMsg v.poll ∷ [] else [] in
    (λ i. dones-sent tell net (unit_place net v.unit) n (links_out net a Done) i
    ++ (if again-kept (anew_step tell net a) (keeps-anew tell net a) (action_choice net a) v h i then send PollMsg v.poll ∷ [] else []))
    ∙ ap (λ r. map (anew_put tell net) dones ++ r) (sym (flow-anew tell net again (flow-if (is_again (action_choice net a) v h) (send PollMsg v.poll ∷ []) [] (tt, tt) tt)))
    ∙ sym (map-append (anew_put tell net) dones again)

pub control-anew : (tell : Telling) (net : Net) (a d : ℕ) (h : History) (c l : ℕ) (m : Message) → IsWired net → actor_of net a ≡ Control d → slice_get (links_into net a) c ≡ Some l
    → control_puts net a (map (anew_step tell net a) h) c (anew tell net l m) ≡ map (anew_put tell net) (control_puts net a h c m)
control-anew tell net a d h c l (BeginMsg k) wired q e = sym (flow-anew tell net _ (flow-all (InitMsg k) tt (links_out net a Init)))
control-anew tell net a d h c l NoticeMsg wired q e = flat-same (anew_put tell net) _ _ (served net a) (each-of _ (served net a) (λ v m. by_bool v (c == v.notice)))
  where
    by_bool : (v : ServedUnit) (b : Bool) → (if b then poll_puts v (map (anew_step tell net a) h) else []) ≡ map (anew_put tell net) (if b then poll_puts v h else [])
    by_bool v true = poll-anew tell net a h v
    by_bool v false = refl
control-anew tell net a d h c l (DumpMsg n) wired q e = flat-same (anew_put tell net) _ _ (served net a)
    (each-imp (λ v. c ≡ v.dump → (link_of net l).from ≡ v.unit) _ (served net a) (λ v f. by_tells v f (eqb_tells c v.dump)) (dump-wire net a d c l wired q e))
  where
    k : ℕ
    k = tell (unit_place net (link_of net l).from) n

    by_tells : (v : ServedUnit) → (c ≡ v.dump → (link_of net l).from ≡ v.unit) → ((nat_eq c v.dump ≡ true) × (c ≡ v.dump)) ⊎ ((nat_eq c v.dump ≡ false) × (c ≡ v.dump → ⊥))
        → (if c == v.dump then dump_answer net a (map (anew_step tell net a) h) k v else []) ≡ map (anew_put tell net) (if c == v.dump then dump_answer net a h n v else [])
    by_tells v f (inl x) = ap (λ b. if b then dump_answer net a (map (anew_step tell net a) h) k v else []) x.0
        ∙ ap (λ u. dump_answer net a (map (anew_step tell net a) h) (tell (unit_place net u) n) v) (f x.1) ∙ answer-anew tell net a h n v
        ∙ sym (ap (λ b. map (anew_put tell net) (if b then dump_answer net a h n v else [])) x.0)
    by_tells v f (inr x) = ap (λ b. if b then dump_answer net a (map (anew_step tell net a) h) k v else []) x.0
        ∙ sym (ap (λ b. map (anew_put tell net) (if b then dump_answer net a h n v else [])) x.0)
control-anew tell net a d h c l (DoneMsg place n) wired q e = refl
control-anew tell net a d h c l _ wired q e = refl

-- Own actions of the observer and of control planes.

guarded-anew : (tell : Telling) (net : Net) (b : Bool) (ps : List Put) → AreFlowing ps → guarded b ps ≡ option_map (map (anew_put tell net)) (guarded b ps)
guarded-anew tell net false ps e = refl
guarded-anew tell net true ps e = ap Some (sym (flow-anew tell net ps e))

begins-flow : (net : Net) (k : ℕ) → AreFlowing (begin_all net k)
begins-flow net k = flow-all (BeginMsg k) tt (links_out net 0 Begin)

pub observer-acts : (tell : Telling) (s : Setup) (f a : ℕ) (h : History) (n : ℕ)
    → action (honest_setup s) f a Observer (map (anew_step tell s.net a) h) n ≡ option_map (map (anew_put tell s.net)) (action s f a Observer h n)
observer-acts tell s f a h zero = let g = anew_step tell s.net a in let k = keeps-anew tell s.net a in
    (λ i. guarded (issue-kept g k s f h i) (begin_all s.net (suc (taken-kept g k (action_choice s.net 0) h i))))
    ∙ guarded-anew tell s.net (can_issue s f h) (begin_all s.net (suc (issued s.net h))) (begins-flow s.net (suc (issued s.net h)))
observer-acts tell s f a h (suc zero) = let g = anew_step tell s.net a in let k = keeps-anew tell s.net a in
    (λ i. guarded (resend-kept g k s f h i) (begin_all s.net (taken-kept g k (action_choice s.net 0) h i)))
    ∙ guarded-anew tell s.net (can_resend s f h) (begin_all s.net (issued s.net h)) (begins-flow s.net (issued s.net h))
observer-acts tell s f a h (suc (suc n)) = refl

pub control-acts : (tell : Telling) (s : Setup) (f a d : ℕ) (h : History) (n : ℕ)
    → action (honest_setup s) f a (Control d) (map (anew_step tell s.net a) h) n ≡ option_map (map (anew_put tell s.net)) (action s f a (Control d) h n)
control-acts tell s f a d h zero = let g = anew_step tell s.net a in
    ap (λ b. guarded (not b) (flat_map (λ v. poll_puts v (map g h)) (served s.net a))) (swept-kept g (keeps-anew tell s.net a) s.net a h)
    ∙ ap (guarded (not (is_swept s.net a h))) (flat-same (anew_put tell s.net) (λ v. poll_puts v (map g h)) (λ v. poll_puts v h) (served s.net a) (each-of _ (served s.net a) (λ v m. poll-anew tell s.net a h v)))
    ∙ by_bool (not (is_swept s.net a h)) (flat_map (λ v. poll_puts v h) (served s.net a))
  where
    by_bool : (b : Bool) (ps : List Put) → guarded b (map (anew_put tell s.net) ps) ≡ option_map (map (anew_put tell s.net)) (guarded b ps)
    by_bool true ps = refl
    by_bool false ps = refl
control-acts tell s f a d h (suc n) = refl
