-- What each actor's step puts: messages that fit their links, with the numbers of the step, which never fall on a link.
use Rattle.std.proofs.Common.{◌≡◌, ℕ, zero, suc, ◌-◌, List, [], ◌∷◌, ◌++◌, length, refl, sym, ap, subst, ◌∙◌, Option, Some, None, inl, inr, arith}
use Rattle.std.specs.Prelude.{true, false, Bool, if◌then◌else◌, ◌==◌, flat_map, option_map, slice_get, not, ◌⊎◌, cond, nat_eq, max, unwrap_or, option_and_then, IsTrue}
use Rattle.sl_net.specs.declared.input.Packet.{Packet}
use Rattle.sl_model.specs.declared.message.Message.{Message}
use Rattle.sl_model.specs.declared.message.Message.TheVariants.{Host as HostMsg, Data, Probe as ProbeMsg, Init as InitMsg, Poll as PollMsg, Notice as NoticeMsg, Dump as DumpMsg, Begin as BeginMsg, Done as DoneMsg}
use Rattle.sl_model.specs.declared.message.Put.{Put}
use Rattle.sl_layout.specs.declared.actor.Sort.{Sort}
use Rattle.sl_layout.specs.declared.actor.Sort.TheVariants.{FromHost, ToHost, Cable, Crossbar, Init, Poll, Notice, Dump, Begin, Done}
use Rattle.sl_layout.specs.declared.actor.ActorId.{ActorId}
use Rattle.sl_layout.specs.declared.actor.ActorId.TheVariants.{Observer, Control, Unit as OfUnit, Host as OfHost}
use Rattle.sl_layout.specs.declared.actor.UnitId.{UnitId}
use Rattle.sl_layout.specs.declared.actor.Side.{Side}
use Rattle.sl_layout.specs.declared.actor.Side.TheVariants.{Ingress, Egress}
use Rattle.sl_layout.specs.Net.{Net, link_of, links_out, actor_of, egress, same_actor, action_choice, unit_place, links_into, links_from, link_numbers, same_sort}
use Rattle.sl_layout.specs.Serving.{ServedUnit, served, serving}
use Rattle.sl_parts.specs.Lists.{Each, Member}
use Rattle.sl_parts.proofs.Lists.{each-append, each-map, each-imp, each-flat, each-filter, each-front, each-at, distinct-filter, distinct-from, Distinct}
use Rattle.sl_model.specs.History.{History, stamp_of, begin_of, dump_of, done_of, last, taken, World, Losses, history, id, takes, put, on_link, without_lost}
use Rattle.sl_model.specs.Frame.{plain_frame, packet_of}
use Rattle.sl_route.specs.Route.{next_port}
use Rattle.sl_model.specs.Setup.{Setup, frames_of}
use Rattle.sl_model.specs.Knowledge.{is_outstanding, is_again, is_swept, issued, can_issue, can_resend}
use Rattle.sl_model.specs.Puts.{send, send_all, crossbar_to, onward, route, route_frame, ingress_puts, egress_puts, is_own_port, side_puts, notice_puts, dump_puts, id_after, unit_puts, poll_puts, dump_answer, control_puts, guarded, begin_all, action, puts_of}
use Rattle.sl_model.specs.Fit.{fits, fits_link, is_stamped}
use Rattle.sl_model.specs.Turns.{Begins}
use Rattle.sl_model.proofs.Worlds.Numbers.{Says, Grows, Ordered, ordered, put-rises, NeverFalls}
use Rattle.sl_net.specs.Ways.{IsOut}
use Rattle.sl_net.proofs.Sorts.{each-out}
use Rattle.std.proofs.lemmas.Bool.Decides.{eqb_tells}
use Rattle.sl_model.specs.declared.message.Step.{Step}
use Rattle.sl_model.specs.Made.{Took, Acted, IsMade, Fifo, IsFifoRun}

pub record Said (k n : ℕ) (m : Message) : Type 0 where
  pub stamp : Says k (stamp_of m)
  pub begin : Says k (begin_of m)
  pub dump : Says n (dump_of m)
  pub done : (place : ℕ) → Says n (done_of place m)

pub record PutBy (net : Net) (k n : ℕ) (p : Put) : Type 0 where
  pub fits : fits_link net p.link p.message ≡ true
  pub said : Said k n p.message

-- Messages.

said-none : (k n : ℕ) (m : Message) → stamp_of m ≡ None → begin_of m ≡ None → dump_of m ≡ None → ((u : ℕ) → done_of u m ≡ None) → Said k n m
said-none k n m s b d e = record { stamp = inl s; begin = inl b; dump = inl d; done = λ u. inl (e u) }

pub said-data : (k n : ℕ) (p : Packet) → Said k n (Data k p)
said-data k n p = record { stamp = inr refl; begin = inl refl; dump = inl refl; done = λ u. inl refl }

pub said-probe : (k n : ℕ) → Said k n (ProbeMsg k)
said-probe k n = record { stamp = inr refl; begin = inl refl; dump = inl refl; done = λ u. inl refl }

pub said-init : (k n : ℕ) → Said k n (InitMsg k)
said-init k n = record { stamp = inr refl; begin = inl refl; dump = inl refl; done = λ u. inl refl }

pub said-dump : (k n : ℕ) → Said k n (DumpMsg n)
said-dump k n = record { stamp = inl refl; begin = inl refl; dump = inr refl; done = λ u. inl refl }

pub said-begin : (k n : ℕ) → Said k n (BeginMsg k)
said-begin k n = record { stamp = inl refl; begin = inr refl; dump = inl refl; done = λ u. inl refl }

pub said-done : (k n v : ℕ) → Said k n (DoneMsg v n)
said-done k n v = record { stamp = inl refl; begin = inl refl; dump = inl refl; done = λ u. by_bool (u == v) }
  where
    by_bool : (b : Bool) → Says n (if b then Some n else None)
    by_bool true = inr refl
    by_bool false = inl refl

pub said-poll : (k n : ℕ) → Said k n PollMsg
said-poll k n = said-none k n PollMsg refl refl refl (λ u. refl)

pub said-notice : (k n : ℕ) → Said k n NoticeMsg
said-notice k n = said-none k n NoticeMsg refl refl refl (λ u. refl)

pub said-host : (k n : ℕ) (b : List ℕ) → Said k n (HostMsg b)
said-host k n b = said-none k n (HostMsg b) refl refl refl (λ u. refl)

-- on links of an actor and a sort
pub put-by : (net : Net) (a : ℕ) (s : Sort) (k n : ℕ) (m : Message) (ls : List ℕ) → fits s m ≡ true → Said k n m → Each (IsOut net a s) ls → Each (PutBy net k n) (send_all m ls)
put-by net a s k n m ls f d h = each-map (PutBy net k n) (send m) ls (each-imp (IsOut net a s) (λ l. PutBy net k n (send m l)) ls
    (λ l o. record { fits = ap (λ i. fits i m) o.sort ∙ f; said = d }) h)

-- a link of those of a sort out of an actor
pub out-of : (net : Net) (a : ℕ) (s : Sort) (l : ℕ) → Member l (links_out net a s) → IsOut net a s l
out-of net a s l = each-at (IsOut net a s) l (links_out net a s) (each-out net a s)

pub distinct-out : (net : Net) (a : ℕ) (t : Sort) → Distinct (links_out net a t)
distinct-out net a t = distinct-filter (λ l. same_sort (link_of net l).sort t) (links_from net a) (distinct-filter (λ l. (link_of net l).from == a) (link_numbers net) (distinct-from 0 (length net.links)))

pub put-out : (net : Net) (a : ℕ) (s : Sort) (k n : ℕ) (m : Message) → fits s m ≡ true → Said k n m → Each (PutBy net k n) (send_all m (links_out net a s))
put-out net a s k n m f d = put-by net a s k n m (links_out net a s) f d (each-out net a s)

-- Units.

route-said : (net : Net) (u d k n : ℕ) (p : Packet) → Each (PutBy net k n) (route net u d k p)
route-said net u d k n p = by_bool (p.hops == 0)
  where
    by_port : (q : Packet) (o : Option ℕ) → Each (PutBy net k n) (onward net u d k q o)
    by_port q None = tt
    by_port q (Some r) = put-by net u Crossbar k n (Data k q) (crossbar_to net u d r) refl (said-data k n q)
        (each-filter (IsOut net u Crossbar) (λ l. same_actor (actor_of net (link_of net l).to) (egress d r)) (links_out net u Crossbar) (each-out net u Crossbar))

    by_bool : (b : Bool) → Each (PutBy net k n) (if b then [] else onward net u d k (record p { hops = p.hops - 1 }) (next_port net.parts d p.dst))
    by_bool true = tt
    by_bool false = by_port (record p { hops = p.hops - 1 }) (next_port net.parts d p.dst)

ingress-said : (net : Net) (u d k n : ℕ) (m : Message) → Each (PutBy net k n) (ingress_puts net u d k m)
ingress-said net u d k n (HostMsg bytes) = of_packet (packet_of bytes)
  where
    of_packet : (o : Option Packet) → Each (PutBy net k n) (route_frame net u d k o)
    of_packet None = tt
    of_packet (Some p) = route-said net u d k n p
ingress-said net u d k n (Data s p) = route-said net u d k n p
ingress-said net u d k n (InitMsg s) = put-out net u Crossbar k n (ProbeMsg k) refl (said-probe k n)
ingress-said net u d k n _ = tt

egress-said : (net : Net) (u d p k n l : ℕ) (m : Message) → Each (PutBy net k n) (egress_puts net u d p k l m)
egress-said net u d p k n l (Data s q) = each-append (PutBy net k n) (send_all (Data k q) (links_out net u Cable)) (send_all (HostMsg (plain_frame q)) (links_out net u ToHost))
    (put-out net u Cable k n (Data k q) refl (said-data k n q)) (put-out net u ToHost k n (HostMsg (plain_frame q)) refl (said-host k n (plain_frame q)))
egress-said net u d p k n l (ProbeMsg s) = by_bool (is_own_port net d p l)
  where
    by_bool : (b : Bool) → Each (PutBy net k n) (if b then send_all (ProbeMsg k) (links_out net u Cable) else [])
    by_bool true = put-out net u Cable k n (ProbeMsg k) refl (said-probe k n)
    by_bool false = tt
egress-said net u d p k n l _ = tt

side-said : (net : Net) (u : ℕ) (i : UnitId) (side : Side) (k n l : ℕ) (m : Message) → Each (PutBy net k n) (side_puts net u i side k l m)
side-said net u i Ingress k n l m = ingress-said net u i.device k n m
side-said net u i Egress k n l m = egress-said net u i.device i.port k n l m

notice-said : (net : Net) (u k n before : ℕ) (o : Option ℕ) → Each (PutBy net k n) (notice_puts net u before o)
notice-said net u k n before None = tt
notice-said net u k n before (Some s) = by_bool (before == s)
  where
    by_bool : (b : Bool) → Each (PutBy net k n) (if b then [] else send_all NoticeMsg (links_out net u Notice))
    by_bool true = tt
    by_bool false = put-out net u Notice k n NoticeMsg refl (said-notice k n)

dump-said : (net : Net) (u k n : ℕ) (m : Message) → Each (PutBy net k n) (dump_puts net u n m)
dump-said net u k n PollMsg = put-out net u Dump k n (DumpMsg n) refl (said-dump k n)
dump-said net u k n _ = tt

pub unit-said : (net : Net) (u : ℕ) (i : UnitId) (h : History) (c l : ℕ) (m : Message) → Each (PutBy net (id_after m h) (suc (length h))) (unit_puts net u i h c l m)
unit-said net u i h c l m = let k = id_after m h in let n = suc (length h) in let P = PutBy net k n in
    let side = side_puts net u i i.side k l m in let notice = notice_puts net u (last c h) (stamp_of m) in let dump = dump_puts net u n m in
    each-append P side (notice ++ dump) (side-said net u i i.side k n l m) (each-append P notice dump (notice-said net u k n (last c h) (stamp_of m)) (dump-said net u k n m))

-- Control planes.

pub served-out : (net : Net) (a : ℕ) → Each (λ v. IsOut net a Poll v.poll) (served net a)
served-out net a = each-map (λ v. IsOut net a Poll v.poll) (serving net a) (links_out net a Poll) (each-out net a Poll)

poll-by : (net : Net) (a k n : ℕ) (v : ServedUnit) → IsOut net a Poll v.poll → PutBy net k n (send PollMsg v.poll)
poll-by net a k n v o = record { fits = ap (λ i. fits i PollMsg) o.sort; said = said-poll k n }

poll-said : (net : Net) (a k n : ℕ) (v : ServedUnit) (h : History) → IsOut net a Poll v.poll → Each (PutBy net k n) (poll_puts v h)
poll-said net a k n v h o = by_bool (is_outstanding v h)
  where
    by_bool : (b : Bool) → Each (PutBy net k n) (if b then [] else send PollMsg v.poll ∷ [])
    by_bool true = tt
    by_bool false = (poll-by net a k n v o, tt)

pub sweep-said : (net : Net) (a k n : ℕ) (h : History) → Each (PutBy net k n) (flat_map (λ v. poll_puts v h) (served net a))
sweep-said net a k n h = each-flat (PutBy net k n) (λ v. poll_puts v h) (served net a) (each-imp (λ v. IsOut net a Poll v.poll) (λ v. Each (PutBy net k n) (poll_puts v h)) (served net a)
    (λ v o. poll-said net a k n v h o) (served-out net a))

answer-said : (net : Net) (a : ℕ) (h : History) (k n : ℕ) (v : ServedUnit) → IsOut net a Poll v.poll → Each (PutBy net k n) (dump_answer net a h n v)
answer-said net a h k n v o = each-append (PutBy net k n) (send_all (DoneMsg (unit_place net v.unit) n) (links_out net a Done)) (if is_again (action_choice net a) v h then send PollMsg v.poll ∷ [] else [])
    (put-out net a Done k n (DoneMsg (unit_place net v.unit) n) refl (said-done k n (unit_place net v.unit))) (by_bool (is_again (action_choice net a) v h))
  where
    by_bool : (b : Bool) → Each (PutBy net k n) (if b then send PollMsg v.poll ∷ [] else [])
    by_bool true = (poll-by net a k n v o, tt)
    by_bool false = tt

pub control-said : (net : Net) (a : ℕ) (h : History) (c : ℕ) (m : Message) (k n : ℕ) → Says k (begin_of m) → Says n (dump_of m) → Each (PutBy net k n) (control_puts net a h c m)
control-said net a h c (BeginMsg j) k n (inl q) d = absurd cc
control-said net a h c (BeginMsg j) k n (inr q) d = let e : k ≡ j = cc in subst (λ i. Each (PutBy net k n) (send_all (InitMsg i) (links_out net a Init))) e (put-out net a Init k n (InitMsg k) refl (said-init k n))
control-said net a h c NoticeMsg k n b d = each-flat (PutBy net k n) (λ v. if c == v.notice then poll_puts v h else []) (served net a)
    (each-imp (λ v. IsOut net a Poll v.poll) (λ v. Each (PutBy net k n) (if c == v.notice then poll_puts v h else [])) (served net a) (λ v o. by_bool v o (c == v.notice)) (served-out net a))
  where
    by_bool : (v : ServedUnit) → IsOut net a Poll v.poll → (b : Bool) → Each (PutBy net k n) (if b then poll_puts v h else [])
    by_bool v o true = poll-said net a k n v h o
    by_bool v o false = tt
control-said net a h c (DumpMsg j) k n b (inl q) = absurd cc
control-said net a h c (DumpMsg j) k n b (inr q) = let e : n ≡ j = cc in subst (λ i. Each (PutBy net k n) (flat_map (λ v. if c == v.dump then dump_answer net a h i v else []) (served net a))) e
    (each-flat (PutBy net k n) (λ v. if c == v.dump then dump_answer net a h n v else []) (served net a)
    (each-imp (λ v. IsOut net a Poll v.poll) (λ v. Each (PutBy net k n) (if c == v.dump then dump_answer net a h n v else [])) (served net a) (λ v o. by_bool v o (c == v.dump)) (served-out net a)))
  where
    by_bool : (v : ServedUnit) → IsOut net a Poll v.poll → (b : Bool) → Each (PutBy net k n) (if b then dump_answer net a h n v else [])
    by_bool v o true = answer-said net a h k n v o
    by_bool v o false = tt
control-said net a h c _ k n b d = tt

-- Actions.

pub guard-holds : (b : Bool) (ps qs : List Put) → guarded b ps ≡ Some qs → (b ≡ true) × (ps ≡ qs)
guard-holds true ps qs h = (refl, cc)
guard-holds false ps qs h = absurd cc

-- what the observer with the history h begins by its n-th action at the floor f: a new number, or the last again
pub observer-acts : (s : Setup) (f a n : ℕ) (h : History) (ps : List Put) → action s f a Observer h n ≡ Some ps → Begins s f h n ps
observer-acts s f a zero h ps q = let g = guard-holds (can_issue s f h) (begin_all s.net (suc (issued s.net h))) ps q in record { number = suc (issued s.net h); puts = sym g.1; kind = inl (refl, refl, g.0) }
observer-acts s f a (suc zero) h ps q = let g = guard-holds (can_resend s f h) (begin_all s.net (issued s.net h)) ps q in record { number = issued s.net h; puts = sym g.1; kind = inr (refl, refl, g.0) }
observer-acts s f a (suc (suc n)) h ps q = absurd cc

pub begin-said : (net : Net) (k n : ℕ) → Each (PutBy net k n) (begin_all net k)
begin-said net k n = put-out net 0 Begin k n (BeginMsg k) refl (said-begin k n)

-- an action of any other actor puts no number
pub action-said : (s : Setup) (f a n : ℕ) (i : ActorId) (h : History) (ps : List Put) (k j : ℕ) → (i ≡ Observer → ⊥) → action s f a i h n ≡ Some ps → Each (PutBy s.net k j) ps
action-said s f a n Observer h ps k j ne q = absurd (ne refl)
action-said s f a zero (Control d) h ps k j ne q = let g = guard-holds (not (is_swept s.net a h)) (flat_map (λ v. poll_puts v h) (served s.net a)) ps q in
    subst (Each (PutBy s.net k j)) g.1 (sweep-said s.net a k j h)
action-said s f a (suc n) (Control d) h ps k j ne q = absurd cc
action-said s f a n (OfUnit u) h ps k j ne q = absurd cc
action-said s f a zero (OfHost d) h ps k j ne q = by_frame (slice_get (frames_of s d) (taken (action_choice s.net a) h)) q
  where
    by_frame : (o : Option (List ℕ)) → option_map (λ bytes. send_all (HostMsg bytes) (links_out s.net a FromHost)) o ≡ Some ps → Each (PutBy s.net k j) ps
    by_frame None q = absurd cc
    by_frame (Some bytes) q = let x : send_all (HostMsg bytes) (links_out s.net a FromHost) ≡ ps = cc in subst (Each (PutBy s.net k j)) x (put-out s.net a FromHost k j (HostMsg bytes) refl (said-host k j bytes))
action-said s f a (suc n) (OfHost d) h ps k j ne q = absurd cc

-- Messages fit their links, and what a unit puts on a link never falls.

-- Steps.

-- the numbers of what a step puts, for any actor
pub record StepSaid (s : Setup) (step : Step) : Type 0 where
  pub number : ℕ
  pub count : ℕ
  pub said : Each (PutBy s.net number count) step.puts

pub unit-step : (s : Setup) (a : ℕ) (i : UnitId) (h : History) (step : Step) → actor_of s.net a ≡ OfUnit i → Took s a h step ⊎ Acted s a h step
    → Each (PutBy s.net (id (step ∷ h)) (suc (length h))) step.puts
unit-step s a i h step q (inl t) = let p : step.puts ≡ unit_puts s.net a i h step.choice t.link t.message = t.puts ∙ ap (λ x. puts_of s a x h step.choice t.link t.message) q in
    let k : id (step ∷ h) ≡ id_after t.message h = ap (λ o. max (unwrap_or (option_and_then stamp_of o) 0) (id h)) t.taken in
    subst (λ k. Each (PutBy s.net k (suc (length h))) step.puts) (sym k) (subst (Each (PutBy s.net (id_after t.message h) (suc (length h)))) (sym p) (unit-said s.net a i h step.choice t.link t.message))
unit-step s a i h step q (inr t) = let n : action s t.floor a (OfUnit i) h (step.choice - action_choice s.net a) ≡ Some step.puts = subst (λ x. action s t.floor a x h (step.choice - action_choice s.net a) ≡ Some step.puts) q t.puts in absurd cc

pub says-itself : (o : Option ℕ) → Says (unwrap_or o 0) o
says-itself None = inl refl
says-itself (Some k) = inr refl

-- an action of an actor of this kind
pub acted-by : (s : Setup) (a : ℕ) (h : History) (step : Step) (i : ActorId) → actor_of s.net a ≡ i → (x : Acted s a h step) → action s x.floor a i h (step.choice - action_choice s.net a) ≡ Some step.puts
acted-by s a h step i q x = subst (λ i. action s x.floor a i h (step.choice - action_choice s.net a) ≡ Some step.puts) q x.puts

pub took-by : (s : Setup) (a : ℕ) (h : History) (step : Step) (i : ActorId) → actor_of s.net a ≡ i → (x : Took s a h step) → step.puts ≡ puts_of s a i h step.choice x.link x.message
took-by s a h step i q x = x.puts ∙ ap (λ i. puts_of s a i h step.choice x.link x.message) q

pub step-said : (s : Setup) (a : ℕ) (h : History) (step : Step) → Took s a h step ⊎ Acted s a h step → StepSaid s step
step-said s a h step t = by_kind (actor_of s.net a) refl t
  where
    acts : (i : ActorId) → actor_of s.net a ≡ i → (i ≡ Observer → ⊥) → Acted s a h step → StepSaid s step
    acts i q ne x = record { number = 0; count = 0; said = action-said s x.floor a (step.choice - action_choice s.net a) i h step.puts 0 0 ne (acted-by s a h step i q x) }

    by_kind : (i : ActorId) → actor_of s.net a ≡ i → Took s a h step ⊎ Acted s a h step → StepSaid s step
    by_kind Observer q (inl x) = record { number = 0; count = 0; said = subst (Each (PutBy s.net 0 0)) (sym (took-by s a h step Observer q x)) tt }
    by_kind Observer q (inr x) = let b : Begins s x.floor h (step.choice - action_choice s.net a) step.puts = observer-acts s x.floor a (step.choice - action_choice s.net a) h step.puts (acted-by s a h step Observer q x) in
        record { number = b.number; count = 0; said = subst (Each (PutBy s.net b.number 0)) (sym b.puts) (begin-said s.net b.number 0) }
    by_kind (Control d) q (inl x) = record {
      number = _;
      count = _;
      said = subst (Each (PutBy s.net (unwrap_or (begin_of x.message) 0) (unwrap_or (dump_of x.message) 0)))
          (sym (took-by s a h step (Control d) q x))
          (control-said s.net a h step.choice x.message (unwrap_or (begin_of x.message) 0) (unwrap_or (dump_of x.message) 0) (says-itself (begin_of x.message)) (says-itself (dump_of x.message)));
    }
    by_kind (Control d) q (inr x) = acts (Control d) q (λ e. cc) x
    by_kind (OfUnit i) q x = record { number = id (step ∷ h); count = suc (length h); said = unit-step s a i h step q x }
    by_kind (OfHost i) q (inl x) = record { number = 0; count = 0; said = subst (Each (PutBy s.net 0 0)) (sym (took-by s a h step (OfHost i) q x)) tt }
    by_kind (OfHost i) q (inr x) = acts (OfHost i) q (λ e. cc) x

-- Messages fit their links.

pub each-on-link : (P : ℕ → Message → Type 0) (l : ℕ) (ps : List Put) → Each (λ p. P p.link p.message) ps → Each (P l) (on_link l ps)
each-on-link P l [] h = tt
each-on-link P l (p ∷ ps) h = by_tells (each-on-link P l ps h.1) (eqb_tells p.link l)
  where
    by_tells : Each (P l) (on_link l ps) → ((nat_eq p.link l ≡ true) × (p.link ≡ l)) ⊎ ((nat_eq p.link l ≡ false) × (p.link ≡ l → ⊥)) → Each (P l) (on_link l (p ∷ ps))
    by_tells ih (inl q) = subst (λ b. Each (P l) (cond b (p.message ∷ on_link l ps) (on_link l ps))) (sym q.0) (subst (λ k. P k p.message) q.1 h.0, ih)
    by_tells ih (inr q) = subst (λ b. Each (P l) (cond b (p.message ∷ on_link l ps) (on_link l ps))) (sym q.0) ih

pub each-lost : (P : Message → Type 0) (lost : ℕ → Bool) (k : ℕ) (ms : List Message) → Each P ms → Each P (without_lost lost k ms)
each-lost P lost k [] h = tt
each-lost P lost k (m ∷ ms) h = by_bool (each-lost P lost (suc k) ms h.1) (lost (suc k))
  where
    by_bool : Each P (without_lost lost (suc k) ms) → (b : Bool) → Each P (if b then without_lost lost (suc k) ms else m ∷ without_lost lost (suc k) ms)
    by_bool ih true = ih
    by_bool ih false = (h.0, ih)

-- what holds of each message put on a link holds of each that was taken from it
pub each-taken : (P : Message → Type 0) (lost : ℕ → Bool) (c : ℕ) (h : History) (ms : List Message) → Each P ms → Fifo c h (without_lost lost 0 ms) → Each P (takes c h)
each-taken P lost c h ms e t = each-front P (takes c h) t.rest (subst (Each P) t.split (each-lost P lost 0 ms e))

pub put-fits : (s : Setup) (a l : ℕ) (h : History) → IsMade s a h → Each (λ m. fits_link s.net l m ≡ true) (put l h)
put-fits s a l [] m = tt
put-fits s a l (step ∷ h) m = let d : StepSaid s step = step-said s a h step m.0 in
    each-append (λ m. fits_link s.net l m ≡ true) (put l h) (on_link l step.puts) (put-fits s a l h m.1)
    (each-on-link (λ l m. fits_link s.net l m ≡ true) l step.puts (each-imp (PutBy s.net d.number d.count) (λ p. fits_link s.net p.link p.message ≡ true) step.puts (λ p b. b.fits) d.said))

pub taken-fits : (s : Setup) (lost : Losses) (w : World) (a c l : ℕ) → IsFifoRun s lost w → slice_get (links_into s.net a) c ≡ Some l → Each (λ m. fits_link s.net l m ≡ true) (takes c (history w a))
taken-fits s lost w a c l r k = each-taken (λ m. fits_link s.net l m ≡ true) (lost l) c (history w a) (put l (history w (link_of s.net l).from))
    (put-fits s (link_of s.net l).from l (history w (link_of s.net l).from) (r.made (link_of s.net l).from)) (r.fifo a c l k)

-- on a stamped link each message has a stamp
pub is-stamped : (t : Sort) (m : Message) → IsTrue (is_stamped t) → fits t m ≡ true → (k : ℕ) × (stamp_of m ≡ Some k)
is-stamped t (Data s p) i f = (s, refl)
is-stamped t (ProbeMsg s) i f = (s, refl)
is-stamped t (InitMsg s) i f = (s, refl)
is-stamped FromHost m i f = absurd cc
is-stamped ToHost m i f = absurd cc
is-stamped Cable _ i f = absurd cc
is-stamped Crossbar _ i f = absurd cc
is-stamped Init _ i f = absurd cc
is-stamped _ m i f = absurd cc

-- Units: the id never falls, and each stamp that is put is the id after the step.

pub id-falls : (h : History) → NeverFalls id h
id-falls [] = tt
id-falls (s ∷ h) = (omega arith, id-falls h)

pub unit-stamps : (s : Setup) (a : ℕ) (i : UnitId) (h : History) → actor_of s.net a ≡ OfUnit i → IsMade s a h → Grows stamp_of id h
unit-stamps s a i [] q m = tt
unit-stamps s a i (step ∷ h) q m = (
  omega arith,
  each-imp (PutBy s.net (id (step ∷ h)) (suc (length h))) (λ p. Says (id (step ∷ h)) (stamp_of p.message)) step.puts (λ p b. b.said.stamp) (unit-step s a i h step q m.0),
  unit-stamps s a i h q m.1,
)

-- Each count of steps that is put is the length of the history with the step.
pub unit-dumps : (s : Setup) (a : ℕ) (i : UnitId) (h : History) → actor_of s.net a ≡ OfUnit i → IsMade s a h → Grows dump_of (λ h. length h) h
unit-dumps s a i [] q m = tt
unit-dumps s a i (step ∷ h) q m = (
  omega arith,
  each-imp (PutBy s.net (id (step ∷ h)) (suc (length h))) (λ p. Says (suc (length h)) (dump_of p.message)) step.puts (λ p b. b.said.dump) (unit-step s a i h step q m.0),
  unit-dumps s a i h q m.1,
)

-- On a link from a unit: the stamps heard never fall, and these, then the stamps not yet taken, end at most at the sender's id.
pub unit-link : (s : Setup) (lost : Losses) (w : World) (a c l : ℕ) (i : UnitId) (r : IsFifoRun s lost w) (k : slice_get (links_into s.net a) c ≡ Some l) → actor_of s.net (link_of s.net l).from ≡ OfUnit i
    → Ordered stamp_of c (history w a) (r.fifo a c l k).rest (id (history w (link_of s.net l).from))
unit-link s lost w a c l i r k q = let h = history w (link_of s.net l).from in
    ordered stamp_of (lost l) c (history w a) (put l h) (id h) (put-rises stamp_of id l h (unit-stamps s (link_of s.net l).from i h q (r.made (link_of s.net l).from))) (r.fifo a c l k)
