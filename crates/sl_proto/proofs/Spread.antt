-- The links of a step's puts: each leads from the actor of the step, and no two are one.
--     Spread net a lo hi ls     these are links from a of the sorts with these numbers, no two one
--     IsSpread net a ps         the links of the puts ps are so, of any sorts
use Rattle.std.proofs.Common.{◌≡◌, ℕ, zero, suc, ◌-◌, ◌<◌, ◌≤◌, List, [], ◌∷◌, ◌++◌, length, refl, sym, ap, subst, ◌∙◌, Option, Some, None, arith, inl, inr}
use Rattle.std.specs.Prelude.{◌⊎◌, true, false, Bool, not, ◌==◌, if◌then◌else◌, cond, nat_eq, map, filter, flat_map, slice_get, option_map}
use Rattle.std.proofs.lemmas.Bool.Decides.{eqb_tells}
use Rattle.sl_layout.specs.declared.actor.Side.{Side}
use Rattle.sl_layout.specs.declared.actor.Side.TheVariants.{Ingress, Egress}
use Rattle.sl_layout.specs.declared.actor.UnitId.{UnitId}
use Rattle.sl_layout.specs.declared.actor.ActorId.{ActorId}
use Rattle.sl_layout.specs.declared.actor.ActorId.TheVariants.{Observer, Control, Unit as OfUnit, Host as OfHost}
use Rattle.sl_layout.specs.declared.actor.Sort.{Sort}
use Rattle.sl_layout.specs.declared.actor.Sort.TheVariants.{FromHost, ToHost, Cable, Crossbar, Init, Poll, Notice, Dump, Begin, Done}
use Rattle.sl_net.specs.declared.input.Packet.{Packet}
use Rattle.sl_layout.specs.Net.{Net, same_actor, same_sort, sort_number, egress, actor_of, link_of, links_from, link_numbers, links_out, links_into, choice_of, action_choice, unit_place}
use Rattle.sl_layout.specs.Serving.{ServedUnit, serving, served, choice_from}
use Rattle.sl_net.specs.Wired.{Reports, IsWired}
use Rattle.sl_route.specs.Route.{next_port}
use Rattle.sl_model.specs.declared.message.Message.{Message}
use Rattle.sl_model.specs.declared.message.Message.TheVariants.{Host as HostMsg, Data, Probe as ProbeMsg, Init as InitMsg, Poll as PollMsg, Notice as NoticeMsg, Dump as DumpMsg, Begin as BeginMsg, Done as DoneMsg}
use Rattle.sl_model.specs.declared.message.Put.{Put}
use Rattle.sl_model.specs.declared.message.Step.{Step}
use Rattle.sl_parts.specs.Lists.{Each, Member}
use Rattle.sl_parts.proofs.Lists.{each-append, each-imp, each-both-of, each-flat, each-at, distinct-append, distinct-filter, distinct-from, each-filter, distinct-joined, Distinct}
use Rattle.sl_model.specs.History.{History, World, Losses, history, last, stamp_of, taken, on_link}
use Rattle.sl_model.specs.Setup.{Setup, frames_of}
use Rattle.sl_model.specs.Frame.{plain_frame, packet_of}
use Rattle.sl_model.specs.Knowledge.{is_outstanding, is_again, is_swept, issued, can_issue, can_resend}
use Rattle.sl_model.specs.Puts.{send, send_all, crossbar_to, onward, route, route_frame, ingress_puts, is_own_port, egress_puts, side_puts, notice_puts, dump_puts, id_after, unit_puts, poll_puts, dump_answer, control_puts, guarded, begin_all, puts_of, action}
use Rattle.sl_model.specs.World.{Entry, next_step}
use Rattle.sl_model.specs.Made.{Took, Acted}
use Rattle.sl_model.specs.Turns.{Takes, Acts, TakesTurns}
use Rattle.sl_net.specs.Ways.{IsOut}
use Rattle.sl_net.proofs.Sorts.{each-out}
use Rattle.sl_proto.specs.Spread.{ArePutFrom}

-- a link from the actor, of a sort with one of these numbers
pub record IsFrom (net : Net) (a lo hi l : ℕ) : Type 0 where
  pub is_link : l < length net.links
  pub from : (link_of net l).from ≡ a
  pub low : lo ≤ sort_number (link_of net l).sort
  pub high : sort_number (link_of net l).sort < hi

abbrev pub link_in_put : Put → ℕ
link_in_put p = p.link

pub record Spread (net : Net) (a lo hi : ℕ) (ls : List ℕ) : Type 0 where
  pub each : Each (IsFrom net a lo hi) ls
  pub apart : Distinct ls

-- no two are on one link
abbrev pub AreApart : List Put → Type 0
AreApart ps = Distinct (map link_in_put ps)

abbrev Puts : Net → ℕ → ℕ → ℕ → List Put → Type 0
Puts net a lo hi ps = Spread net a lo hi (map link_in_put ps)

abbrev pub IsSpread : Net → ℕ → List Put → Type 0
IsSpread net a ps = Puts net a 0 10 ps

-- Lists of links.

spread-nil : (net : Net) (a lo hi : ℕ) → Spread net a lo hi []
spread-nil net a lo hi = record { each = tt; apart = tt }

wider : (net : Net) (a lo hi x y : ℕ) (ls : List ℕ) → x ≤ lo → hi ≤ y → Spread net a lo hi ls → Spread net a x y ls
wider net a lo hi x y ls p q s = record {
  each = each-imp (IsFrom net a lo hi) (IsFrom net a x y) ls (λ l f. record { is_link = f.is_link; from = f.from; low = omega (arith, p, f.low); high = omega (arith, q, f.high) }) s.each;
  apart = s.apart;
}

-- of two parts with other sorts
joined : (net : Net) (a lo mid hi : ℕ) (xs ys : List ℕ) → lo ≤ mid → mid ≤ hi → Spread net a lo mid xs → Spread net a mid hi ys → Spread net a lo hi (xs ++ ys)
joined net a lo mid hi xs ys p q s t = record {
  each = each-append (IsFrom net a lo hi) xs ys (wider net a lo mid lo hi xs (omega arith) q s).each (wider net a mid hi lo hi ys p (omega arith) t).each;
  apart = distinct-append xs ys s.apart t.apart (λ l m n. let x = (each-at (IsFrom net a lo mid) l xs s.each m).high in let y = (each-at (IsFrom net a mid hi) l ys t.each n).low in omega (arith, x, y));
}

-- the other way round
joined-back : (net : Net) (a lo mid hi : ℕ) (xs ys : List ℕ) → lo ≤ mid → mid ≤ hi → Spread net a mid hi xs → Spread net a lo mid ys → Spread net a lo hi (xs ++ ys)
joined-back net a lo mid hi xs ys p q s t = record {
  each = each-append (IsFrom net a lo hi) xs ys (wider net a mid hi lo hi xs p (omega arith) s).each (wider net a lo mid lo hi ys (omega arith) q t).each;
  apart = distinct-append xs ys s.apart t.apart (λ l m n. let x = (each-at (IsFrom net a mid hi) l xs s.each m).low in let y = (each-at (IsFrom net a lo mid) l ys t.each n).high in omega (arith, x, y));
}

links-distinct : (net : Net) (a : ℕ) (t : Sort) → Distinct (links_out net a t)
links-distinct net a t = distinct-filter (λ l. same_sort (link_of net l).sort t) (links_from net a) (distinct-filter (λ l. (link_of net l).from == a) (link_numbers net) (distinct-from 0 (length net.links)))

out-from : (net : Net) (a : ℕ) (t : Sort) (l : ℕ) → IsOut net a t l → IsFrom net a (sort_number t) (suc (sort_number t)) l
out-from net a t l o = let e : sort_number (link_of net l).sort ≡ sort_number t = ap sort_number o.sort in
    record { is_link = o.is_link; from = o.from; low = omega (arith, e); high = omega (arith, e) }

out-spread : (net : Net) (a : ℕ) (t : Sort) → Spread net a (sort_number t) (suc (sort_number t)) (links_out net a t)
out-spread net a t = record { each = each-imp (IsOut net a t) (IsFrom net a (sort_number t) (suc (sort_number t))) (links_out net a t) (λ l o. out-from net a t l o) (each-out net a t); apart = links-distinct net a t }

filtered : (net : Net) (a lo hi : ℕ) (t : ℕ → Bool) (ls : List ℕ) → Spread net a lo hi ls → Spread net a lo hi (filter t ls)
filtered net a lo hi t ls s = record { each = each-filter (IsFrom net a lo hi) t ls s.each; apart = distinct-filter t ls s.apart }

-- Puts.

sent-links : (m : Message) (ls : List ℕ) → map link_in_put (send_all m ls) ≡ ls
sent-links m [] = refl
sent-links m (l ∷ ls) = ap (λ r. l ∷ r) (sent-links m ls)

append-links : (ps qs : List Put) → map link_in_put (ps ++ qs) ≡ map link_in_put ps ++ map link_in_put qs
append-links [] qs = refl
append-links (p ∷ ps) qs = ap (λ r. p.link ∷ r) (append-links ps qs)

send-spread : (net : Net) (a lo hi : ℕ) (m : Message) (ls : List ℕ) → Spread net a lo hi ls → Puts net a lo hi (send_all m ls)
send-spread net a lo hi m ls s = subst (Spread net a lo hi) (sym (sent-links m ls)) s

out-puts : (net : Net) (a : ℕ) (t : Sort) (m : Message) → Puts net a (sort_number t) (suc (sort_number t)) (send_all m (links_out net a t))
out-puts net a t m = send-spread net a (sort_number t) (suc (sort_number t)) m (links_out net a t) (out-spread net a t)

when : (net : Net) (a lo hi : ℕ) (b : Bool) (ps : List Put) → Puts net a lo hi ps → Puts net a lo hi (if b then ps else [])
when net a lo hi true ps s = s
when net a lo hi false ps s = spread-nil net a lo hi

-- Units.

further : (net : Net) (u d k : ℕ) (q : Packet) (o : Option ℕ) → Puts net u 1 4 (onward net u d k q o)
further net u d k q None = spread-nil net u 1 4
further net u d k q (Some port) = send-spread net u 1 4 (Data k q) (crossbar_to net u d port)
    (wider net u 3 4 1 4 (crossbar_to net u d port) (omega arith) (omega arith) (filtered net u 3 4 (λ l. same_actor (actor_of net (link_of net l).to) (egress d port)) (links_out net u Crossbar) (out-spread net u Crossbar)))

routed : (net : Net) (u d k : ℕ) (q : Packet) → Puts net u 1 4 (route net u d k q)
routed net u d k q = by_bool (q.hops == 0)
  where
    by_bool : (b : Bool) → Puts net u 1 4 (if b then [] else onward net u d k (record q { hops = q.hops - 1 }) (next_port net.parts d q.dst))
    by_bool true = spread-nil net u 1 4
    by_bool false = further net u d k (record q { hops = q.hops - 1 }) (next_port net.parts d q.dst)

framed : (net : Net) (u d k : ℕ) (o : Option Packet) → Puts net u 1 4 (route_frame net u d k o)
framed net u d k None = spread-nil net u 1 4
framed net u d k (Some q) = routed net u d k q

ingress-spread : (net : Net) (u d k : ℕ) (m : Message) → Puts net u 1 4 (ingress_puts net u d k m)
ingress-spread net u d k (HostMsg bytes) = framed net u d k (packet_of bytes)
ingress-spread net u d k (Data s q) = routed net u d k q
ingress-spread net u d k (InitMsg s) = wider net u 3 4 1 4 (map link_in_put (send_all (ProbeMsg k) (links_out net u Crossbar))) (omega arith) (omega arith) (out-puts net u Crossbar (ProbeMsg k))
ingress-spread net u d k _ = spread-nil net u 1 4

egress-spread : (net : Net) (u d p k l : ℕ) (m : Message) → Puts net u 1 4 (egress_puts net u d p k l m)
egress-spread net u d p k l (Data s q) = let xs = send_all (Data k q) (links_out net u Cable) in let ys = send_all (HostMsg (plain_frame q)) (links_out net u ToHost) in
    subst (Spread net u 1 4) (sym (append-links xs ys)) (wider net u 1 3 1 4 (map link_in_put xs ++ map link_in_put ys) (omega arith) (omega arith)
    (joined-back net u 1 2 3 (map link_in_put xs) (map link_in_put ys) (omega arith) (omega arith) (out-puts net u Cable (Data k q)) (out-puts net u ToHost (HostMsg (plain_frame q)))))
egress-spread net u d p k l (ProbeMsg s) = when net u 1 4 (is_own_port net d p l) (send_all (ProbeMsg k) (links_out net u Cable))
    (wider net u 2 3 1 4 (map link_in_put (send_all (ProbeMsg k) (links_out net u Cable))) (omega arith) (omega arith) (out-puts net u Cable (ProbeMsg k)))
egress-spread net u d p k l _ = spread-nil net u 1 4

side-spread : (net : Net) (u : ℕ) (i : UnitId) (side : Side) (k l : ℕ) (m : Message) → Puts net u 1 4 (side_puts net u i side k l m)
side-spread net u i Ingress k l m = ingress-spread net u i.device k m
side-spread net u i Egress k l m = egress-spread net u i.device i.port k l m

notice-spread : (net : Net) (u before : ℕ) (o : Option ℕ) → Puts net u 6 7 (notice_puts net u before o)
notice-spread net u before None = spread-nil net u 6 7
notice-spread net u before (Some s) = by_bool (before == s)
  where
    by_bool : (b : Bool) → Puts net u 6 7 (if b then [] else send_all NoticeMsg (links_out net u Notice))
    by_bool true = spread-nil net u 6 7
    by_bool false = out-puts net u Notice NoticeMsg

dump-spread : (net : Net) (u n : ℕ) (m : Message) → Puts net u 7 8 (dump_puts net u n m)
dump-spread net u n PollMsg = out-puts net u Dump (DumpMsg n)
dump-spread net u n _ = spread-nil net u 7 8

unit-spread : (net : Net) (u : ℕ) (i : UnitId) (h : History) (c l : ℕ) (m : Message) → IsSpread net u (unit_puts net u i h c l m)
unit-spread net u i h c l m = let xs = side_puts net u i i.side (id_after m h) l m in let ys = notice_puts net u (last c h) (stamp_of m) in let zs = dump_puts net u (suc (length h)) m in
    let tail : Puts net u 4 10 (ys ++ zs) = subst (Spread net u 4 10) (sym (append-links ys zs)) (wider net u 6 8 4 10 (map link_in_put ys ++ map link_in_put zs) (omega arith) (omega arith)
    (joined net u 6 7 8 (map link_in_put ys) (map link_in_put zs) (omega arith) (omega arith) (notice-spread net u (last c h) (stamp_of m)) (dump-spread net u (suc (length h)) m))) in
    subst (Spread net u 0 10) (sym (append-links xs (ys ++ zs))) (joined net u 0 4 10 (map link_in_put xs) (map link_in_put (ys ++ zs)) (omega arith) (omega arith)
    (wider net u 1 4 0 4 (map link_in_put xs) (omega arith) (omega arith) (side-spread net u i i.side (id_after m h) l m)) tail)

-- Control planes.

flat-links : (f : ServedUnit → List Put) (g : ℕ → ServedUnit) (ls : List ℕ) → map link_in_put (flat_map f (map g ls)) ≡ flat_map (λ l. map link_in_put (f (g l))) ls
flat-links f g [] = refl
flat-links f g (l ∷ ls) = append-links (f (g l)) (flat_map f (map g ls)) ∙ ap (λ r. map link_in_put (f (g l)) ++ r) (flat-links f g ls)

-- a poll to the unit, or none
at-most : (net : Net) (a l : ℕ) (b : Bool) (m : Message) → IsOut net a Poll l → Puts net a 5 6 (if b then [] else send m l ∷ [])
at-most net a l true m o = spread-nil net a 5 6
at-most net a l false m o = record { each = (out-from net a Poll l o, tt); apart = ((λ x. x), tt) }

polls-spread : (net : Net) (a l : ℕ) (h : History) → IsOut net a Poll l → Puts net a 5 6 (poll_puts (serving net a l) h)
polls-spread net a l h o = at-most net a l (is_outstanding (serving net a l) h) PollMsg o

-- of each unit that it serves, by the links of polls, where no two of these share a link
each-served : (net : Net) (a : ℕ) (f : ServedUnit → List Put) → ((l : ℕ) → IsOut net a Poll l → IsSpread net a (f (serving net a l)))
    → ((l k x : ℕ) → IsOut net a Poll l → IsOut net a Poll k → Member x (map link_in_put (f (serving net a l))) → Member x (map link_in_put (f (serving net a k))) → l ≡ k)
    → IsSpread net a (flat_map f (served net a))
each-served net a f spread apart = let ls = links_out net a Poll in let g = λ (l : ℕ). map link_in_put (f (serving net a l)) in
    let out : Each (λ l. Spread net a 0 10 (g l)) ls = each-imp (IsOut net a Poll) (λ l. Spread net a 0 10 (g l)) ls spread (each-out net a Poll) in
    subst (Spread net a 0 10) (sym (flat-links f (serving net a) ls)) (record {
      each = each-flat (IsFrom net a 0 10) g ls (each-imp (λ l. Spread net a 0 10 (g l)) (λ l. Each (IsFrom net a 0 10) (g l)) ls (λ l s. s.each) out);
      apart = distinct-joined g ls (λ l k x p q m n. apart l k x (each-at (IsOut net a Poll) l ls (each-out net a Poll) p) (each-at (IsOut net a Poll) k ls (each-out net a Poll) q) m n)
          (links-distinct net a Poll) (each-imp (λ l. Spread net a 0 10 (g l)) (λ l. Distinct (g l)) ls (λ l s. s.apart) out);
    })

-- the poll is the only link
poll-link : (l x : ℕ) (b : Bool) (m : Message) → Member x (map link_in_put (if b then [] else send m l ∷ [])) → x ≡ l
poll-link l x true m k = absurd k
poll-link l x false m (inl q) = q
poll-link l x false m (inr k) = absurd k

sweep-spread : (net : Net) (a : ℕ) (h : History) → IsSpread net a (flat_map (λ v. poll_puts v h) (served net a))
sweep-spread net a h = each-served net a (λ v. poll_puts v h) (λ l o. wider net a 5 6 0 10 (map link_in_put (poll_puts (serving net a l) h)) (omega arith) (omega arith) (polls-spread net a l h o))
    (λ l k x o p m n. sym (poll-link l x (is_outstanding (serving net a l) h) PollMsg m) ∙ poll-link k x (is_outstanding (serving net a k) h) PollMsg n)

notices-spread : (net : Net) (a c : ℕ) (h : History) → IsSpread net a (flat_map (λ v. if c == v.notice then poll_puts v h else []) (served net a))
notices-spread net a c h = each-served net a (λ v. if c == v.notice then poll_puts v h else [])
    (λ l o. when net a 0 10 (c == (serving net a l).notice) (poll_puts (serving net a l) h) (wider net a 5 6 0 10 (map link_in_put (poll_puts (serving net a l) h)) (omega arith) (omega arith) (polls-spread net a l h o)))
    (λ l k x o p m n. sym (of_bool l x (c == (serving net a l).notice) m) ∙ of_bool k x (c == (serving net a k).notice) n)
  where
    of_bool : (l x : ℕ) (b : Bool) → Member x (map link_in_put (if b then poll_puts (serving net a l) h else [])) → x ≡ l
    of_bool l x true m = poll-link l x (is_outstanding (serving net a l) h) PollMsg m
    of_bool l x false m = absurd m

-- two units whose dumps it takes by one choice are one
dump-is : (net : Net) (a x : ℕ) (r : Reports net (link_of net x).to) → r.control ≡ a → (serving net a x).dump ≡ choice_of net r.dump
dump-is net a x r h = ap (λ b. choice_from net b (link_of net x).to Dump) (sym h) ∙ r.dump_choice

one-dump : (net : Net) (a l k : ℕ) → IsWired net → IsOut net a Poll l → IsOut net a Poll k → (serving net a l).dump ≡ (serving net a k).dump → l ≡ k
one-dump net a l k z o p e = of_units (z.poll_to l o.is_link o.sort) (z.poll_to k p.is_link p.sort)
  where
    of_reports : Reports net (link_of net l).to → Reports net (link_of net k).to → l ≡ k
    of_reports r t = let here : r.control ≡ a = sym r.poll_from ∙ ap (λ x. (link_of net x).from) (sym (r.polled l refl o.sort)) ∙ o.from in
        let there : t.control ≡ a = sym t.poll_from ∙ ap (λ x. (link_of net x).from) (sym (t.polled k refl p.sort)) ∙ p.from in
        let same : choice_of net r.dump ≡ choice_of net t.dump = sym (dump-is net a l r here) ∙ e ∙ dump-is net a k t there in
        let control : r.control ≡ t.control = here ∙ sym there in
        let gets : slice_get (links_into net r.control) (choice_of net r.dump) ≡ slice_get (links_into net t.control) (choice_of net t.dump) = λ i. slice_get (links_into net (control i)) (same i) in
        let one : Some r.dump ≡ Some t.dump = sym r.dump_taken ∙ gets ∙ t.dump_taken in
        let link : r.dump ≡ t.dump = cc in
        let unit : (link_of net k).to ≡ (link_of net l).to = sym t.dump_out.from ∙ ap (λ x. (link_of net x).from) (sym link) ∙ r.dump_out.from in
        r.polled l refl o.sort ∙ sym (r.polled k unit p.sort)

    of_units : ((i : UnitId) × (actor_of net (link_of net l).to ≡ OfUnit i)) → ((i : UnitId) × (actor_of net (link_of net k).to ≡ OfUnit i)) → l ≡ k
    of_units i j = of_reports (z.reports (link_of net l).to i.0 i.1) (z.reports (link_of net k).to j.0 j.1)

again-spread : (net : Net) (a l : ℕ) (b : Bool) → IsOut net a Poll l → Puts net a 5 6 (if b then send PollMsg l ∷ [] else [])
again-spread net a l true o = at-most net a l false PollMsg o
again-spread net a l false o = spread-nil net a 5 6

answer-spread : (net : Net) (a l n : ℕ) (h : History) → IsOut net a Poll l → IsSpread net a (dump_answer net a h n (serving net a l))
answer-spread net a l n h o = let v = serving net a l in let xs = send_all (DoneMsg (unit_place net v.unit) n) (links_out net a Done) in let ys = if is_again (action_choice net a) v h then send PollMsg v.poll ∷ [] else [] in
    subst (Spread net a 0 10) (sym (append-links xs ys)) (wider net a 5 10 0 10 (map link_in_put xs ++ map link_in_put ys) (omega arith) (omega arith)
    (joined-back net a 5 9 10 (map link_in_put xs) (map link_in_put ys) (omega arith) (omega arith) (out-puts net a Done (DoneMsg (unit_place net v.unit) n))
    (wider net a 5 6 5 9 (map link_in_put ys) (omega arith) (omega arith) (again-spread net a l (is_again (action_choice net a) v h) o))))

dumps-spread : (net : Net) (a c n : ℕ) (h : History) → IsWired net → IsSpread net a (flat_map (λ v. if c == v.dump then dump_answer net a h n v else []) (served net a))
dumps-spread net a c n h z = each-served net a (λ v. if c == v.dump then dump_answer net a h n v else [])
    (λ l o. when net a 0 10 (c == (serving net a l).dump) (dump_answer net a h n (serving net a l)) (answer-spread net a l n h o))
    (λ l k x o p m q. one-dump net a l k z o p (sym (of_tells l x (eqb_tells c (serving net a l).dump) m) ∙ of_tells k x (eqb_tells c (serving net a k).dump) q))
  where
    of_tells : (l x : ℕ) → ((nat_eq c (serving net a l).dump ≡ true) × (c ≡ (serving net a l).dump)) ⊎ ((nat_eq c (serving net a l).dump ≡ false) × (c ≡ (serving net a l).dump → ⊥))
        → Member x (map link_in_put (if c == (serving net a l).dump then dump_answer net a h n (serving net a l) else [])) → c ≡ (serving net a l).dump
    of_tells l x (inl q) m = q.1
    of_tells l x (inr q) m = absurd (subst (λ b. Member x (map link_in_put (if b then dump_answer net a h n (serving net a l) else []))) q.0 m)

control-spread : (net : Net) (a : ℕ) (h : History) (c : ℕ) (m : Message) → IsWired net → IsSpread net a (control_puts net a h c m)
control-spread net a h c (BeginMsg k) z = wider net a 4 5 0 10 (map link_in_put (send_all (InitMsg k) (links_out net a Init))) (omega arith) (omega arith) (out-puts net a Init (InitMsg k))
control-spread net a h c NoticeMsg z = notices-spread net a c h
control-spread net a h c (DumpMsg n) z = dumps-spread net a c n h z
control-spread net a h c _ z = spread-nil net a 0 10

-- Steps.

puts-spread : (s : Setup) (a : ℕ) (x : ActorId) (h : History) (c l : ℕ) (m : Message) → IsWired s.net → IsSpread s.net a (puts_of s a x h c l m)
puts-spread s a (Control d) h c l m z = control-spread s.net a h c m z
puts-spread s a (OfUnit i) h c l m z = unit-spread s.net a i h c l m
puts-spread s a Observer h c l m z = spread-nil s.net a 0 10
puts-spread s a (OfHost i) h c l m z = spread-nil s.net a 0 10

guard-spread : (net : Net) (a : ℕ) (b : Bool) (qs ps : List Put) → IsSpread net a qs → guarded b qs ≡ Some ps → IsSpread net a ps
guard-spread net a false qs ps s e = absurd cc
guard-spread net a true qs ps s e = let q : qs ≡ ps = cc in subst (IsSpread net a) q s

begin-spread : (net : Net) (a k : ℕ) → a ≡ 0 → IsSpread net a (begin_all net k)
begin-spread net a k e = subst (λ b. IsSpread net b (begin_all net k)) (sym e) (wider net 0 8 9 0 10 (map link_in_put (begin_all net k)) (omega arith) (omega arith) (out-puts net 0 Begin (BeginMsg k)))

host-spread : (net : Net) (a : ℕ) (o : Option (List ℕ)) (ps : List Put) → option_map (λ bytes. send_all (HostMsg bytes) (links_out net a FromHost)) o ≡ Some ps → IsSpread net a ps
host-spread net a None ps e = absurd cc
host-spread net a (Some bytes) ps e = let q : send_all (HostMsg bytes) (links_out net a FromHost) ≡ ps = cc in
    subst (IsSpread net a) q (wider net a 0 1 0 10 (map link_in_put (send_all (HostMsg bytes) (links_out net a FromHost))) (omega arith) (omega arith) (out-puts net a FromHost (HostMsg bytes)))

action-spread : (s : Setup) (f a : ℕ) (x : ActorId) (h : History) (n : ℕ) (ps : List Put) → (x ≡ Observer → a ≡ 0) → action s f a x h n ≡ Some ps → IsSpread s.net a ps
action-spread s f a Observer h zero ps z e = guard-spread s.net a (can_issue s f h) (begin_all s.net (suc (issued s.net h))) ps (begin-spread s.net a (suc (issued s.net h)) (z refl)) e
action-spread s f a Observer h (suc zero) ps z e = guard-spread s.net a (can_resend s f h) (begin_all s.net (issued s.net h)) ps (begin-spread s.net a (issued s.net h) (z refl)) e
action-spread s f a Observer h (suc (suc n)) ps z e = absurd cc
action-spread s f a (Control d) h zero ps z e = guard-spread s.net a (not (is_swept s.net a h)) (flat_map (λ v. poll_puts v h) (served s.net a)) ps (sweep-spread s.net a h) e
action-spread s f a (Control d) h (suc n) ps z e = absurd cc
action-spread s f a (OfHost i) h zero ps z e = host-spread s.net a (slice_get (frames_of s i) (taken (action_choice s.net a) h)) ps e
action-spread s f a (OfHost i) h (suc n) ps z e = absurd cc
action-spread s f a (OfUnit i) h n ps z e = absurd cc

-- the puts of a step
pub step-spread : (s : Setup) (a : ℕ) (h : History) (step : Step) → IsWired s.net → Took s a h step ⊎ Acted s a h step → IsSpread s.net a step.puts
step-spread s a h step z (inl t) = subst (IsSpread s.net a) (sym t.puts) (puts-spread s a (actor_of s.net a) h step.choice t.link t.message z)
step-spread s a h step z (inr t) = action-spread s t.floor a (actor_of s.net a) h (step.choice - action_choice s.net a) step.puts (λ e. z.one_observer a e) t.puts

pub put-from : (net : Net) (a : ℕ) (ps : List Put) → Each (IsFrom net a 0 10) (map link_in_put ps) → ArePutFrom net a ps
put-from net a [] f = tt
put-from net a (p ∷ ps) f = ((f.0.is_link, f.0.from), put-from net a ps f.1)

-- what follows of each of these puts, as their links are the actor's
pub each-put : (net : Net) (a : ℕ) (ps : List Put) (P R : Put → Type 0) → Each (IsFrom net a 0 10) (map link_in_put ps) → Each P ps
    → ((p : Put) → P p → (p.link < length net.links) × ((link_of net p.link).from ≡ a) → R p) → Each R ps
each-put net a ps P R from each f = each-both-of P (λ p. (p.link < length net.links) × ((link_of net p.link).from ≡ a)) R ps f each (put-from net a ps from)

-- what is put on a link that is none of these
pub none-on : (l : ℕ) (ps : List Put) → (Member l (map link_in_put ps) → ⊥) → on_link l ps ≡ []
none-on l [] ne = refl
none-on l (p ∷ ps) ne = by_tells (none-on l ps (λ m. ne (inr m))) (eqb_tells p.link l)
  where
    by_tells : on_link l ps ≡ [] → ((nat_eq p.link l ≡ true) × (p.link ≡ l)) ⊎ ((nat_eq p.link l ≡ false) × (p.link ≡ l → ⊥)) → on_link l (p ∷ ps) ≡ []
    by_tells ih (inl q) = absurd (ne (inl (sym q.1)))
    by_tells ih (inr q) = ap (λ b. cond b (p.message ∷ on_link l ps) (on_link l ps)) q.0 ∙ ih

pub one-each : (l : ℕ) (ps : List Put) → AreApart ps → length (on_link l ps) ≤ 1
one-each l [] d = omega arith
one-each l (p ∷ ps) d = by_tells (one-each l ps d.1) (eqb_tells p.link l)
  where
    by_tells : length (on_link l ps) ≤ 1 → ((nat_eq p.link l ≡ true) × (p.link ≡ l)) ⊎ ((nat_eq p.link l ≡ false) × (p.link ≡ l → ⊥)) → length (on_link l (p ∷ ps)) ≤ 1
    by_tells ih (inl q) = let rest : on_link l ps ≡ [] = none-on l ps (subst (λ k. Member k (map link_in_put ps) → ⊥) q.1 d.0) in
        let here : length (on_link l (p ∷ ps)) ≡ 1 = ap (λ b. length (cond b (p.message ∷ on_link l ps) (on_link l ps))) q.0 ∙ ap (λ ms. length (p.message ∷ ms)) rest in omega (arith, here)
    by_tells ih (inr q) = let here : length (on_link l (p ∷ ps)) ≡ length (on_link l ps) = ap (λ b. length (cond b (p.message ∷ on_link l ps) (on_link l ps))) q.0 in omega (arith, here, ih)

pub next-spread : TakesTurns → (s : Setup) (lost : Losses) (w : World) (e : Entry) (step : Step) → IsWired s.net → next_step s lost w e ≡ Some step → IsSpread s.net e.0 step.puts
next-spread turns s lost w e step z n = by_view (turns.view s lost w e step n)
  where
    by_view : Takes s lost w e.0 step ⊎ Acts s w e.0 step → IsSpread s.net e.0 step.puts
    by_view (inl t) = step-spread s e.0 (history w e.0) step z (inl t.took)
    by_view (inr t) = step-spread s e.0 (history w e.0) step z (inr t.acted)

pub spread-from : TakesTurns → (s : Setup) (lost : Losses) (w : World) (e : Entry) (step : Step) → IsWired s.net → next_step s lost w e ≡ Some step → ArePutFrom s.net e.0 step.puts
spread-from turns s lost w e step z n = put-from s.net e.0 step.puts (next-spread turns s lost w e step z n).each

pub spread-one : TakesTurns → (s : Setup) (lost : Losses) (w : World) (e : Entry) (step : Step) (l : ℕ) → IsWired s.net → next_step s lost w e ≡ Some step → length (on_link l step.puts) ≤ 1
spread-one turns s lost w e step l z n = one-each l step.puts (next-spread turns s lost w e step z n).apart
