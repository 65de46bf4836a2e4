-- Polls and the dumps that answer them; what a sweep puts.
use Rattle.std.proofs.Common.{◌++◌, ◌==◌, List, None, Some, ap, inl, inr, le-ltb, length, length-append, not, refl, subst, suc, sym, ℕ, ◌∙◌, ◌∷◌, ◌≡◌, ◌≤◌, arith, [], ◌+◌, ◌-◌, ◌<◌, drop, zero}
use Rattle.std.specs.List.{list_all, range_with_len}
use Rattle.std.specs.Prelude.{◌&&◌, Bool, false, flat_map, nat_eq, option_map, slice_get, true, ◌⊎◌, if◌then◌else◌}
use Rattle.std.proofs.lemmas.Bool.Decides.{eqb_tells}
use Rattle.sl_layout.specs.Net.{Net, action_choice, actor_of, choice_of, links_into, link_numbers, link_of, links_out, nobody, unit_place}
use Rattle.sl_parts.specs.Parts.{below}
use Rattle.sl_layout.specs.Serving.{ServedUnit, served}
use Rattle.sl_net.specs.Wired.{Reports, receives, unit_receives}
use Rattle.sl_layout.specs.Wiring.{kind_of}
use Rattle.sl_layout.specs.declared.actor.ActorId.{ActorId}
use Rattle.sl_layout.specs.declared.actor.ActorId.TheVariants.{Control, Observer, Host as OfHost, Unit as OfUnit}
use Rattle.sl_layout.specs.declared.actor.Sort.TheVariants.{Poll, Done, Dump, FromHost, Notice}
use Rattle.sl_layout.specs.declared.actor.UnitId.{UnitId}
use Rattle.sl_model.specs.End.{AllTaken, AllSent}
use Rattle.sl_model.specs.Fit.{fits, fits_link}
use Rattle.sl_model.specs.History.{History, Losses, World, history, on_link, put, taken, takes, last, stamp_of}
use Rattle.sl_model.specs.Knowledge.{is_again, is_outstanding, is_swept, issued, observer}
use Rattle.sl_model.specs.Made.{Acted, IsMade, IsFifoRun, Took}
use Rattle.sl_model.specs.Puts.{guarded, poll_puts, send, action, control_puts, dump_answer, dump_puts, id_after, notice_puts, puts_of, send_all, side_puts, unit_puts}
use Rattle.sl_model.specs.Schedule.{sweep_of, sweeps}
use Rattle.sl_model.specs.Setup.{Setup, frames_of}
use Rattle.sl_parts.specs.Lists.{Each, Member}
use Rattle.sl_parts.proofs.Lists.{each-front, each-flat, each-imp, each-of, member-flat, member-from, each-append, each-at}
use Rattle.sl_model.specs.Words.{listed, weigh}
use Rattle.sl_model.specs.World.{Entry, IsLossTable, acting, next_step, run, turn, carried, floor_for, receiver, taken_by}
use Rattle.sl_model.specs.declared.message.Message.{Message}
use Rattle.sl_model.specs.declared.message.Message.TheVariants.{Begin as BeginMsg, Data, Done as DoneMsg, Dump as DumpMsg, Host as HostMsg, Init as InitMsg, Notice as NoticeMsg, Poll as PollMsg, Probe as ProbeMsg}
use Rattle.sl_model.proofs.Cuts.Begins.{each-last}
use Rattle.sl_model.proofs.Worlds.Stamps.{taken-fits, each-lost, put-fits, guard-holds}
use Rattle.sl_model.proofs.Worlds.Turns.{Steps, taken-other, taken-this, turn-cases}
use Rattle.sl_model.proofs.Finishing.Idle.{own-step, there, all-counted, answer-put, member-some, put-member, served-dump, served-member, served_as, get-past, none-past, got-member, is_poll, polled_now}
use Rattle.sl_model.proofs.Finishing.NetWiring.{in-net, Wiring}
use Rattle.sl_model.proofs.Worlds.ReachedWorlds.{Reached, put-grows, fifo_run-reached, reached-turn, step-grows, ActsBy, StepOf, TakesBy, choice-of-step, history-keeps, step-cases, step-within, taken-grows}
use Rattle.std.proofs.lemmas.Option.{get_or_from_slice_get, slice_get_within}
use Rattle.sl_layout.specs.declared.actor.Side.{Side}
use Rattle.sl_layout.specs.declared.actor.Side.TheVariants.{Egress, Ingress}
use Rattle.sl_layout.specs.declared.actor.Sort.{Sort}
use Rattle.sl_model.specs.Window.{on_way}
use Rattle.sl_model.specs.declared.message.Put.{Put}
use Rattle.sl_model.specs.declared.message.Step.{Step}
use Rattle.sl_model.specs.Flight.{Weight, flight}
use Rattle.sl_net.specs.Ways.{HasWays}
use Rattle.sl_model.proofs.Bounded.Flights.{flight-step, puts_weight}
use Rattle.sl_model.proofs.Lists.Weighed.{weigh-zero}

-- Each poll that a unit took it answered.

pub poll-of : (m : Message) → fits Poll m ≡ true → m ≡ PollMsg
poll-of PollMsg h = refl
poll-of (HostMsg b) h = absurd cc
poll-of (Data k p) h = absurd cc
poll-of (ProbeMsg k) h = absurd cc
poll-of (InitMsg k) h = absurd cc
poll-of NoticeMsg h = absurd cc
poll-of (DumpMsg n) h = absurd cc
poll-of (BeginMsg k) h = absurd cc
poll-of (DoneMsg v n) h = absurd cc

-- the link of a unit's polls
pub poll-at : (net : Net) (u : ℕ) (r : Reports net u) → slice_get (links_into net u) (choice_of net r.poll) ≡ Some r.poll
poll-at net u r = r.poll_taken

pub polls-only : (s : Setup) (lost : Losses) (w : World) (u : ℕ) (r : Reports s.net u) → IsFifoRun s lost w → Each (λ m. m ≡ PollMsg) (takes (choice_of s.net r.poll) (history w u))
polls-only s lost w u r x = each-imp (λ m. fits_link s.net r.poll m ≡ true) (λ m. m ≡ PollMsg) (takes (choice_of s.net r.poll) (history w u)) (λ m f. poll-of m (ap (λ t. fits t m) (sym r.poll_sort) ∙ f))
    (taken-fits s lost w u (choice_of s.net r.poll) r.poll x (poll-at s.net u r))

answered : (s : Setup) (u : ℕ) (i : UnitId) (r : Reports s.net u) (h : History) → actor_of s.net u ≡ OfUnit i → IsMade s u h → Each (λ m. m ≡ PollMsg) (takes (choice_of s.net r.poll) h) → taken (choice_of s.net r.poll) h ≤ length (put r.dump h)
answered s u i r [] q m e = omega arith
answered s u i r (step ∷ h) q m e = by_tells (answered s u i r h q m.1 (each-front (λ m. m ≡ PollMsg) (takes c h) (if step.choice == c then listed step.taken else []) e)) (eqb_tells step.choice c)
  where
    c : ℕ
    c = choice_of s.net r.poll

    of_step : step.choice ≡ choice_of s.net r.poll → Took s u h step ⊎ Acted s u h step → 1 ≤ length (on_link r.dump step.puts)
    of_step k (inl t) = let p : step.taken ≡ Some PollMsg = t.taken ∙ ap Some (each-last (λ m. m ≡ PollMsg) step h t.message t.taken (subst (λ d. Each (λ m. m ≡ PollMsg) (takes d (step ∷ h))) (sym k) e)) in
        member-some (DumpMsg (suc (length h))) (on_link r.dump step.puts) (answer-put s u i r step h q (inl t) p)
    of_step k (inr t) = let z : Some r.poll ≡ None = sym (poll-at s.net u r) ∙ ap (slice_get (links_into s.net u)) (sym k) ∙ t.past in absurd cc

    by_tells : taken (choice_of s.net r.poll) h ≤ length (put r.dump h) → ((nat_eq step.choice (choice_of s.net r.poll) ≡ true) × (step.choice ≡ choice_of s.net r.poll)) ⊎ ((nat_eq step.choice (choice_of s.net r.poll) ≡ false) × (step.choice ≡ choice_of s.net r.poll → ⊥))
        → taken (choice_of s.net r.poll) (step ∷ h) ≤ length (put r.dump h ++ on_link r.dump step.puts)
    by_tells ih (inl k) = omega (arith, ih, taken-this (choice_of s.net r.poll) step h k.1, of_step k.1 m.0, length-append (put r.dump h) (on_link r.dump step.puts))
    by_tells ih (inr k) = omega (arith, ih, taken-other (choice_of s.net r.poll) step h k.1, length-append (put r.dump h) (on_link r.dump step.puts))

-- Where all was taken no poll is outstanding.

pub polls-taken : (s : Setup) (lost : Losses) (w : World) (u : ℕ) (r : Reports s.net u) → IsLossTable s.net lost → AllTaken s.net lost w → taken (choice_of s.net r.poll) (history w u) ≡ length (put r.poll (history w r.control))
polls-taken s lost w u r t h = ap (λ a. taken (choice_of s.net r.poll) (history w a)) (sym r.poll_to) ∙ all-counted s lost w r.poll h t r.poll_link (ap kind_of r.poll_sort) ∙ ap (λ a. length (put r.poll (history w a))) r.poll_from

dumps-taken : (s : Setup) (lost : Losses) (w : World) (u : ℕ) (r : Reports s.net u) → IsLossTable s.net lost → AllTaken s.net lost w → taken (choice_of s.net r.dump) (history w r.control) ≡ length (put r.dump (history w u))
dumps-taken s lost w u r t h = let d = r.dump_out in
    ap (λ a. taken (choice_of s.net r.dump) (history w a)) (sym r.dump_to) ∙ all-counted s lost w r.dump h t d.is_link (ap kind_of d.sort) ∙ ap (λ a. length (put r.dump (history w a))) d.from

pub none-outstanding : (s : Setup) (lost : Losses) (w : World) (u : ℕ) (i : UnitId) (r : Reports s.net u) → IsLossTable s.net lost → IsFifoRun s lost w → AllTaken s.net lost w → actor_of s.net u ≡ OfUnit i
    → is_outstanding (served_as s.net u r) (history w r.control) ≡ false
none-outstanding s lost w u i r t x h q = let v = served_as s.net u r in
    let e : taken v.dump (history w r.control) ≡ taken (choice_of s.net r.dump) (history w r.control) = ap (λ d. taken d (history w r.control)) (sym (served-dump s.net u r)) in
    le-ltb (taken v.dump (history w r.control)) (length (put r.poll (history w r.control)))
    (omega (arith, e, polls-taken s lost w u r t h, dumps-taken s lost w u r t h, answered s u i r (history w u) q (x.made u) (polls-only s lost w u r x)))

-- A sweep puts a poll to each unit to which none is outstanding.

not-all : (p : ServedUnit → Bool) (vs : List ServedUnit) (v : ServedUnit) → Member v vs → p v ≡ false → list_all p vs ≡ false
not-all p [] v m q = absurd m
not-all p (x ∷ vs) v (inl e) q = ap (λ b. b && list_all p vs) (ap p (sym e) ∙ q)
not-all p (x ∷ vs) v (inr m) q = ap (λ b. p x && b) (not-all p vs v m q) ∙ and_false (p x)
  where
    and_false : (b : Bool) → (b && false) ≡ false
    and_false true = refl
    and_false false = refl

polls-it : (h : History) (vs : List ServedUnit) (v : ServedUnit) → Member v vs → is_outstanding v h ≡ false → 1 ≤ length (on_link v.poll (flat_map (λ v. poll_puts v h) vs))
polls-it h vs v m q = member-some PollMsg (on_link v.poll (flat_map (λ v. poll_puts v h) vs)) (put-member (send PollMsg v.poll) v.poll (flat_map (λ v. poll_puts v h) vs)
    (member-flat (λ v. poll_puts v h) v (send PollMsg v.poll) vs m (subst (λ b. Member (send PollMsg v.poll) (if b then [] else send PollMsg v.poll ∷ [])) (sym q) (inl refl))) refl)

-- the control plane of the unit put a poll more to it
abbrev pub IsPolled : (net : Net) (u : ℕ) → Reports net u → World → World → Type 0
IsPolled net u r w v = suc (length (put r.poll (history w r.control))) ≤ length (put r.poll (history v r.control))

abbrev pub own_entry : Net → ℕ → Entry
own_entry net a = (a, action_choice net a)

-- the sweep of the unit's control plane
sweep-polls : (s : Setup) (lost : Losses) (u : ℕ) (r : Reports s.net u) (w v : World) → Reached s lost v → is_outstanding (served_as s.net u r) (history w r.control) ≡ false → history v r.control ≡ history w r.control
    → IsPolled s.net u r w (turn s lost v (own_entry s.net r.control))
sweep-polls s lost u r w v x o same = let c = r.control in let h = history v c in let y = served_as s.net u r in
    let o' : is_outstanding y h ≡ false = ap (is_outstanding y) same ∙ o in
    let sw : is_swept s.net c h ≡ false = not-all (λ y. is_outstanding y h && is_again (action_choice s.net c) y h) (served s.net c) y (served-member s.net u r) (ap (λ b. b && is_again (action_choice s.net c) y h) o') in
    let ps = flat_map (λ y. poll_puts y h) (served s.net c) in
    let k : slice_get s.net.actors c ≡ Some (Control r.device) = there s.net c (in-net s.net c (Control r.device) r.is_control (λ e. cc)) ∙ ap Some r.is_control in
    let n : next_step s lost v (c, action_choice s.net c) ≡ Some (acting (action_choice s.net c) ps) = own-step s lost v c (Control r.device) k ∙ ap (λ b. option_map (acting (action_choice s.net c)) (guarded (not b) ps)) sw in
    let t : history (turn s lost v (c, action_choice s.net c)) c ≡ acting (action_choice s.net c) ps ∷ h = (step-grows s lost v c (action_choice s.net c) (acting (action_choice s.net c) ps) x n).same in
    let len = ap (λ h. length (put r.poll h)) t in
    omega (arith, len, length-append (put r.poll h) (on_link r.poll ps), polls-it h (served s.net c) y (served-member s.net u r) o', ap (λ h. length (put r.poll h)) same)

-- all sweeps
sweeps-poll : (s : Setup) (lost : Losses) (u : ℕ) (r : Reports s.net u) (w : World) → is_outstanding (served_as s.net u r) (history w r.control) ≡ false
    → (es : List Entry) → Each (λ e. e.0 ≡ r.control → e.1 ≡ action_choice s.net r.control) es → Member (own_entry s.net r.control) es
    → (v : World) → Reached s lost v → (history v r.control ≡ history w r.control) ⊎ IsPolled s.net u r w v → IsPolled s.net u r w (run s lost v es)
sweeps-poll s lost u r w o [] own m v x h = absurd m
sweeps-poll s lost u r w o (e ∷ es) own (inr m) v x h = sweeps-poll s lost u r w o es own.1 m (turn s lost v e) (reached-turn s lost v e x) (by_cases h (turn-cases s lost v e))
  where
    c : ℕ
    c = r.control

    grown : IsPolled s.net u r w v → IsPolled s.net u r w (turn s lost v e)
    grown k = omega (arith, k, put-grows s lost r.control r.poll v (e ∷ []))

    by_actor : Steps s lost v e (turn s lost v e) → history v c ≡ history w c → ((nat_eq c e.0 ≡ true) × (c ≡ e.0)) ⊎ ((nat_eq c e.0 ≡ false) × (c ≡ e.0 → ⊥))
        → (history (turn s lost v e) c ≡ history w c) ⊎ IsPolled s.net u r w (turn s lost v e)
    by_actor t k (inr q) = inl (t.grows.other c q.1 ∙ k)
    by_actor t k (inl q) = let e' : own_entry s.net c ≡ e = ap (λ a. (a, action_choice s.net c)) q.1 ∙ ap (λ d. (e.0, d)) (sym (own.0 (sym q.1))) in
        inr (subst (λ e. IsPolled s.net u r w (turn s lost v e)) e' (sweep-polls s lost u r w v x o k))

    by_cases : (history v c ≡ history w c) ⊎ IsPolled s.net u r w v → (turn s lost v e ≡ v) ⊎ Steps s lost v e (turn s lost v e) → (history (turn s lost v e) c ≡ history w c) ⊎ IsPolled s.net u r w (turn s lost v e)
    by_cases (inr k) t = inr (grown k)
    by_cases (inl k) (inl q) = inl (ap (λ v. history v c) q ∙ k)
    by_cases (inl k) (inr t) = by_actor t k (eqb_tells c e.0)
sweeps-poll s lost u r w o (e ∷ es) own (inl y) v x h = rest (subst (λ e. IsPolled s.net u r w (turn s lost v e)) y (by_history h))
  where
    rest : IsPolled s.net u r w (turn s lost v e) → IsPolled s.net u r w (run s lost (turn s lost v e) es)
    rest k = omega (arith, k, put-grows s lost r.control r.poll (turn s lost v e) es)

    by_history : (history v r.control ≡ history w r.control) ⊎ IsPolled s.net u r w v → IsPolled s.net u r w (turn s lost v (own_entry s.net r.control))
    by_history (inl k) = sweep-polls s lost u r w v x o k
    by_history (inr k) = omega (arith, k, put-grows s lost r.control r.poll v (own_entry s.net r.control ∷ []))

sweeps-own : (net : Net) (c : ℕ) → Each (λ e. e.0 ≡ c → e.1 ≡ action_choice net c) (sweeps net)
sweeps-own net c = each-flat (λ e. e.0 ≡ c → e.1 ≡ action_choice net c) (λ a. sweep_of net a (actor_of net a)) (below (length net.actors)) (each-of _ (below (length net.actors)) (λ a m. of_actor a (actor_of net a)))
  where
    of_actor : (a : ℕ) (i : ActorId) → Each (λ e. e.0 ≡ c → e.1 ≡ action_choice net c) (sweep_of net a i)
    of_actor a Observer = tt
    of_actor a (Control d) = ((λ q. ap (action_choice net) q), tt)
    of_actor a (OfUnit i) = tt
    of_actor a (OfHost h) = tt

in-sweeps : (net : Net) (c d : ℕ) → actor_of net c ≡ Control d → Member (own_entry net c) (sweeps net)
in-sweeps net c d q = let h = in-net net c (Control d) q (λ e. cc) in
    member-flat (λ a. sweep_of net a (actor_of net a)) c (own_entry net c) (below (length net.actors)) (member-from c 0 (length net.actors) (omega arith) (omega (arith, h)))
    (subst (λ i. Member (own_entry net c) (sweep_of net c i)) (sym q) (inl refl))

-- after the sweeps, once all was taken again, the unit took a poll more
pub one-more-poll : (s : Setup) (lost : Losses) (w : World) (u : ℕ) (i : UnitId) (r : Reports s.net u) → IsLossTable s.net lost → Reached s lost w → AllTaken s.net lost w → actor_of s.net u ≡ OfUnit i
    → (es : List Entry) → AllTaken s.net lost (run s lost (run s lost w (sweeps s.net)) es) → (history (run s lost (run s lost w (sweeps s.net)) es) u ≡ history w u → ⊥)
one-more-poll s lost w u i r t x h q es h' same = let v = run s lost w (sweeps s.net) in let z = run s lost v es in
    let k : IsPolled s.net u r w v = sweeps-poll s lost u r w (none-outstanding s lost w u i r t (fifo_run-reached s lost w x) h q) (sweeps s.net) (sweeps-own s.net r.control) (in-sweeps s.net r.control r.device r.is_control) w x (inl refl) in
    omega (arith, k, put-grows s lost r.control r.poll v es, polls-taken s lost w u r t h, polls-taken s lost z u r t h', ap (taken (choice_of s.net r.poll)) same)

-- From a settled world on, while no number is issued or issued again, nothing goes round but polls, notices, dumps and Dones.

-- the messages that settle by themselves weigh nothing
abbrev pub loudness : Message → ℕ
loudness PollMsg = 0
loudness NoticeMsg = 0
loudness (DumpMsg n) = 0
loudness (DoneMsg u n) = 0
loudness _ = 1

abbrev pub loud : Weight
loud l m = loudness m

-- what holds from the world w1 on
pub record IsPhase (s : Setup) (lost : Losses) (w1 w : World) : Type 0 where
  pub quiet : flight loud s.net lost w ≡ 0
  pub sent : AllSent s w
  pub polled : (u : ℕ) (i : UnitId) → actor_of s.net u ≡ OfUnit i → (history w u ≡ history w1 u) ⊎ (polled_now (history w u) ≡ true)

-- Quiet takes put quiet messages.

abbrev pub IsQuiet : Put → Type 0
IsQuiet p = loudness p.message ≡ 0

quiet-all : (m : Message) (ls : List ℕ) → loudness m ≡ 0 → Each IsQuiet (send_all m ls)
quiet-all m [] h = tt
quiet-all m (l ∷ ls) h = (h, quiet-all m ls h)

pub side-quiet : (net : Net) (u : ℕ) (i : UnitId) (side : Side) (k l : ℕ) (m : Message) → loudness m ≡ 0 → side_puts net u i side k l m ≡ []
side-quiet net u i side k l (HostMsg b) h = absurd cc
side-quiet net u i side k l (Data s p) h = absurd cc
side-quiet net u i side k l (ProbeMsg s) h = absurd cc
side-quiet net u i side k l (InitMsg s) h = absurd cc
side-quiet net u i side k l (BeginMsg s) h = absurd cc
side-quiet net u i Ingress k l PollMsg h = refl
side-quiet net u i Egress k l PollMsg h = refl
side-quiet net u i Ingress k l NoticeMsg h = refl
side-quiet net u i Egress k l NoticeMsg h = refl
side-quiet net u i Ingress k l (DumpMsg n) h = refl
side-quiet net u i Egress k l (DumpMsg n) h = refl
side-quiet net u i Ingress k l (DoneMsg v n) h = refl
side-quiet net u i Egress k l (DoneMsg v n) h = refl

unit-quiet : (net : Net) (u : ℕ) (i : UnitId) (hs : History) (c l : ℕ) (m : Message) → loudness m ≡ 0 → Each IsQuiet (unit_puts net u i hs c l m)
unit-quiet net u i hs c l m h = subst (λ ps. Each IsQuiet (ps ++ (notice_puts net u (last c hs) (stamp_of m) ++ dump_puts net u (suc (length hs)) m))) (sym (side-quiet net u i i.side (id_after m hs) l m h)) (rest m h)
  where
    rest : (m : Message) → loudness m ≡ 0 → Each IsQuiet (notice_puts net u (last c hs) (stamp_of m) ++ dump_puts net u (suc (length hs)) m)
    rest (HostMsg b) h = absurd cc
    rest (Data s p) h = absurd cc
    rest (ProbeMsg s) h = absurd cc
    rest (InitMsg s) h = absurd cc
    rest (BeginMsg s) h = absurd cc
    rest PollMsg h = quiet-all (DumpMsg (suc (length hs))) (links_out net u Dump) refl
    rest NoticeMsg h = tt
    rest (DumpMsg n) h = tt
    rest (DoneMsg v n) h = tt

pub quiet-if : (b : Bool) (xs ys : List Put) → Each IsQuiet xs → Each IsQuiet ys → Each IsQuiet (if b then xs else ys)
quiet-if true xs ys h k = h
quiet-if false xs ys h k = k

polls-quiet : (hs : History) (v : ServedUnit) → Each IsQuiet (poll_puts v hs)
polls-quiet hs v = quiet-if (is_outstanding v hs) [] (send PollMsg v.poll ∷ []) tt (refl, tt)

each-served : (f : ServedUnit → List Put) (vs : List ServedUnit) → ((v : ServedUnit) → Each IsQuiet (f v)) → Each IsQuiet (flat_map f vs)
each-served f vs h = each-flat IsQuiet f vs (each-of (λ v. Each IsQuiet (f v)) vs (λ v m. h v))

control-quiet : (net : Net) (a : ℕ) (hs : History) (c : ℕ) (m : Message) → loudness m ≡ 0 → Each IsQuiet (control_puts net a hs c m)
control-quiet net a hs c (HostMsg b) h = absurd cc
control-quiet net a hs c (Data s p) h = absurd cc
control-quiet net a hs c (ProbeMsg s) h = absurd cc
control-quiet net a hs c (InitMsg s) h = absurd cc
control-quiet net a hs c (BeginMsg s) h = absurd cc
control-quiet net a hs c PollMsg h = tt
control-quiet net a hs c (DoneMsg v n) h = tt
control-quiet net a hs c NoticeMsg h = each-served (λ v. if c == v.notice then poll_puts v hs else []) (served net a) (λ v. quiet-if (c == v.notice) (poll_puts v hs) [] (polls-quiet hs v) tt)
control-quiet net a hs c (DumpMsg n) h = each-served (λ v. if c == v.dump then dump_answer net a hs n v else []) (served net a) (λ v. quiet-if (c == v.dump) (dump_answer net a hs n v) []
    (each-append IsQuiet (send_all (DoneMsg (unit_place net v.unit) n) (links_out net a Done)) (if is_again (action_choice net a) v hs then send PollMsg v.poll ∷ [] else [])
    (quiet-all (DoneMsg (unit_place net v.unit) n) (links_out net a Done) refl) (quiet-if (is_again (action_choice net a) v hs) (send PollMsg v.poll ∷ []) [] (refl, tt) tt)) tt)

puts-quiet : (s : Setup) (a : ℕ) (i : ActorId) (hs : History) (c l : ℕ) (m : Message) → loudness m ≡ 0 → Each IsQuiet (puts_of s a i hs c l m)
puts-quiet s a Observer hs c l m h = tt
puts-quiet s a (Control d) hs c l m h = control-quiet s.net a hs c m h
puts-quiet s a (OfUnit i) hs c l m h = unit-quiet s.net a i hs c l m h
puts-quiet s a (OfHost x) hs c l m h = tt

quiet-weight : (ps : List Put) → Each IsQuiet ps → puts_weight loud ps ≡ 0
quiet-weight [] h = refl
quiet-weight (p ∷ ps) h = omega (arith, h.0, quiet-weight ps h.1)

-- What is on its way is quiet.

front-zero : (f : Message → ℕ) (xs : List Message) (n : ℕ) (m : Message) → weigh f (drop n xs) ≡ 0 → slice_get xs n ≡ Some m → f m ≡ 0
front-zero f [] n m h g = absurd cc
front-zero f (x ∷ xs) zero m h g = let e : x ≡ m = cc in let k : f x ≡ 0 = omega (arith, h) in ap f (sym e) ∙ k
front-zero f (x ∷ xs) (suc n) m h g = front-zero f xs n m h g

pub in-links : (net : Net) (l : ℕ) → l < length net.links → Member l (link_numbers net)
in-links net l h = member-from l 0 (length net.links) (omega arith) (omega (arith, h))

taken-quiet : (s : Setup) → HasWays s.net → (lost : Losses) (w : World) (a c : ℕ) (step : Step) → flight loud s.net lost w ≡ 0 → (t : TakesBy s lost w a c step) → loudness t.message ≡ 0
taken-quiet s ways lost w a c step h t = let i = ways.into a c t.link t.at in
    let z : weigh loudness (on_way s.net lost w t.link) ≡ 0 = weigh-zero (λ l. weigh (loud l) (on_way s.net lost w l)) (link_numbers s.net) t.link h (in-links s.net t.link i.is_link) in
    let z' : weigh loudness (drop (taken c (history w a)) (carried s.net lost w t.link)) ≡ 0 = subst (λ d. weigh loudness (drop (taken d (history w a)) (carried s.net lost w t.link)) ≡ 0) (ways.choice a c t.link t.at)
    (subst (λ b. weigh loudness (drop (taken (choice_of s.net t.link) (history w b)) (carried s.net lost w t.link)) ≡ 0) i.to z) in
    front-zero loudness (carried s.net lost w t.link) (taken c (history w a)) t.message z' t.in_front

-- what a unit takes then is a poll
quiet-poll : (side : Side) (t : Sort) (m : Message) → loudness m ≡ 0 → fits t m ≡ true → unit_receives side t ≡ true → is_poll (Some m) ≡ true
quiet-poll side t PollMsg h f g = refl
quiet-poll side t (HostMsg b) h f g = absurd cc
quiet-poll side t (Data k p) h f g = absurd cc
quiet-poll side t (ProbeMsg k) h f g = absurd cc
quiet-poll side t (InitMsg k) h f g = absurd cc
quiet-poll side t (BeginMsg k) h f g = absurd cc
quiet-poll Ingress Notice NoticeMsg h f g = absurd cc
quiet-poll Egress Notice NoticeMsg h f g = absurd cc
quiet-poll side _ NoticeMsg h f g = absurd cc
quiet-poll Ingress Dump (DumpMsg n) h f g = absurd cc
quiet-poll Egress Dump (DumpMsg n) h f g = absurd cc
quiet-poll side _ (DumpMsg n) h f g = absurd cc
quiet-poll Ingress Done (DoneMsg v n) h f g = absurd cc
quiet-poll Egress Done (DoneMsg v n) h f g = absurd cc
quiet-poll side _ (DoneMsg v n) h f g = absurd cc

-- what a step takes fits its link
pub takes-fit : (s : Setup) (lost : Losses) (w : World) (a c : ℕ) (step : Step) → IsFifoRun s lost w → (t : TakesBy s lost w a c step) → fits_link s.net t.link t.message ≡ true
takes-fit s lost w a c step r t = let b = (link_of s.net t.link).from in
    each-at (λ m. fits_link s.net t.link m ≡ true) t.message (carried s.net lost w t.link) (each-lost (λ m. fits_link s.net t.link m ≡ true) (lost t.link) 0 (put t.link (history w b)) (put-fits s b t.link (history w b) (r.made b)))
    (got-member (carried s.net lost w t.link) (taken c (history w a)) t.message t.in_front)

-- a unit has no actions
pub no-action : (s : Setup) (w : World) (u : ℕ) (i : UnitId) (c : ℕ) (step : Step) → actor_of s.net u ≡ OfUnit i → ActsBy s w u c step → ⊥
no-action s w u i c step q t = let k = subst (λ a. action s (floor_for s.net w a) u a (history w u) (c - action_choice s.net u) ≡ Some t.puts) q t.guard in none (c - action_choice s.net u) k
  where
    none : (n : ℕ) → action s 0 u (OfUnit i) (history w u) n ≡ Some t.puts → ⊥
    none n k = cc

-- Actions: only sweeps are left.

-- a host that put all has no action
host-done : (s : Setup) (f a h n : ℕ) (hs : History) (ps : List Put) → taken (action_choice s.net a) hs ≡ length (frames_of s h) → action s f a (OfHost h) hs n ≡ Some ps → ⊥
host-done s f a h zero hs ps q k = let e : slice_get (frames_of s h) (taken (action_choice s.net a) hs) ≡ None = get-past (frames_of s h) (taken (action_choice s.net a) hs) (omega (arith, q)) in
    let m : option_map (λ bytes. send_all (HostMsg bytes) (links_out s.net a FromHost)) None ≡ Some ps = subst (λ o. option_map (λ bytes. send_all (HostMsg bytes) (links_out s.net a FromHost)) o ≡ Some ps) e k in cc
host-done s f a h (suc n) hs ps q k = cc

-- a choice that an action may have in a pass or a sweep
abbrev pub IsSmall : Net → Entry → Type 0
IsSmall net e = e.1 ≤ action_choice net e.0

sent-step : (s : Setup) (lost : Losses) (w v : World) (e : Entry) → Steps s lost w e v → AllSent s w → AllSent s v
sent-step s lost w v e t k a h q = history-keeps s lost a (λ hs. taken (action_choice s.net a) hs ≡ length (frames_of s h)) w e v t keeps (k a h q)
  where
    is_host : actor_of s.net a ≡ OfHost h
    is_host = get_or_from_slice_get s.net.actors a (OfHost h) nobody q

    keeps : (c : ℕ) (step : Step) → StepOf s lost w a c step → taken (action_choice s.net a) (history w a) ≡ length (frames_of s h) → taken (action_choice s.net a) (step ∷ history w a) ≡ length (frames_of s h)
    keeps c step n p = by_case (step-cases s lost w a c step n)
      where
        by_case : TakesBy s lost w a c step ⊎ ActsBy s w a c step → taken (action_choice s.net a) (step ∷ history w a) ≡ length (frames_of s h)
        by_case (inl x) = let lt : c < action_choice s.net a = slice_get_within (links_into s.net a) c x.link x.at in taken-other (action_choice s.net a) step (history w a) (λ m. omega (arith, lt, m, choice-of-step s lost w a c step n)) ∙ p
        by_case (inr x) = absurd (host-done s 0 a h (c - action_choice s.net a) (history w a) x.puts p (subst (λ i. action s (floor_for s.net w i) a i (history w a) (c - action_choice s.net a) ≡ Some x.puts) is_host x.guard))

polled-step : (s : Setup) (lost : Losses) → Wiring s.net → (w1 w v : World) (e : Entry) → Reached s lost w → Steps s lost w e v → flight loud s.net lost w ≡ 0 → (u : ℕ) (i : UnitId) → actor_of s.net u ≡ OfUnit i
    → (history w u ≡ history w1 u) ⊎ (polled_now (history w u) ≡ true) → (history v u ≡ history w1 u) ⊎ (polled_now (history v u) ≡ true)
polled-step s lost g w1 w v e r t z u i q k = history-keeps s lost u (λ h. (h ≡ history w1 u) ⊎ (polled_now h ≡ true)) w e v t keeps k
  where
    keeps : (c : ℕ) (step : Step) → StepOf s lost w u c step → (history w u ≡ history w1 u) ⊎ (polled_now (history w u) ≡ true) → ((step ∷ history w u) ≡ history w1 u) ⊎ (polled_now (step ∷ history w u) ≡ true)
    keeps c step n p = by_case (step-cases s lost w u c step n)
      where
        by_case : TakesBy s lost w u c step ⊎ ActsBy s w u c step → ((step ∷ history w u) ≡ history w1 u) ⊎ (polled_now (step ∷ history w u) ≡ true)
        by_case (inr x) = absurd (no-action s w u i c step q x)
        by_case (inl x) = let l = g.wired.ways.into u c x.link x.at in
            let rc : unit_receives i.side (link_of s.net x.link).sort ≡ true = subst (λ a. receives a (link_of s.net x.link).sort ≡ true) (ap (actor_of s.net) l.to ∙ q) (g.wired.receiver x.link l.is_link) in
            let o = quiet-poll i.side (link_of s.net x.link).sort x.message (taken-quiet s g.wired.ways lost w u c step z x) (takes-fit s lost w u c step (fifo_run-reached s lost w r) x) rc in
            inr (ap (λ y. is_poll y.taken) x.is ∙ o)

-- a step of a pass or a sweep puts quiet messages, or issues a number
step-quiet : (s : Setup) (lost : Losses) → Wiring s.net → (w v : World) (e : Entry) (t : Steps s lost w e v) → IsSmall s.net e → flight loud s.net lost w ≡ 0 → AllSent s w
    → issued s.net (observer v) ≡ issued s.net (observer w) → Each IsQuiet t.step.puts
step-quiet s lost g w v e t small z sent same = by_case (step-cases s lost w e.0 e.1 t.step t.next)
  where
    a : ℕ
    a = e.0

    c : ℕ
    c = e.1

    by_actor : (ps : List Put) → length (links_into s.net a) ≤ c → (i : ActorId) → actor_of s.net a ≡ i → ActsBy s w a c t.step → action s (floor_for s.net w i) a i (history w a) (c - action_choice s.net a) ≡ Some ps → Each IsQuiet ps
    by_actor ps past (OfUnit i) q x k = absurd (no-action s w a i c t.step q x)
    by_actor ps past (OfHost h) q x k = absurd (host-done s 0 a h (c - action_choice s.net a) (history w a) ps (sent a h (there s.net a (step-within s lost w a c t.step t.next) ∙ ap Some q)) k)
    by_actor ps past Observer q x k = let o : a ≡ 0 = g.wired.one_observer a q in
        let ch : t.step.choice ≡ action_choice s.net 0 = choice-of-step s lost w a c t.step t.next ∙ c_is past ∙ ap (action_choice s.net) o in
        let hv : observer v ≡ t.step ∷ observer w = ap (history v) (sym o) ∙ t.grows.same ∙ ap (λ b. t.step ∷ history w b) o in
        let i : issued s.net (observer v) ≡ suc (issued s.net (observer w)) = ap (taken (action_choice s.net 0)) hv ∙ taken-this (action_choice s.net 0) t.step (observer w) ch in
        absurd (omega (arith, i, same))
      where
        c_is : length (links_into s.net a) ≤ c → c ≡ action_choice s.net a
        c_is past = omega (arith, past, small)
    by_actor ps past (Control d) q x k = let n : c - action_choice s.net a ≡ 0 = omega (arith, small) in
        let y = guard-holds (not (is_swept s.net a (history w a))) (flat_map (λ v. poll_puts v (history w a)) (served s.net a)) ps (subst (λ n. action s 0 a (Control d) (history w a) n ≡ Some ps) n k) in
        subst (Each IsQuiet) y.1 (each-served (λ v. poll_puts v (history w a)) (served s.net a) (polls-quiet (history w a)))

    by_case : TakesBy s lost w a c t.step ⊎ ActsBy s w a c t.step → Each IsQuiet t.step.puts
    by_case (inl x) = subst (λ y. Each IsQuiet y.puts) (sym x.is) (puts-quiet s a (actor_of s.net a) (history w a) c x.link x.message (taken-quiet s g.wired.ways lost w a c t.step z x))
    by_case (inr x) = subst (λ y. Each IsQuiet y.puts) (sym x.is) (by_actor x.puts (none-past (links_into s.net a) c x.no_link) (actor_of s.net a) refl x x.guard)

phase-step : (s : Setup) (lost : Losses) → Wiring s.net → (w1 w v : World) (e : Entry) → Reached s lost w → Steps s lost w e v → IsSmall s.net e → issued s.net (observer v) ≡ issued s.net (observer w) → IsPhase s lost w1 w → IsPhase s lost w1 v
phase-step s lost g w1 w v e r t small same p = record { quiet = stays; sent = sent-step s lost w v e t p.sent; polled = λ u i q. polled-step s lost g w1 w v e r t p.quiet u i q (p.polled u i q) }
  where
    stays : flight loud s.net lost v ≡ 0
    stays = let k = flight-step loud s.net lost w v e t.step t.grows (choice-of-step s lost w e.0 e.1 t.step t.next) in
        omega (arith, k, p.quiet, quiet-weight t.step.puts (step-quiet s lost g w v e t small p.quiet p.sent same))

pub phase-run : (s : Setup) (lost : Losses) → Wiring s.net → (w1 : World) (es : List Entry) → Each (IsSmall s.net) es → (w : World) → Reached s lost w → issued s.net (observer (run s lost w es)) ≡ issued s.net (observer w) → IsPhase s lost w1 w
    → IsPhase s lost w1 (run s lost w es)
phase-run s lost g w1 [] small w r same p = p
phase-run s lost g w1 (e ∷ es) small w r same p = let v = turn s lost w e in
    let up : issued s.net (observer w) ≤ issued s.net (observer v) = taken-grows s lost 0 (action_choice s.net 0) w (e ∷ []) in
    let more : issued s.net (observer v) ≤ issued s.net (observer (run s lost v es)) = taken-grows s lost 0 (action_choice s.net 0) v es in
    let here : issued s.net (observer v) ≡ issued s.net (observer w) = omega (arith, up, more, same) in
    phase-run s lost g w1 es small.1 v (reached-turn s lost w e r) (same ∙ sym here) (by_cases here (turn-cases s lost w e))
  where
    by_cases : issued s.net (observer (turn s lost w e)) ≡ issued s.net (observer w) → (turn s lost w e ≡ w) ⊎ Steps s lost w e (turn s lost w e) → IsPhase s lost w1 (turn s lost w e)
    by_cases here (inl q) = subst (IsPhase s lost w1) (sym q) p
    by_cases here (inr t) = phase-step s lost g w1 w (turn s lost w e) e r t small.0 here p

-- it begins where all was taken and put
pub phase-starts : (s : Setup) (lost : Losses) (w : World) → AllTaken s.net lost w → AllSent s w → IsPhase s lost w w
phase-starts s lost w h k = record { quiet = none (length s.net.links) 0 (λ l b. omega (arith, b)); sent = k; polled = λ u i q. inl refl }
  where
    drop-all : (n : ℕ) (xs : List Message) → n ≡ length xs → drop n xs ≡ []
    drop-all zero [] q = refl
    drop-all zero (x ∷ xs) q = absurd (omega (arith, q))
    drop-all (suc n) [] q = absurd (omega (arith, q))
    drop-all (suc n) (x ∷ xs) q = drop-all n xs (omega (arith, q))

    none : (n start : ℕ) → ((l : ℕ) → l < start + n → l < length s.net.links) → weigh (λ l. weigh (loud l) (on_way s.net lost w l)) (range_with_len start n) ≡ 0
    none zero start b = refl
    none (suc n) start b = let e : on_way s.net lost w start ≡ [] = drop-all (taken_by s.net start (receiver s.net w start)) (carried s.net lost w start) (h start (b start (omega arith))) in
        omega (arith, ap (weigh (loud start)) e, none n (start + 1) (λ l m. b l (omega (arith, m))))
