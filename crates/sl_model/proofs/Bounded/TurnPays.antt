-- Each turn that does something costs one of the potential, but that a sweep adds to it.
use Rattle.std.proofs.Common.{◌*◌, ◌+◌, ◌-◌, ◌<◌, List, None, Option, Some, ap, drop, inl, inr, length, refl, subst, suc, sym, zero, ℕ, ◌∙◌, ◌∷◌, ◌≡◌, ◌≤◌, arith, []}
use Rattle.std.specs.Prelude.{IsTrue, is_some, nat_lt, option_map, slice_get, true, unwrap_or, ◌⊎◌}
use Rattle.std.proofs.lemmas.Bool.{and_parts, ltb-true}
use Rattle.std.proofs.lemmas.Option.{slice_get_within}
use Rattle.sl_layout.specs.Net.{action_choice, actor_of, link_of, links_into, links_out}
use Rattle.sl_layout.specs.declared.actor.ActorId.{ActorId}
use Rattle.sl_layout.specs.declared.actor.ActorId.TheVariants.{Control, Observer, Host as OfHost, Unit as OfUnit}
use Rattle.sl_layout.specs.declared.actor.Sort.{Sort}
use Rattle.sl_layout.specs.declared.actor.Sort.TheVariants.{Begin, Cable, Crossbar, FromHost, Init}
use Rattle.sl_layout.specs.declared.actor.UnitId.{UnitId}
use Rattle.sl_model.specs.Fit.{is_stamped}
use Rattle.sl_model.specs.History.{History, Losses, World, history, last, put, stamp_of, taken}
use Rattle.sl_model.specs.Knowledge.{can_issue, can_resend, floor, issued, observer, resent}
use Rattle.sl_model.specs.Made.{IsFifoRun}
use Rattle.sl_model.specs.Puts.{action, begin_all, puts_of, send_all}
use Rattle.sl_model.specs.Setup.{Setup, frames_of}
use Rattle.sl_model.specs.Window.{IsBelow}
use Rattle.sl_model.specs.Words.{weigh}
use Rattle.sl_model.specs.World.{Entry, IsLegalFrom, carried, floor_for, next_step, run, turn}
use Rattle.sl_model.specs.declared.message.Message.TheVariants.{Begin as BeginMsg, Host as HostMsg}
use Rattle.sl_model.specs.declared.message.Put.{Put}
use Rattle.sl_model.specs.declared.message.Step.{Step}
use Rattle.sl_model.specs.Potential.{allowance, allowed, begin_price, credit, frame_price, potential, price, round_price}
use Rattle.sl_model.proofs.Cuts.Begins.{heard-this, last-never-falls}
use Rattle.sl_model.proofs.Cuts.Bounds.{AllBelow, all-below, within, each-get}
use Rattle.sl_model.proofs.Worlds.FifoRuns.{fifo_run-turn}
use Rattle.sl_model.proofs.Worlds.Stamps.{each-lost, guard-holds}
use Rattle.sl_model.proofs.Worlds.Turns.{Steps, taken-other, taken-this}
use Rattle.sl_model.proofs.Bounded.StepPays.{control-pays, price-pays, unit-pays}
use Rattle.sl_model.proofs.Finishing.Idle.{issued-within, none-past}
use Rattle.sl_model.proofs.Finishing.NetWiring.{Wiring}
use Rattle.sl_model.proofs.Finishing.Phase.{takes-fit}
use Rattle.sl_model.proofs.Bounded.Prices.{Pays, potential-step, sends-weigh, IsPriced, priced}
use Rattle.sl_model.proofs.Worlds.ReachedWorlds.{ActsBy, Reached, StepOf, TakesBy, choice-of-step, fifo_run-reached, reached-turn, step-cases, step-grows}
use Rattle.sl_model.proofs.Bounded.Flights.{puts_weight}
use Rattle.sl_model.proofs.Worlds.Numbers.{NeverFalls}
use Rattle.sl_model.proofs.Cuts.Collected.{stamped-sort}

-- Stamps: none is below the last one of its channel, and none is above the count.

stamp-above : (s : Setup) (lost : Losses) → Wiring s.net → (w : World) → Reached s lost w → (u : ℕ) (i : UnitId) → actor_of s.net u ≡ OfUnit i → (c : ℕ) (step : Step) → StepOf s lost w u c step → (t : TakesBy s lost w u c step) (k : ℕ)
    → stamp_of t.message ≡ Some k → last c (history w u) ≤ k
stamp-above s lost g w r u i q c step n t k e = subst (λ j. last c (history w u) ≤ j) now (subst (NeverFalls (last c)) grown (last-never-falls s lost v u c t.link g.wired (fifo_run-turn s lost w (u, c) x) t.at stamped)).0
  where
    v : World
    v = turn s lost w (u, c)

    x : IsFifoRun s lost w
    x = fifo_run-reached s lost w r

    grown : history v u ≡ step ∷ history w u
    grown = (step-grows s lost w u c step r n).same

    stamped-by : (t : Sort) → (t ≡ Cable) ⊎ ((t ≡ Crossbar) ⊎ (t ≡ Init)) → IsTrue (is_stamped t)
    stamped-by t (inl y) = ap is_stamped y
    stamped-by t (inr (inl y)) = ap is_stamped y
    stamped-by t (inr (inr y)) = ap is_stamped y

    stamped : IsTrue (is_stamped (link_of s.net t.link).sort)
    stamped = stamped-by (link_of s.net t.link).sort (stamped-sort (link_of s.net t.link).sort t.message k (takes-fit s lost w u c step x t) e)

    now : last c (step ∷ history w u) ≡ k
    now = heard-this stamp_of c k step (history w u) t.message (choice-of-step s lost w u c step n) (ap (λ y. y.taken) t.is) e

stamp-within : (s : Setup) (lost : Losses) → Wiring s.net → (w : World) → Reached s lost w → (a c : ℕ) (step : Step) (t : TakesBy s lost w a c step) (k : ℕ) → stamp_of t.message ≡ Some k → k ≤ s.count
stamp-within s lost g w r a c step t k q = omega (arith, below.stamp, ap (λ o. unwrap_or o 0) q, issued-within s lost g w r)
  where
    b : ℕ
    b = (link_of s.net t.link).from

    all : AllBelow s.net w
    all = subst (AllBelow s.net) r.1 (all-below s lost r.0 g.wired).below

    below : IsBelow (issued s.net (observer w)) t.message
    below = each-get (IsBelow (issued s.net (observer w))) (carried s.net lost w t.link) (taken c (history w a)) t.message
        (each-lost (IsBelow (issued s.net (observer w))) (lost t.link) 0 (put t.link (history w b)) (all t.link)) t.in_front

-- one less of some rounds
one-less : (c k t r : ℕ) → k < c → r + ((c - suc k) + t) * r ≡ ((c - k) + t) * r
one-less c k t r h = let e : (c - k) + t ≡ suc ((c - suc k) + t) = omega (arith, h) in mul-suc ((c - suc k) + t) r ∙ ap (λ n. n * r) (sym e)
  where
    mul-suc : (n r : ℕ) → r + n * r ≡ suc n * r
    mul-suc n r = omega arith

one-less-right : (t c k r : ℕ) → k < c → r + (t + (c - suc k)) * r ≡ (t + (c - k)) * r
one-less-right t c k r h = let e : t + (c - k) ≡ suc (t + (c - suc k)) = omega (arith, h) in mul-suc (t + (c - suc k)) r ∙ ap (λ n. n * r) (sym e)
  where
    mul-suc : (n r : ℕ) → r + n * r ≡ suc n * r
    mul-suc n r = omega arith

-- The observer.

observer-pays : (s : Setup) (lost : Losses) → Wiring s.net → (w : World) (c : ℕ) (step : Step) → StepOf s lost w 0 c step → Pays s lost w 0 c step 0
observer-pays s lost g w c step n = by_case (step-cases s lost w 0 c step n)
  where
    h : History
    h = history w 0

    n0 : ℕ
    n0 = action_choice s.net 0

    ch : step.choice ≡ c
    ch = choice-of-step s lost w 0 c step n

    as_pays : (took : ℕ) → ((step.choice ≡ c) → (took ≡ 0) ⊎ ((t : TakesBy s lost w 0 c step) × (took ≡ price s.net t.link t.message)))
        → suc (credit s 0 Observer (step ∷ h) + puts_weight (price s.net) step.puts) ≤ credit s 0 Observer h + took + 0 → Pays s lost w 0 c step 0
    as_pays took within o = record { took = took; within = within; pays = subst (λ b. suc (credit s 0 b (step ∷ h) + puts_weight (price s.net) step.puts) ≤ credit s 0 b h + took + 0) (sym g.wired.observer) o }

    begins : (k : ℕ) → puts_weight (price s.net) (begin_all s.net k) ≡ weigh (begin_price s.net) (links_out s.net 0 Begin)
    begins k = sends-weigh (price s.net) (BeginMsg k) (links_out s.net 0 Begin)

    by_action : (i : ℕ) (ps : List Put) → c ≡ n0 + i → step.puts ≡ ps → action s (floor s.net w) 0 Observer h i ≡ Some ps → suc (credit s 0 Observer (step ∷ h) + puts_weight (price s.net) step.puts) ≤ credit s 0 Observer h + 0 + 0
    by_action zero ps q e k = let b = guard-holds (can_issue s (floor s.net w) h) (begin_all s.net (suc (issued s.net h))) ps k in
        let lt : issued s.net h < s.count = ltb-true (issued s.net h) s.count (and_parts (nat_lt (issued s.net h) s.count) _ b.0).0 in
        let t0 : taken n0 (step ∷ h) ≡ suc (taken n0 h) = taken-this n0 step h (omega (arith, ch, q)) in
        let t1 : taken (suc n0) (step ∷ h) ≡ taken (suc n0) h = taken-other (suc n0) step h (λ m. omega (arith, m, ch, q)) in
        let x : credit s 0 Observer (step ∷ h) ≡ ((s.count - suc (taken n0 h)) + (s.retries - taken (suc n0) h)) * round_price s.net = ap (λ y. ((s.count - y) + (s.retries - taken (suc n0) (step ∷ h))) * round_price s.net) t0
        ∙ ap (λ y. ((s.count - suc (taken n0 h)) + (s.retries - y)) * round_price s.net) t1 in
        omega (arith, x, one-less s.count (taken n0 h) (s.retries - taken (suc n0) h) (round_price s.net) lt, ap (puts_weight (price s.net)) (e ∙ sym b.1), begins (suc (issued s.net h)))
    by_action (suc zero) ps q e k = let b = guard-holds (can_resend s (floor s.net w) h) (begin_all s.net (issued s.net h)) ps k in
        let lt : resent s.net h < s.retries = ltb-true (resent s.net h) s.retries (and_parts (nat_lt (resent s.net h) s.retries) _ b.0).0 in
        let t0 : taken n0 (step ∷ h) ≡ taken n0 h = taken-other n0 step h (λ m. omega (arith, m, ch, q)) in
        let t1 : taken (suc n0) (step ∷ h) ≡ suc (taken (suc n0) h) = taken-this (suc n0) step h (omega (arith, ch, q)) in
        let x : credit s 0 Observer (step ∷ h) ≡ ((s.count - taken n0 h) + (s.retries - suc (taken (suc n0) h))) * round_price s.net = ap (λ y. ((s.count - y) + (s.retries - taken (suc n0) (step ∷ h))) * round_price s.net) t0
        ∙ ap (λ y. ((s.count - taken n0 h) + (s.retries - y)) * round_price s.net) t1 in
        omega (arith, x, one-less-right (s.count - taken n0 h) s.retries (taken (suc n0) h) (round_price s.net) lt, ap (puts_weight (price s.net)) (e ∙ sym b.1), begins (issued s.net h))
    by_action (suc (suc i)) ps q e k = absurd cc

    by_case : TakesBy s lost w 0 c step ⊎ ActsBy s w 0 c step → Pays s lost w 0 c step 0
    by_case (inl t) = let lt : c < n0 = slice_get_within (links_into s.net 0) c t.link t.at in
        let t0 : taken n0 (step ∷ h) ≡ taken n0 h = taken-other n0 step h (λ m. omega (arith, m, ch, lt)) in
        let t1 : taken (suc n0) (step ∷ h) ≡ taken (suc n0) h = taken-other (suc n0) step h (λ m. omega (arith, m, ch, lt)) in
        let x : credit s 0 Observer (step ∷ h) ≡ credit s 0 Observer h = ap (λ y. ((s.count - y) + (s.retries - taken (suc n0) (step ∷ h))) * round_price s.net) t0 ∙ ap (λ y. ((s.count - taken n0 h) + (s.retries - y)) * round_price s.net) t1 in
        let e : step.puts ≡ [] = ap (λ y. y.puts) t.is ∙ ap (λ b. puts_of s 0 b h c t.link t.message) g.wired.observer in
        as_pays (price s.net t.link t.message) (λ z. inr (t, refl)) (omega (arith, x, ap (puts_weight (price s.net)) e, price-pays s.net t.link t.message))
    by_case (inr t) = let past = none-past (links_into s.net 0) c t.no_link in
        as_pays 0 (λ z. inl refl) (by_action (c - n0) t.puts (omega (arith, past)) (ap (λ y. y.puts) t.is) (subst (λ b. action s (floor_for s.net w b) 0 b h (c - n0) ≡ Some t.puts) g.wired.observer t.guard))

-- Hosts.

drop-next : {A : Type 0} (weight : A → ℕ) (xs : List A) (n : ℕ) (x : A) → slice_get xs n ≡ Some x → weigh weight (drop (suc n) xs) + weight x ≡ weigh weight (drop n xs)
drop-next weight [] n x h = absurd cc
drop-next weight (y ∷ ys) zero x h = let e : y ≡ x = cc in omega (arith, ap weight e)
drop-next weight (y ∷ ys) (suc n) x h = drop-next weight ys n x h

host-pays : (s : Setup) (lost : Losses) (w : World) (a x c : ℕ) (step : Step) → actor_of s.net a ≡ OfHost x → StepOf s lost w a c step → Pays s lost w a c step 0
host-pays s lost w a x c step q n = by_case (step-cases s lost w a c step n)
  where
    h : History
    h = history w a

    n0 : ℕ
    n0 = action_choice s.net a

    ch : step.choice ≡ c
    ch = choice-of-step s lost w a c step n

    as_pays : (took : ℕ) → ((step.choice ≡ c) → (took ≡ 0) ⊎ ((t : TakesBy s lost w a c step) × (took ≡ price s.net t.link t.message)))
        → suc (credit s a (OfHost x) (step ∷ h) + puts_weight (price s.net) step.puts) ≤ credit s a (OfHost x) h + took + 0 → Pays s lost w a c step 0
    as_pays took within o = record { took = took; within = within; pays = subst (λ b. suc (credit s a b (step ∷ h) + puts_weight (price s.net) step.puts) ≤ credit s a b h + took + 0) (sym q) o }

    by_frame : (o : Option (List ℕ)) (ps : List Put) → slice_get (frames_of s x) (taken n0 h) ≡ o → c ≡ n0 → step.puts ≡ ps → option_map (λ bytes. send_all (HostMsg bytes) (links_out s.net a FromHost)) o ≡ Some ps
        → suc (credit s a (OfHost x) (step ∷ h) + puts_weight (price s.net) step.puts) ≤ credit s a (OfHost x) h + 0 + 0
    by_frame None ps y z e k = absurd cc
    by_frame (Some b) ps y z e k = let e' : send_all (HostMsg b) (links_out s.net a FromHost) ≡ ps = cc in
        let t : taken n0 (step ∷ h) ≡ suc (taken n0 h) = taken-this n0 step h (ch ∙ z) in
        omega (arith, ap (λ j. weigh (frame_price s.net a) (drop j (frames_of s x))) t, drop-next (frame_price s.net a) (frames_of s x) (taken n0 h) b y, ap (puts_weight (price s.net)) (e ∙ sym e'), sends-weigh (price s.net) (HostMsg b) (links_out s.net a FromHost))

    by_action : (i : ℕ) (ps : List Put) → c ≡ n0 + i → step.puts ≡ ps → action s 0 a (OfHost x) h i ≡ Some ps → suc (credit s a (OfHost x) (step ∷ h) + puts_weight (price s.net) step.puts) ≤ credit s a (OfHost x) h + 0 + 0
    by_action zero ps z e k = by_frame (slice_get (frames_of s x) (taken n0 h)) ps refl (omega (arith, z)) e k
    by_action (suc i) ps z e k = absurd cc

    by_case : TakesBy s lost w a c step ⊎ ActsBy s w a c step → Pays s lost w a c step 0
    by_case (inl t) = let lt : c < n0 = slice_get_within (links_into s.net a) c t.link t.at in
        let t0 : taken n0 (step ∷ h) ≡ taken n0 h = taken-other n0 step h (λ m. omega (arith, m, ch, lt)) in
        let e : step.puts ≡ [] = ap (λ y. y.puts) t.is ∙ ap (λ b. puts_of s a b h c t.link t.message) q in
        as_pays (price s.net t.link t.message) (λ z. inr (t, refl)) (omega (arith, ap (λ j. weigh (frame_price s.net a) (drop j (frames_of s x))) t0, ap (puts_weight (price s.net)) e, price-pays s.net t.link t.message))
    by_case (inr t) = let past = none-past (links_into s.net a) c t.no_link in
        as_pays 0 (λ z. inl refl) (by_action (c - n0) t.puts (omega (arith, past)) (ap (λ y. y.puts) t.is) (subst (λ b. action s (floor_for s.net w b) a b h (c - n0) ≡ Some t.puts) q t.guard))

-- Any actor.

step-pays : (s : Setup) (lost : Losses) → Wiring s.net → (w : World) → Reached s lost w → (a c : ℕ) (step : Step) → StepOf s lost w a c step → Pays s lost w a c step (allowance s.net a (actor_of s.net a) c)
step-pays s lost g w r a c step n = by_actor (actor_of s.net a) refl
  where
    p : IsPriced s.net
    p = priced s.net g.wired

    by_actor : (i : ActorId) → actor_of s.net a ≡ i → Pays s lost w a c step (allowance s.net a i c)
    by_actor Observer q = let z : 0 ≡ a = sym (g.wired.one_observer a q) in subst (λ b. Pays s lost w b c step 0) z (observer-pays s lost g w c step (subst (λ b. StepOf s lost w b c step) (sym z) n))
    by_actor (Control d) q = control-pays s g.wired.ways lost p w a d q c step n
    by_actor (OfUnit i) q = unit-pays s lost g p w r a i q c step n (λ t k m. (stamp-above s lost g w r a i q c step n t k m, stamp-within s lost g w r a c step t k m))
    by_actor (OfHost x) q = host-pays s lost w a x c step q n

-- The law of the potential.
pub potential-turn : (s : Setup) (lost : Losses) → Wiring s.net → (w : World) → Reached s lost w → (e : Entry) (step : Step) → next_step s lost w e ≡ Some step → suc (potential s lost (turn s lost w e)) ≤ potential s lost w + allowed s.net e
potential-turn s lost g w r e step n =
    let t : Steps s lost w e (turn s lost w e) = record { step = step; next = n; grows = step-grows s lost w e.0 e.1 step r n } in
    potential-step s g.wired.ways lost w (turn s lost w e) e (allowed s.net e) t (step-pays s lost g w r e.0 e.1 step n)

-- A legal schedule is no longer than the potential where it begins, and what its sweeps add.
pub potential-run : (s : Setup) (lost : Losses) → Wiring s.net → (w : World) → Reached s lost w → (es : List Entry) → IsLegalFrom s lost w es → length es + potential s lost (run s lost w es) ≤ potential s lost w + weigh (allowed s.net) es
potential-run s lost g w r [] legal = omega arith
potential-run s lost g w r (e ∷ es) legal = by_step (next_step s lost w e) refl legal.0 (potential-run s lost g (turn s lost w e) (reached-turn s lost w e r) es legal.1)
  where
    by_step : (o : Option Step) → next_step s lost w e ≡ o → is_some o ≡ true → length es + potential s lost (run s lost (turn s lost w e) es) ≤ potential s lost (turn s lost w e) + weigh (allowed s.net) es
        → suc (length es) + potential s lost (run s lost (turn s lost w e) es) ≤ potential s lost w + (allowed s.net e + weigh (allowed s.net) es)
    by_step None q h ih = absurd cc
    by_step (Some step) q h ih = omega (arith, ih, potential-turn s lost g w r e step q)
