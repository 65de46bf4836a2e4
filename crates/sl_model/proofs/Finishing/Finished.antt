-- Where finishing ends the world is finished.
use Rattle.std.proofs.Common.{◌+◌, ◌++◌, ◌<◌, ◌==◌, List, None, Option, Some, ap, eq-eqb, inl, inr, length, lt-ltb, nat_le, refl, subst, suc, sym, zero, ℕ, ◌∙◌, ◌∷◌, ◌≡◌, ◌≤◌, arith, [], ◌*◌, ◌-◌, le-ltb}
use Rattle.std.specs.Prelude.{◌&&◌, Bool, cond, false, is_some, nat_lt, slice_get, true, ◌⊎◌, nat_eq, if◌then◌else◌, ◌||◌}
use Rattle.std.proofs.lemmas.Bool.{cases_lt, le-leb, ltb-false, or_parts, ltb-true}
use Rattle.sl_layout.specs.Net.{Net, action_choice, actor_of, links_into, unit_place, units}
use Rattle.sl_parts.specs.Parts.{below}
use Rattle.sl_layout.specs.declared.actor.ActorId.{ActorId}
use Rattle.sl_layout.specs.declared.actor.ActorId.TheVariants.{Control, Observer, Host as OfHost, Unit as OfUnit}
use Rattle.sl_layout.specs.declared.actor.UnitId.{UnitId}
use Rattle.sl_model.specs.End.{AllSent, AllTaken, IsFin, IsFinished, KnowsAll, Settled, after_sweeps, again_from, append_to, finish, is_collected, rose, settle, sweep_round, then_from}
use Rattle.sl_model.specs.History.{Losses, World, history, taken}
use Rattle.sl_model.specs.Knowledge.{can_issue, can_resend, floor, issued, known, observer, resent}
use Rattle.sl_model.specs.Puts.{action, begin_all}
use Rattle.sl_model.specs.Schedule.{link_entries, pass_actions, resend_entry, settling_pass, sweep_of, sweeps, pass_of}
use Rattle.sl_model.specs.Setup.{Setup}
use Rattle.sl_parts.specs.Lists.{Each}
use Rattle.sl_parts.proofs.Lists.{each-append, each-below, each-flat, each-imp, each-map, each-of}
use Rattle.sl_model.specs.World.{Entry, IsLossTable, acting, kept_from, next_step, run, turn, world, IsLegalFrom}
use Rattle.sl_model.proofs.Cuts.Bounds.{all-below, each-unit, floor-run}
use Rattle.sl_model.proofs.Cuts.Known.{floor-up}
use Rattle.sl_model.proofs.Cuts.Begins.{knows}
use Rattle.sl_model.proofs.Worlds.Trails.{run-kept}
use Rattle.sl_model.proofs.Worlds.Turns.{run-append, taken-this}
use Rattle.sl_model.proofs.Finishing.Idle.{IsIdle, action-step, each-idle, guard-fails, issued-within, none-of-idle, resent-within, settled-by-pass, there, knows-polled, polled_now}
use Rattle.sl_model.proofs.Finishing.NetWiring.{Wiring}
use Rattle.sl_model.proofs.Finishing.Phase.{IsPhase, IsSmall, phase-run, phase-starts, one-more-poll}
use Rattle.sl_model.proofs.Worlds.ReachedWorlds.{Reached, fifo_run-reached, reached-run, taken-grows, choice-of-step, step-grows}
use Rattle.std.proofs.lemmas.Bool.Decides.{eqb_tells}
use Rattle.sl_layout.specs.Serving.{served}
use Rattle.sl_model.specs.Words.{weigh}
use Rattle.sl_model.specs.declared.message.Step.{Step}
use Rattle.sl_model.specs.Potential.{allowance, allowed}
use Rattle.sl_model.proofs.Worlds.Legal.{IsLegalDone, settle_legal}
use Rattle.sl_model.proofs.Lists.Weighed.{weigh-append}

-- Entries of passes and sweeps.

pass-small : (net : Net) → Each (IsSmall net) (settling_pass net)
pass-small net = each-flat (IsSmall net) (λ a. link_entries net a ++ pass_actions net true a (actor_of net a)) (below (length net.actors))
    (each-of _ (below (length net.actors)) (λ a m. each-append (IsSmall net) (link_entries net a) (pass_actions net true a (actor_of net a)) (links a) (own a (actor_of net a))))
  where
    links : (a : ℕ) → Each (IsSmall net) (link_entries net a)
    links a = each-map (IsSmall net) (λ c. (a, c)) (below (length (links_into net a))) (each-below (λ c. c ≤ action_choice net a) (length (links_into net a)) (λ c h. omega (arith, h)))

    own : (a : ℕ) (i : ActorId) → Each (IsSmall net) (pass_actions net true a i)
    own a Observer = (omega arith, tt)
    own a (Control d) = tt
    own a (OfUnit i) = tt
    own a (OfHost h) = (omega arith, tt)

sweeps-small : (net : Net) → Each (IsSmall net) (sweeps net)
sweeps-small net = each-flat (IsSmall net) (λ a. sweep_of net a (actor_of net a)) (below (length net.actors)) (each-of _ (below (length net.actors)) (λ a m. of_actor a (actor_of net a)))
  where
    of_actor : (a : ℕ) (i : ActorId) → Each (IsSmall net) (sweep_of net a i)
    of_actor a Observer = tt
    of_actor a (Control d) = (omega arith, tt)
    of_actor a (OfUnit i) = tt
    of_actor a (OfHost h) = tt

pub kept-each : (P : Entry → Type 0) (s : Setup) (lost : Losses) (w : World) (es : List Entry) → Each P es → Each P (kept_from s lost w es)
kept-each P s lost w [] h = tt
kept-each P s lost w (e ∷ es) h = by_bool (is_some (next_step s lost w e)) (kept-each P s lost (turn s lost w e) es h.1) (kept-each P s lost w es h.1)
  where
    by_bool : (b : Bool) → Each P (kept_from s lost (turn s lost w e) es) → Each P (kept_from s lost w es) → Each P (cond b (e ∷ kept_from s lost (turn s lost w e) es) (kept_from s lost w es))
    by_bool true x y = (h.0, x)
    by_bool false x y = y

-- Settling.

pub append-splits : (es : List Entry) (o : Option (List Entry)) (fs : List Entry) → append_to es o ≡ Some fs → (gs : List Entry) × ((o ≡ Some gs) × (fs ≡ es ++ gs))
append-splits es None fs h = absurd cc
append-splits es (Some gs) fs h = let e : es ++ gs ≡ fs = cc in (gs, (refl, sym e))

pub record IsSettling (s : Setup) (lost : Losses) (w : World) (es : List Entry) : Type 0 where
  pub idle : kept_from s lost (run s lost w es) (settling_pass s.net) ≡ []
  pub small : Each (IsSmall s.net) es

pub settle-settled : (n : ℕ) (s : Setup) (lost : Losses) (w : World) (es : List Entry) → settle n s lost w ≡ Some es → IsSettling s lost w es
settle-settled zero s lost w es h = absurd cc
settle-settled (suc n) s lost w es h = by_kept (kept_from s lost w (settling_pass s.net)) refl h (kept-each (IsSmall s.net) s lost w (settling_pass s.net) (pass-small s.net)) (λ v fs. settle-settled n s lost v fs)
  where
    by_kept : (ks : List Entry) → kept_from s lost w (settling_pass s.net) ≡ ks → again_from s lost w (λ v. settle n s lost v) ks ≡ Some es → Each (IsSmall s.net) ks
        → ((v : World) (fs : List Entry) → settle n s lost v ≡ Some fs → IsSettling s lost v fs) → IsSettling s lost w es
    by_kept [] q k small ih = let e : [] ≡ es = cc in subst (IsSettling s lost w) e (record { idle = q; small = tt })
    by_kept (k ∷ ks) q m small ih = let x = append-splits (k ∷ ks) (settle n s lost (run s lost w (k ∷ ks))) es m in let y = ih (run s lost w (k ∷ ks)) x.0 x.1.0 in
        subst (IsSettling s lost w) (sym x.1.1) (record { idle = ap (λ v. kept_from s lost v (settling_pass s.net)) (run-append s lost w (k ∷ ks) x.0) ∙ y.idle; small = each-append (IsSmall s.net) (k ∷ ks) x.0 small y.small })

pub then-splits : (s : Setup) (lost : Losses) (w : World) (go : World → Option (List Entry)) (o : Option (List Entry)) (es : List Entry) → then_from s lost w go o ≡ Some es
    → (xs : List Entry) × ((o ≡ Some xs) × ((ys : List Entry) × ((go (run s lost w xs) ≡ Some ys) × (es ≡ xs ++ ys))))
then-splits s lost w go None es h = absurd cc
then-splits s lost w go (Some xs) es h = let a = append-splits xs (go (run s lost w xs)) es h in (xs, (refl, (a.0, (a.1.0, a.1.1))))

-- What the observer knows after sweeps.

-- after sweeps at a settled world, settled again with no number issued since, the observer knows the whole of each unit
pub knows-all : (s : Setup) (lost : Losses) → Wiring s.net → IsLossTable s.net lost → (w : World) → Reached s lost w → AllTaken s.net lost w → AllSent s w
    → (es : List Entry) → Each (IsSmall s.net) es → AllTaken s.net lost (run s lost (run s lost w (sweeps s.net)) es) → issued s.net (observer (run s lost (run s lost w (sweeps s.net)) es)) ≡ issued s.net (observer w)
    → KnowsAll s.net (run s lost (run s lost w (sweeps s.net)) es)
knows-all s lost g t w r h k es small h' same = each-imp (λ u. (i : UnitId) × (actor_of s.net u ≡ OfUnit i)) (λ u. known (unit_place s.net u) (observer z) ≡ length (history z u)) (units s.net) (λ u x. by_polled u x.0 x.1 (phase.polled u x.0 x.1)) (each-unit s.net)
  where
    v : World
    v = run s lost w (sweeps s.net)

    z : World
    z = run s lost v es

    rz : Reached s lost z
    rz = reached-run s lost v es (reached-run s lost w (sweeps s.net) r)

    up : issued s.net (observer w) ≤ issued s.net (observer v)
    up = taken-grows s lost 0 (action_choice s.net 0) w (sweeps s.net)

    more : issued s.net (observer v) ≤ issued s.net (observer z)
    more = taken-grows s lost 0 (action_choice s.net 0) v es

    phase : IsPhase s lost w z
    phase = phase-run s lost g w es small v (reached-run s lost w (sweeps s.net) r) (omega (arith, up, more, same))
        (phase-run s lost g w (sweeps s.net) (sweeps-small s.net) w r (omega (arith, up, more, same)) (phase-starts s lost w h k))

    by_polled : (u : ℕ) (i : UnitId) → actor_of s.net u ≡ OfUnit i → (history z u ≡ history w u) ⊎ (polled_now (history z u) ≡ true) → known (unit_place s.net u) (observer z) ≡ length (history z u)
    by_polled u i q (inl same) = absurd (one-more-poll s lost w u i (g.wired.reports u i q) t r h q es h' same)
    by_polled u i q (inr now) = knows-polled s lost z u i g.wired t (fifo_run-reached s lost z rz) h' q now

-- An idle resend.

and-fails : (a b : Bool) → (a && b) ≡ false → (a ≡ false) ⊎ (b ≡ false)
and-fails true b h = inr h
and-fails false b h = inl refl

resend-fails : (s : Setup) (lost : Losses) (w : World) → Wiring s.net → kept_from s lost w (resend_entry s.net ∷ []) ≡ [] → can_resend s (floor s.net w) (observer w) ≡ false
resend-fails s lost w g h = let i : IsIdle s lost w (resend_entry s.net) = (each-idle s lost w (resend_entry s.net ∷ []) h).0 in
    let e : suc (action_choice s.net 0) ≡ action_choice s.net 0 + 1 = omega arith in
    let o : slice_get s.net.actors 0 ≡ Some Observer = there s.net 0 g.some_actor ∙ ap Some g.wired.observer in
    let j : is_some (next_step s lost w (0, action_choice s.net 0 + 1)) ≡ false = subst (λ c. is_some (next_step s lost w (0, c)) ≡ false) e i in
    let n = none-of-idle (acting (action_choice s.net 0 + 1)) (action s (floor s.net w) 0 Observer (observer w) 1) (subst (λ o. is_some o ≡ false) (action-step s lost w 0 1 Observer o) j) in
    guard-fails (can_resend s (floor s.net w) (observer w)) (begin_all s.net (issued s.net (observer w))) n

-- no retry is left where neither F nor K rose since a settled world that is not collected
no-retries : (s : Setup) (lost : Losses) → Wiring s.net → 0 < s.window → (w v : World) → Reached s lost w → Reached s lost v → floor s.net w ≤ issued s.net (observer w) → can_issue s (floor s.net w) (observer w) ≡ false → is_collected s w ≡ false
    → floor s.net v ≤ floor s.net w → issued s.net (observer v) ≡ issued s.net (observer w) → can_resend s (floor s.net v) (observer v) ≡ false → resent s.net (observer v) ≡ s.retries
no-retries s lost g pos w v r rv fk ni nc fs ks nr = by_guard (and-fails (nat_lt (resent s.net (observer v)) s.retries) (nat_lt (floor s.net v) (issued s.net (observer v))) nr)
  where
    k : ℕ
    k = issued s.net (observer w)

    not-equal : (floor s.net w ≡ issued s.net (observer w)) → (issued s.net (observer w) ≡ s.count) → ⊥
    not-equal p q = let e : is_collected s w ≡ true = ap (λ b. b && (issued s.net (observer w) == s.count)) (eq-eqb (floor s.net w) (issued s.net (observer w)) p) ∙ eq-eqb (issued s.net (observer w)) s.count q in let x : true ≡ false = sym e ∙ nc in cc

    not-below : (floor s.net w ≡ issued s.net (observer w)) → issued s.net (observer w) < s.count → ⊥
    not-below p q = let e : can_issue s (floor s.net w) (observer w) ≡ true = ap (λ b. b && nat_le (suc (issued s.net (observer w))) (floor s.net w + s.window)) (lt-ltb (issued s.net (observer w)) s.count q)
        ∙ le-leb (suc (issued s.net (observer w))) (floor s.net w + s.window) (omega (arith, p, pos)) in let x : true ≡ false = sym e ∙ ni in cc

    by_count : (floor s.net w ≡ issued s.net (observer w)) → ((issued s.net (observer w) < s.count) ⊎ (s.count ≤ issued s.net (observer w))) → ⊥
    by_count p (inl q) = not-below p q
    by_count p (inr q) = not-equal p (omega (arith, q, issued-within s lost g w r))

    by_guard : (nat_lt (resent s.net (observer v)) s.retries ≡ false) ⊎ (nat_lt (floor s.net v) (issued s.net (observer v)) ≡ false) → resent s.net (observer v) ≡ s.retries
    by_guard (inl q) = omega (arith, ltb-false (resent s.net (observer v)) s.retries q, resent-within s lost g v rv)
    by_guard (inr q) = absurd (by_count (omega (arith, ltb-false (floor s.net v) (issued s.net (observer v)) q, fk, fs, ks)) (cases_lt (issued s.net (observer w)) s.count))

-- F is at most K.
pub floor-within : (s : Setup) (lost : Losses) (w : World) → Wiring s.net → Reached s lost w → floor s.net w ≤ issued s.net (observer w)
floor-within s lost w g r = subst (λ w. floor s.net w ≤ issued s.net (observer w)) r.1 (let b = all-below s lost r.0 g.wired in floor-up s lost (world s lost r.0) b.fifo_run b.below)

-- Rounds of finishing.

-- how the rounds after this one end
abbrev IsEnding : Setup → Losses → (World → Option (List Entry)) → Type 0
IsEnding s lost go = (v : World) → Reached s lost v → (fs : List Entry) → go v ≡ Some fs → IsFinished s lost (run s lost v fs)

-- from the world z, settled after the sweeps at the world v
after-sweeps-end : (s : Setup) (lost : Losses) (go : World → Option (List Entry)) → Wiring s.net → IsEnding s lost go → (v z : World) → Reached s lost z → Settled s lost z
    → issued s.net (observer v) ≤ issued s.net (observer z) → (issued s.net (observer z) ≡ issued s.net (observer v) → KnowsAll s.net z)
    → (floor s.net z ≤ floor s.net v → issued s.net (observer z) ≡ issued s.net (observer v) → can_resend s (floor s.net z) (observer z) ≡ false → resent s.net (observer z) ≡ s.retries)
    → (fs : List Entry) → after_sweeps go s lost z (rose s.net v z) ≡ Some fs → IsFinished s lost (run s lost z fs)
after-sweeps-end s lost go g ih v z rz sz up knows retries fs k = by_rose (rose s.net v z) refl k
  where
    by_kept : (nat_lt (floor s.net v) (floor s.net z) ≡ false) × (nat_lt (issued s.net (observer v)) (issued s.net (observer z)) ≡ false) → (ks : List Entry) → kept_from s lost z (resend_entry s.net ∷ []) ≡ ks
        → again_from s lost z go ks ≡ Some fs → IsFinished s lost (run s lost z fs)
    by_kept q [] e m = let f : [] ≡ fs = cc in
        let level : issued s.net (observer z) ≡ issued s.net (observer v) = omega (arith, up, ltb-false (issued s.net (observer v)) (issued s.net (observer z)) q.1) in
        subst (λ fs. IsFinished s lost (run s lost z fs)) f
        (record { settled = sz; ended = inr (record { no_retry = retries (ltb-false (floor s.net v) (floor s.net z) q.0) level (resend-fails s lost z g e); knows_all = knows level }) })
    by_kept q (k ∷ ks) e m = let x = append-splits (k ∷ ks) (go (run s lost z (k ∷ ks))) fs m in
        subst (IsFinished s lost) (sym (ap (run s lost z) x.1.1 ∙ run-append s lost z (k ∷ ks) x.0)) (ih (run s lost z (k ∷ ks)) (reached-run s lost z (k ∷ ks) rz) x.0 x.1.0)

    by_rose : (b : Bool) → rose s.net v z ≡ b → after_sweeps go s lost z b ≡ Some fs → IsFinished s lost (run s lost z fs)
    by_rose true q m = ih z rz fs m
    by_rose false q m = by_kept (or_parts (nat_lt (floor s.net v) (floor s.net z)) (nat_lt (issued s.net (observer v)) (issued s.net (observer z))) q) (kept_from s lost z (resend_entry s.net ∷ [])) refl m

-- from the settled world v
round-ends : (s : Setup) (lost : Losses) (n : ℕ) (go : World → Option (List Entry)) → Wiring s.net → IsLossTable s.net lost → 0 < s.window → IsEnding s lost go → (v : World) → Reached s lost v → Settled s lost v
    → (fs : List Entry) → sweep_round n go s lost v (is_collected s v) ≡ Some fs → IsFinished s lost (run s lost v fs)
round-ends s lost n go g t pos ih v rv sv fs k = by_collected (is_collected s v) refl k
  where
    ks : List Entry
    ks = kept_from s lost v (sweeps s.net)

    u : World
    u = run s lost v ks

    swept : u ≡ run s lost v (sweeps s.net)
    swept = run-kept s lost v (sweeps s.net)

    ru : Reached s lost u
    ru = reached-run s lost v ks rv

    known_of : (xs : List Entry) → Each (IsSmall s.net) xs → AllTaken s.net lost (run s lost u xs) → issued s.net (observer (run s lost u xs)) ≡ issued s.net (observer v) → KnowsAll s.net (run s lost u xs)
    known_of xs small h same = subst (λ u. KnowsAll s.net (run s lost u xs)) (sym swept) (knows-all s lost g t v rv sv.taken_all sv.sent_all xs small
        (subst (λ u. AllTaken s.net lost (run s lost u xs)) swept h) (subst (λ u. issued s.net (observer (run s lost u xs)) ≡ issued s.net (observer v)) swept same))

    of_settling : is_collected s v ≡ false → (xs : List Entry) → settle n s lost u ≡ Some xs → (ys : List Entry) → after_sweeps go s lost (run s lost u xs) (rose s.net v (run s lost u xs)) ≡ Some ys → IsFinished s lost (run s lost (run s lost u xs) ys)
    of_settling q xs e ys m = let z = run s lost u xs in let rz = reached-run s lost u xs ru in
        let y = settle-settled n s lost u xs e in let sz = settled-by-pass s lost g z rz y.idle in
        let up : issued s.net (observer v) ≤ issued s.net (observer u) = taken-grows s lost 0 (action_choice s.net 0) v ks in
        let more : issued s.net (observer u) ≤ issued s.net (observer z) = taken-grows s lost 0 (action_choice s.net 0) u xs in
        after-sweeps-end s lost go g ih v z rz sz (omega (arith, up, more)) (known_of xs y.small sz.taken_all)
        (λ fs ks nr. no-retries s lost g pos v z rv rz (floor-within s lost v g rv) sv.none_to_issue q fs ks nr) ys m

    by_collected : (b : Bool) → is_collected s v ≡ b → sweep_round n go s lost v b ≡ Some fs → IsFinished s lost (run s lost v fs)
    by_collected true q m = let f : [] ≡ fs = cc in subst (λ fs. IsFinished s lost (run s lost v fs)) f (record { settled = sv; ended = inl q })
    by_collected false q m = let a = append-splits ks (then_from s lost u (λ z. after_sweeps go s lost z (rose s.net v z)) (settle n s lost u)) fs m in
        let b = then-splits s lost u (λ z. after_sweeps go s lost z (rose s.net v z)) (settle n s lost u) a.0 a.1.0 in
        subst (IsFinished s lost) (sym (ap (run s lost v) a.1.1 ∙ run-append s lost v ks a.0 ∙ ap (run s lost u) b.1.1.1.1 ∙ run-append s lost u b.0 b.1.1.0)) (of_settling q b.0 b.1.0 b.1.1.0 b.1.1.1.0)

finish-ends : (s : Setup) (lost : Losses) → Wiring s.net → IsLossTable s.net lost → 0 < s.window → (n : ℕ) → IsEnding s lost (λ w. finish n s lost w)
finish-ends s lost g t pos zero w r es h = absurd cc
finish-ends s lost g t pos (suc n) w r es h = let x = then-splits s lost w (λ v. sweep_round (suc n) (λ v. finish n s lost v) s lost v (is_collected s v)) (settle (suc n) s lost w) es h in
    let v = run s lost w x.0 in let rv = reached-run s lost w x.0 r in
    let sv = settled-by-pass s lost g v rv (settle-settled (suc n) s lost w x.0 x.1.0).idle in
    subst (IsFinished s lost) (sym (ap (run s lost w) x.1.1.1.1 ∙ run-append s lost w x.0 x.1.1.0))
    (round-ends s lost (suc n) (λ v. finish n s lost v) g t pos (finish-ends s lost g t pos n) v rv sv x.1.1.0 x.1.1.1.0)

-- What finishing takes leads to a finished world.
pub fin-is-finished : (s : Setup) (lost : Losses) → Wiring s.net → IsLossTable s.net lost → 0 < s.window → (w : World) → Reached s lost w → (es : List Entry) → IsFin s lost w es → IsFinished s lost (run s lost w es)
fin-is-finished s lost g t pos w r es fin = finish-ends s lost g t pos fin.fuel w r es fin.finished

-- How many rounds of sweeps finishing takes.

-- Parts of schedules.

abbrev IsFree : Net → Entry → Type 0
IsFree net e = allowed net e ≡ 0

-- entries that add at most g
abbrev pub AddsAtMost : Net → ℕ → List Entry → Type 0
AddsAtMost net g es = weigh (allowed net) es ≤ g

adds-append : (net : Net) (g k : ℕ) (xs ys : List Entry) → AddsAtMost net g xs → AddsAtMost net k ys → AddsAtMost net (g + k) (xs ++ ys)
adds-append net g k xs ys p q = omega (arith, weigh-append (allowed net) xs ys, p, q)

free-append : (net : Net) (g : ℕ) (xs ys : List Entry) → AddsAtMost net 0 xs → AddsAtMost net g ys → AddsAtMost net g (xs ++ ys)
free-append net g xs ys p q = omega (arith, weigh-append (allowed net) xs ys, p, q)

weigh-free : (net : Net) (es : List Entry) → Each (IsFree net) es → weigh (allowed net) es ≤ 0
weigh-free net [] h = omega arith
weigh-free net (e ∷ es) h = omega (arith, h.0, weigh-free net es h.1)

pub weigh-kept : (f : Entry → ℕ) (s : Setup) (lost : Losses) (w : World) (es : List Entry) → weigh f (kept_from s lost w es) ≤ weigh f es
weigh-kept f s lost w [] = omega arith
weigh-kept f s lost w (e ∷ es) = by_bool (is_some (next_step s lost w e)) (weigh-kept f s lost (turn s lost w e) es) (weigh-kept f s lost w es)
  where
    by_bool : (b : Bool) → weigh f (kept_from s lost (turn s lost w e) es) ≤ weigh f es → weigh f (kept_from s lost w es) ≤ weigh f es → weigh f (cond b (e ∷ kept_from s lost (turn s lost w e) es) (kept_from s lost w es)) ≤ f e + weigh f es
    by_bool true x y = omega (arith, x)
    by_bool false x y = omega (arith, y)

-- Entries of passes.

pub link-free : (net : Net) (a : ℕ) (i : ActorId) (c : ℕ) → c < action_choice net a → allowance net a i c ≡ 0
link-free net a Observer c h = refl
link-free net a (Control d) c h = by_tells (eqb_tells c (action_choice net a))
  where
    by_tells : ((nat_eq c (action_choice net a) ≡ true) × (c ≡ action_choice net a)) ⊎ ((nat_eq c (action_choice net a) ≡ false) × (c ≡ action_choice net a → ⊥)) → (if c == action_choice net a then suc (3 * length (served net a)) else 0) ≡ 0
    by_tells (inl q) = absurd (omega (arith, h, q.1))
    by_tells (inr q) = ap (λ b. if b then suc (3 * length (served net a)) else 0) q.0
link-free net a (OfUnit i) c h = refl
link-free net a (OfHost x) c h = refl

pub pass-free : (net : Net) (settling : Bool) → Each (IsFree net) (pass_of net settling)
pass-free net settling = each-flat (IsFree net) (λ a. link_entries net a ++ pass_actions net settling a (actor_of net a)) (below (length net.actors))
    (each-of _ (below (length net.actors)) (λ a m. each-append (IsFree net) (link_entries net a) (pass_actions net settling a (actor_of net a)) (links a) (own settling a (actor_of net a) refl)))
  where
    links : (a : ℕ) → Each (IsFree net) (link_entries net a)
    links a = each-map (IsFree net) (λ c. (a, c)) (below (length (links_into net a))) (each-below (λ c. allowance net a (actor_of net a) c ≡ 0) (length (links_into net a)) (λ c h. link-free net a (actor_of net a) c h))

    own : (b : Bool) (a : ℕ) (i : ActorId) → actor_of net a ≡ i → Each (IsFree net) (pass_actions net b a i)
    own true a Observer q = (ap (λ i. allowance net a i (action_choice net a)) q, tt)
    own false a Observer q = tt
    own b a (Control d) q = tt
    own b a (OfUnit i) q = tt
    own b a (OfHost h) q = (ap (λ i. allowance net a i (action_choice net a)) q, tt)

-- what a round of sweeps may add
abbrev pub sweep_gain : Net → ℕ
sweep_gain net = weigh (allowed net) (sweeps net)

pub settle-free : (n : ℕ) (s : Setup) (lost : Losses) (w : World) (es : List Entry) → settle n s lost w ≡ Some es → AddsAtMost s.net 0 es
settle-free zero s lost w es h = absurd cc
settle-free (suc n) s lost w es h = by_kept (kept_from s lost w (settling_pass s.net)) h
    (omega (arith, weigh-kept (allowed s.net) s lost w (settling_pass s.net), weigh-free s.net (settling_pass s.net) (pass-free s.net true))) (λ v fs. settle-free n s lost v fs)
  where
    by_kept : (ks : List Entry) → again_from s lost w (λ v. settle n s lost v) ks ≡ Some es → AddsAtMost s.net 0 ks → ((v : World) (fs : List Entry) → settle n s lost v ≡ Some fs → AddsAtMost s.net 0 fs) → AddsAtMost s.net 0 es
    by_kept [] k p ih = let e : [] ≡ es = cc in subst (AddsAtMost s.net 0) e p
    by_kept (k ∷ ks) m p ih = let x = append-splits (k ∷ ks) (settle n s lost (run s lost w (k ∷ ks))) es m in
        subst (AddsAtMost s.net 0) (sym x.1.1) (free-append s.net 0 (k ∷ ks) x.0 p (ih (run s lost w (k ∷ ks)) x.0 x.1.0))

pub pass-adds : (s : Setup) (lost : Losses) (w : World) → weigh (allowed s.net) (kept_from s lost w (settling_pass s.net)) ≤ 0
pass-adds s lost w = omega (arith, weigh-kept (allowed s.net) s lost w (settling_pass s.net), weigh-free s.net (settling_pass s.net) (pass-free s.net true))

pub resend-adds : (s : Setup) (lost : Losses) (w : World) → Wiring s.net → weigh (allowed s.net) (kept_from s lost w (resend_entry s.net ∷ [])) ≤ 0
resend-adds s lost w g = let f : allowed s.net (resend_entry s.net) ≡ 0 = ap (λ i. allowance s.net 0 i (suc (action_choice s.net 0))) g.wired.observer in omega (arith, f, weigh-kept (allowed s.net) s lost w (resend_entry s.net ∷ []))

pub settle-legal : (s : Setup) (lost : Losses) (n : ℕ) (w : World) (es : List Entry) → settle n s lost w ≡ Some es → IsLegalFrom s lost w es
settle-legal s lost n w es h = subst (λ (o : Option (List Entry)). IsLegalDone s lost w o) h (settle_legal n s lost w)

-- neither F nor K rose from a world to itself
pub rose-itself : (net : Net) (w : World) → rose net w w ≡ false
rose-itself net w = ap (λ b. b || nat_lt (issued net (observer w)) (issued net (observer w))) (le-ltb (floor net w) (floor net w) (omega arith)) ∙ le-ltb (issued net (observer w)) (issued net (observer w)) (omega arith)

-- What is left to rise: F, K and the retries.
abbrev pub left : Setup → World → ℕ
left s w = ((s.count - floor s.net w) + (s.count - issued s.net (observer w))) + (s.retries - resent s.net (observer w))

pub left-falls : (s : Setup) (lost : Losses) → Wiring s.net → (w : World) → Reached s lost w → (es : List Entry) → left s (run s lost w es) ≤ left s w
left-falls s lost g w r es = let v = run s lost w es in
    let a : floor s.net w ≤ floor s.net v = floor-run s lost w es g.wired (fifo_run-reached s lost w r) in
    let b : issued s.net (observer w) ≤ issued s.net (observer v) = taken-grows s lost 0 (action_choice s.net 0) w es in
    let c : resent s.net (observer w) ≤ resent s.net (observer v) = taken-grows s lost 0 (suc (action_choice s.net 0)) w es in
    of_numbers s.count s.retries (floor s.net w) (floor s.net v) (issued s.net (observer w)) (issued s.net (observer v)) (resent s.net (observer w)) (resent s.net (observer v)) a b c
  where
    of_numbers : (c t f f' k k' r r' : ℕ) → f ≤ f' → k ≤ k' → r ≤ r' → ((c - f') + (c - k')) + (t - r') ≤ ((c - f) + (c - k)) + (t - r)
    of_numbers c t f f' k k' r r' x y z = omega (arith, x, y, z)

or-true : (a b : Bool) → (a || b) ≡ true → (a ≡ true) ⊎ (b ≡ true)
or-true true b h = inl refl
or-true false b h = inr h

pub rose-left : (s : Setup) (lost : Losses) → Wiring s.net → (v : World) → Reached s lost v → (es : List Entry) → rose s.net v (run s lost v es) ≡ true → suc (left s (run s lost v es)) ≤ left s v
rose-left s lost g v r es h = let z = run s lost v es in let rz : Reached s lost z = reached-run s lost v es r in
    let a : floor s.net v ≤ floor s.net z = floor-run s lost v es g.wired (fifo_run-reached s lost v r) in
    let b : issued s.net (observer v) ≤ issued s.net (observer z) = taken-grows s lost 0 (action_choice s.net 0) v es in
    let c : resent s.net (observer v) ≤ resent s.net (observer z) = taken-grows s lost 0 (suc (action_choice s.net 0)) v es in
    of_numbers s.count s.retries (floor s.net v) (floor s.net z) (issued s.net (observer v)) (issued s.net (observer z)) (resent s.net (observer v)) (resent s.net (observer z)) a b c (floor-within s lost z g rz) (issued-within s lost g z rz)
    (either (or-true (nat_lt (floor s.net v) (floor s.net z)) (nat_lt (issued s.net (observer v)) (issued s.net (observer z))) h))
  where
    of_numbers : (c t f f' k k' r r' : ℕ) → f ≤ f' → k ≤ k' → r ≤ r' → f' ≤ k' → k' ≤ c → (f < f') ⊎ (k < k') → suc (((c - f') + (c - k')) + (t - r')) ≤ ((c - f) + (c - k)) + (t - r)
    of_numbers c t f f' k k' r r' x y z m n (inl q) = omega (arith, x, y, z, m, n, q)
    of_numbers c t f f' k k' r r' x y z m n (inr q) = omega (arith, x, y, z, m, n, q)

    either : {a b c d : ℕ} → (nat_lt a b ≡ true) ⊎ (nat_lt c d ≡ true) → (a < b) ⊎ (c < d)
    either (inl q) = inl (ltb-true _ _ q)
    either (inr q) = inr (ltb-true _ _ q)

pub resend-left : (s : Setup) (lost : Losses) → Wiring s.net → (z : World) → Reached s lost z → (k : Entry) (ks : List Entry) → kept_from s lost z (resend_entry s.net ∷ []) ≡ k ∷ ks → suc (left s (run s lost z (k ∷ ks))) ≤ left s z
resend-left s lost g z r k ks h = subst (λ es. suc (left s (run s lost z es)) ≤ left s z) h (subst (λ y. suc (left s y) ≤ left s z) (sym (run-kept s lost z (resend_entry s.net ∷ []))) (by_step (next_step s lost z e) refl))
  where
    e : Entry
    e = resend_entry s.net

    of_numbers : (c t f f' k k' r r' : ℕ) → f ≤ f' → k ≤ k' → r' ≡ suc r → r' ≤ t → suc (((c - f') + (c - k')) + (t - r')) ≤ ((c - f) + (c - k)) + (t - r)
    of_numbers c t f f' k k' r r' x y z m = omega (arith, x, y, z, m)

    by_step : (o : Option Step) → next_step s lost z e ≡ o → suc (left s (turn s lost z (resend_entry s.net))) ≤ left s z
    by_step None q = let n : kept_from s lost z (resend_entry s.net ∷ []) ≡ [] = ap (λ o. cond (is_some o) (resend_entry s.net ∷ []) []) q in absurd (let x : [] ≡ k ∷ ks = sym n ∙ h in cc)
    by_step (Some step) q = let y = turn s lost z (resend_entry s.net) in let c = suc (action_choice s.net 0) in
        let m : resent s.net (observer y) ≡ suc (resent s.net (observer z)) = ap (taken c) (step-grows s lost z 0 c step r q).same ∙ taken-this c step (observer z) (choice-of-step s lost z 0 c step q) in
        let a : floor s.net z ≤ floor s.net y = floor-run s lost z (resend_entry s.net ∷ []) g.wired (fifo_run-reached s lost z r) in
        let b : issued s.net (observer z) ≤ issued s.net (observer y) = taken-grows s lost 0 (action_choice s.net 0) z (resend_entry s.net ∷ []) in
        let t : resent s.net (observer y) ≤ s.retries = resent-within s lost g y (reached-run s lost z (resend_entry s.net ∷ []) r) in
        of_numbers s.count s.retries (floor s.net z) (floor s.net y) (issued s.net (observer z)) (issued s.net (observer y)) (resent s.net (observer z)) (resent s.net (observer y)) a b m t

pub mul-le : (a b g : ℕ) → a ≤ b → a * g ≤ b * g
mul-le zero b g h = omega arith
mul-le (suc a) zero g h = absurd (omega (arith, h))
mul-le (suc a) (suc b) g h = omega (arith, mul-le a b g (omega (arith, h)))

-- Finishing takes a round of sweeps for each of F, K and the retries that rises, and one more.

abbrev IsRounds : Setup → Losses → (World → Option (List Entry)) → Type 0
IsRounds s lost go = (u : World) → Reached s lost u → (fs : List Entry) → go u ≡ Some fs → AddsAtMost s.net (suc (left s u) * sweep_gain s.net) fs

more : (net : Net) (a b : ℕ) (es : List Entry) → a ≤ b → AddsAtMost net (a * sweep_gain net) es → AddsAtMost net (b * sweep_gain net) es
more net a b es h p = omega (arith, p, mul-le a b (sweep_gain net) h)

after-sweeps-add : (s : Setup) (lost : Losses) (go : World → Option (List Entry)) → Wiring s.net → IsRounds s lost go → (v : World) → Reached s lost v → (xs fs : List Entry)
    → after_sweeps go s lost (run s lost v xs) (rose s.net v (run s lost v xs)) ≡ Some fs → AddsAtMost s.net (left s v * sweep_gain s.net) fs
after-sweeps-add s lost go g ih v rv xs fs k = by_rose (rose s.net v (run s lost v xs)) refl k
  where
    by_kept : (ks : List Entry) → kept_from s lost (run s lost v xs) (resend_entry s.net ∷ []) ≡ ks → again_from s lost (run s lost v xs) go ks ≡ Some fs → AddsAtMost s.net (left s v * sweep_gain s.net) fs
    by_kept [] e m = let f : [] ≡ fs = cc in subst (AddsAtMost s.net (left s v * sweep_gain s.net)) f (omega arith)
    by_kept (k ∷ ks) e m = let z = run s lost v xs in let rz : Reached s lost z = reached-run s lost v xs rv in let x = append-splits (k ∷ ks) (go (run s lost z (k ∷ ks))) fs m in
        let u = run s lost z (k ∷ ks) in
        let f : allowed s.net (resend_entry s.net) ≡ 0 = ap (λ i. allowance s.net 0 i (suc (action_choice s.net 0))) g.wired.observer in
        let p : AddsAtMost s.net 0 (k ∷ ks) = subst (AddsAtMost s.net 0) e (omega (arith, f, weigh-kept (allowed s.net) s lost z (resend_entry s.net ∷ []))) in
        let l : suc (left s u) ≤ left s z = resend-left s lost g z rz k ks e in
        let d : left s z ≤ left s v = left-falls s lost g v rv xs in
        subst (AddsAtMost s.net (left s v * sweep_gain s.net)) (sym x.1.1) (free-append s.net (left s v * sweep_gain s.net) (k ∷ ks) x.0 p
        (more s.net (suc (left s u)) (left s v) x.0 (omega (arith, l, d)) (ih u (reached-run s lost z (k ∷ ks) rz) x.0 x.1.0)))

    by_rose : (b : Bool) → rose s.net v (run s lost v xs) ≡ b → after_sweeps go s lost (run s lost v xs) b ≡ Some fs → AddsAtMost s.net (left s v * sweep_gain s.net) fs
    by_rose true q m = more s.net (suc (left s (run s lost v xs))) (left s v) fs (rose-left s lost g v rv xs q) (ih (run s lost v xs) (reached-run s lost v xs rv) fs m)
    by_rose false q m = by_kept (kept_from s lost (run s lost v xs) (resend_entry s.net ∷ [])) refl m

round-adds : (s : Setup) (lost : Losses) (n : ℕ) (go : World → Option (List Entry)) → Wiring s.net → IsRounds s lost go → (v : World) → Reached s lost v → (fs : List Entry) (b : Bool)
    → sweep_round n go s lost v b ≡ Some fs → AddsAtMost s.net (suc (left s v) * sweep_gain s.net) fs
round-adds s lost n go g ih v rv fs true k = let f : [] ≡ fs = cc in subst (AddsAtMost s.net (suc (left s v) * sweep_gain s.net)) f (omega arith)
round-adds s lost n go g ih v rv fs false k = let ks = kept_from s lost v (sweeps s.net) in let u = run s lost v ks in
    let a = append-splits ks (then_from s lost u (λ z. after_sweeps go s lost z (rose s.net v z)) (settle n s lost u)) fs k in
    let b = then-splits s lost u (λ z. after_sweeps go s lost z (rose s.net v z)) (settle n s lost u) a.0 a.1.0 in
    let e : run s lost v (ks ++ b.0) ≡ run s lost u b.0 = run-append s lost v ks b.0 in
    let z : AddsAtMost s.net (left s v * sweep_gain s.net) b.1.1.0 = after-sweeps-add s lost go g ih v rv (ks ++ b.0) b.1.1.0 (subst (λ x. after_sweeps go s lost x (rose s.net v x) ≡ Some b.1.1.0) (sym e) b.1.1.1.0) in
    let y : AddsAtMost s.net (left s v * sweep_gain s.net) a.0 = subst (AddsAtMost s.net (left s v * sweep_gain s.net)) (sym b.1.1.1.1) (free-append s.net (left s v * sweep_gain s.net) b.0 b.1.1.0 (settle-free n s lost u b.0 b.1.0) z) in
    let t : AddsAtMost s.net (sweep_gain s.net + left s v * sweep_gain s.net) fs = subst (AddsAtMost s.net (sweep_gain s.net + left s v * sweep_gain s.net)) (sym a.1.1)
    (adds-append s.net (sweep_gain s.net) (left s v * sweep_gain s.net) ks a.0 (weigh-kept (allowed s.net) s lost v (sweeps s.net)) y) in
    omega (arith, t)

pub finish-adds : (s : Setup) (lost : Losses) → Wiring s.net → (n : ℕ) → IsRounds s lost (λ w. finish n s lost w)
finish-adds s lost g zero w r es h = absurd cc
finish-adds s lost g (suc n) w r es h = let x = then-splits s lost w (λ v. sweep_round (suc n) (λ v. finish n s lost v) s lost v (is_collected s v)) (settle (suc n) s lost w) es h in
    let v = run s lost w x.0 in let rv : Reached s lost v = reached-run s lost w x.0 r in
    let l : left s v ≤ left s w = left-falls s lost g w r x.0 in
    subst (AddsAtMost s.net (suc (left s w) * sweep_gain s.net)) (sym x.1.1.1.1) (free-append s.net (suc (left s w) * sweep_gain s.net) x.0 x.1.1.0 (settle-free (suc n) s lost w x.0 x.1.0)
    (more s.net (suc (left s v)) (suc (left s w)) x.1.1.0 (omega (arith, l)) (round-adds s lost (suc n) (λ v. finish n s lost v) g (finish-adds s lost g n) v rv x.1.1.0 (is_collected s v) x.1.1.1.0)))
