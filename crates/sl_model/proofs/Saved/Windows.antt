-- The calls of a unit lie within the window, and so does what dumps bring a control plane.
use Rattle.std.proofs.Common.{◌≡◌, ℕ, zero, suc, ◌+◌, ◌-◌, ◌<◌, ◌≤◌, List, [], ◌∷◌, ◌++◌, length, refl, sym, ap, subst, ◌∙◌, Option, Some, None, arith, inl, inr}
use Rattle.std.specs.Prelude.{◌⊎◌, max, true, false, Bool, ◌==◌, if◌then◌else◌, map, drop, ◌&&◌, slice_index_or, nat_lt, nat_eq, slice_get, unwrap_or, IsTrue, option_and_then}
use Rattle.std.proofs.lemmas.Bool.{lt-ltb, le-ltb, cases_lt, and_left, and_right, eq-eqb}
use Rattle.std.proofs.lemmas.Bool.Decides.{eqb_tells}
use Rattle.sl_layout.specs.declared.actor.UnitId.{UnitId}
use Rattle.sl_layout.specs.declared.actor.ActorId.TheVariants.{Unit as OfUnit, Observer}
use Rattle.sl_layout.specs.declared.actor.Sort.{Sort}
use Rattle.sl_layout.specs.declared.actor.Sort.TheVariants.{Cable, Crossbar, Init, Poll, Dump}
use Rattle.sl_net.specs.declared.input.Packet.{Packet}
use Rattle.sl_layout.specs.Net.{actor_of, link_of, choice_of, data_channels, Net, links_into, links_out, choices_of, unit_place}
use Rattle.sl_net.specs.Wired.{IsWired, Reports}
use Rattle.sl_saves.specs.Calls.{Adopt, Credited}
use Rattle.sl_model.specs.declared.message.Message.{Message}
use Rattle.sl_model.specs.declared.message.Message.TheVariants.{Data, Probe as ProbeMsg, Init as InitMsg, Dump as DumpMsg, Done as DoneMsg}
use Rattle.sl_model.specs.declared.message.Step.{Step}
use Rattle.sl_parts.specs.Lists.{Each, Member}
use Rattle.sl_parts.proofs.Lists.{each-append, each-imp, each-map, each-of, each-at}
use Rattle.sl_model.specs.Words.{Rises, listed, numbers}
use Rattle.sl_model.specs.History.{History, World, Losses, history, stamp_of, stamp_taken, id, last, taken, put, dump_of, done_of, first}
use Rattle.sl_model.specs.Setup.{Setup}
use Rattle.sl_model.specs.Counting.{packets, bytes}
use Rattle.sl_model.specs.World.{Entry, start, next_step, turn, world, carried, sender, receiver, after}
use Rattle.sl_model.specs.Made.{IsFifoRun}
use Rattle.sl_model.specs.Verdict.{is_old_data, adopted, nth_adopted, miscredits}
use Rattle.sl_model.specs.Fit.{fits, fits_link, is_stamped, stamp}
use Rattle.sl_model.specs.Window.{on_way, IsInWindow, IsNear, begun}
use Rattle.sl_net.specs.Ways.{IsInto, HasWays, IsOut}
use Rattle.sl_model.proofs.Worlds.Turns.{kept_by_run, Steps, turn-cases, run-append, start-empty, grows-after, next-within}
use Rattle.sl_model.proofs.Worlds.FifoRuns.{next-view, fifo_run, fifo_run-turn}
use Rattle.sl_model.proofs.Worlds.Stamps.{each-lost, put-fits, id-falls}
use Rattle.sl_model.proofs.Cuts.Collected.{in-window, near, on-way-is, least-start, least-each, floor-id, floor-unit, Reached, lag-of, data-fits}
use Rattle.sl_model.specs.Calls.{credit, credits_in, step_calls, calls}
use Rattle.sl_model.specs.UnitWindow.{IsWithin, IsTakeable}
use Rattle.sl_model.specs.Turns.{Takes, Acts, GrowsAt}
use Rattle.sl_model.proofs.Saved.Entries.{stamp_in, adopted-le, adopted-falls}
use Rattle.sl_model.proofs.Lists.Lowest.{Falls}
use Rattle.sl_model.proofs.Saved.Rows.{miscredits-none}
use Rattle.sl_model.proofs.Saved.Settled.{IsData, is-channel, place-lt, data-is, row-later}
use Rattle.std.proofs.lemmas.List.{length-map}
use Rattle.sl_layout.specs.Serving.{serving, served, choice_from}
use Rattle.sl_model.specs.Knowledge.{observer, dumped, known, collected, issued, upto_of, floor_of, floor, unit_floor}
use Rattle.sl_model.proofs.Worlds.Numbers.{rises-le, never-falls, falls-first, NeverFalls}
use Rattle.sl_model.proofs.Cuts.Begins.{Knows, knows, dumps-into}
use Rattle.sl_model.proofs.Cuts.Bounds.{choice-falls, channels-fall, upto-falls, floor-of-falls, known-le, each-get}
use Rattle.sl_model.specs.Brought.{IsRaised, IsBrought}
use Rattle.sl_model.specs.Rows.{row}
use Rattle.sl_model.proofs.Cuts.Prefixes.{first-all}
use Rattle.sl_model.proofs.Worlds.ReachedWorlds.{length-run}

-- No last-seen number lies above the id.
pub last-id : (c : ℕ) (h : History) → last c h ≤ id h
last-id c [] = omega arith
last-id c (s ∷ h) = by_bool (s.choice == c) (last-id c h)
  where
    of_stamp : (o : Option ℕ) → last c h ≤ id h → unwrap_or o (last c h) ≤ max (unwrap_or o 0) (id h)
    of_stamp None p = omega (arith, p)
    of_stamp (Some k) p = omega arith

    by_bool : (b : Bool) → last c h ≤ id h → (if b then unwrap_or (stamp_taken s) (last c h) else last c h) ≤ id (s ∷ h)
    by_bool true p = of_stamp (stamp_taken s) p
    by_bool false p = omega (arith, p)

-- a message with a stamp belongs on a stamped link
stamped-sort : (t : Sort) (m : Message) (j : ℕ) → fits t m ≡ true → stamp_of m ≡ Some j → IsTrue (is_stamped t)
stamped-sort Cable m j f e = refl
stamped-sort Crossbar m j f e = refl
stamped-sort Init m j f e = refl
stamped-sort _ (Data k p) j f e = absurd cc
stamped-sort _ (ProbeMsg k) j f e = absurd cc
stamped-sort _ (InitMsg k) j f e = absurd cc
stamped-sort _ _ j f e = absurd cc

-- What a step takes is the first message on its way.

way-head : (xs : List Message) (n : ℕ) (m : Message) → slice_get xs n ≡ Some m → (rest : List Message) × (drop n xs ≡ m ∷ rest)
way-head [] n m e = absurd cc
way-head (x ∷ xs) zero m e = let q : x ≡ m = cc in (xs, ap (λ y. y ∷ xs) q)
way-head (x ∷ xs) (suc n) m e = way-head xs n m e

-- what an actor takes is the first message on its way there
pub next-way : (s : Setup) → HasWays s.net → (lost : Losses) (w : World) (u : ℕ) (step : Step) → (t : Takes s lost w u step) → (rest : List Message) × (on_way s.net lost w t.took.link ≡ t.took.message ∷ rest)
next-way s ways lost w u step t = let front = way-head (carried s.net lost w t.took.link) (taken step.choice (history w u)) t.took.message t.found in let into = ways.into u step.choice t.took.link t.took.into in
    (front.0, (λ i. drop (taken (ways.choice u step.choice t.took.link t.took.into i) (history w (into.to i))) (carried s.net lost w t.took.link)) ∙ front.1)

-- what holds of the message that a step takes, by the link that it comes from
record IsNext (s : Setup) (u : ℕ) (step : Step) (h : History) (m : Message) : Type 0 where
  -- where it has a stamp, this and the id lie at most the window above the last-seen number
  pub stamp_near : (j : ℕ) → stamp_of m ≡ Some j → j ≤ last step.choice h + s.window
  pub id_near : (j : ℕ) → stamp_of m ≡ Some j → id h ≤ last step.choice h + s.window
  pub order : (j : ℕ) → stamp_of m ≡ Some j → last step.choice h ≤ j
  -- data comes by a data channel
  pub channel : (j : ℕ) (p : Packet) → m ≡ Data j p → Member step.choice (data_channels s.net u)

next-is : (s : Setup) (lost : Losses) (w : World) (u : ℕ) (i : UnitId) (step : Step) → IsWired s.net → IsFifoRun s lost w → IsInWindow s lost w → actor_of s.net u ≡ OfUnit i → (t : Takes s lost w u step)
    → IsNext s u step (history w u) t.took.message
next-is s lost w u i step n r x q t = record {
  stamp_near = λ j e. let b = (subst (Each (λ m. stamp m ≤ last (choice_of s.net l) h + s.window)) way.1 (near-by j e).stamps_near).0 in let z : stamp t.took.message ≡ j = ap (λ o. unwrap_or o 0) e in omega (arith, b, z, same);
  id_near = λ j e. let b = (near-by j e).id_near in omega (arith, b, same);
  order = λ j e. let y = by_sort (link_of s.net l).sort refl (stamped-sort (link_of s.net l).sort t.took.message j fit e) j e in omega (arith, y, there);
  channel = λ j p e. is-channel s.net u step.choice l t.took.into (carries j p e);
}
  where
    l : ℕ
    l = t.took.link

    h : History
    h = history w u

    into : IsInto s.net u t.took.link
    into = n.ways.into u step.choice t.took.link t.took.into

    same : last (choice_of s.net t.took.link) (history w u) ≡ last step.choice (history w u)
    same = ap (λ c. last c (history w u)) (n.ways.choice u step.choice t.took.link t.took.into)

    there : last (choice_of s.net t.took.link) (receiver s.net w t.took.link) ≡ last step.choice (history w u)
    there = ap (λ a. last (choice_of s.net t.took.link) (history w a)) into.to ∙ same

    way : (rest : List Message) × (on_way s.net lost w t.took.link ≡ t.took.message ∷ rest)
    way = next-way s n.ways lost w u step t

    fit : fits_link s.net t.took.link t.took.message ≡ true
    fit = let from = (link_of s.net t.took.link).from in each-get (λ m. fits_link s.net t.took.link m ≡ true) (carried s.net lost w t.took.link) (taken step.choice (history w u)) t.took.message
        (each-lost (λ m. fits_link s.net t.took.link m ≡ true) (lost t.took.link) 0 (put t.took.link (history w from)) (put-fits s from t.took.link (history w from) (r.made from))) t.found

    near-by : (j : ℕ) → stamp_of t.took.message ≡ Some j → IsNear s lost w u t.took.link
    near-by j e = near s lost w u t.took.link i n r x q into.is_link into.to (stamped-sort (link_of s.net t.took.link).sort t.took.message j fit e)

    rise : (b j : ℕ) → stamp_of t.took.message ≡ Some j → Rises (last (choice_of s.net t.took.link) (receiver s.net w t.took.link)) (numbers stamp_of (on_way s.net lost w t.took.link)) b → last (choice_of s.net t.took.link) (receiver s.net w t.took.link) ≤ j
    rise b j e y = (subst (λ o. Rises (last (choice_of s.net t.took.link) (receiver s.net w t.took.link)) (listed o ++ numbers stamp_of way.0) b) e
        (subst (λ ms. Rises (last (choice_of s.net t.took.link) (receiver s.net w t.took.link)) (numbers stamp_of ms) b) way.1 y)).0

    by_sort : (k : Sort) → (link_of s.net t.took.link).sort ≡ k → IsTrue (is_stamped k) → (j : ℕ) → stamp_of t.took.message ≡ Some j → last (choice_of s.net t.took.link) (receiver s.net w t.took.link) ≤ j
    by_sort Cable q y j e = rise (id (sender s.net w t.took.link)) j e (x.data_stamps t.took.link (record { link = into.is_link; data_sort = data-is (link_of s.net t.took.link).sort (inl q) }))
    by_sort Crossbar q y j e = rise (id (sender s.net w t.took.link)) j e (x.data_stamps t.took.link (record { link = into.is_link; data_sort = data-is (link_of s.net t.took.link).sort (inr q) }))
    by_sort Init q y j e = rise (begun (sender s.net w t.took.link)) j e (x.init_stamps t.took.link into.is_link q)
    by_sort _ q y j e = absurd cc

    carries : (j : ℕ) (p : Packet) → t.took.message ≡ Data j p → IsData s.net t.took.link
    carries j p e = data-fits (link_of s.net t.took.link).sort j p (ap (fits_link s.net t.took.link) (sym e) ∙ fit)

-- The calls of a step.

idle-calls : (window : ℕ) (cs : List ℕ) (step : Step) (h : History) → step.taken ≡ None → Each (IsWithin window) (step_calls cs h step)
idle-calls window cs step h e = let z : stamp_in step.taken ≡ 0 = ap stamp_in e in
    subst (λ b. Each (IsWithin window) (if b then Adopt (id (step ∷ h) - id h) (packets h) (bytes h) ∷ [] else map Credited (credits_in cs (id h) step.choice step.taken))) (sym (le-ltb (id h) (id (step ∷ h)) (omega (arith, z))))
    (subst (λ o. Each (IsWithin window) (map Credited (credits_in cs (id h) step.choice o))) (sym e) tt)

taken-calls : (s : Setup) (u : ℕ) (step : Step) (h : History) (m : Message) → length (data_channels s.net u) ≤ 8 → step.taken ≡ Some m → IsNext s u step h m
    → Each (IsWithin s.window) (step_calls (data_channels s.net u) h step)
taken-calls s u step h m few e x = by_place (cases_lt (id h) (id (step ∷ h)))
  where
    z : stamp_in step.taken ≡ stamp m
    z = ap stamp_in e

    low : last step.choice h ≤ id h
    low = last-id step.choice h

    of_stamp : id h < id (step ∷ h) → (o : Option ℕ) → stamp_of m ≡ o → stamp m ≤ last step.choice h + s.window
    of_stamp p None q = absurd (let y : stamp m ≡ 0 = ap (λ o. unwrap_or o 0) q in omega (arith, p, z, y))
    of_stamp p (Some j) q = let y : stamp m ≡ j = ap (λ o. unwrap_or o 0) q in let b = x.stamp_near j q in omega (arith, b, y)

    of_data : (j : ℕ) (p : Packet) → m ≡ Data j p → ((j < id h) ⊎ (id h ≤ j))
        → Each (IsWithin s.window) (map Credited (if nat_lt j (id h) then credit (data_channels s.net u) (id h) step.choice j p ∷ [] else []))
    of_data j p q (inl y) = subst (λ b. Each (IsWithin s.window) (map Credited (if b then credit (data_channels s.net u) (id h) step.choice j p ∷ [] else []))) (sym (lt-ltb j (id h) y))
        (let b = x.id_near j (ap stamp_of q) in let o = x.order j (ap stamp_of q) in let k = place-lt 0 step.choice (data_channels s.net u) (x.channel j p q) in ((omega (arith, k, few), omega (arith, y), omega (arith, b, o)), tt))
    of_data j p q (inr y) = subst (λ b. Each (IsWithin s.window) (map Credited (if b then credit (data_channels s.net u) (id h) step.choice j p ∷ [] else []))) (sym (le-ltb j (id h) y)) tt

    of_message : (k : Message) → m ≡ k → Each (IsWithin s.window) (map Credited (credits_in (data_channels s.net u) (id h) step.choice (Some k)))
    of_message (Data j p) q = of_data j p q (cases_lt j (id h))
    of_message _ q = tt

    by_place : ((id h < id (step ∷ h)) ⊎ (id (step ∷ h) ≤ id h)) → Each (IsWithin s.window) (step_calls (data_channels s.net u) h step)
    by_place (inl p) = subst (λ b. Each (IsWithin s.window) (if b then Adopt (id (step ∷ h) - id h) (packets h) (bytes h) ∷ [] else map Credited (credits_in (data_channels s.net u) (id h) step.choice step.taken)))
        (sym (lt-ltb (id h) (id (step ∷ h)) p)) ((omega (arith, p), (let y = of_stamp p (stamp_of m) refl in omega (arith, p, z, y, low))), tt)
    by_place (inr p) = subst (λ b. Each (IsWithin s.window) (if b then Adopt (id (step ∷ h) - id h) (packets h) (bytes h) ∷ [] else map Credited (credits_in (data_channels s.net u) (id h) step.choice step.taken)))
        (sym (le-ltb (id h) (id (step ∷ h)) p)) (subst (λ o. Each (IsWithin s.window) (map Credited (credits_in (data_channels s.net u) (id h) step.choice o))) (sym e) (of_message m refl))

next-calls : (s : Setup) (lost : Losses) (w : World) (u : ℕ) (i : UnitId) (step : Step) → IsWired s.net → IsFifoRun s lost w → IsInWindow s lost w → length (data_channels s.net u) ≤ 8 → actor_of s.net u ≡ OfUnit i
    → Takes s lost w u step ⊎ Acts s w u step → Each (IsWithin s.window) (step_calls (data_channels s.net u) (history w u) step)
next-calls s lost w u i step n r x few q (inl t) = taken-calls s u step (history w u) t.took.message few t.took.taken (next-is s lost w u i step n r x q t)
next-calls s lost w u i step n r x few q (inr t) = idle-calls s.window (data_channels s.net u) step (history w u) t.acted.taken

pub next-calls-within : (s : Setup) (lost : Losses) (es : List Entry) (e : Entry) (i : UnitId) (step : Step) → IsWired s.net → length (data_channels s.net e.0) ≤ 8 → actor_of s.net e.0 ≡ OfUnit i
    → next_step s lost (world s lost es) e ≡ Some step → Each (IsWithin s.window) (step_calls (data_channels s.net e.0) (history (world s lost es) e.0) step)
next-calls-within s lost es e i step n few q x = next-calls s lost (world s lost es) e.0 i step n (fifo_run s lost es) (in-window s lost es n) few q (next-view s lost (world s lost es) e step x)

-- A stamp that comes next lies within the window.

takeable : (s : Setup) (u : ℕ) (step : Step) (h : History) (m : Message) (j : ℕ) → IsNext s u step h m → stamp_of m ≡ Some j → IsTakeable s.window step.choice h j
takeable s u step h m j x e = let a = x.order j e in let b = x.stamp_near j e in let c = x.id_near j e in
    record { order = a; ahead = b; above = omega (arith, b, last-id step.choice h); below = omega (arith, a, c); behind = last-id step.choice h; lag = c }

pub next-takeable : (s : Setup) (lost : Losses) (w : World) (u : ℕ) (i : UnitId) (step : Step) (j : ℕ) → IsWired s.net → IsFifoRun s lost w → IsInWindow s lost w → actor_of s.net u ≡ OfUnit i → Takes s lost w u step ⊎ Acts s w u step → stamp_taken step ≡ Some j
    → IsTakeable s.window step.choice (history w u) j
next-takeable s lost w u i step j n r x q (inl t) e = takeable s u step (history w u) t.took.message j (next-is s lost w u i step n r x q t) (ap (option_and_then stamp_of) (sym t.took.taken) ∙ e)
next-takeable s lost w u i step j n r x q (inr t) e = absurd (let z : None ≡ Some j = ap (option_and_then stamp_of) (sym t.acted.taken) ∙ e in cc)

-- What holds of a whole history.

-- a world of a schedule, in which P holds of the unit's history
record Keeps (s : Setup) (lost : Losses) (u : ℕ) (P : History → Type 0) (w : World) : Type 0 where
  pub entries : List Entry
  pub is : world s lost entries ≡ w
  pub holds : P (history w u)

-- a step of the unit u in a world of a schedule keeps P
abbrev KeptByStep : Setup → Losses → ℕ → (History → Type 0) → Type 0
KeptByStep s lost u P = (w : World) (step : Step) → IsFifoRun s lost w → IsInWindow s lost w → Takes s lost w u step ⊎ Acts s w u step → P (history w u) → P (step ∷ history w u)

keeps-turn : (s : Setup) (lost : Losses) (u : ℕ) (P : History → Type 0) → IsWired s.net → KeptByStep s lost u P → (w : World) (e : Entry) → Keeps s lost u P w → Keeps s lost u P (turn s lost w e)
keeps-turn s lost u P n f w e k = record { entries = k.entries ++ e ∷ []; is = run-append s lost (start s.net) k.entries (e ∷ []) ∙ ap (λ v. turn s lost v e) k.is; holds = by_cases (turn-cases s lost w e) }
  where
    by_actor : (v : World) (t : Steps s lost w e v) → ((nat_eq u e.0 ≡ true) × (u ≡ e.0)) ⊎ ((nat_eq u e.0 ≡ false) × (u ≡ e.0 → ⊥)) → P (history v u)
    by_actor v t (inr x) = subst P (sym (t.grows.other u x.1)) k.holds
    by_actor v t (inl x) = subst P (sym (ap (history v) x.1 ∙ t.grows.same ∙ ap (λ a. t.step ∷ history w a) (sym x.1)))
        (f w t.step (subst (IsFifoRun s lost) k.is (fifo_run s lost k.entries)) (subst (IsInWindow s lost) k.is (in-window s lost k.entries n))
        (subst (λ a. Takes s lost w a t.step ⊎ Acts s w a t.step) (sym x.1) (next-view s lost w e t.step t.next)) k.holds)

    by_cases : (turn s lost w e ≡ w) ⊎ Steps s lost w e (turn s lost w e) → P (history (turn s lost w e) u)
    by_cases (inl x) = subst (λ v. P (history v u)) (sym x) k.holds
    by_cases (inr t) = by_actor (turn s lost w e) t (eqb_tells u e.0)

all-kept : (s : Setup) (lost : Losses) (es : List Entry) (u : ℕ) (P : History → Type 0) → IsWired s.net → KeptByStep s lost u P → P [] → P (history (world s lost es) u)
all-kept s lost es u P n f p = (kept_by_run s lost (Keeps s lost u P) (keeps-turn s lost u P n f) (start s.net) es (record { entries = []; is = refl; holds = subst P (sym (start-empty s.net u)) p })).holds

pub all-within : (s : Setup) (lost : Losses) (es : List Entry) (u : ℕ) (i : UnitId) → IsWired s.net → length (data_channels s.net u) ≤ 8 → actor_of s.net u ≡ OfUnit i
    → Each (IsWithin s.window) (calls (data_channels s.net u) (history (world s lost es) u))
all-within s lost es u i n few q = all-kept s lost es u (λ h. Each (IsWithin s.window) (calls (data_channels s.net u) h)) n
    (λ w step r x t k. each-append (IsWithin s.window) (step_calls (data_channels s.net u) (history w u) step) (calls (data_channels s.net u) (history w u)) (next-calls s lost w u i step n r x few q t) k) tt

-- With as many credits as the window has numbers none is miscredited.

nth-low : (k m a : ℕ) (js : List ℕ) → Falls js → Each (λ j. j ≤ a) js → k < slice_index_or js m 0 → slice_index_or js m 0 + m ≤ a
nth-low k m a [] f e p = absurd (omega (arith, p))
nth-low k zero a (x ∷ xs) f e p = let b = e.0 in omega (arith, b)
nth-low k (suc m) a (x ∷ xs) f e p = let b = e.0 in let l = nth-low k m (x - 1) xs f.1 (each-imp (λ y. y < x) (λ y. y ≤ x - 1) xs (λ y q. omega (arith, q)) f.0) p in omega (arith, b, l, p)

-- a step by which data comes with a stamp at most the window, and so the credits, from the id
none-next : (window n k c : ℕ) (o : Option Message) (step : Step) (h : History) → window ≤ n → step.taken ≡ o → ((j : ℕ) → stamp_taken step ≡ Some j → IsTakeable window c h j)
    → (is_old_data k o && nat_lt k (nth_adopted n (step ∷ h))) ≡ false
none-next window n k c (Some (Data t p)) step h m e f = by_order (cases_lt t k) (cases_lt k (nth_adopted n (step ∷ h)))
  where
    by_order : ((t < k) ⊎ (k ≤ t)) → ((k < nth_adopted n (step ∷ h)) ⊎ (nth_adopted n (step ∷ h) ≤ k)) → (nat_lt t k && nat_lt k (nth_adopted n (step ∷ h))) ≡ false
    by_order (inr q) o = and_left (nat_lt t k) (nat_lt k (nth_adopted n (step ∷ h))) (le-ltb t k q)
    by_order (inl q) (inr r) = and_right (nat_lt t k) (nat_lt k (nth_adopted n (step ∷ h))) (le-ltb k (nth_adopted n (step ∷ h)) r)
    by_order (inl q) (inl r) = absurd (let b = (f t (ap (option_and_then stamp_of) e)).below in
        let l = nth-low k (n - 1) (id (step ∷ h)) (adopted (step ∷ h)) (adopted-falls (step ∷ h)) (adopted-le (step ∷ h)) r in
        let z : stamp_in step.taken ≡ t = ap stamp_in e in omega (arith, m, b, l, z, q, r))
none-next window n k c _ step h m e f = refl

pub none-miscredited : (s : Setup) (lost : Losses) (es : List Entry) (u k : ℕ) (i : UnitId) → IsWired s.net → actor_of s.net u ≡ OfUnit i → s.window ≤ s.credits → miscredits s.credits k (history (world s lost es) u) ≡ []
none-miscredited s lost es u k i n q m = all-kept s lost es u (λ h. miscredits s.credits k h ≡ []) n
    (λ w step r x t e. miscredits-none s.credits k step (history w u) (none-next s.window s.credits k step.choice step.taken step (history w u) m refl
    (λ j z. next-takeable s lost w u i step j n r x q t z)) ∙ e) refl

-- What dumps bring a control plane, and Dones the observer.

-- what is collected was reached
reached-upto : (net : Net) (u k : ℕ) (h : History) → k ≤ upto_of net u h → Reached net k u h
reached-upto net u k h p = record {
  id_at = let b = least-start (map (λ c. last c h) (data_channels net u)) (id h) in omega (arith, p, b);
  lasts = each-imp (λ c. upto_of net u h ≤ last c h) (λ c. k ≤ last c h) (data_channels net u) (λ c b. omega (arith, p, b)) (least-each (λ c. last c h) (data_channels net u) (id h));
}

-- what was collected is the row of the unit's whole history
pub row-collected : (s : Setup) (lost : Losses) (w : World) (credits : ℕ) (cs : List ℕ) (u k : ℕ) (i : UnitId) → IsWired s.net → IsFifoRun s lost w → actor_of s.net u ≡ OfUnit i → k ≤ upto_of s.net u (collected s.net w u)
    → row credits cs k (collected s.net w u) ≡ row credits cs k (history w u)
row-collected s lost w credits cs u k i n r q p = let m = known (unit_place s.net u) (observer w) in let a = (knows s lost w u i n r (n.reports u i q) q).at_most in
    sym (row-later s lost w credits cs u k m (length (history w u)) n r a (lag-of s.net k u (first m (history w u)) (reached-upto s.net u k (first m (history w u)) p)))
    ∙ ap (row credits cs k) (first-all (length (history w u)) (history w u) (omega arith))

-- F is at most what the observer has collected of a unit, and so at most what is known after more steps.
floor-upto : (s : Setup) (lost : Losses) (w : World) (u m : ℕ) (i : UnitId) → IsWired s.net → IsFifoRun s lost w → actor_of s.net u ≡ OfUnit i → known (unit_place s.net u) (observer w) ≤ m → floor s.net w ≤ upto_of s.net u (first m (history w u))
floor-upto s lost w u m i n r q p = let k = known (unit_place s.net u) (observer w) in
    let a : floor s.net w ≤ unit_floor s.net w u = floor-unit s.net n.ways w u i q in
    let b : unit_floor s.net w u ≤ upto_of s.net u (first k (history w u)) = least-start (map (λ c. last c (first k (history w u))) (choices_of s.net u Init)) (upto_of s.net u (first k (history w u))) in
    let c : upto_of s.net u (first k (history w u)) ≤ upto_of s.net u (first m (history w u)) = never-falls (upto_of s.net u) k m (history w u) (upto-falls s lost w u n r) p in
    omega (arith, a, b, c)

-- a last-seen number is at most the id
-- a number that never falls, where K lies at most the window above what is known of it
raised : (f : History → ℕ) (window m k top : ℕ) (h : History) → NeverFalls f h → m ≤ k → f (first k h) ≤ top → top ≤ f (first m h) + window → IsRaised window (f (first m h)) (f (first k h))
raised f window m k top h r o a b = (never-falls f m k h r o, omega (arith, a, b))

brings : (s : Setup) (lost : Losses) (w : World) (u m k : ℕ) (i : UnitId) → IsWired s.net → IsFifoRun s lost w → IsInWindow s lost w → actor_of s.net u ≡ OfUnit i → known (unit_place s.net u) (observer w) ≤ m → m ≤ k → k ≤ length (history w u)
    → IsBrought s.net s.window u (history w u) m k
brings s lost w u m k i n r x q p o t = record {
  order = o;
  there = t;
  rises = never-falls (upto_of s.net u) m k (history w u) (upto-falls s lost w u n r) o;
  within = omega (arith, high, low);
  near = λ j l. omega (arith, l, top, low);
  stays = λ credits cs j l. row-later s lost w credits cs u j m k n r o (lag-of s.net j u (first m (history w u)) (reached-upto s.net u j (first m (history w u)) l));
  id_raised = raised id s.window m k (issued s.net (observer w)) (history w u) (id-falls (history w u)) o top
      (let a = floor-id s.net u (first m (history w u)) in omega (arith, a, base));
  lasts_raised = each-of (λ c. IsRaised s.window (last c (first m (history w u))) (last c (first k (history w u)))) (data_channels s.net u) (λ c i.
      let a = each-at (λ c. upto_of s.net u (first m (history w u)) ≤ last c (first m (history w u))) c (data_channels s.net u) (least-each (λ c. last c (first m (history w u))) (data_channels s.net u) (id (first m (history w u)))) i in
      last-raised c (each-at (λ c. NeverFalls (last c) (history w u)) c (data_channels s.net u) (channels-fall s lost w u n r) i) (omega (arith, a, low)));
  inits_raised = each-of (λ c. IsRaised s.window (last c (first m (history w u))) (last c (first k (history w u)))) (choices_of s.net u Init) (λ c i.
      let a = each-at (λ c. floor_of s.net u (first m (history w u)) ≤ last c (first m (history w u))) c (choices_of s.net u Init) (least-each (λ c. last c (first m (history w u))) (choices_of s.net u Init) (upto_of s.net u (first m (history w u)))) i in
      last-raised c (each-at (λ c. NeverFalls (last c) (history w u)) c (choices_of s.net u Init) (choice-falls s lost w u Init n r refl) i) (omega (arith, a, base)));
}
  where
    -- K is at most F + W, and F at most each number that is known
    base : issued s.net (observer w) ≤ floor_of s.net u (first m (history w u)) + s.window
    base = let a : floor s.net w ≤ unit_floor s.net w u = floor-unit s.net n.ways w u i q in
        let b : unit_floor s.net w u ≤ floor_of s.net u (first m (history w u)) = never-falls (floor_of s.net u) (known (unit_place s.net u) (observer w)) m (history w u) (floor-of-falls s lost w u n r) p in
        let c = x.within in omega (arith, a, b, c)

    -- K is at most F + W
    low : issued s.net (observer w) ≤ upto_of s.net u (first m (history w u)) + s.window
    low = let f = floor-upto s lost w u m i n r q p in let b = x.within in omega (arith, f, b)

    top : id (first k (history w u)) ≤ issued s.net (observer w)
    top = let a = falls-first id k (history w u) (id-falls (history w u)) in let b = x.ids u in omega (arith, a, b)

    last-raised : (c : ℕ) → NeverFalls (last c) (history w u) → issued s.net (observer w) ≤ last c (first m (history w u)) + s.window → IsRaised s.window (last c (first m (history w u))) (last c (first k (history w u)))
    last-raised c f b = raised (last c) s.window m k (issued s.net (observer w)) (history w u) f o (let a = last-id c (first k (history w u)) in omega (arith, a, top)) b

    high : upto_of s.net u (first k (history w u)) ≤ issued s.net (observer w)
    high = let a = least-start (map (λ c. last c (first k (history w u))) (data_channels s.net u)) (id (first k (history w u))) in omega (arith, a, top)

-- the link of a step's take
same-link : {x y : ℕ} (xs : List ℕ) (c d : ℕ) → c ≡ d → slice_get xs c ≡ Some x → slice_get xs d ≡ Some y → x ≡ y
same-link xs c d q e f = of_some (sym e ∙ ap (slice_get xs) q ∙ f)
  where
    of_some : {x y : ℕ} → Some x ≡ Some y → x ≡ y
    of_some e = cc

-- Dumps.

unit-dump : (s : Setup) (lost : Losses) (w : World) (a u n : ℕ) (i : UnitId) (step : Step) → IsWired s.net → IsFifoRun s lost w → IsInWindow s lost w → actor_of s.net u ≡ OfUnit i → (p : Reports s.net u) → a ≡ p.control
    → (t : Takes s lost w a step) → t.took.message ≡ DumpMsg n → step.choice ≡ choice_of s.net p.dump → IsBrought s.net s.window u (history w u) (dumped (choice_of s.net p.dump) (history w a)) n
unit-dump s lost w a u n i step z r x q p e t m c = of_knows (knows s lost w u i z r p q)
  where
    link : t.took.link ≡ p.dump
    link = same-link (links_into s.net a) step.choice (choice_of s.net p.dump) c t.took.into (subst (λ b. slice_get (links_into s.net b) (choice_of s.net p.dump) ≡ Some p.dump) (sym e) (dumps-into s.net u p))

    of_knows : Knows s lost w u r p → IsBrought s.net s.window u (history w u) (dumped (choice_of s.net p.dump) (history w a)) n
    of_knows k = let way = next-way s z.ways lost w a step t in
        let rest : (r.fifo p.control (choice_of s.net p.dump) p.dump (dumps-into s.net u p)).rest ≡ DumpMsg n ∷ way.0 =
        sym (on-way-is s.net lost w p.control (choice_of s.net p.dump) p.dump (dumps-into s.net u p) (r.fifo p.control (choice_of s.net p.dump) p.dump (dumps-into s.net u p))) ∙ ap (on_way s.net lost w) (sym link) ∙ way.1 ∙ ap (λ y. y ∷ way.0) m in
        let up = subst (λ ms. Rises (dumped (choice_of s.net p.dump) (history w p.control)) (numbers dump_of ms) (length (history w u))) rest k.dumps.rises in
        let here : known (unit_place s.net u) (observer w) ≤ dumped (choice_of s.net p.dump) (history w p.control) =
        subst (λ y. y ≤ dumped (choice_of s.net p.dump) (history w p.control)) (sym k.told) (rises-le _ _ _ k.dones.rises) in
        subst (λ b. IsBrought s.net s.window u (history w u) (dumped (choice_of s.net p.dump) (history w b)) n) (sym e)
        (brings s lost w u (dumped (choice_of s.net p.dump) (history w p.control)) n i z r x q here up.0 (rises-le n (numbers dump_of way.0) (length (history w u)) up.1))

-- of the unit that a poll link leads to
served-dump : (s : Setup) (lost : Losses) (w : World) (a n : ℕ) (step : Step) → IsWired s.net → IsFifoRun s lost w → IsInWindow s lost w → (t : Takes s lost w a step) → t.took.message ≡ DumpMsg n
    → Each (λ v. step.choice ≡ v.dump → IsBrought s.net s.window v.unit (history w v.unit) (dumped v.dump (history w a)) n) (served s.net a)
served-dump s lost w a n step z r x t m = each-map (λ v. step.choice ≡ v.dump → IsBrought s.net s.window v.unit (history w v.unit) (dumped v.dump (history w a)) n) (serving s.net a) (links_out s.net a Poll)
    (each-imp (IsOut s.net a Poll) (λ l. step.choice ≡ choice_from s.net a (link_of s.net l).to Dump
    → IsBrought s.net s.window (link_of s.net l).to (history w (link_of s.net l).to) (dumped (choice_from s.net a (link_of s.net l).to Dump) (history w a)) n) (links_out s.net a Poll)
    (λ l o c. of_unit l o (z.poll_to l o.is_link o.sort) c) (z.ways.outs a Poll))
  where
    of_unit : (l : ℕ) → IsOut s.net a Poll l → ((i : UnitId) × (actor_of s.net (link_of s.net l).to ≡ OfUnit i)) → step.choice ≡ choice_from s.net a (link_of s.net l).to Dump
        → IsBrought s.net s.window (link_of s.net l).to (history w (link_of s.net l).to) (dumped (choice_from s.net a (link_of s.net l).to Dump) (history w a)) n
    of_unit l o i c = of_reports (z.reports (link_of s.net l).to i.0 i.1)
      where
        of_reports : Reports s.net (link_of s.net l).to → IsBrought s.net s.window (link_of s.net l).to (history w (link_of s.net l).to) (dumped (choice_from s.net a (link_of s.net l).to Dump) (history w a)) n
        of_reports p = let u = (link_of s.net l).to in
            let e : a ≡ p.control = sym o.from ∙ ap (λ l. (link_of s.net l).from) (p.polled l refl o.sort) ∙ p.poll_from in
            let d : choice_from s.net a u Dump ≡ choice_of s.net p.dump = ap (λ b. choice_from s.net b u Dump) e ∙ p.dump_choice in
            subst (λ d. IsBrought s.net s.window u (history w u) (dumped d (history w a)) n) (sym d) (unit-dump s lost w a u n i.0 step z r x i.1 p e t m (c ∙ d))

pub next-dump : (s : Setup) (lost : Losses) (w : World) (a n : ℕ) (step : Step) → IsWired s.net → IsFifoRun s lost w → IsInWindow s lost w → Takes s lost w a step ⊎ Acts s w a step → step.taken ≡ Some (DumpMsg n)
    → Each (λ v. step.choice ≡ v.dump → IsBrought s.net s.window v.unit (history w v.unit) (dumped v.dump (history w a)) n) (served s.net a)
next-dump s lost w a n step z r x (inl t) m = served-dump s lost w a n step z r x t (let e : Some t.took.message ≡ Some (DumpMsg n) = sym t.took.taken ∙ m in cc)
next-dump s lost w a n step z r x (inr t) m = absurd (let e : None ≡ Some (DumpMsg n) = sym t.acted.taken ∙ m in cc)

-- Dones. What the observer knows after it took one is what this one says.

pub world-length : (s : Setup) (lost : Losses) (es : List Entry) → length (world s lost es) ≡ length s.net.actors
world-length s lost es = length-run s lost (start s.net) es ∙ length-map s.net.actors (λ a. [])

done-from-next : (s : Setup) (lost : Losses) (w v : World) (u n : ℕ) (i : UnitId) (step : Step) → IsWired s.net → IsFifoRun s lost w → IsFifoRun s lost v → IsInWindow s lost w → actor_of s.net u ≡ OfUnit i → GrowsAt w v 0 step
    → step.taken ≡ Some (DoneMsg (unit_place s.net u) n) → IsBrought s.net s.window u (history w u) (known (unit_place s.net u) (observer w)) n
done-from-next s lost w v u n i step z r t x q g m = brings s lost w u (known (unit_place s.net u) (observer w)) n i z r x q (omega arith)
    (let a = known-le s lost w v 0 step u i z r t g q in omega (arith, a, now)) (let a = (knows s lost v u i z t (z.reports u i q) q).at_most in let e = ap length same in omega (arith, a, now, e))
  where
    now : known (unit_place s.net u) (observer v) ≡ n
    now = ap (known (unit_place s.net u)) g.same ∙ ap (λ o. unwrap_or (option_and_then (done_of (unit_place s.net u)) o) (known (unit_place s.net u) (observer w))) m
        ∙ ap (λ b. unwrap_or (if b then Some n else None) (known (unit_place s.net u) (observer w))) (eq-eqb (unit_place s.net u) (unit_place s.net u) refl)

    same : history v u ≡ history w u
    same = g.other u (λ e. let b : Observer ≡ OfUnit i = sym z.observer ∙ ap (actor_of s.net) (sym e) ∙ q in cc)

pub unit-done : (s : Setup) (lost : Losses) (es : List Entry) (c n : ℕ) (step : Step) → IsWired s.net → next_step s lost (world s lost es) (0, c) ≡ Some step
    → (u : ℕ) (i : UnitId) → actor_of s.net u ≡ OfUnit i → step.taken ≡ Some (DoneMsg (unit_place s.net u) n) → IsBrought s.net s.window u (history (world s lost es) u) (known (unit_place s.net u) (observer (world s lost es))) n
unit-done s lost es c n step z e u i q m = let w = world s lost es in
    done-from-next s lost w (after w 0 (Some step)) u n i step z (fifo_run s lost es) (subst (λ o. IsFifoRun s lost (after w 0 o)) e (fifo_run-turn s lost w (0, c) (fifo_run s lost es))) (in-window s lost es z) q
    (grows-after w 0 step (let a = next-within s lost w (0, c) step e in let b = world-length s lost es in omega (arith, a, b))) m
