-- Worlds as the observer's machine stands for them, and what it does with a message that comes.
--     same-observer     what the observer's machine stands for depends on the observer's history and on the parts known of units
use Rattle.std.proofs.Common.{◌≡◌, ◌≢◌, ℕ, List, ◌<◌, length, refl, sym, ap, ◌∙◌, get_or, suc, ◌≤◌, [], subst, Some, None, arith, inl, inr, eq-eqb}
use Rattle.std.specs.Prelude.{true, ◌⊎◌, ◌==◌, false, Bool, nat_eq, if◌then◌else◌, map, slice_set, unwrap_or, option_and_then}
use Rattle.std.proofs.lemmas.Bool.{cases_lt}
use Rattle.std.proofs.lemmas.Bool.Decides.{eqb_tells}
use Rattle.std.proofs.lemmas.List.{get_or-map, get_or_past, set_past, length-map}
use Rattle.std.proofs.lemmas.Option.{slice_get_within}
use Rattle.sl_layout.specs.declared.actor.ActorId.{ActorId}
use Rattle.sl_layout.specs.declared.actor.ActorId.TheVariants.{Unit as OfUnit, Observer}
use Rattle.sl_layout.specs.declared.actor.UnitId.{UnitId}
use Rattle.sl_net.specs.declared.input.Snapshot.{Snapshot}
use Rattle.sl_parts.specs.Parts.{below}
use Rattle.sl_layout.specs.Net.{Net, actor_of, links_into, links_from, is_unit, units, unit_place, action_choice, choice_of, data_channels}
use Rattle.sl_net.specs.Wired.{IsWired}
use Rattle.sl_parts.proofs.Lists.{each-index, each-passes, distinct-filter, distinct-from, each-at, Distinct}
use Rattle.sl_model.specs.History.{World, Losses, history, first, done_of, heard as heard_by}
use Rattle.sl_model.specs.Setup.{Setup}
use Rattle.sl_model.specs.Knowledge.{observer, known, issued, resent, collected}
use Rattle.sl_model.specs.World.{Entry, turn, world, next_step}
use Rattle.sl_model.specs.Turns.{TakesTurns, GrowsAt, Takes, Acts}
use Rattle.sl_model.specs.Reported.{AreReported}
use Rattle.sl_simulation.specs.ObserverImage.{unit_of, observer_of, IsObserverOf, IsTableOf, IsNextReport, known_at}
use Rattle.sl_machine.specs.Machine.{After}
use Rattle.sl_parts.specs.Lists.{Member}
use Rattle.sl_wire.specs.declared.message.Done.{Done}
use Rattle.sl_wire.specs.declared.message.Msg.{Msg}
use Rattle.sl_wire.specs.declared.message.Msg.TheVariants.{Frame, Wire}
use Rattle.sl_wire.specs.Sizes.{Sizes}
use Rattle.sl_layout.specs.Devices.{device_of}
use Rattle.sl_observe.specs.Observer.{UnitState, ObserverState, new_unit, unit_at, after_done, units_after, observer_take}
use Rattle.sl_model.specs.declared.message.Message.{Message}
use Rattle.sl_model.specs.declared.message.Message.TheVariants.{Host, Data, Probe, Init, Poll, Notice, Dump as DumpMsg, Begin, Done as DoneMsg}
use Rattle.sl_model.specs.declared.message.Step.{Step}
use Rattle.sl_model.specs.Puts.{puts_of}
use Rattle.sl_model.specs.Made.{IsFifoRun}
use Rattle.sl_model.specs.Brought.{IsBrought}
use Rattle.sl_simulation.specs.Simulates.{Simulates}
use Rattle.sl_simulation.specs.Messages.{IsDoneOf, IsMessage, AreSent}
use Rattle.sl_simulation.proofs.ObserverUnits.{map-same, place-at, place-past, map-set, Brings, next-report, hears}

-- the unit at a place
pub unit-at : (net : Net) (j : ℕ) → j < length (units net) → (i : UnitId) × (actor_of net (get_or (units net) j 0) ≡ OfUnit i)
unit-at net j p = of_actor (actor_of net (get_or (units net) j 0))
    (each-index (λ u. is_unit (actor_of net u) ≡ true) (units net) j 0 (each-passes (λ u. is_unit (actor_of net u)) (below (length net.actors))) p)
  where
    of_actor : (x : ActorId) → is_unit x ≡ true → (i : UnitId) × (x ≡ OfUnit i)
    of_actor (OfUnit i) q = (i, refl)
    of_actor _ q = absurd cc

pub same-observer : (net : Net) (table : Snapshot) (w v : World) → observer v ≡ observer w → ((u : ℕ) (i : UnitId) → actor_of net u ≡ OfUnit i → collected net v u ≡ collected net w u) → observer_of net table v ≡ observer_of net table w
same-observer net table w v e h = let k = ap (issued net) e in let r = ap (resent net) e in
    let us = map-same (λ u. unit_of table.credits net u (collected net v u)) (λ u. unit_of table.credits net u (collected net w u)) (units net) (λ j p. let t = unit-at net j p in ap (unit_of table.credits net (get_or (units net) j 0)) (h (get_or (units net) j 0) t.0 t.1)) in
    λ i. record { ins = length (links_into net 0); outs = length (links_from net 0); snapshot = table; issued = k i; resent = r i; units = us i }

-- Another actor's turn changes nothing of it.
pub other-turn : TakesTurns → (s : Setup) (lost : Losses) (table : Snapshot) (es : List Entry) (e : Entry) → AreReported s → IsWired s.net → e.0 ≢ 0
    → observer_of s.net table (turn s lost (world s lost es) e) ≡ observer_of s.net table (world s lost es)
other-turn turns s lost table es e reported n ne = let w = world s lost es in let v = turn s lost w e in let o = turns.others s lost w e 0 (λ q. ne (sym q)) in
    same-observer s.net table w v o (λ u i q. ap (λ h. first (known (unit_place s.net u) h) (history v u)) o
    ∙ (turns.extends s lost w e u).steps (known (unit_place s.net u) (observer w)) (reported lost w u i (n.reports u i q) (turns.fifo_run s lost es) q).at_most)

-- Places of units.

units-distinct : (net : Net) → Distinct (units net)
units-distinct net = distinct-filter (λ a. is_unit (actor_of net a)) (below (length net.actors)) (distinct-from 0 (length net.actors))

pub place-of-unit : (net : Net) (j : ℕ) → j < length (units net) → unit_place net (get_or (units net) j 0) ≡ j
place-of-unit net j p = place-at (units net) 0 j (units-distinct net) p ∙ (omega arith)

-- the observer has none
place-of-none : (net : Net) → IsWired net → length (units net) ≤ unit_place net 0
place-of-none net z = let e = place-past (units net) 0 0 no in omega (arith, e)
  where
    no : Member 0 (units net) → ⊥
    no m = let e : is_unit (actor_of net 0) ≡ true = each-at (λ a. is_unit (actor_of net a) ≡ true) 0 (units net) (each-passes (λ a. is_unit (actor_of net a)) (below (length net.actors))) m in
        let f : is_unit (actor_of net 0) ≡ false = ap is_unit z.observer in cc

-- What a step of the observer changes. It leads from the world w to v.

module _ (turns : TakesTurns) (s : Setup) (table : Snapshot) (w v : World) (step : Step) (z : IsWired s.net) (g : GrowsAt w v 0 step) where
  pub same-unit : (u : ℕ) (i : UnitId) → actor_of s.net u ≡ OfUnit i → history v u ≡ history w u
  same-unit u i q = g.other u (λ e. let b : Observer ≡ OfUnit i = sym z.observer ∙ ap (actor_of s.net) (sym e) ∙ q in cc)

  pub same-known : (place : ℕ) → option_and_then (done_of place) step.taken ≡ None → known place (observer v) ≡ known place (observer w)
  same-known place e = ap (known place) g.same ∙ ap (λ o. unwrap_or o (known place (observer w))) e

  pub same-collected : (u : ℕ) (i : UnitId) → actor_of s.net u ≡ OfUnit i → option_and_then (done_of (unit_place s.net u)) step.taken ≡ None → collected s.net v u ≡ collected s.net w u
  same-collected u i q e = let k = same-known (unit_place s.net u) e in let h = same-unit u i q in λ j. first (k j) (h j)

  pub state-after : step.choice < action_choice s.net 0 → (us : List UnitState) → us ≡ map (λ u. unit_of table.credits s.net u (collected s.net v u)) (units s.net)
      → record { ins = length (links_into s.net 0); outs = length (links_from s.net 0); snapshot = table; issued = issued s.net (observer w); resent = resent s.net (observer w); units = us } ≡ observer_of s.net table v
  state-after l us e =
      let k : issued s.net (observer v) ≡ issued s.net (observer w) = ap (issued s.net) g.same ∙ turns.uncounted (action_choice s.net 0) step (observer w) (λ q. absurd (omega (arith, q, l))) in
      let r : resent s.net (observer v) ≡ resent s.net (observer w) = ap (resent s.net) g.same ∙ turns.uncounted (suc (action_choice s.net 0)) step (observer w) (λ q. absurd (omega (arith, q, l))) in
      let a = sym k in let b = sym r in
      λ i. record { ins = length (links_into s.net 0); outs = length (links_from s.net 0); snapshot = table; issued = a i; resent = b i; units = e i }

  pub same-units : ((u : ℕ) (i : UnitId) → actor_of s.net u ≡ OfUnit i → option_and_then (done_of (unit_place s.net u)) step.taken ≡ None)
      → map (λ u. unit_of table.credits s.net u (collected s.net w u)) (units s.net) ≡ map (λ u. unit_of table.credits s.net u (collected s.net v u)) (units s.net)
  same-units h = map-same (λ u. unit_of table.credits s.net u (collected s.net w u)) (λ u. unit_of table.credits s.net u (collected s.net v u)) (units s.net)
      (λ j p. let t = unit-at s.net j p in ap (unit_of table.credits s.net (get_or (units s.net) j 0)) (sym (same-collected (get_or (units s.net) j 0) t.0 t.1 (h (get_or (units s.net) j 0) t.0 t.1))))

-- A Done.

done-elsewhere : (place unit n : ℕ) → (place ≡ unit → ⊥) → done_of place (DoneMsg unit n) ≡ None
done-elsewhere place unit n ne = by_tells (eqb_tells place unit)
  where
    by_tells : ((nat_eq place unit ≡ true) × (place ≡ unit)) ⊎ ((nat_eq place unit ≡ false) × (place ≡ unit → ⊥)) → (if place == unit then Some n else None) ≡ None
    by_tells (inl q) = absurd (ne q.1)
    by_tells (inr q) = ap (λ b. if b then Some n else None) q.0

-- a Done of a unit comes by the choice of its device, or tells what is known already
by-device : (s : Setup) (lost : Losses) (w v : World) (step : Step) (u n : ℕ) (i : UnitId) → AreReported s → (z : IsWired s.net) → IsFifoRun s lost w → IsFifoRun s lost v → GrowsAt w v 0 step → actor_of s.net u ≡ OfUnit i
    → step.taken ≡ Some (DoneMsg (unit_place s.net u) n) → (known (unit_place s.net u) (observer v) ≡ n) × ((device_of (actor_of s.net u) ≡ step.choice) ⊎ (known (unit_place s.net u) (observer w) ≡ n))
by-device s lost w v step u n i reported z r k g q e = (now, by_tells (eqb_tells step.choice (choice_of s.net (z.reports u i q).done)))
  where
    told : option_and_then (done_of (unit_place s.net u)) step.taken ≡ Some n
    told = ap (option_and_then (done_of (unit_place s.net u))) e ∙ ap (λ b. if b then Some n else None) (eq-eqb (unit_place s.net u) (unit_place s.net u) refl)

    now : known (unit_place s.net u) (observer v) ≡ n
    now = ap (known (unit_place s.net u)) g.same ∙ ap (λ o. unwrap_or o (known (unit_place s.net u) (observer w))) told

    by_tells : ((nat_eq step.choice (choice_of s.net (z.reports u i q).done) ≡ true) × (step.choice ≡ choice_of s.net (z.reports u i q).done)) ⊎ ((nat_eq step.choice (choice_of s.net (z.reports u i q).done) ≡ false) × (step.choice ≡ choice_of s.net (z.reports u i q).done → ⊥))
        → (device_of (actor_of s.net u) ≡ step.choice) ⊎ (known (unit_place s.net u) (observer w) ≡ n)
    by_tells (inl y) = inl (ap device_of q ∙ sym (z.done_choice u i q (z.reports u i q)) ∙ sym y.1)
    by_tells (inr y) = let d = (z.reports u i q).done in inr ((reported lost w u i (z.reports u i q) r q).told
        ∙ sym (ap (λ b. if b then unwrap_or (option_and_then (done_of (unit_place s.net u)) step.taken) (heard_by (done_of (unit_place s.net u)) (choice_of s.net d) (observer w)) else heard_by (done_of (unit_place s.net u)) (choice_of s.net d) (observer w)) y.0)
        ∙ sym (ap (heard_by (done_of (unit_place s.net u)) (choice_of s.net d)) g.same)
        ∙ sym (reported lost v u i (z.reports u i q) k q).told ∙ now)

-- what a step brings of each unit
abbrev pub BringsRows : Setup → Losses → List Entry → Step → Type 0
BringsRows s lost es step = (u n : ℕ) (i : UnitId) → actor_of s.net u ≡ OfUnit i → step.taken ≡ Some (DoneMsg (unit_place s.net u) n)
    → IsBrought s.net s.window u (history (world s lost es) u) (known (unit_place s.net u) (observer (world s lost es))) n

module _ (turns : TakesTurns) (s : Setup) (lost : Losses) (table : Snapshot) (es : List Entry) (c n : ℕ) (step : Step) (y : Done) (reported : AreReported s) (rows : BringsRows s lost es step) (z : IsWired s.net) (f : IsTableOf s table) (x : next_step s lost (world s lost es) (0, c) ≡ Some step) where
  abbrev w : World
  w = world s lost es

  abbrev v : World
  v = turn s lost (world s lost es) (0, c)

  abbrev old : ℕ → UnitState
  old u = unit_of table.credits s.net u (collected s.net w u)

  abbrev new : ℕ → UnitState
  new u = unit_of table.credits s.net u (collected s.net v u)

  grows : GrowsAt w v 0 step
  grows = turns.grows s lost es (0, c) step x

  -- what it brings of its unit
  brings : (u : ℕ) (i : UnitId) → actor_of s.net u ≡ OfUnit i → step.taken ≡ Some (DoneMsg (unit_place s.net u) n) → IsDoneOf table.credits s.net u (collected s.net w u) (first n (history w u)) y
      → Brings table.credits s.net u table.ring (collected s.net w u) (first n (history w u)) y
  brings u i q e d = record {
    few = z.few_channels u i q;
    of = d;
    rises = brought.rises;
    within = let a = brought.within in let b = f.window in let g = f.room in omega (arith, a, b, g);
    stays = λ k l. brought.stays table.credits (data_channels s.net u) k l;
  }
    where
      brought : IsBrought s.net s.window u (history w u) (known (unit_place s.net u) (observer w)) n
      brought = rows u n i q e

  -- its rows are the next ones of the unit, as the machine has it
  pub unit-next-is : (u : ℕ) (i : UnitId) → actor_of s.net u ≡ OfUnit i → step.taken ≡ Some (DoneMsg (unit_place s.net u) n) → IsDoneOf table.credits s.net u (collected s.net w u) (first n (history w u)) y
      → IsNextReport table.ring (old u) y
  unit-next-is u i q e d = next-report table.credits s.net u table.ring (collected s.net w u) (first n (history w u)) y (brings u i q e d)

  -- its unit
  unit-done-is : (u : ℕ) (i : UnitId) → actor_of s.net u ≡ OfUnit i → step.taken ≡ Some (DoneMsg (unit_place s.net u) n) → IsDoneOf table.credits s.net u (collected s.net w u) (first n (history w u)) y
      → after_done table.ring c y (old u) ≡ new u
  unit-done-is u i q e d = let k = sym known_by.0 in let h = sym (same-unit turns s table w v step z grows u i q) in
      hears table.credits s.net u table.ring c (collected s.net w u) (first n (history w u)) y (brings u i q e d) (by_choice known_by.1) ∙ ap (unit_of table.credits s.net u) (λ j. first (k j) (h j))
    where
      known_by : (known (unit_place s.net u) (observer v) ≡ n) × ((device_of (actor_of s.net u) ≡ step.choice) ⊎ (known (unit_place s.net u) (observer w) ≡ n))
      known_by = by-device s lost w v step u n i reported z (turns.fifo_run s lost es) (turns.goes_on s lost w (0, c) (turns.fifo_run s lost es)) grows q e

      by_choice : (device_of (actor_of s.net u) ≡ step.choice) ⊎ (known (unit_place s.net u) (observer w) ≡ n) → (device_of (actor_of s.net u) ≡ c) ⊎ (collected s.net w u ≡ first n (history w u))
      by_choice (inl q) = inl (q ∙ turns.choice s lost w (0, c) step x)
      by_choice (inr q) = inr (ap (λ k. first k (history w u)) q)

  -- any other unit
  other-unit : (place j : ℕ) → j < length (units s.net) → (j ≡ place → ⊥) → step.taken ≡ Some (DoneMsg place n) → old (get_or (units s.net) j 0) ≡ new (get_or (units s.net) j 0)
  other-unit place j l ne e = let a = unit-at s.net j l in let u = get_or (units s.net) j 0 in
      ap (unit_of table.credits s.net u) (sym (same-collected turns s table w v step z grows u a.0 a.1
      (ap (option_and_then (done_of (unit_place s.net u))) e ∙ done-elsewhere (unit_place s.net u) place n (λ q. let b = place-of-unit s.net j l in ne (omega (arith, q, b))))))

  -- all units, after a Done of the one at a place
  units-done : (place : ℕ) → step.taken ≡ Some (DoneMsg place n)
      → IsDoneOf table.credits s.net (get_or (units s.net) place 0) (first (known place (observer w)) (history w (get_or (units s.net) place 0))) (first n (history w (get_or (units s.net) place 0))) y
      → units_after table.ring c y (map old (units s.net)) ≡ map new (units s.net)
  units-done place e d = by_place (cases_lt place (length (units s.net)))
    where
      u : ℕ
      u = get_or (units s.net) place 0

      by_place : (place < length (units s.net)) ⊎ (length (units s.net) ≤ place) → units_after table.ring c y (map old (units s.net)) ≡ map new (units s.net)
      by_place (inl p) = let here = place-of-unit s.net place p in let is = unit-at s.net place p in
          let same : IsDoneOf table.credits s.net (get_or (units s.net) place 0) (collected s.net w (get_or (units s.net) place 0)) (first n (history w (get_or (units s.net) place 0))) y =
          subst (λ k. IsDoneOf table.credits s.net (get_or (units s.net) place 0) (first (known k (observer w)) (history w (get_or (units s.net) place 0))) (first n (history w (get_or (units s.net) place 0))) y) (sym here) d in
          ap (λ k. slice_set (map old (units s.net)) k (after_done table.ring c y (unit_at (map old (units s.net)) k))) (d.unit ∙ here)
          ∙ ap (λ r. slice_set (map old (units s.net)) place (after_done table.ring c y r)) (get_or-map old (units s.net) place 0 (new_unit 0 0) p)
          ∙ map-set old new (units s.net) place (after_done table.ring c y (old u)) p (λ j l ne. other-unit place j l ne e)
          (unit-done-is (get_or (units s.net) place 0) is.0 is.1 (e ∙ ap (λ k. Some (DoneMsg k n)) (sym here)) same)
      by_place (inr p) = let k : y.unit ≡ unit_place s.net 0 = d.unit ∙ ap (unit_place s.net) (get_or_past (units s.net) place 0 p) in
          let o = place-of-none s.net z in let m = length-map (units s.net) old in
          set_past (map old (units s.net)) y.unit (after_done table.ring c y (unit_at (map old (units s.net)) y.unit)) (omega (arith, k, o, m))
          ∙ map-same old new (units s.net) (λ j l. other-unit place j l (λ q. omega (arith, q, l, p)) e)

-- Any message.

-- a step that takes a message takes it from a link, and the observer puts nothing
record IsTake (s : Setup) (step : Step) : Type 0 where
  pub low : step.choice < action_choice s.net 0
  pub puts : step.puts ≡ []

is-take : TakesTurns → (s : Setup) (lost : Losses) (w : World) (c : ℕ) (step : Step) (m : Message) → IsWired s.net → next_step s lost w (0, c) ≡ Some step → step.taken ≡ Some m → IsTake s step
is-take turns s lost w c step m z x e = by_view (turns.view s lost w (0, c) step x)
  where
    by_view : Takes s lost w 0 step ⊎ Acts s w 0 step → IsTake s step
    by_view (inl t) = record { low = slice_get_within (links_into s.net 0) step.choice t.took.link t.took.into; puts = t.took.puts ∙ ap (λ y. puts_of s 0 y (history w 0) step.choice t.took.link t.took.message) z.observer }
    by_view (inr t) = absurd (let q : None ≡ Some m = sym t.acted.taken ∙ e in cc)

module _ (turns : TakesTurns) (s : Setup) (lost : Losses) (table : Snapshot) (es : List Entry) (c : ℕ) (sizes : Sizes) (a : ℕ) (told : ℕ → ℕ) (step : Step) (reported : AreReported s) (rows : BringsRows s lost es step) (z : IsWired s.net) (f : IsTableOf s table) (same : sizes.credits ≡ table.credits) (x : next_step s lost (world s lost es) (0, c) ≡ Some step) where
  abbrev SimulatesIt : After ObserverState Msg → Type 0
  SimulatesIt y = Simulates (IsObserverOf s.net table (turn s lost (world s lost es) (0, c))) s.net sizes (λ u. history (turn s lost (world s lost es) (0, c)) u) 0 told step.puts y

  leaves : (m : Message) → step.taken ≡ Some m → (us : List UnitState) → us ≡ map (λ u. unit_of table.credits s.net u (collected s.net (turn s lost (world s lost es) (0, c)) u)) (units s.net)
      → SimulatesIt (record { state = record (observer_of s.net table (world s lost es)) { units = us }; puts = [] })
  leaves m e us q = let k = is-take turns s lost (world s lost es) c step m z x e in record {
    stands = state-after turns s table (world s lost es) (turn s lost (world s lost es) (0, c)) step z (turns.grows s lost es (0, c) step x) k.low us q;
    sent = subst (λ ps. AreSent s.net sizes (λ u. history (turn s lost (world s lost es) (0, c)) u) 0 told ps []) (sym k.puts) tt;
  }

  -- a message that is no Done
  quiet : (m : Message) → step.taken ≡ Some m → ((place : ℕ) → done_of place m ≡ None) → SimulatesIt (record { state = observer_of s.net table (world s lost es); puts = [] })
  quiet m e h = leaves m e (map (λ u. unit_of table.credits s.net u (collected s.net (world s lost es) u)) (units s.net))
      (same-units turns s table (world s lost es) (turn s lost (world s lost es) (0, c)) step z (turns.grows s lost es (0, c) step x) (λ u i q. ap (option_and_then (done_of (unit_place s.net u))) e ∙ h (unit_place s.net u)))

  -- bytes of a host, in place or not
  unheard : (b : List ℕ) (in_place : Bool) → SimulatesIt (record { state = observer_of s.net table (world s lost es); puts = [] })
      → SimulatesIt (observer_take (observer_of s.net table (world s lost es)) c (if in_place then Frame (record { bytes = b }) else Wire b))
  unheard b true h = h
  unheard b false h = h

  pub takes : (m : Message) (y : Msg) → step.taken ≡ Some m → IsMessage s.net sizes (λ u. history (world s lost es) u) a (known_at (world s lost es)) m y → SimulatesIt (observer_take (observer_of s.net table (world s lost es)) c y)
  takes (Host b) y e k = subst (λ y. SimulatesIt (observer_take (observer_of s.net table (world s lost es)) c y)) (sym k) (unheard b (length b == 24) (quiet (Host b) e (λ p. refl)))
  takes (Data j p) y e k = subst (λ y. SimulatesIt (observer_take (observer_of s.net table (world s lost es)) c y)) (sym k) (quiet (Data j p) e (λ p. refl))
  takes (Probe j) y e k = subst (λ y. SimulatesIt (observer_take (observer_of s.net table (world s lost es)) c y)) (sym k) (quiet (Probe j) e (λ p. refl))
  takes (Init j) y e k = subst (λ y. SimulatesIt (observer_take (observer_of s.net table (world s lost es)) c y)) (sym k) (quiet (Init j) e (λ p. refl))
  takes Poll y e k = subst (λ y. SimulatesIt (observer_take (observer_of s.net table (world s lost es)) c y)) (sym k) (quiet Poll e (λ p. refl))
  takes Notice y e k = subst (λ y. SimulatesIt (observer_take (observer_of s.net table (world s lost es)) c y)) (sym k) (quiet Notice e (λ p. refl))
  takes (DumpMsg n) y e k = subst (λ y. SimulatesIt (observer_take (observer_of s.net table (world s lost es)) c y)) (sym k.is) (quiet (DumpMsg n) e (λ p. refl))
  takes (Begin n) y e k = subst (λ y. SimulatesIt (observer_take (observer_of s.net table (world s lost es)) c y)) (sym k) (quiet (Begin n) e (λ p. refl))
  takes (DoneMsg place n) y e k = subst (λ y. SimulatesIt (observer_take (observer_of s.net table (world s lost es)) c y)) (sym k.is)
      (leaves (DoneMsg place n) e (units_after table.ring c k.done (map (λ u. unit_of table.credits s.net u (collected s.net (world s lost es) u)) (units s.net))) (units-done turns s lost table es c n step k.done reported rows z f x place e
      (subst (λ credits. IsDoneOf credits s.net (get_or (units s.net) place 0) (first (known place (observer (world s lost es))) (history (world s lost es) (get_or (units s.net) place 0))) (first n (history (world s lost es) (get_or (units s.net) place 0))) k.done) same k.of)))
