-- The observer's own actions, by its machine, and what the machine tells: it is what the world says.
use Rattle.std.proofs.Common.{◌≡◌, ℕ, zero, suc, ◌+◌, ◌-◌, ◌<◌, ◌≤◌, List, [], ◌∷◌, length, refl, sym, ap, subst, ◌∙◌, Option, Some, None, arith, inl, inr, eq-eqb, get_or}
use Rattle.std.specs.Prelude.{◌⊎◌, ◌==◌, ◌&&◌, true, false, Bool, nat_lt, nat_le, nat_eq, if◌then◌else◌, map, slice_get, unwrap_or, option_map, option_and_then}
use Rattle.std.proofs.lemmas.Bool.{eqb-true}
use Rattle.std.proofs.lemmas.Bool.Decides.{eqb_tells}
use Rattle.std.proofs.lemmas.Simd.{map-map}
use Rattle.std.specs.List.{range_with_len}
use Rattle.std.proofs.lemmas.List.{get_or-map, length-map}
use Rattle.std.proofs.lemmas.Option.{slice_get-map, slice_get_read, slice_get_past}
use Rattle.std.proofs.lemmas.List.FromFn.{get_or-range_with_len, length-range_with_len}
use Rattle.sl_route.specs.Least.{least}
use Rattle.sl_machine.specs.Machine.{After}
use Rattle.sl_layout.specs.declared.actor.ActorId.TheVariants.{Observer, Unit as OfUnit}
use Rattle.sl_layout.specs.declared.actor.Sort.TheVariants.{Begin as BeginSort}
use Rattle.sl_net.specs.declared.input.Snapshot.{Snapshot}
use Rattle.sl_layout.specs.Net.{Net, link_of, link_numbers, links_into, links_from, links_out, action_choice, units, unit_place, place_in, actor_of, data_channels}
use Rattle.sl_layout.specs.Wires.{out_of}
use Rattle.sl_net.specs.Wired.{IsNet, IsWired}
use Rattle.sl_parts.proofs.Lists.{distinct-filter, distinct-from, each-index, each-passes, place-of-member}
use Rattle.sl_wire.specs.declared.message.Msg.{Msg}
use Rattle.sl_wire.specs.declared.message.Msg.TheVariants as wire
use Rattle.sl_wire.specs.Sizes.{Sizes}
use Rattle.sl_observe.specs.Observer.{ObserverState, observer_act, issue, resend, register_floor, registers_can_issue, registers_can_resend, begins_out, new_unit, unit_at, saved_of}
use Rattle.sl_model.specs.declared.message.Message.TheVariants.{Begin as BeginMsg}
use Rattle.sl_model.specs.declared.message.Put.{Put}
use Rattle.sl_model.specs.declared.message.Step.{Step}
use Rattle.sl_model.specs.History.{History, World, Losses, history, done_of, id}
use Rattle.sl_model.specs.Setup.{Setup}
use Rattle.sl_model.specs.Knowledge.{observer, issued, resent, collected, floor, can_issue, can_resend, upto_of, floor_of}
use Rattle.sl_model.specs.Puts.{send_all, begin_all, guarded, action}
use Rattle.sl_model.specs.World.{Entry, next_step, step_by, acting, floor_for, turn, world}
use Rattle.sl_model.specs.Turns.{Takes, Acts, Begins, TakesTurns}
use Rattle.sl_simulation.specs.Simulates.{ActSimulates}
use Rattle.sl_simulation.specs.Messages.{AreSent}
use Rattle.sl_simulation.specs.ObserverImage.{unit_of, observer_of, IsObserverOf, IsTableOf, account_of}
use Rattle.sl_layout.specs.declared.actor.UnitId.{UnitId}
use Rattle.sl_net.specs.Ways.{HasWays}
use Rattle.sl_saves.specs.Views.{held_saved}
use Rattle.sl_model.specs.Accounts.{account, accounts}
use Rattle.sl_model.specs.Rows.{row}
use Rattle.sl_simulation.proofs.ObserverUnits.{past-end, place-at, map-same, map-numbers, channels-are}
use Rattle.sl_simulation.proofs.ObserverWorlds.{same-units, place-of-unit, unit-at}

-- The floor and the guards.

pub floor-same : (net : Net) (table : Snapshot) (w : World) → register_floor (observer_of net table w) ≡ floor net w
floor-same net table w = ap (λ xs. unwrap_or (least xs) (issued net (observer w))) (map-map (λ x. x.floor) (λ u. unit_of table.credits net u (collected net w u)) (units net))

issue-same : (s : Setup) (table : Snapshot) (w : World) → IsTableOf s table → registers_can_issue (observer_of s.net table w) ≡ can_issue s (floor s.net w) (observer w)
issue-same s table w f = let e = floor-same s.net table w in let c = f.count in let d = f.window in
    λ i. nat_lt (issued s.net (observer w)) (c i) && nat_le (suc (issued s.net (observer w))) (e i + d i)

resend-same : (s : Setup) (table : Snapshot) (w : World) → IsTableOf s table → registers_can_resend (observer_of s.net table w) ≡ can_resend s (floor s.net w) (observer w)
resend-same s table w f = let e = floor-same s.net table w in let r = f.retries in
    λ i. nat_lt (resent s.net (observer w)) (r i) && nat_lt (e i) (issued s.net (observer w))

-- The Begins.

out-at : (net : Net) (i : ℕ) → i < length (links_from net 0) → out_of net (get_or (links_from net 0) i 0) ≡ i
out-at net i p =
    let from : (link_of net (get_or (links_from net 0) i 0)).from ≡ 0 = eqb-true (link_of net (get_or (links_from net 0) i 0)).from 0
    (each-index (λ l. ((link_of net l).from == 0) ≡ true) (links_from net 0) i 0 (each-passes (λ l. (link_of net l).from == 0) (link_numbers net)) p) in
    ap (λ a. place_in 0 (get_or (links_from net 0) i 0) (links_from net a)) from
    ∙ place-at (links_from net 0) 0 i (distinct-filter (λ l. (link_of net l).from == 0) (link_numbers net) (distinct-from 0 (length net.links))) p ∙ (omega arith)

each-sent : (net : Net) (sizes : Sizes) (us : ℕ → History) (told : ℕ → ℕ) (k : ℕ) (ls : List ℕ) (j : ℕ) → ((i : ℕ) → i < length ls → out_of net (get_or ls i 0) ≡ j + i)
    → AreSent net sizes us 0 told (send_all (BeginMsg k) ls) (map (λ out. (out, wire.Begin k)) (range_with_len j (length ls)))
each-sent net sizes us told k [] j h = tt
each-sent net sizes us told k (l ∷ ls) j h = (
  ((let e = h 0 (omega arith) in omega (arith, e)), refl),
  each-sent net sizes us told k ls (j + 1) (λ i p. let e = h (suc i) (omega (arith, p)) in omega (arith, e)),
)

begins-sent : (net : Net) (sizes : Sizes) (us : ℕ → History) (told : ℕ → ℕ) (k : ℕ) → links_out net 0 BeginSort ≡ links_from net 0
    → AreSent net sizes us 0 told (begin_all net k) (begins_out (length (links_from net 0)) k)
begins-sent net sizes us told k q = subst (λ ls. AreSent net sizes us 0 told (send_all (BeginMsg k) ls) (begins_out (length (links_from net 0)) k)) (sym q)
    (each-sent net sizes us told k (links_from net 0) 0 (λ i p. out-at net i p ∙ (omega arith)))

-- Actions that are done.

module _ (turns : TakesTurns) (s : Setup) (lost : Losses) (table : Snapshot) (es : List Entry) (c : ℕ) (sizes : Sizes) (told : ℕ → ℕ) (step : Step) (z : IsWired s.net) (f : IsTableOf s table) (all : links_out s.net 0 BeginSort ≡ links_from s.net 0)
    (x : next_step s lost (world s lost es) (0, c) ≡ Some step) (e : step.taken ≡ None) where
  abbrev ActSimulatesIt : Option (After ObserverState Msg) → Type 0
  ActSimulatesIt o = ActSimulates (IsObserverOf s.net table (turn s lost (world s lost es) (0, c))) s.net sizes (λ u. history (turn s lost (world s lost es) (0, c)) u) 0 told step.puts o

  units-stay : map (λ u. unit_of table.credits s.net u (collected s.net (world s lost es) u)) (units s.net) ≡ map (λ u. unit_of table.credits s.net u (collected s.net (turn s lost (world s lost es) (0, c)) u)) (units s.net)
  units-stay = same-units turns s table (world s lost es) (turn s lost (world s lost es) (0, c)) step z (turns.grows s lost es (0, c) step x) (λ u i q. ap (option_and_then (done_of (unit_place s.net u))) e)

  sends : (k : ℕ) → step.puts ≡ begin_all s.net k → AreSent s.net sizes (λ u. history (turn s lost (world s lost es) (0, c)) u) 0 told step.puts (begins_out (length (links_from s.net 0)) k)
  sends k q = subst (λ ps. AreSent s.net sizes (λ u. history (turn s lost (world s lost es) (0, c)) u) 0 told ps (begins_out (length (links_from s.net 0)) k)) (sym q)
      (begins-sent s.net sizes (λ u. history (turn s lost (world s lost es) (0, c)) u) told k all)

  issues : step.choice ≡ action_choice s.net 0 → can_issue s (floor s.net (world s lost es)) (observer (world s lost es)) ≡ true → step.puts ≡ begin_all s.net (suc (issued s.net (observer (world s lost es))))
      → ActSimulatesIt (observer_act (observer_of s.net table (world s lost es)) c)
  issues q can ps =
      let w = world s lost es in let g = turns.grows s lost es (0, c) step x in let S = observer_of s.net table w in
      let k : suc (issued s.net (observer w)) ≡ issued s.net (observer (turn s lost w (0, c))) = sym (ap (issued s.net) g.same ∙ turns.counted (action_choice s.net 0) step (observer w) q) in
      let r : resent s.net (observer w) ≡ resent s.net (observer (turn s lost w (0, c))) = sym (ap (resent s.net) g.same ∙ turns.uncounted (suc (action_choice s.net 0)) step (observer w) (λ p. absurd (omega (arith, p, q)))) in
      let u = units-stay in
      record {
        after = record { state = record S { issued = suc (issued s.net (observer w)) }; puts = begins_out (length (links_from s.net 0)) (suc (issued s.net (observer w))) };
        is = ap (λ b. if b then issue S else resend S) (eq-eqb c (action_choice s.net 0) (sym (turns.choice s lost w (0, c) step x) ∙ q))
            ∙ ap (λ b. if b then Some (record { state = record S { issued = suc (issued s.net (observer w)) }; puts = begins_out (length (links_from s.net 0)) (suc (issued s.net (observer w))) }) else None)
            (issue-same s table w f ∙ can);
        simulates = record {
          stands = λ i. record { ins = length (links_into s.net 0); outs = length (links_from s.net 0); snapshot = table; issued = k i; resent = r i; units = u i };
          sent = sends (suc (issued s.net (observer w))) ps;
        };
      }

  not-first : step.choice ≡ suc (action_choice s.net 0) → (c == action_choice s.net 0) ≡ false
  not-first q = by_tells (eqb_tells c (action_choice s.net 0))
    where
      by_tells : ((nat_eq c (action_choice s.net 0) ≡ true) × (c ≡ action_choice s.net 0)) ⊎ ((nat_eq c (action_choice s.net 0) ≡ false) × (c ≡ action_choice s.net 0 → ⊥)) → (c == action_choice s.net 0) ≡ false
      by_tells (inl p) = absurd (let d = turns.choice s lost (world s lost es) (0, c) step x in let y : c ≡ action_choice s.net 0 = p.1 in omega (arith, d, q, y))
      by_tells (inr p) = p.0

  resends : step.choice ≡ suc (action_choice s.net 0) → can_resend s (floor s.net (world s lost es)) (observer (world s lost es)) ≡ true → step.puts ≡ begin_all s.net (issued s.net (observer (world s lost es)))
      → ActSimulatesIt (observer_act (observer_of s.net table (world s lost es)) c)
  resends q can ps =
      let w = world s lost es in let g = turns.grows s lost es (0, c) step x in let S = observer_of s.net table w in
      let k : issued s.net (observer w) ≡ issued s.net (observer (turn s lost w (0, c))) = sym (ap (issued s.net) g.same ∙ turns.uncounted (action_choice s.net 0) step (observer w) (λ p. absurd (omega (arith, p, q)))) in
      let r : suc (resent s.net (observer w)) ≡ resent s.net (observer (turn s lost w (0, c))) = sym (ap (resent s.net) g.same ∙ turns.counted (suc (action_choice s.net 0)) step (observer w) q) in
      let u = units-stay in
      record {
        after = record { state = record S { resent = suc (resent s.net (observer w)) }; puts = begins_out (length (links_from s.net 0)) (issued s.net (observer w)) };
        is = ap (λ b. if b then issue S else resend S) (not-first q)
            ∙ ap (λ b. if b then Some (record { state = record S { resent = suc (resent s.net (observer w)) }; puts = begins_out (length (links_from s.net 0)) (issued s.net (observer w)) }) else None)
            (resend-same s table w f ∙ can);
        simulates = record {
          stands = λ i. record { ins = length (links_into s.net 0); outs = length (links_from s.net 0); snapshot = table; issued = k i; resent = r i; units = u i };
          sent = sends (issued s.net (observer w)) ps;
        };
      }

  pub acts : ActSimulatesIt (observer_act (observer_of s.net table (world s lost es)) c)
  acts = by_view (turns.view s lost (world s lost es) (0, c) step x)
    where
      of_begins : (fl : ℕ) → fl ≡ floor s.net (world s lost es) → length (links_into s.net 0) ≤ step.choice → Begins s fl (observer (world s lost es)) (step.choice - action_choice s.net 0) step.puts → ActSimulatesIt (observer_act (observer_of s.net table (world s lost es)) c)
      of_begins fl y p b = by_kind b.kind
        where
          by_kind : ((step.choice - action_choice s.net 0 ≡ 0) × (b.number ≡ suc (issued s.net (observer (world s lost es)))) × (can_issue s fl (observer (world s lost es)) ≡ true)) ⊎ ((step.choice - action_choice s.net 0 ≡ 1) × (b.number ≡ issued s.net (observer (world s lost es))) × (can_resend s fl (observer (world s lost es)) ≡ true))
              → ActSimulatesIt (observer_act (observer_of s.net table (world s lost es)) c)
          by_kind (inl k) = let d = k.0 in issues (omega (arith, p, d)) (ap (λ n. can_issue s n (observer (world s lost es))) (sym y) ∙ k.2) (b.puts ∙ ap (begin_all s.net) k.1)
          by_kind (inr k) = let d = k.0 in resends (omega (arith, p, d)) (ap (λ n. can_resend s n (observer (world s lost es))) (sym y) ∙ k.2) (b.puts ∙ ap (begin_all s.net) k.1)

      by_view : Takes s lost (world s lost es) 0 step ⊎ Acts s (world s lost es) 0 step → ActSimulatesIt (observer_act (observer_of s.net table (world s lost es)) c)
      by_view (inl t) = absurd (let q : None ≡ Some t.took.message = sym e ∙ t.took.taken in cc)
      by_view (inr t) = of_begins t.acted.floor (t.now ∙ ap (floor_for s.net (world s lost es)) z.observer) (past-end (links_into s.net 0) step.choice t.acted.past)
          (turns.begins s t.acted.floor (step.choice - action_choice s.net 0) (observer (world s lost es)) step.puts
          (subst (λ y. action s t.acted.floor 0 y (observer (world s lost es)) (step.choice - action_choice s.net 0) ≡ Some step.puts) z.observer t.acted.puts))

-- Actions that are not done.

first-actor : (net : Net) → IsNet net → slice_get net.actors 0 ≡ Some Observer
first-actor net n = subst (λ m. slice_get m.actors 0 ≡ Some Observer) (sym n.made) refl

not-guarded : (c : ℕ) (b : Bool) (ps : List Put) → option_map (acting c) (guarded b ps) ≡ None → b ≡ false
not-guarded c true ps e = absurd cc
not-guarded c false ps e = refl

module _ (s : Setup) (lost : Losses) (table : Snapshot) (w : World) (c : ℕ) (n : IsNet s.net) (f : IsTableOf s table) (x : next_step s lost w (0, c) ≡ None) (low : action_choice s.net 0 ≤ c) (high : c < action_choice s.net 0 + 2) where
  no-action : option_map (acting c) (action s (floor s.net w) 0 Observer (observer w) (c - action_choice s.net 0)) ≡ None
  no-action = sym (ap (option_and_then (step_by s lost w 0 c (slice_get (links_into s.net 0) c))) (first-actor s.net n) ∙ ap (λ o. step_by s lost w 0 c o Observer) (slice_get_past (links_into s.net 0) c low)) ∙ x

  pub idle : observer_act (observer_of s.net table w) c ≡ None
  idle = by_tells (eqb_tells c (action_choice s.net 0))
    where
      S : ObserverState
      S = observer_of s.net table w

      by_tells : ((nat_eq c (action_choice s.net 0) ≡ true) × (c ≡ action_choice s.net 0)) ⊎ ((nat_eq c (action_choice s.net 0) ≡ false) × (c ≡ action_choice s.net 0 → ⊥)) → observer_act (observer_of s.net table w) c ≡ None
      by_tells (inl q) = let d : c - action_choice s.net 0 ≡ 0 = (let y : c ≡ action_choice s.net 0 = q.1 in omega (arith, y)) in
          let g : can_issue s (floor s.net w) (observer w) ≡ false = not-guarded c (can_issue s (floor s.net w) (observer w)) (begin_all s.net (suc (issued s.net (observer w))))
          (ap (λ k. option_map (acting c) (action s (floor s.net w) 0 Observer (observer w) k)) (sym d) ∙ no-action) in
          ap (λ b. if b then issue (observer_of s.net table w) else resend (observer_of s.net table w)) q.0
          ∙ ap (λ b. if b then Some (record { state = record (observer_of s.net table w) { issued = suc (issued s.net (observer w)) }; puts = begins_out (length (links_from s.net 0)) (suc (issued s.net (observer w))) }) else None) (issue-same s table w f ∙ g)
      by_tells (inr q) = let ne : (c ≡ action_choice s.net 0 → ⊥) = q.1 in let d : c - action_choice s.net 0 ≡ 1 = omega (arith, low, high) in
          let g : can_resend s (floor s.net w) (observer w) ≡ false = not-guarded c (can_resend s (floor s.net w) (observer w)) (begin_all s.net (issued s.net (observer w)))
          (ap (λ k. option_map (acting c) (action s (floor s.net w) 0 Observer (observer w) k)) (sym d) ∙ no-action) in
          ap (λ b. if b then issue (observer_of s.net table w) else resend (observer_of s.net table w)) q.0
          ∙ ap (λ b. if b then Some (record { state = record (observer_of s.net table w) { resent = suc (resent s.net (observer w)) }; puts = begins_out (length (links_from s.net 0)) (issued s.net (observer w)) }) else None) (resend-same s table w f ∙ g)

-- The unit at its place.

pub unit-there : (net : Net) → HasWays net → (table : Snapshot) (w : World) (u : ℕ) (i : UnitId) → actor_of net u ≡ OfUnit i → unit_at (observer_of net table w).units (unit_place net u) ≡ unit_of table.credits net u (collected net w u)
unit-there net ways table w u i q = let m = place-of-member u (units net) (ways.unit u i q) in let f = λ (u : ℕ). unit_of table.credits net u (collected net w u) in
    let p : unit_place net u ≡ m.0 = ap (unit_place net) (sym (m.2 0)) ∙ place-of-unit net m.0 m.1 in
    ap (unit_at (map f (units net))) p ∙ get_or-map f (units net) m.0 0 (new_unit 0 0) m.1 ∙ ap f (m.2 0)

-- Its rows.

pub not-zero : (k : ℕ) → 1 ≤ k → (k == 0) ≡ false
not-zero k p = by_tells (eqb_tells k 0)
  where
    by_tells : ((nat_eq k 0 ≡ true) × (k ≡ 0)) ⊎ ((nat_eq k 0 ≡ false) × (k ≡ 0 → ⊥)) → (k == 0) ≡ false
    by_tells (inl q) = absurd (let e : k ≡ 0 = q.1 in omega (arith, p, e))
    by_tells (inr q) = q.0

held-at : (credits : ℕ) (net : Net) (u : ℕ) (g : History) (k : ℕ) → 1 ≤ k → k ≤ upto_of net u g → saved_of (unit_of credits net u g) k ≡ Some (held_saved (row credits (data_channels net u) k g))
held-at credits net u g k one p = ap (λ b. if b then None else slice_get (unit_of credits net u g).rows (k - 1)) (not-zero k one)
    ∙ slice_get-map (λ k. held_saved (row credits (data_channels net u) k g)) (range_with_len 1 (upto_of net u g)) (k - 1)
    ∙ ap (option_map (λ k. held_saved (row credits (data_channels net u) k g))) (slice_get_read (range_with_len 1 (upto_of net u g)) (upto_of net u g) (k - 1) (1 + (k - 1)) (sym (length-range_with_len 1 (upto_of net u g))) (omega (arith, one, p)) (sym (get_or-range_with_len 1 (upto_of net u g) (k - 1) (1 + (k - 1)) (omega (arith, one, p)))))
    ∙ ap (λ j. Some (held_saved (row credits (data_channels net u) j g))) (let e : 1 + (k - 1) ≡ k = omega (arith, one) in e)

pub none-past : (net : Net) → HasWays net → (table : Snapshot) (w : World) (u k : ℕ) (i : UnitId) → actor_of net u ≡ OfUnit i → upto_of net u (collected net w u) < k → saved_of (unit_at (observer_of net table w).units (unit_place net u)) k ≡ None
none-past net ways table w u k i q p = let g = collected net w u in ap (λ x. saved_of x k) (unit-there net ways table w u i q) ∙ ap (λ b. if b then None else slice_get (unit_of table.credits net u g).rows (k - 1)) (not-zero k (omega (arith, p)))
    ∙ slice_get_past (unit_of table.credits net u g).rows (k - 1) (let n = length-map (range_with_len 1 (upto_of net u g)) (λ k. held_saved (row table.credits (data_channels net u) k g)) in let m = length-range_with_len 1 (upto_of net u g) in omega (arith, n, m, p))

-- what was collected is the row of the unit's whole history
pub saved-there : (net : Net) → HasWays net → (credits : ℕ) (table : Snapshot) (w : World) (u k : ℕ) (i : UnitId) → table.credits ≡ credits → actor_of net u ≡ OfUnit i
    → row credits (data_channels net u) k (collected net w u) ≡ row credits (data_channels net u) k (history w u)
    → held_saved (row credits (data_channels net u) k (collected net w u)) ≡ row credits (data_channels net u) k (collected net w u) → 1 ≤ k → k ≤ upto_of net u (collected net w u)
    → saved_of (unit_at (observer_of net table w).units (unit_place net u)) k ≡ Some (row credits (data_channels net u) k (history w u))
saved-there net ways credits table w u k i same q whole h one p = ap (λ x. saved_of x k) (unit-there net ways table w u i q ∙ ap (λ n. unit_of n net u (collected net w u)) same)
    ∙ held-at credits net u (collected net w u) k one p ∙ ap Some (h ∙ whole)

-- Accounts.

pub accounts-are : (net : Net) (credits : ℕ) (table : Snapshot) (w : World) → table.credits ≡ credits → IsWired net
    → ((u k : ℕ) → held_saved (row credits (data_channels net u) k (collected net w u)) ≡ row credits (data_channels net u) k (collected net w u)) → map account_of (observer_of net table w).units ≡ accounts credits net w
accounts-are net credits table w same n h = map-map account_of (λ u. unit_of table.credits net u (collected net w u)) (units net)
    ∙ ap (λ n. map (λ u. account_of (unit_of n net u (collected net w u))) (units net)) same
    ∙ map-same (λ u. account_of (unit_of credits net u (collected net w u))) (λ u. account credits net u (collected net w u)) (units net) (λ j p. let t = unit-at net j p in one (get_or (units net) j 0) t.0 t.1)
  where
    one : (u : ℕ) (i : UnitId) → actor_of net u ≡ OfUnit i → account_of (unit_of credits net u (collected net w u)) ≡ account credits net u (collected net w u)
    one u i q = let g = collected net w u in let l = channels-are net u g (n.few_channels u i q) in
        let r = map-numbers (λ k. held_saved (row credits (data_channels net u) k g)) (λ k. row credits (data_channels net u) k g) 1 (upto_of net u g) (λ k a b. h u k) in
        λ j. record { id = id g; last = l j; floor = floor_of net u g; rows = r j }
