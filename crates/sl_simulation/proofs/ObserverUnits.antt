-- Places and numbers in lists; a unit as the observer has it, and what a report changes; the observer's first state.
use Rattle.std.proofs.Common.{◌≡◌, ℕ, zero, suc, ◌+◌, ◌<◌, ◌≤◌, List, [], ◌∷◌, ◌++◌, length, refl, sym, ap, subst, ◌∙◌, arith, inl, inr, eq-eqb, get_or, add-one, ◌-◌}
use Rattle.std.specs.Prelude.{◌⊎◌, ◌&&◌, true, false, nat_eq, map, take, replicate, if◌then◌else◌, slice_set, slice_get, None, ◌==◌, Bool, min}
use Rattle.std.proofs.lemmas.Bool.Decides.{eqb_tells}
use Rattle.std.specs.List.{range_with_len, fold}
use Rattle.std.proofs.lemmas.Bool.{le-leb, and_from}
use Rattle.std.proofs.lemmas.List.{map-append, length-map}
use Rattle.std.proofs.lemmas.Simd.{map-map}
use Rattle.std.proofs.lemmas.List.FromFn.{length-range_with_len}
use Rattle.sl_layout.specs.Net.{place_in, Net, actor_of, choices_of, data_channels, links_into, links_from, units, unit_place}
use Rattle.sl_saves.specs.declared.entry.Saved.{Saved}
use Rattle.sl_parts.specs.Lists.{Member}
use Rattle.sl_parts.proofs.Lists.{inside, Distinct}
use Rattle.sl_observe.specs.Observer.{is_after, is_next, told, after_done, first_unit, first_state}
use Rattle.sl_layout.specs.declared.actor.Sort.TheVariants.{Init}
use Rattle.sl_saves.specs.Views.{held_saved}
use Rattle.sl_wire.specs.declared.message.Done.{Done}
use Rattle.sl_layout.specs.Devices.{device_of}
use Rattle.sl_wire.specs.Reach.{reached}
use Rattle.sl_control.specs.Rows.{span}
use Rattle.sl_model.specs.History.{History, id, last, first}
use Rattle.sl_model.specs.Knowledge.{upto_of, floor_of, observer, known, issued, resent, collected}
use Rattle.sl_model.specs.Rows.{row}
use Rattle.sl_model.specs.LastSeen.{lasts}
use Rattle.sl_simulation.specs.Messages.{eight, held_row, IsDoneOf}
use Rattle.sl_simulation.specs.ObserverImage.{unit_of, IsNextReport, observer_of}
use Rattle.sl_net.specs.declared.input.Snapshot.{Snapshot}
use Rattle.sl_model.specs.World.{start}
use Rattle.sl_model.specs.Turns.{TakesTurns}
use Rattle.sl_simulation.proofs.ControlUnits.{least-zero}

-- Places.

place-first : (n x : ℕ) (xs : List ℕ) → place_in n x (x ∷ xs) ≡ n
place-first n x xs = ap (λ b. if b then n else place_in (suc n) x xs) (eq-eqb x x refl)

place-later : (n x y : ℕ) (xs : List ℕ) → (y ≡ x → ⊥) → place_in n x (y ∷ xs) ≡ place_in (suc n) x xs
place-later n x y xs ne = by_tells (eqb_tells y x)
  where
    by_tells : ((nat_eq y x ≡ true) × (y ≡ x)) ⊎ ((nat_eq y x ≡ false) × (y ≡ x → ⊥)) → place_in n x (y ∷ xs) ≡ place_in (suc n) x xs
    by_tells (inl q) = absurd (ne q.1)
    by_tells (inr q) = ap (λ b. if b then n else place_in (suc n) x xs) q.0

pub place-at : (xs : List ℕ) (n k : ℕ) → Distinct xs → k < length xs → place_in n (get_or xs k 0) xs ≡ n + k
place-at [] n k d l = absurd (omega (arith, l))
place-at (x ∷ xs) n zero d l = place-first n x xs ∙ (omega arith)
place-at (x ∷ xs) n (suc k) d l = let p : k < length xs = omega (arith, l) in
    place-later n (get_or xs k 0) x xs (λ q. d.0 (subst (λ y. Member y xs) (sym q) (inside xs k 0 p))) ∙ place-at xs (suc n) k d.1 p ∙ (omega arith)

pub place-past : (xs : List ℕ) (n x : ℕ) → (Member x xs → ⊥) → place_in n x xs ≡ n + length xs
place-past [] n x ne = omega arith
place-past (y ∷ xs) n x ne = place-later n x y xs (λ q. ne (inl (sym q))) ∙ place-past xs (suc n) x (λ m. ne (inr m)) ∙ (omega arith)

-- past the end there is no element
pub past-end : (xs : List ℕ) (k : ℕ) → slice_get xs k ≡ None → length xs ≤ k
past-end [] k e = omega arith
past-end (x ∷ xs) zero e = absurd cc
past-end (x ∷ xs) (suc k) e = let p = past-end xs k e in omega (arith, p)

-- One element of a mapped list is set.

pub map-same : {B : Type 0} (f g : ℕ → B) (xs : List ℕ) → ((j : ℕ) → j < length xs → f (get_or xs j 0) ≡ g (get_or xs j 0)) → map f xs ≡ map g xs
map-same f g [] h = refl
map-same f g (x ∷ xs) h = let a = h 0 (omega arith) in let b = map-same f g xs (λ j p. h (suc j) (omega (arith, p))) in λ i. a i ∷ b i

pub map-set : {B : Type 0} (f g : ℕ → B) (xs : List ℕ) (k : ℕ) (y : B) → k < length xs → ((j : ℕ) → j < length xs → (j ≡ k → ⊥) → f (get_or xs j 0) ≡ g (get_or xs j 0)) → y ≡ g (get_or xs k 0)
    → slice_set (map f xs) k y ≡ map g xs
map-set f g [] k y l h e = absurd (omega (arith, l))
map-set f g (x ∷ xs) zero y l h e = let b = map-same f g xs (λ j p. h (suc j) (omega (arith, p)) (λ q. absurd (omega (arith, q)))) in λ i. e i ∷ b i
map-set f g (x ∷ xs) (suc k) y l h e = let a = h 0 (omega arith) (λ q. absurd (omega (arith, q))) in
    let b = map-set f g xs k y (omega (arith, l)) (λ j p ne. h (suc j) (omega (arith, p)) (λ q. ne (omega (arith, q)))) e in λ i. a i ∷ b i

-- Numbers.

pub numbers-more : (s d e : ℕ) → range_with_len s (d + e) ≡ range_with_len s d ++ range_with_len (s + d) e
numbers-more s zero e = let y : 0 + e ≡ e = omega arith in let z : s ≡ s + 0 = omega arith in ap (range_with_len s) y ∙ ap (λ n. range_with_len n e) z
numbers-more s (suc d) e = let y : suc d + e ≡ suc (d + e) = omega arith in let z : s + 1 + d ≡ s + suc d = omega arith in
    ap (range_with_len s) y ∙ ap (λ ns. s ∷ ns) (numbers-more (s + 1) d e ∙ ap (λ n. range_with_len (s + 1) d ++ range_with_len n e) z)

pub map-numbers : {A : Type 0} (f g : ℕ → A) (s n : ℕ) → ((k : ℕ) → s ≤ k → k < s + n → f k ≡ g k) → map f (range_with_len s n) ≡ map g (range_with_len s n)
map-numbers f g s zero h = refl
map-numbers f g s (suc n) h = let a = h s (omega arith) (omega arith) in let b = map-numbers f g (s + 1) n (λ k p q. h k (omega (arith, p)) (omega (arith, q))) in λ i. a i ∷ b i

pub rows-follow : (f : ℕ → Saved) (a d : ℕ) → is_after a (map (λ k. (k, f k)) (range_with_len (suc a) d)) ≡ true
rows-follow f a zero = refl
rows-follow f a (suc d) = ap (λ b. b && is_after (suc a) (map (λ k. (k, f k)) (range_with_len (suc a + 1) d))) (eq-eqb (suc a) (suc a) refl)
    ∙ ap (λ s. is_after (suc a) (map (λ k. (k, f k)) (range_with_len s d))) (add-one (suc a)) ∙ rows-follow f (suc a) d

-- Eight numbers.

pub take-front : (xs ys : List ℕ) (n : ℕ) → length xs ≤ n → take (length xs) (take n (xs ++ ys)) ≡ xs
take-front [] ys n l = refl
take-front (x ∷ xs) ys zero l = absurd (omega (arith, l))
take-front (x ∷ xs) ys (suc n) l = ap (λ r. x ∷ r) (take-front xs ys n (omega (arith, l)))

take-replicate : (n m : ℕ) → n ≤ m → take {A = ℕ} n (replicate m 0) ≡ replicate n 0
take-replicate zero m l = refl
take-replicate (suc n) zero l = absurd (omega (arith, l))
take-replicate (suc n) (suc m) l = ap (λ r. 0 ∷ r) (take-replicate n m (omega (arith, l)))

pub take-zeros : (cs : List ℕ) (n m : ℕ) → n ≤ m → take {A = ℕ} n (map (λ c. 0) cs ++ replicate m 0) ≡ replicate n 0
take-zeros [] n m l = take-replicate n m l
take-zeros (c ∷ cs) zero m l = refl
take-zeros (c ∷ cs) (suc n) m l = ap (λ r. 0 ∷ r) (take-zeros cs n m (omega (arith, l)))

abbrev held : ℕ → Net → ℕ → History → ℕ → Saved
held credits net u g k = held_saved (row credits (data_channels net u) k g)

-- what the Done d of the unit u brings, over the history that was known before
pub record Brings (credits : ℕ) (net : Net) (u ring : ℕ) (before now : History) (d : Done) : Type 0 where
  pub few : length (data_channels net u) ≤ 8
  pub of : IsDoneOf credits net u before now d
  pub rises : upto_of net u before ≤ upto_of net u now
  pub within : upto_of net u now ≤ upto_of net u before + ring
  pub stays : (k : ℕ) → k ≤ upto_of net u before → row credits (data_channels net u) k now ≡ row credits (data_channels net u) k before

-- The rows come next.

row-count : (credits : ℕ) (net : Net) (u : ℕ) (g : History) (s n : ℕ) → length (map (held_row credits net u g) (range_with_len s n)) ≡ n
row-count credits net u g s n = length-map (range_with_len s n) (held_row credits net u g) ∙ length-range_with_len s n

count-before : (credits : ℕ) (net : Net) (u : ℕ) (g : History) → length (unit_of credits net u g).rows ≡ upto_of net u g
count-before credits net u g = length-map (range_with_len 1 (upto_of net u g)) (held credits net u g) ∙ length-range_with_len 1 (upto_of net u g)

pub channels-are : (net : Net) (u : ℕ) (g : History) → length (data_channels net u) ≤ 8 → take (length (data_channels net u)) (eight (lasts net u g)) ≡ lasts net u g
channels-are net u g l = let n : length (lasts net u g) ≡ length (data_channels net u) = length-map (data_channels net u) (λ c. last c g) in
    ap (λ k. take k (eight (lasts net u g))) (sym n) ∙ take-front (lasts net u g) (replicate 8 0) 8 (omega (arith, n, l))

reached-is : (credits : ℕ) (net : Net) (u ring : ℕ) (before now : History) (d : Done) → Brings credits net u ring before now d → reached (length (data_channels net u)) d.id d.last ≡ upto_of net u now
reached-is credits net u ring before now d b = ap (λ n. fold min n (take (length (data_channels net u)) d.last)) b.of.id ∙ ap (λ xs. fold min (id now) (take (length (data_channels net u)) xs)) b.of.last
    ∙ ap (fold min (id now)) (channels-are net u now b.few)

-- Its rows are the next ones, and reach the number that it tells.
pub next-report : (credits : ℕ) (net : Net) (u ring : ℕ) (before now : History) (d : Done) → Brings credits net u ring before now d → IsNextReport ring (unit_of credits net u before) d
next-report credits net u ring before now d b = record {
  next = and_from _ _ (le-leb (length d.rows) ring (omega (arith, n, w)))
      (ap (λ a. is_after a d.rows) m ∙ ap (is_after (upto_of net u before)) b.of.rows ∙ rows-follow (held credits net u now) (upto_of net u before) (upto_of net u now - upto_of net u before));
  reaches = omega (arith, n, m, r, i);
}
  where
    n : length d.rows ≡ upto_of net u now - upto_of net u before
    n = ap length b.of.rows ∙ row-count credits net u now _ _

    m : length (unit_of credits net u before).rows ≡ upto_of net u before
    m = count-before credits net u before

    r : reached (length (data_channels net u)) d.id d.last ≡ upto_of net u now
    r = reached-is credits net u ring before now d b

    i : upto_of net u before ≤ upto_of net u now
    i = b.rises

    w : upto_of net u now ≤ upto_of net u before + ring
    w = b.within

-- The rows that were there, and then those of the Done, are those of the history that is known now.

rows-are : (credits : ℕ) (net : Net) (u ring : ℕ) (before now : History) (d : Done) → Brings credits net u ring before now d → (unit_of credits net u before).rows ++ map (λ r. r.1) d.rows ≡ (unit_of credits net u now).rows
rows-are credits net u ring before now d b = let a = upto_of net u before in let c = upto_of net u now in let i = b.rises in
    ap (λ rs. rs ++ map (λ r. r.1) d.rows) (map-numbers (held credits net u before) (held credits net u now) 1 a (λ k p q. ap held_saved (sym (b.stays k (omega (arith, q))))))
    ∙ ap (λ rs. map (held credits net u now) (range_with_len 1 a) ++ map (λ r. r.1) rs) b.of.rows
    ∙ ap (λ rs. map (held credits net u now) (range_with_len 1 a) ++ rs) (map-map (λ r. r.1) (held_row credits net u now) (span a c))
    ∙ sym (map-append (held credits net u now) (range_with_len 1 a) (span a c))
    ∙ ap (map (held credits net u now)) (let e : a + (c - a) ≡ c = omega (arith, i) in let z : suc a ≡ 1 + a = omega arith in
    ap (λ n. range_with_len 1 a ++ range_with_len n (c - a)) z ∙ sym (numbers-more 1 a (c - a)) ∙ ap (range_with_len 1) e)

told-is : (credits : ℕ) (net : Net) (u ring : ℕ) (before now : History) (d : Done) → Brings credits net u ring before now d → told d (unit_of credits net u before) ≡ unit_of credits net u now
told-is credits net u ring before now d b = let e = b.of.id in let l = b.of.last in let f = b.of.floor in let r = rows-are credits net u ring before now d b in
    λ i. record { device = device_of (actor_of net u); channels = length (data_channels net u); id = e i; last = l i; floor = f i; rows = r i }

-- A Done that comes by the choice of the unit's device tells it; any other that tells no more changes nothing.
pub hears : (credits : ℕ) (net : Net) (u ring c : ℕ) (before now : History) (d : Done) → Brings credits net u ring before now d → (device_of (actor_of net u) ≡ c) ⊎ (before ≡ now)
    → after_done ring c d (unit_of credits net u before) ≡ unit_of credits net u now
hears credits net u ring c before now d b (inl q) = ap (λ x. if x && is_next ring (unit_of credits net u before) d then told d (unit_of credits net u before) else unit_of credits net u before) (eq-eqb (device_of (actor_of net u)) c q)
    ∙ ap (λ x. if x then told d (unit_of credits net u before) else unit_of credits net u before) (next-report credits net u ring before now d b).next ∙ told-is credits net u ring before now d b
hears credits net u ring c before now d b (inr q) = by_bool ((device_of (actor_of net u) == c) && is_next ring (unit_of credits net u before) d)
  where
    by_bool : (x : Bool) → (if x then told d (unit_of credits net u before) else unit_of credits net u before) ≡ unit_of credits net u now
    by_bool true = told-is credits net u ring before now d b
    by_bool false = ap (unit_of credits net u) q

-- Before the first report.

upto-zero : (net : Net) (u : ℕ) → upto_of net u [] ≡ 0
upto-zero net u = least-zero (data_channels net u)

floor-zero : (net : Net) (u : ℕ) → floor_of net u [] ≡ 0
floor-zero net u = ap (λ n. fold min n (map (λ c. last c []) (choices_of net u Init))) (upto-zero net u) ∙ least-zero (choices_of net u Init)

pub unit-start : (credits : ℕ) (net : Net) (u : ℕ) → first_unit net u ≡ unit_of credits net u []
unit-start credits net u = let l = sym (take-zeros (data_channels net u) 8 8 (omega arith)) in let f = sym (floor-zero net u) in let r = ap (λ n. map (held credits net u []) (range_with_len 1 n)) (sym (upto-zero net u)) in
    λ i. record { device = device_of (actor_of net u); channels = length (data_channels net u); id = 0; last = l i; floor = f i; rows = r i }

collected-start : TakesTurns → (net : Net) (u : ℕ) → collected net (start net) u ≡ []
collected-start turns net u = ap (first (known (unit_place net u) (observer (start net)))) (turns.starts net u)

pub observer-start : TakesTurns → (net : Net) (table : Snapshot) → first_state net table ≡ observer_of net table (start net)
observer-start turns net table = let e = turns.starts net 0 in let k = sym (ap (issued net) e) in let r = sym (ap (resent net) e) in
    let us = map-same (first_unit net) (λ u. unit_of table.credits net u (collected net (start net) u)) (units net) (λ j p. unit-start table.credits net (get_or (units net) j 0) ∙ ap (unit_of table.credits net (get_or (units net) j 0)) (sym (collected-start turns net (get_or (units net) j 0)))) in
    λ i. record { ins = length (links_into net 0); outs = length (links_from net 0); snapshot = table; issued = k i; resent = r i; units = us i }
