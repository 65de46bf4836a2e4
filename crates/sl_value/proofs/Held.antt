-- A control plane keeps as many values of a unit as it collected rows of it, whatever turns it takes.
use Rattle.std.proofs.Common.{◌≡◌, ℕ, zero, suc, ◌+◌, ◌-◌, ◌<◌, ◌≤◌, List, [], ◌∷◌, ◌++◌, length, map, refl, sym, ap, subst, ◌∙◌, Option, Some, None, arith, inl, inr, length-append}
use Rattle.std.specs.Prelude.{Bool, true, false, ◌&&◌, not, ◌==◌, nat_eq, ◌⊎◌, cond, max, flat_map, slice_get, option_map}
use Rattle.std.specs.List.{AllByRecursion}
use Rattle.std.proofs.lemmas.Bool.{eq-eqb, ne_eqb, eqb-true}
use Rattle.std.proofs.lemmas.Bool.Decides.{eqb_tells}
use Rattle.std.proofs.lemmas.List.{length-map}
use Rattle.std.proofs.lemmas.List.FromFn.{length-range_with_len}
use Rattle.std.proofs.lemmas.Option.{slice_get_past}
use Rattle.std.proofs.lemmas.Simd.{map-map}
use Rattle.sl_machine.specs.Turns.{Turn, Took, Acted, acted, after_turn, after}
use Rattle.sl_parts.specs.Lists.{Each, Member}
use Rattle.sl_parts.proofs.Lists.{distinct-filter, distinct-from, distinct-map, Distinct, each-map}
use Rattle.sl_layout.specs.declared.actor.Sort.TheVariants.{Poll as PollSort}
use Rattle.sl_layout.specs.Net.{Net, link_of, link_numbers, links_from, links_out, same_sort, unit_place}
use Rattle.sl_layout.specs.Serving.{ServedUnit, serving, served}
use Rattle.sl_net.specs.Wired.{IsWired}
use Rattle.sl_wire.specs.declared.message.Dump.{Dump as UnitDump}
use Rattle.sl_wire.specs.declared.message.Done.{Done as Report}
use Rattle.sl_wire.specs.declared.message.Msg.{Msg}
use Rattle.sl_wire.specs.declared.message.Msg.TheVariants.{Frame, Wire, Poll, Notice, Dump, Begin, Done}
use Rattle.sl_wire.specs.Sizes.{Sizes, Lengths}
use Rattle.sl_control.specs.declared.known.Known.{Known}
use Rattle.sl_control.specs.declared.known.UnitWires.{UnitWires}
use Rattle.sl_control.specs.Control.{is_asked, asked, asked_all, ask_by, is_taken, takes_dump, dump_by, dump_puts, numbers_told, new_numbers, reached_by, done_of, answered, answer_by, is_swept}
use Rattle.sl_control.specs.Joined.{AreApart}
use Rattle.sl_control.specs.Rows.{row}
use Rattle.sl_control.specs.Wires.{unit_wires, unheard}
use Rattle.sl_control.proofs.Joining.{joined as joined_at}
use Rattle.sl_value.specs.declared.whole.Whole.{Whole}
use Rattle.sl_value.specs.Counted.{value_read}
use Rattle.sl_value.specs.Valued.{UnitValues, ValueState, or_done, first_done, values_by, kept_of, kept_by, with_kept, value_rules, no_values, first_value, value_of, value_in}
use Rattle.sl_value.specs.Held.{collected_in, IsUncollected, turned}
use Rattle.sl_value.proofs.Reports.{first-append, both}
use Rattle.sl_value.proofs.Takes.{joined, one-link}

abbrev places : List Known → List ℕ
places rs = map (λ r. r.wires.place) rs

abbrev dumps : List Known → List ℕ
dumps rs = map (λ r. r.wires.dump) rs

-- of each unit in order as many values as rows
abbrev AreAligned : List UnitValues → List Known → Type 0
AreAligned [] [] = Unit {0}
AreAligned (u ∷ us) (r ∷ rs) = (u.unit ≡ r.wires.place) × (length u.values ≡ r.upto) × AreAligned us rs
AreAligned _ _ = ⊥

-- A dump.

module _ (sizes : Lengths) (out c : ℕ) (d : UnitDump) where
  abbrev told : Known → List (ℕ × Msg)
  told r = dump_puts sizes out c d r

  abbrev report : Known → Report
  report r = done_of (numbers_told sizes.bits d r) d.view r

  -- what is put on it before what the other units put
  taken-first : (r : Known) (rest : List (ℕ × Msg)) → takes_dump sizes c d r ≡ true → first_done (told r ++ rest) ≡ Some (report r)
  taken-first r rest e = first-append (told r) rest ∙ ap (λ b. or_done (first_done (cond b (answer_by out (numbers_told sizes.bits d r) d.view r) [])) (first_done rest)) e

  left-first : (r : Known) (rest : List (ℕ × Msg)) → takes_dump sizes c d r ≡ false → first_done (told r ++ rest) ≡ first_done rest
  left-first r rest e = first-append (told r) rest ∙ ap (λ b. or_done (first_done (cond b (answer_by out (numbers_told sizes.bits d r) d.view r) [])) (first_done rest)) e

  left-is : (r : Known) → takes_dump sizes c d r ≡ false → dump_by sizes c d r ≡ r
  left-is r e = ap (λ b. cond b (answered (numbers_told sizes.bits d r) r) r) e

  taken-is : (r : Known) → takes_dump sizes c d r ≡ true → dump_by sizes c d r ≡ answered (numbers_told sizes.bits d r) r
  taken-is r e = ap (λ b. cond b (answered (numbers_told sizes.bits d r) r) r) e

  -- units whose dumps come by other choices take none
  none-take : (x : ℕ) (rs : List Known) → AllByRecursion (λ y. y ≡ x → ⊥) (dumps rs) → c ≡ x → AllByRecursion (λ r. takes_dump sizes c d r ≡ false) rs
  none-take x [] h e = tt
  none-take x (r ∷ rs) h e = (ap (λ b. b && is_taken sizes d r) (ne_eqb c r.wires.dump (λ q. h.0 (sym q ∙ e))), none-take x rs h.1 e)

  one-report : (x y : Report) → Some x ≡ Some y → x ≡ y
  one-report x y q = cc

  -- the report is on one of the units
  reported : (rs : List Known) (x : Report) → first_done (flat_map told rs) ≡ Some x → Member x.unit (places rs)
  reported [] x e = absurd cc
  reported (r ∷ rs) x e = by_taken (takes_dump sizes c d r) refl (reported rs x)
    where
      by_taken : (b : Bool) → takes_dump sizes c d r ≡ b → (first_done (flat_map told rs) ≡ Some x → Member x.unit (places rs)) → Member x.unit (places (r ∷ rs))
      by_taken true t ih = inl (sym (ap (λ (y : Report). y.unit) (one-report (report r) x (sym (taken-first r (flat_map told rs) t) ∙ e))))
      by_taken false t ih = inr (ih (sym (left-first r (flat_map told rs) t) ∙ e))

  kept-same : (x : Report) (u : UnitValues) → (x.unit ≡ u.unit → ⊥) → kept_of d.view x u ≡ u
  kept-same x u n = ap (λ b. cond b (record u { values = u.values ++ values_by d.view x }) u) (ne_eqb x.unit u.unit n)

  kept-more : (x : Report) (u : UnitValues) → x.unit ≡ u.unit → kept_of d.view x u ≡ record u { values = u.values ++ values_by d.view x }
  kept-more x u e = ap (λ b. cond b (record u { values = u.values ++ values_by d.view x }) u) (eq-eqb x.unit u.unit e)

  -- a report on none of these
  others : (x : Report) (us : List UnitValues) (rs : List Known) → AreAligned us rs → AllByRecursion (λ r. takes_dump sizes c d r ≡ false) rs → (Member x.unit (places rs) → ⊥)
      → AreAligned (map (kept_of d.view x) us) (map (dump_by sizes c d) rs)
  others x [] [] al n out = tt
  others x (u ∷ us) (r ∷ rs) al n out =
      let p = kept-same x u (λ q. out (inl (q ∙ al.0))) in
      let k = left-is r n.0 in (
        ap (λ v. v.unit) p ∙ al.0 ∙ sym (ap (λ v. v.wires.place) k),
        ap (λ v. length v.values) p ∙ al.1 ∙ sym (ap (λ v. v.upto) k),
        others x us rs al.2 n.1 (λ m. out (inr m)),
      )
  others x [] (r ∷ rs) al n out = absurd al
  others x (u ∷ us) [] al n out = absurd al

  -- how many values it brings
  values-count : (r : Known) → length (values_by d.view (report r)) ≡ reached_by (numbers_told sizes.bits d r) r - r.upto
  values-count r = let n = numbers_told sizes.bits d r in
      length-map (report r).rows (λ x. value_read d.view n.id x.0) ∙ length-map (new_numbers n r) (row d.view n.id) ∙ length-range_with_len (suc r.upto) (reached_by n r - r.upto)

  grown : (n up to : ℕ) (more : ℕ) → n ≡ up → more ≡ to - up → n + more ≡ max up to
  grown n up to more e f = omega (arith, e, f)

  pub dumped : (us : List UnitValues) (rs : List Known) → AreAligned us rs → Distinct (places rs) → AreApart (dumps rs) → AreAligned (kept_by d.view (first_done (flat_map told rs)) us) (map (dump_by sizes c d) rs)
  dumped [] [] al p q = tt
  dumped [] (r ∷ rs) al p q = absurd al
  dumped (u ∷ us) [] al p q = absurd al
  dumped (u ∷ us) (r ∷ rs) al p q = by_taken (takes_dump sizes c d r) refl (dumped us rs al.2 p.1 q.1)
    where
      rest : List (ℕ × Msg)
      rest = flat_map told rs

      by_done : (o : Option Report) → first_done rest ≡ o → takes_dump sizes c d r ≡ false → AreAligned (kept_by d.view o us) (map (dump_by sizes c d) rs)
          → AreAligned (kept_by d.view o (u ∷ us)) (dump_by sizes c d r ∷ map (dump_by sizes c d) rs)
      by_done None s e ih = let k = left-is r e in (al.0 ∙ sym (ap (λ v. v.wires.place) k), al.1 ∙ sym (ap (λ v. v.upto) k), ih)
      by_done (Some x) s e ih =
          let k = left-is r e in
          let h = kept-same x u (λ w. p.0 (subst (λ (y : ℕ). Member y (places rs)) (w ∙ al.0) (reported rs x s))) in (
            ap (λ v. v.unit) h ∙ al.0 ∙ sym (ap (λ v. v.wires.place) k),
            ap (λ v. length v.values) h ∙ al.1 ∙ sym (ap (λ v. v.upto) k),
            ih,
          )

      by_taken : (b : Bool) → takes_dump sizes c d r ≡ b → AreAligned (kept_by d.view (first_done rest) us) (map (dump_by sizes c d) rs)
          → AreAligned (kept_by d.view (first_done (told r ++ rest)) (u ∷ us)) (dump_by sizes c d r ∷ map (dump_by sizes c d) rs)
      by_taken true e ih =
          let k = taken-is r e in
          let h = kept-more (report r) u (sym al.0) in
          let here = eqb-true c r.wires.dump (both (c == r.wires.dump) (is_taken sizes d r) e).0 in
          subst (λ (o : Option Report). AreAligned (kept_by d.view o (u ∷ us)) (dump_by sizes c d r ∷ map (dump_by sizes c d) rs)) (sym (taken-first r rest e)) (
            ap (λ v. v.unit) h ∙ al.0 ∙ sym (ap (λ v. v.wires.place) k),
            ap (λ v. length v.values) h ∙ length-append u.values (values_by d.view (report r))
                ∙ grown (length u.values) r.upto (reached_by (numbers_told sizes.bits d r) r) (length (values_by d.view (report r))) al.1 (values-count r) ∙ sym (ap (λ v. v.upto) k),
            others (report r) us rs al.2 (none-take r.wires.dump rs q.0 here) p.0,
          )
      by_taken false e ih =
          subst (λ (o : Option Report). AreAligned (kept_by d.view o (u ∷ us)) (dump_by sizes c d r ∷ map (dump_by sizes c d) rs)) (sym (left-first r rest e))
          (by_done (first_done rest) refl e ih)

  dump-wires : (rs : List Known) → map (λ r. r.wires) (map (dump_by sizes c d) rs) ≡ map (λ r. r.wires) rs
  dump-wires [] = refl
  dump-wires (r ∷ rs) = let x = by_taken (takes_dump sizes c d r) in let y = dump-wires rs in λ i. x i ∷ y i
    where
      by_taken : (b : Bool) → (cond b (answered (numbers_told sizes.bits d r) r) r).wires ≡ r.wires
      by_taken true = refl
      by_taken false = refl

-- Polls.

asked-same : (o : Option ℕ) (r : Known) → ((ask_by o r).wires ≡ r.wires) × ((ask_by o r).upto ≡ r.upto)
asked-same o r = by_asked (is_asked o r)
  where
    by_asked : (b : Bool) → ((cond b (asked r) r).wires ≡ r.wires) × ((cond b (asked r) r).upto ≡ r.upto)
    by_asked true = (refl, refl)
    by_asked false = (refl, refl)

asked-wires : (o : Option ℕ) (rs : List Known) → map (λ r. r.wires) (map (ask_by o) rs) ≡ map (λ r. r.wires) rs
asked-wires o [] = refl
asked-wires o (r ∷ rs) = let x = (asked-same o r).0 in let y = asked-wires o rs in λ i. x i ∷ y i

asked-aligned : (o : Option ℕ) (us : List UnitValues) (rs : List Known) → AreAligned us rs → AreAligned us (map (ask_by o) rs)
asked-aligned o [] [] al = tt
asked-aligned o (u ∷ us) (r ∷ rs) al = let k = asked-same o r in (al.0 ∙ sym (ap (λ w. w.place) k.0), al.1 ∙ sym k.1, asked-aligned o us rs al.2)
asked-aligned o [] (r ∷ rs) al = absurd al
asked-aligned o (u ∷ us) [] al = absurd al

-- Turns. The units are joined as they were.

record Holds (ws : List UnitWires) (s : ValueState) : Type 0 where
  pub aligned : AreAligned s.kept s.control.units
  pub wires : map (λ r. r.wires) s.control.units ≡ ws

record AreJoined (ws : List UnitWires) : Type 0 where
  pub places : Distinct (map (λ w. w.place) ws)
  pub dumps : AreApart (map (λ w. w.dump) ws)

asked-holds : (ws : List UnitWires) (s : ValueState) (o : Option ℕ) → Holds ws s → Holds ws (record { control = (asked_all o s.control).state; kept = s.kept })
asked-holds ws s o h = record { aligned = asked-aligned o s.kept s.control.units h.aligned; wires = asked-wires o s.control.units ∙ h.wires }

turn-holds : (ws : List UnitWires) → AreJoined ws → (s : ValueState) (t : Turn Msg) → Holds ws s → Holds ws (after_turn value_rules s t).state
turn-holds ws j s (Took c (Wire b)) h = record { aligned = h.aligned; wires = h.wires }
turn-holds ws j s (Took c (Frame f)) h = record { aligned = h.aligned; wires = h.wires }
turn-holds ws j s (Took c (Poll p)) h = record { aligned = h.aligned; wires = h.wires }
turn-holds ws j s (Took c (Begin k)) h = record { aligned = h.aligned; wires = h.wires }
turn-holds ws j s (Took c (Done d)) h = record { aligned = h.aligned; wires = h.wires }
turn-holds ws j s (Took c Notice) h = asked-holds ws s (Some c) h
turn-holds ws j s (Took c (Dump d)) h =
    let rs = s.control.units in
    let p : map (λ (w : UnitWires). w.place) (map (λ (r : Known). r.wires) rs) ≡ places rs = map-map (λ (w : UnitWires). w.place) (λ (r : Known). r.wires) rs in
    let q : map (λ (w : UnitWires). w.dump) (map (λ (r : Known). r.wires) rs) ≡ dumps rs = map-map (λ (w : UnitWires). w.dump) (λ (r : Known). r.wires) rs in record {
      aligned = dumped s.control.wires.sizes s.control.wires.done c d s.kept rs h.aligned
          (subst (λ (xs : List ℕ). Distinct xs) (ap (map (λ (w : UnitWires). w.place)) (sym h.wires) ∙ p) j.places)
          (subst AreApart (ap (map (λ (w : UnitWires). w.dump)) (sym h.wires) ∙ q) j.dumps);
      wires = dump-wires s.control.wires.sizes s.control.wires.done c d rs ∙ h.wires;
    }
turn-holds ws j s (Acted action) h = by_test ((action == s.control.wires.sweep) && not (is_swept s.control.units))
  where
    by_test : (b : Bool) → Holds ws (acted s (option_map (with_kept s.kept) (cond b (Some (asked_all None s.control)) None))).state
    by_test true = asked-holds ws s None h
    by_test false = h

turns-hold : (ws : List UnitWires) → AreJoined ws → (s : ValueState) (ts : List (Turn Msg)) → Holds ws s → Holds ws (after value_rules s ts).state
turns-hold ws j s [] h = h
turns-hold ws j s (t ∷ ts) h = turns-hold ws j (after_turn value_rules s t).state ts (turn-holds ws j s t h)

-- The first state.

first-aligned : (net : Net) (vs : List ServedUnit) → AreAligned (map (λ v. no_values (unit_place net v.unit)) vs) (map (λ v. unheard (unit_wires net v)) vs)
first-aligned net [] = tt
first-aligned net (v ∷ vs) = (refl, refl, first-aligned net vs)

abbrev first_wires : Net → ℕ → List UnitWires
first_wires net a = map (λ (r : Known). r.wires) (map (λ v. unheard (unit_wires net v)) (served net a))

first-holds : (net : Net) (a : ℕ) (sizes : Sizes) → Holds (first_wires net a) (first_value net a sizes)
first-holds net a sizes = record { aligned = first-aligned net (served net a); wires = refl }

outs-distinct : (net : Net) (a : ℕ) → Distinct (links_out net a PollSort)
outs-distinct net a = distinct-filter (λ l. same_sort (link_of net l).sort PollSort) (links_from net a) (distinct-filter (λ l. (link_of net l).from == a) (link_numbers net) (distinct-from 0 (length net.links)))

first-joined : (net : Net) (a : ℕ) → IsWired net → AreJoined (first_wires net a)
first-joined net a z = record {
  places = subst (λ (xs : List ℕ). Distinct xs) (sym whole) (distinct-map place (links_out net a PollSort) one (outs-distinct net a));
  dumps = subst AreApart (sym (map-map (λ (w : UnitWires). w.dump) (λ (r : Known). r.wires) (map (λ v. unheard (unit_wires net v)) (served net a)))) (joined_at net a z).dumps_apart;
}
  where
    place : ℕ → ℕ
    place l = unit_place net (link_of net l).to

    whole : map (λ (w : UnitWires). w.place) (first_wires net a) ≡ map place (links_out net a PollSort)
    whole = map-map (λ (w : UnitWires). w.place) (λ (r : Known). r.wires) (map (λ v. unheard (unit_wires net v)) (served net a))
        ∙ map-map (λ (r : Known). r.wires.place) (λ v. unheard (unit_wires net v)) (served net a)
        ∙ map-map (λ (v : ServedUnit). unit_place net v.unit) (serving net a) (links_out net a PollSort)

    one : (l k : ℕ) → Member l (links_out net a PollSort) → Member k (links_out net a PollSort) → place l ≡ place k → l ≡ k
    one l k m n e = let x = joined net a l z m in let y = joined net a k z n in one-link net a l k x y (z.ways.one_unit (link_of net k).to (link_of net l).to y.id y.unit e)

held : (net : Net) (a : ℕ) (sizes : Sizes) (ts : List (Turn Msg)) → IsWired net → Holds (first_wires net a) (turned net a sizes ts)
held net a sizes ts z = turns-hold (first_wires net a) (first-joined net a z) (first_value net a sizes) ts (first-holds net a sizes)

-- Where there is no value.

get-none : (xs : List Whole) (n : ℕ) → slice_get xs n ≡ None → length xs ≤ n
get-none [] n h = omega arith
get-none (x ∷ xs) zero h = absurd cc
get-none (x ∷ xs) (suc n) h = omega (arith, get-none xs n h)

none-of : (vs : List Whole) (n k : ℕ) → length vs ≡ n → (value_of vs k ≡ None → (k ≡ 0) ⊎ (n < k)) × ((k ≡ 0) ⊎ (n < k) → value_of vs k ≡ None)
none-of vs n k e = (there, back)
  where
    there : value_of vs k ≡ None → (k ≡ 0) ⊎ (n < k)
    there h = by_tells (eqb_tells k 0)
      where
        by_tells : ((nat_eq k 0 ≡ true) × (k ≡ 0)) ⊎ ((nat_eq k 0 ≡ false) × (k ≡ 0 → ⊥)) → (k ≡ 0) ⊎ (n < k)
        by_tells (inl q) = inl q.1
        by_tells (inr q) = let l = get-none vs (k - 1) (sym (ap (λ b. cond b None (slice_get vs (k - 1))) q.0) ∙ h) in let m = q.1 in inr (omega (arith, l, e, m))

    back : (k ≡ 0) ⊎ (n < k) → value_of vs k ≡ None
    back (inl q) = ap (λ b. cond b None (slice_get vs (k - 1))) (eq-eqb k 0 q)
    back (inr q) = ap (λ b. cond b None (slice_get vs (k - 1))) (ne_eqb k 0 (λ z. omega (arith, z, q))) ∙ slice_get_past vs (k - 1) (omega (arith, q, e))

none-in : (unit k : ℕ) (us : List UnitValues) (rs : List Known) → AreAligned us rs
    → (value_in us unit k ≡ None → IsUncollected (collected_in rs unit) k) × (IsUncollected (collected_in rs unit) k → value_in us unit k ≡ None)
none-in unit k [] [] al = ((λ e. tt), (λ h. refl))
none-in unit k [] (r ∷ rs) al = absurd al
none-in unit k (u ∷ us) [] al = absurd al
none-in unit k (u ∷ us) (r ∷ rs) al =
    subst (λ (p : ℕ). (cond (p == unit) (value_of u.values k) (value_in us unit k) ≡ None → IsUncollected (collected_in (r ∷ rs) unit) k) × (IsUncollected (collected_in (r ∷ rs) unit) k → cond (p == unit) (value_of u.values k) (value_in us unit k) ≡ None))
    (sym al.0) (by_place (r.wires.place == unit) (none-in unit k us rs al.2))
  where
    by_place : (b : Bool) → (value_in us unit k ≡ None → IsUncollected (collected_in rs unit) k) × (IsUncollected (collected_in rs unit) k → value_in us unit k ≡ None)
        → (cond b (value_of u.values k) (value_in us unit k) ≡ None → IsUncollected (cond b (Some r.upto) (collected_in rs unit)) k)
        × (IsUncollected (cond b (Some r.upto) (collected_in rs unit)) k → cond b (value_of u.values k) (value_in us unit k) ≡ None)
    by_place true ih = none-of u.values r.upto k al.1
    by_place false ih = ih

pub none-exactly : (net : Net) (a : ℕ) (sizes : Sizes) (ts : List (Turn Msg)) (unit k : ℕ) → IsWired net
    → (value_in (turned net a sizes ts).kept unit k ≡ None → IsUncollected (collected_in (turned net a sizes ts).control.units unit) k)
    × (IsUncollected (collected_in (turned net a sizes ts).control.units unit) k → value_in (turned net a sizes ts).kept unit k ≡ None)
none-exactly net a sizes ts unit k z = none-in unit k (turned net a sizes ts).kept (turned net a sizes ts).control.units (held net a sizes ts z).aligned

-- Which units are there.

there-in : (unit : ℕ) (rs : List Known) → (collected_in rs unit ≡ None → Each (λ p. p ≡ unit → ⊥) (places rs)) × (Each (λ p. p ≡ unit → ⊥) (places rs) → collected_in rs unit ≡ None)
there-in unit [] = ((λ e. tt), (λ h. refl))
there-in unit (r ∷ rs) = by_tells (eqb_tells r.wires.place unit) (there-in unit rs)
  where
    by_tells : ((nat_eq r.wires.place unit ≡ true) × (r.wires.place ≡ unit)) ⊎ ((nat_eq r.wires.place unit ≡ false) × (r.wires.place ≡ unit → ⊥))
        → (collected_in rs unit ≡ None → Each (λ p. p ≡ unit → ⊥) (places rs)) × (Each (λ p. p ≡ unit → ⊥) (places rs) → collected_in rs unit ≡ None)
        → (collected_in (r ∷ rs) unit ≡ None → Each (λ p. p ≡ unit → ⊥) (places (r ∷ rs))) × (Each (λ p. p ≡ unit → ⊥) (places (r ∷ rs)) → collected_in (r ∷ rs) unit ≡ None)
    by_tells (inl q) ih = let some : collected_in (r ∷ rs) unit ≡ Some r.upto = ap (λ b. cond b (Some r.upto) (collected_in rs unit)) q.0 in ((λ e. let x : Some r.upto ≡ None = sym some ∙ e in absurd cc), (λ h. absurd (h.0 q.1)))
    by_tells (inr q) ih = let same : collected_in (r ∷ rs) unit ≡ collected_in rs unit = ap (λ b. cond b (Some r.upto) (collected_in rs unit)) q.0 in
        ((λ e. (q.1, ih.0 (sym same ∙ e))), (λ h. same ∙ ih.1 h.1))

pub served-exactly : (net : Net) (a : ℕ) (sizes : Sizes) (ts : List (Turn Msg)) (unit : ℕ) → IsWired net
    → (collected_in (turned net a sizes ts).control.units unit ≡ None → Each (λ v. unit_place net v.unit ≡ unit → ⊥) (served net a))
    × (Each (λ v. unit_place net v.unit ≡ unit → ⊥) (served net a) → collected_in (turned net a sizes ts).control.units unit ≡ None)
served-exactly net a sizes ts unit z =
    let rs = (turned net a sizes ts).control.units in
    let at : places rs ≡ map (λ v. unit_place net v.unit) (served net a) = sym (map-map (λ (w : UnitWires). w.place) (λ (r : Known). r.wires) rs) ∙ ap (map (λ (w : UnitWires). w.place)) (held net a sizes ts z).wires
    ∙ map-map (λ (w : UnitWires). w.place) (λ (r : Known). r.wires) (map (λ v. unheard (unit_wires net v)) (served net a)) ∙ map-map (λ (r : Known). r.wires.place) (λ v. unheard (unit_wires net v)) (served net a) in
    let h = there-in unit rs in (
      (λ e. unmap (served net a) (subst (Each (λ p. p ≡ unit → ⊥)) at (h.0 e))),
      (λ e. h.1 (subst (Each (λ p. p ≡ unit → ⊥)) (sym at) (each-map (λ p. p ≡ unit → ⊥) (λ (v : ServedUnit). unit_place net v.unit) (served net a) e))),
    )
  where
    unmap : (vs : List ServedUnit) → Each (λ p. p ≡ unit → ⊥) (map (λ v. unit_place net v.unit) vs) → Each (λ v. unit_place net v.unit ≡ unit → ⊥) vs
    unmap [] h = tt
    unmap (v ∷ vs) h = (h.0, unmap vs h.1)
