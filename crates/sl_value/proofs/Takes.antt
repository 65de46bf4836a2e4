-- What a control plane keeps after a turn.
use Rattle.std.proofs.Common.{◌≡◌, ℕ, suc, ◌+◌, ◌-◌, ◌<◌, ◌≤◌, List, [], ◌∷◌, ◌++◌, length, map, refl, sym, ap, subst, ◌∙◌, Option, Some, None, arith, inl, inr}
use Rattle.std.specs.Prelude.{Bool, true, false, ◌==◌, nat_eq, ◌⊎◌, cond, max, flat_map, slice_get, option_and_then}
use Rattle.std.specs.List.{AllByRecursion, range_with_len}
use Rattle.std.proofs.lemmas.Bool.{eq-eqb, eqb-true}
use Rattle.std.proofs.lemmas.Bool.Decides.{eqb_tells}
use Rattle.std.proofs.lemmas.Simd.{map-map}
use Rattle.sl_parts.specs.Lists.{Each, Member}
use Rattle.sl_layout.specs.declared.actor.ActorId.TheVariants.{Control, Unit as OfUnit}
use Rattle.sl_layout.specs.declared.actor.UnitId.{UnitId}
use Rattle.sl_layout.specs.declared.actor.Sort.TheVariants.{Poll, Dump}
use Rattle.sl_layout.specs.Net.{Net, actor_of, link_of, links_into, links_out, choice_of, unit_place, data_channels}
use Rattle.sl_layout.specs.Serving.{ServedUnit, choice_from, serving, served}
use Rattle.sl_net.specs.Wired.{IsWired, Reports}
use Rattle.sl_net.specs.Ways.{IsOut}
use Rattle.sl_saves.specs.declared.entry.View.{View}
use Rattle.sl_saves.specs.declared.entry.Saved.{Saved}
use Rattle.sl_saves.specs.Views.{IsShown}
use Rattle.sl_wire.specs.declared.message.Dump.{Dump as UnitDump}
use Rattle.sl_wire.specs.declared.message.Done.{Done}
use Rattle.sl_wire.specs.declared.message.Msg.{Msg}
use Rattle.sl_wire.specs.Sizes.{Sizes, Lengths, lengths}
use Rattle.sl_control.specs.declared.known.Known.{Known}
use Rattle.sl_control.specs.declared.known.Numbers.{Numbers}
use Rattle.sl_control.specs.Rows.{span, row}
use Rattle.sl_control.specs.Control.{is_taken, takes_dump, dump_by, dump_puts, numbers_told, reached_by, done_of, answered, answer_by}
use Rattle.sl_model.specs.declared.message.Message.TheVariants.{Dump as DumpMsg}
use Rattle.sl_model.specs.declared.message.Step.{Step}
use Rattle.sl_model.specs.History.{History, id, first, dump_of}
use Rattle.sl_model.specs.Knowledge.{upto_of, dumped}
use Rattle.sl_model.specs.Calls.{calls}
use Rattle.sl_model.specs.Brought.{IsBrought}
use Rattle.sl_simulation.specs.Messages.{IsDumpOf, numbers_after}
use Rattle.sl_simulation.specs.ControlImage.{known_of}
use Rattle.sl_value.specs.declared.whole.Whole.{Whole}
use Rattle.sl_value.specs.Counted.{value_read, counted}
use Rattle.sl_value.specs.Valued.{UnitValues, first_done, or_done, values_by, kept_of, kept_by}
use Rattle.sl_value.specs.Standing.{values_told, kept_told}
use Rattle.sl_value.proofs.Reports.{first-append, each-in-span, both}
use Rattle.sl_value.proofs.Told.{heard-nothing, heard-other, heard-here, upto-id, values-grow, values-same}
use Rattle.sl_parts.proofs.Lists.{each-of, each-at, each-map, member-map}

-- Lists.

pub same-map : {A B C : Type 0} (g h : B → C) (f : A → B) (xs : List A) → ((x : A) → Member x xs → g (f x) ≡ h (f x)) → map g (map f xs) ≡ map h (map f xs)
same-map g h f [] e = refl
same-map g h f (x ∷ xs) e = let y = e x (inl refl) in let z = same-map g h f xs (λ w m. e w (inr m)) in λ i. y i ∷ z i

changed-map : {A B C : Type 0} (j : C → C) (g h : B → C) (f : A → B) (xs : List A) → ((x : A) → Member x xs → j (g (f x)) ≡ h (f x)) → map j (map g (map f xs)) ≡ map h (map f xs)
changed-map j g h f [] e = refl
changed-map j g h f (x ∷ xs) e = let y = e x (inl refl) in let z = changed-map j g h f xs (λ w m. e w (inr m)) in λ i. y i ∷ z i

-- each of those that a control plane serves, by the poll links to them
pub each-served : (P : ServedUnit → Type 0) (net : Net) (a : ℕ) → ((l : ℕ) → Member l (links_out net a Poll) → P (serving net a l)) → Each P (served net a)
each-served P net a f = each-map P (serving net a) (links_out net a Poll) (each-of (λ l. P (serving net a l)) (links_out net a Poll) f)

each-same : {A B C : Type 0} (j : C → C) (g h : B → C) (f : A → B) (xs : List A) → map j (map g (map f xs)) ≡ map h (map f xs) → Each (λ x. j (g (f x)) ≡ h (f x)) xs
each-same j g h f [] e = tt
each-same j g h f (x ∷ xs) e = (cc, each-same j g h f xs (cc))

same-on : (P : ℕ → Type 0) (f g : ℕ → Whole) (ks : List ℕ) → AllByRecursion P ks → ((k : ℕ) → P k → f k ≡ g k) → map f ks ≡ map g ks
same-on P f g [] p e = refl
same-on P f g (k ∷ ks) p e = let x = e k p.0 in let y = same-on P f g ks p.1 e in λ i. x i ∷ y i

pub of_some : {A : Type 0} {x y : A} → Some x ≡ Some y → x ≡ y
of_some e = cc

-- A unit that a control plane serves by a link of polls.
pub record IsJoined (net : Net) (a k : ℕ) : Type 0 where
  pub out : IsOut net a Poll k
  pub id : UnitId
  pub unit : actor_of net (link_of net k).to ≡ OfUnit id
  pub reports : Reports net (link_of net k).to
  pub poll : k ≡ reports.poll
  pub control : reports.control ≡ a
  pub dump : (serving net a k).dump ≡ choice_of net reports.dump

pub joined : (net : Net) (a k : ℕ) → IsWired net → Member k (links_out net a Poll) → IsJoined net a k
joined net a k z m =
    let o : IsOut net a Poll k = each-at (IsOut net a Poll) k (links_out net a Poll) (z.ways.outs a Poll) m in
    let i = z.poll_to k o.is_link o.sort in
    let r = z.reports (link_of net k).to i.0 i.1 in
    let poll : k ≡ r.poll = r.polled k refl o.sort in
    let control : r.control ≡ a = sym r.poll_from ∙ ap (λ l. (link_of net l).from) (sym poll) ∙ o.from in
    record { out = o; id = i.0; unit = i.1; reports = r; poll = poll; control = control; dump = subst (λ b. choice_from net b (link_of net k).to Dump ≡ choice_of net r.dump) control r.dump_choice }

not-control : (net : Net) (a d k : ℕ) → actor_of net a ≡ Control d → IsJoined net a k → (link_of net k).to ≡ a → ⊥
not-control net a d k q j e = let x : OfUnit j.id ≡ Control d = sym j.unit ∙ ap (actor_of net) e ∙ q in cc

-- what is taken by the choice of a unit's dumps comes from the unit
pub dump-from : (net : Net) (a k c l : ℕ) → (j : IsJoined net a k) → slice_get (links_into net a) c ≡ Some l → c ≡ (serving net a k).dump → (link_of net l).from ≡ (link_of net k).to
dump-from net a k c l j i e =
    let into : slice_get (links_into net a) c ≡ Some j.reports.dump = ap (slice_get (links_into net a)) (e ∙ j.dump) ∙ ap (λ b. slice_get (links_into net b) (choice_of net j.reports.dump)) (sym j.control) ∙ j.reports.dump_taken in
    subst (λ x. (link_of net x).from ≡ (link_of net k).to) (of_some (sym into ∙ i)) j.reports.dump_out.from

pub one-link : (net : Net) (a k x : ℕ) → IsJoined net a k → IsJoined net a x → (link_of net k).to ≡ (link_of net x).to → k ≡ x
one-link net a k x j i e = j.poll ∙ sym (j.reports.polled x (sym e) i.out.sort)

-- A step of a control plane that takes no dump.

module _ (net : Net) (us ws : ℕ → History) (a d : ℕ) (step : Step) (q : actor_of net a ≡ Control d) (same : ws a ≡ step ∷ us a) (other : (b : ℕ) → (b ≡ a → ⊥) → ws b ≡ us b) where
  told-same : (k : ℕ) → IsJoined net a k → dumped (serving net a k).dump (step ∷ us a) ≡ dumped (serving net a k).dump (us a) → kept_told net us a (serving net a k) ≡ kept_told net ws a (serving net a k)
  told-same k j e =
      let x : dumped (serving net a k).dump (us a) ≡ dumped (serving net a k).dump (ws a) = sym e ∙ ap (dumped (serving net a k).dump) (sym same) in
      let y : us (link_of net k).to ≡ ws (link_of net k).to = sym (other (link_of net k).to (not-control net a d k q j)) in
      λ i. record { unit = unit_place net (link_of net k).to; values = values_told net (link_of net k).to (first (x i) (y i)) }

  pub kept-same : IsWired net → option_and_then dump_of step.taken ≡ None → map (kept_told net us a) (served net a) ≡ map (kept_told net ws a) (served net a)
  kept-same z e = same-map (kept_told net us a) (kept_told net ws a) (serving net a) (links_out net a Poll)
      (λ k m. told-same k (joined net a k z m) (heard-nothing dump_of (serving net a k).dump step (us a) e))

-- The report on a dump.

pub record IsReport (sizes : Lengths) (c : ℕ) (d : UnitDump) (g : ℕ → Known) (ks : List ℕ) (found : Option Done) : Type 0 where
  pub place : ℕ
  pub member : Member place ks
  pub taken : takes_dump sizes c d (g place) ≡ true
  pub is : found ≡ Some (done_of (numbers_told sizes.bits d (g place)) d.view (g place))

find-done : (sizes : Lengths) (out c : ℕ) (d : UnitDump) (h : ServedUnit → Known) (f : ℕ → ServedUnit) (ks : List ℕ)
    → IsReport sizes c d (λ k. h (f k)) ks (first_done (flat_map (dump_puts sizes out c d) (map h (map f ks))))
    ⊎ ((first_done (flat_map (dump_puts sizes out c d) (map h (map f ks))) ≡ None) × Each (λ k. takes_dump sizes c d (h (f k)) ≡ false) ks)
find-done sizes out c d h f [] = inr (refl, tt)
find-done sizes out c d h f (k ∷ ks) = by_taken (takes_dump sizes c d (h (f k))) refl (find-done sizes out c d h f ks)
  where
    rest : List (ℕ × Msg)
    rest = flat_map (dump_puts sizes out c d) (map h (map f ks))

    by_taken : (b : Bool) → takes_dump sizes c d (h (f k)) ≡ b
        → IsReport sizes c d (λ k. h (f k)) ks (first_done rest) ⊎ ((first_done rest ≡ None) × Each (λ k. takes_dump sizes c d (h (f k)) ≡ false) ks)
        → IsReport sizes c d (λ k. h (f k)) (k ∷ ks) (first_done (dump_puts sizes out c d (h (f k)) ++ rest))
        ⊎ ((first_done (dump_puts sizes out c d (h (f k)) ++ rest) ≡ None) × Each (λ k. takes_dump sizes c d (h (f k)) ≡ false) (k ∷ ks))
    by_taken true e ih = inl (record {
      place = k;
      member = inl refl;
      taken = e;
      is = first-append (dump_puts sizes out c d (h (f k))) rest ∙ ap (λ b. or_done (first_done (cond b (answer_by out (numbers_told sizes.bits d (h (f k))) d.view (h (f k))) [])) (first_done rest)) e;
    })
    by_taken false e (inl r) = inl (record {
      place = r.place;
      member = inr r.member;
      taken = r.taken;
      is = first-append (dump_puts sizes out c d (h (f k))) rest ∙ ap (λ b. or_done (first_done (cond b (answer_by out (numbers_told sizes.bits d (h (f k))) d.view (h (f k))) [])) (first_done rest)) e ∙ r.is;
    })
    by_taken false e (inr r) = inr (first-append (dump_puts sizes out c d (h (f k))) rest ∙ ap (λ b. or_done (first_done (cond b (answer_by out (numbers_told sizes.bits d (h (f k))) d.view (h (f k))) [])) (first_done rest)) e ∙ r.0, (e, r.1))

-- A step of a control plane that takes a dump.

abbrev pub Counts : Type 0
Counts = (n : ℕ) (cs : List ℕ) (h : History) (view : View) (k : ℕ) → IsShown n view (calls cs h) → 1 ≤ k → k ≤ id h → id h < k + length view.slots → value_read view (id h) k ≡ counted k h

module _ (net : Net) (sizes : Sizes) (us ws : ℕ → History) (a d l n : ℕ) (step : Step) (dump : UnitDump) (z : IsWired net) (q : actor_of net a ≡ Control d)
    (same : ws a ≡ step ∷ us a) (other : (b : ℕ) → (b ≡ a → ⊥) → ws b ≡ us b) (taken : step.taken ≡ Some (DumpMsg n)) (into : slice_get (links_into net a) step.choice ≡ Some l)
    (of : IsDumpOf net sizes (link_of net l).from (first n (us (link_of net l).from)) dump)
    (new : map (dump_by (lengths sizes) step.choice dump) (map (known_of net us a) (served net a)) ≡ map (known_of net ws a) (served net a))
    (window : ℕ) (room : window ≤ sizes.ring)
    (brought : Each (λ v. step.choice ≡ v.dump → IsBrought net window v.unit (us v.unit) (dumped v.dump (us a)) n) (served net a))
    (unwraps : Each (λ v. step.choice ≡ v.dump → IsDumpOf net sizes v.unit (first n (us v.unit)) dump
    → numbers_told sizes.bits dump (known_of net us a v) ≡ numbers_after net v.unit (first n (us v.unit))) (served net a))
    (counts : Counts) where
  -- of a unit whose dumps are taken by this choice
  record IsTold (k : ℕ) : Type 0 where
    now : dumped (serving net a k).dump (ws a) ≡ n
    brings : IsBrought net window (link_of net k).to (us (link_of net k).to) (dumped (serving net a k).dump (us a)) n
    dumps : IsDumpOf net sizes (link_of net k).to (first n (us (link_of net k).to)) dump
    numbers : numbers_told sizes.bits dump (known_of net us a (serving net a k)) ≡ numbers_after net (link_of net k).to (first n (us (link_of net k).to))

  is-told : (k : ℕ) → Member k (links_out net a Poll) → step.choice ≡ (serving net a k).dump → IsTold k
  is-told k m e =
      let j = joined net a k z m in
      let here = member-map (serving net a) k (links_out net a Poll) m in
      let dumps : IsDumpOf net sizes (link_of net k).to (first n (us (link_of net k).to)) dump =
      subst (λ u. IsDumpOf net sizes u (first n (us u)) dump) (dump-from net a k step.choice l j into e) of in record {
        now = ap (dumped (serving net a k).dump) same ∙ heard-here dump_of (serving net a k).dump n step (us a) e (ap (option_and_then dump_of) taken);
        brings = each-at (λ (v : ServedUnit). step.choice ≡ v.dump → IsBrought net window v.unit (us v.unit) (dumped v.dump (us a)) n) (serving net a k) (served net a) brought here e;
        dumps = dumps;
        numbers = each-at (λ (v : ServedUnit). step.choice ≡ v.dump → IsDumpOf net sizes v.unit (first n (us v.unit)) dump → numbers_told sizes.bits dump (known_of net us a v) ≡ numbers_after net v.unit (first n (us v.unit)))
            (serving net a k) (served net a) unwraps here e dumps;
      }

  rises : (k : ℕ) → IsTold k → (j : ℕ) → j ≤ id (first (dumped (serving net a k).dump (us a)) (us (link_of net k).to)) → j ≤ id (first n (us (link_of net k).to))
  rises k t j h = let r = t.brings.id_raised.0 in omega (arith, r, h)

  -- what the unit told, now
  now-told : (k : ℕ) → IsJoined net a k → IsTold k → first n (us (link_of net k).to) ≡ first (dumped (serving net a k).dump (ws a)) (ws (link_of net k).to)
  now-told k j t = let x = t.now in let y = other (link_of net k).to (not-control net a d k q j) in λ i. first (sym x i) (sym y i)

  known-now : (k : ℕ) → Member k (links_out net a Poll) → dump_by (lengths sizes) step.choice dump (known_of net us a (serving net a k)) ≡ known_of net ws a (serving net a k)
  known-now k m = each-at (λ k. dump_by (lengths sizes) step.choice dump (known_of net us a (serving net a k)) ≡ known_of net ws a (serving net a k)) k (links_out net a Poll)
      (each-same (dump_by (lengths sizes) step.choice dump) (known_of net us a) (known_of net ws a) (serving net a) (links_out net a Poll) new) m

  -- a dump that is not taken tells nothing new
  not-taken : (k : ℕ) → Member k (links_out net a Poll) → takes_dump (lengths sizes) step.choice dump (known_of net us a (serving net a k)) ≡ false → kept_told net us a (serving net a k) ≡ kept_told net ws a (serving net a k)
  not-taken k m e = by_tells (eqb_tells step.choice (serving net a k).dump)
    where
      by_tells : ((nat_eq step.choice (serving net a k).dump ≡ true) × (step.choice ≡ (serving net a k).dump)) ⊎ ((nat_eq step.choice (serving net a k).dump ≡ false) × (step.choice ≡ (serving net a k).dump → ⊥))
          → kept_told net us a (serving net a k) ≡ kept_told net ws a (serving net a k)
      by_tells (inr ne) = told-same net us ws a d step q same other k (joined net a k z m) (heard-other dump_of (serving net a k).dump step (us a) ne.1)
      by_tells (inl c) =
          let j = joined net a k z m in
          let t = is-told k m c.1 in
          let known : known_of net us a (serving net a k) ≡ known_of net ws a (serving net a k) =
          sym (ap (λ b. cond b (answered (numbers_told sizes.bits dump (known_of net us a (serving net a k))) (known_of net us a (serving net a k))) (known_of net us a (serving net a k))) e) ∙ known-now k m in
          let upto : upto_of net (link_of net k).to (first (dumped (serving net a k).dump (us a)) (us (link_of net k).to)) ≡ upto_of net (link_of net k).to (first n (us (link_of net k).to)) =
          ap (λ (r : Known). r.upto) known ∙ sym (ap (upto_of net (link_of net k).to) (now-told k j t)) in
          let values = values-same net (link_of net k).to (dumped (serving net a k).dump (us a)) n (us (link_of net k).to) (rises k t) upto
          ∙ ap (values_told net (link_of net k).to) (now-told k j t) in
          λ i. record { unit = unit_place net (link_of net k).to; values = values i }

  -- one that is taken tells the values of the numbers that the report brings
  abbrev report : ℕ → Done
  report k = done_of (numbers_told sizes.bits dump (known_of net us a (serving net a k))) dump.view (known_of net us a (serving net a k))

  brought-values : (k : ℕ) → Member k (links_out net a Poll) → takes_dump (lengths sizes) step.choice dump (known_of net us a (serving net a k)) ≡ true → (t : IsTold k)
      → values_by dump.view (report k) ≡ map (λ j. counted j (first n (us (link_of net k).to)))
      (span (upto_of net (link_of net k).to (first (dumped (serving net a k).dump (us a)) (us (link_of net k).to))) (upto_of net (link_of net k).to (first n (us (link_of net k).to))))
  brought-values k m e t =
      let u : ℕ = (link_of net k).to in
      let g : History = first n (us u) in
      let old : ℕ = upto_of net u (first (dumped (serving net a k).dump (us a)) (us u)) in
      let r : Known = known_of net us a (serving net a k) in
      let told : Numbers = numbers_told sizes.bits dump r in
      let known : answered told r ≡ known_of net ws a (serving net a k) = sym (ap (λ b. cond b (answered told r) r) e) ∙ known-now k m in
      let upto : max old (reached_by told r) ≡ upto_of net u g = ap (λ (r : Known). r.upto) known ∙ sym (ap (upto_of net u) (now-told k (joined net a k z m) t)) in
      let rise : old ≤ upto_of net u g = t.brings.rises in
      let gap : reached_by told r - old ≡ upto_of net u g - old = omega (arith, upto, rise) in
      let id_is : told.id ≡ id g = ap (λ (x : Numbers). x.id) t.numbers in
      map-map (λ (x : ℕ × Saved). value_read dump.view told.id x.0) (row dump.view told.id) (span old (reached_by told r))
      ∙ ap (λ c. map (value_read dump.view told.id) (range_with_len (suc old) c)) gap
      ∙ ap (λ x. map (value_read dump.view x) (span old (upto_of net u g))) id_is
      ∙ same-on (λ j. (suc old ≤ j) × (j ≤ upto_of net u g)) (value_read dump.view (id g)) (λ j. counted j g) (span old (upto_of net u g)) (each-in-span old (upto_of net u g))
      (λ j p. let low = p.0 in let high = p.1 in let top = upto-id net u g in let near = t.brings.near j low in let size = t.dumps.size in
      counts sizes.credits (data_channels net u) g dump.view j t.dumps.shown (omega (arith, low)) (omega (arith, high, top)) (omega (arith, near, size, room)))

  reported : (k : ℕ) → Member k (links_out net a Poll) → takes_dump (lengths sizes) step.choice dump (known_of net us a (serving net a k)) ≡ true
      → kept_of dump.view (report k) (kept_told net us a (serving net a k)) ≡ kept_told net ws a (serving net a k)
  reported k m e =
      let u : ℕ = (link_of net k).to in
      let c : step.choice ≡ (serving net a k).dump = eqb-true step.choice (serving net a k).dump (both (step.choice == (serving net a k).dump) (is_taken (lengths sizes) dump (known_of net us a (serving net a k))) e).0 in
      let t = is-told k m c in
      let old : UnitValues = kept_told net us a (serving net a k) in
      let values : old.values ++ values_by dump.view (report k) ≡ values_told net u (first (dumped (serving net a k).dump (ws a)) (ws u)) =
      ap (λ vs. old.values ++ vs) (brought-values k m e t)
      ∙ sym (values-grow net u (dumped (serving net a k).dump (us a)) n (us u) (rises k t) t.brings.rises)
      ∙ ap (values_told net u) (now-told k (joined net a k z m) t) in
      ap (λ b. cond b (record { unit = old.unit; values = old.values ++ values_by dump.view (report k) }) old) (eq-eqb (unit_place net u) (unit_place net u) refl)
      ∙ (λ i. record { unit = unit_place net u; values = values i })

  -- of another unit nothing is told
  another : (k x : ℕ) → Member k (links_out net a Poll) → Member x (links_out net a Poll) → takes_dump (lengths sizes) step.choice dump (known_of net us a (serving net a k)) ≡ true
      → kept_of dump.view (report k) (kept_told net us a (serving net a x)) ≡ kept_told net ws a (serving net a x)
  another k x m y e = by_tells (eqb_tells (unit_place net (link_of net k).to) (unit_place net (link_of net x).to))
    where
      by_tells : ((nat_eq (unit_place net (link_of net k).to) (unit_place net (link_of net x).to) ≡ true) × (unit_place net (link_of net k).to ≡ unit_place net (link_of net x).to))
          ⊎ ((nat_eq (unit_place net (link_of net k).to) (unit_place net (link_of net x).to) ≡ false) × (unit_place net (link_of net k).to ≡ unit_place net (link_of net x).to → ⊥))
          → kept_of dump.view (report k) (kept_told net us a (serving net a x)) ≡ kept_told net ws a (serving net a x)
      by_tells (inl s) =
          let i = joined net a k z m in
          let j = joined net a x z y in
          let is : k ≡ x = one-link net a k x i j (z.ways.one_unit (link_of net x).to (link_of net k).to j.id j.unit s.1) in
          subst (λ x. kept_of dump.view (report k) (kept_told net us a (serving net a x)) ≡ kept_told net ws a (serving net a x)) is (reported k m e)
      by_tells (inr s) =
          let old : UnitValues = kept_told net us a (serving net a x) in
          let c : step.choice ≡ (serving net a k).dump = eqb-true step.choice (serving net a k).dump (both (step.choice == (serving net a k).dump) (is_taken (lengths sizes) dump (known_of net us a (serving net a k))) e).0 in
          ap (λ b. cond b (record { unit = old.unit; values = old.values ++ values_by dump.view (report k) }) old) s.0
          ∙ told-same net us ws a d step q same other x (joined net a x z y) (heard-other dump_of (serving net a x).dump step (us a)
          (λ h. s.1 (ap (unit_place net) (sym (dump-from net a k step.choice l (joined net a k z m) into c) ∙ dump-from net a x step.choice l (joined net a x z y) into h))))

  pub kept-dump : (out : ℕ) → kept_by dump.view (first_done (flat_map (dump_puts (lengths sizes) out step.choice dump) (map (known_of net us a) (served net a)))) (map (kept_told net us a) (served net a))
      ≡ map (kept_told net ws a) (served net a)
  kept-dump out = by_found (find-done (lengths sizes) out step.choice dump (known_of net us a) (serving net a) (links_out net a Poll))
    where
      found : Option Done
      found = first_done (flat_map (dump_puts (lengths sizes) out step.choice dump) (map (known_of net us a) (served net a)))

      by_found : IsReport (lengths sizes) step.choice dump (λ k. known_of net us a (serving net a k)) (links_out net a Poll) found
          ⊎ ((found ≡ None) × Each (λ k. takes_dump (lengths sizes) step.choice dump (known_of net us a (serving net a k)) ≡ false) (links_out net a Poll))
          → kept_by dump.view found (map (kept_told net us a) (served net a)) ≡ map (kept_told net ws a) (served net a)
      by_found (inl r) = ap (λ o. kept_by dump.view o (map (kept_told net us a) (served net a))) r.is
          ∙ changed-map (kept_of dump.view (report r.place)) (kept_told net us a) (kept_told net ws a) (serving net a) (links_out net a Poll)
          (λ x y. another r.place x r.member y r.taken)
      by_found (inr r) = ap (λ o. kept_by dump.view o (map (kept_told net us a) (served net a))) r.0
          ∙ same-map (kept_told net us a) (kept_told net ws a) (serving net a) (links_out net a Poll)
          (λ x y. not-taken x y (each-at (λ k. takes_dump (lengths sizes) step.choice dump (known_of net us a (serving net a k)) ≡ false) x (links_out net a Poll) r.1 y))
