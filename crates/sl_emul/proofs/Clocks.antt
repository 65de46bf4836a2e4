-- The clocks that go beside the machines of a run show the Lamport numbers of its schedule.
use Rattle.std.proofs.Common.{◌≡◌, ℕ, suc, ◌+◌, ◌-◌, ◌^◌, ◌<◌, ◌≤◌, max, List, [], ◌∷◌, ◌++◌, length, map, drop, refl, sym, ap, subst, ◌∙◌, Option, Some, None, arith, inl, inr, append-nil, append_assoc, length-append, replicate, get_or-set_same, get_or-set_other, length-set}
use Rattle.std.specs.Prelude.{◌⊎◌, true, false, Bool, nat_eq, if◌then◌else◌, slice_get, slice_set, slice_index_or, unwrap_or, IsSome}
use Rattle.std.specs.Option.{option_map, option_and_then}
use Rattle.std.proofs.Math.ListN.{get_or-map}
use Rattle.std.proofs.lemmas.Bool.Decides.{eqb_tells}
use Rattle.std.proofs.lemmas.List.{length-map, length-drop, drop-append-le, length-replicate, map-append, replicate-append-replicate}
use Rattle.std.proofs.lemmas.Option.{same_Some, get_or_from_slice_get, slice_get_within}
use Rattle.sl_machine.specs.Machine.{After}
use Rattle.sl_machine.specs.Plan.{IsSound, link_in, link_out}
use Rattle.sl_loss.specs.Loss.{Loss, loses_next}
use Rattle.sl_link.specs.declared.ends.Stamped.{Stamped}
use Rattle.sl_layout.specs.Net.{Net, link_of, links_into, choice_of}
use Rattle.sl_layout.specs.Wiring.{plan_of}
use Rattle.sl_net.specs.Ways.{HasWays}
use Rattle.sl_wire.specs.declared.message.Msg.{Msg}
use Rattle.sl_wire.specs.Sizes.{Sizes, sizes_of}
use Rattle.sl_actor.specs.Histories.{stamped, stamp_all, numbered_after, numbered}
use Rattle.sl_model.specs.declared.message.Message.{Message}
use Rattle.sl_model.specs.declared.message.Step.{Step}
use Rattle.sl_model.specs.History.{World, Losses, history, taken, put, without_lost}
use Rattle.sl_model.specs.Setup.{Setup}
use Rattle.sl_model.specs.World.{Entry, next_step, turn, world, start, carried, receiver, taken_by, IsLegal, IsLegalFrom}
use Rattle.sl_model.specs.Window.{on_way}
use Rattle.sl_model.specs.Turns.{GrowsAt, TakesTurns}
use Rattle.sl_model.specs.Putting.{putters_after}
use Rattle.sl_model.specs.Lamport.{Clocks, no_clocks, number_taken, number_of, clocks_after, numbers_on, lamport_numbers}
use Rattle.sl_world.specs.Scene.{Scene, Line, empty_line, line_at, put_at, put_each, line_put, new_line, without_first, done, turn_of, after_turn, after_all, run_of, first_scene}
use Rattle.sl_world.proofs.TurnLaws.{Takes, Acts, IsTurn, turn_is}
use Rattle.sl_world.proofs.RunLemmas.{after_all-push}
use Rattle.sl_merge.specs.Lamport.{unnumbered, time_in, times_of, lamport_numbers as clock_numbers}
use Rattle.sl_merge.proofs.GetLemmas.{slice_get-set_same, slice_get-set_other}
use Rattle.sl_merge.proofs.ForgettingLemmas.{seen, seen_line, turn-seen}
use Rattle.sl_merge.proofs.NumberLemmas.{time, state, stamp, message, plain, states-seen, lines-seen, first_at}
use Rattle.sl_proto.specs.Nodes.{NodeState, node_rules}
use Rattle.sl_proto.specs.Image.{tell, AreQueued, IsImage}
use Rattle.sl_proto.specs.Standing.{Case, IsImageOf, FirstNodes, scene_of}
use Rattle.sl_proto.proofs.Images.{drop-more, drop-longer, drop-get, link-in-is, link-in-none, wires-each}
use Rattle.sl_proto.specs.Meaning.{NodeStands}
use Rattle.sl_emul.proofs.Standing.{Image}

-- nodes with clocks, and what stands without these
abbrev Clocked : Type 0
Clocked = Scene (NodeState × ℕ) (Stamped Msg)

abbrev forget : Clocked → Scene NodeState Msg
forget v = seen state message v

-- Puts: what an entry adds to a link has its number.

abbrev Adds : ℕ → List (Line (Stamped Msg)) → List (Line (Stamped Msg)) → ℕ → Type 0
Adds n before after k = (j : ℕ) × (map stamp (line_at after k).queue ≡ map stamp (line_at before k).queue ++ replicate j n)

put-one : (lines : List (Line (Stamped Msg))) (q k n : ℕ) (m : Msg) → k < length lines → Adds n lines (put_at lines q (stamped n m)) k
put-one lines q k n m low = by_tells (eqb_tells k q)
  where
    on : (b : Bool) (queue : List (Stamped Msg)) → (j : ℕ) × (map stamp (if b then queue else queue ++ stamped n m ∷ []) ≡ map stamp queue ++ replicate j n)
    on true queue = (0, sym (append-nil (map stamp queue)))
    on false queue = (1, map-append stamp queue (stamped n m ∷ []))

    by_tells : ((nat_eq k q ≡ true) × (k ≡ q)) ⊎ ((nat_eq k q ≡ false) × (k ≡ q → ⊥)) → Adds n lines (put_at lines q (stamped n m)) k
    by_tells (inl e) =
        let x = line_put (line_at lines q) (stamped n m) in
        let here : line_at (slice_set lines q x) q ≡ x = get_or-set_same lines q x empty_line (subst (λ i. i < length lines) e.1 low) in
        let one = on (loses_next (line_at lines q).loss) (line_at lines q).queue in
        subst (Adds n lines (slice_set lines q x)) (sym e.1) (one.0, ap (λ (y : Line (Stamped Msg)). map stamp y.queue) here ∙ one.1)
    by_tells (inr e) =
        let x = line_put (line_at lines q) (stamped n m) in
        (0, ap (λ (y : Line (Stamped Msg)). map stamp y.queue) (get_or-set_other lines q k x empty_line e.1) ∙ sym (append-nil (map stamp (line_at lines k).queue)))

put-all : (place : ℕ → ℕ) (n : ℕ) (ps : List (ℕ × Msg)) (lines : List (Line (Stamped Msg))) (k : ℕ) → k < length lines → Adds n lines (put_each place (stamp_all n ps) lines) k
put-all place n [] lines k low = (0, sym (append-nil (map stamp (line_at lines k).queue)))
put-all place n (p ∷ ps) lines k low =
    let x = line_put (line_at lines (place p.0)) (stamped n p.1) in
    let one = put-one lines (place p.0) k n p.1 low in
    let rest = put-all place n ps (slice_set lines (place p.0) x) k (subst (λ i. k < i) (sym (length-set lines (place p.0) x)) low) in (
      one.0 + rest.0,
      rest.1 ∙ ap (λ xs. xs ++ replicate rest.0 n) one.1 ∙ append_assoc (map stamp (line_at lines k).queue) (replicate one.0 n) (replicate rest.0 n)
          ∙ ap (λ xs. map stamp (line_at lines k).queue ++ xs) (replicate-append-replicate one.0 rest.0 n),
    )

-- Links carry more and more.

without-grows : (lost : ℕ → Bool) (n : ℕ) (xs ys : List Message) → length (without_lost lost n xs) ≤ length (without_lost lost n (xs ++ ys))
without-grows lost n [] ys = omega arith
without-grows lost n (x ∷ xs) ys = by_bool (lost (suc n)) (without-grows lost (suc n) xs ys)
  where
    by_bool : (b : Bool) → length (without_lost lost (suc n) xs) ≤ length (without_lost lost (suc n) (xs ++ ys))
        → length (if b then without_lost lost (suc n) xs else x ∷ without_lost lost (suc n) xs) ≤ length (if b then without_lost lost (suc n) (xs ++ ys) else x ∷ without_lost lost (suc n) (xs ++ ys))
    by_bool true ih = ih
    by_bool false ih = omega (arith, ih)

queued-long : (net : Net) (sizes : Sizes) (us : ℕ → List Step) (a : ℕ) (told : ℕ → ℕ) (ms : List Message) (xs : List Msg) → AreQueued net sizes us a told ms xs → length xs ≡ length ms
queued-long net sizes us a told [] [] q = refl
queued-long net sizes us a told [] (x ∷ xs) q = absurd q
queued-long net sizes us a told (m ∷ ms) [] q = absurd q
queued-long net sizes us a told (m ∷ ms) (x ∷ xs) q = ap suc (queued-long net sizes us a (tell told m) ms xs q.1)

module _ (s : Setup) (lost : Losses) (sizes : Sizes) (Stands : World → ℕ → NodeState → Type 0) (ways : HasWays s.net) (sound : IsSound (plan_of s.net)) (turns : TakesTurns) where
  abbrev net : Net
  net = s.net

  abbrev took_from : World → ℕ → ℕ
  took_from w l = taken_by net l (receiver net w l)

  -- the clocks beside the machines show those of the definition
  pub record Ticks (w : World) (c : Clocks) (v : Clocked) : Type 0 where
    pub states : (a : ℕ) (y : NodeState × ℕ) → slice_get v.states a ≡ Some y → y.1 ≡ c.last a
    pub lines : (l : ℕ) → l < length net.links → map stamp (line_at v.lines l).queue ≡ drop (took_from w l) (c.putters l)
    pub within : (l : ℕ) → l < length net.links → took_from w l ≤ length (c.putters l)
    pub marks : (l : ℕ) → l < length net.links → length (c.putters l) ≡ length (carried net lost w l)

  long : (w : World) (v : Clocked) (l : ℕ) → IsImage s lost sizes Stands w (forget v) → l < length net.links → length (map stamp (line_at v.lines l).queue) ≡ length (carried net lost w l) - took_from w l
  long w v l image low =
      let seen_is : line_at (map (seen_line message) v.lines) l ≡ seen_line message (line_at v.lines l) = get_or-map (seen_line message) v.lines l empty_line in
      length-map (line_at v.lines l).queue stamp
      ∙ sym (length-map (line_at v.lines l).queue message)
      ∙ sym (ap (λ (y : Line Msg). length y.queue) seen_is)
      ∙ queued-long net sizes (history w) (link_of net l).from _ (on_way net lost w l) _ (image.lines l low).queue
      ∙ length-drop (took_from w l) (carried net lost w l)

  -- An entry that makes a step.
  module _ (w x : World) (e : Entry) (c : Clocks) (v u : Clocked) (t : Ticks w c v) (before : IsImage s lost sizes Stands w (forget v)) (after : IsImage s lost sizes Stands x (forget u))
      (step : Step) (grows : GrowsAt w x e.0 step) (choice : step.choice ≡ e.1) where
    abbrev Into : ℕ → Type 0
    Into l = slice_get (links_into net e.0) e.1 ≡ Some l

    counted : (l : ℕ) → l < length net.links → (Into l × (took_from x l ≡ suc (took_from w l))) ⊎ ((Into l → ⊥) × (took_from x l ≡ took_from w l))
    counted l low = by_actor (eqb_tells (link_of net l).to e.0)
      where
        by_choice : (link_of net l).to ≡ e.0 → ((nat_eq (choice_of net l) e.1 ≡ true) × (choice_of net l ≡ e.1)) ⊎ ((nat_eq (choice_of net l) e.1 ≡ false) × (choice_of net l ≡ e.1 → ⊥))
            → (Into l × (took_from x l ≡ suc (took_from w l))) ⊎ ((Into l → ⊥) × (took_from x l ≡ took_from w l))
        by_choice to (inl q) =
            let grown : history x (link_of net l).to ≡ step ∷ history w (link_of net l).to = ap (history x) to ∙ grows.same ∙ ap (λ b. step ∷ history w b) (sym to) in
            inl ((λ i. slice_get (links_into net (sym to i)) (sym q.1 i)) ∙ ways.taken l low, ap (taken (choice_of net l)) grown ∙ turns.counted (choice_of net l) step (history w (link_of net l).to) (choice ∙ sym q.1))
        by_choice to (inr q) =
            let grown : history x (link_of net l).to ≡ step ∷ history w (link_of net l).to = ap (history x) to ∙ grows.same ∙ ap (λ b. step ∷ history w b) (sym to) in
            inr (λ k. q.1 (ways.choice e.0 e.1 l k), ap (taken (choice_of net l)) grown ∙ turns.uncounted (choice_of net l) step (history w (link_of net l).to) (λ z. q.1 (sym z ∙ choice)))

        by_actor : ((nat_eq (link_of net l).to e.0 ≡ true) × ((link_of net l).to ≡ e.0)) ⊎ ((nat_eq (link_of net l).to e.0 ≡ false) × ((link_of net l).to ≡ e.0 → ⊥))
            → (Into l × (took_from x l ≡ suc (took_from w l))) ⊎ ((Into l → ⊥) × (took_from x l ≡ took_from w l))
        by_actor (inl q) = by_choice q.1 (eqb_tells (choice_of net l) e.1)
        by_actor (inr q) = inr (λ k. q.1 (ways.into e.0 e.1 l k).to, ap (taken (choice_of net l)) (grows.other (link_of net l).to q.1))

    carries : (l : ℕ) → length (carried net lost w l) ≤ length (carried net lost x l)
    carries l = by_actor (eqb_tells (link_of net l).from e.0)
      where
        by_actor : ((nat_eq (link_of net l).from e.0 ≡ true) × ((link_of net l).from ≡ e.0)) ⊎ ((nat_eq (link_of net l).from e.0 ≡ false) × ((link_of net l).from ≡ e.0 → ⊥))
            → length (carried net lost w l) ≤ length (carried net lost x l)
        by_actor (inl q) =
            let grown : history x (link_of net l).from ≡ step ∷ history w (link_of net l).from = ap (history x) q.1 ∙ grows.same ∙ ap (λ b. step ∷ history w b) (sym q.1) in
            subst (λ h. length (carried net lost w l) ≤ length (without_lost (lost l) 0 (put l h))) (sym grown) (without-grows (lost l) 0 (put l (history w (link_of net l).from)) _)
        by_actor (inr q) = let same = ap (λ h. length (without_lost (lost l) 0 (put l h))) (grows.other (link_of net l).from q.1) in omega (arith, same)

    -- the links before the entry's puts
    pub record Drawn (base : List (Line (Stamped Msg))) : Type 0 where
      pub each : length base ≡ length v.lines
      pub kept : (l : ℕ) → (Into l → ⊥) → line_at base l ≡ line_at v.lines l
      pub drawn : (l : ℕ) → Into l → (m : ℕ) × (map stamp (line_at v.lines l).queue ≡ m ∷ map stamp (line_at base l).queue)

    stamps : (base : List (Line (Stamped Msg))) → Drawn base → (l : ℕ) → l < length net.links
        → (map stamp (line_at base l).queue ≡ drop (took_from x l) (c.putters l)) × (took_from x l ≤ length (c.putters l))
    stamps base d l low = by_counted (counted l low)
      where
        by_counted : (Into l × (took_from x l ≡ suc (took_from w l))) ⊎ ((Into l → ⊥) × (took_from x l ≡ took_from w l))
            → (map stamp (line_at base l).queue ≡ drop (took_from x l) (c.putters l)) × (took_from x l ≤ length (c.putters l))
        by_counted (inl k) =
            let m = d.drawn l k.0 in let q : drop (took_from w l) (c.putters l) ≡ m.0 ∷ map stamp (line_at base l).queue = sym (t.lines l low) ∙ m.1 in (
              sym (drop-more (took_from w l) (c.putters l) m.0 (map stamp (line_at base l).queue) q) ∙ ap (λ n. drop n (c.putters l)) (sym k.1),
              subst (λ n. n ≤ length (c.putters l)) (sym k.1) (drop-longer (took_from w l) (c.putters l) m.0 (map stamp (line_at base l).queue) q),
            )
        by_counted (inr k) = (ap (λ (y : Line (Stamped Msg)). map stamp y.queue) (d.kept l k.0) ∙ t.lines l low ∙ ap (λ n. drop n (c.putters l)) (sym k.1), subst (λ n. n ≤ length (c.putters l)) (sym k.1) (t.within l low))

    lines-each : length v.lines ≡ length net.links
    lines-each = sym (length-map v.lines (seen_line message)) ∙ before.lines_each

    -- what is shown after it
    shows : (base : List (Line (Stamped Msg))) (n : ℕ) (b : After NodeState Msg) → Drawn base → u ≡ done v e.0 e.1 base (numbered_after n b) → n ≡ number_of s w c e → e.0 < length v.states
        → (time_in time (slice_get u.states e.0) ≡ number_of s w c e) × Ticks x (clocks_after net lost w x e (number_of s w c e) c) u
    shows base n b d is number low = (
      ap (λ (y : Clocked). time_in time (slice_get y.states e.0)) is ∙ ap (time_in time) (slice_get-set_same v.states e.0 (b.state, n) low) ∙ number,
      subst (λ k. Ticks x (clocks_after net lost w x e k c) u) number (record {
        states = λ a y here. by_actor a y (eqb_tells a e.0) (sym (ap (λ (z : Clocked). slice_get z.states a) is) ∙ here);
        lines = λ l m. fresh l m;
        within = λ l m. let k = (stamps base d l m).1 in let i = length-append (c.putters l) (replicate (length (carried net lost x l) - length (carried net lost w l)) n) in omega (arith, k, i);
        marks = λ l m. let i = length-append (c.putters l) (replicate (length (carried net lost x l) - length (carried net lost w l)) n) in
            let j = length-replicate (length (carried net lost x l) - length (carried net lost w l)) n in let k = t.marks l m in let g = carries l in omega (arith, i, j, k, g);
      }),
    )
      where
        by_actor : (a : ℕ) (y : NodeState × ℕ) → ((nat_eq a e.0 ≡ true) × (a ≡ e.0)) ⊎ ((nat_eq a e.0 ≡ false) × (a ≡ e.0 → ⊥)) → slice_get (slice_set v.states e.0 (b.state, n)) a ≡ Some y → y.1 ≡ (if nat_eq a e.0 then n else c.last a)
        by_actor a y (inl q) here =
            let z : Some (b.state, n) ≡ Some y = sym (slice_get-set_same v.states e.0 (b.state, n) low) ∙ ap (slice_get (slice_set v.states e.0 (b.state, n))) (sym q.1) ∙ here in
            ap (λ (r : NodeState × ℕ). r.1) (sym (same_Some (b.state, n) y z)) ∙ sym (ap (λ t. if t then n else c.last a) q.0)
        by_actor a y (inr q) here = t.states a y (sym (slice_get-set_other v.states e.0 a (b.state, n) (λ i. q.1 (sym i))) ∙ here) ∙ sym (ap (λ t. if t then n else c.last a) q.0)

        fresh : (l : ℕ) → l < length net.links → map stamp (line_at u.lines l).queue ≡ drop (took_from x l) (putters_after net lost w x n c.putters l)
        fresh l m =
            let from = stamps base d l m in
            let added = put-all (link_out v.plan.links e.0) n b.puts base l (subst (λ i. l < i) (sym (d.each ∙ lines-each)) m) in
            let queue : map stamp (line_at u.lines l).queue ≡ map stamp (line_at base l).queue ++ replicate added.0 n = ap (λ (y : Clocked). map stamp (line_at y.lines l).queue) is ∙ added.1 in
            let all : length (map stamp (line_at u.lines l).queue) ≡ length (carried net lost x l) - took_from x l = long x u l after m in
            let old : length (map stamp (line_at base l).queue) ≡ length (c.putters l) - took_from x l = ap length from.0 ∙ length-drop (took_from x l) (c.putters l) in
            let more : length (map stamp (line_at u.lines l).queue) ≡ length (map stamp (line_at base l).queue) + added.0 =
            ap length queue ∙ length-append (map stamp (line_at base l).queue) (replicate added.0 n) ∙ ap (λ k. length (map stamp (line_at base l).queue) + k) (length-replicate added.0 n) in
            let k = t.marks l m in let g = carries l in let i = from.1 in
            let count : added.0 ≡ length (carried net lost x l) - length (carried net lost w l) = omega (arith, all, old, more, k, g, i) in
            queue ∙ ap (λ ks. ks ++ replicate added.0 n) from.0 ∙ ap (λ j. drop (took_from x l) (c.putters l) ++ replicate j n) count
            ∙ sym (drop-append-le (took_from x l) (c.putters l) (replicate (length (carried net lost x l) - length (carried net lost w l)) n) from.1)

    -- it takes a message or acts
    pub ticks : turn_of (numbered node_rules) v e.0 e.1 ≡ Some u → (time_in time (slice_get u.states e.0) ≡ number_of s w c e) × Ticks x (clocks_after net lost w x e (number_of s w c e) c) u
    ticks did = by_link (slice_get (links_into net e.0) e.1) refl (turn_is (numbered node_rules) v e.0 e.1 u did)
      where
        links-each : length v.plan.links ≡ length net.links
        links-each = ap (λ p. length p.links) before.plan ∙ wires-each net

        at : (l : ℕ) → Into l → link_in v.plan.links e.0 e.1 ≡ l
        at l k = ap (λ p. link_in p.links e.0 e.1) before.plan ∙ link-in-is net ways e.0 e.1 l sound k

        by_link : (o : Option ℕ) → slice_get (links_into net e.0) e.1 ≡ o → IsTurn (numbered node_rules) v e.0 e.1 u → (time_in time (slice_get u.states e.0) ≡ number_of s w c e) × Ticks x (clocks_after net lost w x e (number_of s w c e) c) u
        by_link (Some l) k (inl r) =
            let y : Takes v e.0 e.1 = r.0 in
            let here : line_at v.lines l ≡ y.line = ap (line_at v.lines) (sym (at l k)) ∙ get_or_from_slice_get v.lines (link_in v.plan.links e.0 e.1) y.line empty_line y.line_is in
            let i = ways.into e.0 e.1 l k in
            let base : List (Line (Stamped Msg)) = slice_set v.lines (link_in v.plan.links e.0 e.1) (without_first y.line y.rest) in
            let base-is : base ≡ slice_set v.lines l (without_first y.line y.rest) = ap (λ j. slice_set v.lines j (without_first y.line y.rest)) (at l k) in
            let there : line_at base l ≡ without_first y.line y.rest = ap (λ ls. line_at ls l) base-is ∙ get_or-set_same v.lines l (without_first y.line y.rest) empty_line (subst (λ j. l < j) (sym lines-each) i.is_link) in
            let first : map stamp (line_at v.lines l).queue ≡ y.message.number ∷ map stamp (line_at base l).queue =
            ap (λ (z : Line (Stamped Msg)). map stamp z.queue) here ∙ ap (map stamp) y.queue_is ∙ ap (λ (z : Line (Stamped Msg)). y.message.number ∷ map stamp z.queue) (sym there) in
            let same : (j : ℕ) → Into j → l ≡ j = λ j into. same_Some l j (sym k ∙ into) in
            let put-by : y.message.number ≡ slice_index_or (c.putters l) (taken e.1 (history w e.0)) 0 =
            sym (get_or_from_slice_get (c.putters l) (took_from w l) y.message.number 0 (drop-get (took_from w l) (c.putters l) y.message.number (map stamp (line_at base l).queue) (sym (t.lines l i.is_link) ∙ first)))
            ∙ (λ j. slice_index_or (c.putters l) (taken (ways.choice e.0 e.1 l k j) (history w (i.to j))) 0) in
            let own = t.states e.0 y.state y.state_is in
            shows base (max y.state.1 y.message.number + 1) (node_rules.take y.state.0 e.1 y.message.m) (record {
              each = length-set v.lines (link_in v.plan.links e.0 e.1) (without_first y.line y.rest);
              kept = λ j no. ap (λ ls. line_at ls j) base-is ∙ get_or-set_other v.lines l j (without_first y.line y.rest) empty_line (λ q. no (k ∙ ap Some (sym q)));
              drawn = λ j into. subst (λ j. (m : ℕ) × (map stamp (line_at v.lines j).queue ≡ m ∷ map stamp (line_at base j).queue)) (same j into) (y.message.number, first);
            }) r.1 ((λ j. max (own j) (put-by j) + 1) ∙ ap (λ o. max (c.last e.0) (number_taken w c e o) + 1) (sym k)) (slice_get_within v.states e.0 y.state y.state_is)
        by_link (Some l) k (inr r) = let i = ways.into e.0 e.1 l k in let past = r.0.unlinked in let a = at l k in let b = i.is_link in absurd (omega (arith, past, a, b, links-each))
        by_link None k (inl r) =
            let past : length (plan_of net).links ≤ link_in (plan_of net).links e.0 e.1 = link-in-none net ways e.0 e.1 k in
            let low = subst (λ p. link_in p.links e.0 e.1 < length p.links) before.plan r.0.linked in absurd (omega (arith, past, low))
        by_link None k (inr r) =
            let y : Acts (numbered node_rules) v e.0 e.1 = r.0 in
            let b = acted y.state (node_rules.act y.state.0 e.1) y.after y.act_is in
            let own = t.states e.0 y.state y.state_is in
            let number : y.state.1 + 1 ≡ number_of s w c e = (let p : y.state.1 + 1 ≡ max (c.last e.0) 0 + 1 = omega (arith, own) in p) ∙ ap (λ o. max (c.last e.0) (number_taken w c e o) + 1) (sym k) in
            shows v.lines (y.state.1 + 1) b.0 (record { each = refl; kept = λ j no. refl; drawn = λ j into. absurd (none-some j (sym k ∙ into)) })
            (r.1 ∙ ap (done v e.0 e.1 v.lines) b.1) number (slice_get_within v.states e.0 y.state y.state_is)
          where
            none-some : (j : ℕ) → None ≡ Some j → ⊥
            none-some j q = absurd cc

            acted : (y : NodeState × ℕ) (o : Option (After NodeState Msg)) (a : After (NodeState × ℕ) (Stamped Msg)) → option_map (numbered_after (y.1 + 1)) o ≡ Some a → (b : After NodeState Msg) × (a ≡ numbered_after (y.1 + 1) b)
            acted y None a q = absurd cc
            acted y (Some b) a q = (b, sym (same_Some (numbered_after (y.1 + 1) b) a q))

-- Schedules.

abbrev first_clocks : (s : Setup) → List NodeState → List (Option Loss) → Clocked
first_clocks s states losses = first_scene (plan_of s.net) (unnumbered states) losses

module _ (x : Case) (f : FirstNodes x) (ways : HasWays x.setup.net) (turns : TakesTurns) (image : Image) where
  abbrev Shows : World → Clocks → Clocked → Type 0
  Shows w c v = Ticks x.setup x.lost (sizes_of x.table) (NodeStands x.setup x.table) ways f.runnable.sound turns w c v

  abbrev reached : List Entry → World
  reached es = world x.setup x.lost es

  begun : forget (first_clocks x.setup f.states f.losses) ≡ scene_of f
  begun = λ i. record { plan = plan_of x.setup.net; states = states-seen f.states i; lines = lines-seen Msg f.losses i; book = [] }

  none-taken : (l : ℕ) → taken_by x.setup.net l (receiver x.setup.net (reached []) l) ≡ 0
  none-taken l = ap (taken (choice_of x.setup.net l)) (turns.starts x.setup.net (link_of x.setup.net l).to)

  starts : Shows (reached []) no_clocks (first_clocks x.setup f.states f.losses)
  starts = record {
    states = λ a y here. ap (λ (z : NodeState × ℕ). z.1) (sym (first_at f.states a y here).2);
    lines = λ l low. ap (λ (y : Line (Stamped Msg)). map stamp y.queue) (get_or-map new_line f.losses l None) ∙ sym (ap (λ n. drop {A = ℕ} n []) (none-taken l));
    within = λ l low. let n = none-taken l in omega (arith, n);
    marks = λ l low. sym (ap (λ h. length (without_lost (x.lost l) 0 (put l h))) (turns.starts x.setup.net (link_of x.setup.net l).from));
  }

  from : (es fs : List Entry) (c : Clocks) (v : Clocked) (u : Scene NodeState Msg) → length es + length fs < 2 ^ 40 → forget v ≡ after_all node_rules (scene_of f) es → Shows (reached es) c v
      → IsLegalFrom x.setup x.lost (reached es) fs → run_of node_rules (forget v) fs ≡ Some u → times_of (numbered node_rules) time v fs ≡ numbers_on x.setup x.lost (reached es) c fs
  from es [] c v u few is t legal did = refl
  from es (e ∷ fs) c v u few is t legal did = by_turn (λ k y. from (es ++ e ∷ []) fs k y u) (turn_of (numbered node_rules) v e.0 e.1) refl (next_step x.setup x.lost (reached es) e) refl legal.0
    where
      seen-turn : turn_of node_rules (forget v) e.0 e.1 ≡ option_map forget (turn_of (numbered node_rules) v e.0 e.1)
      seen-turn = turn-seen state message (numbered node_rules) node_rules (plain node_rules) v e.0 e.1

      next : reached (es ++ e ∷ []) ≡ turn x.setup x.lost (reached es) e
      next = turns.parts x.setup x.lost (start x.setup.net) es (e ∷ [])

      nothing : IsSome {T = Step} None → ⊥
      nothing z = absurd cc

      Onward : Clocks → Clocked → Type 0
      Onward k y = length (es ++ e ∷ []) + length fs < 2 ^ 40 → forget y ≡ after_all node_rules (scene_of f) (es ++ e ∷ []) → Shows (reached (es ++ e ∷ [])) k y → IsLegalFrom x.setup x.lost (reached (es ++ e ∷ [])) fs
          → run_of node_rules (forget y) fs ≡ Some u → times_of (numbered node_rules) time y fs ≡ numbers_on x.setup x.lost (reached (es ++ e ∷ [])) k fs

      by_turn : ((k : Clocks) (y : Clocked) → Onward k y) → (o : Option Clocked) → turn_of (numbered node_rules) v e.0 e.1 ≡ o → (q : Option Step) → next_step x.setup x.lost (reached es) e ≡ q → IsSome q
          → times_of (numbered node_rules) time v (e ∷ fs) ≡ numbers_on x.setup x.lost (reached es) c (e ∷ fs)
      by_turn onward None idle q p some = absurd (none-ran (sym (ap (option_and_then (λ y. run_of node_rules y fs)) (seen-turn ∙ ap (option_map forget) idle)) ∙ did))
        where
          none-ran : None ≡ Some u → ⊥
          none-ran z = absurd cc
      by_turn onward (Some y) did_so None p some = absurd (nothing some)
      by_turn onward (Some y) did_so (Some step) p some =
          let turned : turn_of node_rules (forget v) e.0 e.1 ≡ Some (forget y) = seen-turn ∙ ap (option_map forget) did_so in
          let later : forget y ≡ after_all node_rules (scene_of f) (es ++ e ∷ []) =
          sym (after_all-push node_rules (scene_of f) es e ∙ ap (λ w. after_turn node_rules w e) (sym is) ∙ ap (λ o. unwrap_or o (forget v)) turned) in
          let one : length (es ++ e ∷ []) ≡ length es + 1 = length-append es (e ∷ []) in
          let before : IsImageOf x (reached es) (forget v) = subst (IsImageOf x (reached es)) (sym is) (image x f es (omega (arith, few))) in
          let after : IsImageOf x (turn x.setup x.lost (reached es) e) (forget y) =
          subst (λ w. IsImageOf x w (forget y)) next (subst (IsImageOf x (reached (es ++ e ∷ []))) (sym later) (image x f (es ++ e ∷ []) (omega (arith, few, one)))) in
          let tick = ticks x.setup x.lost (sizes_of x.table) (NodeStands x.setup x.table) ways f.runnable.sound turns (reached es) (turn x.setup x.lost (reached es) e) e c v y t before after
          step (turns.grows x.setup x.lost es e step p) (turns.choice x.setup x.lost (reached es) e step p) did_so in
          let clocks = clocks_after x.setup.net x.lost (reached es) (turn x.setup x.lost (reached es) e) e (number_of x.setup (reached es) c e) c in
          let rest = onward clocks y (omega (arith, few, one)) later (subst (λ w. Shows w clocks y) (sym next) tick.1) (subst (λ w. IsLegalFrom x.setup x.lost w fs) (sym next) legal.1)
          (sym (ap (option_and_then (λ z. run_of node_rules z fs)) turned) ∙ did) in
          ap (λ z. time_in time (slice_get z.states e.0) ∷ times_of (numbered node_rules) time z fs) (ap (λ o. unwrap_or o v) did_so)
          ∙ (λ i. tick.0 i ∷ rest i) ∙ ap (λ w. number_of x.setup (reached es) c e ∷ numbers_on x.setup x.lost w clocks fs) next

  pub clocks-are : (es : List Entry) (u : Scene NodeState Msg) → length es < 2 ^ 40 → IsLegal x.setup x.lost es → run_of node_rules (scene_of f) es ≡ Some u
      → clock_numbers node_rules (plan_of x.setup.net) f.states f.losses es ≡ lamport_numbers x.setup x.lost es
  clocks-are es u few legal did = from [] es no_clocks (first_clocks x.setup f.states f.losses) u (omega (arith, few)) begun starts legal (ap (λ w. run_of node_rules w es) begun ∙ did)
