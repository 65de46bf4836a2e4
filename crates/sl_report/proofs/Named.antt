-- Texts that are read piece by piece, words, numbers, and what stands before a byte that they lack; the texts of units and of their data channels,
-- which name them; and how many hosts a net has.
use Rattle.std.proofs.Common.{◌≡◌, ℕ, zero, suc, ◌+◌, ◌<◌, ◌^◌, ◌/◌, ◌%◌, List, [], ◌∷◌, ◌++◌, length, Bool, true, false, refl, ap, ◌∙◌, arith, ◌-◌, ◌≤◌, get_or, map, not, Some, sym, subst, ◌⊎◌, inl, inr, append_assoc}
use Rattle.std.proofs.lemmas.List.{append_cancel_left, append-nil, get_or-map, get_or_past, length-map}
use Rattle.std.proofs.lemmas.Bool.{lt-ltb, and_parts, cases_lt}
use Rattle.std.proofs.lemmas.Fmt.{decimal_injective}
use Rattle.std.specs.Prelude.{decimal, ◌==◌, if◌then◌else◌, codes, slice_get, slice_index_or, cond, filter, flat_map}
use Rattle.std.specs.Fmt.{digits, digits_onto, digit_glyph}
use Rattle.std.specs.List.{All, list_all, range_with_len}
use Rattle.std.proofs.lemmas.List.Elements.{All-head, All-tail}
use Rattle.std.proofs.lemmas.Option.{slice_get_within, get_or_from_slice_get}
use Rattle.std.proofs.lemmas.List.FromFn.{length-range_with_len}
use Rattle.sl_parts.specs.Lists.{Each}
use Rattle.sl_net.proofs.Texts.{part_at}
use Rattle.sl_parts.specs.Parts.{Parts, below, used_ports}
use Rattle.sl_parts.specs.Text.{IsName, is_name_byte}
use Rattle.sl_parts.proofs.Lists.{each-append, each-below, each-both, each-imp, each-index, each-at, one-place, distinct-append, distinct-filter, distinct-from, each-of, each-flat, numbers-suc, filter-map, Distinct}
use Rattle.sl_layout.specs.declared.actor.Side.{Side}
use Rattle.sl_layout.specs.declared.actor.Side.TheVariants.{Ingress, Egress}
use Rattle.sl_layout.specs.declared.actor.UnitId.{UnitId}
use Rattle.sl_layout.specs.declared.actor.ActorId.{ActorId}
use Rattle.sl_layout.specs.declared.actor.ActorId.TheVariants.{Observer, Control, Unit as OfUnit, Host as OfHost}
use Rattle.sl_layout.specs.declared.actor.Sort.{Sort}
use Rattle.sl_layout.specs.declared.actor.Sort.TheVariants.{Cable, Crossbar}
use Rattle.sl_layout.specs.Net.{Net, actor_of, link_of, link_at, links_into, action_choice, choices_of, choice_of, is_unit, units, data_channels, net_of, nobody, ingress, egress, units_of, actors_of, is_host, hosts}
use Rattle.sl_net.specs.Spelling.{device_name, side_text, actor_text, port_of, link_text, action_text, choice_word, HasChoice}
use Rattle.sl_net.specs.Spelled.{HasOneSpelling}
use Rattle.sl_net.specs.Ways.{IsChoice}
use Rattle.sl_net.specs.Wired.{IsWired}
use Rattle.sl_model.specs.Findings.{channel_links}
use Rattle.sl_net.specs.Names.{HasNames}
use Rattle.sl_report.specs.Report.{port_text, unit_or_none, unit_text, unit_at, sort_text, channel_text, channel_at}
use Rattle.sl_report.specs.Sayable.{IsUnitPlace}
use Rattle.sl_layout.proofs.Sorts.{by_sort}

-- the byte doesn't stand in the text
abbrev pub Lacks : ℕ → List ℕ → Type 0
Lacks c text = Each (λ b. b ≡ c → ⊥) text

-- digits lie from 48 on
digit_lacks : (c d : ℕ) → c < 48 → d < 10 → digit_glyph false d ≡ c → ⊥
digit_lacks c d low h e = let g : digit_glyph false d ≡ 48 + d = ap (λ b. if b then 48 + d else (if false then 55 + d else 87 + d)) (lt-ltb d 10 h) in omega (arith, g, e, low)

onto_lacks : (c k n : ℕ) (acc : List ℕ) → c < 48 → Lacks c acc → Lacks c (digits_onto k 10 false n acc)
onto_lacks c zero n acc low h = h
onto_lacks c (suc k) n acc low h = go (n / 10 == 0) (digit_lacks c (n % 10) low (omega arith), h) (λ more. onto_lacks c k (n / 10) (digit_glyph false (n % 10) ∷ acc) low more)
  where
    go : (b : Bool) → Lacks c (digit_glyph false (n % 10) ∷ acc) → (Lacks c (digit_glyph false (n % 10) ∷ acc) → Lacks c (digits_onto k 10 false (n / 10) (digit_glyph false (n % 10) ∷ acc)))
        → Lacks c (if b then digit_glyph false (n % 10) ∷ acc else digits_onto k 10 false (n / 10) (digit_glyph false (n % 10) ∷ acc))
    go true more on = more
    go false more on = on more

pub decimal_lacks : (c n : ℕ) → c < 48 → Lacks c (decimal n)
unfolding digits
decimal_lacks c n low = onto_lacks c 64 n [] low tt

-- a number before a byte that is no digit
pub number_before : (c m n : ℕ) (r s : List ℕ) → c < 48 → m < 2 ^ 64 → n < 2 ^ 64 → decimal m ++ c ∷ r ≡ decimal n ++ c ∷ s → (m ≡ n) × (r ≡ s)
number_before c m n r s low h k e = let p = part_at c (decimal m) (decimal n) r s (decimal_lacks c m low) (decimal_lacks c n low) e in (decimal_injective m n h k p.0, p.1)

-- Lines of numbers, each after a word of its own.

-- the numbers after their words, a newline, and what follows
abbrev pub worded : List (List ℕ) → List ℕ → List ℕ → List ℕ
worded (w ∷ ws) (n ∷ ns) rest = w ++ (decimal n ++ worded ws ns rest)
worded _ _ rest = 10 ∷ rest

abbrev pub BeginsLow : List ℕ → Type 0
BeginsLow [] = ⊥
BeginsLow (b ∷ bs) = b < 48

abbrev pub AreSmall : List ℕ → Type 0
AreSmall ns = Each (λ n. n < 2 ^ 64) ns

-- each word after the first begins with no digit
abbrev pub AreWords : List (List ℕ) → Type 0
AreWords [] = Unit {0}
AreWords (w ∷ ws) = Each BeginsLow ws

-- a word that begins low, or a newline, stands behind each number
pub worded_told : (ws : List (List ℕ)) (ns ms r s : List ℕ) → AreWords ws → AreSmall ns → AreSmall ms → length ns ≡ length ws → length ms ≡ length ws → worded ws ns r ≡ worded ws ms s → (ns ≡ ms) × (r ≡ s)
worded_told [] [] [] r s w h k p q e = (refl, cc)
worded_told [] [] (m ∷ ms) r s w h k p q e = absurd (omega (arith, q))
worded_told [] (n ∷ ns) ms r s w h k p q e = absurd (omega (arith, p))
worded_told (w ∷ ws) [] ms r s ww h k p q e = absurd (omega (arith, p))
worded_told (w ∷ ws) (n ∷ ns) [] r s ww h k p q e = absurd (omega (arith, q))
worded_told (w ∷ []) (n ∷ []) (m ∷ []) r s ww h k p q e =
    let t = number_before 10 n m r s (omega arith) h.0 k.0 (append_cancel_left w _ _ e) in
    (ap (λ x. x ∷ []) t.0, t.1)
worded_told (w ∷ []) (n ∷ []) (m ∷ (l ∷ ms)) r s ww h k p q e = absurd (omega (arith, q))
worded_told (w ∷ []) (n ∷ (l ∷ ns)) (m ∷ ms) r s ww h k p q e = absurd (omega (arith, p))
worded_told (w ∷ ([] ∷ ws)) (n ∷ ns) (m ∷ ms) r s ww h k p q e = absurd (ww.0)
worded_told (w ∷ ((b ∷ v) ∷ ws)) (n ∷ []) (m ∷ ms) r s ww h k p q e = absurd (omega (arith, p))
worded_told (w ∷ ((b ∷ v) ∷ ws)) (n ∷ (l ∷ ns)) (m ∷ []) r s ww h k p q e = absurd (omega (arith, q))
worded_told (w ∷ ((b ∷ v) ∷ ws)) (n ∷ (l ∷ ns)) (m ∷ (j ∷ ms)) r s ww h k p q e =
    let t = number_before b n m (v ++ (decimal l ++ worded ws ns r)) (v ++ (decimal j ++ worded ws ms s)) ww.0 h.0 k.0 (append_cancel_left w _ _ e) in
    let o = worded_told (v ∷ ws) (l ∷ ns) (j ∷ ms) r s ww.1 h.1 k.1 (omega (arith, p)) (omega (arith, q)) t.1 in
    (ap (λ x. x ∷ l ∷ ns) t.0 ∙ ap (λ xs. m ∷ xs) o.0, o.1)

-- a text of codes, whose bytes are told apart from another by computing
pub lacks_of_test : (c : ℕ) (text : List ℕ) → list_all (λ b. not (b == c)) text ≡ true → Lacks c text
lacks_of_test c [] k = tt
lacks_of_test c (x ∷ xs) k = let p = and_parts (not (x == c)) (list_all (λ b. not (b == c)) xs) k in
    ((λ e. let z : true ≡ not (c == c) = sym p.0 ∙ ap (λ (m : ℕ). not (m == c)) e in absurd (grind (arith, z))), lacks_of_test c xs p.1)

lacks_name : (c : ℕ) (name : List ℕ) → is_name_byte c ≡ false → list_all is_name_byte name ≡ true → Lacks c name
lacks_name c [] h k = tt
lacks_name c (x ∷ xs) h k = let p = and_parts (is_name_byte x) (list_all is_name_byte xs) k in
    ((λ e. let z : true ≡ false = sym p.0 ∙ ap is_name_byte e ∙ h in cc), lacks_name c xs h p.1)

named_at : {A : Type 0} (name : A → List ℕ) (c : ℕ) (xs : List A) (i : ℕ) → is_name_byte c ≡ false → All (λ x. IsName (name x)) xs → Lacks c (slice_index_or (map name xs) i [])
named_at name c [] i h all = tt
named_at name c (x ∷ xs) zero h all = lacks_name c (name x) h (All-head (λ x. IsName (name x)) x xs all).each
named_at name c (x ∷ xs) (suc i) h all = named_at name c xs i h (All-tail (λ x. IsName (name x)) x xs all)

side_lacks : (s : Side) → Lacks 46 (side_text s)
side_lacks Ingress = lacks_of_test 46 (codes "in") refl
side_lacks Egress = lacks_of_test 46 (codes "out") refl

-- a channel's text has no space, and doesn't begin as the word id
pub sort_lacks : (s : Sort) (q : ℕ) → Lacks 32 (sort_text s q)
sort_lacks s q = by_sort (λ t. Lacks 32 (sort_text t q)) numbered numbered (lacks_of_test 32 (codes "cable") refl) numbered numbered numbered numbered numbered numbered numbered s
  where
    numbered : Lacks 32 (codes "x" ++ decimal q)
    numbered = each-append (λ b. b ≡ 32 → ⊥) (codes "x") (decimal q) (lacks_of_test 32 (codes "x") refl) (decimal_lacks 32 q (omega arith))

pub sort_begins : (s : Sort) (q : ℕ) (r : List ℕ) → get_or (sort_text s q ++ r) 0 0 ≡ 105 → ⊥
sort_begins s q r = by_sort (λ t. get_or (sort_text t q ++ r) 0 0 ≡ 105 → ⊥) (λ e. omega (arith, e)) (λ e. omega (arith, e)) (λ e. omega (arith, e)) (λ e. omega (arith, e)) (λ e. omega (arith, e)) (λ e. omega (arith, e)) (λ e. omega (arith, e)) (λ e. omega (arith, e)) (λ e. omega (arith, e)) (λ e. omega (arith, e)) s

-- a device's side and name, before the port
abbrev before_port : Parts → UnitId → List ℕ
before_port parts u = side_text u.side ++ (codes " " ++ device_name parts u.device)

text_parts : (parts : Parts) (u : UnitId) (rest : List ℕ) → actor_text parts (OfUnit u) ++ rest ≡ before_port parts u ++ 46 ∷ (decimal u.port ++ rest)
text_parts parts u rest = simp append_assoc

module _ (net : Net) where
  -- an actor that is a unit
  pub record IsUnitOf (u : ℕ) : Type 0 where
    pub id : UnitId
    pub is : actor_of net u ≡ OfUnit id
    pub within : u < length net.actors

  is_one : (a : ActorId) → is_unit a ≡ true → (i : UnitId) × (a ≡ OfUnit i)
  is_one (OfUnit i) h = (i, refl)
  is_one Observer h = absurd (cc)
  is_one (Control d) h = absurd (cc)
  is_one (OfHost i) h = absurd (cc)

  pub each_unit : Each IsUnitOf (units net)
  each_unit = each-imp (λ u. (u < length net.actors) × (is_unit (actor_of net u) ≡ true)) IsUnitOf (units net)
      (λ u h. let i = is_one (actor_of net u) h.1 in record { id = i.0; is = i.1; within = h.0 })
      (each-both (λ u. u < length net.actors) (λ u. is_unit (actor_of net u)) (below (length net.actors)) (each-below (λ u. u < length net.actors) (length net.actors) (λ u h. h)))

module _ (net : Net) (wired : IsWired net) (names : HasNames net.parts) (spelled : HasOneSpelling net) where
  -- a choice that takes from a link is spelled by it
  word_of : (a c l : ℕ) → slice_get (links_into net a) c ≡ Some l → choice_word net a c ≡ link_text net.parts (actor_of net (link_of net l).from) (link_of net l).sort
  word_of a c l h =
      ap (λ b. if b then link_text net.parts (actor_of net (link_of net (link_at net a c)).from) (link_of net (link_at net a c)).sort else action_text (actor_of net a) (c - action_choice net a))
      (lt-ltb c (action_choice net a) (slice_get_within (links_into net a) c l h))
      ∙ ap (λ k. link_text net.parts (actor_of net (link_of net k).from) (link_of net k).sort) (get_or_from_slice_get (links_into net a) c l 0 h)

  has_choice : (a c l : ℕ) → a < length net.actors → slice_get (links_into net a) c ≡ Some l → HasChoice net a c
  has_choice a c l within h = record { actor = within; choice = omega (arith, slice_get_within (links_into net a) c l h) }

  -- Units.

  unit_here : (place : ℕ) → place < length (units net) → IsUnitOf net (unit_at net place)
  unit_here place h = each-index (IsUnitOf net) (units net) place 0 (each_unit net) h

  text_is : (u : ℕ) (h : IsUnitOf net u) → unit_text net u ≡ actor_text net.parts (OfUnit h.id)
  unfolding port_text
  text_is u h = ap (unit_or_none net.parts) h.is

  -- the choice that takes the unit's polls
  record Polled (u : ℕ) : Type 0 where
    pub choice : ℕ
    pub has : HasChoice net u choice
    pub word : choice_word net u choice ≡ codes "poll"

  polled : (u : ℕ) → IsUnitOf net u → Polled u
  polled u h = let r = wired.reports u h.id h.is in record {
    choice = choice_of net r.poll;
    has = has_choice u (choice_of net r.poll) r.poll h.within r.poll_taken;
    word = word_of u (choice_of net r.poll) r.poll r.poll_taken ∙ ap (link_text net.parts (actor_of net (link_of net r.poll).from)) r.poll_sort;
  }

  port_lacks : (u : UnitId) → Lacks 46 (before_port net.parts u)
  port_lacks u = each-append (λ b. b ≡ 46 → ⊥) (side_text u.side) (codes " " ++ device_name net.parts u.device) (side_lacks u.side)
      (each-append (λ b. b ≡ 46 → ⊥) (codes " ") (device_name net.parts u.device) (lacks_of_test 46 (codes " ") refl) (named_at (λ part. part.name) 46 net.parts.devices u.device refl names.devices))

  same_text : (u v : UnitId) (r s : List ℕ) → actor_text net.parts (OfUnit u) ++ 32 ∷ r ≡ actor_text net.parts (OfUnit v) ++ 32 ∷ s
      → (actor_text net.parts (OfUnit u) ++ [] ≡ actor_text net.parts (OfUnit v) ++ []) × (r ≡ s)
  same_text u v r s e =
      let a = part_at 46 (before_port net.parts u) (before_port net.parts v) (decimal u.port ++ 32 ∷ r) (decimal v.port ++ 32 ∷ s) (port_lacks u) (port_lacks v)
      (sym (text_parts net.parts u (32 ∷ r)) ∙ e ∙ text_parts net.parts v (32 ∷ s)) in
      let b = part_at 32 (decimal u.port) (decimal v.port) r s (decimal_lacks 32 u.port (omega arith)) (decimal_lacks 32 v.port (omega arith)) a.1 in
      (text_parts net.parts u [] ∙ ap (λ t. t ++ 46 ∷ (decimal u.port ++ [])) a.0 ∙ ap (λ t. before_port net.parts v ++ 46 ∷ (t ++ [])) b.0 ∙ sym (text_parts net.parts v []), b.1)

  one_actor : (u v : ℕ) (h : IsUnitOf net u) (k : IsUnitOf net v) → actor_text net.parts (OfUnit h.id) ≡ actor_text net.parts (OfUnit k.id) → u ≡ v
  one_actor u v h k e =
      let p = polled u h in
      let q = polled v k in
      let t : actor_text net.parts (actor_of net u) ≡ actor_text net.parts (actor_of net v) = ap (actor_text net.parts) h.is ∙ e ∙ sym (ap (actor_text net.parts) k.is) in
      (spelled.one u p.choice v q.choice p.has q.has
      (ap (λ a. a ++ (codes " " ++ choice_word net u p.choice)) t ∙ ap (λ w. actor_text net.parts (actor_of net v) ++ (codes " " ++ w)) (p.word ∙ sym q.word))).0

  -- the unit that a text begins with, and what follows it
  pub unit_told : (i j : ℕ) (r s : List ℕ) → IsUnitPlace net i → IsUnitPlace net j → unit_text net (unit_at net i) ++ 32 ∷ r ≡ unit_text net (unit_at net j) ++ 32 ∷ s → (i ≡ j) × (r ≡ s)
  unit_told i j r s h k e = go (cases_lt 0 (length (units net)))
    where
      after : i ≡ j → r ≡ s
      after p = let t : 32 ∷ r ≡ 32 ∷ s = append_cancel_left (unit_text net (unit_at net i)) (32 ∷ r) (32 ∷ s) (e ∙ ap (λ n. unit_text net (unit_at net n) ++ 32 ∷ s) (sym p)) in cc

      go : (0 < length (units net)) ⊎ (length (units net) ≤ 0) → (i ≡ j) × (r ≡ s)
      go (inr none) = let p : i ≡ j = omega (arith, h, k, none) in (p, after p)
      go (inl some) =
          let x : i < length (units net) = omega (arith, h, some) in
          let y : j < length (units net) = omega (arith, k, some) in
          let u = unit_here i x in
          let v = unit_here j y in
          let t = same_text u.id v.id r s (ap (λ t. t ++ 32 ∷ r) (sym (text_is (unit_at net i) u)) ∙ e ∙ ap (λ t. t ++ 32 ∷ s) (text_is (unit_at net j) v)) in
          let same : actor_text net.parts (OfUnit u.id) ≡ actor_text net.parts (OfUnit v.id) = sym (append-nil _) ∙ t.0 ∙ append-nil _ in (
            one-place (units net) i j 0 (distinct-filter (λ a. is_unit (actor_of net a)) (below (length net.actors)) (distinct-from 0 (length net.actors))) x y
                (one_actor (unit_at net i) (unit_at net j) u v same),
            t.1,
          )

  -- a unit is an actor, and so is what stands for it where there is none
  pub place_within : (i : ℕ) → IsUnitPlace net i → unit_at net i < length net.actors
  place_within i h = go (cases_lt 0 (length (units net)))
    where
      observer : 0 < length net.actors
      observer = wired.ways.within 0 Observer wired.observer (λ e. cc)

      go : (0 < length (units net)) ⊎ (length (units net) ≤ 0) → unit_at net i < length net.actors
      go (inl some) = (unit_here i (omega (arith, h, some))).within
      go (inr none) = subst (λ n. n < length net.actors) (sym (get_or_past (units net) i 0 (omega (arith, none)))) observer

  -- Data channels.

  record IsChannel (u c : ℕ) : Type 0 where
    pub into : slice_get (links_into net u) c ≡ Some (link_at net u c)
    pub text : channel_text net (link_at net u c) ≡ choice_word net u c

  cable : (u c : ℕ) → IsChoice net u Cable c → IsChannel u c
  cable u c h = let from = actor_of net (link_of net (link_at net u c)).from in
      record { into = h.into; text = ap (λ t. sort_text t (port_of from)) h.sort ∙ sym (ap (link_text net.parts from) h.sort) ∙ sym (word_of u c (link_at net u c) h.into) }

  crossbar : (u c : ℕ) → IsChoice net u Crossbar c → IsChannel u c
  crossbar u c h = let from = actor_of net (link_of net (link_at net u c)).from in
      record { into = h.into; text = ap (λ t. sort_text t (port_of from)) h.sort ∙ sym (ap (link_text net.parts from) h.sort) ∙ sym (word_of u c (link_at net u c) h.into) }

  each_channel : (u : ℕ) → Each (IsChannel u) (data_channels net u)
  each_channel u = each-append (IsChannel u) (choices_of net u Cable) (choices_of net u Crossbar)
      (each-imp (IsChoice net u Cable) (IsChannel u) (choices_of net u Cable) (cable u) (wired.ways.choices u Cable))
      (each-imp (IsChoice net u Crossbar) (IsChannel u) (choices_of net u Crossbar) (crossbar u) (wired.ways.choices u Crossbar))

  distinct_choices : (u : ℕ) (s : Sort) → Distinct (choices_of net u s)
  distinct_choices u s = distinct-filter _ (below (length (links_into net u))) (distinct-from 0 (length (links_into net u)))

  distinct_channels : (u : ℕ) → Distinct (data_channels net u)
  distinct_channels u = distinct-append (choices_of net u Cable) (choices_of net u Crossbar) (distinct_choices u Cable) (distinct_choices u Crossbar)
      (λ c m n. let e : Cable ≡ Crossbar = sym (each-at (IsChoice net u Cable) c (choices_of net u Cable) (wired.ways.choices u Cable) m).sort
      ∙ (each-at (IsChoice net u Crossbar) c (choices_of net u Crossbar) (wired.ways.choices u Crossbar) n).sort in cc)

  -- a unit has one data channel of a text
  pub channel_told : (u i j : ℕ) → u < length net.actors → i < length (channel_links net u) → j < length (channel_links net u) → channel_at net u i ≡ channel_at net u j → i ≡ j
  channel_told u i j within h k e =
      let p : i < length (data_channels net u) = omega (arith, h, length-map (data_channels net u) (link_at net u)) in
      let q : j < length (data_channels net u) = omega (arith, k, length-map (data_channels net u) (link_at net u)) in
      let c = get_or (data_channels net u) i 0 in
      let d = get_or (data_channels net u) j 0 in
      let x = each-index (IsChannel u) (data_channels net u) i 0 (each_channel u) p in
      let y = each-index (IsChannel u) (data_channels net u) j 0 (each_channel u) q in
      let w : choice_word net u c ≡ choice_word net u d = sym x.text ∙ ap (channel_text net) (sym (get_or-map (link_at net u) (data_channels net u) i 0 0 p)) ∙ e
      ∙ ap (channel_text net) (get_or-map (link_at net u) (data_channels net u) j 0 0 q) ∙ y.text in
      one-place (data_channels net u) i j 0 (distinct_channels u) p q
      (spelled.one u c u d (has_choice u c (link_at net u c) within x.into) (has_choice u d (link_at net u d) within y.into) (ap (λ w. actor_text net.parts (actor_of net u) ++ (codes " " ++ w)) w)).1

  -- where a space stands behind the text
  pub channel_before : (u i j : ℕ) (r s : List ℕ) → u < length net.actors → i < length (channel_links net u) → j < length (channel_links net u) → channel_at net u i ++ 32 ∷ r ≡ channel_at net u j ++ 32 ∷ s → (i ≡ j) × (r ≡ s)
  channel_before u i j r s within h k e = let p = part_at 32 (channel_at net u i) (channel_at net u j) r s (sort_lacks _ _) (sort_lacks _ _) e in (channel_told u i j within h k p.0, p.1)

-- Hosts: as many among a net's actors as among its parts.

-- the places of the elements that pass are as many as these
places : {A : Type 0} (p : A → Bool) (xs : List A) (d : A) → length (filter (λ i. p (get_or xs i d)) (below (length xs))) ≡ length (filter p xs)
places p [] d = refl
places p (x ∷ xs) d = go (p x)
    (ap (λ ns. length (filter (λ i. p (get_or (x ∷ xs) i d)) ns)) (numbers-suc 0 (length xs)) ∙ ap length (filter-map (λ i. p (get_or (x ∷ xs) i d)) suc (below (length xs)))
    ∙ length-map (filter (λ i. p (get_or xs i d)) (below (length xs))) suc ∙ places p xs d)
  where
    go : (b : Bool) → length (filter (λ i. p (get_or (x ∷ xs) i d)) (range_with_len 1 (length xs))) ≡ length (filter p xs)
        → length (cond b (0 ∷ filter (λ i. p (get_or (x ∷ xs) i d)) (range_with_len 1 (length xs))) (filter (λ i. p (get_or (x ∷ xs) i d)) (range_with_len 1 (length xs)))) ≡ length (cond b (x ∷ filter p xs) (filter p xs))
    go true e = ap suc e
    go false e = e

filter-none : {A : Type 0} (p : A → Bool) (xs ys : List A) → Each (λ x. p x ≡ false) xs → filter p (xs ++ ys) ≡ filter p ys
filter-none p [] ys h = refl
filter-none p (x ∷ xs) ys h = ap (λ b. cond b (x ∷ filter p (xs ++ ys)) (filter p (xs ++ ys))) h.0 ∙ filter-none p xs ys h.1

all_hosts : (ns : List ℕ) → length (filter is_host (map OfHost ns)) ≡ length ns
all_hosts [] = refl
all_hosts (n ∷ ns) = ap suc (all_hosts ns)

no_hosts : (parts : Parts) → Each (λ a. is_host a ≡ false) (flat_map (λ d. Control d ∷ units_of parts d) (below (length parts.devices)))
no_hosts parts = each-flat (λ a. is_host a ≡ false) (λ d. Control d ∷ units_of parts d) (below (length parts.devices))
    (each-of (λ d. Each (λ a. is_host a ≡ false) (Control d ∷ units_of parts d)) (below (length parts.devices))
    (λ d m. (
      refl,
      each-flat (λ a. is_host a ≡ false) (λ p. ingress d p ∷ egress d p ∷ []) (used_ports parts d)
          (each-of (λ p. Each (λ a. is_host a ≡ false) (ingress d p ∷ egress d p ∷ [])) (used_ports parts d) (λ p k. (refl, (refl, tt)))),
    )))

pub host_count : (net : Net) → net ≡ net_of net.parts → length (hosts net) ≡ length net.parts.hosts
host_count net made = ap (λ (n : Net). length (hosts n)) made ∙ places is_host (actors_of net.parts) nobody
    ∙ ap length (filter-none is_host (flat_map (λ d. Control d ∷ units_of net.parts d) (below (length net.parts.devices))) (map OfHost (below (length net.parts.hosts))) (no_hosts net.parts))
    ∙ all_hosts (below (length net.parts.hosts)) ∙ length-range_with_len 0 (length net.parts.hosts)
