-- Whole readings are consistent cuts of data packets, and broken ones are none.
use Rattle.std.proofs.Common.{◌≡◌, ℕ, suc, ◌<◌, ◌≤◌, ◌⊎◌, List, [], ◌∷◌, ◌++◌, length, take, drop, refl, sym, ap, subst, ◌∙◌, Option, Some, None, arith, inl, inr}
use Rattle.std.specs.Prelude.{Bool, true, false, cond, ◌&&◌, nat_le, nat_lt, slice_get, find, IsSome}
use Rattle.std.proofs.lemmas.Bool.Decides.{leb_tells}
use Rattle.std.proofs.lemmas.Option.{slice_get_within}
use Rattle.std.proofs.lemmas.List.{take-append-drop}
use Rattle.sl_parts.specs.Lists.{Member}
use Rattle.sl_layout.specs.Net.{link_of, unit_place, choice_of}
use Rattle.sl_model.specs.declared.message.Message.{Message}
use Rattle.sl_model.specs.History.{Losses, history, first, taken, carried_by}
use Rattle.sl_model.specs.Setup.{Setup}
use Rattle.sl_model.specs.World.{Entry, start, world}
use Rattle.sl_model.specs.Turns.{TakesTurns}
use Rattle.sl_model.proofs.Cuts.Prefixes.{first-all}
use Rattle.sl_poll.specs.declared.trail.Pair.{Pair}
use Rattle.sl_model.specs.Putting.{no_putters}
use Rattle.sl_poll.specs.Trail.{packet_in, pairs}
use Rattle.sl_poll.specs.Reading.{read_after, breaks, broken_by}
use Rattle.sl_poll.specs.DataCut.{IsDataCut, steps_read}
use Rattle.sl_poll.proofs.Moves.{sized-start, reach, reach-is, took, bore}
use Rattle.sl_poll.proofs.Pairs.{Fits, put-by, by-put, told, OfChannel, of_channel, Sound, sound}

abbrev pub OnlyGrow : Type 0
OnlyGrow = (s : Setup) (lost : Losses) (es fs : List Entry) (a n : ℕ) → n ≤ length (history (world s lost es) a)
    → first n (history (world s lost (es ++ fs)) a) ≡ first n (history (world s lost es) a)

module _ (law : OnlyGrow) (turns : TakesTurns) (s : Setup) (lost : Losses) (es : List Entry) (begin gap : ℕ) where
  abbrev at : ℕ → ℕ
  at a = read_after (length es) begin gap (unit_place s.net a)

  -- the steps that were read of an actor are those of the first entries
  read-first : (a : ℕ) → first (steps_read s lost es begin gap a) (history (world s lost es) a) ≡ history (world s lost (take (at a) es)) a
  read-first a = let h = history (world s lost (take (at a) es)) a in
      ap (λ xs. first (length h) (history (world s lost xs) a)) (sym (take-append-drop (at a) es))
      ∙ law s lost (take (at a) es) (drop (at a) es) a (length h) (omega arith) ∙ first-all (length h) h (omega arith)

  -- what was read of the two ends of a link
  takes-are : (l : ℕ) (link : l < length s.net.links)
      → taken (choice_of s.net l) (first (steps_read s lost es begin gap (link_of s.net l).to) (history (world s lost es) (link_of s.net l).to))
      ≡ took s lost l link (reach s lost (start s.net) (at (link_of s.net l).to) es)
  takes-are l link = let v = (link_of s.net l).to in
      ap (taken (choice_of s.net l)) (read-first v) ∙ ap (λ w. taken (choice_of s.net l) (history w v)) (sym (reach-is s lost (start s.net) (at v) es))

  puts-are : (l : ℕ) (link : l < length s.net.links)
      → length (carried_by lost l (first (steps_read s lost es begin gap (link_of s.net l).from) (history (world s lost es) (link_of s.net l).from)))
      ≡ length (bore s lost l link (reach s lost (start s.net) (at (link_of s.net l).from) es))
  puts-are l link = let u = (link_of s.net l).from in
      ap (λ h. length (carried_by lost l h)) (read-first u) ∙ ap (λ w. length (carried_by lost l (history w u))) (sym (reach-is s lost (start s.net) (at u) es))

  fits-start : (l : ℕ) (link : l < length s.net.links) → Fits s lost l link (start s.net) 1 no_putters
  fits-start l link = record { size = sym (ap (λ h. length (carried_by lost l h)) (turns.starts s.net (link_of s.net l).from)); early = λ j h. absurd (omega (arith, h)) }

  none-took : (l : ℕ) (link : l < length s.net.links) → took s lost l link (start s.net) ≡ 0
  none-took l link = ap (taken (choice_of s.net l)) (turns.starts s.net (link_of s.net l).to)

  -- a packet has a place among the messages
  within : (ms : List Message) (n : ℕ) → IsSome (packet_in (slice_get ms n)) → n < length ms
  within ms n h = go (slice_get ms n) refl h
    where
      go : (o : Option Message) → slice_get ms n ≡ o → IsSome (packet_in o) → n < length ms
      go None q k = absurd cc
      go (Some m) q k = slice_get_within ms n m q

  passes : (p : Pair) → breaks s.net (length es) begin gap p ≡ false → p.take ≤ at (link_of s.net p.link).to → p.put ≤ at (link_of s.net p.link).from
  passes p b h = go (leb_tells p.take (at (link_of s.net p.link).to)) (leb_tells (suc (at (link_of s.net p.link).from)) p.put)
    where
      go : ((nat_le p.take (at (link_of s.net p.link).to) ≡ true) × (p.take ≤ at (link_of s.net p.link).to)) ⊎ ((nat_le p.take (at (link_of s.net p.link).to) ≡ false) × (at (link_of s.net p.link).to < p.take))
          → ((nat_lt (at (link_of s.net p.link).from) p.put ≡ true) × (at (link_of s.net p.link).from < p.put)) ⊎ ((nat_lt (at (link_of s.net p.link).from) p.put ≡ false) × (p.put < suc (at (link_of s.net p.link).from)))
          → p.put ≤ at (link_of s.net p.link).from
      go (inl x) (inl y) = absurd (let k : true ≡ false = sym (ap (λ t. t && nat_lt (at (link_of s.net p.link).from) p.put) x.0 ∙ y.0) ∙ b in cc)
      go (inl x) (inr y) = omega (arith, y.1)
      go (inr x) y = absurd (omega (arith, h, x.1))

  not_found : (f : Pair → Bool) (xs : List Pair) → find f xs ≡ None → (p : Pair) → Member p xs → f p ≡ false
  not_found f [] q p m = absurd m
  not_found f (x ∷ xs) q p m = go (not_found f xs) (f x) refl q m
    where
      go : (find f xs ≡ None → (p : Pair) → Member p xs → f p ≡ false) → (b : Bool) → f x ≡ b → cond b (Some x) (find f xs) ≡ None → (p ≡ x) ⊎ Member p xs → f p ≡ false
      go ih true r k m = absurd cc
      go ih false r k (inl e) = ap f e ∙ r
      go ih false r k (inr m) = ih k p m

  found : (f : Pair → Bool) (xs : List Pair) (p : Pair) → find f xs ≡ Some p → Member p xs × (f p ≡ true)
  found f [] p q = absurd cc
  found f (x ∷ xs) p q = go (found f xs p) (f x) refl q
    where
      go : (find f xs ≡ Some p → Member p xs × (f p ≡ true)) → (b : Bool) → f x ≡ b → cond b (Some x) (find f xs) ≡ Some p → Member p (x ∷ xs) × (f p ≡ true)
      go ih true r k = let e : x ≡ p = cc in (inl (sym e), ap f (sym e) ∙ r)
      go ih false r k = let m = ih k in (inr m.0, m.1)

  pub whole : broken_by s lost es begin gap ≡ None → IsDataCut s.net lost (world s lost es) (steps_read s lost es begin gap)
  whole none l n channel packet taken_in =
      let link = channel.link in
      let u = (link_of s.net l).from in
      let v = (link_of s.net l).to in
      let t = told s lost l link (start s.net) 1 no_putters es n (at v) channel.data_sort (sized-start s) (fits-start l link) (omega (arith, none-took l link))
      (omega (arith, taken_in, takes-are l link)) packet in
      let passed = not_found (breaks s.net (length es) begin gap) (pairs s lost es) none t.pair t.is_in in
      let early = passes t.pair passed (subst (λ k. t.pair.take ≤ at (link_of s.net k).to) (sym t.of_link) (omega (arith, t.take))) in
      let before : t.pair.put ≤ at u = subst (λ k. t.pair.put ≤ at (link_of s.net k).from) t.of_link early in
      let put = put-by s lost l link (start s.net) 1 no_putters es n (at u) (sized-start s) (fits-start l link) (within (bore s lost l link (world s lost es)) n packet) (omega (arith, before, t.put)) in
      omega (arith, put, puts-are l link)

  pub no_cut : (p : Pair) → broken_by s lost es begin gap ≡ Some p → IsDataCut s.net lost (world s lost es) (steps_read s lost es begin gap) → ⊥
  no_cut p broken cut =
      let f = found (breaks s.net (length es) begin gap) (pairs s lost es) p broken in
      let channel = of_channel s lost (start s.net) 1 no_putters es p f.0 in
      let l = p.link in
      let link = channel.link in
      let x = sound s lost l link (start s.net) 1 no_putters es p (sized-start s) (fits-start l link) f.0 refl in
      go f.1 channel x
    where
      go : breaks s.net (length es) begin gap p ≡ true → (channel : OfChannel s.net p) → Sound s lost p.link channel.link (start s.net) 1 no_putters es p → ⊥
      go b channel x = by_tests (leb_tells p.take (at (link_of s.net p.link).to)) (leb_tells (suc (at (link_of s.net p.link).from)) p.put)
        where
          broke : p.take ≤ at (link_of s.net p.link).to → at (link_of s.net p.link).from < p.put → ⊥
          broke h k =
              let link = channel.link in
              let taken_in = x.take (at (link_of s.net p.link).to) (omega (arith, h)) in
              let put = cut p.link x.place (record { link = channel.link; data_sort = channel.carries }) x.packet (omega (arith, taken_in, takes-are p.link link)) in
              let early = by-put s lost p.link link (start s.net) 1 no_putters es x.place (at (link_of s.net p.link).from) (sized-start s) (fits-start p.link link) (omega (arith, put, puts-are p.link link)) in
              omega (arith, early, k, x.put)

          by_tests : ((nat_le p.take (at (link_of s.net p.link).to) ≡ true) × (p.take ≤ at (link_of s.net p.link).to)) ⊎ ((nat_le p.take (at (link_of s.net p.link).to) ≡ false) × (at (link_of s.net p.link).to < p.take))
              → ((nat_lt (at (link_of s.net p.link).from) p.put ≡ true) × (at (link_of s.net p.link).from < p.put)) ⊎ ((nat_lt (at (link_of s.net p.link).from) p.put ≡ false) × (p.put < suc (at (link_of s.net p.link).from))) → ⊥
          by_tests (inl y) (inl z) = broke y.1 z.1
          by_tests (inl y) (inr z) = let k : true ≡ false = sym b ∙ (ap (λ t. t && nat_lt (at (link_of s.net p.link).from) p.put) y.0 ∙ z.0) in absurd cc
          by_tests (inr y) z = let k : true ≡ false = sym b ∙ ap (λ t. t && nat_lt (at (link_of s.net p.link).from) p.put) y.0 in absurd cc
