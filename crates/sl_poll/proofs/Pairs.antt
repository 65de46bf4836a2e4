-- The pairs of a schedule tell of each data packet that was taken by which entries it was put and taken.
use Rattle.std.proofs.Common.{◌≡◌, ℕ, zero, suc, ◌+◌, ◌-◌, ◌<◌, ◌≤◌, ◌⊎◌, List, [], ◌∷◌, ◌++◌, length, get_or, replicate, refl, sym, ap, subst, ◌∙◌, Option, Some, None, arith, inl, inr, length-append}
use Rattle.std.specs.Prelude.{Bool, true, false, cond, slice_get, is_some, IsSome, IsTrue}
use Rattle.std.proofs.lemmas.Bool.{cases_lt}
use Rattle.std.proofs.lemmas.List.{get_or_append_left, get_or-replicate, length-replicate}
use Rattle.std.proofs.Math.Seq.{get_or-append_right}
use Rattle.std.proofs.lemmas.Option.{slice_get_within, slice_get-get_or, get_or_from_slice_get}
use Rattle.sl_parts.specs.Lists.{Member}
use Rattle.sl_parts.proofs.Lists.{member-left, member-right, member-parts}
use Rattle.sl_layout.specs.Net.{Net, link_of, links_into}
use Rattle.sl_net.specs.declared.input.Packet.{Packet}
use Rattle.sl_net.proofs.Sorts.{is-into}
use Rattle.sl_model.specs.declared.message.Message.{Message}
use Rattle.sl_model.specs.declared.message.Step.{Step}
use Rattle.sl_model.specs.History.{World, Losses, history, taken}
use Rattle.sl_model.specs.Matching.{is_data}
use Rattle.sl_model.specs.Setup.{Setup}
use Rattle.sl_model.specs.World.{Entry, next_step, turn, run}
use Rattle.sl_poll.specs.declared.trail.Pair.{Pair}
use Rattle.sl_model.specs.Putting.{Putters, putters_after}
use Rattle.sl_poll.specs.Trail.{packet_in, pair_from, pair_by, pairs_from}
use Rattle.sl_poll.proofs.Moves.{Sized, sized-turn, reach, took, bore, Next, Other, moved, took-reach, bore-rises, bore-run}

-- the entries that put what a link carried in the end
abbrev pub putters_end : Setup → Losses → World → ℕ → Putters → List Entry → ℕ → List ℕ
putters_end s lost w n putters [] l = putters l
putters_end s lost w n putters (e ∷ es) l = putters_end s lost (turn s lost w e) (suc n) (putters_after s.net lost w (turn s lost w e) n putters) es l

-- an element of a list that goes on
got-left : {A : Type 0} (xs ys : List A) (i : ℕ) (x : A) → slice_get xs i ≡ Some x → slice_get (xs ++ ys) i ≡ Some x
got-left xs ys i x q = let within = slice_get_within xs i x q in
    slice_get-get_or (xs ++ ys) i x (omega (arith, within, length-append xs ys)) ∙ ap Some (get_or_append_left xs ys x i within ∙ get_or_from_slice_get xs i x x q)

module _ (s : Setup) (lost : Losses) (l : ℕ) (link : l < length s.net.links) where
  -- the putters of the link are as many as the messages that it carried, and come before the entry n
  pub record Fits (w : World) (n : ℕ) (putters : Putters) : Type 0 where
    pub size : length (putters l) ≡ length (bore s lost l link w)
    pub early : (j : ℕ) → j < length (putters l) → get_or (putters l) j 0 < n

  fits-turn : (w : World) (n : ℕ) (putters : Putters) (e : Entry) → Sized s w → Fits w n putters → Fits (turn s lost w e) (suc n) (putters_after s.net lost w (turn s lost w e) n putters)
  fits-turn w n putters e z f = record { size = size; early = early }
    where
      new : List ℕ
      new = replicate (length (bore s lost l link (turn s lost w e)) - length (bore s lost l link w)) n

      count : length new ≡ length (bore s lost l link (turn s lost w e)) - length (bore s lost l link w)
      count = length-replicate (length (bore s lost l link (turn s lost w e)) - length (bore s lost l link w)) n

      size : length (putters l ++ new) ≡ length (bore s lost l link (turn s lost w e))
      size = omega (arith, length-append (putters l) new, count, f.size, bore-rises s lost l link w e z)

      early : (j : ℕ) → j < length (putters l ++ new) → get_or (putters l ++ new) j 0 < suc n
      early j h = go (cases_lt j (length (putters l)))
        where
          go : (j < length (putters l)) ⊎ (length (putters l) ≤ j) → get_or (putters l ++ new) j 0 < suc n
          go (inl k) = let p = get_or_append_left (putters l) new 0 j k in omega (arith, p, f.early j k)
          go (inr k) = let p = get_or-append_right (putters l) new j 0 k in
              let q : get_or new (j - length (putters l)) 0 ≡ n = get_or-replicate (length (bore s lost l link (turn s lost w e)) - length (bore s lost l link w)) (j - length (putters l)) n 0 (omega (arith, h, k, length-append (putters l) new, count)) in
              omega (arith, p, q)

  -- what was put first stays first
  stays : (w : World) (n : ℕ) (putters : Putters) (es : List Entry) (j : ℕ) → j < length (putters l) → get_or (putters_end s lost w n putters es l) j 0 ≡ get_or (putters l) j 0
  stays w n putters [] j h = refl
  stays w n putters (e ∷ es) j h =
      let new = replicate (length (bore s lost l link (turn s lost w e)) - length (bore s lost l link w)) n in
      stays (turn s lost w e) (suc n) (putters_after s.net lost w (turn s lost w e) n putters) es j (omega (arith, h, length-append (putters l) new))
      ∙ get_or_append_left (putters l) new 0 j h

  -- what is put from the entry n on has a putter from n on
  late : (w : World) (n : ℕ) (putters : Putters) (es : List Entry) (j : ℕ) → Sized s w → Fits w n putters → length (bore s lost l link w) ≤ j → j < length (bore s lost l link (run s lost w es))
      → n ≤ get_or (putters_end s lost w n putters es l) j 0
  late w n putters [] j z f a h = absurd (omega (arith, a, h))
  late w n putters (e ∷ es) j z f a h = go (cases_lt j (length (bore s lost l link (turn s lost w e))))
      (λ b. late (turn s lost w e) (suc n) (putters_after s.net lost w (turn s lost w e) n putters) es j (sized-turn s lost w e z) (fits-turn w n putters e z f) b h)
    where
      new : List ℕ
      new = replicate (length (bore s lost l link (turn s lost w e)) - length (bore s lost l link w)) n

      go : (j < length (bore s lost l link (turn s lost w e))) ⊎ (length (bore s lost l link (turn s lost w e)) ≤ j)
          → (length (bore s lost l link (turn s lost w e)) ≤ j → suc n ≤ get_or (putters_end s lost w n putters (e ∷ es) l) j 0) → n ≤ get_or (putters_end s lost w n putters (e ∷ es) l) j 0
      go (inl b) later = let q = stays (turn s lost w e) (suc n) (putters_after s.net lost w (turn s lost w e) n putters) es j (omega (arith, b, (fits-turn w n putters e z f).size)) in
          let p = get_or-append_right (putters l) new j 0 (omega (arith, a, f.size)) in
          let r : get_or new (j - length (putters l)) 0 ≡ n = get_or-replicate (length (bore s lost l link (turn s lost w e)) - length (bore s lost l link w)) (j - length (putters l)) n 0 (omega (arith, a, b, f.size)) in
          omega (arith, p, q, r)
      go (inr b) later = omega (arith, later b)

  -- a message was carried after the first k entries exactly where its putter is one of these, or an earlier one
  pub put-by : (w : World) (n : ℕ) (putters : Putters) (es : List Entry) (j k : ℕ) → Sized s w → Fits w n putters → j < length (bore s lost l link (run s lost w es))
      → get_or (putters_end s lost w n putters es l) j 0 < n + k → j < length (bore s lost l link (reach s lost w k es))
  put-by w n putters [] j k z f h p = h
  put-by w n putters (e ∷ es) j zero z f h p = go (cases_lt j (length (bore s lost l link w)))
    where
      go : (j < length (bore s lost l link w)) ⊎ (length (bore s lost l link w) ≤ j) → j < length (bore s lost l link w)
      go (inl a) = a
      go (inr a) = absurd (omega (arith, p, late w n putters (e ∷ es) j z f a h))
  put-by w n putters (e ∷ es) j (suc k) z f h p =
      put-by (turn s lost w e) (suc n) (putters_after s.net lost w (turn s lost w e) n putters) es j k (sized-turn s lost w e z) (fits-turn w n putters e z f) h (omega (arith, p))

  pub by-put : (w : World) (n : ℕ) (putters : Putters) (es : List Entry) (j k : ℕ) → Sized s w → Fits w n putters → j < length (bore s lost l link (reach s lost w k es))
      → get_or (putters_end s lost w n putters es l) j 0 < n + k
  by-put w n putters [] j k z f h = omega (arith, f.early j (omega (arith, h, f.size)))
  by-put w n putters (e ∷ es) j zero z f h = let q = stays w n putters (e ∷ es) j (omega (arith, h, f.size)) in omega (arith, q, f.early j (omega (arith, h, f.size)))
  by-put w n putters (e ∷ es) j (suc k) z f h =
      let r = by-put (turn s lost w e) (suc n) (putters_after s.net lost w (turn s lost w e) n putters) es j k (sized-turn s lost w e z) (fits-turn w n putters e z f) h in omega (arith, r)

  -- Pairs.

  -- the pair of the j-th message, taken in the first k entries
  pub record Told (w : World) (n : ℕ) (putters : Putters) (es : List Entry) (j k : ℕ) : Type 0 where
    pub pair : Pair
    pub is_in : Member pair (pairs_from s lost w n putters es)
    pub of_link : pair.link ≡ l
    pub take : pair.take < n + k
    pub put : pair.put ≡ get_or (putters_end s lost w n putters es l) j 0

  some-packet : (o : Option Packet) → IsSome o → (p : Packet) × (o ≡ Some p)
  some-packet None h = absurd cc
  some-packet (Some p) h = (p, refl)

  -- what the entry that takes the next message tells
  tells : (w : World) (n : ℕ) (putters : Putters) (e : Entry) → IsTrue (is_data (link_of s.net l).sort) → (t : Next s lost l link w e) → IsSome (packet_in (Some t.message))
      → pair_by s.net w n putters e (slice_get (links_into s.net e.0) e.1) (next_step s lost w e) ≡ record { link = l; put = get_or (putters l) (took s lost l link w) 0; take = n } ∷ []
  tells w n putters e carries t h = let p = some-packet (packet_in (Some t.message)) h in
      let packet : packet_in t.step.taken ≡ Some p.0 = ap packet_in t.takes ∙ p.1 in
      ap (λ o. pair_by s.net w n putters e o (next_step s lost w e)) t.into ∙ ap (pair_by s.net w n putters e (Some l)) t.makes
      ∙ ap (λ o. pair_from s.net n (putters l) l (taken e.1 (history w e.0)) o) packet
      ∙ ap (λ b. cond b (record { link = l; put = get_or (putters l) (taken e.1 (history w e.0)) 0; take = n } ∷ []) []) carries
      ∙ ap (λ i. record { link = l; put = get_or (putters l) i 0; take = n } ∷ []) t.place

  pub told : (w : World) (n : ℕ) (putters : Putters) (es : List Entry) (j k : ℕ) → IsTrue (is_data (link_of s.net l).sort) → Sized s w → Fits w n putters
      → took s lost l link w ≤ j → j < took s lost l link (reach s lost w k es) → IsSome (packet_in (slice_get (bore s lost l link (run s lost w es)) j)) → Told w n putters es j k
  told w n putters [] j k carries z f a b h = absurd (omega (arith, a, b))
  told w n putters (e ∷ es) j zero carries z f a b h = absurd (omega (arith, a, b))
  told w n putters (e ∷ es) j (suc k) carries z f a b h = go (moved s lost l link w e z) (cases_lt j (took s lost l link (turn s lost w e)))
      (λ c. told (turn s lost w e) (suc n) (putters_after s.net lost w (turn s lost w e) n putters) es j k carries (sized-turn s lost w e z) (fits-turn w n putters e z f) c b h)
    where
      here : List Pair
      here = pair_by s.net w n putters e (slice_get (links_into s.net e.0) e.1) (next_step s lost w e)

      rest : List Pair
      rest = pairs_from s lost (turn s lost w e) (suc n) (putters_after s.net lost w (turn s lost w e) n putters) es

      onward : Told (turn s lost w e) (suc n) (putters_after s.net lost w (turn s lost w e) n putters) es j k → Told w n putters (e ∷ es) j (suc k)
      onward t = record { pair = t.pair; is_in = member-right t.pair here rest t.is_in; of_link = t.of_link; take = omega (arith, t.take); put = t.put }

      first : (t : Next s lost l link w e) → j < took s lost l link (turn s lost w e) → Told w n putters (e ∷ es) j (suc k)
      first t c = let place : j ≡ took s lost l link w = omega (arith, a, c, t.more) in
          let g = bore-run s lost l link w (e ∷ es) z in
          let found : slice_get (bore s lost l link (run s lost w (e ∷ es))) j ≡ Some t.message = ap (slice_get (bore s lost l link (run s lost w (e ∷ es)))) place ∙ ap (λ ms. slice_get ms (took s lost l link w)) g.1
          ∙ got-left (bore s lost l link w) g.0 (took s lost l link w) t.message t.found in
          let is = tells w n putters e carries t (subst (λ (o : Option Message). IsSome (packet_in o)) found h) in
          let pair : Pair = record { link = l; put = get_or (putters l) (took s lost l link w) 0; take = n } in
          let within = slice_get_within (bore s lost l link w) (took s lost l link w) t.message t.found in
          record {
            pair = pair;
            is_in = member-left pair here rest (subst (Member pair) (sym is) (inl refl));
            of_link = refl;
            take = omega arith;
            put = ap (λ i. get_or (putters l) i 0) (sym place) ∙ sym (stays w n putters (e ∷ es) j (omega (arith, place, within, f.size)));
          }

      go : Next s lost l link w e ⊎ Other s lost l link w e → (j < took s lost l link (turn s lost w e)) ⊎ (took s lost l link (turn s lost w e) ≤ j)
          → (took s lost l link (turn s lost w e) ≤ j → Told (turn s lost w e) (suc n) (putters_after s.net lost w (turn s lost w e) n putters) es j k) → Told w n putters (e ∷ es) j (suc k)
      go (inl t) (inl c) later = first t c
      go (inr o) (inl c) later = absurd (omega (arith, a, c, o.same))
      go t (inr c) later = onward (later c)

-- What a pair tells.

-- the pair of an entry
pub record PairView (net : Net) (w : World) (n : ℕ) (putters : Putters) (e : Entry) (o : Option ℕ) (st : Option Step) (pair : Pair) : Type 0 where
  pub link : ℕ
  pub into : o ≡ Some link
  pub step : Step
  pub makes : st ≡ Some step
  pub packet : Packet
  pub packet_is : packet_in step.taken ≡ Some packet
  pub carries : IsTrue (is_data (link_of net link).sort)
  pub is : pair ≡ record { link = link; put = get_or (putters link) (taken e.1 (history w e.0)) 0; take = n }

pair-view : (net : Net) (w : World) (n : ℕ) (putters : Putters) (e : Entry) (o : Option ℕ) (st : Option Step) (pair : Pair) → Member pair (pair_by net w n putters e o st) → PairView net w n putters e o st pair
pair-view net w n putters e None st pair m = absurd m
pair-view net w n putters e (Some l) None pair m = absurd m
pair-view net w n putters e (Some l) (Some step) pair m = by_packet (packet_in step.taken) refl m
  where
    by_data : (p : Packet) → packet_in step.taken ≡ Some p → (b : Bool) → is_data (link_of net l).sort ≡ b
        → Member pair (cond b (record { link = l; put = get_or (putters l) (taken e.1 (history w e.0)) 0; take = n } ∷ []) []) → PairView net w n putters e (Some l) (Some step) pair
    by_data p q true d (inl x) = record { link = l; into = refl; step = step; makes = refl; packet = p; packet_is = q; carries = d; is = x }
    by_data p q true d (inr x) = absurd x
    by_data p q false d x = absurd x

    by_packet : (o : Option Packet) → packet_in step.taken ≡ o → Member pair (pair_from net n (putters l) l (taken e.1 (history w e.0)) o) → PairView net w n putters e (Some l) (Some step) pair
    by_packet None q x = absurd x
    by_packet (Some p) q x = by_data p q (is_data (link_of net l).sort) refl x

-- each pair is of a data channel
pub record OfChannel (net : Net) (pair : Pair) : Type 0 where
  pub link : pair.link < length net.links
  pub carries : IsTrue (is_data (link_of net pair.link).sort)

pub of_channel : (s : Setup) (lost : Losses) (w : World) (n : ℕ) (putters : Putters) (es : List Entry) (pair : Pair) → Member pair (pairs_from s lost w n putters es) → OfChannel s.net pair
of_channel s lost w n putters [] pair m = absurd m
of_channel s lost w n putters (e ∷ es) pair m = go (of_channel s lost (turn s lost w e) (suc n) (putters_after s.net lost w (turn s lost w e) n putters) es pair)
    (member-parts pair (pair_by s.net w n putters e (slice_get (links_into s.net e.0) e.1) (next_step s lost w e)) _ m)
  where
    go : (Member pair (pairs_from s lost (turn s lost w e) (suc n) (putters_after s.net lost w (turn s lost w e) n putters) es) → OfChannel s.net pair)
        → Member pair (pair_by s.net w n putters e (slice_get (links_into s.net e.0) e.1) (next_step s lost w e))
        ⊎ Member pair (pairs_from s lost (turn s lost w e) (suc n) (putters_after s.net lost w (turn s lost w e) n putters) es) → OfChannel s.net pair
    go ih (inl x) = let v = pair-view s.net w n putters e (slice_get (links_into s.net e.0) e.1) (next_step s lost w e) pair x in
        let is : pair.link ≡ v.link = ap (λ (p : Pair). p.link) v.is in
        record {
          link = subst (λ k. k < length s.net.links) (sym is) (is-into s.net e.0 e.1 v.link v.into).is_link;
          carries = subst (λ k. IsTrue (is_data (link_of s.net k).sort)) (sym is) v.carries;
        }
    go ih (inr x) = ih x

module _ (s : Setup) (lost : Losses) (l : ℕ) (link : l < length s.net.links) where
  -- a pair of the link is that of a data packet, which was taken when its entry says
  pub record Sound (w : World) (n : ℕ) (putters : Putters) (es : List Entry) (pair : Pair) : Type 0 where
    pub place : ℕ
    pub carried : place < length (bore s lost l link (run s lost w es))
    pub packet : IsSome (packet_in (slice_get (bore s lost l link (run s lost w es)) place))
    pub put : pair.put ≡ get_or (putters_end s lost w n putters es l) place 0
    pub from : n ≤ pair.take
    pub take : (k : ℕ) → pair.take < n + k → place < took s lost l link (reach s lost w k es)

  pub sound : (w : World) (n : ℕ) (putters : Putters) (es : List Entry) (pair : Pair) → Sized s w → Fits s lost l link w n putters → Member pair (pairs_from s lost w n putters es) → pair.link ≡ l
      → Sound w n putters es pair
  sound w n putters [] pair z f m q = absurd m
  sound w n putters (e ∷ es) pair z f m q = go
      (λ x. sound (turn s lost w e) (suc n) (putters_after s.net lost w (turn s lost w e) n putters) es pair (sized-turn s lost w e z) (fits-turn s lost l link w n putters e z f) x q)
      (member-parts pair (pair_by s.net w n putters e (slice_get (links_into s.net e.0) e.1) (next_step s lost w e)) _ m)
    where
      later : Sound (turn s lost w e) (suc n) (putters_after s.net lost w (turn s lost w e) n putters) es pair → Sound w n putters (e ∷ es) pair
      later t = record { place = t.place; carried = t.carried; packet = t.packet; put = t.put; from = omega (arith, t.from); take = take }
        where
          take : (k : ℕ) → pair.take < n + k → t.place < took s lost l link (reach s lost w k (e ∷ es))
          take zero h = absurd (omega (arith, h, t.from))
          take (suc k) h = t.take k (omega (arith, h))

      here : PairView s.net w n putters e (slice_get (links_into s.net e.0) e.1) (next_step s lost w e) pair → Next s lost l link w e ⊎ Other s lost l link w e → Sound w n putters (e ∷ es) pair
      here v (inl t) = record { place = took s lost l link w; carried = carried; packet = packet; put = put; from = omega (arith, at); take = take }
        where
          is : v.link ≡ l
          is = sym (ap (λ (p : Pair). p.link) v.is) ∙ q

          at : pair.take ≡ n
          at = ap (λ (p : Pair). p.take) v.is

          within : took s lost l link w < length (bore s lost l link w)
          within = slice_get_within (bore s lost l link w) (took s lost l link w) t.message t.found

          carried : took s lost l link w < length (bore s lost l link (run s lost w (e ∷ es)))
          carried = let g = bore-run s lost l link w (e ∷ es) z in omega (arith, within, ap length g.1, length-append (bore s lost l link w) g.0)

          found : slice_get (bore s lost l link (run s lost w (e ∷ es))) (took s lost l link w) ≡ Some t.message
          found = let g = bore-run s lost l link w (e ∷ es) z in
              ap (λ ms. slice_get ms (took s lost l link w)) g.1 ∙ got-left (bore s lost l link w) g.0 (took s lost l link w) t.message t.found

          packet : IsSome (packet_in (slice_get (bore s lost l link (run s lost w (e ∷ es))) (took s lost l link w)))
          packet = let same : v.step ≡ t.step = (let x : Some v.step ≡ Some t.step = sym v.makes ∙ t.makes in cc) in
              let told : packet_in (Some t.message) ≡ Some v.packet = ap packet_in (sym t.takes) ∙ ap (λ (st : Step). packet_in st.taken) (sym same) ∙ v.packet_is in
              ap is_some (ap packet_in found ∙ told)

          put : pair.put ≡ get_or (putters_end s lost w n putters (e ∷ es) l) (took s lost l link w) 0
          put = ap (λ (p : Pair). p.put) v.is ∙ ap (λ k. get_or (putters k) (taken e.1 (history w e.0)) 0) is ∙ ap (λ i. get_or (putters l) i 0) t.place
              ∙ sym (stays s lost l link w n putters (e ∷ es) (took s lost l link w) (omega (arith, within, f.size)))

          take : (k : ℕ) → pair.take < n + k → took s lost l link w < took s lost l link (reach s lost w k (e ∷ es))
          take zero h = absurd (omega (arith, h, at))
          take (suc k) h = let r = took-reach s lost l link (turn s lost w e) k es (sized-turn s lost w e z) in omega (arith, r, t.more)
      here v (inr o) = let is : v.link ≡ l = sym (ap (λ (p : Pair). p.link) v.is) ∙ q in
          let idle = o.idle (v.into ∙ ap Some is) in
          absurd (let x : None ≡ Some v.step = sym idle ∙ v.makes in cc)

      go : (Member pair (pairs_from s lost (turn s lost w e) (suc n) (putters_after s.net lost w (turn s lost w e) n putters) es) → Sound (turn s lost w e) (suc n) (putters_after s.net lost w (turn s lost w e) n putters) es pair)
          → Member pair (pair_by s.net w n putters e (slice_get (links_into s.net e.0) e.1) (next_step s lost w e))
          ⊎ Member pair (pairs_from s lost (turn s lost w e) (suc n) (putters_after s.net lost w (turn s lost w e) n putters) es) → Sound w n putters (e ∷ es) pair
      go ih (inl x) = here (pair-view s.net w n putters e (slice_get (links_into s.net e.0) e.1) (next_step s lost w e) pair x) (moved s lost l link w e z)
      go ih (inr x) = later (ih x)
