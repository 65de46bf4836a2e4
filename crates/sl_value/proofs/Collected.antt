-- In a finished world each control plane keeps the value of each snapshot that is issued and not pending.
use Rattle.std.proofs.Common.{◌≡◌, ℕ, suc, ◌-◌, ◌<◌, ◌≤◌, List, [], ◌∷◌, ◌++◌, map, refl, sym, ap, subst, ◌∙◌, Option, Some, None, arith, inl, inr}
use Rattle.std.specs.Prelude.{Bool, true, false, cond, ◌==◌, nat_eq, nat_le, min, ◌⊎◌, slice_get, IsTrue}
use Rattle.std.specs.List.{fold, range_with_len}
use Rattle.std.proofs.lemmas.Bool.{lt-ltb, le-ltb, le-leb, lt-leb, cases_lt, ne_eqb}
use Rattle.std.proofs.lemmas.Bool.Decides.{eqb_tells}
use Rattle.std.proofs.lemmas.List.{map-append}
use Rattle.std.proofs.lemmas.Option.{slice_get_read}
use Rattle.std.proofs.lemmas.List.FromFn.{get_or-map-range_with_len, length-map-range_with_len}
use Rattle.sl_parts.specs.Lists.{Each, Member}
use Rattle.sl_layout.specs.declared.actor.ActorId.TheVariants.{Unit as OfUnit}
use Rattle.sl_layout.specs.declared.actor.UnitId.{UnitId}
use Rattle.sl_layout.specs.declared.actor.Sort.{Sort}
use Rattle.sl_layout.specs.declared.actor.Sort.TheVariants.{Cable, Crossbar, Poll, Dump}
use Rattle.sl_layout.specs.Net.{Net, actor_of, link_of, link_at, links_out, choice_of, choices_of, data_channels, units, unit_place}
use Rattle.sl_layout.specs.Serving.{choice_from, serving}
use Rattle.sl_net.specs.Wired.{IsWired, Reports}
use Rattle.sl_net.specs.Ways.{IsChoice}
use Rattle.sl_model.specs.declared.verdict.Cause.{Cause}
use Rattle.sl_model.specs.declared.verdict.Lag.{Lag}
use Rattle.sl_model.specs.declared.verdict.Lag.TheVariants.{Id}
use Rattle.sl_model.specs.declared.verdict.Verdict.TheVariants.{NotIssued as NoIssue}
use Rattle.sl_model.specs.Words.{Rises, numbers, or_later, first_from, first_told}
use Rattle.sl_model.specs.History.{History, World, Losses, history, dump_of, done_of, id, last, first}
use Rattle.sl_model.specs.Setup.{Setup}
use Rattle.sl_model.specs.Knowledge.{observer, known, dumped, collected, issued, floor, upto_of}
use Rattle.sl_model.specs.Fit.{is_stamped}
use Rattle.sl_model.specs.Window.{on_way, after_steps, IsFollowed, IsInWindow}
use Rattle.sl_model.specs.Verdict.{channel_lag, lag_at, lag, cause, judged, issued_verdict, floor_holder, verdict}
use Rattle.sl_model.specs.Collected.{known_verdict}
use Rattle.sl_value.specs.declared.whole.Whole.{Whole}
use Rattle.sl_value.specs.declared.verdict.ValueVerdict.TheVariants.{Whole as IsWhole, NotIssued}
use Rattle.sl_value.specs.Counted.{counted}
use Rattle.sl_value.specs.Valued.{UnitValues, value_of, value_in}
use Rattle.sl_value.specs.Standing.{values_told, kept_told, AreKept}
use Rattle.sl_value.specs.Verdicts.{lagging, value_verdict, valued}
use Rattle.sl_value.proofs.Told.{counted-first}
use Rattle.sl_value.proofs.Takes.{IsJoined, joined}
use Rattle.sl_parts.proofs.Lists.{member-parts, each-of, each-at}

-- What is known grows on its way.

rises-over : (n x z : ℕ) (ys zs : List ℕ) (b : ℕ) → Rises n (x ∷ (ys ++ z ∷ zs)) b → x ≤ z
rises-over n x z [] zs b h = h.1.0
rises-over n x z (y ∷ ys) zs b h = let l = h.1.0 in let r = rises-over x y z ys zs b h.1 in omega (arith, l, r)

followed : (net : Net) (lost : Losses) (w : World) (u : ℕ) (r : Reports net u) (g : History → ℕ) → IsFollowed net lost w u r g
    → g (first (known (unit_place net u) (observer w)) (history w u)) ≤ g (first (dumped (choice_of net r.dump) (history w r.control)) (history w u))
followed net lost w u r g h =
    let f : ℕ → ℕ = after_steps g w u in
    let a : List ℕ = numbers (done_of (unit_place net u)) (on_way net lost w r.done) in
    let b : List ℕ = numbers dump_of (on_way net lost w r.dump) in
    let n : ℕ = dumped (choice_of net r.dump) (history w r.control) in
    rises-over (floor net w) (f (known (unit_place net u) (observer w))) (f n) (map f a) (map f b) (g (history w u))
    (subst (λ xs. Rises (floor net w) (f (known (unit_place net u) (observer w)) ∷ xs) (g (history w u))) (map-append f a (n ∷ b)) h)

-- What does not lag is reached.

each-none : {A B : Type 0} (n : ℕ) (f : A → Option B) (xs : List A) → first_from n f xs ≡ None → Each (λ x. f x ≡ None) xs
each-none n f [] e = tt
each-none n f (x ∷ xs) e = by_first (f x) refl e (λ h. each-none (suc n) f xs h)
  where
    by_first : (o : Option _) → f x ≡ o → or_later n o (first_from (suc n) f xs) ≡ None → (first_from (suc n) f xs ≡ None → Each (λ x. f x ≡ None) xs) → Each (λ x. f x ≡ None) (x ∷ xs)
    by_first None q e ih = (q, ih e)
    by_first (Some b) q e ih = absurd (cc)

reached : (net : Net) (k u : ℕ) (g : History) → lag net k u g ≡ None → (k ≤ id g) × Each (λ c. k ≤ last c g) (data_channels net u)
reached net k u g e = by_id (cases_lt (id g) k)
  where
    channel : (c : ℕ) → channel_lag k g c ≡ None → k ≤ last c g
    channel c e = by_last (cases_lt (last c g) k)
      where
        by_last : ((last c g < k) ⊎ (k ≤ last c g)) → k ≤ last c g
        by_last (inr q) = q
        by_last (inl q) = absurd (let x : Some (last c g) ≡ None = sym (ap (λ b. cond b (Some (last c g)) None) (lt-ltb (last c g) k q)) ∙ e in cc)

    channels : (o : Option (ℕ × ℕ)) → first_told (channel_lag k g) (data_channels net u) ≡ o → lag_at o ≡ None → Each (λ c. k ≤ last c g) (data_channels net u)
    channels None q e = each-of (λ c. k ≤ last c g) (data_channels net u) (λ c m. channel c (each-at (λ c. channel_lag k g c ≡ None) c (data_channels net u) (each-none 0 (channel_lag k g) (data_channels net u) q) m))
    channels (Some c) q e = absurd (cc)

    by_id : ((id g < k) ⊎ (k ≤ id g)) → (k ≤ id g) × Each (λ c. k ≤ last c g) (data_channels net u)
    by_id (inl q) = absurd (let x : Some (Id (id g)) ≡ None = sym (ap (λ b. cond b (Some (Id (id g))) (lag_at (first_told (channel_lag k g) (data_channels net u)))) (lt-ltb (id g) k q)) ∙ e in cc)
    by_id (inr q) = (q, channels (first_told (channel_lag k g) (data_channels net u)) refl (sym (ap (λ b. cond b (Some (Id (id g))) (lag_at (first_told (channel_lag k g) (data_channels net u)))) (le-ltb (id g) k q)) ∙ e))

fold-above : (k n : ℕ) (f : ℕ → ℕ) (cs : List ℕ) → k ≤ n → Each (λ c. k ≤ f c) cs → k ≤ fold min n (map f cs)
fold-above k n f [] h e = h
fold-above k n f (c ∷ cs) h e = let q = e.0 in fold-above k (min n (f c)) f cs (omega (arith, h, q)) e.1

-- The entry of a unit among those that are kept.

pub value-number : (f : ℕ → Whole) (m k : ℕ) → 1 ≤ k → k ≤ m → value_of (map f (range_with_len 1 m)) k ≡ Some (f k)
value-number f m k one le = let low : k - 1 < m = omega (arith, one, le) in
    ap (λ b. cond b None (slice_get (map f (range_with_len 1 m)) (k - 1))) (ne_eqb k 0 (λ e. omega (arith, e, one)))
    ∙ slice_get_read (map f (range_with_len 1 m)) m (k - 1) (f k) (sym (length-map-range_with_len f 1 m)) low (sym (get_or-map-range_with_len f 1 m (k - 1) k (f k) low (omega (arith, one))))

pub entry-of : (net : Net) (us : ℕ → History) (a u k : ℕ) (i : UnitId) (z : IsWired net) → actor_of net u ≡ OfUnit i → (r : Reports net u) → (ks : List ℕ) → ((x : ℕ) → Member x ks → IsJoined net a x) → Member r.poll ks
    → value_in (map (kept_told net us a) (map (serving net a) ks)) (unit_place net u) k ≡ value_of (kept_told net us a (serving net a r.poll)).values k
entry-of net us a u k i z q r [] j m = absurd m
entry-of net us a u k i z q r (x ∷ xs) j m = by_tells (eqb_tells (unit_place net (link_of net x).to) (unit_place net u)) m (λ n. entry-of net us a u k i z q r xs (λ y p. j y (inr p)) n)
  where
    here : UnitValues
    here = kept_told net us a (serving net a x)

    by_tells : ((nat_eq (unit_place net (link_of net x).to) (unit_place net u) ≡ true) × (unit_place net (link_of net x).to ≡ unit_place net u))
        ⊎ ((nat_eq (unit_place net (link_of net x).to) (unit_place net u) ≡ false) × (unit_place net (link_of net x).to ≡ unit_place net u → ⊥))
        → (r.poll ≡ x) ⊎ Member r.poll xs → (Member r.poll xs → value_in (map (kept_told net us a) (map (serving net a) xs)) (unit_place net u) k ≡ value_of (kept_told net us a (serving net a r.poll)).values k)
        → cond (unit_place net (link_of net x).to == unit_place net u) (value_of (kept_told net us a (serving net a x)).values k) (value_in (map (kept_told net us a) (map (serving net a) xs)) (unit_place net u) k)
        ≡ value_of (kept_told net us a (serving net a r.poll)).values k
    by_tells (inl e) m ih =
        let is : x ≡ r.poll = r.polled x (z.ways.one_unit u (link_of net x).to i q e.1) (j x (inl refl)).out.sort in
        ap (λ b. cond b (value_of (kept_told net us a (serving net a x)).values k) (value_in (map (kept_told net us a) (map (serving net a) xs)) (unit_place net u) k)) e.0
        ∙ ap (λ y. value_of (kept_told net us a (serving net a y)).values k) is
    by_tells (inr e) (inl p) ih = absurd (e.1 (ap (unit_place net) (ap (λ y. (link_of net y).to) (sym p) ∙ r.poll_to)))
    by_tells (inr e) (inr p) ih = ap (λ b. cond b (value_of (kept_told net us a (serving net a x)).values k) (value_in (map (kept_told net us a) (map (serving net a) xs)) (unit_place net u) k)) e.0 ∙ ih p

-- Verdicts.

abbrev pub KnownVerdicts : Setup → World → Type 0
KnownVerdicts s w = (k : ℕ) → k ≤ issued s.net (observer w) → known_verdict s.credits s.net w k ≡ verdict s.credits s.net w k

not-whole : (a b : ℕ) → NotIssued a b ≡ IsWhole → ⊥
not-whole a b e = cc

-- a whole snapshot is issued, and no unit lags
whole-is : (net : Net) (w : World) (k : ℕ) → value_verdict net w k ≡ IsWhole → (k ≤ issued net (observer w)) × (first_told (λ u. lag net k u (history w u)) (units net) ≡ None)
whole-is net w k e = by_issued (cases_lt (issued net (observer w)) k)
  where
    by_lag : (o : Option (ℕ × Lag)) → lagging o ≡ IsWhole → o ≡ None
    by_lag None e = refl
    by_lag (Some l) e = absurd (cc)

    by_issued : ((issued net (observer w) < k) ⊎ (k ≤ issued net (observer w))) → (k ≤ issued net (observer w)) × (first_told (λ u. lag net k u (history w u)) (units net) ≡ None)
    by_issued (inl q) = absurd (not-whole (floor_holder net w) (floor net w)
        (sym (ap (λ b. cond b (lagging (first_told (λ u. lag net k u (history w u)) (units net))) (NotIssued (floor_holder net w) (floor net w))) (lt-leb k (issued net (observer w)) q)) ∙ e))
    by_issued (inr q) = (
      q,
      by_lag (first_told (λ u. lag net k u (history w u)) (units net))
          (sym (ap (λ b. cond b (lagging (first_told (λ u. lag net k u (history w u)) (units net))) (NotIssued (floor_holder net w) (floor net w))) (le-leb k (issued net (observer w)) q)) ∙ e),
    )

no-lag : (o p : Option (ℕ × Lag)) (c d : Option (ℕ × Cause)) → judged o c ≡ judged p d → p ≡ None → o ≡ None
no-lag None p c d e q = refl
no-lag (Some l) None (Some x) (Some y) e q = absurd (cc)
no-lag (Some l) None (Some x) None e q = absurd (cc)
no-lag (Some l) None None (Some y) e q = absurd (cc)
no-lag (Some l) None None None e q = absurd (cc)
no-lag (Some l) (Some p) c d e q = absurd (cc)

-- the verdict is that of the variant with channel state, but where that is inconsistent
judged-whole : (o : Option (ℕ × Lag)) (c : Option (ℕ × Cause)) → valued (judged o c) ≡ lagging o
judged-whole (Some l) c = refl
judged-whole None (Some c) = refl
judged-whole None None = refl

pub valued-is : (n : ℕ) (net : Net) (w : World) (k : ℕ) → valued (verdict n net w k) ≡ value_verdict net w k
valued-is n net w k = by_issued (nat_le k (issued net (observer w)))
  where
    by_issued : (b : Bool) → valued (cond b (issued_verdict n net w k) (NoIssue (floor_holder net w) (floor net w))) ≡ cond b (lagging (first_told (λ u. lag net k u (history w u)) (units net))) (NotIssued (floor_holder net w) (floor net w))
    by_issued true = judged-whole (first_told (λ u. lag net k u (history w u)) (units net)) (first_told (λ u. cause n k (history w u)) (units net))
    by_issued false = refl

module _ (s : Setup) (lost : Losses) (w : World) (z : IsWired s.net) (window : IsInWindow s lost w) (known_are : KnownVerdicts s w) (u : ℕ) (i : UnitId) (q : actor_of s.net u ≡ OfUnit i) (r : Reports s.net u) where
  -- what the control plane was told of the unit
  abbrev told : History
  told = first (dumped (choice_of s.net r.dump) (history w r.control)) (history w u)

  channel-of : (c : ℕ) (t : Sort) → is_stamped t ≡ true → IsChoice s.net u t c → IsFollowed s.net lost w u r (last c)
  channel-of c t e h =
      let into = z.ways.into u c (link_at s.net u c) h.into in
      subst (λ c. IsFollowed s.net lost w u r (last c)) (z.ways.choice u c (link_at s.net u c) h.into)
      ((window.knowledge u i q r).lasts (link_at s.net u c) into.is_link (subst (λ b. IsTrue b) (sym (ap is_stamped h.sort ∙ e)) refl) into.to)

  channel-followed : (c : ℕ) → Member c (data_channels s.net u) → IsFollowed s.net lost w u r (last c)
  channel-followed c m = by_part (member-parts c (choices_of s.net u Cable) (choices_of s.net u Crossbar) m)
    where
      by_part : Member c (choices_of s.net u Cable) ⊎ Member c (choices_of s.net u Crossbar) → IsFollowed s.net lost w u r (last c)
      by_part (inl m) = channel-of c Cable refl (each-at (IsChoice s.net u Cable) c (choices_of s.net u Cable) (z.ways.choices u Cable) m)
      by_part (inr m) = channel-of c Crossbar refl (each-at (IsChoice s.net u Crossbar) c (choices_of s.net u Crossbar) (z.ways.choices u Crossbar) m)

  told-reached : (k : ℕ) → value_verdict s.net w k ≡ IsWhole → (k ≤ id told) × (k ≤ upto_of s.net u told)
  told-reached k whole =
      let v = whole-is s.net w k whole in
      let verdicts : known_verdict s.credits s.net w k ≡ issued_verdict s.credits s.net w k =
      known_are k v.0 ∙ ap (λ b. cond b (issued_verdict s.credits s.net w k) (NoIssue (floor_holder s.net w) (floor s.net w))) (le-leb k (issued s.net (observer w)) v.0) in
      let none : first_told (λ u. lag s.net k u (collected s.net w u)) (units s.net) ≡ None =
      no-lag (first_told (λ u. lag s.net k u (collected s.net w u)) (units s.net)) (first_told (λ u. lag s.net k u (history w u)) (units s.net))
      (first_told (λ u. cause s.credits k (collected s.net w u)) (units s.net)) (first_told (λ u. cause s.credits k (history w u)) (units s.net)) verdicts v.1 in
      let here : lag s.net k u (collected s.net w u) ≡ None =
      each-at (λ u. lag s.net k u (collected s.net w u) ≡ None) u (units s.net) (each-none 0 (λ u. lag s.net k u (collected s.net w u)) (units s.net) none) (z.ways.unit u i q) in
      let known = reached s.net k u (collected s.net w u) here in
      let low = known.0 in
      let ids = followed s.net lost w u r id (window.knowledge u i q r).ids in
      let top : k ≤ id told = omega (arith, low, ids) in (
        top,
        fold-above k (id told) (λ c. last c told) (data_channels s.net u) top
            (each-of (λ c. k ≤ last c told) (data_channels s.net u) (λ c m. let a = each-at (λ c. k ≤ last c (collected s.net w u)) c (data_channels s.net u) known.1 m in
            let b = followed s.net lost w u r (last c) (channel-followed c m) in omega (arith, a, b))),
      )

  pub told-value : (k : ℕ) (kept : List UnitValues) → AreKept s.net (history w) r.control kept → 1 ≤ k → value_verdict s.net w k ≡ IsWhole → value_in kept (unit_place s.net u) k ≡ Some (counted k (history w u))
  told-value k kept is one whole =
      let net = s.net in
      let a : ℕ = r.control in
      let up = told-reached k whole in
      let links : List ℕ = links_out net a Poll in
      let dump : (serving net a r.poll).dump ≡ choice_of net r.dump = ap (λ x. choice_from net a x Dump) r.poll_to ∙ r.dump_choice in
      ap (λ us. value_in us (unit_place net u) k) is
      ∙ entry-of net (history w) a u k i z q r links (λ x m. joined net a x z m) r.poll_listed
      ∙ ap (λ x. value_of (values_told net x (first (dumped (serving net a r.poll).dump (history w a)) (history w x))) k) r.poll_to
      ∙ ap (λ x. value_of (values_told net u (first (dumped x (history w a)) (history w u))) k) dump
      ∙ value-number (λ j. counted j told) (upto_of net u told) k one up.1
      ∙ ap Some (counted-first k (dumped (choice_of net r.dump) (history w a)) (history w u) up.0)
