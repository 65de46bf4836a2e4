-- The numbers that verdicts name are small, and the units and channels are those of the net.
use Rattle.std.proofs.Common.{◌≡◌, ℕ, zero, suc, ◌+◌, ◌-◌, ◌<◌, ◌≤◌, min, List, [], ◌∷◌, length, get_or, Bool, true, false, Option, Some, None, refl, sym, ap, subst, ◌∙◌, arith}
use Rattle.std.specs.Prelude.{◌&&◌, cond, nat_lt, nat_le, if◌then◌else◌, unwrap_or}
use Rattle.std.proofs.lemmas.Bool.{ltb-true}
use Rattle.std.proofs.lemmas.List.{length-map}
use Rattle.sl_parts.specs.Lists.{Each}
use Rattle.sl_layout.specs.Net.{Net, units, link_at, data_channels}
use Rattle.sl_route.specs.Least.{least, least_in}
use Rattle.sl_model.specs.declared.verdict.Cause.{Cause}
use Rattle.sl_model.specs.declared.verdict.Cause.TheVariants.{Skipped, Miscredited}
use Rattle.sl_model.specs.declared.verdict.Lag.{Lag}
use Rattle.sl_model.specs.declared.verdict.Lag.TheVariants.{Id, Channel}
use Rattle.sl_model.specs.declared.verdict.Verdict.TheVariants.{NotIssued}
use Rattle.sl_model.specs.Words.{or_later, first_from, first_told}
use Rattle.sl_model.specs.History.{History, World, history, id, last}
use Rattle.sl_model.specs.Knowledge.{observer, issued, floor}
use Rattle.sl_model.specs.Verdict.{skipped_to, is_old_data, adopted, nth_adopted, miscredits, first_cause, cause, channel_lag, lag_at, lag, judged, issued_verdict, holds_floor, place_or_zero, floor_holder, verdict}
use Rattle.sl_report.specs.Report.{unit_at}
use Rattle.sl_report.specs.Sayable.{IsSmall, CauseIsSayable, LagIsSayable, IsUnitPlace, VerdictIsSayable}

-- Causes: each number is one that the id came to.

some_is : (x j : ℕ) → Some x ≡ Some j → j ≡ x
some_is x j e = ap (λ o. unwrap_or o 0) (sym e)

skipped_low : (k j : ℕ) (h : History) → skipped_to k h ≡ Some j → j ≤ id h
skipped_low k j [] e = absurd (cc)
skipped_low k j (s ∷ h) e = go (nat_lt (id h) k && nat_lt k (id (s ∷ h))) e (skipped_low k j h)
  where
    go : (b : Bool) → (if b then Some (id (s ∷ h)) else skipped_to k h) ≡ Some j → (skipped_to k h ≡ Some j → j ≤ id h) → j ≤ id (s ∷ h)
    go true q ih = let z = some_is (id (s ∷ h)) j q in omega (arith, z)
    go false q ih = let z = ih q in omega (arith, z)

each_adopted : (b : ℕ) (h : History) → id h ≤ b → Each (λ j. j ≤ b) (adopted h)
each_adopted b [] low = tt
each_adopted b (s ∷ h) low = go (nat_lt (id h) (id (s ∷ h))) (each_adopted b h (omega (arith, low)))
  where
    go : (t : Bool) → Each (λ j. j ≤ b) (adopted h) → Each (λ j. j ≤ b) (if t then id (s ∷ h) ∷ adopted h else adopted h)
    go true more = (low, more)
    go false more = more

nth_low : (b n : ℕ) (h : History) → id h ≤ b → nth_adopted n h ≤ b
nth_low b n h low = at (adopted h) (n - 1) (each_adopted b h low)
  where
    at : (js : List ℕ) (i : ℕ) → Each (λ j. j ≤ b) js → get_or js i 0 ≤ b
    at [] i p = omega arith
    at (j ∷ js) zero p = p.0
    at (j ∷ js) (suc i) p = at js i p.1

each_miscredit : (b n k : ℕ) (h : History) → id h ≤ b → Each (λ j. j ≤ b) (miscredits n k h)
each_miscredit b n k [] low = tt
each_miscredit b n k (s ∷ h) low = go (is_old_data k s.taken && nat_lt k (nth_adopted n (s ∷ h))) (each_miscredit b n k h (omega (arith, low)))
  where
    go : (t : Bool) → Each (λ j. j ≤ b) (miscredits n k h) → Each (λ j. j ≤ b) (cond t (nth_adopted n (s ∷ h) ∷ miscredits n k h) (miscredits n k h))
    go true more = (nth_low b n (s ∷ h) low, more)
    go false more = more

least_low : (b : ℕ) (o : Option ℕ) (xs : List ℕ) (m : ℕ) → ((n : ℕ) → o ≡ Some n → n ≤ b) → Each (λ x. x ≤ b) xs → least_in o xs ≡ Some m → m ≤ b
least_low b o [] m h k e = h m e
least_low b o (x ∷ xs) m h k e = least_low b (Some (min (unwrap_or o x) x)) xs m (λ n q. let z = some_is (min (unwrap_or o x) x) n q in omega (arith, z, k.0)) k.1 e

cause_small : (n k : ℕ) (h : History) (c : Cause) → IsSmall (id h) → cause n k h ≡ Some c → CauseIsSayable c
cause_small n k h c small e = go (skipped_to k h) (least (miscredits n k h)) refl refl e
  where
    of : (c d : Cause) → Some d ≡ Some c → CauseIsSayable d → CauseIsSayable c
    of c d q s = subst CauseIsSayable (ap (λ o. unwrap_or o d) q) s

    go : (o p : Option ℕ) → skipped_to k h ≡ o → least (miscredits n k h) ≡ p → first_cause o p ≡ Some c → CauseIsSayable c
    go (Some j) p a b q = of c (Skipped j) q (let z = skipped_low k j h a in omega (arith, z, small))
    go None (Some j) a b q = of c (Miscredited j) q (let z = least_low (id h) None (miscredits n k h) j (λ m r. absurd (cc)) (each_miscredit (id h) n k h (omega arith)) b in omega (arith, z, small))
    go None None a b q = absurd (cc)

-- The first element that something is said of.

record Found {A B : Type 0} (n : ℕ) (f : A → Option B) (xs : List A) (r : ℕ × B) : Type 0 where
  pub place : ℕ
  pub at : r.0 ≡ n + place
  pub within : place < length xs
  pub said : (d : A) → f (get_or xs place d) ≡ Some r.1

found : {A B : Type 0} (n : ℕ) (f : A → Option B) (xs : List A) (r : ℕ × B) → first_from n f xs ≡ Some r → Found n f xs r
found n f [] r e = absurd (cc)
found n f (x ∷ xs) r e = go (f x) refl e (found (suc n) f xs r)
  where
    go : (o : Option _) → f x ≡ o → or_later n o (first_from (suc n) f xs) ≡ Some r → (first_from (suc n) f xs ≡ Some r → Found (suc n) f xs r) → Found n f (x ∷ xs) r
    go (Some b) q t rest =
        let z : (n, b) ≡ r = ap (λ o. unwrap_or o r) t in
        record { place = 0; at = sym (ap (λ p. p.0) z) ∙ sum n; within = omega arith; said = λ d. q ∙ ap Some (ap (λ p. p.1) z) }
      where
        sum : (n : ℕ) → n ≡ n + 0
        sum n = omega arith
    go None q t rest = let i = rest t in record { place = suc i.place; at = i.at ∙ more n i.place; within = omega (arith, i.within); said = i.said }
      where
        more : (n p : ℕ) → suc n + p ≡ n + suc p
        more n p = omega arith

first : {A B : Type 0} (f : A → Option B) (xs : List A) (r : ℕ × B) → first_told f xs ≡ Some r → (r.0 < length xs) × ((d : A) → f (get_or xs r.0 d) ≡ Some r.1)
first f xs r e = let i = found 0 f xs r e in let p : r.0 ≡ i.place = i.at ∙ none i.place in
    (omega (arith, p, i.within), λ d. ap (λ n. f (get_or xs n d)) p ∙ i.said d)
  where
    none : (n : ℕ) → 0 + n ≡ n
    none n = omega arith

-- Verdicts.

module _ (net : Net) where
  lag_small : (k u : ℕ) (h : History) (g : Lag) → IsSmall k → IsSmall (id h) → lag net k u h ≡ Some g → LagIsSayable net u g
  lag_small k u h g low small e = go (nat_lt (id h) k) e
    where
      of : (d : Lag) → Some d ≡ Some g → LagIsSayable net u d → LagIsSayable net u g
      of d q s = subst (LagIsSayable net u) (ap (λ o. unwrap_or o d) q) s

      behind : (c n : ℕ) → channel_lag k h c ≡ Some n → IsSmall n
      behind c n q = by (nat_lt (last c h) k) refl q
        where
          by : (b : Bool) → nat_lt (last c h) k ≡ b → (if b then Some (last c h) else None) ≡ Some n → IsSmall n
          by true a t = let z = some_is (last c h) n t in let y = ltb-true (last c h) k a in omega (arith, z, y, low)
          by false a t = absurd (cc)

      told : (o : Option (ℕ × ℕ)) → first_told (channel_lag k h) (data_channels net u) ≡ o → lag_at o ≡ Some g → LagIsSayable net u g
      told None a q = absurd (cc)
      told (Some r) a q = let f = first (channel_lag k h) (data_channels net u) r a in
          of (Channel r.0 r.1) q (omega (arith, f.0, length-map (data_channels net u) (link_at net u)), behind (get_or (data_channels net u) r.0 0) r.1 (f.1 0))

      go : (b : Bool) → (if b then Some (Id (id h)) else lag_at (first_told (channel_lag k h) (data_channels net u))) ≡ Some g → LagIsSayable net u g
      go true q = of (Id (id h)) q small
      go false q = told (first_told (channel_lag k h) (data_channels net u)) refl q

  -- where each id and the floor are small, so is what the verdict names
  pub verdict_small : (n : ℕ) (w : World) (k : ℕ) → IsSmall k → ((u : ℕ) → IsSmall (id (history w u))) → IsSmall (floor net w) → VerdictIsSayable net (verdict n net w k)
  verdict_small n w k low ids floors = go (nat_le k (issued net (observer w)))
    where
      judge : (o : Option (ℕ × Lag)) (p : Option (ℕ × Cause)) → first_told (λ u. lag net k u (history w u)) (units net) ≡ o → first_told (λ u. cause n k (history w u)) (units net) ≡ p → VerdictIsSayable net (judged o p)
      judge (Some l) p a b = let f = first (λ u. lag net k u (history w u)) (units net) l a in
          (omega (arith, f.0), lag_small k (unit_at net l.0) (history w (unit_at net l.0)) l.1 low (ids (unit_at net l.0)) (f.1 0))
      judge None (Some c) a b = let f = first (λ u. cause n k (history w u)) (units net) c b in
          (omega (arith, f.0), cause_small n k (history w (unit_at net c.0)) c.1 (ids (unit_at net c.0)) (f.1 0))
      judge None None a b = tt

      holder : (o : Option (ℕ × ℕ)) → first_told (holds_floor net w) (units net) ≡ o → IsUnitPlace net (place_or_zero o)
      holder None a = omega arith
      holder (Some r) a = let f = first (holds_floor net w) (units net) r a in omega (arith, f.0)

      go : (b : Bool) → VerdictIsSayable net (if b then issued_verdict n net w k else NotIssued (floor_holder net w) (floor net w))
      go true = judge (first_told (λ u. lag net k u (history w u)) (units net)) (first_told (λ u. cause n k (history w u)) (units net)) refl refl
      go false = (holder (first_told (holds_floor net w) (units net)) refl, floors)
