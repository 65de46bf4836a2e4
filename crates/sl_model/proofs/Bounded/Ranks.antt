-- Routes lead nearer: the least walk to a host from the next device is shorter.
--     rank parts dst d       the length of a least walk from the device d to the host dst, 0 where there is none
use Rattle.std.proofs.Common.{◌+◌, ◌++◌, ◌<◌, ◌==◌, List, None, Option, Some, ap, inl, inr, length, refl, subst, suc, sym, zero, ℕ, ◌∙◌, ◌∷◌, ◌≡◌, ◌≤◌, arith, []}
use Rattle.std.specs.Prelude.{map, min, option_and_then, true, unwrap_or, ◌⊎◌}
use Rattle.std.proofs.lemmas.Bool.{cases_lt, eqb-true}
use Rattle.std.specs.List.{range_with_len}
use Rattle.sl_parts.specs.Parts.{Parts}
use Rattle.sl_parts.specs.declared.parts.CablePart.{CablePart}
use Rattle.sl_parts.specs.declared.parts.PortRef.{PortRef}
use Rattle.sl_route.specs.Route.{Walk, cables_from, end_of, first_nonempty, first_port, host_port, least_walks, length_of, next_port, turned, walks, walks_between}
use Rattle.sl_parts.specs.Lists.{Each, Member}
use Rattle.sl_parts.proofs.Lists.{each-filter, each-passes, member-of-flat, member-of-map, each-at, each-flat, each-imp, each-map, each-of, kept-member, member-filter, member-parts}
use Rattle.sl_route.specs.Least.{least, least_in}
use Rattle.sl_model.proofs.Worked.Nets.{host}
use Rattle.sl_model.proofs.Bounded.PortUse.{Joins, joins-back, port_at}

abbrev pub number_or_zero : Option ℕ → ℕ
number_or_zero None = 0
number_or_zero (Some n) = n

abbrev pub rank : Parts → ℕ → ℕ → ℕ
rank parts dst d = number_or_zero (option_and_then (λ at. length_of (least_walks parts d at.device)) (host_port parts dst))

-- The first list that is not empty.

pub record IsFirst {A : Type 0} (f : ℕ → List A) (s n : ℕ) (xs : List A) : Type 0 where
  pub place : ℕ
  pub least : s ≤ place
  pub below : place < s + n
  pub is : f place ≡ xs

pub first-is : {A : Type 0} (f : ℕ → List A) (s n : ℕ) (x : A) (xs : List A) → first_nonempty (map f (range_with_len s n)) ≡ x ∷ xs → IsFirst f s n (x ∷ xs)
first-is f s zero x xs h = absurd cc
first-is f s (suc n) x xs h = by_list (f s) refl h (first-is f (s + 1) n x xs)
  where
    by_list : (ys : List _) → f s ≡ ys → first_nonempty (ys ∷ map f (range_with_len (s + 1) n)) ≡ x ∷ xs → (first_nonempty (map f (range_with_len (s + 1) n)) ≡ x ∷ xs → IsFirst f (s + 1) n (x ∷ xs)) → IsFirst f s (suc n) (x ∷ xs)
    by_list [] q k ih = let r = ih k in record { place = r.place; least = omega (arith, r.least); below = omega (arith, r.below); is = r.is }
    by_list (y ∷ ys) q k ih = record { place = s; least = omega arith; below = omega arith; is = q ∙ k }

-- where a list is not empty, the first one is not after it
pub record HasFirst {A : Type 0} (f : ℕ → List A) (s n k : ℕ) : Type 0 where
  pub head : A
  pub tail : List A
  pub is : first_nonempty (map f (range_with_len s n)) ≡ head ∷ tail
  pub place : ℕ
  pub no_later : place ≤ k
  pub here : f place ≡ head ∷ tail

pub first-before : {A : Type 0} (f : ℕ → List A) (s n k : ℕ) (x : A) → s ≤ k → k < s + n → Member x (f k) → HasFirst f s n k
first-before f s zero k x a b m = absurd (omega (arith, a, b))
first-before f s (suc n) k x a b m = by_list (f s) refl (λ c. first-before f (s + 1) n k x c (omega (arith, b)) m)
  where
    not-here : [] ≡ f s → s + 1 ≤ k
    not-here q = by_cases (cases_lt s k)
      where
        by_cases : (s < k) ⊎ (k ≤ s) → s + 1 ≤ k
        by_cases (inl c) = omega arith
        by_cases (inr c) = let e : k ≡ s = omega (arith, a, c) in absurd (subst (Member x) (ap f e ∙ sym q) m)

    by_list : (ys : List _) → f s ≡ ys → (s + 1 ≤ k → HasFirst f (s + 1) n k) → HasFirst f s (suc n) k
    by_list [] q ih = let r = ih (not-here (sym q)) in record { head = r.head; tail = r.tail; is = ap (λ ys. first_nonempty (ys ∷ map f (range_with_len (s + 1) n))) q ∙ r.is; place = r.place; no_later = r.no_later; here = r.here }
    by_list (y ∷ ys) q ih = record { head = y; tail = ys; is = ap (λ zs. first_nonempty (zs ∷ map f (range_with_len (s + 1) n))) q; place = s; no_later = a; here = q }

-- Walks.

pub walk-length : (parts : Parts) (n d : ℕ) → Each (λ w. length w ≡ n) (walks parts n d)
walk-length parts zero d = (refl, tt)
walk-length parts (suc n) d = each-flat (λ w. length w ≡ suc n) (λ c. map (λ walk. c ∷ walk) (walks parts n c.b.device)) (cables_from parts d)
    (each-of (λ c. Each (λ w. length w ≡ suc n) (map (λ walk. c ∷ walk) (walks parts n c.b.device))) (cables_from parts d)
    (λ c m. each-map (λ w. length w ≡ suc n) (λ walk. c ∷ walk) (walks parts n c.b.device) (each-imp (λ w. length w ≡ n) (λ w. suc (length w) ≡ suc n) (walks parts n c.b.device) (λ w e. ap suc e) (walk-length parts n c.b.device))))

pub between-length : (parts : Parts) (d e n : ℕ) (w : Walk) → Member w (walks_between parts d e n) → length w ≡ n
between-length parts d e n w m = each-at (λ w. length w ≡ n) w (walks_between parts d e n) (each-filter (λ w. length w ≡ n) (λ walk. end_of d walk == e) (walks parts n d) (walk-length parts n d)) m

-- a walk goes on from the other end of its first cable
pub record GoesOn (parts : Parts) (d e n : ℕ) (c : CablePart) (w : Walk) : Type 0 where
  pub first : Member c (cables_from parts d)
  pub rest : Member w (walks_between parts c.b.device e n)

pub goes-on : (parts : Parts) (d e n : ℕ) (c : CablePart) (w : Walk) → Member (c ∷ w) (walks_between parts d e (suc n)) → GoesOn parts d e n c w
goes-on parts d e n c w m = of_flat (member-of-flat (λ c. map (λ walk. c ∷ walk) (walks parts n c.b.device)) (c ∷ w) (cables_from parts d) (kept-member (λ walk. end_of d walk == e) (c ∷ w) (walks parts (suc n) d) m))
  where
    ends : (end_of d (c ∷ w) == e) ≡ true
    ends = each-at (λ walk. (end_of d walk == e) ≡ true) (c ∷ w) (walks_between parts d e (suc n)) (each-passes (λ walk. end_of d walk == e) (walks parts (suc n) d)) m

    of_flat : (x : CablePart) × Member x (cables_from parts d) × Member (c ∷ w) (map (λ walk. x ∷ walk) (walks parts n x.b.device)) → GoesOn parts d e n c w
    of_flat r = let k = member-of-map (λ walk. r.0 ∷ walk) (c ∷ w) (walks parts n r.0.b.device) r.2 in
        let same : c ≡ r.0 = cc k.2 in let tail : w ≡ k.0 = cc k.2 in
        record {
          first = subst (λ x. Member x (cables_from parts d)) (sym same) r.1;
          rest = member-filter (λ walk. end_of c.b.device walk == e) w (walks parts n c.b.device) (subst (λ x. Member w (walks parts n x.b.device)) (sym same) (subst (λ x. Member x (walks parts n r.0.b.device)) (sym tail) k.1)) ends;
        }

-- a cable from a device joins its two ends
pub cable-joins : (parts : Parts) (d : ℕ) (c : CablePart) → Member c (cables_from parts d) → (c.a.device ≡ d) × Joins parts.cables c.a c.b
cable-joins parts d c m = (
  eqb-true c.a.device d (each-at (λ c. (c.a.device == d) ≡ true) c (cables_from parts d) (each-passes (λ c. c.a.device == d) (parts.cables ++ map turned parts.cables)) m),
  by_parts (member-parts c parts.cables (map turned parts.cables) (kept-member (λ c. c.a.device == d) c (parts.cables ++ map turned parts.cables) m)),
)
  where
    here : (cs : List CablePart) (x : CablePart) → Member x cs → Joins cs x.a x.b
    here [] x m = absurd m
    here (y ∷ cs) x (inl q) = inl (ap (λ z. z.a) (sym q), ap (λ z. z.b) (sym q))
    here (y ∷ cs) x (inr m) = inr (inr (here cs x m))

    by_parts : Member c parts.cables ⊎ Member c (map turned parts.cables) → Joins parts.cables c.a c.b
    by_parts (inl k) = here parts.cables c k
    by_parts (inr k) = let r = member-of-map turned c parts.cables k in
        subst (λ x. Joins parts.cables x.a x.b) (sym r.2) (joins-back parts.cables r.0.a r.0.b (here parts.cables r.0 r.1))

-- The least of some numbers is one of them.

min-is : (a b : ℕ) → (min a b ≡ a) ⊎ (min a b ≡ b)
min-is a b = by_cases (cases_lt a b)
  where
    by_cases : (a < b) ⊎ (b ≤ a) → (min a b ≡ a) ⊎ (min a b ≡ b)
    by_cases (inl h) = inl (omega (arith, h))
    by_cases (inr h) = inr (omega (arith, h))

least-from : (o : Option ℕ) (xs : List ℕ) (n : ℕ) → least_in o xs ≡ Some n → (o ≡ Some n) ⊎ Member n xs
least-from o [] n h = inl h
least-from o (x ∷ xs) n h = by_ih (least-from (Some (min (unwrap_or o x) x)) xs n h)
  where
    of_option : (o : Option ℕ) → n ≡ unwrap_or o x → (o ≡ Some n) ⊎ ((n ≡ x) ⊎ Member n xs)
    of_option None q = inr (inl q)
    of_option (Some y) q = inl (ap Some (sym q))

    by_min : min (unwrap_or o x) x ≡ n → (min (unwrap_or o x) x ≡ unwrap_or o x) ⊎ (min (unwrap_or o x) x ≡ x) → (o ≡ Some n) ⊎ ((n ≡ x) ⊎ Member n xs)
    by_min q (inl e) = of_option o (sym q ∙ e)
    by_min q (inr e) = inr (inl (sym q ∙ e))

    by_ih : (Some (min (unwrap_or o x) x) ≡ Some n) ⊎ Member n xs → (o ≡ Some n) ⊎ ((n ≡ x) ⊎ Member n xs)
    by_ih (inl q) = let z : min (unwrap_or o x) x ≡ n = cc in by_min z (min-is (unwrap_or o x) x)
    by_ih (inr m) = inr (inr m)

pub least-member : (xs : List ℕ) (n : ℕ) → least xs ≡ Some n → Member n xs
least-member xs n h = of_both (least-from None xs n h)
  where
    of_both : (None ≡ Some n) ⊎ Member n xs → Member n xs
    of_both (inl q) = absurd cc
    of_both (inr m) = m

-- What the next port to a host is.

pub record Towards (parts : Parts) (d dst port : ℕ) : Type 0 where
  pub at : PortRef
  pub host : port_at parts.hosts dst ≡ Some at
  pub walk : Walk
  pub among : Member walk (least_walks parts d at.device)
  pub begins : port ≡ first_port at.port walk

pub towards : (parts : Parts) (d dst port : ℕ) → next_port parts d dst ≡ Some port → Towards parts d dst port
unfolding next_port
towards parts d dst port h = of_host (host_port parts dst) refl h
  where
    of_host : (o : Option PortRef) → host_port parts dst ≡ o → option_and_then (λ at. least (map (first_port at.port) (least_walks parts d at.device))) o ≡ Some port → Towards parts d dst port
    of_host None q k = absurd cc
    of_host (Some at) q k = let m = member-of-map (first_port at.port) port (least_walks parts d at.device) (least-member (map (first_port at.port) (least_walks parts d at.device)) port k) in
        record { at = at; host = q; walk = m.0; among = m.1; begins = m.2 }

pub rank-below : (parts : Parts) (dst d : ℕ) → 0 < length parts.devices → rank parts dst d < length parts.devices
rank-below parts dst d pos = of_host (host_port parts dst)
  where
    of_walks : (e : ℕ) (ws : List Walk) → least_walks parts d e ≡ ws → number_or_zero (length_of ws) < length parts.devices
    of_walks e [] q = pos
    of_walks e (w ∷ ws) q = let r = first-is (walks_between parts d e) 0 (length parts.devices) w ws q in
        let n : length w ≡ r.place = between-length parts d e r.place w (subst (Member w) (sym r.is) (inl refl)) in omega (arith, r.below, n)

    of_host : (o : Option PortRef) → number_or_zero (option_and_then (λ at. length_of (least_walks parts d at.device)) o) < length parts.devices
    of_host None = pos
    of_host (Some at) = of_walks at.device (least_walks parts d at.device) refl

-- where the least walks begin by a cable, the device at its other end is nearer
pub rank-nearer : (parts : Parts) (dst d : ℕ) (at : PortRef) (c : CablePart) (w : Walk) → port_at parts.hosts dst ≡ Some at → Member (c ∷ w) (least_walks parts d at.device) → (rank parts dst c.b.device < rank parts dst d) × Member c (cables_from parts d)
rank-nearer parts dst d at c w host m = of_walks (least_walks parts d at.device) refl m
  where
    e : ℕ
    e = at.device

    here : (b : ℕ) → rank parts dst b ≡ number_or_zero (length_of (least_walks parts b at.device))
    here b = ap (λ o. number_or_zero (option_and_then (λ at. length_of (least_walks parts b at.device)) o)) host

    of_place : (k : ℕ) → k < length parts.devices → number_or_zero (length_of (least_walks parts d at.device)) ≡ k → Member (c ∷ w) (walks_between parts d at.device k) → (rank parts dst c.b.device < rank parts dst d) × Member c (cables_from parts d)
    of_place zero b q k = absurd (let n = between-length parts d e 0 (c ∷ w) k in omega (arith, n))
    of_place (suc n) b q k = let g = goes-on parts d e n c w k in
        let r = first-before (walks_between parts c.b.device e) 0 (length parts.devices) n w (omega arith) (omega (arith, b)) g.rest in
        let x : length r.head ≡ r.place = between-length parts c.b.device e r.place r.head (subst (Member r.head) (sym r.here) (inl refl)) in
        let y : number_or_zero (length_of (least_walks parts c.b.device at.device)) ≡ length r.head = ap (λ ws. number_or_zero (length_of ws)) r.is in
        (omega (arith, here c.b.device, here d, q, x, y, r.no_later), g.first)

    of_walks : (ws : List Walk) → least_walks parts d at.device ≡ ws → Member (c ∷ w) ws → (rank parts dst c.b.device < rank parts dst d) × Member c (cables_from parts d)
    of_walks [] q k = absurd k
    of_walks (v ∷ ws) q k = let r = first-is (walks_between parts d e) 0 (length parts.devices) v ws q in
        let n : length v ≡ r.place = between-length parts d e r.place v (subst (Member v) (sym r.is) (inl refl)) in
        of_place r.place (omega (arith, r.below)) (ap (λ ws. number_or_zero (length_of ws)) q ∙ n) (subst (Member (c ∷ w)) (sym r.is) k)

-- an empty least walk ends where it begins
pub walk-ends : (parts : Parts) (d e : ℕ) → Member [] (least_walks parts d e) → d ≡ e
walk-ends parts d e m = of_walks (least_walks parts d e) refl m
  where
    of_walks : (ws : List Walk) → least_walks parts d e ≡ ws → Member [] ws → d ≡ e
    of_walks [] q k = absurd k
    of_walks (v ∷ ws) q k = let r = first-is (walks_between parts d e) 0 (length parts.devices) v ws q in
        eqb-true d e (each-at (λ walk. (end_of d walk == e) ≡ true) [] (walks_between parts d e r.place) (each-passes (λ walk. end_of d walk == e) (walks parts r.place d)) (subst (Member []) (sym r.is) k))
