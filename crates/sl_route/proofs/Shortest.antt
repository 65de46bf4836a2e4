-- Walks of any length against the search.
use Rattle.std.proofs.Common.{◌≡◌, ℕ, zero, suc, ◌<◌, ◌≤◌, List, [], ◌∷◌, length, refl, sym, ap, subst, ◌∙◌, arith, inl, inr, zero-add}
use Rattle.std.specs.Prelude.{◌⊎◌, Bool, true, false, cond, not, ◌&&◌, ◌||◌, ◌==◌, map, Option, Some, None, is_none, slice_get}
use Rattle.std.specs.List.{AllByRecursion, Contains, list_any}
use Rattle.std.proofs.lemmas.Bool.{cases_lt, and_parts, eq-eqb, eqb-true}
use Rattle.std.proofs.lemmas.List.Elements.{recursion_from_All, All-contains, All-contains_itself}
use Rattle.std.proofs.lemmas.List.Folds.{list_any_at}
use Rattle.std.proofs.lemmas.List.FromFn.{get_or-range_with_len, length-map-range_with_len, length-range_with_len}
use Rattle.sl_parts.specs.declared.parts.PortRef.{PortRef}
use Rattle.sl_parts.specs.declared.parts.CablePart.{CablePart}
use Rattle.sl_parts.specs.declared.parts.HostPart.{HostPart}
use Rattle.sl_parts.specs.Parts.{Parts, below}
use Rattle.sl_parts.specs.Valid.{IsPort, IsValid}
use Rattle.sl_route.specs.declared.neighbours.Neighbour.{Neighbour}
use Rattle.sl_route.specs.Route.{Walk, cables_from, host_port, hops}
use Rattle.sl_route.specs.Graph.{Graph, neighbours_of, neighbours_at, reaches, within, IsGraph, is_at}
use Rattle.sl_route.specs.Walks.{IsWalk, AreHops}
use Rattle.sl_route.proofs.Walks.{directed}
use Rattle.sl_route.proofs.First.{none-passes, IsFirst, first-is, apart}
use Rattle.sl_route.proofs.Finding.{Found, found}
use Rattle.sl_route.proofs.Graphs.{IsJoined, all-joined, graph_of, row-is, is-graph, any-map, any-filter}
use Rattle.sl_route.proofs.Toward.{hops-are}

-- Walks and what is reached.

abbrev pub goes : Parts → ℕ → ℕ → ℕ → CablePart → Bool
goes parts e n d c = (c.a.device == d) && reaches (graph_of parts) e n c.b.device

pub step-is : (parts : Parts) (e n d : ℕ) → IsValid parts → reaches (graph_of parts) e (suc n) d ≡ list_any (goes parts e n d) (directed parts)
step-is parts e n d v = ap (list_any (λ k. reaches (graph_of parts) e n k.device)) (row-is parts d v) ∙ any-map (λ k. reaches (graph_of parts) e n k.device) (cables_from parts d)
    ∙ any-filter (λ c. c.a.device == d) (λ c. reaches (graph_of parts) e n c.b.device) (directed parts)

pub walk-reaches : (parts : Parts) (e d : ℕ) (walk : Walk) → IsValid parts → IsWalk parts d e walk → reaches (graph_of parts) e (length walk) d ≡ true
walk-reaches parts e d [] v w = eq-eqb d e w
walk-reaches parts e d (c ∷ cs) v w = step-is parts e (length cs) d v
    ∙ list_any_at (goes parts e (length cs) d) (directed parts) w.0.0 c w.0.1 (ap (goes parts e (length cs) d) w.0.2
    ∙ ap (λ b. b && reaches (graph_of parts) e (length cs) c.b.device) (eq-eqb c.a.device d w.1) ∙ walk-reaches parts e c.b.device cs v w.2)

abbrev pub WalkOf : Parts → ℕ → ℕ → ℕ → Type 0
WalkOf parts d e n = (walk : Walk) × IsWalk parts d e walk × (length walk ≡ n)

abbrev FoundCable : Parts → ℕ → ℕ → ℕ → Type 0
FoundCable parts e n d = Found (Contains (directed parts)) (goes parts e n d) (directed parts)

found-cable : (parts : Parts) (e n d : ℕ) → IsValid parts → reaches (graph_of parts) e (suc n) d ≡ true → FoundCable parts e n d
found-cable parts e n d v h = found (Contains (directed parts)) (goes parts e n d) (directed parts) (recursion_from_All (Contains (directed parts)) (directed parts) (All-contains_itself (directed parts))) (sym (step-is parts e n d v) ∙ h)

one-more : (parts : Parts) (e n d : ℕ) → FoundCable parts e n d → ((x : ℕ) → reaches (graph_of parts) e n x ≡ true → WalkOf parts x e n) → WalkOf parts d e (suc n)
one-more parts e n d f ih = let c = f.item in let both = and_parts (c.a.device == d) (reaches (graph_of parts) e n c.b.device) f.passes in let w = ih c.b.device both.1 in
    (c ∷ w.0, (f.holds, eqb-true c.a.device d both.0, w.1), ap suc w.2)

pub reaches-walk : (parts : Parts) (e n d : ℕ) → IsValid parts → reaches (graph_of parts) e n d ≡ true → WalkOf parts d e n
reaches-walk parts e zero d v h = ([], eqb-true d e h, refl)
reaches-walk parts e (suc n) d v h = one-more parts e n d (found-cable parts e n d v h) (λ x k. reaches-walk parts e n x v k)

-- Where no device is just so far, none is further.

abbrev level : Graph → ℕ → ℕ → Bool
level g e n = list_any (λ d. is_at n (within g e n d)) (below (length g))

any-below : (test : ℕ → Bool) (n d : ℕ) → d < n → test d ≡ true → list_any test (below n) ≡ true
any-below test n d l h = list_any_at test (below n) d 0 (let k : length (below n) ≡ n = length-range_with_len 0 n in omega (arith, k, l)) (ap test (get_or-range_with_len 0 n d 0 l ∙ zero-add d) ∙ h)

newly-reached : (g : Graph) (e n d : ℕ) → d < length g → within g e n d ≡ None → reaches g e (suc n) d ≡ true → level g e (suc n) ≡ false → ⊥
unfolding within
newly-reached g e n d l h r q = apart (level g e (suc n)) (any-below (λ x. is_at (suc n) (within g e (suc n) x)) (length g) d l (ap (is_at (suc n)) first ∙ eq-eqb (suc n) (suc n) refl)) q
  where
    first : within g e (suc n) d ≡ Some (suc n)
    first = ap (λ o. cond (is_none o && reaches g e (suc n) d) (Some (suc n)) o) h ∙ ap (λ b. cond b (Some (suc n)) None) r

further-step : (g : Graph) (e n m d : ℕ) → IsGraph g → d < length g → level g e (suc n) ≡ false → within g e n d ≡ None → Found (λ (k : Neighbour). k.device < length g) (λ k. reaches g e m k.device) (neighbours_at g d)
    → ((x : ℕ) → x < length g → reaches g e m x ≡ true → within g e n x ≡ None → ⊥) → ⊥
unfolding within
further-step g e n m d i l q h f ih = by_first (within g e n f.item.device) refl
  where
    by_order : (j : ℕ) → IsFirst (λ k. reaches g e k f.item.device) n j → (j < n) ⊎ (n ≤ j) → ⊥
    by_order j p (inl k) = apart (reaches g e (suc j) d) (f.listed (λ y. reaches g e j y.device) p.passes) (none-passes (λ k. reaches g e k d) n (suc j) h (omega (arith, k)))
    by_order j p (inr k) = let s : j ≡ n = omega (arith, k, p.within) in
        newly-reached g e n d l h (f.listed (λ y. reaches g e n y.device) (ap (λ k. reaches g e k f.item.device) (sym s) ∙ p.passes)) q

    by_first : (o : Option ℕ) → within g e n f.item.device ≡ o → ⊥
    by_first None p = ih f.item.device f.holds f.passes p
    by_first (Some j) p = let first = first-is (λ k. reaches g e k f.item.device) n j p in by_order j first (cases_lt j n)

none-further : (g : Graph) (e n m d : ℕ) → IsGraph g → d < length g → level g e (suc n) ≡ false → n < m → reaches g e m d ≡ true → within g e n d ≡ None → ⊥
none-further g e n zero d i l q k r h = omega (arith, k)
none-further g e n (suc m) d i l q k r h = by_order (λ j x a b c. none-further g e n m x i a q j b c) (cases_lt n m)
  where
    by_order : (n < m → (x : ℕ) → x < length g → reaches g e m x ≡ true → within g e n x ≡ None → ⊥) → (n < m) ⊎ (m ≤ n) → ⊥
    by_order ih (inl j) = further-step g e n m d i l q h (found (λ (k : Neighbour). k.device < length g) (λ k. reaches g e m k.device) (neighbours_at g d) (recursion_from_All (λ k. k.device < length g) (neighbours_at g d) (i.near d)) r) (ih j)
    by_order ih (inr j) = let s : m ≡ n = omega (arith, j, k) in newly-reached g e n d l h (ap (λ k. reaches g e (suc k) d) (sym s) ∙ r) q

-- Each level reaches a device more, so there are fewer levels than devices.

tally : (ℕ → Bool) → List ℕ → ℕ
tally test [] = 0
tally test (x ∷ xs) = cond (test x) (suc (tally test xs)) (tally test xs)

tally-all : (test : ℕ → Bool) (xs : List ℕ) → tally test xs ≤ length xs
unfolding tally
tally-all test [] = omega arith
tally-all test (x ∷ xs) = let ih = tally-all test xs in elim (test x) as (λ b. cond b (suc (tally test xs)) (tally test xs) ≤ suc (length xs)) [ true ↦ omega (arith, ih) | false ↦ omega (arith, ih) ]

tally-le : (p q : ℕ → Bool) (xs : List ℕ) → ((x : ℕ) → p x ≡ true → q x ≡ true) → tally p xs ≤ tally q xs
unfolding tally
tally-le p q [] h = omega arith
tally-le p q (x ∷ xs) h = by_tests (p x) (q x) (h x) (tally-le p q xs h)
  where
    by_tests : (a b : Bool) → (a ≡ true → b ≡ true) → tally p xs ≤ tally q xs → cond a (suc (tally p xs)) (tally p xs) ≤ cond b (suc (tally q xs)) (tally q xs)
    by_tests true true k ih = omega (arith, ih)
    by_tests true false k ih = absurd (apart false (k refl) refl)
    by_tests false true k ih = omega (arith, ih)
    by_tests false false k ih = ih

tally-less : (p q : ℕ → Bool) (xs : List ℕ) → ((x : ℕ) → p x ≡ true → q x ≡ true) → list_any (λ x. q x && not (p x)) xs ≡ true → tally p xs < tally q xs
unfolding tally
tally-less p q [] h k = absurd cc
tally-less p q (x ∷ xs) h k = by_tests (p x) (q x) (h x) (tally-le p q xs h) (tally-less p q xs h) k
  where
    by_tests : (a b : Bool) → (a ≡ true → b ≡ true) → tally p xs ≤ tally q xs → (list_any (λ x. q x && not (p x)) xs ≡ true → tally p xs < tally q xs) → ((b && not a) || list_any (λ x. q x && not (p x)) xs) ≡ true
        → cond a (suc (tally p xs)) (tally p xs) < cond b (suc (tally q xs)) (tally q xs)
    by_tests true true k le ih j = let less = ih j in omega (arith, less)
    by_tests true false k le ih j = absurd (apart false (k refl) refl)
    by_tests false true k le ih j = omega (arith, le)
    by_tests false false k le ih j = ih j

abbrev is_reached : Graph → ℕ → ℕ → ℕ → Bool
is_reached g e n d = not (is_none (within g e n d))

any-weaker : {A : Type 0} (p q : A → Bool) (xs : List A) → ((x : A) → p x ≡ true → q x ≡ true) → list_any p xs ≡ true → list_any q xs ≡ true
any-weaker p q [] h k = absurd cc
any-weaker p q (x ∷ xs) h k = by_tests (p x) (q x) (h x) (any-weaker p q xs h) k
  where
    by_tests : (a b : Bool) → (a ≡ true → b ≡ true) → (list_any p xs ≡ true → list_any q xs ≡ true) → (a || list_any p xs) ≡ true → (b || list_any q xs) ≡ true
    by_tests true true j ih k = refl
    by_tests true false j ih k = absurd (apart false (j refl) refl)
    by_tests false true j ih k = refl
    by_tests false false j ih k = ih k

stays : (o : Option ℕ) (b : Bool) (n : ℕ) → not (is_none o) ≡ true → not (is_none (cond (is_none o && b) (Some n) o)) ≡ true
stays None b n h = absurd cc
stays (Some m) b n h = refl

is-new : (o : Option ℕ) (b : Bool) (n : ℕ) → ((m : ℕ) → o ≡ Some m → m ≤ n) → is_at (suc n) (cond (is_none o && b) (Some (suc n)) o) ≡ true → (not (is_none (cond (is_none o && b) (Some (suc n)) o)) && not (not (is_none o))) ≡ true
is-new None true n f h = refl
is-new None false n f h = absurd cc
is-new (Some m) b n f h = let k : m ≡ suc n = eqb-true m (suc n) h in let j : m ≤ n = f m refl in absurd (omega (arith, j, k))

grows : (g : Graph) (e n : ℕ) → level g e (suc n) ≡ true → tally (is_reached g e n) (below (length g)) < tally (is_reached g e (suc n)) (below (length g))
unfolding within
grows g e n h = tally-less (is_reached g e n) (is_reached g e (suc n)) (below (length g)) (λ x k. stays (within g e n x) (reaches g e (suc n) x) (suc n) k)
    (any-weaker (λ x. is_at (suc n) (within g e (suc n) x)) (λ x. is_reached g e (suc n) x && not (is_reached g e n x)) (below (length g))
    (λ x k. is-new (within g e n x) (reaches g e (suc n) x) n (λ m p. (first-is (λ j. reaches g e j x) n m p).within) k) h)

abbrev Ends : Graph → ℕ → ℕ → Type 0
Ends g e n = (k : ℕ) × (k < n) × (level g e (suc k) ≡ false)

ends-or-grows : (g : Graph) (e n : ℕ) → e < length g → Ends g e n ⊎ (n < tally (is_reached g e n) (below (length g)))
unfolding within
ends-or-grows g e zero l = inr (let some : tally (λ x. false) (below (length g)) < tally (is_reached g e 0) (below (length g)) = tally-less (λ x. false) (is_reached g e 0) (below (length g)) (λ x k. absurd (apart false k refl))
    (any-below (λ x. is_reached g e 0 x && true) (length g) e l (ap (λ b. not (is_none (cond {A = Option ℕ} b (Some 0) None)) && true) (eq-eqb e e refl))) in omega (arith, some))
ends-or-grows g e (suc n) l = by_level (level g e (suc n)) refl (ends-or-grows g e n l)
  where
    by_level : (b : Bool) → level g e (suc n) ≡ b → Ends g e n ⊎ (n < tally (is_reached g e n) (below (length g))) → Ends g e (suc n) ⊎ (suc n < tally (is_reached g e (suc n)) (below (length g)))
    by_level b q (inl t) = inl (t.0, omega (arith, t.1), t.2)
    by_level true q (inr t) = let more = grows g e n q in inr (omega (arith, t, more))
    by_level false q (inr t) = inl (n, omega arith, q)

-- what is reached by any number of cables is reached by fewer than there are devices
pub reaches-within : (g : Graph) (e n m d : ℕ) → IsGraph g → e < length g → length g ≡ suc n → d < length g → reaches g e m d ≡ true → within g e n d ≡ None → ⊥
unfolding within
reaches-within g e n m d i l s k r h = by_ends (ends-or-grows g e (suc n) l)
  where
    by_first : (j : ℕ) → j < suc n → level g e (suc j) ≡ false → (o : Option ℕ) → within g e j d ≡ o → ⊥
    by_first j a q (Some x) p = let first = first-is (λ y. reaches g e y d) j x p in apart (reaches g e x d) first.passes (none-passes (λ y. reaches g e y d) n x h (omega (arith, a, first.within)))
    by_first j a q None p = by_order (cases_lt j m)
      where
        by_order : (j < m) ⊎ (m ≤ j) → ⊥
        by_order (inl b) = none-further g e j m d i k q b r p
        by_order (inr b) = apart (reaches g e m d) r (none-passes (λ y. reaches g e y d) n m h (omega (arith, a, b)))

    by_ends : Ends g e (suc n) ⊎ (suc n < tally (is_reached g e (suc n)) (below (length g))) → ⊥
    by_ends (inl t) = by_first t.0 t.1 t.2 (within g e t.0 d) refl
    by_ends (inr t) = let all = tally-all (is_reached g e (suc n)) (below (length g)) in let size : length (below (length g)) ≡ length g = length-range_with_len 0 (length g) in omega (arith, t, all, size, s)

-- The hops of the definition are those of the walks.

walk-near : (parts : Parts) (d e : ℕ) (walk : Walk) → IsValid parts → e < length parts.devices → IsWalk parts d e walk → d < length parts.devices
walk-near parts d e [] v l w = omega (arith, l, w)
walk-near parts d e (c ∷ cs) v l w = let j : IsJoined (length parts.devices) c = All-contains (IsJoined (length parts.devices)) (directed parts) c (all-joined parts v) w.0 in
    omega (arith, j.a.device, w.1)

guest-at : (parts : Parts) (hs : List HostPart) (h : ℕ) (at : PortRef) → AllByRecursion (λ (host : HostPart). IsPort parts host.at) hs → slice_get (map (λ (host : HostPart). host.at) hs) h ≡ Some at → IsPort parts at
guest-at parts [] h at a q = absurd cc
guest-at parts (x ∷ hs) zero at a q = let e : x.at ≡ at = cc in subst (IsPort parts) e a.0
guest-at parts (x ∷ hs) (suc h) at a q = guest-at parts hs h at a.1 q

pub host-near : (parts : Parts) (h : ℕ) (at : PortRef) → IsValid parts → host_port parts h ≡ Some at → at.device < length parts.devices
host-near parts h at v q = (guest-at parts parts.hosts h at (recursion_from_All (λ (host : HostPart). IsPort parts host.at) parts.hosts v.hosts) q).device

pub hops-least : (parts : Parts) (d h : ℕ) (at : PortRef) → IsValid parts → host_port parts h ≡ Some at → AreHops parts d at.device (hops parts d h)
unfolding within
hops-least parts d h at v q = by_count (length parts.devices) refl (host-near parts h at v q)
  where
    size : length (graph_of parts) ≡ length parts.devices
    size = length-map-range_with_len (neighbours_of parts) 0 (length parts.devices)

    of_within : (n : ℕ) → length parts.devices ≡ suc n → at.device < length parts.devices → (o : Option ℕ) → within (graph_of parts) at.device n d ≡ o → AreHops parts d at.device o
    of_within n s l None p = λ walk w.
        reaches-within (graph_of parts) at.device n (length walk) d (is-graph parts v) (omega (arith, l, size)) (size ∙ s) (let k = walk-near parts d at.device walk v l w in omega (arith, k, size)) (walk-reaches parts at.device d walk v w) p
    of_within n s l (Some m) p = let first = first-is (λ y. reaches (graph_of parts) at.device y d) n m p in let walk = reaches-walk parts at.device m d v first.passes in
        record { walk = walk.0; leads = walk.1; size = walk.2; least = λ other w. by_order m other (walk-reaches parts at.device d other v w) first (cases_lt (length other) m) }
      where
        by_order : (m : ℕ) (other : Walk) → reaches (graph_of parts) at.device (length other) d ≡ true → IsFirst (λ y. reaches (graph_of parts) at.device y d) n m → (length other < m) ⊎ (m ≤ length other) → m ≤ length other
        by_order m other r f (inl k) = absurd (apart (reaches (graph_of parts) at.device (length other) d) r (f.first (length other) k))
        by_order m other r f (inr k) = k

    by_count : (k : ℕ) → length parts.devices ≡ k → at.device < length parts.devices → AreHops parts d at.device (hops parts d h)
    by_count zero s l = absurd (omega (arith, s, l))
    by_count (suc n) s l = subst (AreHops parts d at.device) (sym (hops-are parts d h n at v q s)) (of_within n s l (within (graph_of parts) at.device n d) refl)
