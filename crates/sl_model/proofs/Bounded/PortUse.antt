-- Ports of parts without a fault: none is used twice, so a cable's other end and a port's host are its own.
--     Joins cables p q       a cable joins the two ports
use Rattle.std.proofs.Common.{◌+◌, ◌++◌, ◌<◌, ◌==◌, List, None, Option, Some, ap, eq-eqb, inl, inr, length, refl, suc, sym, zero, ℕ, ◌∙◌, ◌∷◌, ◌≡◌, arith, []}
use Rattle.std.specs.Prelude.{Bool, false, map, slice_get, true, ◌⊎◌, if◌then◌else◌, ◌||◌}
use Rattle.std.proofs.lemmas.Bool.{and_from, and_parts, eqb-true, or_left, or_parts, or_right}
use Rattle.sl_parts.specs.Fault.{fault_of, first_clash, has_end, has_guest, reuses_port, takes_used_port}
use Rattle.sl_parts.specs.Parts.{Parts, has_cable, host_from, other_end, same_port}
use Rattle.sl_parts.specs.declared.parts.CablePart.{CablePart}
use Rattle.sl_parts.specs.declared.parts.HostPart.{HostPart}
use Rattle.sl_parts.specs.declared.parts.PortRef.{PortRef}
use Rattle.sl_net.proofs.NetWired.{faultless}

abbrev pub Joins : List CablePart → PortRef → PortRef → Type 0
Joins [] p q = ⊥
Joins (c ∷ cs) p q = ((c.a ≡ p) × (c.b ≡ q)) ⊎ (((c.b ≡ p) × (c.a ≡ q)) ⊎ Joins cs p q)

pub joins-back : (cs : List CablePart) (p q : PortRef) → Joins cs p q → Joins cs q p
joins-back [] p q j = j
joins-back (c ∷ cs) p q (inl k) = inr (inl (k.1, k.0))
joins-back (c ∷ cs) p q (inr (inl k)) = inl (k.1, k.0)
joins-back (c ∷ cs) p q (inr (inr j)) = inr (inr (joins-back cs p q j))

pub same-port-is : (p q : PortRef) → same_port p q ≡ true → p ≡ q
same-port-is p q h = let b = and_parts (p.device == q.device) (p.port == q.port) h in
    ap (λ d. record { device = d; port = p.port }) (eqb-true p.device q.device b.0) ∙ ap (λ n. record { device = q.device; port = n }) (eqb-true p.port q.port b.1)

pub same-port-refl : (p : PortRef) → same_port p p ≡ true
same-port-refl p = and_from (p.device == p.device) (p.port == p.port) (eq-eqb p.device p.device refl) (eq-eqb p.port p.port refl)

-- what the other end says
pub other-joins : (cs : List CablePart) (p q : PortRef) → other_end cs p ≡ Some q → Joins cs p q
other-joins [] p q h = absurd cc
other-joins (c ∷ cs) p q h = by_bool (λ k. other-joins cs p q k) (same_port c.a p) refl (same_port c.b p) refl h
  where
    by_bool : (other_end cs p ≡ Some q → Joins cs p q) → (x : Bool) → same_port c.a p ≡ x → (y : Bool) → same_port c.b p ≡ y → (if x then Some c.b else if y then Some c.a else other_end cs p) ≡ Some q
        → ((c.a ≡ p) × (c.b ≡ q)) ⊎ (((c.b ≡ p) × (c.a ≡ q)) ⊎ Joins cs p q)
    by_bool ih true e y f k = let z : c.b ≡ q = cc in inl (same-port-is c.a p e, z)
    by_bool ih false e true f k = let z : c.a ≡ q = cc in inr (inl (same-port-is c.b p f, z))
    by_bool ih false e false f k = inr (inr (ih k))

-- A port at which a cable ends.

pub joined-end : (cs : List CablePart) (p q : PortRef) → Joins cs p q → has_end cs p ≡ true
joined-end [] p q j = absurd j
joined-end (c ∷ cs) p q (inl k) = or_left (same_port c.a p || same_port c.b p) (has_end cs p) (or_left (same_port c.a p) (same_port c.b p) (ap (λ r. same_port r p) k.0 ∙ same-port-refl p))
joined-end (c ∷ cs) p q (inr (inl k)) = or_left (same_port c.a p || same_port c.b p) (has_end cs p) (or_right (same_port c.a p) (same_port c.b p) (ap (λ r. same_port r p) k.0 ∙ same-port-refl p))
joined-end (c ∷ cs) p q (inr (inr j)) = or_right (same_port c.a p || same_port c.b p) (has_end cs p) (joined-end cs p q j)

-- No cable end is used by an earlier cable.

-- each later cable ends at ports of its own
abbrev pub IsClear : {A : Type 0} → (List A → A → Bool) → List A → List A → Type 0
IsClear t before [] = Unit {0}
IsClear t before (x ∷ xs) = (t before x ≡ false) × IsClear t (before ++ x ∷ []) xs

clear-from : {A : Type 0} (t : List A → A → Bool) (before xs : List A) → first_clash t before xs ≡ None → IsClear t before xs
clear-from t before [] h = tt
clear-from t before (x ∷ xs) h = by_bool (t before x) refl h (clear-from t (before ++ x ∷ []) xs)
  where
    by_bool : (b : Bool) → t before x ≡ b → (if b then Some (length before) else first_clash t (before ++ x ∷ []) xs) ≡ None
        → (first_clash t (before ++ x ∷ []) xs ≡ None → IsClear t (before ++ x ∷ []) xs) → (t before x ≡ false) × IsClear t (before ++ x ∷ []) xs
    by_bool true q k ih = absurd cc
    by_bool false q k ih = (q, ih k)

has-end-front : (xs ys : List CablePart) (p : PortRef) → has_end xs p ≡ true → has_end (xs ++ ys) p ≡ true
has-end-front [] ys p h = absurd cc
has-end-front (c ∷ xs) ys p h = by_bool (same_port c.a p || same_port c.b p) h (has-end-front xs ys p)
  where
    by_bool : (b : Bool) → (b || has_end xs p) ≡ true → (has_end xs p ≡ true → has_end (xs ++ ys) p ≡ true) → (b || has_end (xs ++ ys) p) ≡ true
    by_bool true k ih = refl
    by_bool false k ih = ih k

has-end-last : (xs : List CablePart) (c : CablePart) (p : PortRef) → (same_port c.a p || same_port c.b p) ≡ true → has_end (xs ++ c ∷ []) p ≡ true
has-end-last [] c p h = or_left (same_port c.a p || same_port c.b p) false h
has-end-last (x ∷ xs) c p h = or_right (same_port x.a p || same_port x.b p) (has_end (xs ++ c ∷ []) p) (has-end-last xs c p h)

-- a port used before joins nothing later
clear-none : (before cs : List CablePart) (p q : PortRef) → IsClear reuses_port before cs → has_end before p ≡ true → Joins cs p q → ⊥
clear-none before [] p q k h j = j
clear-none before (c ∷ cs) p q k h (inl e) = let r = or_parts (has_end before c.a) (same_port c.a c.b || has_end before c.b) k.0 in let z : true ≡ false = sym h ∙ ap (has_end before) (sym e.0) ∙ r.0 in cc
clear-none before (c ∷ cs) p q k h (inr (inl e)) = let r = or_parts (has_end before c.a) (same_port c.a c.b || has_end before c.b) k.0 in let t = or_parts (same_port c.a c.b) (has_end before c.b) r.1 in
    let z : true ≡ false = sym h ∙ ap (has_end before) (sym e.0) ∙ t.1 in cc
clear-none before (c ∷ cs) p q k h (inr (inr j)) = clear-none (before ++ c ∷ []) cs p q k.1 (has-end-front before (c ∷ []) p h) j

not-itself : (before : List CablePart) (c : CablePart) → reuses_port before c ≡ false → same_port c.a c.b ≡ false
not-itself before c h = (or_parts (same_port c.a c.b) (has_end before c.b) (or_parts (has_end before c.a) (same_port c.a c.b || has_end before c.b) h).1).0

-- a port joins one other
pub joins-once : (before cs : List CablePart) (p q r : PortRef) → IsClear reuses_port before cs → Joins cs p q → Joins cs p r → q ≡ r
joins-once before [] p q r k i j = absurd i
joins-once before (c ∷ cs) p q r k (inl e) (inl f) = sym e.1 ∙ f.1
joins-once before (c ∷ cs) p q r k (inl e) (inr (inl f)) = absurd (let z : true ≡ false = sym (same-port-refl p) ∙ ap (λ x. same_port x p) (sym e.0) ∙ ap (same_port c.a) (sym f.0) ∙ not-itself before c k.0 in cc)
joins-once before (c ∷ cs) p q r k (inl e) (inr (inr j)) = absurd (clear-none (before ++ c ∷ []) cs p r k.1 (has-end-last before c p (or_left (same_port c.a p) (same_port c.b p) (ap (λ x. same_port x p) e.0 ∙ same-port-refl p))) j)
joins-once before (c ∷ cs) p q r k (inr (inl e)) (inl f) = absurd (let z : true ≡ false = sym (same-port-refl p) ∙ ap (λ x. same_port x p) (sym f.0) ∙ ap (same_port c.a) (sym e.0) ∙ not-itself before c k.0 in cc)
joins-once before (c ∷ cs) p q r k (inr (inl e)) (inr (inl f)) = sym e.1 ∙ f.1
joins-once before (c ∷ cs) p q r k (inr (inl e)) (inr (inr j)) = absurd (clear-none (before ++ c ∷ []) cs p r k.1 (has-end-last before c p (or_right (same_port c.a p) (same_port c.b p) (ap (λ x. same_port x p) e.0 ∙ same-port-refl p))) j)
joins-once before (c ∷ cs) p q r k (inr (inr i)) (inl f) = absurd (clear-none (before ++ c ∷ []) cs p q k.1 (has-end-last before c p (or_left (same_port c.a p) (same_port c.b p) (ap (λ x. same_port x p) f.0 ∙ same-port-refl p))) i)
joins-once before (c ∷ cs) p q r k (inr (inr i)) (inr (inl f)) = absurd (clear-none (before ++ c ∷ []) cs p q k.1 (has-end-last before c p (or_right (same_port c.a p) (same_port c.b p) (ap (λ x. same_port x p) f.0 ∙ same-port-refl p))) i)
joins-once before (c ∷ cs) p q r k (inr (inr i)) (inr (inr j)) = joins-once (before ++ c ∷ []) cs p q r k.1 i j

-- Hosts: none stands at a port of a cable, or of an earlier host.

-- the port of a host
abbrev pub port_at : List HostPart → ℕ → Option PortRef
port_at hs h = slice_get (map (λ host. host.at) hs) h

pub no-cable : (parts : Parts) (before hs : List HostPart) (h : ℕ) (p : PortRef) → IsClear (takes_used_port parts) before hs → port_at hs h ≡ Some p → has_cable parts p ≡ false
no-cable parts before [] h p k q = absurd cc
no-cable parts before (x ∷ hs) zero p k q = let e : x.at ≡ p = cc in ap (has_cable parts) (sym e) ∙ (or_parts (has_cable parts x.at) (has_guest before x.at) k.0).0
no-cable parts before (x ∷ hs) (suc h) p k q = no-cable parts (before ++ x ∷ []) hs h p k.1 q

has-guest-front : (xs ys : List HostPart) (p : PortRef) → has_guest xs p ≡ true → has_guest (xs ++ ys) p ≡ true
has-guest-front [] ys p h = absurd cc
has-guest-front (x ∷ xs) ys p h = by_bool (same_port x.at p) h (has-guest-front xs ys p)
  where
    by_bool : (b : Bool) → (b || has_guest xs p) ≡ true → (has_guest xs p ≡ true → has_guest (xs ++ ys) p ≡ true) → (b || has_guest (xs ++ ys) p) ≡ true
    by_bool true k ih = refl
    by_bool false k ih = ih k

has-guest-last : (xs : List HostPart) (x : HostPart) (p : PortRef) → same_port x.at p ≡ true → has_guest (xs ++ x ∷ []) p ≡ true
has-guest-last [] x p h = or_left (same_port x.at p) false h
has-guest-last (y ∷ xs) x p h = or_right (same_port y.at p) (has_guest (xs ++ x ∷ []) p) (has-guest-last xs x p h)

guests-none : (parts : Parts) (before hs : List HostPart) (h : ℕ) (p : PortRef) → IsClear (takes_used_port parts) before hs → has_guest before p ≡ true → port_at hs h ≡ Some p → ⊥
guests-none parts before [] h p k g q = cc
guests-none parts before (x ∷ hs) zero p k g q = let e : x.at ≡ p = cc in let r = or_parts (has_cable parts x.at) (has_guest before x.at) k.0 in let z : true ≡ false = sym g ∙ ap (has_guest before) (sym e) ∙ r.1 in cc
guests-none parts before (x ∷ hs) (suc h) p k g q = guests-none parts (before ++ x ∷ []) hs h p k.1 (has-guest-front before (x ∷ []) p g) q

-- two hosts at one port are one
pub one-host : (parts : Parts) (before hs : List HostPart) (h i : ℕ) (p : PortRef) → IsClear (takes_used_port parts) before hs → port_at hs h ≡ Some p → port_at hs i ≡ Some p → h ≡ i
one-host parts before [] h i p k q r = absurd cc
one-host parts before (x ∷ hs) zero zero p k q r = refl
one-host parts before (x ∷ hs) zero (suc i) p k q r = let e : x.at ≡ p = cc in absurd (guests-none parts (before ++ x ∷ []) hs i p k.1 (has-guest-last before x p (ap (λ y. same_port y p) e ∙ same-port-refl p)) r)
one-host parts before (x ∷ hs) (suc h) zero p k q r = let e : x.at ≡ p = cc in absurd (guests-none parts (before ++ x ∷ []) hs h p k.1 (has-guest-last before x p (ap (λ y. same_port y p) e ∙ same-port-refl p)) q)
one-host parts before (x ∷ hs) (suc h) (suc i) p k q r = ap suc (one-host parts (before ++ x ∷ []) hs h i p k.1 q r)

-- the host at a port stands there
pub host-at-is : (n : ℕ) (hs : List HostPart) (p : PortRef) (h : ℕ) → host_from n hs p ≡ Some h → (i : ℕ) × ((h ≡ n + i) × (port_at hs i ≡ Some p))
host-at-is n [] p h q = absurd cc
host-at-is n (x ∷ hs) p h q = by_bool (same_port x.at p) refl q (host-at-is (suc n) hs p h)
  where
    by_bool : (b : Bool) → same_port x.at p ≡ b → (if b then Some n else host_from (suc n) hs p) ≡ Some h → (host_from (suc n) hs p ≡ Some h → (i : ℕ) × ((h ≡ suc n + i) × (port_at hs i ≡ Some p)))
        → (i : ℕ) × ((h ≡ n + i) × (port_at (x ∷ hs) i ≡ Some p))
    by_bool true e k ih = let z : n ≡ h = cc in (0, (omega (arith, z), ap Some (same-port-is x.at p e)))
    by_bool false e k ih = let r = ih k in (suc r.0, (omega (arith, r.1.0), r.1.1))

-- All of it, for parts without a fault.
pub record HasOwnPorts (parts : Parts) : Type 0 where
  pub some_device : 0 < length parts.devices
  pub cables : IsClear reuses_port [] parts.cables
  pub hosts : IsClear (takes_used_port parts) [] parts.hosts

pub own-ports : (parts : Parts) → fault_of parts ≡ None → HasOwnPorts parts
own-ports parts h = let e = faultless parts h in record {
  some_device = e.some_device;
  cables = clear-from reuses_port [] parts.cables e.cables_apart;
  hosts = clear-from (takes_used_port parts) [] parts.hosts e.hosts_apart;
}
