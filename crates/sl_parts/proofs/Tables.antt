-- Tables by ports against the definitions' searches.
use Rattle.std.proofs.Common.{◌≡◌, ◌≢◌, ℕ, suc, ◌+◌, ◌<◌, List, [], ◌∷◌, ◌++◌, length, get_or, set, take, drop, refl, sym, ap, subst, ◌∙◌, arith, Bool, true, false, Option, Some, None, inl, inr, add-zero, zero-add, get_or-set_other}
use Rattle.std.proofs.lemmas.List.{length-set}
use Rattle.std.proofs.lemmas.Grind.{get_or-set_at}
use Rattle.std.specs.Prelude.{if◌then◌else◌, ◌&&◌, ◌||◌, not, ◌==◌, ◌⊎◌, is_some, is_none}
use Rattle.std.proofs.lemmas.Bool.{and_parts}
use Rattle.std.proofs.lemmas.Bool.Decides.{eqb_tells}
use Rattle.sl_parts.specs.declared.parts.PortRef.{PortRef}
use Rattle.sl_parts.specs.declared.parts.CablePart.{CablePart}
use Rattle.sl_parts.specs.declared.parts.HostPart.{HostPart}
use Rattle.sl_parts.specs.Parts.{same_port, other_end, host_from}
use Rattle.std.proofs.lemmas.List.{take_more, length-take}
use Rattle.sl_parts.specs.Parts.{Parts, is_used}
use Rattle.sl_parts.specs.Valid.{IsPort, IsValid}
use Rattle.sl_parts.specs.Fault.{has_end, has_guest, reuses_port, takes_used_port, first_clash}
use Rattle.sl_parts.proofs.Clash.{clash_here, clash_later}
use Rattle.sl_parts.specs.Ports.{slot_of, HasEnds, HasGuests, with_cable, IsNear, PortLists, ShowsPorts}

-- Ports.

-- two ports are one, or they differ and so do their places
abbrev AreOne : PortRef → PortRef → Type 0
AreOne p q = (same_port p q ≡ true) × (p ≡ q)

abbrev AreTwo : PortRef → PortRef → Type 0
AreTwo p q = (same_port p q ≡ false) × (p.port < 8 → q.port < 8 → slot_of p ≢ slot_of q)

pub port_tells : (p q : PortRef) → AreOne p q ⊎ AreTwo p q
port_tells p q = by_device (eqb_tells p.device q.device) (eqb_tells p.port q.port)
  where
    by_device : (((p.device == q.device) ≡ true) × (p.device ≡ q.device)) ⊎ (((p.device == q.device) ≡ false) × (p.device ≢ q.device))
        → (((p.port == q.port) ≡ true) × (p.port ≡ q.port)) ⊎ (((p.port == q.port) ≡ false) × (p.port ≢ q.port)) → AreOne p q ⊎ AreTwo p q
    by_device (inl d) (inl e) = inl (rw (d.0, e.0) refl, ap (λ x. record { device = x; port = p.port }) d.1 ∙ ap (λ x. record { device = q.device; port = x }) e.1)
    by_device (inl d) (inr e) = inr (rw (d.0, e.0) refl, λ j k z. e.1 (omega arith))
    by_device (inr d) e = inr (rw d.0 refl, λ j k z. d.1 (omega arith))

-- Cables.

abbrev or_else : {A : Type 0} → Option A → Option A → Option A
or_else None o = o
or_else (Some x) o = Some x

end-append : (cs : List CablePart) (c : CablePart) (p : PortRef) → other_end (cs ++ c ∷ []) p ≡ or_else (other_end cs p) (other_end (c ∷ []) p)
end-append [] c p = refl
end-append (x ∷ cs) c p = by_bools (same_port x.a p) (same_port x.b p) (end-append cs c p)
  where
    by_bools : (a b : Bool) → other_end (cs ++ c ∷ []) p ≡ or_else (other_end cs p) (other_end (c ∷ []) p)
        → (if a then Some x.b else if b then Some x.a else other_end (cs ++ c ∷ []) p) ≡ or_else (if a then Some x.b else if b then Some x.a else other_end cs p) (other_end (c ∷ []) p)
    by_bools true b ih = refl
    by_bools false true ih = refl
    by_bools false false ih = ih

pub has_end-is : (cs : List CablePart) (p : PortRef) → has_end cs p ≡ is_some (other_end cs p)
has_end-is [] p = refl
has_end-is (c ∷ cs) p = by_bools (same_port c.a p) (same_port c.b p) (has_end-is cs p)
  where
    by_bools : (a b : Bool) → has_end cs p ≡ is_some (other_end cs p) → ((a || b) || has_end cs p) ≡ is_some (if a then Some c.b else if b then Some c.a else other_end cs p)
    by_bools true b ih = refl
    by_bools false true ih = refl
    by_bools false false ih = ih

abbrev free_after : List (Option PortRef) → CablePart → Bool
free_after ends c = is_none (get_or (set ends (slot_of c.a) (Some c.b)) (slot_of c.b) None)

-- the cable reuses a port exactly where one of its two places in the table is not free
pub reuses-is : (n : ℕ) (cs : List CablePart) (ends : List (Option PortRef)) (c : CablePart) → HasEnds n cs ends → IsNear n c.a → IsNear n c.b
    → reuses_port cs c ≡ not (is_none (get_or ends (slot_of c.a) None) && free_after ends c)
reuses-is n cs ends c h a b = by_ports (port_tells c.a c.b)
  where
    within : slot_of c.a < length ends
    within = omega (arith, h.size, a.device, a.port)

    at_a : has_end cs c.a ≡ is_some (get_or ends (slot_of c.a) None)
    at_a = has_end-is cs c.a ∙ ap is_some (sym (h.each c.a a.device a.port))

    at_b : has_end cs c.b ≡ is_some (get_or ends (slot_of c.b) None)
    at_b = has_end-is cs c.b ∙ ap is_some (sym (h.each c.b b.device b.port))

    same : (x y z : Bool) → (x || (true || y)) ≡ not (z && false)
    same true y true = refl
    same true y false = refl
    same false y true = refl
    same false y false = refl

    apart : (x y : Option PortRef) → (is_some x || (false || is_some y)) ≡ not (is_none x && is_none y)
    apart None None = refl
    apart None (Some q) = refl
    apart (Some q) y = refl

    by_ports : AreOne c.a c.b ⊎ AreTwo c.a c.b → reuses_port cs c ≡ not (is_none (get_or ends (slot_of c.a) None) && free_after ends c)
    by_ports (inl e) =
        let found : get_or (set ends (slot_of c.a) (Some c.b)) (slot_of c.b) None ≡ Some c.b = get_or-set_at ends (slot_of c.a) (slot_of c.b) (Some c.b) None (sym (ap slot_of e.1)) within in
        ap (λ s. has_end cs c.a || (s || has_end cs c.b)) e.0 ∙ same (has_end cs c.a) (has_end cs c.b) (is_none (get_or ends (slot_of c.a) None))
        ∙ ap (λ o. not (is_none (get_or ends (slot_of c.a) None) && is_none o)) (sym found)
    by_ports (inr d) =
        let other : get_or (set ends (slot_of c.a) (Some c.b)) (slot_of c.b) None ≡ get_or ends (slot_of c.b) None = get_or-set_other ends (slot_of c.a) (slot_of c.b) (Some c.b) None (λ z. d.1 a.port b.port (sym z)) in
        ap (λ s. has_end cs c.a || (s || has_end cs c.b)) d.0 ∙ ap (λ x. x || (false || has_end cs c.b)) at_a ∙ ap (λ x. is_some (get_or ends (slot_of c.a) None) || (false || x)) at_b
        ∙ apart (get_or ends (slot_of c.a) None) (get_or ends (slot_of c.b) None)
        ∙ ap (λ o. not (is_none (get_or ends (slot_of c.a) None) && is_none o)) (sym other)

-- with a cable more, the table shows the cables with it
pub cable_joined : (n : ℕ) (cs : List CablePart) (ends : List (Option PortRef)) (c : CablePart) → HasEnds n cs ends → IsNear n c.a → IsNear n c.b
    → (is_none (get_or ends (slot_of c.a) None) && free_after ends c) ≡ true → HasEnds n (cs ++ c ∷ []) (with_cable ends c)
cable_joined n cs ends c h a b free = record { size = omega (arith, h.size, length-set ends (slot_of c.a) (Some c.b), length-set (set ends (slot_of c.a) (Some c.b)) (slot_of c.b) (Some c.a)); each = each }
  where
    none-of : (o : Option PortRef) → is_none o ≡ true → o ≡ None
    none-of None q = refl
    none-of (Some x) q = absurd cc

    parts : (is_none (get_or ends (slot_of c.a) None) ≡ true) × (free_after ends c ≡ true)
    parts = and_parts (is_none (get_or ends (slot_of c.a) None)) (free_after ends c) free

    within : (p : PortRef) → p.device < n → p.port < 8 → slot_of p < length ends
    within p d k = omega (arith, h.size)

    within_more : (p : PortRef) → p.device < n → p.port < 8 → slot_of p < length (set ends (slot_of c.a) (Some c.b))
    within_more p d k = omega (arith, h.size, length-set ends (slot_of c.a) (Some c.b))

    free_a : get_or ends (slot_of c.a) None ≡ None
    free_a = none-of (get_or ends (slot_of c.a) None) parts.0

    free_b : get_or (set ends (slot_of c.a) (Some c.b)) (slot_of c.b) None ≡ None
    free_b = none-of (get_or (set ends (slot_of c.a) (Some c.b)) (slot_of c.b) None) parts.1

    last : (p : PortRef) → (x y : Bool) → same_port c.a p ≡ x → same_port c.b p ≡ y → other_end (cs ++ c ∷ []) p ≡ or_else (other_end cs p) (if x then Some c.b else if y then Some c.a else None)
    last p x y q r = end-append cs c p ∙ ap (λ x. or_else (other_end cs p) (if x then Some c.b else if same_port c.b p then Some c.a else None)) q
        ∙ ap (λ y. or_else (other_end cs p) (if x then Some c.b else if y then Some c.a else None)) r

    none_after : (o : Option PortRef) → or_else o None ≡ o
    none_after None = refl
    none_after (Some x) = refl

    each : (p : PortRef) → p.device < n → p.port < 8 → get_or (with_cable ends c) (slot_of p) None ≡ other_end (cs ++ c ∷ []) p
    each p d k = by_ports (port_tells c.b p) (port_tells c.a p)
      where
        by_ports : AreOne c.b p ⊎ AreTwo c.b p → AreOne c.a p ⊎ AreTwo c.a p → get_or (with_cable ends c) (slot_of p) None ≡ other_end (cs ++ c ∷ []) p
        by_ports (inl e) (inl f) =
            let one : slot_of c.b ≡ slot_of c.a = ap slot_of (e.1 ∙ sym f.1) in
            let some : get_or (set ends (slot_of c.a) (Some c.b)) (slot_of c.b) None ≡ Some c.b = get_or-set_at ends (slot_of c.a) (slot_of c.b) (Some c.b) None one (within c.a a.device a.port) in
            absurd (let z : Some c.b ≡ None = sym some ∙ free_b in cc)
        by_ports (inl e) (inr f) =
            let at : slot_of p ≡ slot_of c.b = ap slot_of (sym e.1) in
            let first : other_end cs p ≡ None = sym (h.each p d k) ∙ sym (get_or-set_other ends (slot_of c.a) (slot_of p) (Some c.b) None (λ z. f.1 a.port k (sym z))) ∙ ap (λ i. get_or (set ends (slot_of c.a) (Some c.b)) i None) at ∙ free_b in
            get_or-set_at (set ends (slot_of c.a) (Some c.b)) (slot_of c.b) (slot_of p) (Some c.a) None at (within_more c.b b.device b.port)
            ∙ sym (last p false true f.0 e.0 ∙ ap (λ o. or_else o (Some c.a)) first)
        by_ports (inr e) (inl f) =
            let at : slot_of p ≡ slot_of c.a = ap slot_of (sym f.1) in
            let first : other_end cs p ≡ None = sym (h.each p d k) ∙ ap (λ i. get_or ends i None) at ∙ free_a in
            get_or-set_other (set ends (slot_of c.a) (Some c.b)) (slot_of c.b) (slot_of p) (Some c.a) None (λ z. e.1 b.port k (sym z))
            ∙ get_or-set_at ends (slot_of c.a) (slot_of p) (Some c.b) None at (within c.a a.device a.port)
            ∙ sym (last p true false f.0 e.0 ∙ ap (λ o. or_else o (Some c.b)) first)
        by_ports (inr e) (inr f) =
            get_or-set_other (set ends (slot_of c.a) (Some c.b)) (slot_of c.b) (slot_of p) (Some c.a) None (λ z. e.1 b.port k (sym z))
            ∙ get_or-set_other ends (slot_of c.a) (slot_of p) (Some c.b) None (λ z. f.1 a.port k (sym z))
            ∙ h.each p d k ∙ sym (last p false false f.0 e.0 ∙ none_after (other_end cs p))

-- Hosts.

host-append : (n : ℕ) (hs : List HostPart) (h : HostPart) (p : PortRef) → host_from n (hs ++ h ∷ []) p ≡ or_else (host_from n hs p) (if same_port h.at p then Some (n + length hs) else None)
host-append n [] h p = ap (λ i. if same_port h.at p then Some i else None) (sym (add-zero n))
host-append n (x ∷ hs) h p = by_bool (same_port x.at p) (host-append (suc n) hs h p ∙ ap (λ i. or_else (host_from (suc n) hs p) (if same_port h.at p then Some i else None)) (omega arith))
  where
    by_bool : (b : Bool) → host_from (suc n) (hs ++ h ∷ []) p ≡ or_else (host_from (suc n) hs p) (if same_port h.at p then Some (n + suc (length hs)) else None)
        → (if b then Some n else host_from (suc n) (hs ++ h ∷ []) p) ≡ or_else (if b then Some n else host_from (suc n) hs p) (if same_port h.at p then Some (n + suc (length hs)) else None)
    by_bool true ih = refl
    by_bool false ih = ih

pub has_guest-is : (n : ℕ) (hs : List HostPart) (p : PortRef) → has_guest hs p ≡ is_some (host_from n hs p)
has_guest-is n [] p = refl
has_guest-is n (h ∷ hs) p = by_bool (same_port h.at p) (has_guest-is (suc n) hs p)
  where
    by_bool : (b : Bool) → has_guest hs p ≡ is_some (host_from (suc n) hs p) → (b || has_guest hs p) ≡ is_some (if b then Some n else host_from (suc n) hs p)
    by_bool true ih = refl
    by_bool false ih = ih

-- with a host more at a free port, the table shows the hosts with it
pub host_seated : (n : ℕ) (hs : List HostPart) (guests : List (Option ℕ)) (h : HostPart) → HasGuests n hs guests → IsNear n h.at → get_or guests (slot_of h.at) None ≡ None
    → HasGuests n (hs ++ h ∷ []) (set guests (slot_of h.at) (Some (length hs)))
host_seated n hs guests h g a free = record { size = omega (arith, g.size, length-set guests (slot_of h.at) (Some (length hs))); each = each }
  where
    none_after : (o : Option ℕ) → or_else o None ≡ o
    none_after None = refl
    none_after (Some x) = refl

    within : slot_of h.at < length guests
    within = omega (arith, g.size, a.device, a.port)

    last : (p : PortRef) → (x : Bool) → same_port h.at p ≡ x → host_from 0 (hs ++ h ∷ []) p ≡ or_else (host_from 0 hs p) (if x then Some (length hs) else None)
    last p x q = host-append 0 hs h p ∙ ap (λ x. or_else (host_from 0 hs p) (if x then Some (0 + length hs) else None)) q ∙ ap (λ i. or_else (host_from 0 hs p) (if x then Some i else None)) (zero-add (length hs))

    each : (p : PortRef) → p.device < n → p.port < 8 → get_or (set guests (slot_of h.at) (Some (length hs))) (slot_of p) None ≡ host_from 0 (hs ++ h ∷ []) p
    each p d k = by_ports (port_tells h.at p)
      where
        by_ports : AreOne h.at p ⊎ AreTwo h.at p → get_or (set guests (slot_of h.at) (Some (length hs))) (slot_of p) None ≡ host_from 0 (hs ++ h ∷ []) p
        by_ports (inl e) =
            let at : slot_of p ≡ slot_of h.at = ap slot_of (sym e.1) in
            let first : host_from 0 hs p ≡ None = sym (g.each p d k) ∙ ap (λ i. get_or guests i None) at ∙ free in
            get_or-set_at guests (slot_of h.at) (slot_of p) (Some (length hs)) None at within ∙ sym (last p true e.0 ∙ ap (λ o. or_else o (Some (length hs))) first)
        by_ports (inr e) =
            get_or-set_other guests (slot_of h.at) (slot_of p) (Some (length hs)) None (λ z. e.1 a.port k (sym z)) ∙ g.each p d k ∙ sym (last p false e.0 ∙ none_after (host_from 0 hs p))

-- Steps of the loops.

pub near : (parts : Parts) (p : PortRef) → IsValid parts → IsPort parts p → IsNear (length parts.devices) p
near parts p v q = record { device = q.device; port = omega (arith, q.port, v.ports p.device) }

pub cable_clash : (n i : ℕ) (cs : List CablePart) (ends : List (Option PortRef)) (c : CablePart) (r : Bool) → HasEnds n (take i cs) ends → IsNear n c.a → IsNear n c.b
    → r ≡ (is_none (get_or ends (slot_of c.a) None) && free_after ends c) → r ≡ false → reuses_port (take i cs) c ≡ true
cable_clash n i cs ends c r h a b q z = reuses-is n (take i cs) ends c h a b ∙ ap not (sym q ∙ z)

pub cable_fits : (n i : ℕ) (cs : List CablePart) (ends : List (Option PortRef)) (c : CablePart) (r : Bool) → HasEnds n (take i cs) ends → IsNear n c.a → IsNear n c.b
    → r ≡ (is_none (get_or ends (slot_of c.a) None) && free_after ends c) → r ≡ true → reuses_port (take i cs) c ≡ false
cable_fits n i cs ends c r h a b q z = reuses-is n (take i cs) ends c h a b ∙ ap not (sym q ∙ z)

pub cable_added : (n i : ℕ) (cs : List CablePart) (ends : List (Option PortRef)) (d : CablePart) (r : Bool) → i < length cs → HasEnds n (take i cs) ends → IsNear n (get_or cs i d).a → IsNear n (get_or cs i d).b
    → r ≡ (is_none (get_or ends (slot_of (get_or cs i d).a) None) && free_after ends (get_or cs i d)) → r ≡ true → HasEnds n (take (i + 1) cs) (with_cable ends (get_or cs i d))
cable_added n i cs ends d r k h a b q z = subst (λ xs. HasEnds n xs (with_cable ends (get_or cs i d))) (sym (take_more cs i d k)) (cable_joined n (take i cs) ends (get_or cs i d) h a b (sym q ∙ z))

-- what a host's step starts from: the tables, and the host at its place
pub record HostStep (parts : Parts) (i : ℕ) (ends : List (Option PortRef)) (guests : List (Option ℕ)) (h : HostPart) (free : Bool) : Type 0 where
  pub valid : IsValid parts
  pub ends_are : HasEnds (length parts.devices) parts.cables ends
  pub guests_are : HasGuests (length parts.devices) (take i parts.hosts) guests
  pub within : i < length parts.hosts
  pub is : h ≡ get_or parts.hosts i h
  pub free_is : free ≡ (is_none (get_or ends (slot_of h.at) None) && is_none (get_or guests (slot_of h.at) None))

-- the step at a host of a list that is the parts'
pub host_step : (parts : Parts) (i : ℕ) (ends : List (Option PortRef)) (guests : List (Option ℕ)) (hosts : List HostPart) (h : HostPart) (free : Bool) → IsValid parts
    → HasEnds (length parts.devices) parts.cables ends → HasGuests (length parts.devices) (take i parts.hosts) guests → hosts ≡ parts.hosts → i < length hosts → h ≡ get_or hosts i h
    → free ≡ (is_none (get_or ends (slot_of h.at) None) && is_none (get_or guests (slot_of h.at) None)) → HostStep parts i ends guests h free
host_step parts i ends guests hosts h free valid ends_are guests_are same within is free_is =
    record { valid = valid; ends_are = ends_are; guests_are = guests_are; within = subst (λ hs. i < length hs) same within; is = rw same at is; free_is = free_is }

host_near : {parts : Parts} {i : ℕ} {ends : List (Option PortRef)} {guests : List (Option ℕ)} {h : HostPart} {free : Bool} → HostStep parts i ends guests h free → IsNear (length parts.devices) h.at
host_near {parts} {i} {h = h} s = near parts h.at s.valid (subst (λ x. IsPort parts x.at) (sym s.is) (s.valid.hosts i h s.within))

takes-is : {parts : Parts} {i : ℕ} {ends : List (Option PortRef)} {guests : List (Option ℕ)} {h : HostPart} {free : Bool} → HostStep parts i ends guests h free
    → takes_used_port parts (take i parts.hosts) (get_or parts.hosts i h) ≡ not free
takes-is {parts} {i} {ends} {guests} {h} {free} s =
    ap (takes_used_port parts (take i parts.hosts)) (sym s.is)
    ∙ ap (λ b. b || has_guest (take i parts.hosts) h.at) (has_end-is parts.cables h.at ∙ ap is_some (sym (s.ends_are.each h.at n.device n.port)))
    ∙ ap (λ b. is_some (get_or ends (slot_of h.at) None) || b) (has_guest-is 0 (take i parts.hosts) h.at ∙ ap is_some (sym (s.guests_are.each h.at n.device n.port)))
    ∙ either (get_or ends (slot_of h.at) None) (get_or guests (slot_of h.at) None) ∙ ap not (sym s.free_is)
  where
    n : IsNear (length parts.devices) h.at
    n = host_near s

    either : (x : Option PortRef) (y : Option ℕ) → (is_some x || is_some y) ≡ not (is_none x && is_none y)
    either None None = refl
    either None (Some y) = refl
    either (Some x) y = refl

pub host_clash : {parts : Parts} {i : ℕ} {ends : List (Option PortRef)} {guests : List (Option ℕ)} {h : HostPart} {free : Bool} → HostStep parts i ends guests h free → free ≡ false
    → first_clash (takes_used_port parts) (take i parts.hosts) (drop i parts.hosts) ≡ Some i
host_clash {parts} {i} {h = h} s z = clash_here (takes_used_port parts) parts.hosts i h s.within (takes-is s ∙ ap not z)

pub host_fits : {parts : Parts} {i : ℕ} {ends : List (Option PortRef)} {guests : List (Option ℕ)} {h : HostPart} {free : Bool} → HostStep parts i ends guests h free → free ≡ true
    → first_clash (takes_used_port parts) (take (i + 1) parts.hosts) (drop (i + 1) parts.hosts) ≡ first_clash (takes_used_port parts) (take i parts.hosts) (drop i parts.hosts)
host_fits {parts} {i} {h = h} s z = clash_later (takes_used_port parts) parts.hosts i h s.within (takes-is s ∙ ap not z)

pub host_added : {parts : Parts} {i : ℕ} {ends : List (Option PortRef)} {guests : List (Option ℕ)} {h : HostPart} {free : Bool} → HostStep parts i ends guests h free → free ≡ true
    → HasGuests (length parts.devices) (take (i + 1) parts.hosts) (set guests (slot_of h.at) (Some i))
host_added {parts} {i} {ends} {guests} {h} s z =
    subst (λ hs. HasGuests (length parts.devices) hs (set guests (slot_of h.at) (Some i))) (sym (take_more parts.hosts i h s.within))
    (subst (λ x. HasGuests (length parts.devices) (take i parts.hosts ++ x ∷ []) (set guests (slot_of h.at) (Some i))) s.is
    (subst (λ k. HasGuests (length parts.devices) (take i parts.hosts ++ h ∷ []) (set guests (slot_of h.at) (Some k))) few
    (host_seated (length parts.devices) (take i parts.hosts) guests h s.guests_are (host_near s) (none-of (get_or guests (slot_of h.at) None) (and_parts (is_none (get_or ends (slot_of h.at) None)) (is_none (get_or guests (slot_of h.at) None)) (sym s.free_is ∙ z)).1))))
  where
    few : length (take i parts.hosts) ≡ i
    few = omega (arith, length-take i parts.hosts, s.within)

    none-of : (o : Option ℕ) → is_none o ≡ true → o ≡ None
    none-of None q = refl
    none-of (Some x) q = absurd cc

-- a port is used where one of its two places in the tables is not empty
pub used-is : (parts : Parts) (t : PortLists) (p : PortRef) → ShowsPorts parts t → p.device < length parts.devices → p.port < 8
    → (is_some (get_or t.ends (slot_of p) None) || is_some (get_or t.guests (slot_of p) None)) ≡ is_used parts p
used-is parts t p s d k =
    ap (λ o. is_some o || is_some (get_or t.guests (slot_of p) None)) (s.ends.each p d k)
    ∙ ap (λ o. is_some (other_end parts.cables p) || is_some o) (s.guests.each p d k)
    ∙ sym (ap (λ b. b || has_guest parts.hosts p) (has_end-is parts.cables p) ∙ ap (λ b. is_some (other_end parts.cables p) || b) (has_guest-is 0 parts.hosts p))
