-- The ports that lead to devices one cable nearer are those by which walks of the least length begin.
use Rattle.std.proofs.Common.{◌≡◌, ℕ, suc, ◌⊎◌, ◌↔◌, List, [], ◌∷◌, ◌++◌, map, length, refl, sym, ap, subst, ◌∙◌, arith, inl, inr}
use Rattle.std.specs.Prelude.{Bool, true, false, ◌&&◌, ◌||◌, ◌==◌, Option, Some, None, IsTrue}
use Rattle.std.specs.List.{list_any, Contains}
use Rattle.std.proofs.lemmas.Bool.{eq-eqb, eqb-true}
use Rattle.sl_parts.specs.declared.parts.PortRef.{PortRef}
use Rattle.sl_parts.specs.declared.parts.CablePart.{CablePart}
use Rattle.sl_parts.specs.Parts.{Parts, same_port}
use Rattle.sl_parts.specs.Lists.{Member}
use Rattle.sl_parts.specs.Valid.{IsValid}
use Rattle.sl_parts.proofs.Lists.{member-left, member-right, member-map, member-parts, member-of-map, place-of-member, inside}
use Rattle.sl_route.specs.Route.{Walk, turned, hops, host_port}
use Rattle.sl_route.specs.Graph.{is_at}
use Rattle.sl_route.specs.Walks.{IsCable, IsWalk, IsLeast, AreHops}
use Rattle.sl_balance.specs.Equal.{leads_on, begins_by, BeginsLeastWalk}

-- Tests on lists.

abbrev Found : (CablePart → Bool) → List CablePart → Type 0
Found p cs = (c : CablePart) × Member c cs × (p c ≡ true)

found : (p : CablePart → Bool) (cs : List CablePart) → list_any p cs ≡ true → Found p cs
found p [] h = absurd cc
found p (c ∷ cs) h = by_test (found p cs) (p c) refl h
  where
    by_test : (list_any p cs ≡ true → Found p cs) → (b : Bool) → p c ≡ b → (b || list_any p cs) ≡ true → Found p (c ∷ cs)
    by_test ih true q k = (c, inl refl, q)
    by_test ih false q k = let r = ih k in (r.0, inr r.1, r.2)

finds : (p : CablePart → Bool) (c : CablePart) (cs : List CablePart) → Member c cs → p c ≡ true → list_any p cs ≡ true
finds p c [] m h = absurd m
finds p c (x ∷ cs) (inl q) h = ap (λ b. b || list_any p cs) (ap p (sym q) ∙ h)
finds p c (x ∷ cs) (inr m) h = go (p x) (finds p c cs m h)
  where
    go : (b : Bool) → list_any p cs ≡ true → (b || list_any p cs) ≡ true
    go true k = refl
    go false k = k

contained : (c : CablePart) (cs : List CablePart) → Member c cs → Contains cs c
contained c cs m = let r = place-of-member c cs m in (r.0, r.1, r.2 c)

member : (c : CablePart) (cs : List CablePart) → Contains cs c → Member c cs
member c cs h = subst (λ (x : CablePart). Member x cs) h.2 (inside cs h.0 c h.1)

both : (a b : Bool) → (a && b) ≡ true → (a ≡ true) × (b ≡ true)
both true b h = (refl, h)
both false b h = absurd cc

either : (a b : Bool) → (a || b) ≡ true → (a ≡ true) ⊎ (b ≡ true)
either true b h = inl refl
either false b h = inr h

at-some : (o : Option ℕ) (n : ℕ) → is_at n o ≡ true → o ≡ Some n
at-some None n h = absurd cc
at-some (Some m) n h = ap Some (eqb-true m n h)

some-at : (o : Option ℕ) (n : ℕ) → o ≡ Some n → is_at n o ≡ true
some-at o n e = ap (is_at n) e ∙ eq-eqb n n refl

-- Walks by one cable more.

abbrev pub Hops : Type 0
Hops = (parts : Parts) (d h : ℕ) (at : PortRef) → IsValid parts → host_port parts h ≡ Some at → AreHops parts d at.device (hops parts d h)

module _ (law : Hops) (parts : Parts) (h : ℕ) (at : PortRef) (valid : IsValid parts) (is : host_port parts h ≡ Some at) where
  -- where a number of hops is told, it is the least
  least_is : (d n : ℕ) → hops parts d h ≡ Some n → IsLeast parts d at.device n
  least_is d n e = subst (AreHops parts d at.device) e (law parts d h at valid is)

  -- a cable to a device that is one cable nearer begins a walk of the least length
  begins : (d n port : ℕ) (c : CablePart) → hops parts d h ≡ Some (suc n) → IsCable parts c → same_port c.a (record { device = d; port = port }) ≡ true → is_at n (hops parts c.b.device h) ≡ true
      → BeginsLeastWalk parts d at.device port
  begins d n port c e cable p q = let ends = both (c.a.device == d) (c.a.port == port) p in
      let onward = least_is c.b.device n (at-some (hops parts c.b.device h) n q) in
      record {
        cable = c;
        others = onward.walk;
        port_is = eqb-true c.a.port port ends.1;
        leads = (cable, eqb-true c.a.device d ends.0, onward.leads);
        least = subst (λ m. IsLeast parts d at.device m) (ap suc (sym onward.size)) (least_is d (suc n) e);
      }

  begun : (d n port : ℕ) → hops parts d h ≡ Some (suc n) → begins_by parts d h n port ≡ true → BeginsLeastWalk parts d at.device port
  begun d n port e t = let r = found (leads_on parts h n (record { device = d; port = port })) parts.cables t in by_side r.0 r.1 (either _ _ r.2)
    where
      by_side : (c : CablePart) → Member c parts.cables → ((same_port c.a (record { device = d; port = port }) && is_at n (hops parts c.b.device h)) ≡ true)
          ⊎ ((same_port c.b (record { device = d; port = port }) && is_at n (hops parts c.a.device h)) ≡ true) → BeginsLeastWalk parts d at.device port
      by_side c m (inl k) = let b = both (same_port c.a (record { device = d; port = port })) (is_at n (hops parts c.b.device h)) k in
          begins d n port c e (contained c _ (member-left c parts.cables (map turned parts.cables) m)) b.0 b.1
      by_side c m (inr k) = let b = both (same_port c.b (record { device = d; port = port })) (is_at n (hops parts c.a.device h)) k in
          begins d n port (turned c) e (contained (turned c) _ (member-right (turned c) parts.cables (map turned parts.cables) (member-map turned c parts.cables m))) b.0 b.1

  -- after the first cable of a walk of the least length one cable fewer is left
  nearer : (d n : ℕ) (c : CablePart) (others : Walk) → hops parts d h ≡ Some (suc n) → IsWalk parts d at.device (c ∷ others) → IsLeast parts d at.device (length (c ∷ others)) → hops parts c.b.device h ≡ Some n
  nearer d n c others e leads least = by_hops (hops parts c.b.device h) refl (law parts c.b.device h at valid is)
    where
      here : IsLeast parts d at.device (suc n)
      here = least_is d (suc n) e

      by_hops : (o : Option ℕ) → hops parts c.b.device h ≡ o → AreHops parts c.b.device at.device o → o ≡ Some n
      by_hops None q far = absurd (far others leads.2)
      by_hops (Some m) q far = let a = far.least others leads.2 in
          let b = here.least (c ∷ far.walk) (leads.0, leads.1, far.leads) in
          let l = least.least here.walk here.leads in
          ap Some (omega (arith, a, b, l, far.size, here.size))

  leads_by : (d n port : ℕ) → hops parts d h ≡ Some (suc n) → BeginsLeastWalk parts d at.device port → begins_by parts d h n port ≡ true
  leads_by d n port e w = by_side (member-parts w.cable parts.cables (map turned parts.cables) (member w.cable (parts.cables ++ map turned parts.cables) w.leads.0))
    where
      p : PortRef
      p = record { device = d; port = port }

      same : same_port w.cable.a (record { device = d; port = port }) ≡ true
      same = ap (λ b. b && (w.cable.a.port == port)) (eq-eqb w.cable.a.device d w.leads.1) ∙ eq-eqb w.cable.a.port port w.port_is

      on : is_at n (hops parts w.cable.b.device h) ≡ true
      on = some-at (hops parts w.cable.b.device h) n (nearer d n w.cable w.others e w.leads w.least)

      first : (a b : Bool) → a ≡ true → b ≡ true → (c : Bool) → ((a && b) || c) ≡ true
      first true true x y c = refl
      first true false x y c = absurd cc
      first false b x y c = absurd cc

      second : (a b : Bool) → a ≡ true → b ≡ true → (c : Bool) → (c || (a && b)) ≡ true
      second a b x y true = refl
      second true true x y false = refl
      second true false x y false = absurd cc
      second false b x y false = absurd cc

      by_side : Member w.cable parts.cables ⊎ Member w.cable (map turned parts.cables) → begins_by parts d h n port ≡ true
      by_side (inl m) = finds (leads_on parts h n (record { device = d; port = port })) w.cable parts.cables m (first _ _ same on _)
      by_side (inr m) = let r = member-of-map turned w.cable parts.cables m in
          finds (leads_on parts h n (record { device = d; port = port })) r.0 parts.cables r.1
          (second _ _ (subst (λ (c : CablePart). same_port c.a (record { device = d; port = port }) ≡ true) r.2 same) (subst (λ (c : CablePart). is_at n (hops parts c.b.device h) ≡ true) r.2 on) _)

  pub both_ways : (d n port : ℕ) → hops parts d h ≡ Some (suc n) → IsTrue (begins_by parts d h n port) ↔ BeginsLeastWalk parts d at.device port
  both_ways d n port e = (begun d n port e, leads_by d n port e)
