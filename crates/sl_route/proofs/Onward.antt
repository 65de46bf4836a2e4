-- How a route goes on.
use Rattle.std.proofs.Common.{◌≡◌, ℕ, zero, suc, ◌<◌, ◌≤◌, List, [], ◌∷◌, length, get_or, refl, sym, ap, ◌∙◌, arith, inl, inr}
use Rattle.std.specs.Prelude.{◌⊎◌, Bool, true, false, cond, ◌&&◌, ◌||◌, ◌==◌, map, filter, min, Option, Some, None, option_and_then}
use Rattle.std.specs.List.{All, AllByRecursion, list_any}
use Rattle.std.proofs.lemmas.Bool.{cases_lt, eq-eqb, eqb-true}
use Rattle.std.proofs.lemmas.List.Elements.{recursion_from_All, All-contains_itself, All-filter, filter_passes}
use Rattle.std.proofs.lemmas.List.Folds.{list_any_at}
use Rattle.sl_parts.specs.declared.parts.PortRef.{PortRef}
use Rattle.sl_parts.specs.declared.parts.CablePart.{CablePart}
use Rattle.sl_parts.specs.Parts.{Parts, below}
use Rattle.sl_parts.specs.Valid.{IsValid}
use Rattle.sl_route.specs.Least.{least, least_in}
use Rattle.sl_route.specs.Route.{cables_from, walks_between, first_nonempty, least_walks, length_of, first_port, host_port, hops, next_port}
use Rattle.sl_route.specs.Graph.{reaches, within, is_at}
use Rattle.sl_route.specs.Walks.{IsCable, LeadsNearer}
use Rattle.sl_route.proofs.Walks.{has, directed, between-suc, has-flat, least-flat}
use Rattle.sl_route.proofs.First.{is_false, IsFirst, first-is, first-at, apart}
use Rattle.sl_route.proofs.Graphs.{graph_of, reaches-is}
use Rattle.sl_route.proofs.Toward.{walks_at, walks-at, hops-are}
use Rattle.sl_route.proofs.Shortest.{host-near, step-is, goes}

-- the cable with the lowest port
pub record Lowest (P : CablePart → Type 0) (o : Option ℕ) : Type 0 where
  pub cable : CablePart
  pub holds : P cable
  pub port : o ≡ Some cable.a.port

lowest-from : (P : CablePart → Type 0) (c : CablePart) (cs : List CablePart) → P c → AllByRecursion P cs → Lowest P (least_in (Some c.a.port) (map (λ c. c.a.port) cs))
lowest-from P c [] p a = record { cable = c; holds = p; port = refl }
lowest-from P c (x ∷ cs) p a = by_order (cases_lt c.a.port x.a.port) (lowest-from P c cs p a.1) (lowest-from P x cs a.0 a.1)
  where
    by_order : (c.a.port < x.a.port) ⊎ (x.a.port ≤ c.a.port) → Lowest P (least_in (Some c.a.port) (map (λ c. c.a.port) cs)) → Lowest P (least_in (Some x.a.port) (map (λ c. c.a.port) cs))
        → Lowest P (least_in (Some (min c.a.port x.a.port)) (map (λ c. c.a.port) cs))
    by_order (inl l) f g = let m : min c.a.port x.a.port ≡ c.a.port = omega (arith, l) in record { cable = f.cable; holds = f.holds; port = ap (λ n. least_in (Some n) (map (λ (c : CablePart). c.a.port) cs)) m ∙ f.port }
    by_order (inr l) f g = let m : min c.a.port x.a.port ≡ x.a.port = omega (arith, l) in record { cable = g.cable; holds = g.holds; port = ap (λ n. least_in (Some n) (map (λ (c : CablePart). c.a.port) cs)) m ∙ g.port }

lowest : (P : CablePart → Type 0) (cs : List CablePart) → has cs ≡ true → AllByRecursion P cs → Lowest P (least (map (λ c. c.a.port) cs))
lowest P [] h a = absurd cc
lowest P (c ∷ cs) h a = let f = lowest-from P c cs a.0 a.1 in let m : min c.a.port c.a.port ≡ c.a.port = omega arith in
    record { cable = f.cable; holds = f.holds; port = ap (λ n. least_in (Some n) (map (λ (c : CablePart). c.a.port) cs)) m ∙ f.port }

any-kept : {A : Type 0} (p : A → Bool) (xs : List A) → list_any p xs ≡ true → has (filter p xs) ≡ true
any-kept p [] h = absurd cc
any-kept p (x ∷ xs) h = by_test (p x) (any-kept p xs) h
  where
    by_test : (b : Bool) → (list_any p xs ≡ true → has (filter p xs) ≡ true) → (b || list_any p xs) ≡ true → has (cond b (x ∷ filter p xs) (filter p xs)) ≡ true
    by_test true ih h = refl
    by_test false ih h = ih h

-- a cable from d by which the walks of suc n cables begin
pub record Begins (parts : Parts) (e n d : ℕ) (c : CablePart) : Type 0 where
  pub is_cable : IsCable parts c
  pub begins : c.a.device ≡ d
  pub reaches_on : reaches (graph_of parts) e n c.b.device ≡ true

abbrev beginning : Parts → ℕ → ℕ → ℕ → List CablePart
beginning parts e n d = filter (λ c. has (walks_between parts c.b.device e n)) (cables_from parts d)

all-begin : (parts : Parts) (e n d : ℕ) → IsValid parts → All (Begins parts e n d) (beginning parts e n d)
all-begin parts e n d v = λ k c l. record {
  is_cable = All-filter on (IsCable parts) (cables_from parts d) (All-filter at (IsCable parts) (directed parts) (All-contains_itself (directed parts))) k c l;
  begins = eqb-true (get_or (beginning parts e n d) k c).a.device d (All-filter on (λ c. (c.a.device == d) ≡ true) (cables_from parts d) (filter_passes at (directed parts)) k c l);
  reaches_on = sym (reaches-is parts e n (get_or (beginning parts e n d) k c).b.device v) ∙ filter_passes on (cables_from parts d) k c l;
}
  where
    on : CablePart → Bool
    on c = has (walks_between parts c.b.device e n)

    at : CablePart → Bool
    at c = c.a.device == d

is-at : (o : Option ℕ) (n : ℕ) → is_at n o ≡ true → o ≡ Some n
is-at None n h = absurd cc
is-at (Some m) n h = ap Some (eqb-true m n h)

goes-on : (parts : Parts) (d h n m : ℕ) (at : PortRef) → IsValid parts → host_port parts h ≡ Some at → length parts.devices ≡ suc m → within (graph_of parts) at.device m d ≡ Some (suc n) → LeadsNearer parts d h n
unfolding within next_port
goes-on parts d h n m at v q s w = record {
  cable = low.cable;
  is_cable = low.holds.is_cable;
  begins = low.holds.begins;
  port = ap (option_and_then (λ at. least (map (first_port at.port) (least_walks parts d at.device)))) q
      ∙ ap (λ k. least (map (first_port at.port) (first_nonempty (map (walks_between parts d at.device) (below k))))) s
      ∙ ap (λ ws. least (map (first_port at.port) ws)) (walks-at parts d at.device m v ∙ ap (walks_at parts d at.device) w ∙ between-suc parts d at.device n)
      ∙ least-flat parts at.port at.device n None (cables_from parts d) ∙ low.port;
  nearer = hops-are parts low.cable.b.device h m at v q s ∙ is-at (within (graph_of parts) at.device m low.cable.b.device) n
      (first-at (λ j. reaches (graph_of parts) at.device j low.cable.b.device) m n (no-earlier low.cable low.holds) (omega (arith, first.within)) ∙ low.holds.reaches_on);
}
  where
    first : IsFirst (λ j. reaches (graph_of parts) at.device j d) m (suc n)
    first = first-is (λ j. reaches (graph_of parts) at.device j d) m (suc n) w

    low : Lowest (Begins parts at.device n d) (least (map (λ c. c.a.port) (beginning parts at.device n d)))
    low = lowest (Begins parts at.device n d) (beginning parts at.device n d)
        (any-kept (λ c. has (walks_between parts c.b.device at.device n)) (cables_from parts d) (sym (has-flat parts at.device n (cables_from parts d)) ∙ ap has (sym (between-suc parts d at.device n)) ∙ reaches-is parts at.device (suc n) d v ∙ first.passes))
        (recursion_from_All (Begins parts at.device n d) (beginning parts at.device n d) (all-begin parts at.device n d v))

    no-earlier : (c : CablePart) → Begins parts at.device n d c → (j : ℕ) → j < n → reaches (graph_of parts) at.device j c.b.device ≡ false
    no-earlier c b j l = is_false (reaches (graph_of parts) at.device j c.b.device) (λ r. apart (reaches (graph_of parts) at.device (suc j) d)
        (step-is parts at.device j d v ∙ list_any_at (goes parts at.device j d) (directed parts) b.is_cable.0 c b.is_cable.1
        (ap (goes parts at.device j d) b.is_cable.2 ∙ ap (λ t. t && reaches (graph_of parts) at.device j c.b.device) (eq-eqb c.a.device d b.begins) ∙ r))
        (first.first (suc j) (omega (arith, l))))

pub next-nearer : (parts : Parts) (d h n : ℕ) → IsValid parts → hops parts d h ≡ Some (suc n) → LeadsNearer parts d h n
unfolding hops
next-nearer parts d h n v w = by_host (host_port parts h) refl w
  where
    by_host : (o : Option PortRef) → host_port parts h ≡ o → option_and_then (λ at. length_of (least_walks parts d at.device)) o ≡ Some (suc n) → LeadsNearer parts d h n
    by_host None q p = absurd cc
    by_host (Some at) q p = by_count (length parts.devices) refl (host-near parts h at v q)
      where
        by_count : (k : ℕ) → length parts.devices ≡ k → at.device < length parts.devices → LeadsNearer parts d h n
        by_count zero s l = absurd (omega (arith, s, l))
        by_count (suc m) s l = goes-on parts d h n m at v q s (sym (hops-are parts d h m at v q s) ∙ w)

pub hops-few : (parts : Parts) (d h n : ℕ) → IsValid parts → hops parts d h ≡ Some n → n < length parts.devices
unfolding hops within
hops-few parts d h n v w = by_host (host_port parts h) refl w
  where
    by_host : (o : Option PortRef) → host_port parts h ≡ o → option_and_then (λ at. length_of (least_walks parts d at.device)) o ≡ Some n → n < length parts.devices
    by_host None q p = absurd cc
    by_host (Some at) q p = by_count (length parts.devices) refl (host-near parts h at v q)
      where
        by_count : (k : ℕ) → length parts.devices ≡ k → at.device < length parts.devices → n < length parts.devices
        by_count zero s l = absurd (omega (arith, s, l))
        by_count (suc m) s l = let first = first-is (λ j. reaches (graph_of parts) at.device j d) m n (sym (hops-are parts d h m at v q s) ∙ w) in omega (arith, s, first.within)
