-- The search against the definition by walks.
use Rattle.std.proofs.Common.{◌≡◌, ℕ, zero, suc, ◌+◌, ◌<◌, ◌≤◌, List, [], ◌∷◌, ◌++◌, length, get_or, take, refl, sym, ap, subst, ◌∙◌, arith, append-nil, add-one, zero-add}
use Rattle.std.specs.Prelude.{Bool, true, false, cond, ◌&&◌, ◌||◌, ◌==◌, map, filter, flat_map, Option, Some, None, is_none, min, unwrap_or, option_and_then, slice_get}
use Rattle.std.specs.List.{AllByRecursion, list_any}
use Rattle.std.proofs.lemmas.List.{map-append}
use Rattle.std.proofs.lemmas.List.Elements.{All-same, filter_more, recursion_from_All}
use Rattle.std.proofs.lemmas.List.FromFn.{length-map-range_with_len, fill_by_all, map-range_with_len_more}
use Rattle.sl_parts.specs.declared.parts.PortRef.{PortRef}
use Rattle.sl_parts.specs.declared.parts.CablePart.{CablePart}
use Rattle.sl_parts.specs.declared.parts.HostPart.{HostPart}
use Rattle.sl_parts.specs.Parts.{Parts, below}
use Rattle.sl_parts.specs.Valid.{IsValid, IsPort}
use Rattle.sl_layout.proofs.Grouping.{map_same}
use Rattle.sl_route.specs.declared.neighbours.Neighbour.{Neighbour}
use Rattle.sl_route.specs.Least.{least, least_in}
use Rattle.sl_route.specs.Route.{Walk, cables_from, walks_between, first_nonempty, least_walks, length_of, first_port, host_port, hops, next_port}
use Rattle.sl_route.specs.Graph.{Graph, neighbour_by, neighbours_of, neighbours_at, reaches, within, is_at, IsFar, ports_to, port_toward}
use Rattle.sl_route.specs.Ways.{Ways}
use Rattle.sl_route.specs.Routes.{ways_of}
use Rattle.sl_route.proofs.Walks.{has, extended, between-suc, least-flat}
use Rattle.sl_route.proofs.First.{first-is, first-at}
use Rattle.sl_route.proofs.Graphs.{graph_of, row-is, reaches-is, is-graph}

-- The walks of the least length.

-- those of a length, where there is one
abbrev pub walks_at : Parts → ℕ → ℕ → Option ℕ → List Walk
walks_at parts d e None = []
walks_at parts d e (Some n) = walks_between parts d e n

nonempty-snoc : {A : Type 0} (xss : List (List A)) (ys : List A) → first_nonempty (xss ++ ys ∷ []) ≡ cond (has (first_nonempty xss)) (first_nonempty xss) ys
nonempty-snoc [] [] = refl
nonempty-snoc [] (y ∷ ys) = refl
nonempty-snoc ([] ∷ xss) ys = nonempty-snoc xss ys
nonempty-snoc ((x ∷ xs) ∷ xss) ys = refl

has-none : {A : Type 0} (xs : List A) → has xs ≡ false → xs ≡ []
has-none [] h = refl
has-none (x ∷ xs) h = absurd cc

-- one length more
longer : (parts : Parts) (d e n : ℕ) (o : Option ℕ) (b : Bool) → has (walks_between parts d e n) ≡ b → has (walks_at parts d e o) ≡ (let r : Bool = cond (is_none o) false true in r)
    → cond (has (walks_at parts d e o)) (walks_at parts d e o) (walks_between parts d e n) ≡ walks_at parts d e (cond (is_none o && b) (Some n) o)
longer parts d e n None true h k = refl
longer parts d e n None false h k = has-none (walks_between parts d e n) h
longer parts d e n (Some m) b h k = ap (λ t. cond t (walks_between parts d e m) (walks_between parts d e n)) k

has-at : (parts : Parts) (d e n : ℕ) (o : Option ℕ) → IsValid parts → within (graph_of parts) e n d ≡ o → has (walks_at parts d e o) ≡ cond (is_none o) false true
unfolding within
has-at parts d e n None v h = refl
has-at parts d e n (Some m) v h = reaches-is parts e m d v ∙ (first-is (λ k. reaches (graph_of parts) e k d) n m h).passes

pub walks-at : (parts : Parts) (d e n : ℕ) → IsValid parts → first_nonempty (map (walks_between parts d e) (below (suc n))) ≡ walks_at parts d e (within (graph_of parts) e n d)
unfolding within
walks-at parts d e zero v = by_test (d == e) refl
  where
    by_test : (b : Bool) → (d == e) ≡ b → first_nonempty (cond {A = List Walk} b ([] ∷ []) [] ∷ []) ≡ walks_at parts d e (cond b (Some 0) None)
    by_test true q = sym (ap (λ b. cond {A = List Walk} b ([] ∷ []) []) q)
    by_test false q = refl
walks-at parts d e (suc n) v =
    ap (λ k. first_nonempty (map (walks_between parts d e) (below k))) (sym (add-one (suc n)))
    ∙ ap first_nonempty (map-range_with_len_more (walks_between parts d e) 0 (suc n) (suc n) (zero-add (suc n)))
    ∙ nonempty-snoc (map (walks_between parts d e) (below (suc n))) (walks_between parts d e (suc n))
    ∙ ap (λ ws. cond (has ws) ws (walks_between parts d e (suc n))) (walks-at parts d e n v)
    ∙ longer parts d e (suc n) (within (graph_of parts) e n d) (reaches (graph_of parts) e (suc n) d) (reaches-is parts e (suc n) d v) (has-at parts d e n (within (graph_of parts) e n d) v refl)

-- each walk of n cables has the length n
flat-length : (parts : Parts) (e n : ℕ) (cs : List CablePart) → ((d : ℕ) → has (walks_between parts d e n) ≡ true → length_of (walks_between parts d e n) ≡ Some n)
    → has (flat_map (extended parts e n) cs) ≡ true → length_of (flat_map (extended parts e n) cs) ≡ Some (suc n)
flat-length parts e n [] f h = absurd cc
flat-length parts e n (c ∷ cs) f h = by_walks (walks_between parts c.b.device e n) (f c.b.device) (flat-length parts e n cs f) h
  where
    by_walks : (ws : List Walk) → (has ws ≡ true → length_of ws ≡ Some n) → (has (flat_map (extended parts e n) cs) ≡ true → length_of (flat_map (extended parts e n) cs) ≡ Some (suc n))
        → has (map (λ walk. c ∷ walk) ws ++ flat_map (extended parts e n) cs) ≡ true → length_of (map (λ walk. c ∷ walk) ws ++ flat_map (extended parts e n) cs) ≡ Some (suc n)
    by_walks [] g ih h = ih h
    by_walks (w ∷ ws) g ih h = let k : Some (length w) ≡ Some n = g refl in let j : length w ≡ n = cc in ap (λ m. Some (suc m)) j

length-between : (parts : Parts) (e n d : ℕ) → has (walks_between parts d e n) ≡ true → length_of (walks_between parts d e n) ≡ Some n
length-between parts e zero d h = by_test (d == e) h
  where
    by_test : (b : Bool) → has (cond {A = List Walk} b ([] ∷ []) []) ≡ true → length_of (cond {A = List Walk} b ([] ∷ []) []) ≡ Some 0
    by_test true h = refl
    by_test false h = absurd cc
length-between parts e (suc n) d h = ap length_of (between-suc parts d e n)
    ∙ flat-length parts e n (cables_from parts d) (length-between parts e n) (ap has (sym (between-suc parts d e n)) ∙ h)

length-at : (parts : Parts) (d e : ℕ) (o : Option ℕ) → has (walks_at parts d e o) ≡ cond (is_none o) false true → length_of (walks_at parts d e o) ≡ o
length-at parts d e None h = refl
length-at parts d e (Some n) h = length-between parts e n d h

-- The next port.

ports-map : (q : Neighbour → Bool) (cs : List CablePart) → map (λ k. k.port) (filter q (map neighbour_by cs)) ≡ map (λ c. c.a.port) (filter (λ c. q (neighbour_by c)) cs)
ports-map q [] = refl
ports-map q (c ∷ cs) = elim (q (neighbour_by c)) as (λ b. map (λ k. k.port) (cond b (neighbour_by c ∷ filter q (map neighbour_by cs)) (filter q (map neighbour_by cs))) ≡ map (λ c. c.a.port) (cond b (c ∷ filter (λ c. q (neighbour_by c)) cs) (filter (λ c. q (neighbour_by c)) cs)))
    [ true ↦ ap (λ r. c.a.port ∷ r) (ports-map q cs) | false ↦ ports-map q cs ]

or-false : (a b : Bool) → (a || b) ≡ false → (a ≡ false) × (b ≡ false)
or-false true b h = absurd cc
or-false false b h = (refl, h)

-- among the neighbours of a device that is suc k away, those that reach e by k cables are k away
agree : (g : Graph) (e n k : ℕ) (far : List (Option ℕ)) (cs : List CablePart) → IsFar g e far → length g ≡ suc n → k ≤ n → AllByRecursion (λ x. x.device < length g) (map neighbour_by cs)
    → ((m : ℕ) → m < k → list_any (λ x. reaches g e m x.device) (map neighbour_by cs) ≡ false)
    → filter (λ c. reaches g e k c.b.device) cs ≡ filter (λ c. is_at k (get_or far c.b.device None)) cs
unfolding within
agree g e n k far [] f s l a h = refl
agree g e n k far (c ∷ cs) f s l a h = let x = c.b.device in
    let here : is_at k (get_or far x None) ≡ reaches g e k x =
    ap (is_at k) (f.each x a.0 n s) ∙ first-at (λ m. reaches g e m x) n k (λ m j. (or-false (reaches g e m x) (list_any (λ y. reaches g e m y.device) (map neighbour_by cs)) (h m j)).0) l in
    let rest = agree g e n k far cs f s l a.1 (λ m j. (or-false (reaches g e m x) (list_any (λ y. reaches g e m y.device) (map neighbour_by cs)) (h m j)).1) in
    ap (λ b. cond b (c ∷ filter (λ c. reaches g e k c.b.device) cs) (filter (λ c. reaches g e k c.b.device) cs)) (sym here) ∙ ap (λ r. cond (is_at k (get_or far x None)) (c ∷ r) r) rest

filter-has : (parts : Parts) (e k : ℕ) (cs : List CablePart) → IsValid parts → filter (λ c. has (walks_between parts c.b.device e k)) cs ≡ filter (λ c. reaches (graph_of parts) e k c.b.device) cs
filter-has parts e k [] v = refl
filter-has parts e k (c ∷ cs) v = ap (λ b. cond b (c ∷ filter (λ c. has (walks_between parts c.b.device e k)) cs) (filter (λ c. has (walks_between parts c.b.device e k)) cs)) (reaches-is parts e k c.b.device v)
    ∙ ap (λ r. cond (reaches (graph_of parts) e k c.b.device) (c ∷ r) r) (filter-has parts e k cs v)

own-port : (own : ℕ) (b : Bool) → has (cond {A = List Walk} b ([] ∷ []) []) ≡ true → least (map (first_port own) (cond {A = List Walk} b ([] ∷ []) [])) ≡ Some own
own-port own true h = let m : min own own ≡ own = omega arith in ap Some m
own-port own false h = absurd cc

port-at : (parts : Parts) (own d e n : ℕ) (far : List (Option ℕ)) (o : Option ℕ) → IsValid parts → IsFar (graph_of parts) e far → length (graph_of parts) ≡ suc n → within (graph_of parts) e n d ≡ o
    → least (map (first_port own) (walks_at parts d e o)) ≡ port_toward own far (neighbours_at (graph_of parts) d) o
unfolding within
port-at parts own d e n far None v f s h = refl
port-at parts own d e n far (Some zero) v f s h = own-port own (d == e) (has-at parts d e n (Some 0) v h)
port-at parts own d e n far (Some (suc k)) v f s h = let g = graph_of parts in let first = first-is (λ m. reaches g e m d) n (suc k) h in
    ap (λ ws. least (map (first_port own) ws)) (between-suc parts d e k) ∙ least-flat parts own e k None (cables_from parts d)
    ∙ ap (λ cs. least (map (λ (c : CablePart). c.a.port) cs)) (filter-has parts e k (cables_from parts d) v
    ∙ agree g e n k far (cables_from parts d) f s (omega (arith, first.within))
    (recursion_from_All (λ x. x.device < length g) (neighbours_of parts d) (All-same (λ x. x.device < length g) (neighbours_of parts d) (neighbours_at g d) (sym (row-is parts d v)) ((is-graph parts v).near d)))
    (λ m j. ap (list_any (λ x. reaches g e m x.device)) (sym (row-is parts d v)) ∙ first.first (suc m) (omega (arith, j))))
    ∙ ap least (sym (ports-map (λ x. is_at k (get_or far x.device None)) (cables_from parts d)))
    ∙ ap (λ ks. least (ports_to ks far k)) (sym (row-is parts d v))

-- The ways to a host.

pub hops-are : (parts : Parts) (d h n : ℕ) (at : PortRef) → IsValid parts → host_port parts h ≡ Some at → length parts.devices ≡ suc n → hops parts d h ≡ within (graph_of parts) at.device n d
unfolding hops
hops-are parts d h n at v q s = ap (option_and_then (λ at. length_of (least_walks parts d at.device))) q ∙ ap (λ k. length_of (first_nonempty (map (walks_between parts d at.device) (below k)))) s
    ∙ ap length_of (walks-at parts d at.device n v) ∙ length-at parts d at.device (within (graph_of parts) at.device n d) (has-at parts d at.device n (within (graph_of parts) at.device n d) v refl)

port-is : (parts : Parts) (d h n : ℕ) (at : PortRef) (far : List (Option ℕ)) → IsValid parts → host_port parts h ≡ Some at → length parts.devices ≡ suc n → IsFar (graph_of parts) at.device far
    → next_port parts d h ≡ port_toward at.port far (neighbours_at (graph_of parts) d) (within (graph_of parts) at.device n d)
unfolding next_port
port-is parts d h n at far v q s f = ap (option_and_then (λ at. least (map (first_port at.port) (least_walks parts d at.device)))) q
    ∙ ap (λ k. least (map (first_port at.port) (first_nonempty (map (walks_between parts d at.device) (below k))))) s
    ∙ ap (λ ws. least (map (first_port at.port) ws)) (walks-at parts d at.device n v)
    ∙ port-at parts at.port d at.device n far (within (graph_of parts) at.device n d) v f (length-map-range_with_len (neighbours_of parts) 0 (length parts.devices) ∙ s) refl

pub ways-are : (parts : Parts) (h : ℕ) (at : PortRef) (ways : Ways) → IsValid parts → host_port parts h ≡ Some at → at.device < length parts.devices → IsFar (graph_of parts) at.device ways.hops
    → ways.ports ≡ map (λ d. port_toward at.port ways.hops (neighbours_at (graph_of parts) d) (get_or ways.hops d None)) (below (length (graph_of parts))) → ways ≡ ways_of parts h
unfolding ways_of
ways-are parts h at ways v q l f p = by_count (length parts.devices) refl l
  where
    size : length (graph_of parts) ≡ length parts.devices
    size = length-map-range_with_len (neighbours_of parts) 0 (length parts.devices)

    far-is : (n d : ℕ) → length parts.devices ≡ suc n → d < length parts.devices → get_or ways.hops d None ≡ within (graph_of parts) at.device n d
    far-is n d s k = f.each d (omega (arith, k, size)) n (size ∙ s)

    by_count : (m : ℕ) → length parts.devices ≡ m → at.device < m → ways ≡ record { ports = map (λ d. next_port parts d h) (below (length parts.devices)); hops = map (λ d. hops parts d h) (below (length parts.devices)) }
    by_count zero s l = absurd (omega (arith, l))
    by_count (suc n) s l =
        ap (λ ps. record { ports = ps; hops = ways.hops }) (p ∙ ap (λ k. map (λ d. port_toward at.port ways.hops (neighbours_at (graph_of parts) d) (get_or ways.hops d None)) (below k)) size
        ∙ map_same (λ d. port_toward at.port ways.hops (neighbours_at (graph_of parts) d) (get_or ways.hops d None)) (λ d. next_port parts d h) (length parts.devices)
        (λ d k. ap (port_toward at.port ways.hops (neighbours_at (graph_of parts) d)) (far-is n d s k) ∙ sym (port-is parts d h n at ways.hops v q s f)))
        ∙ ap (λ hs. record { ports = map (λ d. next_port parts d h) (below (length parts.devices)); hops = hs })
        (fill_by_all (λ d. hops parts d h) ways.hops (length parts.devices) None (f.size ∙ size) (λ d k. far-is n d s k ∙ sym (hops-are parts d h n at v q s)))

pub host-at : (hs : List HostPart) (i : ℕ) (h : HostPart) → i < length hs → h ≡ get_or hs i h → slice_get (map (λ host. host.at) hs) i ≡ Some h.at
host-at [] i h l q = absurd (omega (arith, l))
host-at (x ∷ hs) zero h l q = ap (λ (host : HostPart). Some host.at) (sym q)
host-at (x ∷ hs) (suc i) h l q = host-at hs i h (omega (arith, l)) q

-- a host of a list that is the parts' stands at one of their ports
pub record IsHost (parts : Parts) (i : ℕ) (h : HostPart) : Type 0 where
  pub within : i < length parts.hosts
  pub is : h ≡ get_or parts.hosts i h
  pub port : IsPort parts h.at

pub is-host : (parts : Parts) (hosts : List HostPart) (i : ℕ) (h : HostPart) → IsValid parts → hosts ≡ parts.hosts → i < length hosts → h ≡ get_or hosts i h → IsHost parts i h
is-host parts hosts i h valid same l is = record { within = within; is = here; port = subst (λ (x : HostPart). IsPort parts x.at) (sym here) (valid.hosts i h within) }
  where
    within : i < length parts.hosts
    within = subst (λ (hs : List HostPart). i < length hs) same l

    here : h ≡ get_or parts.hosts i h
    here = is ∙ ap (λ hs. get_or hs i h) same

-- Loops.

least_in-push : (o : Option ℕ) (xs : List ℕ) (x : ℕ) → least_in o (xs ++ x ∷ []) ≡ Some (min (unwrap_or (least_in o xs) x) x)
least_in-push o [] x = refl
least_in-push o (y ∷ ys) x = least_in-push (Some (min (unwrap_or o y) y)) ys x

pub ports_more : (ks : List Neighbour) (far : List (Option ℕ)) (n i : ℕ) (none : Neighbour) → i < length ks → least (ports_to (take (i + 1) ks) far n)
    ≡ cond (is_at n (get_or far (get_or ks i none).device None)) (Some (min (unwrap_or (least (ports_to (take i ks) far n)) (get_or ks i none).port) (get_or ks i none).port)) (least (ports_to (take i ks) far n))
ports_more ks far n i none h = let k = get_or ks i none in let kept = filter (λ (x : Neighbour). is_at n (get_or far x.device None)) (take i ks) in
    ap (λ ks. least (map (λ (x : Neighbour). x.port) ks)) (filter_more (λ x. is_at n (get_or far x.device None)) ks i none h)
    ∙ elim (is_at n (get_or far k.device None)) as (λ b. least (map (λ (x : Neighbour). x.port) (kept ++ cond b (k ∷ []) [])) ≡ cond b (Some (min (unwrap_or (least (map (λ (x : Neighbour). x.port) kept)) k.port) k.port)) (least (map (λ (x : Neighbour). x.port) kept))) [
      | true ↦ ap least (map-append (λ (x : Neighbour). x.port) kept (k ∷ [])) ∙ least_in-push None (map (λ (x : Neighbour). x.port) kept) k.port
      | false ↦ ap (λ ks. least (map (λ (x : Neighbour). x.port) ks)) (append-nil kept)
    ]
