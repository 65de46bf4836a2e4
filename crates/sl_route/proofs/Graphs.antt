-- The neighbours that the cables of a net make.
use Rattle.std.proofs.Common.{◌≡◌, ◌≢◌, ℕ, zero, suc, ◌+◌, ◌<◌, ◌≤◌, List, [], ◌∷◌, ◌++◌, length, get_or, set, take, refl, sym, ap, subst, ◌∙◌, arith, inl, inr, append-nil, zero-add}
use Rattle.std.specs.Prelude.{◌⊎◌, Bool, true, false, cond, ◌&&◌, ◌||◌, ◌==◌, map, filter}
use Rattle.std.specs.List.{All, AllByRecursion, list_any}
use Rattle.std.proofs.lemmas.Bool.{cases_lt, ne_eqb}
use Rattle.std.proofs.lemmas.Bool.Decides.{eqb_tells}
use Rattle.std.proofs.lemmas.List.{map-append, get_or_past, length-set, get_or-set_same, get_or-set_other}
use Rattle.std.proofs.lemmas.List.Elements.{All-weaker, All-map, All-append, All-filter, All-same, filter_more, recursion_from_All}
use Rattle.std.proofs.lemmas.List.Folds.{list_any-append}
use Rattle.std.proofs.lemmas.List.FromFn.{get_or-map-range_with_len, length-map-range_with_len, fill_by_all}
use Rattle.sl_parts.specs.declared.parts.PortRef.{PortRef}
use Rattle.sl_parts.specs.declared.parts.CablePart.{CablePart}
use Rattle.sl_parts.specs.Parts.{Parts, below}
use Rattle.sl_parts.specs.Ports.{IsNear}
use Rattle.sl_parts.specs.Valid.{IsPort, IsValid}
use Rattle.sl_route.specs.declared.neighbours.Neighbour.{Neighbour}
use Rattle.sl_route.specs.Route.{Walk, turned, cables_from, walks_between}
use Rattle.sl_route.specs.Graph.{Graph, neighbour_by, neighbours_of, neighbours_at, leads, reaches, IsGraph}
use Rattle.sl_route.proofs.Walks.{has, directed, between-suc, has-flat, list_any-same}

-- Cables.

-- both ends are ports of the first devices
pub record IsJoined (n : ℕ) (c : CablePart) : Type 0 where
  pub a : IsNear n c.a
  pub b : IsNear n c.b

pub all-joined : (parts : Parts) → IsValid parts → All (IsJoined (length parts.devices)) (directed parts)
all-joined parts v = All-append (IsJoined n) parts.cables (map turned parts.cables)
    (All-weaker (λ c. IsPort parts c.a × IsPort parts c.b) (IsJoined n) (λ c p. record { a = near c.a p.0; b = near c.b p.1 }) parts.cables v.cables)
    (All-map (IsJoined n) turned parts.cables (All-weaker (λ c. IsPort parts c.a × IsPort parts c.b) (λ c. IsJoined n (turned c)) (λ c p. record { a = near c.b p.1; b = near c.a p.0 }) parts.cables v.cables))
  where
    n : ℕ
    n = length parts.devices

    near : (p : PortRef) → IsPort parts p → IsNear n p
    near p q = record { device = q.device; port = omega (arith, q.port, v.ports p.device) }

-- Neighbours listed cable by cable.

abbrev pub listed_of : List CablePart → ℕ → List Neighbour
listed_of cs d = map neighbour_by (filter (λ c. c.a.device == d) cs)

listed-more : (cs : List CablePart) (i d : ℕ) (none : CablePart) → i < length cs
    → listed_of (take (i + 1) cs) d ≡ listed_of (take i cs) d ++ cond ((get_or cs i none).a.device == d) (neighbour_by (get_or cs i none) ∷ []) []
listed-more cs i d none h = let c = get_or cs i none in
    ap (map neighbour_by) (filter_more (λ c. c.a.device == d) cs i none h) ∙ map-append neighbour_by (filter (λ c. c.a.device == d) (take i cs)) (cond (c.a.device == d) (c ∷ []) [])
    ∙ ap (λ r. listed_of (take i cs) d ++ r) (elim (c.a.device == d) as (λ b. map neighbour_by (cond b (c ∷ []) []) ≡ cond b (neighbour_by c ∷ []) []) [ true ↦ refl | false ↦ refl ])

pub table-more : (cs : List CablePart) (n i : ℕ) (none : CablePart) → i < length cs → (get_or cs i none).a.device < n
    → set (map (listed_of (take i cs)) (below n)) (get_or cs i none).a.device (get_or (map (listed_of (take i cs)) (below n)) (get_or cs i none).a.device [] ++ neighbour_by (get_or cs i none) ∷ [])
    ≡ map (listed_of (take (i + 1) cs)) (below n)
table-more cs n i none h l = fill_by_all (listed_of (take (i + 1) cs)) (set table x row) n [] (length-set table x row ∙ length-map-range_with_len (listed_of (take i cs)) 0 n) (λ d k. by_tells d k (eqb_tells x d))
  where
    x : ℕ
    x = (get_or cs i none).a.device

    table : Graph
    table = map (listed_of (take i cs)) (below n)

    row : List Neighbour
    row = get_or table x [] ++ neighbour_by (get_or cs i none) ∷ []

    by_tells : (d : ℕ) → d < n → (((x == d) ≡ true) × (x ≡ d)) ⊎ (((x == d) ≡ false) × (x ≢ d)) → get_or (set table x row) d [] ≡ listed_of (take (i + 1) cs) d
    by_tells d k (inl t) = ap (λ y. get_or (set table x row) y []) (sym t.1) ∙ get_or-set_same table x row [] (omega (arith, l, length-map-range_with_len (listed_of (take i cs)) 0 n))
        ∙ ap (λ r. r ++ neighbour_by (get_or cs i none) ∷ []) (get_or-map-range_with_len (listed_of (take i cs)) 0 n x _ [] l (zero-add x) ∙ ap (listed_of (take i cs)) t.1)
        ∙ sym (listed-more cs i d none h ∙ ap (λ b. listed_of (take i cs) d ++ cond b (neighbour_by (get_or cs i none) ∷ []) []) t.0)
    by_tells d k (inr t) = get_or-set_other table x d row [] (λ q. t.1 (sym q)) ∙ get_or-map-range_with_len (listed_of (take i cs)) 0 n d _ [] k (zero-add d)
        ∙ sym (listed-more cs i d none h ∙ ap (λ b. listed_of (take i cs) d ++ cond b (neighbour_by (get_or cs i none) ∷ []) []) t.0 ∙ append-nil (listed_of (take i cs) d))

-- The graph of a net.

abbrev pub graph_of : Parts → Graph
graph_of parts = map (neighbours_of parts) (below (length parts.devices))

none-from : (n d : ℕ) (cs : List CablePart) → n ≤ d → AllByRecursion (IsJoined n) cs → filter (λ c. c.a.device == d) cs ≡ []
none-from n d [] l a = refl
none-from n d (c ∷ cs) l a = let j : IsJoined n c = a.0 in
    ap (λ b. cond b (c ∷ filter (λ c. c.a.device == d) cs) (filter (λ c. c.a.device == d) cs)) (ne_eqb c.a.device d (λ e. omega (arith, e, l, j.a.device))) ∙ none-from n d cs l a.1

pub row-is : (parts : Parts) (d : ℕ) → IsValid parts → neighbours_at (graph_of parts) d ≡ neighbours_of parts d
row-is parts d v = by_order (cases_lt d (length parts.devices))
  where
    by_order : (d < length parts.devices) ⊎ (length parts.devices ≤ d) → neighbours_at (graph_of parts) d ≡ neighbours_of parts d
    by_order (inl l) = get_or-map-range_with_len (neighbours_of parts) 0 (length parts.devices) d _ [] l (zero-add d)
    by_order (inr l) = get_or_past (graph_of parts) d [] (omega (arith, l, length-map-range_with_len (neighbours_of parts) 0 (length parts.devices)))
        ∙ sym (ap (map neighbour_by) (none-from (length parts.devices) d (directed parts) l (recursion_from_All (IsJoined (length parts.devices)) (directed parts) (all-joined parts v))))

pub any-map : (q : Neighbour → Bool) (cs : List CablePart) → list_any q (map neighbour_by cs) ≡ list_any (λ c. q (neighbour_by c)) cs
any-map q [] = refl
any-map q (c ∷ cs) = ap (λ b. q (neighbour_by c) || b) (any-map q cs)

any-turned : (q : CablePart → Bool) (cs : List CablePart) → list_any q (map turned cs) ≡ list_any (λ c. q (turned c)) cs
any-turned q [] = refl
any-turned q (c ∷ cs) = ap (λ b. q (turned c) || b) (any-turned q cs)

pub any-filter : {A : Type 0} (p q : A → Bool) (xs : List A) → list_any q (filter p xs) ≡ list_any (λ x. p x && q x) xs
any-filter p q [] = refl
any-filter p q (x ∷ xs) = elim (p x) as (λ b. list_any q (cond b (x ∷ filter p xs) (filter p xs)) ≡ ((b && q x) || list_any (λ x. p x && q x) xs))
    [ true ↦ ap (λ b. q x || b) (any-filter p q xs) | false ↦ any-filter p q xs ]

and-turned : (a b : Bool) → (a && b) ≡ (b && a)
and-turned true true = refl
and-turned true false = refl
and-turned false true = refl
and-turned false false = refl

or-turned : (a b : Bool) → (a || b) ≡ (b || a)
or-turned true true = refl
or-turned true false = refl
or-turned false true = refl
or-turned false false = refl

-- a cable from x to d, as it lies
abbrev joins : ℕ → ℕ → CablePart → Bool
joins x d c = (c.a.device == x) && (c.b.device == d)

leads-is : (parts : Parts) (x d : ℕ) → IsValid parts → leads (graph_of parts) x d ≡ (list_any (joins x d) parts.cables || list_any (λ c. joins x d (turned c)) parts.cables)
leads-is parts x d v = ap (list_any (λ k. k.device == d)) (row-is parts x v) ∙ any-map (λ k. k.device == d) (cables_from parts x)
    ∙ any-filter (λ c. c.a.device == x) (λ c. c.b.device == d) (directed parts) ∙ list_any-append (joins x d) parts.cables (map turned parts.cables)
    ∙ ap (λ b. list_any (joins x d) parts.cables || b) (any-turned (joins x d) parts.cables)

pub is-graph : (parts : Parts) → IsValid parts → IsGraph (graph_of parts)
is-graph parts v = record {
  few = omega (arith, length-map-range_with_len (neighbours_of parts) 0 n, v.devices);
  near = λ d. All-same (λ k. k.device < length (graph_of parts)) _ _ (row-is parts d v)
      (subst (λ m. All (λ k. k.device < m) (neighbours_of parts d)) (sym (length-map-range_with_len (neighbours_of parts) 0 n))
      (All-map (λ k. k.device < n) neighbour_by (cables_from parts d) (All-filter (λ c. c.a.device == d) (λ c. c.b.device < n) (directed parts) (All-weaker (IsJoined n) (λ c. c.b.device < n) (λ c j. j.b.device) (directed parts) (all-joined parts v)))));
  both_ways = λ x d. leads-is parts x d v
      ∙ ap (λ b. b || list_any (λ c. joins x d (turned c)) parts.cables) (list_any-same (joins x d) (λ c. joins d x (turned c)) parts.cables (λ c. and-turned (c.a.device == x) (c.b.device == d)))
      ∙ ap (λ b. list_any (λ c. joins d x (turned c)) parts.cables || b) (list_any-same (λ c. joins x d (turned c)) (joins d x) parts.cables (λ c. and-turned (c.b.device == x) (c.a.device == d)))
      ∙ or-turned (list_any (λ c. joins d x (turned c)) parts.cables) (list_any (joins d x) parts.cables) ∙ sym (leads-is parts d x v);
}
  where
    n : ℕ
    n = length parts.devices

-- Walks.

pub reaches-is : (parts : Parts) (e n d : ℕ) → IsValid parts → has (walks_between parts d e n) ≡ reaches (graph_of parts) e n d
reaches-is parts e zero d v = elim (d == e) as (λ b. has {A = Walk} (cond b ([] ∷ []) []) ≡ b) [ true ↦ refl | false ↦ refl ]
reaches-is parts e (suc n) d v = ap has (between-suc parts d e n) ∙ has-flat parts e n (cables_from parts d)
    ∙ list_any-same (λ c. has (walks_between parts c.b.device e n)) (λ c. reaches (graph_of parts) e n c.b.device) (cables_from parts d) (λ c. reaches-is parts e n c.b.device v)
    ∙ sym (any-map (λ k. reaches (graph_of parts) e n k.device) (cables_from parts d)) ∙ ap (list_any (λ k. reaches (graph_of parts) e n k.device)) (sym (row-is parts d v))
