-- Walks, one cable more each time.
--     has xs    xs is not empty
use Rattle.std.proofs.Common.{◌≡◌, ℕ, suc, List, [], ◌∷◌, ◌++◌, refl, ap, ◌∙◌, arith}
use Rattle.std.specs.Prelude.{Bool, true, false, cond, ◌||◌, ◌==◌, map, filter, flat_map, Option, Some, min, unwrap_or}
use Rattle.std.specs.List.{list_any}
use Rattle.std.proofs.lemmas.List.{map-append}
use Rattle.std.proofs.lemmas.List.Elements.{filter-append}
use Rattle.sl_parts.specs.declared.parts.CablePart.{CablePart}
use Rattle.sl_parts.specs.Parts.{Parts}
use Rattle.sl_route.specs.Least.{least_in}
use Rattle.sl_route.specs.Route.{Walk, turned, cables_from, walks, end_of, walks_between, first_port}

abbrev pub has : {A : Type 0} → List A → Bool
has [] = false
has (x ∷ xs) = true

-- the cables of a net in both directions
abbrev pub directed : Parts → List CablePart
directed parts = parts.cables ++ map turned parts.cables

abbrev pub extended : Parts → ℕ → ℕ → CablePart → List Walk
extended parts e n c = map (λ walk. c ∷ walk) (walks_between parts c.b.device e n)

filter-extended : (d e : ℕ) (c : CablePart) (ws : List Walk) → filter (λ walk. end_of d walk == e) (map (λ walk. c ∷ walk) ws) ≡ map (λ walk. c ∷ walk) (filter (λ walk. end_of c.b.device walk == e) ws)
filter-extended d e c [] = refl
filter-extended d e c (w ∷ ws) = elim (end_of c.b.device w == e) as (λ b. cond b ((c ∷ w) ∷ filter (λ walk. end_of d walk == e) (map (λ walk. c ∷ walk) ws)) (filter (λ walk. end_of d walk == e) (map (λ walk. c ∷ walk) ws))
    ≡ map (λ walk. c ∷ walk) (cond b (w ∷ filter (λ walk. end_of c.b.device walk == e) ws) (filter (λ walk. end_of c.b.device walk == e) ws)))
    [ true ↦ ap (λ r. (c ∷ w) ∷ r) (filter-extended d e c ws) | false ↦ filter-extended d e c ws ]

-- a walk to e of one cable more begins by a cable from d, and goes on from its other end
pub between-suc : (parts : Parts) (d e n : ℕ) → walks_between parts d e (suc n) ≡ flat_map (extended parts e n) (cables_from parts d)
between-suc parts d e n = go (cables_from parts d)
  where
    go : (cs : List CablePart) → filter (λ walk. end_of d walk == e) (flat_map (λ c. map (λ walk. c ∷ walk) (walks parts n c.b.device)) cs) ≡ flat_map (extended parts e n) cs
    go [] = refl
    go (c ∷ cs) = filter-append (λ walk. end_of d walk == e) (map (λ walk. c ∷ walk) (walks parts n c.b.device)) (flat_map (λ c. map (λ walk. c ∷ walk) (walks parts n c.b.device)) cs)
        ∙ ap (λ xs. xs ++ filter (λ walk. end_of d walk == e) (flat_map (λ c. map (λ walk. c ∷ walk) (walks parts n c.b.device)) cs)) (filter-extended d e c (walks parts n c.b.device))
        ∙ ap (λ ys. extended parts e n c ++ ys) (go cs)

-- Which devices reach e.

has-extended : (c : CablePart) (ws ys : List Walk) → has (map (λ walk. c ∷ walk) ws ++ ys) ≡ (has ws || has ys)
has-extended c [] ys = refl
has-extended c (w ∷ ws) ys = refl

pub has-flat : (parts : Parts) (e n : ℕ) (cs : List CablePart) → has (flat_map (extended parts e n) cs) ≡ list_any (λ c. has (walks_between parts c.b.device e n)) cs
has-flat parts e n [] = refl
has-flat parts e n (c ∷ cs) = has-extended c (walks_between parts c.b.device e n) (flat_map (extended parts e n) cs) ∙ ap (λ b. has (walks_between parts c.b.device e n) || b) (has-flat parts e n cs)

pub list_any-same : {A : Type 0} (f g : A → Bool) (xs : List A) → ((x : A) → f x ≡ g x) → list_any f xs ≡ list_any g xs
list_any-same f g [] h = refl
list_any-same f g (x ∷ xs) h = ap (λ b. b || list_any f xs) (h x) ∙ ap (λ b. g x || b) (list_any-same f g xs h)

-- The least port.

least_in-append : (o : Option ℕ) (xs ys : List ℕ) → least_in o (xs ++ ys) ≡ least_in (least_in o xs) ys
least_in-append o [] ys = refl
least_in-append o (x ∷ xs) ys = least_in-append (Some (min (unwrap_or o x) x)) xs ys

least-constant : (own a : ℕ) (c : CablePart) (ws : List Walk) → least_in (Some (min a c.a.port)) (map (first_port own) (map (λ walk. c ∷ walk) ws)) ≡ Some (min a c.a.port)
least-constant own a c [] = refl
least-constant own a c (w ∷ ws) = let e : min (min a c.a.port) c.a.port ≡ min a c.a.port = omega arith in
    ap (λ m. least_in (Some m) (map (first_port own) (map (λ walk. c ∷ walk) ws))) e ∙ least-constant own a c ws

least-extended : (own : ℕ) (o : Option ℕ) (c : CablePart) (ws : List Walk) → least_in o (map (first_port own) (map (λ walk. c ∷ walk) ws)) ≡ cond (has ws) (Some (min (unwrap_or o c.a.port) c.a.port)) o
least-extended own o c [] = refl
least-extended own o c (w ∷ ws) = least-constant own (unwrap_or o c.a.port) c ws

pub least-flat : (parts : Parts) (own e n : ℕ) (o : Option ℕ) (cs : List CablePart) → least_in o (map (first_port own) (flat_map (extended parts e n) cs))
    ≡ least_in o (map (λ c. c.a.port) (filter (λ c. has (walks_between parts c.b.device e n)) cs))
least-flat parts own e n o [] = refl
least-flat parts own e n o (c ∷ cs) = let ws = walks_between parts c.b.device e n in let rest = flat_map (extended parts e n) cs in
    let tail = filter (λ c. has (walks_between parts c.b.device e n)) cs in
    ap (least_in o) (map-append (first_port own) (extended parts e n c) rest) ∙ least_in-append o (map (first_port own) (extended parts e n c)) (map (first_port own) rest)
    ∙ ap (λ p. least_in p (map (first_port own) rest)) (least-extended own o c ws)
    ∙ least-flat parts own e n (cond (has ws) (Some (min (unwrap_or o c.a.port) c.a.port)) o) cs
    ∙ elim (has ws) as (λ b. least_in (cond b (Some (min (unwrap_or o c.a.port) c.a.port)) o) (map (λ c. c.a.port) tail) ≡ least_in o (map (λ c. c.a.port) (cond b (c ∷ tail) tail)))
    [ true ↦ refl | false ↦ refl ]
