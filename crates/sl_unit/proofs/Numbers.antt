-- The outgoing links of a unit by their numbers.
use Rattle.std.proofs.Common.{◌≡◌, ℕ, suc, ◌<◌, List, [], ◌∷◌, length, refl, sym, ap, subst, ◌∙◌, map, get_or, inl, inr, zero-add}
use Rattle.std.specs.Prelude.{cond, true, false, Bool, filter, ◌⊎◌, ◌==◌, ◌&&◌}
use Rattle.std.proofs.lemmas.Bool.{eq-eqb, eqb-true}
use Rattle.std.proofs.lemmas.Bool.Decides.{eqb_tells}
use Rattle.sl_layout.specs.declared.actor.Sort.{Sort}
use Rattle.sl_layout.specs.declared.actor.Sort.TheVariants.{Crossbar}
use Rattle.sl_parts.specs.Parts.{below}
use Rattle.sl_layout.specs.Net.{Net, actor_of, egress, link_of, link_numbers, links_from, links_into, links_out, place_in, same_actor, same_sort}
use Rattle.sl_layout.specs.Wires.{out_of}
use Rattle.sl_parts.specs.Lists.{Each, Member}
use Rattle.sl_parts.proofs.Lists.{filter-map, numbers-suc, each-passes, distinct-filter, distinct-from, each-at, each-of, kept-member, Distinct}
use Rattle.std.proofs.lemmas.Simd.{map-map}
use Rattle.std.proofs.lemmas.List.FromFn.{get_or-map-range_with_len}
use Rattle.sl_unit.specs.declared.wires.Way.{Way}
use Rattle.sl_unit.specs.declared.wires.Way.TheVariants.{All, Toward}
use Rattle.sl_unit.specs.declared.wires.Entrance.TheVariants.{Other}
use Rattle.sl_unit.specs.Wires.{is_out, leads, outs}
use Rattle.sl_unit.specs.Made.{entrance_by, entrances_of, exit_by, exits_of}

map_each : (f g : ℕ → ℕ) (ys : List ℕ) → Each (λ y. f y ≡ g y) ys → map f ys ≡ map g ys
map_each f g [] e = refl
map_each f g (y ∷ ys) e = λ i. e.0 i ∷ map_each f g ys e.1 i

place_shift : (n l : ℕ) (xs : List ℕ) → place_in (suc n) l xs ≡ suc (place_in n l xs)
place_shift n l [] = refl
place_shift n l (x ∷ xs) = by_bool (x == l) (place_shift (suc n) l xs)
  where
    by_bool : (b : Bool) → place_in (suc (suc n)) l xs ≡ suc (place_in (suc n) l xs) → cond b (suc n) (place_in (suc (suc n)) l xs) ≡ suc (cond b n (place_in (suc n) l xs))
    by_bool true h = refl
    by_bool false h = h

-- the numbers of the links of a way are the places of the links that go it
places : (net : Net) (way : Way) (ls : List ℕ) → Distinct ls
    → outs way (map (exit_by net) ls) ≡ map (λ l. place_in 0 l ls) (filter (λ l. leads way (exit_by net l)) ls)
places net way [] d = refl
places net way (x ∷ xs) d =
    let t : ℕ → Bool = λ l. leads way (exit_by net l) in
    let p : ℕ → Bool = is_out way (map (exit_by net) (x ∷ xs)) in
    let n = length (map (exit_by net) xs) in
    ap (λ ns. cond (t x) (0 ∷ filter p ns) (filter p ns)) (numbers-suc 0 n)
    ∙ ap (λ ns. cond (t x) (0 ∷ ns) ns) (filter-map p suc (below n) ∙ ap (map suc) (places net way xs d.1)
    ∙ map-map suc (λ l. place_in 0 l xs) (filter t xs)
    ∙ map_each (λ l. suc (place_in 0 l xs)) (λ l. place_in 0 l (x ∷ xs)) (filter t xs) (each-of (λ l. suc (place_in 0 l xs) ≡ place_in 0 l (x ∷ xs)) (filter t xs) (λ l m. later l (kept-member t l xs m))))
    ∙ by_bool (t x)
  where
    later : (l : ℕ) → Member l xs → suc (place_in 0 l xs) ≡ place_in 0 l (x ∷ xs)
    later l m = by_tells (eqb_tells x l)
      where
        by_tells : (((x == l) ≡ true) × (x ≡ l)) ⊎ (((x == l) ≡ false) × (x ≡ l → ⊥)) → suc (place_in 0 l xs) ≡ cond (x == l) 0 (place_in 1 l xs)
        by_tells (inl q) = absurd (d.0 (subst (λ y. Member y xs) (sym q.1) m))
        by_tells (inr q) = rw q.0 (sym (place_shift 0 l xs))

    by_bool : (b : Bool) → cond b (0 ∷ map (λ l. place_in 0 l (x ∷ xs)) (filter (λ l. leads way (exit_by net l)) xs)) (map (λ l. place_in 0 l (x ∷ xs)) (filter (λ l. leads way (exit_by net l)) xs))
        ≡ map (λ l. place_in 0 l (x ∷ xs)) (cond b (x ∷ filter (λ l. leads way (exit_by net l)) xs) (filter (λ l. leads way (exit_by net l)) xs))
    by_bool true = ap (λ b. cond b 0 (place_in 1 x xs) ∷ map (λ l. place_in 0 l (x ∷ xs)) (filter (λ l. leads way (exit_by net l)) xs)) (sym (eq-eqb x x refl))
    by_bool false = refl

numbered : (net : Net) (a : ℕ) (way : Way) → outs way (exits_of net a) ≡ map (out_of net) (filter (λ l. leads way (exit_by net l)) (links_from net a))
numbered net a way =
    let ls = links_from net a in
    let t : ℕ → Bool = λ l. leads way (exit_by net l) in
    places net way ls (distinct-filter (λ l. (link_of net l).from == a) (link_numbers net) (distinct-from 0 (length net.links)))
    ∙ map_each (λ l. place_in 0 l ls) (out_of net) (filter t ls) (each-of (λ l. place_in 0 l ls ≡ out_of net l) (filter t ls) (λ l m. same l (kept-member t l ls m)))
  where
    same : (l : ℕ) → Member l (links_from net a) → place_in 0 l (links_from net a) ≡ out_of net l
    same l m = let f : (link_of net l).from ≡ a = eqb-true (link_of net l).from a (each-at (λ l. ((link_of net l).from == a) ≡ true) l (links_from net a) (each-passes (λ l. (link_of net l).from == a) (link_numbers net)) m) in
        ap (λ b. place_in 0 l (links_from net b)) (sym f)

pub sorts_are : (net : Net) (a : ℕ) (s : Sort) → outs (All s) (exits_of net a) ≡ map (out_of net) (links_out net a s)
sorts_are net a s = numbered net a (All s)

both : (b c : ℕ → Bool) (xs : List ℕ) → filter (λ x. b x && c x) xs ≡ filter c (filter b xs)
both b c [] = refl
both b c (x ∷ xs) = by_bool (b x) (both b c xs)
  where
    by_bool : (i : Bool) → filter (λ x. b x && c x) xs ≡ filter c (filter b xs)
        → cond (i && c x) (x ∷ filter (λ x. b x && c x) xs) (filter (λ x. b x && c x) xs) ≡ filter c (cond i (x ∷ filter b xs) (filter b xs))
    by_bool true h = ap (λ ys. cond (c x) (x ∷ ys) ys) h
    by_bool false h = h

pub toward_are : (net : Net) (a device port : ℕ) → outs (Toward device port) (exits_of net a)
    ≡ map (out_of net) (filter (λ l. same_actor (actor_of net (link_of net l).to) (egress device port)) (links_out net a Crossbar))
toward_are net a device port = numbered net a (Toward device port)
    ∙ ap (map (out_of net)) (both (λ l. same_sort (link_of net l).sort Crossbar) (λ l. same_actor (actor_of net (link_of net l).to) (egress device port)) (links_from net a))

pub entrances_are : (net : Net) (a c : ℕ) → c < length (links_into net a) → get_or (entrances_of net a) c Other ≡ entrance_by net a c
entrances_are net a c h = get_or-map-range_with_len (entrance_by net a) 0 (length (links_into net a)) c _ Other h (zero-add c)
