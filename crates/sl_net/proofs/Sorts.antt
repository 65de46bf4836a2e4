-- The links and choices of an actor, by their sorts, and the way of a unit's reports.
use Rattle.std.proofs.Common.{◌≡◌, ℕ, zero, suc, get_or, ◌<◌, ◌≤◌, List, [], ◌∷◌, length, refl, sym, ap, subst, ◌∙◌, ◌+◌, Some, arith, inl, inr, eq-eqb}
use Rattle.std.specs.Prelude.{◌⊎◌, cond, true, false, Bool, ◌==◌, if◌then◌else◌, nat_eq, filter, map, slice_get, slice_index_or}
use Rattle.std.proofs.lemmas.Bool.Decides.{eqb_tells}
use Rattle.std.proofs.lemmas.Bool.{cases_lt, eqb-true}
use Rattle.std.proofs.lemmas.List.{get_or_past}
use Rattle.std.proofs.lemmas.Option.{slice_get_within, slice_get-get_or, get_or_from_slice_get}
use Rattle.sl_layout.specs.declared.actor.Sort.{Sort}
use Rattle.sl_layout.specs.declared.actor.Sort.TheVariants.{FromHost, ToHost, Cable, Crossbar, Init, Poll, Notice, Dump, Begin, Done}
use Rattle.sl_parts.specs.Parts.{below}
use Rattle.sl_layout.specs.declared.actor.LinkPart.{LinkPart}
use Rattle.std.proofs.lemmas.Simd.{map-map}
use Rattle.std.specs.List.{range_with_len}
use Rattle.sl_layout.specs.Wires.{out_of}
use Rattle.sl_layout.specs.Net.{Net, link_of, link_at, link_numbers, links_into, links_from, links_out, no_link, choices_of, sort_number, same_sort, place_in, choice_of, actor_of, nobody, is_unit, units, unit_place}
use Rattle.sl_parts.specs.Lists.{Each, Member}
use Rattle.sl_net.specs.Ways.{IsOut, IsInto, IsChoice, HasWays}
use Rattle.sl_parts.proofs.Lists.{numbers-suc, filter-map, each-imp, each-both, each-below, member-filter, member-from, distinct-filter, distinct-from, one-place, each-map, kept-member}
use Rattle.sl_layout.specs.declared.actor.ActorId.{ActorId}
use Rattle.sl_layout.specs.declared.actor.ActorId.TheVariants.{Unit as OfUnit}
use Rattle.sl_layout.specs.declared.actor.UnitId.{UnitId}
use Rattle.sl_layout.specs.Serving.{choice_from, serving, served}
use Rattle.sl_layout.proofs.Actors.{same_actor_true}
use Rattle.sl_layout.proofs.Sorts.{by_sort}

-- Sorts.

-- the sort of a number
abbrev sort_at : ℕ → Sort
sort_at n = slice_index_or (FromHost ∷ ToHost ∷ Cable ∷ Crossbar ∷ Init ∷ Poll ∷ Notice ∷ Dump ∷ Begin ∷ Done ∷ []) n Done

at-number : (s : Sort) → sort_at (sort_number s) ≡ s
at-number = by_sort (λ s. sort_at (sort_number s) ≡ s) refl refl refl refl refl refl refl refl refl refl

pub same-sort-is : (s t : Sort) → same_sort s t ≡ true → s ≡ t
same-sort-is s t h = sym (at-number s) ∙ ap sort_at (eqb-true (sort_number s) (sort_number t) h) ∙ at-number t

-- Links out.

pub each-out : (net : Net) (a : ℕ) (s : Sort) → Each (IsOut net a s) (links_out net a s)
each-out net a s = each-imp (λ l. ((l < length net.links) × (((link_of net l).from == a) ≡ true)) × (same_sort (link_of net l).sort s ≡ true)) (IsOut net a s) (links_out net a s)
    (λ l h. record { is_link = h.0.0; from = eqb-true (link_of net l).from a h.0.1; sort = same-sort-is (link_of net l).sort s h.1 })
    (each-both (λ l. (l < length net.links) × (((link_of net l).from == a) ≡ true)) (λ l. same_sort (link_of net l).sort s) (links_from net a)
    (each-both (λ l. l < length net.links) (λ l. (link_of net l).from == a) (link_numbers net) (each-below (λ l. l < length net.links) (length net.links) (λ l p. p))))

pub out-member : (net : Net) (a : ℕ) (s : Sort) (l : ℕ) → IsOut net a s l → Member l (links_out net a s)
out-member net a s l o = member-filter (λ l. same_sort (link_of net l).sort s) l (links_from net a)
    (member-filter (λ l. (link_of net l).from == a) l (link_numbers net) (member-from l 0 (length net.links) (omega arith) (let p : l < length net.links = o.is_link in omega arith)) (eq-eqb (link_of net l).from a o.from))
    (eq-eqb (sort_number (link_of net l).sort) (sort_number s) (ap sort_number o.sort))

-- past the last link there is none
pub is-link : (net : Net) (l : ℕ) → ((link_of net l).sort ≡ ToHost → ⊥) → l < length net.links
is-link net l ne = by_cases (cases_lt l (length net.links))
  where
    by_cases : (l < length net.links) ⊎ (length net.links ≤ l) → l < length net.links
    by_cases (inl h) = h
    by_cases (inr h) = absurd (ne (ap (λ k. k.sort) (get_or_past net.links l no_link h)))

-- Lists by numbers.

-- the elements at the numbers of those that pass are those that pass
pub at-numbers : (t : LinkPart → Bool) (d : LinkPart) (ks : List LinkPart) → map (λ l. get_or ks l d) (filter (λ l. t (get_or ks l d)) (below (length ks))) ≡ filter t ks
at-numbers t d [] = refl
at-numbers t d (k ∷ ks) = by_bool (t k) (ap (λ ns. map (λ l. get_or (k ∷ ks) l d) (filter (λ l. t (get_or (k ∷ ks) l d)) ns)) (numbers-suc 0 (length ks))
    ∙ ap (map (λ l. get_or (k ∷ ks) l d)) (filter-map (λ l. t (get_or (k ∷ ks) l d)) (λ l. suc l) (below (length ks)))
    ∙ map-map (λ l. get_or (k ∷ ks) l d) (λ l. suc l) (filter (λ l. t (get_or ks l d)) (below (length ks))) ∙ at-numbers t d ks)
  where
    by_bool : (b : Bool) → map (λ l. get_or (k ∷ ks) l d) (filter (λ l. t (get_or (k ∷ ks) l d)) (range_with_len 1 (length ks))) ≡ filter t ks
        → map (λ l. get_or (k ∷ ks) l d) (cond b (0 ∷ filter (λ l. t (get_or (k ∷ ks) l d)) (range_with_len 1 (length ks))) (filter (λ l. t (get_or (k ∷ ks) l d)) (range_with_len 1 (length ks)))) ≡ cond b (k ∷ filter t ks) (filter t ks)
    by_bool true h = ap (λ r. k ∷ r) h
    by_bool false h = h

-- Choices.

each-into : (net : Net) (a : ℕ) → Each (IsInto net a) (links_into net a)
each-into net a = each-imp (λ l. (l < length net.links) × (((link_of net l).to == a) ≡ true)) (IsInto net a) (links_into net a) (λ l h. record { is_link = h.0; to = eqb-true (link_of net l).to a h.1 })
    (each-both (λ l. l < length net.links) (λ l. (link_of net l).to == a) (link_numbers net) (each-below (λ l. l < length net.links) (length net.links) (λ l p. p)))

each-got : (P : ℕ → Type 0) (xs : List ℕ) (c l : ℕ) → Each P xs → slice_get xs c ≡ Some l → P l
each-got P [] c l e q = absurd cc
each-got P (x ∷ xs) zero l e q = let z : x ≡ l = cc in subst P z e.0
each-got P (x ∷ xs) (suc c) l e q = each-got P xs c l e.1 q

pub is-into : (net : Net) (a c l : ℕ) → slice_get (links_into net a) c ≡ Some l → IsInto net a l
is-into net a c l k = each-got (IsInto net a) (links_into net a) c l (each-into net a) k

-- a link is taken by one choice
pub one-choice : (net : Net) (a c d l : ℕ) → slice_get (links_into net a) c ≡ Some l → slice_get (links_into net a) d ≡ Some l → c ≡ d
one-choice net a c d l p q = one-place (links_into net a) c d 0 (distinct-filter (λ l. (link_of net l).to == a) (link_numbers net) (distinct-from 0 (length net.links)))
    (slice_get_within (links_into net a) c l p) (slice_get_within (links_into net a) d l q) (get_or_from_slice_get (links_into net a) c l 0 p ∙ sym (get_or_from_slice_get (links_into net a) d l 0 q))

pub each-choice : (net : Net) (a : ℕ) (s : Sort) → Each (IsChoice net a s) (choices_of net a s)
each-choice net a s = each-imp (λ c. (c < length (links_into net a)) × (same_sort (link_of net (link_at net a c)).sort s ≡ true)) (IsChoice net a s) (choices_of net a s)
    (λ c p. record { into = slice_get-get_or (links_into net a) c 0 p.0; sort = same-sort-is (link_of net (link_at net a c)).sort s p.1 })
    (each-both (λ c. c < length (links_into net a)) (λ c. same_sort (link_of net (link_at net a c)).sort s) (below (length (links_into net a)))
    (each-below (λ c. c < length (links_into net a)) (length (links_into net a)) (λ i p. p)))

-- a choice that takes from a link of a sort is one of them
pub chosen : (net : Net) (a : ℕ) (s : Sort) (c l : ℕ) → slice_get (links_into net a) c ≡ Some l → (link_of net l).sort ≡ s → Member c (choices_of net a s)
chosen net a s c l k q = member-filter (λ c. same_sort (link_of net (link_at net a c)).sort s) c (below (length (links_into net a)))
    (member-from c 0 (length (links_into net a)) (omega arith) (let x : c < length (links_into net a) = slice_get_within (links_into net a) c l k in omega arith))
    (eq-eqb (sort_number (link_of net (link_at net a c)).sort) (sort_number s) (ap (λ l. sort_number (link_of net l).sort) (get_or_from_slice_get (links_into net a) c l 0 k) ∙ ap sort_number q))

-- The choice of a link takes from it, and no other does.

pub record Found (n l : ℕ) (xs : List ℕ) : Type 0 where
  pub place : ℕ
  pub is_there : place_in n l xs ≡ n + place
  pub gets : slice_get xs place ≡ Some l

found-in : (t : ℕ → Bool) (l start count n : ℕ) → start ≤ l → l < start + count → t l ≡ true → Found n l (filter t (range_with_len start count))
found-in t l start zero n p q h = absurd (omega arith)
found-in t l start (suc count) n p q h = by_tells (λ n r. found-in t l (start + 1) count n r (omega (arith, q)) h) (t start) refl (eqb_tells start l)
  where
    by_tells : ((n : ℕ) → start + 1 ≤ l → Found n l (filter t (range_with_len (start + 1) count))) → (b : Bool) → t start ≡ b
        → ((nat_eq start l ≡ true) × (start ≡ l)) ⊎ ((nat_eq start l ≡ false) × (start ≡ l → ⊥))
        → Found n l (cond b (start ∷ filter t (range_with_len (start + 1) count)) (filter t (range_with_len (start + 1) count)))
    by_tells ih true z (inl x) = record { place = 0; is_there = ap (λ b. if b then n else place_in (suc n) l (filter t (range_with_len (start + 1) count))) x.0 ∙ (omega arith); gets = ap Some x.1 }
    by_tells ih true z (inr x) = let k : (start ≡ l → ⊥) = x.1 in let f = ih (suc n) (omega arith) in
        record { place = suc f.place; is_there = ap (λ b. if b then n else place_in (suc n) l (filter t (range_with_len (start + 1) count))) x.0 ∙ (omega (arith, f.is_there)); gets = f.gets }
    by_tells ih false z (inl x) = absurd (let k : true ≡ false = sym h ∙ ap t (sym x.1) ∙ z in cc)
    by_tells ih false z (inr x) = ih n (let k : (start ≡ l → ⊥) = x.1 in omega arith)

pub choice-takes : (net : Net) (l : ℕ) → l < length net.links → slice_get (links_into net (link_of net l).to) (choice_of net l) ≡ Some l
choice-takes net l p = let f : Found 0 l (links_into net (link_of net l).to) = found-in (λ k. (link_of net k).to == (link_of net l).to) l 0 (length net.links) 0 (omega arith) (omega (arith, p)) (eq-eqb (link_of net l).to (link_of net l).to refl) in
    let e : choice_of net l ≡ f.place = f.is_there ∙ (omega arith) in ap (slice_get (links_into net (link_of net l).to)) e ∙ f.gets

-- and a link has a place among those of its sender
pub out-low : (net : Net) (a : ℕ) (s : Sort) (l : ℕ) → IsOut net a s l → out_of net l < length (links_from net a)
out-low net a s l o = subst (λ b. out_of net l < length (links_from net b)) o.from
    (let f : Found 0 l (links_from net (link_of net l).from) = found-in (λ k. (link_of net k).from == (link_of net l).from) l 0 (length net.links) 0 (omega arith) (let p : l < length net.links = o.is_link in omega arith)
    (eq-eqb (link_of net l).from (link_of net l).from refl) in
    let e : out_of net l ≡ 0 + f.place = f.is_there in omega (arith, e, slice_get_within (links_from net (link_of net l).from) f.place l f.gets))

pub choice-is : (net : Net) (a c l : ℕ) → slice_get (links_into net a) c ≡ Some l → choice_of net l ≡ c
choice-is net a c l k = let i = is-into net a c l k in one-choice net a (choice_of net l) c l (subst (λ b. slice_get (links_into net b) (choice_of net l) ≡ Some l) i.to (choice-takes net l i.is_link)) k

-- The way of a unit's reports: by which choices its control plane takes its dumps and notices, and the observer the Dones.

-- Places.

pub place-ge : (n x : ℕ) (ys : List ℕ) → n ≤ place_in n x ys
place-ge n x [] = omega arith
place-ge n x (y ∷ ys) = by_bool (y == x) (place-ge (suc n) x ys)
  where
    by_bool : (b : Bool) → suc n ≤ place_in (suc n) x ys → n ≤ (if b then n else place_in (suc n) x ys)
    by_bool true h = omega arith
    by_bool false h = omega arith

-- two numbers with one place in a list, one of which stands in it, are one
pub place-same : (n x u : ℕ) (ys : List ℕ) → Member u ys → place_in n x ys ≡ place_in n u ys → x ≡ u
place-same n x u [] m q = absurd m
place-same n x u (y ∷ ys) m q = by_tells (λ m. place-same (suc n) x u ys m) (eqb_tells y x) (eqb_tells y u) m
  where
    first : (z : ℕ) → (y == z) ≡ true → place_in n z (y ∷ ys) ≡ n
    first z h = ap (λ b. if b then n else place_in (suc n) z ys) h

    later : (z : ℕ) → (y == z) ≡ false → place_in n z (y ∷ ys) ≡ place_in (suc n) z ys
    later z h = ap (λ b. if b then n else place_in (suc n) z ys) h

    by_tells : (Member u ys → place_in (suc n) x ys ≡ place_in (suc n) u ys → x ≡ u) → ((nat_eq y x ≡ true) × (y ≡ x)) ⊎ ((nat_eq y x ≡ false) × (y ≡ x → ⊥)) → ((nat_eq y u ≡ true) × (y ≡ u)) ⊎ ((nat_eq y u ≡ false) × (y ≡ u → ⊥)) → (u ≡ y) ⊎ Member u ys → x ≡ u
    by_tells ih (inl a) (inl b) m = sym a.1 ∙ b.1
    by_tells ih (inl a) (inr b) m = absurd (let z : n ≡ place_in (suc n) u ys = sym (first x a.0) ∙ q ∙ later u b.0 in omega (arith, z, place-ge (suc n) u ys))
    by_tells ih (inr a) (inl b) m = absurd (let z : place_in (suc n) x ys ≡ n = sym (later x a.0) ∙ q ∙ first u b.0 in omega (arith, z, place-ge (suc n) x ys))
    by_tells ih (inr a) (inr b) (inl e) = absurd (b.1 (sym e))
    by_tells ih (inr a) (inr b) (inr m) = ih m (sym (later x a.0) ∙ q ∙ later u b.0)

actor-within : (net : Net) (a : ℕ) (x : ActorId) → actor_of net a ≡ x → (x ≡ nobody → ⊥) → a < length net.actors
actor-within net a x q ne = by_cases (cases_lt a (length net.actors))
  where
    by_cases : (a < length net.actors) ⊎ (length net.actors ≤ a) → a < length net.actors
    by_cases (inl h) = h
    by_cases (inr h) = absurd (ne (sym q ∙ get_or_past net.actors a nobody h))

pub unit-listed : (net : Net) (u : ℕ) (i : UnitId) → actor_of net u ≡ OfUnit i → Member u (units net)
unit-listed net u i q = member-filter (λ a. is_unit (actor_of net a)) u (below (length net.actors)) (member-from u 0 (length net.actors) (omega arith) (let p : u < length net.actors = actor-within net u (OfUnit i) q (λ e. cc) in omega arith)) (ap is_unit q)

-- a unit's place is its own
pub one-unit : (net : Net) (u x : ℕ) (i : UnitId) → actor_of net u ≡ OfUnit i → unit_place net x ≡ unit_place net u → x ≡ u
one-unit net u x i q h = place-same 0 x u (units net) (unit-listed net u i q) h

-- two links from one actor at one place are one
pub one-place-out : (net : Net) (a : ℕ) (s t : Sort) (l k : ℕ) → IsOut net a s l → IsOut net a t k → out_of net l ≡ out_of net k → l ≡ k
one-place-out net a s t l k o p q = place-same 0 l k (links_from net a) (kept-member (λ l. same_sort (link_of net l).sort t) k (links_from net a) (out-member net a t k p))
    (ap (λ b. place_in 0 l (links_from net b)) (sym o.from) ∙ q ∙ ap (λ b. place_in 0 k (links_from net b)) p.from)

-- The only link of a sort.

pub only-is-out : (net : Net) (a : ℕ) (s : Sort) (x : ℕ) → links_out net a s ≡ x ∷ [] → IsOut net a s x
only-is-out net a s x e = (subst (Each (IsOut net a s)) e (each-out net a s)).0

pub only-out : (net : Net) (a : ℕ) (s : Sort) (x l : ℕ) → links_out net a s ≡ x ∷ [] → IsOut net a s l → l ≡ x
only-out net a s x l e o = of_member (subst (Member l) e (out-member net a s l o))
  where
    of_member : Member l (x ∷ []) → l ≡ x
    of_member (inl q) = q
    of_member (inr m) = absurd m

pub taken-at : (net : Net) (a b : ℕ) (s : Sort) (x : ℕ) → links_out net a s ≡ x ∷ [] → (link_of net x).to ≡ b → slice_get (links_into net b) (choice_of net x) ≡ Some x
taken-at net a b s x e t = subst (λ b. slice_get (links_into net b) (choice_of net x) ≡ Some x) t (choice-takes net x (only-is-out net a s x e).is_link)

-- the choice that takes from a unit on links of a sort, where it has one such link
pub choice-from-is : (net : Net) (b a : ℕ) (s : Sort) (x : ℕ) → links_out net a s ≡ x ∷ [] → (link_of net x).to ≡ b → choice_from net b a s ≡ choice_of net x
choice-from-is net b a s x e t = first-is (filter (λ c. (link_of net (link_at net b c)).from == a) (choices_of net b s))
    (each-imp (λ c. IsChoice net b s c × (((link_of net (link_at net b c)).from == a) ≡ true)) (λ c. c ≡ choice_of net x) (filter (λ c. (link_of net (link_at net b c)).from == a) (choices_of net b s)) of_choice
    (each-both (IsChoice net b s) (λ c. (link_of net (link_at net b c)).from == a) (choices_of net b s) (each-choice net b s)))
    (member-filter (λ c. (link_of net (link_at net b c)).from == a) (choice_of net x) (choices_of net b s)
    (chosen net b s (choice_of net x) x k o.sort)
    (eq-eqb (link_of net (link_at net b (choice_of net x))).from a (ap (λ l. (link_of net l).from) same ∙ o.from)))
  where
    o : IsOut net a s x
    o = only-is-out net a s x e

    k : slice_get (links_into net b) (choice_of net x) ≡ Some x
    k = taken-at net a b s x e t

    same : link_at net b (choice_of net x) ≡ x
    same = get_or_from_slice_get (links_into net b) (choice_of net x) x 0 k

    of_choice : (c : ℕ) → IsChoice net b s c × (((link_of net (link_at net b c)).from == a) ≡ true) → c ≡ choice_of net x
    of_choice c h = let n = choice-takes-of c h.0 in sym (choice-is net b c (link_at net b c) h.0.into) ∙ ap (choice_of net) (only-out net a s x (link_at net b c) e (record { is_link = n; from = eqb-true (link_of net (link_at net b c)).from a h.1; sort = h.0.sort }))
      where
        choice-takes-of : (c : ℕ) → IsChoice net b s c → link_at net b c < length net.links
        choice-takes-of c i = (is-into net b c (link_at net b c) i.into).is_link

    first-is : (xs : List ℕ) → Each (λ c. c ≡ choice_of net x) xs → Member (choice_of net x) xs → slice_index_or xs 0 0 ≡ choice_of net x
    first-is [] d m = absurd m
    first-is (y ∷ ys) d m = d.0

-- Who serves a unit.

-- its control plane reads its dumps by the choice of its link of dumps
pub served-here : (net : Net) (u a x : ℕ) → links_out net u Dump ≡ x ∷ [] → (link_of net x).to ≡ a → Each (λ v. v.unit ≡ u → v.dump ≡ choice_of net x) (served net a)
served-here net u a x e t = each-map (λ v. v.unit ≡ u → v.dump ≡ choice_of net x) (serving net a) (links_out net a Poll)
    (each-imp (IsOut net a Poll) (λ l. (link_of net l).to ≡ u → choice_from net a (link_of net l).to Dump ≡ choice_of net x) (links_out net a Poll)
    (λ l o q. ap (λ u. choice_from net a u Dump) q ∙ choice-from-is net a u Dump x e t) (each-out net a Poll))

-- and no other one serves it
pub served-elsewhere : (net : Net) (u a x b : ℕ) → ((l : ℕ) → (link_of net l).to ≡ u → (link_of net l).sort ≡ Poll → l ≡ x) → (link_of net x).from ≡ a → (b ≡ a → ⊥)
    → Each (λ v. v.unit ≡ u → ⊥) (served net b)
served-elsewhere net u a x b only from ne = each-map (λ v. v.unit ≡ u → ⊥) (serving net b) (links_out net b Poll)
    (each-imp (IsOut net b Poll) (λ l. (link_of net l).to ≡ u → ⊥) (links_out net b Poll) (λ l o q. ne (sym o.from ∙ ap (λ l. (link_of net l).from) (only l q o.sort) ∙ from)) (each-out net b Poll))

-- Any net's links and choices are told so.
pub has-ways : (net : Net) → HasWays net
has-ways net = record {
  outs = λ a s. each-out net a s;
  listed = λ a s l o. out-member net a s l o;
  out_low = λ a s l o. out-low net a s l o;
  one_out = λ a s t l k o p q. one-place-out net a s t l k o p q;
  is_link = λ l ne. is-link net l ne;
  into = λ a c l k. is-into net a c l k;
  taken = λ l p. choice-takes net l p;
  choice = λ a c l k. choice-is net a c l k;
  choices = λ a s. each-choice net a s;
  chosen = λ a s c l k q. chosen net a s c l k q;
  within = λ a x q ne. actor-within net a x q ne;
  numbers = λ t. at-numbers t no_link net.links;
  is_sort = λ l s h. same-sort-is (link_of net l).sort s h;
  is_actor = λ a x h. same_actor_true (actor_of net a) x h;
  unit = λ u i q. unit-listed net u i q;
  one_unit = λ u x i q h. one-unit net u x i q h;
}
