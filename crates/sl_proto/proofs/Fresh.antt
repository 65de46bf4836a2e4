-- The losses of an input, link by link.
use Rattle.std.proofs.Common.{◌≡◌, ℕ, zero, suc, ◌+◌, ◌<◌, ◌≤◌, List, [], ◌∷◌, ◌++◌, length, refl, sym, ap, subst, ◌∙◌, Option, Some, None, arith, inl, inr, Bool, true, false, cond, set, get_or, take, append-nil, eq-eqb, zero-add}
use Rattle.std.specs.Prelude.{◌⊎◌, ◌==◌, nat_eq, if◌then◌else◌, map, filter, All, slice_index_or}
use Rattle.std.proofs.lemmas.Bool.Decides.{eqb_tells}
use Rattle.std.proofs.lemmas.List.{take_more}
use Rattle.std.proofs.lemmas.List.Elements.{filter-append}
use Rattle.std.proofs.lemmas.List.FromFn.{get_or-map-range_with_len, length-map-range_with_len}
use Rattle.std.specs.List.{range_with_len}
use Rattle.sl_loss.specs.Loss.{Loss, IsFresh}
use Rattle.sl_layout.specs.Wiring.{is_lossy}
use Rattle.sl_net.specs.declared.input.Drop1.{Drop1}
use Rattle.sl_net.specs.Input.{Input}
use Rattle.sl_parts.specs.Parts.{below}
use Rattle.sl_layout.specs.Net.{link_numbers}
use Rattle.sl_model.specs.Losses.{kind_at, asked_loss, loss_on, loses, losses}
use Rattle.sl_proto.specs.Image.{GoesOn}

-- the listed numbers of a link's puts, of these drops
abbrev pub drops_of : List Drop1 → ℕ → List ℕ
drops_of ds l = map (λ d. d.n) (filter (λ d. d.link == l) ds)

map-same : {A : Type 0} (f g : ℕ → A) (s c : ℕ) → ((k : ℕ) → s ≤ k → k < s + c → f k ≡ g k) → map f (range_with_len s c) ≡ map g (range_with_len s c)
map-same f g s zero h = refl
map-same f g s (suc c) h = λ i. h s (omega arith) (omega arith) i ∷ map-same f g (s + 1) c (λ k p q. h k (omega (arith, p)) (omega (arith, q))) i

-- one place of a list changes
set-one : {A : Type 0} (f g : ℕ → A) (s c l : ℕ) (y : A) → ((k : ℕ) → (k ≡ s + l → ⊥) → f k ≡ g k) → (l < c → g (s + l) ≡ y) → set (map f (range_with_len s c)) l y ≡ map g (range_with_len s c)
set-one f g s zero l y h e = refl
set-one f g s (suc c) zero y h e = let n : s + 0 ≡ s = omega arith in
    λ i. (sym (e (omega arith)) ∙ ap g n) i ∷ map-same f g (s + 1) c (λ k p q. h k (λ j. omega (arith, p, j))) i
set-one f g s (suc c) (suc l) y h e = let n : s + 1 + l ≡ s + suc l = omega arith in
    λ i. h s (λ j. omega (arith, j)) i ∷ set-one f g (s + 1) c l y (λ k ne. h k (λ j. ne (j ∙ sym n))) (λ p. ap g n ∙ e (omega (arith, p))) i

drops-more : (ds : List Drop1) (i l : ℕ) (d : Drop1) → i < length ds → drops_of (take (i + 1) ds) l ≡ drops_of (take i ds) l ++ map (λ x. x.n) (cond ((get_or ds i d).link == l) (get_or ds i d ∷ []) [])
drops-more ds i l d p = ap (λ xs. drops_of xs l) (take_more ds i d p) ∙ ap (map (λ x. x.n)) (filter-append (λ x. x.link == l) (take i ds) ((get_or ds i d) ∷ [])) ∙ map-append (filter (λ x. x.link == l) (take i ds)) (cond ((get_or ds i d).link == l) (get_or ds i d ∷ []) [])
  where
    map-append : (xs ys : List Drop1) → map (λ x. x.n) (xs ++ ys) ≡ map (λ x. x.n) xs ++ map (λ x. x.n) ys
    map-append [] ys = refl
    map-append (x ∷ xs) ys = ap (λ r. x.n ∷ r) (map-append xs ys)

-- a drop more
pub drop-added : (ds : List Drop1) (count i : ℕ) (d : Drop1) → i < length ds
    → set (map (drops_of (take i ds)) (below count)) (get_or ds i d).link (get_or (map (drops_of (take i ds)) (below count)) (get_or ds i d).link [] ++ (get_or ds i d).n ∷ []) ≡ map (drops_of (take (i + 1) ds)) (below count)
drop-added ds count i d p = let x = get_or ds i d in
    set-one (drops_of (take i ds)) (drops_of (take (i + 1) ds)) 0 count x.link (get_or (map (drops_of (take i ds)) (below count)) x.link [] ++ x.n ∷ [])
    (λ k ne. sym (drops-more ds i k d p ∙ other k (λ e. ne (let z : 0 + (get_or ds i d).link ≡ (get_or ds i d).link = omega arith in sym e ∙ sym z))))
    (λ low. let z : 0 + x.link ≡ x.link = omega arith in ap (drops_of (take (i + 1) ds)) z ∙ drops-more ds i x.link d p ∙ this ∙ ap (λ xs. xs ++ x.n ∷ []) (sym (get_or-map-range_with_len (drops_of (take i ds)) 0 count x.link _ [] low (zero-add x.link))))
  where
    other : (k : ℕ) → ((get_or ds i d).link ≡ k → ⊥) → drops_of (take i ds) k ++ map (λ x. x.n) (cond ((get_or ds i d).link == k) (get_or ds i d ∷ []) []) ≡ drops_of (take i ds) k
    other k ne = by_tells (eqb_tells (get_or ds i d).link k)
      where
        by_tells : ((nat_eq (get_or ds i d).link k ≡ true) × ((get_or ds i d).link ≡ k)) ⊎ ((nat_eq (get_or ds i d).link k ≡ false) × ((get_or ds i d).link ≡ k → ⊥))
            → drops_of (take i ds) k ++ map (λ x. x.n) (cond ((get_or ds i d).link == k) (get_or ds i d ∷ []) []) ≡ drops_of (take i ds) k
        by_tells (inl q) = absurd (ne q.1)
        by_tells (inr q) = ap (λ b. drops_of (take i ds) k ++ map (λ x. x.n) (cond b (get_or ds i d ∷ []) [])) q.0 ∙ append-nil (drops_of (take i ds) k)

    this : drops_of (take i ds) (get_or ds i d).link ++ map (λ x. x.n) (cond ((get_or ds i d).link == (get_or ds i d).link) (get_or ds i d ∷ []) []) ≡ drops_of (take i ds) (get_or ds i d).link ++ (get_or ds i d).n ∷ []
    this = ap (λ b. drops_of (take i ds) (get_or ds i d).link ++ map (λ x. x.n) (cond b (get_or ds i d ∷ []) [])) (eq-eqb (get_or ds i d).link (get_or ds i d).link refl)

-- What is lost.

pub fresh-on : (i : Input) (l : ℕ) → IsFresh (loss_on i l)
fresh-on i l = by_bool (is_lossy (kind_at i.net l))
  where
    by_bool : (b : Bool) → IsFresh (if b then Some (asked_loss i.loss (kind_at i.net l) l 0) else None)
    by_bool true = refl
    by_bool false = tt

goes-from : (o : Option Loss) → IsFresh o → GoesOn (loses o) 0 o
goes-from None f = λ k. refl
goes-from (Some loss) f = (f, λ k. refl)

pub goes-on-from : (i : Input) (l : ℕ) → GoesOn (losses i l) 0 (loss_on i l)
goes-on-from i l = goes-from (loss_on i l) (fresh-on i l)

pub all-fresh : (i : Input) (xs : List (Option Loss)) → xs ≡ map (loss_on i) (link_numbers i.net) → All IsFresh xs
all-fresh i xs e l d p = let n = ap length e ∙ length-map-range_with_len (loss_on i) 0 (length i.net.links) in
    subst IsFresh (sym (ap (λ ys. get_or ys l d) e ∙ get_or-map-range_with_len (loss_on i) 0 (length i.net.links) l _ d (omega (arith, n, p)) (zero-add l))) (fresh-on i l)

pub all-go : (i : Input) (xs : List (Option Loss)) → xs ≡ map (loss_on i) (link_numbers i.net) → (l : ℕ) → l < length i.net.links → GoesOn (losses i l) 0 (slice_index_or xs l None)
all-go i xs e l p = subst (GoesOn (losses i l) 0) (sym (ap (λ ys. get_or ys l None) e ∙ get_or-map-range_with_len (loss_on i) 0 (length i.net.links) l _ None p (zero-add l))) (goes-on-from i l)

pub all-listed : (i : Input) (xs : List (Option Loss)) → xs ≡ map (loss_on i) (link_numbers i.net) → length xs ≡ length i.net.links
all-listed i xs e = ap length e ∙ length-map-range_with_len (loss_on i) 0 (length i.net.links)
