-- Steps of the search.
use Rattle.std.proofs.Common.{◌≡◌, ◌≢◌, ℕ, suc, ◌<◌, List, [], ◌∷◌, length, get_or, set, replicate, refl, sym, ap, subst, ◌∙◌, arith, inl, inr}
use Rattle.std.specs.Prelude.{◌⊎◌, Bool, true, false, cond, ◌&&◌, ◌||◌, ◌==◌, Option, Some, None, is_none}
use Rattle.std.specs.List.{All, AllByRecursion, list_any}
use Rattle.std.proofs.lemmas.Bool.{eq-eqb, eqb-true, ne_eqb}
use Rattle.std.proofs.lemmas.Bool.Decides.{eqb_tells}
use Rattle.std.proofs.lemmas.List.{length-set, length-replicate, get_or-replicate, get_or-set_same, get_or-set_other}
use Rattle.std.proofs.lemmas.List.Elements.{All-cons, All-nil, recursion_from_All}
use Rattle.sl_route.specs.Graph.{Graph, neighbours_at, leads, reaches, first_to_pass, within, IsGraph, is_at, lists, Finds}
use Rattle.sl_route.proofs.First.{bool_same, is_false, none-passes, IsFirst, first-is, first-at, apart}

-- how far each device is from e, up to n cables, and which devices are just so far
pub record IsSearched (g : Graph) (e n : ℕ) (far : List (Option ℕ)) (last : List ℕ) : Type 0 where
  pub size : length far ≡ length g
  pub each : (d : ℕ) → d < length g → get_or far d None ≡ within g e n d
  pub listed : (d : ℕ) → d < length g → lists last d ≡ is_at n (within g e n d)
  pub near : All (λ x. x < length g) last

-- an element that passes, with what holds of each; any test that it passes finds it
pub record Found {A : Type 0} (P : A → Type 0) (test : A → Bool) (xs : List A) : Type 0 where
  pub item : A
  pub passes : test item ≡ true
  pub holds : P item
  pub listed : (q : A → Bool) → q item ≡ true → list_any q xs ≡ true

pub found : {A : Type 0} (P : A → Type 0) (test : A → Bool) (xs : List A) → AllByRecursion P xs → list_any test xs ≡ true → Found P test xs
found P test [] a h = absurd cc
found {A} P test (x ∷ xs) a h = by_test (λ k. found P test xs a.1 k) (test x) refl h
  where
    later : (q : A → Bool) → list_any q xs ≡ true → (q x || list_any q xs) ≡ true
    later q k = elim (q x) as (λ b. (b || list_any q xs) ≡ true) [ true ↦ refl | false ↦ k ]

    by_test : (list_any test xs ≡ true → Found P test xs) → (b : Bool) → test x ≡ b → (b || list_any test xs) ≡ true → Found P test (x ∷ xs)
    by_test ih true e h = record { item = x; passes = e; holds = a.0; listed = λ q k. ap (λ b. b || list_any q xs) k }
    by_test ih false e h = let f = ih h in record { item = f.item; passes = f.passes; holds = f.holds; listed = λ q k. later q (f.listed q k) }

-- What one device more finds.

merged : (o : Option ℕ) (p q : Bool) (n : ℕ) → cond (is_none (cond (is_none o && p) (Some n) o) && q) (Some n) (cond (is_none o && p) (Some n) o) ≡ cond (is_none o && (p || q)) (Some n) o
merged None true q n = refl
merged None false q n = refl
merged (Some m) p q n = refl

merged-lists : (o : Option ℕ) (l p q : Bool) (n : ℕ) → ((l || (is_none o && p)) || (is_none (cond (is_none o && p) (Some n) o) && q)) ≡ (l || (is_none o && (p || q)))
merged-lists o true p q n = refl
merged-lists None false true q n = refl
merged-lists None false false q n = refl
merged-lists (Some m) false p q n = refl

-- some are found and then others
pub finds-more : (n : ℕ) (p q r : ℕ → Bool) (xs ys zs : List (Option ℕ)) (us vs ws : List ℕ) → Finds n p xs ys us vs → Finds n q ys zs vs ws → ((d : ℕ) → r d ≡ (p d || q d)) → Finds n r xs zs us ws
finds-more n p q r xs ys zs us vs ws f g h = record {
  size = g.size ∙ f.size;
  each = λ d l. let o = get_or xs d None in
      g.each d (omega (arith, l, f.size)) ∙ ap (λ x. cond (is_none x && q d) (Some n) x) (f.each d l) ∙ merged o (p d) (q d) n ∙ ap (λ b. cond (is_none o && b) (Some n) o) (sym (h d));
  listed = λ d l. let o = get_or xs d None in
      g.listed d (omega (arith, l, f.size)) ∙ ap (λ b. b || (is_none (get_or ys d None) && q d)) (f.listed d l) ∙ ap (λ x. (lists us d || (is_none o && p d)) || (is_none x && q d)) (f.each d l)
      ∙ merged-lists o (lists us d) (p d) (q d) n ∙ ap (λ b. lists us d || (is_none o && b)) (sym (h d));
  near = λ a. subst (λ m. All (λ x. x < m) ws) f.size (g.near (subst (λ m. All (λ x. x < m) vs) (sym f.size) (f.near a)));
}

abbrev pub Tells : ℕ → ℕ → Type 0
Tells x d = (((x == d) ≡ true) × (x ≡ d)) ⊎ (((x == d) ≡ false) × (x ≢ d))

-- The search one cable further.

at-below : (test : ℕ → Bool) (n : ℕ) → is_at (suc n) (first_to_pass test n) ≡ false
at-below test n = by_first (first_to_pass test n) refl
  where
    by_tells : (m : ℕ) → IsFirst test n m → Tells m (suc n) → (m == suc n) ≡ false
    by_tells m f (inl e) = absurd (omega (arith, e.1, f.within))
    by_tells m f (inr e) = e.0

    by_first : (o : Option ℕ) → first_to_pass test n ≡ o → is_at (suc n) o ≡ false
    by_first None e = refl
    by_first (Some m) e = by_tells m (first-is test n m e) (eqb_tells m (suc n))

-- a device that was not reached is found now exactly where one cable more reaches it
further : (g : Graph) (e n d : ℕ) (far : List (Option ℕ)) (last : List ℕ) → IsGraph g → IsSearched g e n far last → within g e n d ≡ None
    → list_any (λ x. leads g x d) last ≡ reaches g e (suc n) d
unfolding within
further g e n d far last i s h = bool_same (list_any (λ x. leads g x d) last) (reaches g e (suc n) d) to from
  where
    to : list_any (λ x. leads g x d) last ≡ true → reaches g e (suc n) d ≡ true
    to p = of_last (found (λ x. x < length g) (λ x. leads g x d) last (recursion_from_All (λ x. x < length g) last s.near) p)
      where
        of_last : Found (λ x. x < length g) (λ x. leads g x d) last → reaches g e (suc n) d ≡ true
        of_last f = of_step (found (λ k. k.device < length g) (λ k. k.device == f.item) (neighbours_at g d) (recursion_from_All (λ k. k.device < length g) (neighbours_at g d) (i.near d)) (sym (i.both_ways f.item d) ∙ f.passes))
          where
            at_last : lists last f.item ≡ true
            at_last = f.listed (λ x. x == f.item) (eq-eqb f.item f.item refl)

            reached : (o : Option ℕ) → within g e n f.item ≡ o → is_at n o ≡ true → reaches g e n f.item ≡ true
            reached None q r = absurd cc
            reached (Some m) q r = ap (λ k. reaches g e k f.item) (sym (eqb-true m n r)) ∙ (first-is (λ k. reaches g e k f.item) n m q).passes

            of_step : Found (λ k. k.device < length g) (λ k. k.device == f.item) (neighbours_at g d) → reaches g e (suc n) d ≡ true
            of_step k = k.listed (λ y. reaches g e n y.device)
                (ap (reaches g e n) (eqb-true k.item.device f.item k.passes) ∙ reached (within g e n f.item) refl (sym (s.listed f.item f.holds) ∙ at_last))

    from : reaches g e (suc n) d ≡ true → list_any (λ x. leads g x d) last ≡ true
    from p = of_step (found (λ k. k.device < length g) (λ k. reaches g e n k.device) (neighbours_at g d) (recursion_from_All (λ k. k.device < length g) (neighbours_at g d) (i.near d)) p)
      where
        of_step : Found (λ k. k.device < length g) (λ k. reaches g e n k.device) (neighbours_at g d) → list_any (λ x. leads g x d) last ≡ true
        of_step k = of_last (found (λ x. x < length g) (λ x. x == k.item.device) last (recursion_from_All (λ x. x < length g) last s.near) at_last)
          where
            no_earlier : (j : ℕ) → j < n → reaches g e j k.item.device ≡ false
            no_earlier j l = is_false (reaches g e j k.item.device) (λ q. let r : reaches g e (suc j) d ≡ true = k.listed (λ y. reaches g e j y.device) q in
                let t : reaches g e (suc j) d ≡ false = none-passes (λ m. reaches g e m d) n (suc j) h (omega (arith, l)) in apart (reaches g e (suc j) d) r t)

            at_last : lists last k.item.device ≡ true
            at_last = s.listed k.item.device k.holds ∙ first-at (λ m. reaches g e m k.item.device) n n no_earlier (omega arith) ∙ k.passes

            of_last : Found (λ x. x < length g) (λ x. x == k.item.device) last → list_any (λ x. leads g x d) last ≡ true
            of_last f = f.listed (λ x. leads g x d) (ap (λ x. leads g x d) (eqb-true f.item k.item.device f.passes) ∙ i.both_ways k.item.device d ∙ k.listed (λ y. y.device == k.item.device) (eq-eqb k.item.device k.item.device refl))

pub searched-more : (g : Graph) (e n : ℕ) (far new : List (Option ℕ)) (last next : List ℕ) → IsGraph g → IsSearched g e n far last
    → Finds (suc n) (λ d. list_any (λ x. leads g x d) last) far new [] next → IsSearched g e (suc n) new next
unfolding within
searched-more g e n far new last next i s f = record {
  size = f.size ∙ s.size;
  each = λ d l. f.each d (omega (arith, l, s.size)) ∙ each d l (within g e n d) (s.each d l);
  listed = λ d l. f.listed d (omega (arith, l, s.size)) ∙ listed d l (within g e n d) refl;
  near = subst (λ m. All (λ x. x < m) next) s.size (f.near (λ k d l. absurd (omega (arith, l))));
}
  where
    agree : (d : ℕ) (o : Option ℕ) → within g e n d ≡ o → (is_none o && list_any (λ x. leads g x d) last) ≡ (is_none o && reaches g e (suc n) d)
    agree d None q = further g e n d far last i s q
    agree d (Some m) q = refl

    each : (d : ℕ) → d < length g → (o : Option ℕ) → get_or far d None ≡ o → cond (is_none (get_or far d None) && list_any (λ x. leads g x d) last) (Some (suc n)) (get_or far d None) ≡ within g e (suc n) d
    each d l o q = ap (λ x. cond (is_none x && list_any (λ x. leads g x d) last) (Some (suc n)) x) (s.each d l) ∙ ap (λ b. cond b (Some (suc n)) (within g e n d)) (agree d (within g e n d) refl)

    listed : (d : ℕ) → d < length g → (o : Option ℕ) → within g e n d ≡ o → (false || (is_none (get_or far d None) && list_any (λ x. leads g x d) last)) ≡ is_at (suc n) (within g e (suc n) d)
    listed d l o q = ap (λ x. is_none x && list_any (λ x. leads g x d) last) (s.each d l) ∙ agree d (within g e n d) refl ∙ last_of (within g e n d) (reaches g e (suc n) d) (at-below (λ m. reaches g e m d) n)
      where
        last_of : (o : Option ℕ) (b : Bool) → is_at (suc n) o ≡ false → (is_none o && b) ≡ is_at (suc n) (cond (is_none o && b) (Some (suc n)) o)
        last_of None true h = sym (eq-eqb (suc n) (suc n) refl)
        last_of None false h = refl
        last_of (Some m) b h = sym h

-- nothing is reached but e
abbrev pub begun : ℕ → ℕ → List (Option ℕ)
begun n e = set (replicate n None) e (Some 0)

pub searched-none : (g : Graph) (e : ℕ) → e < length g → IsSearched g e 0 (begun (length g) e) (e ∷ [])
unfolding within
searched-none g e l = record {
  size = length-set (replicate (length g) None) e (Some 0) ∙ length-replicate (length g) None;
  each = λ d k. by_tells d k (eqb_tells d e);
  listed = λ d k. listed d (eqb_tells d e);
  near = All-cons (λ x. x < length g) e [] l (All-nil (λ x. x < length g));
}
  where
    by_tells : (d : ℕ) → d < length g → Tells d e → get_or {A = Option ℕ} (set (replicate (length g) None) e (Some 0)) d None ≡ cond {A = Option ℕ} (d == e) (Some 0) None
    by_tells d k (inl t) = ap (λ x. get_or {A = Option ℕ} (set (replicate (length g) None) e (Some 0)) x None) t.1 ∙ get_or-set_same (replicate (length g) None) e (Some 0) None (omega (arith, l, length-replicate {A = Option ℕ} (length g) None)) ∙ sym (ap (λ b. cond {A = Option ℕ} b (Some 0) None) t.0)
    by_tells d k (inr t) = get_or-set_other (replicate (length g) None) e d (Some 0) None t.1 ∙ get_or-replicate (length g) d None None k ∙ sym (ap (λ b. cond {A = Option ℕ} b (Some 0) None) t.0)

    listed : (d : ℕ) → Tells d e → ((e == d) || false) ≡ is_at 0 (cond {A = Option ℕ} (d == e) (Some 0) None)
    listed d (inl t) = ap (λ b. b || false) (eq-eqb e d (sym t.1)) ∙ sym (ap (λ b. is_at 0 (cond {A = Option ℕ} b (Some 0) None)) t.0)
    listed d (inr t) = ap (λ b. b || false) (ne_eqb e d (λ q. t.1 (sym q))) ∙ sym (ap (λ b. is_at 0 (cond {A = Option ℕ} b (Some 0) None)) t.0)
