-- Pieces of a text, one after another.
use Rattle.std.proofs.Common.{◌≡◌, ℕ, suc, ◌+◌, ◌<◌, List, [], ◌∷◌, ◌++◌, length, get_or, drop, refl, sym, ap, subst, ◌∙◌, arith, Bool, true, false, Option, Some, None, add-one, drop-cons, append-nil, append_assoc}
use Rattle.std.specs.Prelude.{if◌then◌else◌, ◌&&◌, ◌==◌, nat_lt, option_and_then, slice_index, MatchOption}
use Rattle.std.proofs.lemmas.Bool.{and_parts, and_from, ltb-true, eqb-true, lt-ltb, eq-eqb}
use Rattle.std.proofs.lemmas.List.{drop_all, length-append}
use Rattle.sl_net.specs.Spelling.{skip}

pub skip_append : (text p q : List ℕ) (at : ℕ) → skip text (p ++ q) at ≡ option_and_then (skip text q) (skip text p at)
skip_append text [] q at = refl
skip_append text (x ∷ p) q at = by_bool (nat_lt at (length text) && (slice_index text at == x)) (skip_append text p q (at + 1))
  where
    by_bool : (b : Bool) → skip text (p ++ q) (at + 1) ≡ option_and_then (skip text q) (skip text p (at + 1))
        → (if b then skip text (p ++ q) (at + 1) else None) ≡ option_and_then (skip text q) (if b then skip text p (at + 1) else None)
    by_bool true h = h
    by_bool false h = refl

-- a piece that stands at a place is what the text has there
skip-drop : (text p : List ℕ) (at n : ℕ) → skip text p at ≡ Some n → drop at text ≡ p ++ drop n text
skip-drop text [] at n h = let e : at ≡ n = cc in ap (λ k. drop k text) e
skip-drop text (x ∷ p) at n h = by_bool (λ k. skip-drop text p (at + 1) n k) (nat_lt at (length text) && (slice_index text at == x)) refl h
  where
    by_bool : (skip text p (at + 1) ≡ Some n → drop (at + 1) text ≡ p ++ drop n text) → (b : Bool) → (nat_lt at (length text) && (slice_index text at == x)) ≡ b
        → (if b then skip text p (at + 1) else None) ≡ Some n → drop at text ≡ x ∷ (p ++ drop n text)
    by_bool ih true q k =
        let both = and_parts _ _ q in
        let within : at < length text = ltb-true at (length text) both.0 in
        let same : slice_index text at ≡ x = eqb-true (slice_index text at) x both.1 in
        let next : drop (suc at) text ≡ p ++ drop n text = ap (λ i. drop i text) (sym (add-one at)) ∙ ih k in
        drop-cons text at 0 within ∙ ap (λ y. y ∷ drop (suc at) text) same ∙ ap (λ r. x ∷ r) next
    by_bool ih false q k = absurd cc

-- a piece that is the text from its start to its end is the text
pub skip_whole : (text p : List ℕ) → skip text p 0 ≡ Some (length text) → p ≡ text
skip_whole text p h = sym (skip-drop text p 0 (length text) h ∙ ap (λ r. p ++ r) (drop_all (length text) text (omega arith)) ∙ append-nil p)

skip-rest : (q p : List ℕ) → skip (q ++ p) p (length q) ≡ Some (length (q ++ p))
skip-rest q [] = ap Some (sym (ap length (append-nil q)))
skip-rest q (x ∷ p) =
    let more : length q + 1 ≡ length (q ++ x ∷ []) = omega (arith, length-append q (x ∷ [])) in
    let joined : (q ++ x ∷ []) ++ p ≡ q ++ x ∷ p = append_assoc q (x ∷ []) p in
    let stands : (nat_lt (length q) (length (q ++ x ∷ p)) && (slice_index (q ++ x ∷ p) (length q) == x)) ≡ true
    = and_from _ _ (lt-ltb (length q) (length (q ++ x ∷ p)) (omega (arith, length-append q (x ∷ p)))) (eq-eqb (slice_index (q ++ x ∷ p) (length q)) x (middle q)) in
    ap (λ b. if b then skip (q ++ x ∷ p) p (length q + 1) else None) stands
    ∙ ap (λ k. skip (q ++ x ∷ p) p k) more
    ∙ subst (λ t. skip t p (length (q ++ x ∷ [])) ≡ Some (length t)) joined (skip-rest (q ++ x ∷ []) p)
  where
    middle : (q : List ℕ) → get_or (q ++ x ∷ p) (length q) 0 ≡ x
    middle [] = refl
    middle (y ∷ q) = middle q

pub skip_self : (text : List ℕ) → skip text text 0 ≡ Some (length text)
skip_self text = skip-rest [] text

pub skip_spelled : (text p : List ℕ) → p ≡ text → skip text p 0 ≡ Some (length text)
skip_spelled text p e = subst (λ p. skip text p 0 ≡ Some (length text)) (sym e) (skip_self text)

-- past two pieces
pub skip_past : (text p s w : List ℕ) (at next : ℕ) → skip text p 0 ≡ Some at → skip text s at ≡ Some next → skip text (p ++ (s ++ w)) 0 ≡ skip text w next
skip_past text p s w at next h k = skip_append text p (s ++ w) 0 ∙ ap (option_and_then (skip text (s ++ w))) h ∙ skip_append text s w at ∙ ap (option_and_then (skip text w)) k

pub found_past : (f g : ℕ → Option ℕ) (count n : ℕ) → ((c : ℕ) → f c ≡ g c) → (r : Option ℕ) → MatchOption r ((c : ℕ) → c < count → g c ≡ Some n → ⊥) (λ c. (c < count) × (g c ≡ Some n))
    → MatchOption r ((c : ℕ) → c < count → f c ≡ Some n → ⊥) (λ c. (c < count) × (f c ≡ Some n))
found_past f g count n e None h = λ c k z. h c k (sym (e c) ∙ z)
found_past f g count n e (Some x) h = (h.0, e x ∙ h.1)
