-- The numbers of a span one by one, and whether each can be read.
use Rattle.std.proofs.Common.{◌≡◌, ℕ, suc, ◌+◌, ◌-◌, ◌<◌, ◌≤◌, List, [], ◌∷◌, length, refl, sym, ap, ◌∙◌, ◌⊎◌, inl, inr, arith, add-one}
use Rattle.std.specs.Prelude.{Bool, true, false, ◌&&◌, nat_lt, nat_le, ◌↔◌}
use Rattle.std.specs.List.{list_all, AllByRecursion, range_with_len}
use Rattle.std.proofs.lemmas.Bool.{leb-true, le-leb, lt-ltb, ltb-true, cases_lt}
use Rattle.sl_saves.specs.declared.entry.View.{View}
use Rattle.sl_saves.specs.Views.{Place, walk, IsLive}
use Rattle.sl_control.specs.Rows.{span, is_live, is_readable}

pub span-more : (a b : ℕ) → a < b → span a b ≡ (a + 1) ∷ span (a + 1) b
span-more a b h = let e : b - a ≡ suc (b - (a + 1)) = omega arith in let s : suc a ≡ a + 1 = omega arith in
    ap (range_with_len (suc a)) e ∙ ap (λ n. n ∷ range_with_len (n + 1) (b - (a + 1))) s ∙ ap (λ n. (a + 1) ∷ range_with_len n (b - (a + 1))) (add-one (a + 1))

all-live : (ps : List Place) → AllByRecursion (λ p. 1 ≤ p.slot.back) ps → list_all (λ p. nat_le 1 p.slot.back) ps ≡ true
all-live [] h = refl
all-live (p ∷ ps) h = ap (λ b. b && list_all (λ p. nat_le 1 p.slot.back) ps) (le-leb 1 p.slot.back h.0) ∙ all-live ps h.1

live-all : (ps : List Place) → list_all (λ p. nat_le 1 p.slot.back) ps ≡ true → AllByRecursion (λ p. 1 ≤ p.slot.back) ps
live-all [] h = tt
live-all (p ∷ ps) h = of_bool (live-all ps) (nat_le 1 p.slot.back) refl h
  where
    of_bool : (list_all (λ p. nat_le 1 p.slot.back) ps ≡ true → AllByRecursion (λ p. 1 ≤ p.slot.back) ps) → (b : Bool) → nat_le 1 p.slot.back ≡ b
        → (b && list_all (λ p. nat_le 1 p.slot.back) ps) ≡ true → (1 ≤ p.slot.back) × AllByRecursion (λ p. 1 ≤ p.slot.back) ps
    of_bool ih true q h = (leb-true 1 p.slot.back q, ih h)
    of_bool ih false q h = absurd cc

pub readable-live : (view : View) (id k : ℕ) → id < k + length view.slots → IsLive view id k → is_readable view id k ≡ true
readable-live view id k n h = ap (λ b. b && is_live view id k) (lt-ltb id (k + length view.slots) n) ∙ all-live (walk view id k) h

pub live-readable : (view : View) (id k : ℕ) → id < k + length view.slots → is_readable view id k ≡ true → IsLive view id k
live-readable view id k n h = live-all (walk view id k) (sym (ap (λ b. b && is_live view id k) (lt-ltb id (k + length view.slots) n)) ∙ h)

same-bool : (a b : Bool) → (a ≡ true → b ≡ true) → (b ≡ true → a ≡ true) → a ≡ b
same-bool true b f g = sym (f refl)
same-bool false true f g = g refl
same-bool false false f g = refl

-- a number near the id can be read exactly where the walk for it is live
pub readable-is : (view : View) (id k : ℕ) (b : Bool) → id < k + length view.slots → ((b ≡ true) ↔ IsLive view id k) → b ≡ is_readable view id k
readable-is view id k b n h = same-bool b (is_readable view id k) (λ q. readable-live view id k n (h.0 q)) (λ q. h.1 (live-readable view id k n q))

and-left : (a b : Bool) → (a && b) ≡ true → a ≡ true
and-left true b h = refl
and-left false b h = h

pub readable-near : (view : View) (id k : ℕ) → is_readable view id k ≡ true → id < k + length view.slots
readable-near view id k h = ltb-true id (k + length view.slots) (and-left (nat_lt id (k + length view.slots)) (is_live view id k) h)

-- the first number read tells that all are near
pub near-first : (a k n id : ℕ) → a ≤ k → (a < k → id < a + 1 + n) → id < k + 1 + n → id < a + 1 + n
near-first a k n id le f h = by_cases (cases_lt a k)
  where
    by_cases : (a < k) ⊎ (k ≤ a) → id < a + 1 + n
    by_cases (inl p) = f p
    by_cases (inr p) = omega arith
