-- Texts that are parted at a byte, and names.
use Rattle.std.proofs.Common.{◌≡◌, ℕ, List, [], ◌∷◌, ◌++◌, true, false, refl, sym, ap, ◌∙◌}
use Rattle.std.specs.Prelude.{◌==◌}
use Rattle.std.specs.List.{list_all}
use Rattle.std.proofs.lemmas.Bool.{and_parts, eq-eqb}
use Rattle.sl_parts.specs.Text.{IsName, is_name_byte}

-- the byte doesn't stand in the text
abbrev pub Lacks : ℕ → List ℕ → Type 0
Lacks c [] = Unit {0}
Lacks c (x ∷ xs) = (x ≡ c → ⊥) × Lacks c xs

lacks_all : (c : ℕ) (text : List ℕ) → is_name_byte c ≡ false → list_all is_name_byte text ≡ true → Lacks c text
lacks_all c [] h k = tt
lacks_all c (x ∷ xs) h k =
    let p = and_parts (is_name_byte x) (list_all is_name_byte xs) k in
    ((λ e. let z : true ≡ false = sym p.0 ∙ ap is_name_byte e ∙ h in cc), lacks_all c xs h p.1)

pub lacks_name : (c : ℕ) (name : List ℕ) → is_name_byte c ≡ false → IsName name → Lacks c name
lacks_name c name h n = lacks_all c name h n.each

-- what stands before the first c, and what stands after it
pub part_at : (c : ℕ) (p q r s : List ℕ) → Lacks c p → Lacks c q → p ++ c ∷ r ≡ q ++ c ∷ s → (p ≡ q) × (r ≡ s)
part_at c [] [] r s h k e = (refl, cc)
part_at c [] (y ∷ q) r s h k e = let z : y ≡ c = cc in absurd (k.0 z)
part_at c (x ∷ p) [] r s h k e = let z : x ≡ c = cc in absurd (h.0 z)
part_at c (x ∷ p) (y ∷ q) r s h k e =
    let z : x ≡ y = cc in
    let t : p ++ c ∷ r ≡ q ++ c ∷ s = cc in
    let u = part_at c p q r s h.1 k.1 t in
    (ap (λ n. n ∷ p) z ∙ ap (λ l. y ∷ l) u.0, u.1)

pub same_front : (p r s : List ℕ) → p ++ r ≡ p ++ s → r ≡ s
same_front [] r s e = e
same_front (x ∷ p) r s e = let t : p ++ r ≡ p ++ s = cc in same_front p r s t

-- two numbers that are told apart are not one
pub differ : (m n : ℕ) → m ≡ n → (m == n) ≡ false → ⊥
differ m n e h = let z : true ≡ false = sym (eq-eqb m n e) ∙ h in cc
