-- The table of the numbers' places against the search for a place.
use Rattle.std.proofs.Common.{◌≡◌, ◌≢◌, ℕ, suc, ◌+◌, ◌-◌, ◌<◌, List, ◌∷◌, length, get_or, set, drop, sym, ap, subst, ◌∙◌, arith, true, false, inl, inr, replicate, get_or-set_other, drop-cons}
use Rattle.std.specs.Prelude.{if◌then◌else◌, ◌==◌, ◌⊎◌}
use Rattle.std.specs.List.{All}
use Rattle.std.proofs.lemmas.Bool.Decides.{eqb_tells}
use Rattle.std.proofs.lemmas.List.{length-set, drop_all, length-replicate, get_or-replicate}
use Rattle.std.proofs.lemmas.Grind.{get_or-set_at}
use Rattle.sl_layout.specs.Net.{place_in}
use Rattle.sl_layout.specs.Units.{HasPlaces}

placed : (n count x : ℕ) (xs places : List ℕ) → HasPlaces (n + 1) count xs places → x < count → HasPlaces n count (x ∷ xs) (set places x n)
placed n count x xs places h k = record { size = length-set places x n ∙ h.size; each = λ a j. by_test a j (eqb_tells x a) }
  where
    more : n + 1 ≡ suc n
    more = omega arith

    by_test : (a : ℕ) → a < count → (((x == a) ≡ true) × (x ≡ a)) ⊎ (((x == a) ≡ false) × (x ≢ a)) → get_or (set places x n) a 0 ≡ place_in n a (x ∷ xs)
    by_test a j (inl e) = get_or-set_at places x a n 0 (sym e.1) (omega (arith, h.size)) ∙ sym (ap (λ b. if b then n else place_in (suc n) a xs) e.0)
    by_test a j (inr e) = get_or-set_other places x a n 0 (λ z. e.1 (sym z)) ∙ h.each a j ∙ ap (λ m. place_in m a xs) more ∙ sym (ap (λ b. if b then n else place_in (suc n) a xs) e.0)

pub place_noted : (numbers places : List ℕ) (count i place number : ℕ) → All (λ n. n < count) numbers → i < length numbers → place ≡ length numbers - 1 - i
    → number ≡ get_or numbers place 0 → HasPlaces (length numbers - i) count (drop (length numbers - i) numbers) places
    → HasPlaces (length numbers - (i + 1)) count (drop (length numbers - (i + 1)) numbers) (set places number place)
place_noted numbers places count i place number f k q r h =
    let within : place < length numbers = omega arith in
    let last : length numbers - i ≡ place + 1 = omega arith in
    let this : length numbers - (i + 1) ≡ place = omega arith in
    let start : place + 1 ≡ suc place = omega arith in
    let more : HasPlaces (place + 1) count (drop (suc place) numbers) places = subst (λ n. HasPlaces (place + 1) count (drop n numbers) places) start (subst (λ n. HasPlaces n count (drop n numbers) places) last h) in
    subst (λ n. HasPlaces n count (drop n numbers) (set places number place)) (sym this)
    (subst (λ s. HasPlaces place count (drop place numbers) (set places s place)) (sym r)
    (subst (λ xs. HasPlaces place count xs (set places (get_or numbers place 0) place)) (sym (drop-cons numbers place 0 within))
    (placed place count (get_or numbers place 0) (drop (suc place) numbers) places more (f place 0 within))))

pub none_placed : (numbers : List ℕ) (count : ℕ) → HasPlaces (length numbers - 0) count (drop (length numbers - 0) numbers) (replicate count (length numbers))
none_placed numbers count = record { size = length-replicate count (length numbers); each = λ a k. each a k }
  where
    each : (a : ℕ) → a < count → get_or (replicate count (length numbers)) a 0 ≡ place_in (length numbers - 0) a (drop (length numbers - 0) numbers)
    each a k = let z : length numbers ≡ length numbers - 0 = omega arith in
        get_or-replicate count a (length numbers) 0 k ∙ z ∙ sym (ap (place_in (length numbers - 0) a) (drop_all (length numbers - 0) numbers (omega arith)))
