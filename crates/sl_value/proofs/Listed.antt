-- Lists that are made one element after the other.
use Rattle.std.proofs.Common.{◌≡◌, ℕ, ◌+◌, ◌<◌, List, [], ◌∷◌, ◌++◌, length, map, take, refl, sym, ap, ◌∙◌, Option, arith, append_assoc}
use Rattle.std.specs.Prelude.{slice_index}
use Rattle.std.proofs.lemmas.List.{map_more}
use Rattle.std.specs.List.{range_with_len}
use Rattle.std.proofs.lemmas.List.FromFn.{map-range_with_len_more}
use Rattle.sl_model.specs.Words.{listed, numbers}

-- with the next element
pub next-of : {B : Type 0} (f : ℕ → B) (xs : List ℕ) (i : ℕ) (ys : List B) (y : B) → i < length xs → ys ≡ map f (take i xs) → y ≡ f (slice_index xs i) → ys ++ y ∷ [] ≡ map f (take (i + 1) xs)
next-of f xs i ys y h e q = ap (λ zs. zs ++ y ∷ []) e ∙ ap (λ z. map f (take i xs) ++ z ∷ []) q ∙ sym (map_more f xs i 0 h)

pub next-number : {B : Type 0} (f : ℕ → B) (n : ℕ) (ys : List B) (y : B) → ys ≡ map f (range_with_len 1 n) → y ≡ f (n + 1) → ys ++ y ∷ [] ≡ map f (range_with_len 1 (n + 1))
next-number f n ys y e q = ap (λ zs. zs ++ y ∷ []) e ∙ ap (λ z. map f (range_with_len 1 n) ++ z ∷ []) q ∙ sym (map-range_with_len_more f 1 n (n + 1) (omega arith))

pub numbers-map : {A B : Type 0} (f : B → Option ℕ) (g : A → B) (xs : List A) → numbers f (map g xs) ≡ numbers (λ x. f (g x)) xs
numbers-map f g [] = refl
numbers-map f g (x ∷ xs) = ap (λ ns. listed (f (g x)) ++ ns) (numbers-map f g xs)

pub numbers-append : {A : Type 0} (f : A → Option ℕ) (xs ys : List A) → numbers f (xs ++ ys) ≡ numbers f xs ++ numbers f ys
numbers-append f [] ys = refl
numbers-append f (x ∷ xs) ys = ap (λ ns. listed (f x) ++ ns) (numbers-append f xs ys) ∙ sym (append_assoc (listed (f x)) (numbers f xs) (numbers f ys))
