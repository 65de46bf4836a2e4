-- Loops over the steps of a history, the oldest first.
use Rattle.std.proofs.Common.{◌≡◌, ℕ, ◌+◌, ◌<◌, ◌≤◌, List, [], ◌∷◌, ◌++◌, length, refl, ap, sym, ◌∙◌, take, drop, get_or, arith, inl, inr, lt-ltb, le-ltb, length-append, length-take}
use Rattle.std.specs.Prelude.{reverse, cond, true, false, Bool, ◌||◌, ◌==◌, map, min, if◌then◌else◌, ◌⊎◌, Option, Some, unwrap_or}
use Rattle.std.specs.List.{fold}
use Rattle.std.proofs.lemmas.Bool.{cases_lt}
use Rattle.std.proofs.lemmas.List.{take_more, reverse-append, map-append, length-reverse, take-append-drop}
use Rattle.std.proofs.lemmas.List.Folds.{list_any-append}
use Rattle.sl_model.specs.declared.message.Put.{Put}
use Rattle.sl_model.specs.declared.message.Step.{Step}
use Rattle.sl_route.specs.Least.{least_in}
use Rattle.sl_model.specs.History.{on_link, first}
use Rattle.sl_model.specs.Knowledge.{puts_on}

reverse-snoc : {A : Type 0} (xs : List A) (x : A) → reverse (xs ++ x ∷ []) ≡ x ∷ reverse xs
reverse-snoc xs x = reverse-append xs (x ∷ [])

pub reverse_more : {A : Type 0} (xs : List A) (i : ℕ) (d : A) → i < length xs → reverse (take (i + 1) xs) ≡ get_or xs i d ∷ reverse (take i xs)
reverse_more xs i d h = ap reverse (take_more xs i d h) ∙ reverse-snoc (take i xs) (get_or xs i d)

on_link-append : (l : ℕ) (ps : List Put) (p : Put) → on_link l (ps ++ p ∷ []) ≡ on_link l ps ++ cond (p.link == l) (p.message ∷ []) []
on_link-append l [] p = refl
on_link-append l (q ∷ ps) p = elim (q.link == l) as (λ b. cond b (q.message ∷ on_link l (ps ++ p ∷ [])) (on_link l (ps ++ p ∷ [])) ≡ cond b (q.message ∷ on_link l ps) (on_link l ps) ++ cond (p.link == l) (p.message ∷ []) [])
    [ true ↦ ap (λ r. q.message ∷ r) (on_link-append l ps p) | false ↦ on_link-append l ps p ]

pub on_link_more : (l : ℕ) (ps : List Put) (i : ℕ) (d : Put) → i < length ps → on_link l (take (i + 1) ps) ≡ on_link l (take i ps) ++ cond ((get_or ps i d).link == l) ((get_or ps i d).message ∷ []) []
on_link_more l ps i d h = ap (on_link l) (take_more ps i d h) ∙ on_link-append l (take i ps) (get_or ps i d)

pub puts_on_more : (l : ℕ) (ps : List Put) (i : ℕ) (d : Put) → i < length ps → puts_on l (take (i + 1) ps) ≡ (puts_on l (take i ps) || ((get_or ps i d).link == l))
puts_on_more l ps i d h = ap (puts_on l) (take_more ps i d h) ∙ list_any-append (λ p. p.link == l) (take i ps) (get_or ps i d ∷ []) ∙ ap (λ b. puts_on l (take i ps) || b) (or_false ((get_or ps i d).link == l))
  where
    or_false : (b : Bool) → (b || false) ≡ b
    or_false true = refl
    or_false false = refl

least-snoc : (n : ℕ) (xs : List ℕ) (x : ℕ) → fold min n (xs ++ x ∷ []) ≡ min (fold min n xs) x
least-snoc n [] x = refl
least-snoc n (y ∷ ys) x = least-snoc (min n y) ys x

pub least_more : (n : ℕ) (f : ℕ → ℕ) (cs : List ℕ) (i : ℕ) → i < length cs → fold min n (map f (take (i + 1) cs)) ≡ min (fold min n (map f (take i cs))) (f (get_or cs i 0))
least_more n f cs i h = ap (λ xs. fold min n (map f xs)) (take_more cs i 0 h) ∙ ap (fold min n) (map-append f (take i cs) (get_or cs i 0 ∷ [])) ∙ least-snoc n (map f (take i cs)) (f (get_or cs i 0))

first-all : (n : ℕ) (h : List Step) → length h ≤ n → first n h ≡ h
first-all n [] p = refl
first-all n (s ∷ h) p = ap (λ b. if b then s ∷ h else first n h) (lt-ltb (length h) n (omega (arith, p)))

first-past : (n : ℕ) (s : Step) (h : List Step) → n ≤ length h → first n (s ∷ h) ≡ first n h
first-past n s h p = ap (λ b. if b then s ∷ h else first n h) (le-ltb (length h) n p)

first-append : (n : ℕ) (xs : List Step) (h : List Step) → n ≤ length h → first n (xs ++ h) ≡ first n h
first-append n [] h p = refl
first-append n (x ∷ xs) h p = let q : n ≤ length (xs ++ h) = omega (arith, p, length-append xs h) in first-past n x (xs ++ h) q ∙ first-append n xs h p

-- the first n steps of a history are the first n of its list, the oldest first
pub first_reverse : (n : ℕ) (xs : List Step) → reverse (take (min n (length xs)) xs) ≡ first n (reverse xs)
first_reverse n xs = by_cases (cases_lt n (length xs))
  where
    take-all : (ys : List Step) → take (length ys) ys ≡ ys
    take-all [] = refl
    take-all (y ∷ ys) = ap (λ r. y ∷ r) (take-all ys)

    by_cases : ((n < length xs) ⊎ (length xs ≤ n)) → reverse (take (min n (length xs)) xs) ≡ first n (reverse xs)
    by_cases (inl h) = let m : min n (length xs) ≡ n = omega (arith, h) in let k : length (reverse (take n xs)) ≡ n = omega (arith, h, length-reverse (take n xs), length-take n xs) in
        ap (λ i. reverse (take i xs)) m ∙ sym (first-all n (reverse (take n xs)) (omega (arith, k)))
        ∙ sym (first-append n (reverse (drop n xs)) (reverse (take n xs)) (omega (arith, k)))
        ∙ ap (first n) (sym (reverse-append (take n xs) (drop n xs))) ∙ ap (λ ys. first n (reverse ys)) (take-append-drop n xs)
    by_cases (inr h) = let m : min n (length xs) ≡ length xs = omega (arith, h) in let k : length (reverse xs) ≤ n = omega (arith, h, length-reverse xs) in
        ap (λ i. reverse (take i xs)) m ∙ ap reverse (take-all xs) ∙ sym (first-all n (reverse xs) k)

pub least_in-snoc : (o : Option ℕ) (xs : List ℕ) (x : ℕ) → least_in o (xs ++ x ∷ []) ≡ Some (min (unwrap_or (least_in o xs) x) x)
least_in-snoc o [] x = refl
least_in-snoc o (y ∷ ys) x = least_in-snoc (Some (min (unwrap_or o y) y)) ys x

pub least_in_more : (o : Option ℕ) (f : ℕ → ℕ) (us : List ℕ) (i : ℕ) → i < length us → least_in o (map f (take (i + 1) us)) ≡ Some (min (unwrap_or (least_in o (map f (take i us))) (f (get_or us i 0))) (f (get_or us i 0)))
least_in_more o f us i h = ap (λ xs. least_in o (map f xs)) (take_more us i 0 h) ∙ ap (least_in o) (map-append f (take i us) (get_or us i 0 ∷ [])) ∙ least_in-snoc o (map f (take i us)) (f (get_or us i 0))
