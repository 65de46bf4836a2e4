-- Trusted text; listed for nodes, but for Rises, numbers, last_of.
-- Words on lists and numbers that the definitions share.
--     Rises n xs b     n, then the numbers xs, then b, never fall
--     weigh f xs       a number of each element, added up
use Rattle.std.specs.Prelude.{ℕ, suc, ◌+◌, ◌≤◌, Bool, List, [], ◌∷◌, ◌++◌, if◌then◌else◌, Option, Some, None}

abbrev pub Rises : ℕ → List ℕ → ℕ → Type 0
Rises n [] b = n ≤ b
Rises n (x ∷ xs) b = (n ≤ x) × Rises x xs b

abbrev pub weigh : {A : Type 0} → (A → ℕ) → List A → ℕ
weigh f [] = 0
weigh f (x ∷ xs) = f x + weigh f xs

-- how many elements pass a test
abbrev pub tally : {A : Type 0} → (A → Bool) → List A → ℕ
tally test xs = weigh (λ x. if test x then 1 else 0) xs

abbrev pub listed : {A : Type 0} → Option A → List A
listed None = []
listed (Some x) = x ∷ []

-- the numbers that some elements have, in order
abbrev pub numbers : {A : Type 0} → (A → Option ℕ) → List A → List ℕ
numbers f [] = []
numbers f (x ∷ xs) = listed (f x) ++ numbers f xs

-- the last of some numbers, or n where there is none
abbrev pub last_of : ℕ → List ℕ → ℕ
last_of n [] = n
last_of n (x ∷ xs) = last_of x xs

abbrev pub or_later : {A : Type 0} → ℕ → Option A → Option (ℕ × A) → Option (ℕ × A)
or_later n (Some a) o = Some (n, a)
or_later n None o = o

-- the first element of which f says something, by its place counted from n, and what f says of it
abbrev pub first_from : {A B : Type 0} → ℕ → (A → Option B) → List A → Option (ℕ × B)
first_from n f [] = None
first_from n f (x ∷ xs) = or_later n (f x) (first_from (suc n) f xs)

abbrev pub first_told : {A B : Type 0} → (A → Option B) → List A → Option (ℕ × B)
first_told f xs = first_from 0 f xs
