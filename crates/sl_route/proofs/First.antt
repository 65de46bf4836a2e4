-- The least number that passes a test.
use Rattle.std.proofs.Common.{◌≡◌, ◌≢◌, ℕ, zero, suc, ◌<◌, ◌≤◌, refl, sym, ap, ◌∙◌, arith, inl, inr}
use Rattle.std.specs.Prelude.{◌⊎◌, Bool, true, false, cond, ◌&&◌, ◌==◌, Option, Some, None, is_none}
use Rattle.std.proofs.lemmas.Bool.{cases_lt}
use Rattle.std.proofs.lemmas.Bool.Decides.{eqb_tells}
use Rattle.sl_route.specs.Graph.{first_to_pass, is_at}

pub bool_same : (a b : Bool) → (a ≡ true → b ≡ true) → (b ≡ true → a ≡ true) → a ≡ b
bool_same true b f g = sym (f refl)
bool_same false true f g = g refl
bool_same false false f g = refl

pub apart : (b : Bool) → b ≡ true → b ≡ false → ⊥
apart b x y = cc

pub is_false : (a : Bool) → (a ≡ true → ⊥) → a ≡ false
is_false true f = absurd (f refl)
is_false false f = refl

-- One number more.

more-none : (o : Option ℕ) (b : Bool) (v : ℕ) → cond (is_none o && b) (Some v) o ≡ None → (o ≡ None) × (b ≡ false)
more-none None true v h = absurd cc
more-none None false v h = (refl, refl)
more-none (Some m) b v h = absurd cc

abbrev Newly : Option ℕ → Bool → ℕ → ℕ → Type 0
Newly o b v m = (o ≡ None) × (b ≡ true) × (v ≡ m)

more-some : (o : Option ℕ) (b : Bool) (v m : ℕ) → cond (is_none o && b) (Some v) o ≡ Some m → (o ≡ Some m) ⊎ Newly o b v m
more-some None true v m h = inr (refl, refl, cc)
more-some None false v m h = absurd cc
more-some (Some x) b v m h = inl h

pub none-passes : (test : ℕ → Bool) (n j : ℕ) → first_to_pass test n ≡ None → j ≤ n → test j ≡ false
none-passes test zero j h k = let z : j ≡ 0 = omega (arith, k) in ap test z ∙ by_test (test 0) h
  where
    by_test : (b : Bool) → cond {A = Option ℕ} b (Some 0) None ≡ None → b ≡ false
    by_test true h = absurd cc
    by_test false h = refl
none-passes test (suc n) j h k = by_order (λ p l. none-passes test n j p l) (more-none (first_to_pass test n) (test (suc n)) (suc n) h) (cases_lt n j)
  where
    by_order : (first_to_pass test n ≡ None → j ≤ n → test j ≡ false) → (first_to_pass test n ≡ None) × (test (suc n) ≡ false) → (n < j) ⊎ (j ≤ n) → test j ≡ false
    by_order ih p (inl l) = let e : j ≡ suc n = omega (arith, k, l) in ap test e ∙ p.1
    by_order ih p (inr l) = ih p.0 l

pub record IsFirst (test : ℕ → Bool) (n m : ℕ) : Type 0 where
  pub within : m ≤ n
  pub passes : test m ≡ true
  pub first : (j : ℕ) → j < m → test j ≡ false

pub first-is : (test : ℕ → Bool) (n m : ℕ) → first_to_pass test n ≡ Some m → IsFirst test n m
first-is test zero m h = by_test (test 0) refl h
  where
    by_test : (b : Bool) → test 0 ≡ b → cond {A = Option ℕ} b (Some 0) None ≡ Some m → IsFirst test 0 m
    by_test true e h = let z : m ≡ 0 = cc in record { within = omega (arith, z); passes = ap test z ∙ e; first = λ j l. absurd (omega (arith, z, l)) }
    by_test false e h = absurd cc
first-is test (suc n) m h = by_step (λ e. first-is test n m e) (more-some (first_to_pass test n) (test (suc n)) (suc n) m h)
  where
    by_step : (first_to_pass test n ≡ Some m → IsFirst test n m) → (first_to_pass test n ≡ Some m) ⊎ Newly (first_to_pass test n) (test (suc n)) (suc n) m → IsFirst test (suc n) m
    by_step ih (inl e) = let f = ih e in record { within = omega (arith, f.within); passes = f.passes; first = f.first }
    by_step ih (inr p) = record { within = omega (arith, p.2); passes = ap test (sym p.2) ∙ p.1; first = λ j l. none-passes test n j p.0 (omega (arith, p.2, l)) }

-- where no lower number passes, it is this one or it doesn't pass
pub first-at : (test : ℕ → Bool) (n k : ℕ) → ((j : ℕ) → j < k → test j ≡ false) → k ≤ n → is_at k (first_to_pass test n) ≡ test k
first-at test n k h l = by_first (first_to_pass test n) refl
  where
    by_order : (m : ℕ) → IsFirst test n m → (((m == k) ≡ true) × (m ≡ k)) ⊎ (((m == k) ≡ false) × (m ≢ k)) → (m == k) ≡ test k
    by_order m f (inl e) = e.0 ∙ sym (ap test (sym e.1) ∙ f.passes)
    by_order m f (inr e) = by_lt (cases_lt m k)
      where
        by_lt : (m < k) ⊎ (k ≤ m) → (m == k) ≡ test k
        by_lt (inl p) = absurd (apart (test m) f.passes (h m p))
        by_lt (inr p) = e.0 ∙ sym (f.first k (let q : m ≢ k = e.1 in omega (arith, p, q)))

    by_first : (o : Option ℕ) → first_to_pass test n ≡ o → is_at k o ≡ test k
    by_first None e = sym (none-passes test n k e l)
    by_first (Some m) e = by_order m (first-is test n m e) (eqb_tells m k)
