-- Distances of wrapped ids are differences of numbers.
use Rattle.std.proofs.Common.{◌≡◌, ℕ, ◌+◌, ◌-◌, ◌*◌, ◌/◌, ◌%◌, ◌^◌, ◌<◌, ◌≤◌, ◌⊎◌, inl, inr, sym, subst, ◌∙◌, ap, arith}
use Rattle.std.specs.Int.{◌∣◌}
use Rattle.std.proofs.lemmas.Bool.{cases_lt}
use Rattle.std.proofs.Math.Pow.{pow_mono}
use Rattle.std.proofs.lemmas.Nat.{div-add-mod', mod-mul-add, mod_below, pow_pos, pow-add}
use Rattle.std.proofs.Math.Nat.{add-mod-mod, mod-add-mod, add-mod_right, mod-mod_of_dvd, dvd-mul_right, mod-eq_of_lt}
use Rattle.sl_ids.specs.Ids.{modulus, wrapped, distance, unwrapped}

-- going up from a wrapped id by its distance to another leads there
around : (m base w : ℕ) → w < m → (base + (w + m - base % m) % m) % m ≡ w
around m base w h =
    let below : base % m < m = mod_below base m (omega (arith, h)) in
    let parts : base / m * m + base % m ≡ base = div-add-mod' base m in
    let sum : base + (w + m - base % m) ≡ (base / m + 1) * m + w = omega arith in
    add-mod-mod base (w + m - base % m) m ∙ ap (λ n. n % m) sum ∙ mod-mul-add (base / m + 1) m w h

pub wrapped-distance : (bits base w : ℕ) → w < modulus bits → wrapped bits (base + distance bits (wrapped bits base) w) ≡ w
wrapped-distance bits base w h = around (modulus bits) base w h

distance-by : (m r d b : ℕ) → r < m → d < m → b ≡ (r + d) % m → (b + m - r) % m ≡ d
distance-by m r d b h l e = by_cases (cases_lt (r + d) m)
  where
    by_cases : ((r + d < m) ⊎ (m ≤ r + d)) → (b + m - r) % m ≡ d
    by_cases (inl p) =
        let is : b ≡ r + d = e ∙ mod-eq_of_lt p in
        let sum : b + m - r ≡ 1 * m + d = omega arith in
        ap (λ n. n % m) sum ∙ mod-mul-add 1 m d l
    by_cases (inr p) =
        let sum : r + d ≡ 1 * m + (r + d - m) = omega arith in
        let is : b ≡ r + d - m = e ∙ ap (λ n. n % m) sum ∙ mod-mul-add 1 m (r + d - m) (omega arith) in
        let back : b + m - r ≡ d = omega arith in
        ap (λ n. n % m) back ∙ mod-eq_of_lt l

-- the same by a difference that wraps at a multiple of the modulus
beyond : (m b base w : ℕ) → m ∣ b → base < b → w < m → w < b → (w + (b - base)) % b % m ≡ (w + m - base % m) % m
beyond m b base w parts low less fits =
    let x = (w + (b - base)) % b in
    let pos : 0 < m = omega (arith, less) in
    let sum : base + (w + (b - base)) ≡ w + b = omega (arith, low) in
    let around : (base + x) % b ≡ w = add-mod-mod base (w + (b - base)) b ∙ (ap (λ n. n % b) sum ∙ (add-mod_right w b ∙ mod-eq_of_lt fits)) in
    let same : (base + x) % m ≡ w = sym (mod-mod_of_dvd m (base + x) parts) ∙ (ap (λ n. n % m) around ∙ mod-eq_of_lt less) in
    let each : w ≡ (base % m + x % m) % m = sym (mod-add-mod base m (x % m) ∙ (add-mod-mod base x m ∙ same)) in
    sym (distance-by m (base % m) (x % m) w (mod_below base m pos) (mod_below x m pos) each)

pub distance-beyond : (bits base w : ℕ) → bits ≤ 64 → base < 2 ^ 64 → w < modulus bits → (w + (2 ^ 64 - base)) % 2 ^ 64 % modulus bits ≡ distance bits (wrapped bits base) w
distance-beyond bits base w few low less =
    let sum : bits + (64 - bits) ≡ 64 = omega (arith, few) in
    let split : modulus bits * 2 ^ (64 - bits) ≡ 2 ^ 64 = sym (pow-add 2 bits (64 - bits)) ∙ ap (λ n. 2 ^ n) sum in
    let parts : modulus bits ∣ 2 ^ 64 = subst (λ n. modulus bits ∣ n) split (dvd-mul_right (modulus bits) (2 ^ (64 - bits))) in
    let most : modulus bits ≤ 2 ^ 64 = pow_mono few in
    beyond (modulus bits) (2 ^ 64) base w parts low less (omega (arith, less, most))

-- the distance between the wrapped ids of numbers that lie less than the modulus apart
pub distance-wrapped : (bits a b : ℕ) → a ≤ b → b < a + modulus bits → distance bits (wrapped bits a) (wrapped bits b) ≡ b - a
distance-wrapped bits a b h l =
    let sum : a + (b - a) ≡ b = omega arith in
    distance-by (modulus bits) (wrapped bits a) (b - a) (wrapped bits b) (mod_below a (modulus bits) (pow_pos bits)) (omega (arith, h, l))
    (sym (mod-add-mod a (modulus bits) (b - a) ∙ ap (λ n. n % modulus bits) sum))

-- the number that a wrapped id stands for is the one near that was wrapped
pub unwrapped-near : (bits base n : ℕ) → base ≤ n → n < base + modulus bits → unwrapped bits base (wrapped bits n) ≡ n
unwrapped-near bits base n h l = let e = distance-wrapped bits base n h l in omega (arith, e, h)
