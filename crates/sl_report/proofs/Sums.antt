-- Sums over lists, and what the steps of a history count.
use Rattle.std.proofs.Common.{◌≡◌, ℕ, zero, suc, ◌+◌, ◌*◌, ◌<◌, ◌≤◌, ◌^◌, List, [], ◌∷◌, ◌++◌, length, take, drop, Bool, true, false, Option, Some, None, arith}
use Rattle.std.specs.Prelude.{nat_lt, ◌==◌, cond, if◌then◌else◌, filter, unwrap_or, option_map, option_and_then}
use Rattle.sl_parts.specs.Lists.{Each}
use Rattle.sl_model.specs.declared.message.Message.{Message}
use Rattle.sl_model.specs.declared.message.Message.TheVariants.{Host, Data, Probe, Init, Poll, Notice, Dump, Begin, Done}
use Rattle.sl_model.specs.Words.{weigh, tally, listed}
use Rattle.sl_model.specs.History.{History, id, takes}
use Rattle.sl_model.specs.Counting.{counted_in}
use Rattle.sl_model.specs.Short.{TakesShort}
use Rattle.sl_model.specs.Cut.{before, outside, data_count, data_bytes}
use Rattle.sl_model.specs.Late.{is_old, late}

module _ {A : Type 0} where
  pub weigh_less : (f g : A → ℕ) (xs : List A) → ((x : A) → f x ≤ g x) → weigh f xs ≤ weigh g xs
  weigh_less f g [] h = omega arith
  weigh_less f g (x ∷ xs) h = omega (arith, h x, weigh_less f g xs h)

  pub weigh_most : (f : A → ℕ) (xs : List A) → Each (λ x. f x ≤ 2 ^ 42) xs → weigh f xs ≤ 2 ^ 42 * length xs
  weigh_most f [] h = omega arith
  weigh_most f (x ∷ xs) h = omega (arith, h.0, weigh_most f xs h.1)

  weigh_append : (f : A → ℕ) (xs ys : List A) → weigh f (xs ++ ys) ≡ weigh f xs + weigh f ys
  weigh_append f [] ys = omega arith
  weigh_append f (x ∷ xs) ys = omega (arith, weigh_append f xs ys)

  weigh_filter : (f : A → ℕ) (t : A → Bool) (xs : List A) → weigh f (filter t xs) ≤ weigh f xs
  weigh_filter f t [] = omega arith
  weigh_filter f t (x ∷ xs) = go (t x) (weigh_filter f t xs)
    where
      go : (b : Bool) → weigh f (filter t xs) ≤ weigh f xs → weigh f (cond b (x ∷ filter t xs) (filter t xs)) ≤ weigh f (x ∷ xs)
      go true ih = omega (arith, ih)
      go false ih = omega (arith, ih)

  pub tally_most : (t : A → Bool) (xs : List A) → tally t xs ≤ length xs
  tally_most t [] = omega arith
  tally_most t (x ∷ xs) = go (t x) (tally_most t xs)
    where
      go : (b : Bool) → tally t xs ≤ length xs → (if b then 1 else 0) + tally t xs ≤ length (x ∷ xs)
      go true ih = omega (arith, ih)
      go false ih = omega (arith, ih)

  pub each_take : (P : A → Type 0) (n : ℕ) (xs : List A) → Each P xs → Each P (take n xs)
  each_take P zero xs h = tt
  each_take P (suc n) [] h = tt
  each_take P (suc n) (x ∷ xs) h = (h.0, each_take P n xs h.1)

  pub each_past : (P : A → Type 0) (m : ℕ) (xs ys : List A) → Each P ys → Each P (drop (length xs) (take m (xs ++ ys)))
  each_past P m [] ys h = each_take P m ys h
  each_past P zero (x ∷ xs) ys h = tt
  each_past P (suc m) (x ∷ xs) ys h = each_past P m xs ys h

-- The steps before a cut are some of the steps, and so are those outside.

pub before_few : (k : ℕ) (h : History) → length (before k h) ≤ length h
before_few k [] = omega arith
before_few k (s ∷ h) = go (nat_lt (id (s ∷ h)) k) (before_few k h)
  where
    go : (b : Bool) → length (before k h) ≤ length h → length (if b then s ∷ h else before k h) ≤ length (s ∷ h)
    go true ih = omega arith
    go false ih = omega (arith, ih)

pub before_short : (k : ℕ) (h : History) → TakesShort h → TakesShort (before k h)
before_short k [] p = tt
before_short k (s ∷ h) p = go (nat_lt (id (s ∷ h)) k) (before_short k h p.1)
  where
    go : (b : Bool) → TakesShort (before k h) → TakesShort (if b then s ∷ h else before k h)
    go true ih = p
    go false ih = ih

outside_few : (k : ℕ) (h : History) → length (outside k h) ≤ length h
outside_few k [] = omega arith
outside_few k (s ∷ h) = go (nat_lt (id (s ∷ h)) k) (outside_few k h)
  where
    go : (b : Bool) → length (outside k h) ≤ length h → length (if b then [] else s ∷ outside k h) ≤ length (s ∷ h)
    go true ih = omega arith
    go false ih = omega (arith, ih)

outside_short : (k : ℕ) (h : History) → TakesShort h → TakesShort (outside k h)
outside_short k [] p = tt
outside_short k (s ∷ h) p = go (nat_lt (id (s ∷ h)) k) (outside_short k h p.1)
  where
    go : (b : Bool) → TakesShort (outside k h) → TakesShort (if b then [] else s ∷ outside k h)
    go true ih = tt
    go false ih = (p.0, ih)

-- What messages weigh.

count_one : (m : Message) → data_count m ≤ 1
count_one (Data s p) = omega arith
count_one (Host b) = omega arith
count_one (Probe s) = omega arith
count_one (Init s) = omega arith
count_one Poll = omega arith
count_one Notice = omega arith
count_one (Dump n) = omega arith
count_one (Begin k) = omega arith
count_one (Done u n) = omega arith

bytes_few : (m : Message) → unwrap_or (option_map (λ p. p.len) (counted_in m)) 0 < 2 ^ 16 → data_bytes m ≤ 65535
bytes_few (Data s p) h = omega (arith, h)
bytes_few (Host b) h = omega arith
bytes_few (Probe s) h = omega arith
bytes_few (Init s) h = omega arith
bytes_few Poll h = omega arith
bytes_few Notice h = omega arith
bytes_few (Dump n) h = omega arith
bytes_few (Begin k) h = omega arith
bytes_few (Done u n) h = omega arith

takes_count : (c : ℕ) (h : History) → weigh data_count (takes c h) ≤ length h
takes_count c [] = omega arith
takes_count c (s ∷ h) = let a = weigh_append data_count (takes c h) (if s.choice == c then listed s.taken else []) in omega (arith, a, takes_count c h, go (s.choice == c) s.taken)
  where
    go : (b : Bool) (o : Option Message) → weigh data_count (if b then listed o else []) ≤ 1
    go true (Some m) = omega (arith, count_one m)
    go true None = omega arith
    go false o = omega arith

takes_bytes : (c : ℕ) (h : History) → TakesShort h → weigh data_bytes (takes c h) ≤ 65535 * length h
takes_bytes c [] p = omega arith
takes_bytes c (s ∷ h) p = let a = weigh_append data_bytes (takes c h) (if s.choice == c then listed s.taken else []) in omega (arith, a, takes_bytes c h p.1, go (s.choice == c) s.taken p.0)
  where
    go : (b : Bool) (o : Option Message) → unwrap_or (option_map (λ p. p.len) (option_and_then counted_in o)) 0 < 2 ^ 16 → weigh data_bytes (if b then listed o else []) ≤ 65535
    go true (Some m) q = omega (arith, bytes_few m q)
    go true None q = omega arith
    go false o q = omega arith

-- what came late was taken
pub late_count : (k c : ℕ) (h : History) → weigh data_count (late k c h) ≤ length h
late_count k c h = omega (arith, weigh_filter data_count (is_old k) (takes c (outside k h)), takes_count c (outside k h), outside_few k h)

pub late_bytes : (k c : ℕ) (h : History) → TakesShort h → weigh data_bytes (late k c h) ≤ 65535 * length h
late_bytes k c h p = omega (arith, weigh_filter data_bytes (is_old k) (takes c (outside k h)), takes_bytes c (outside k h) (outside_short k h p), outside_few k h)
