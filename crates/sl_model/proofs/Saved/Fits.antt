-- Counts and totals of a history stay below the last values of their types.
use Rattle.std.proofs.Common.{ℕ, suc, ◌+◌, ◌*◌, ◌<◌, ◌≤◌, ◌^◌, List, [], ◌∷◌, ◌++◌, length, sym, subst, Option, Some, None, arith}
use Rattle.std.specs.Prelude.{true, false, Bool, nat_lt, ◌==◌, if◌then◌else◌, map, take, unwrap_or, option_map, option_and_then}
use Rattle.std.specs.List.{AllByRecursion}
use Rattle.sl_net.specs.declared.input.Packet.{Packet}
use Rattle.sl_saves.specs.declared.entry.Total.{Total}
use Rattle.sl_saves.specs.Calls.{one_more, total_on, channels}
use Rattle.sl_saves.specs.Views.{IsFitting}
use Rattle.sl_model.specs.declared.message.Message.{Message}
use Rattle.sl_model.specs.declared.message.Message.TheVariants.{Data}
use Rattle.sl_model.specs.declared.message.Step.{Step}
use Rattle.sl_model.specs.declared.verdict.Cause.{Cause}
use Rattle.sl_model.specs.declared.verdict.Cause.TheVariants.{Skipped as WasSkipped, Miscredited as WasMiscredited}
use Rattle.sl_model.specs.History.{History, first}
use Rattle.sl_model.specs.Counting.{counted_in, counted, packets, bytes}
use Rattle.sl_model.specs.Verdict.{adopted, cause}
use Rattle.sl_model.specs.Calls.{credit, credits_in}
use Rattle.sl_model.specs.Rows.{is_among, credits_at, told, row}
use Rattle.sl_model.specs.Short.{TakesShort}
use Rattle.sl_model.proofs.Saved.Settled.{both_totals, step-total}

-- Counters.

pub few-packets : (h : History) → packets h ≤ length h
few-packets [] = omega arith
few-packets (s ∷ h) = of_counted (counted s) (few-packets h)
  where
    of_counted : (o : Option Packet) → packets h ≤ length h → packets h + unwrap_or (option_map (λ p. 1) o) 0 ≤ suc (length h)
    of_counted None ih = omega (arith, ih)
    of_counted (Some p) ih = omega (arith, ih)

pub few-bytes : (h : History) → TakesShort h → bytes h ≤ 65535 * length h
few-bytes [] t = omega arith
few-bytes (s ∷ h) t = let ih = few-bytes h t.1 in let l : unwrap_or (option_map (λ p. p.len) (counted s)) 0 < 2 ^ 16 = t.0 in omega (arith, ih, l)

-- Totals.

record IsFew (n : ℕ) (t : Total) : Type 0 where
  pub packets : t.packets ≤ n
  pub bytes : t.bytes ≤ 65535 * n

few-step : (cs : List ℕ) (j k c : ℕ) (s : Step) → unwrap_or (option_map (λ p. p.len) (counted s)) 0 < 2 ^ 16 → IsFew 1 (total_on j (credits_in cs k c s.taken))
few-step cs j k c s l = of_taken s.taken l
  where
    of_bool : (t : ℕ) (p : Packet) → p.len < 2 ^ 16 → (a : Bool) → IsFew 1 (total_on j (if a then credit cs k c t p ∷ [] else []))
    of_bool t p l true = of_place ((credit cs k c t p).channel == j)
      where
        of_place : (b : Bool) → IsFew 1 (if b then one_more p.len (record { packets = 0; bytes = 0 }) else record { packets = 0; bytes = 0 })
        of_place true = record { packets = omega arith; bytes = omega (arith, l) }
        of_place false = record { packets = omega arith; bytes = omega arith }
    of_bool t p l false = record { packets = omega arith; bytes = omega arith }

    of_taken : (o : Option Message) → unwrap_or (option_map (λ p. p.len) (option_and_then counted_in o)) 0 < 2 ^ 16 → IsFew 1 (total_on j (credits_in cs k c o))
    of_taken (Some (Data t p)) l = of_bool t p l (nat_lt t k)
    of_taken _ l = record { packets = omega arith; bytes = omega arith }

few-credits : (n : ℕ) (cs : List ℕ) (j k : ℕ) (h : History) → TakesShort h → IsFew (length h) (total_on j (credits_at n cs k h))
few-credits n cs j k [] t = record { packets = omega arith; bytes = omega arith }
few-credits n cs j k (s ∷ h) t = by_bool (is_among k (take n (adopted (s ∷ h)))) (few-credits n cs j k h t.1)
  where
    more : IsFew (length h) (total_on j (credits_at n cs k h)) → IsFew 1 (total_on j (credits_in cs k s.choice s.taken)) → IsFew (suc (length h)) (both_totals (total_on j (credits_at n cs k h)) (total_on j (credits_in cs k s.choice s.taken)))
    more a b = let p = a.packets in let q = b.packets in let x = a.bytes in let y = b.bytes in record { packets = omega (arith, p, q); bytes = omega (arith, x, y) }

    by_bool : (b : Bool) → IsFew (length h) (total_on j (credits_at n cs k h))
        → IsFew (suc (length h)) (total_on j (if b then credits_in cs k s.choice s.taken ++ credits_at n cs k h else credits_at n cs k h))
    by_bool true ih = subst (IsFew (suc (length h))) (sym (step-total cs j k s.choice s.taken (credits_at n cs k h))) (more ih (few-step cs j k s.choice s t.0))
    by_bool false ih = let p = ih.packets in let x = ih.bytes in record { packets = omega (arith, p); bytes = omega (arith, x) }

-- Rows.

all-map : {A B : Type 0} (P : B → Type 0) (f : A → B) (xs : List A) → ((x : A) → P (f x)) → AllByRecursion P (map f xs)
all-map P f [] h = tt
all-map P f (x ∷ xs) h = (h x, all-map P f xs h)

fits-told : (n : ℕ) (cs : List ℕ) (k : ℕ) (h : History) (o : Option Cause) → TakesShort h → length h < 2 ^ 40 → IsFitting (told n cs k h o)
fits-told n cs k h (Some (WasSkipped j)) t l = tt
fits-told n cs k h (Some (WasMiscredited j)) t l = tt
fits-told n cs k h None t l = all-map (λ t. (t.packets < 2 ^ 64) × (t.bytes < 2 ^ 64)) (λ c. total_on c (credits_at n cs k h)) channels
    (λ j. let f = few-credits n cs j k h t in let p = f.packets in let b = f.bytes in (omega (arith, p, l), omega (arith, b, l)))

pub fits-row : (n : ℕ) (cs : List ℕ) (k : ℕ) (h : History) → TakesShort h → length h < 2 ^ 40 → IsFitting (row n cs k h)
fits-row n cs k h t l = fits-told n cs k h (cause n k h) t l

-- The first steps.

pub first-le : (n : ℕ) (h : History) → length (first n h) ≤ length h
first-le n [] = omega arith
first-le n (s ∷ h) = by_bool (nat_lt (length h) n) (first-le n h)
  where
    by_bool : (b : Bool) → length (first n h) ≤ length h → length (if b then s ∷ h else first n h) ≤ suc (length h)
    by_bool true p = omega arith
    by_bool false p = omega (arith, p)

pub first-short : (n : ℕ) (h : History) → TakesShort h → TakesShort (first n h)
first-short n [] t = t
first-short n (s ∷ h) t = by_bool (nat_lt (length h) n) (first-short n h t.1)
  where
    by_bool : (b : Bool) → TakesShort (first n h) → TakesShort (if b then s ∷ h else first n h)
    by_bool true p = t
    by_bool false p = p
