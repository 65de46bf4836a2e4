-- A total that stays at its last value grows as the total does.
use Rattle.std.proofs.Common.{◌≡◌, ℕ, zero, suc, ◌+◌, ◌<◌, ◌^◌, List, [], ◌∷◌, refl, ap, arith}
use Rattle.std.specs.Prelude.{min, map, slice_set, slice_index_or}
use Rattle.std.specs.List.{AllByRecursion}
use Rattle.sl_saves.specs.declared.entry.Total.{Total}
use Rattle.sl_saves.specs.declared.entry.Saved.{Saved}
use Rattle.sl_saves.specs.declared.entry.Saved.TheVariants.{Value, Skipped, Miscredited}
use Rattle.sl_saves.specs.Calls.{Credit, totals, total_on, one_more}
use Rattle.sl_saves.specs.Views.{held, held_saved, IsFitting, last_count}
use Rattle.sl_saves.specs.Keeping.{grown, no_total}

min-more : (m x b : ℕ) → min (x + b) m ≡ min (min x m + b) m
min-more m x b = omega arith

held-more : (bytes : ℕ) (t : Total) → held (one_more bytes t) ≡ grown bytes (held t)
held-more bytes t = let p = min-more last_count t.packets 1 in let b = min-more last_count t.bytes bytes in λ i. record { packets = p i; bytes = b i }

-- a credit grows the total of its channel
pub held-credit : (ch age bytes : ℕ) (cs : List Credit) → ch < 8
    → slice_set (map held (totals cs)) ch (grown bytes (slice_index_or (map held (totals cs)) ch no_total)) ≡ map held (totals (record { channel = ch; age = age; bytes = bytes } ∷ cs))
held-credit zero age bytes cs h = rw (held-more bytes (total_on 0 cs)) refl
held-credit (suc zero) age bytes cs h = rw (held-more bytes (total_on 1 cs)) refl
held-credit (suc (suc zero)) age bytes cs h = rw (held-more bytes (total_on 2 cs)) refl
held-credit (suc (suc (suc zero))) age bytes cs h = rw (held-more bytes (total_on 3 cs)) refl
held-credit (suc (suc (suc (suc zero)))) age bytes cs h = rw (held-more bytes (total_on 4 cs)) refl
held-credit (suc (suc (suc (suc (suc zero))))) age bytes cs h = rw (held-more bytes (total_on 5 cs)) refl
held-credit (suc (suc (suc (suc (suc (suc zero)))))) age bytes cs h = rw (held-more bytes (total_on 6 cs)) refl
held-credit (suc (suc (suc (suc (suc (suc (suc zero))))))) age bytes cs h = rw (held-more bytes (total_on 7 cs)) refl
held-credit (suc (suc (suc (suc (suc (suc (suc (suc ch)))))))) age bytes cs h = absurd (omega (arith, h))

min-fits : (x : ℕ) → x < 2 ^ 64 → min x last_count ≡ x
min-fits x h = omega (arith, h)

held-fits : (ts : List Total) → AllByRecursion (λ t. (t.packets < 2 ^ 64) × (t.bytes < 2 ^ 64)) ts → map held ts ≡ ts
held-fits [] h = refl
held-fits (t ∷ ts) h = let p = min-fits t.packets h.0.0 in let b = min-fits t.bytes h.0.1 in let r = held-fits ts h.1 in
    λ i. record { packets = p i; bytes = b i } ∷ r i

-- an answer whose totals fit is held as it is
pub held-fitting : (s : Saved) → IsFitting s → held_saved s ≡ s
held-fitting (Value packets bytes inflight) h = ap (Value packets bytes) (held-fits inflight h)
held-fitting (Skipped to) h = refl
held-fitting (Miscredited by reach) h = refl
