-- Trusted text for nodes, but for is_wid, has_room, unwrapped_each.
-- Several wrapped ids at once.
--     is_wid, has_room         what unwrapping asks of a wrapped id, and of the number that is known
--     unwrapped_each bits ns ws    the numbers that wrapped ids stand for, each relative to one that is known
use Rattle.std.specs.Prelude.{ℕ, ◌+◌, ◌^◌, Bool, List, [], ◌∷◌, nat_lt}
use Rattle.sl_ids.specs.declared.wid.Wid.{Wid}
use Rattle.sl_ids.specs.Ids.{modulus, unwrapped}

abbrev pub is_wid : ℕ → Wid → Bool
is_wid bits w = nat_lt w.raw (modulus bits)

-- the numbers up to the modulus above it fit 64 bits
abbrev pub has_room : ℕ → ℕ → Bool
has_room bits n = nat_lt (n + modulus bits) (2 ^ 64)

abbrev pub no_wid : Wid
no_wid = record { raw = 0 }

abbrev pub unwrapped_each : ℕ → List ℕ → List Wid → List ℕ
unwrapped_each bits (n ∷ ns) (w ∷ ws) = unwrapped bits n w.raw ∷ unwrapped_each bits ns ws
unwrapped_each bits _ _ = []
