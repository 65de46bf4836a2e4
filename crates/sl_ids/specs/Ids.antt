-- Trusted text for nodes, but for most_bits, distance, unwrapped.
-- Wrapped ids of some bits. Of Yaseen, Sonchack and Liu 2018: ids on the wire wrap, and are compared relative to one
-- that is known.
use Rattle.std.specs.Prelude.{ℕ, ◌+◌, ◌-◌, ◌%◌, ◌^◌}

-- how many bits they have at most
abbrev pub most_bits : ℕ
most_bits = 16

-- how many wrapped ids there are
abbrev pub modulus : ℕ → ℕ
modulus bits = 2 ^ bits

-- the wrapped id of a number
abbrev pub wrapped : ℕ → ℕ → ℕ
wrapped bits k = k % modulus bits

-- how far one goes up from one wrapped id to another
abbrev pub distance : ℕ → ℕ → ℕ → ℕ
distance bits from to = (to + modulus bits - from) % modulus bits

-- the number that a wrapped id stands for, relative to one that is known: the least from that one on
abbrev pub unwrapped : ℕ → ℕ → ℕ → ℕ
unwrapped bits base w = base + distance bits (wrapped bits base) w
