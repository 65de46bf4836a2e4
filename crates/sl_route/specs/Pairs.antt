-- Trusted text.
-- Texts for each device and each host of a net.
use Rattle.std.specs.Prelude.{ℕ, List, flat_map, length}
use Rattle.sl_parts.specs.Parts.{Parts, below}

-- for each device in order a text for each host in order
abbrev pub pairs_text : (Parts → ℕ → ℕ → List ℕ) → Parts → List ℕ
pairs_text text parts = flat_map (λ d. flat_map (text parts d) (below (length parts.hosts))) (below (length parts.devices))
