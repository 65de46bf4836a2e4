-- Trusted text, but for AreFew.
-- The table of balance.
--     balance net fs      a line for each consistent snapshot and in it for each device with a cable
use Rattle.std.specs.Prelude.{ℕ, ◌^◌, ◌<◌, List, [], ◌∷◌, map, flat_map, length, slice_get, unwrap_or, option_map}
use Rattle.std.specs.List.{All}
use Rattle.sl_parts.specs.Parts.{below}
use Rattle.sl_layout.specs.Net.{Net}
use Rattle.sl_model.specs.declared.verdict.Verdict.{Verdict}
use Rattle.sl_model.specs.declared.verdict.Verdict.TheVariants.{Consistent}
use Rattle.sl_model.specs.declared.findings.Row.{Row}
use Rattle.sl_model.specs.declared.findings.Finding.{Finding}
use Rattle.sl_balance.specs.declared.line.Line1.{Line1}
use Rattle.sl_balance.specs.Cabled.{cabled}
use Rattle.sl_balance.specs.Spread.{spread, lowest_of, highest_of}

-- the packets in the row of the unit at a place
abbrev pub packets_at : List Row → ℕ → ℕ
packets_at rows i = unwrap_or (option_map (λ r. r.packets) (slice_get rows i)) 0

-- the line of a device whose units with a cable counted so many packets each
abbrev pub line_of : ℕ → ℕ → List ℕ → List Line1
line_of k d [] = []
line_of k d (x ∷ xs) = record { k = k; device = d; cables = length (x ∷ xs); least = lowest_of x xs; greatest = highest_of x xs; spread = spread (x ∷ xs) } ∷ []

abbrev pub device_line : Net → ℕ → List Row → ℕ → List Line1
device_line net k rows d = line_of k d (map (packets_at rows) (cabled net d))

abbrev pub lines_if : Net → ℕ → List Row → Verdict → List Line1
lines_if net k rows Consistent = flat_map (device_line net k rows) (below (length net.parts.devices))
lines_if net k rows _ = []

abbrev pub finding_lines : Net → Finding → List Line1
finding_lines net f = lines_if net f.k f.rows f.verdict

abbrev pub balance : Net → List Finding → List Line1
balance net fs = flat_map (finding_lines net) fs

-- each count of packets in the rows is one of a finished run
abbrev pub AreFew : List Row → Type 0
AreFew rows = All (λ r. r.packets < 2 ^ 40) rows
