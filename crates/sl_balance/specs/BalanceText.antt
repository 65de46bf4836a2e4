-- Trusted text.
-- The text of the table of balance. Each line ends with a newline; numbers are decimal.
use Rattle.std.specs.Prelude.{ℕ, List, ◌++◌, flat_map, codes, decimal}
use Rattle.sl_parts.specs.Parts.{Parts}
use Rattle.sl_layout.specs.Net.{Net}
use Rattle.sl_net.specs.Spelling.{device_name, host_name}
use Rattle.sl_route.specs.Pairs.{pairs_text}
use Rattle.sl_balance.specs.declared.line.Line1.{Line1}
use Rattle.sl_balance.specs.Equal.{equal_ports}

unfoldable pub table_line : List ℕ → Line1 → List ℕ
table_line device l = codes "table " ++ (decimal l.k ++ (codes " " ++ (device ++ (codes " " ++ (decimal l.cables ++ (codes " " ++ (decimal l.least
    ++ (codes " " ++ (decimal l.greatest ++ (codes " " ++ (decimal l.spread ++ codes "\n")))))))))))

abbrev pub line_text : Parts → Line1 → List ℕ
line_text parts l = table_line (device_name parts l.device) l

unfoldable pub paths_line : List ℕ → List ℕ → ℕ → List ℕ
paths_line device host n = codes "paths " ++ (device ++ (codes " " ++ (host ++ (codes " " ++ (decimal n ++ codes "\n")))))

abbrev pub paths_text : Parts → ℕ → ℕ → List ℕ
paths_text parts d h = paths_line (device_name parts d) (host_name parts h) (equal_ports parts d h)

-- the lines of the table, and then for each device in order its lines
abbrev pub balance_text : Net → List Line1 → List ℕ
balance_text net lines = codes "balance 1\n" ++ (flat_map (line_text net.parts) lines
    ++ (pairs_text paths_text net.parts ++ codes "end\n"))
