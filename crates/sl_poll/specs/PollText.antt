-- Trusted text.
-- The text of a reading. Each line ends with a newline; numbers are decimal.
use Rattle.std.specs.Prelude.{ℕ, List, ◌++◌, flat_map, Option, Some, None, codes, decimal}
use Rattle.sl_layout.specs.Net.{Net, link_of, choice_of}
use Rattle.sl_net.specs.Spelling.{choice_text}
use Rattle.sl_report.specs.Report.{unit_text, unit_at}
use Rattle.sl_poll.specs.declared.trail.Pair.{Pair}
use Rattle.sl_poll.specs.declared.reading.Read1.{Read1}

-- a link is spelled as the choice by which it is taken
abbrev pub link_text : Net → ℕ → List ℕ
link_text net l = choice_text net (link_of net l).to (choice_of net l)

-- what the unit of this text had counted
unfoldable pub counts_text : List ℕ → Read1 → List ℕ
counts_text unit r = codes "read " ++ (unit ++ (codes " " ++ (decimal r.at ++ (codes " " ++ (decimal r.packets
    ++ (codes " " ++ (decimal r.bytes ++ codes "\n")))))))

abbrev pub read_line : Net → Read1 → List ℕ
read_line net r = counts_text (unit_text net (unit_at net r.unit)) r

unfoldable pub times_text : Pair → List ℕ
times_text p = codes " sent " ++ (decimal p.put ++ (codes " received " ++ (decimal p.take ++ codes "\n")))

-- the first packet that breaks the reading, or none
abbrev pub broken_line : Net → Option Pair → List ℕ
broken_line net (Some p) = codes "broken " ++ (link_text net p.link ++ times_text p)
broken_line net None = codes "whole\n"

abbrev pub poll_text : Net → List Read1 → Option Pair → List ℕ
poll_text net reads broken = codes "poll 1\n" ++ (flat_map (read_line net) reads ++ (broken_line net broken ++ codes "end\n"))
