-- Trusted text.
-- The text of a run's values. Each line ends with a newline; numbers are decimal.
--     values_text net list sent delivered    for each snapshot its verdict, and where it is whole a line for each unit; then a line for each host
use Rattle.std.specs.Prelude.{ℕ, List, [], ◌∷◌, ◌++◌, map, flat_map, codes, decimal}
use Rattle.sl_layout.specs.Net.{Net, units}
use Rattle.sl_model.specs.declared.verdict.Verdict.TheVariants as with_channels
use Rattle.sl_report.specs.Report.{unit_text, verdict_line, hosts_text}
use Rattle.sl_value.specs.declared.whole.Whole.{Whole}
use Rattle.sl_value.specs.declared.verdict.ValueVerdict.{ValueVerdict}
use Rattle.sl_value.specs.declared.verdict.ValueVerdict.TheVariants.{Whole as IsWhole, Pending, NotIssued}
use Rattle.sl_value.specs.declared.verdict.ValueFinding.{ValueFinding}

unfoldable pub whole_line : ℕ → List ℕ
whole_line k = codes "snapshot " ++ (decimal k ++ codes " whole\n")

-- pending, and not issued, have the line of a report
abbrev pub value_verdict_line : Net → ℕ → ValueVerdict → List ℕ
value_verdict_line net k IsWhole = whole_line k
value_verdict_line net k (Pending unit lag) = verdict_line net k (with_channels.Pending unit lag)
value_verdict_line net k (NotIssued unit floor) = verdict_line net k (with_channels.NotIssued unit floor)

-- the line of the unit with this actor's number
unfoldable pub value_line : Net → ℕ → Whole → List ℕ
value_line net u v = unit_text net u ++ (codes " " ++ (decimal v.packets ++ (codes " " ++ (decimal v.bytes ++ codes "\n"))))

-- a line for each unit in order
abbrev pub value_lines : Net → List ℕ → List Whole → List ℕ
value_lines net (u ∷ us) (v ∷ vs) = value_line net u v ++ value_lines net us vs
value_lines net _ _ = []

abbrev pub value_finding_text : Net → ValueFinding → List ℕ
value_finding_text net f = value_verdict_line net f.k f.verdict ++ value_lines net (units net) f.values

abbrev pub values_text : Net → List ValueFinding → List ℕ → List ℕ → List ℕ
values_text net list sent delivered = codes "values 1\n" ++ (flat_map (value_finding_text net) list
    ++ (hosts_text (map (λ host. host.name) net.parts.hosts) sent delivered ++ codes "end\n"))
