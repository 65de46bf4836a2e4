-- Trusted text.
-- The text of the summary of a sample: the sizes of its net, and sums over its hosts, snapshots and links. Each line ends with a newline; numbers are decimal.
use Rattle.std.specs.Prelude.{ℕ, ◌+◌, Bool, true, false, List, ◌++◌, filter, length, sum, codes, decimal}
use Rattle.sl_layout.specs.Net.{Net, units}
use Rattle.sl_model.specs.declared.verdict.Verdict.{Verdict}
use Rattle.sl_model.specs.declared.verdict.Verdict.TheVariants.{Consistent, Inconsistent, Pending, NotIssued}
use Rattle.sl_model.specs.declared.findings.Finding.{Finding}
use Rattle.sl_model.specs.declared.findings.Lost.{Lost}
use Rattle.sl_model.specs.declared.findings.Findings.{Findings}
use Rattle.sl_report.specs.declared.summary.Outcome.{Outcome}
use Rattle.sl_report.specs.declared.summary.Outcome.TheVariants as outcome

-- the verdict is of this kind
abbrev pub is_of : Outcome → Verdict → Bool
is_of outcome.Consistent Consistent = true
is_of outcome.Inconsistent (Inconsistent unit cause) = true
is_of outcome.Pending (Pending unit lag) = true
is_of outcome.NotIssued (NotIssued unit floor) = true
is_of _ _ = false

-- how many snapshots have such a verdict
abbrev pub count_outcomes : Outcome → List Finding → ℕ
count_outcomes kind findings = length (filter (λ f. is_of kind f.verdict) findings)

unfoldable pub sample_line : ℕ → List ℕ
sample_line n = codes "sample " ++ (decimal n ++ codes "\n")

unfoldable pub sizes_line : ℕ → ℕ → ℕ → List ℕ
sizes_line devices units hosts = codes "devices " ++ (decimal devices ++ (codes " units " ++ (decimal units ++ (codes " hosts " ++ (decimal hosts ++ codes "\n")))))

unfoldable pub traffic_line : ℕ → ℕ → List ℕ
traffic_line sent delivered = codes "sent " ++ (decimal sent ++ (codes " delivered " ++ (decimal delivered ++ codes "\n")))

unfoldable pub verdicts_line : ℕ → ℕ → ℕ → ℕ → List ℕ
verdicts_line consistent inconsistent pending not_issued = codes "consistent " ++ (decimal consistent ++ (codes " inconsistent " ++ (decimal inconsistent
    ++ (codes " pending " ++ (decimal pending ++ (codes " not issued " ++ (decimal not_issued ++ codes "\n")))))))

abbrev pub verdicts_text : List Finding → List ℕ
verdicts_text fs = verdicts_line (count_outcomes outcome.Consistent fs) (count_outcomes outcome.Inconsistent fs) (count_outcomes outcome.Pending fs) (count_outcomes outcome.NotIssued fs)

-- messages of every sort, lost on links of every kind
abbrev pub lost_in_all : Lost → ℕ
lost_in_all l = l.cable + l.crossbar + l.init + l.notice

unfoldable pub total_lost_line : ℕ → List ℕ
total_lost_line lost = codes "lost " ++ (decimal lost ++ codes "\n")

-- the summary of the sample n, which has this net
abbrev pub summary_text : ℕ → Net → Findings → List ℕ
summary_text n net f = sample_line n ++ (sizes_line (length net.parts.devices) (length (units net)) (length net.parts.hosts) ++ (traffic_line (sum f.sent) (sum f.delivered)
    ++ (verdicts_text f.list ++ (total_lost_line (lost_in_all f.lost) ++ codes "end\n"))))
