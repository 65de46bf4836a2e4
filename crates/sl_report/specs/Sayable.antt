-- Findings that the text of a report shows whole, as those of runs are.
--     IsSmall n                a number of 64 bits
--     IsSayable net count f    findings on so many snapshots of the net
use Rattle.std.specs.Prelude.{◌≡◌, ℕ, ◌<◌, ◌^◌, max, List, [], ◌∷◌, map, length, drop}
use Rattle.std.specs.List.{range_with_len}
use Rattle.sl_parts.specs.Lists.{Each}
use Rattle.sl_layout.specs.Net.{Net, units}
use Rattle.sl_saves.specs.declared.entry.Total.{Total}
use Rattle.sl_saves.specs.Keeping.{no_total}
use Rattle.sl_model.specs.declared.verdict.Cause.{Cause}
use Rattle.sl_model.specs.declared.verdict.Cause.TheVariants.{Skipped, Miscredited}
use Rattle.sl_model.specs.declared.verdict.Lag.{Lag}
use Rattle.sl_model.specs.declared.verdict.Lag.TheVariants.{Id, Channel}
use Rattle.sl_model.specs.declared.verdict.Verdict.{Verdict}
use Rattle.sl_model.specs.declared.verdict.Verdict.TheVariants.{Consistent, Inconsistent, Pending, NotIssued}
use Rattle.sl_model.specs.declared.findings.Row.{Row}
use Rattle.sl_model.specs.declared.findings.Finding.{Finding}
use Rattle.sl_model.specs.declared.findings.Drops.{Drops}
use Rattle.sl_model.specs.declared.findings.Lost.{Lost}
use Rattle.sl_model.specs.declared.findings.Findings.{Findings}
use Rattle.sl_model.specs.Findings.{channel_links}
use Rattle.sl_report.specs.Report.{unit_at}

abbrev pub IsSmall : ℕ → Type 0
IsSmall n = n < 2 ^ 64

-- Verdicts. u is the actor's number of a unit.

abbrev pub CauseIsSayable : Cause → Type 0
CauseIsSayable (Skipped j) = IsSmall j
CauseIsSayable (Miscredited j) = IsSmall j

-- a channel is a place among the unit's data channels
abbrev pub LagIsSayable : Net → ℕ → Lag → Type 0
LagIsSayable net u (Id n) = IsSmall n
LagIsSayable net u (Channel place n) = (place < length (channel_links net u)) × IsSmall n

-- a place among the units, 0 where there is no unit
abbrev pub IsUnitPlace : Net → ℕ → Type 0
IsUnitPlace net place = place < max 1 (length (units net))

abbrev pub VerdictIsSayable : Net → Verdict → Type 0
VerdictIsSayable net Consistent = Unit {0}
VerdictIsSayable net (Inconsistent unit cause) = IsUnitPlace net unit × CauseIsSayable cause
VerdictIsSayable net (Pending unit lag) = IsUnitPlace net unit × LagIsSayable net (unit_at net unit) lag
VerdictIsSayable net (NotIssued unit floor) = IsUnitPlace net unit × IsSmall floor

-- Rows.

abbrev pub TotalIsSayable : Total → Type 0
TotalIsSayable t = IsSmall t.packets × IsSmall t.bytes

-- eight totals; those past the unit's data channels are 0
pub record IsSayableRow (net : Net) (u : ℕ) (r : Row) : Type 0 where
  pub packets : IsSmall r.packets
  pub bytes : IsSmall r.bytes
  pub eight : length r.inflight ≡ 8
  pub totals : Each TotalIsSayable r.inflight
  pub past : Each (λ t. t ≡ no_total) (drop (length (channel_links net u)) r.inflight)

-- a row for each of these units
abbrev pub RowsAreSayable : Net → List ℕ → List Row → Type 0
RowsAreSayable net [] [] = Unit {0}
RowsAreSayable net (u ∷ us) (r ∷ rs) = IsSayableRow net u r × RowsAreSayable net us rs
RowsAreSayable net _ _ = ⊥

-- a consistent snapshot has a row for each unit, and any other has none
abbrev pub HasRowsFor : Net → Verdict → List Row → Type 0
HasRowsFor net Consistent rows = RowsAreSayable net (units net) rows
HasRowsFor net _ rows = rows ≡ []

pub record IsSayableFinding (net : Net) (f : Finding) : Type 0 where
  pub verdict : VerdictIsSayable net f.verdict
  pub rows : HasRowsFor net f.verdict f.rows

-- Findings.

-- a number for each host
pub record AreSayableCounts (net : Net) (ns : List ℕ) : Type 0 where
  pub hosts : length ns ≡ length net.parts.hosts
  pub each : Each IsSmall ns

pub record AreSayableDrops (d : Drops) : Type 0 where
  pub bad : IsSmall d.bad
  pub expired : IsSmall d.expired
  pub noroute : IsSmall d.noroute

pub record IsSayableLost (l : Lost) : Type 0 where
  pub cable : IsSmall l.cable
  pub crossbar : IsSmall l.crossbar
  pub init : IsSmall l.init
  pub notice : IsSmall l.notice

-- with a finding for each of the snapshots 1 to count, in order
pub record IsSayable (net : Net) (count : ℕ) (f : Findings) : Type 0 where
  pub issued : IsSmall f.issued
  pub floor : IsSmall f.floor
  pub resent : IsSmall f.resent
  pub numbers : map (λ finding. finding.k) f.list ≡ range_with_len 1 count
  pub each : Each (IsSayableFinding net) f.list
  pub sent : AreSayableCounts net f.sent
  pub delivered : AreSayableCounts net f.delivered
  pub drops : AreSayableDrops f.drops
  pub lost : IsSayableLost f.lost
