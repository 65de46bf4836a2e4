-- Trusted text, but for report_front, report_back.
-- The text of the report. Each line ends with a newline; numbers are decimal.
use Rattle.std.specs.Prelude.{ℕ, List, [], ◌∷◌, ◌++◌, map, flat_map, length, slice_index_or, codes, decimal}
use Rattle.sl_layout.specs.declared.actor.Sort.{Sort}
use Rattle.sl_layout.specs.declared.actor.Sort.TheVariants.{Cable}
use Rattle.sl_layout.specs.declared.actor.UnitId.{UnitId}
use Rattle.sl_layout.specs.declared.actor.ActorId.{ActorId}
use Rattle.sl_layout.specs.declared.actor.ActorId.TheVariants.{Unit as OfUnit}
use Rattle.sl_parts.specs.Parts.{Parts}
use Rattle.sl_layout.specs.Net.{Net, actor_of, link_of, units}
use Rattle.sl_net.specs.Spelling.{actor_text, port_of}
use Rattle.sl_saves.specs.declared.entry.Total.{Total}
use Rattle.sl_model.specs.declared.verdict.Cause.{Cause}
use Rattle.sl_model.specs.declared.verdict.Cause.TheVariants.{Skipped, Miscredited}
use Rattle.sl_model.specs.declared.verdict.Lag.{Lag}
use Rattle.sl_model.specs.declared.verdict.Lag.TheVariants.{Id, Channel}
use Rattle.sl_model.specs.declared.verdict.Verdict.{Verdict}
use Rattle.sl_model.specs.declared.verdict.Verdict.TheVariants.{Consistent, Inconsistent, Pending, NotIssued}
use Rattle.sl_model.specs.declared.findings.Row.{Row}
use Rattle.sl_model.specs.declared.findings.Finding.{Finding}
use Rattle.sl_model.specs.declared.findings.Drops.{Drops}
use Rattle.sl_model.specs.declared.findings.Lost.{Lost}
use Rattle.sl_model.specs.declared.findings.Findings.{Findings}
use Rattle.sl_model.specs.Findings.{channel_links}

-- Units and channels.

-- in D.p, out D.p
unfoldable pub port_text : Parts → UnitId → List ℕ
port_text parts u = actor_text parts (OfUnit u)

abbrev pub unit_or_none : Parts → ActorId → List ℕ
unit_or_none parts (OfUnit u) = port_text parts u
unit_or_none parts _ = []

-- the unit with this actor's number
abbrev pub unit_text : Net → ℕ → List ℕ
unit_text net u = unit_or_none net.parts (actor_of net u)

-- the unit at a place among the units, by its actor's number
abbrev pub unit_at : Net → ℕ → ℕ
unit_at net place = slice_index_or (units net) place 0

-- cable, or the crossbar from the port q as xq
abbrev pub sort_text : Sort → ℕ → List ℕ
sort_text Cable q = codes "cable"
sort_text _ q = codes "x" ++ decimal q

abbrev pub channel_text : Net → ℕ → List ℕ
channel_text net l = sort_text (link_of net l).sort (port_of (actor_of net (link_of net l).from))

-- the data channel of a unit at a place among its data channels
abbrev pub channel_at : Net → ℕ → ℕ → List ℕ
channel_at net u place = channel_text net (slice_index_or (channel_links net u) place 0)

-- Verdicts.

abbrev pub cause_text : Cause → List ℕ
cause_text (Skipped j) = codes "skipped to " ++ decimal j
cause_text (Miscredited j) = codes "miscredited by " ++ decimal j

abbrev pub lag_text : Net → ℕ → Lag → List ℕ
lag_text net u (Id n) = codes "id " ++ decimal n
lag_text net u (Channel place n) = channel_at net u place ++ (codes " " ++ decimal n)

abbrev pub verdict_text : Net → Verdict → List ℕ
verdict_text net Consistent = codes "consistent"
verdict_text net (Inconsistent unit cause) = codes "inconsistent " ++ (unit_text net (unit_at net unit) ++ (codes " " ++ cause_text cause))
verdict_text net (Pending unit lag) = codes "pending " ++ (unit_text net (unit_at net unit) ++ (codes " " ++ lag_text net (unit_at net unit) lag))
verdict_text net (NotIssued unit floor) = codes "not issued " ++ (unit_text net (unit_at net unit) ++ (codes " " ++ decimal floor))

unfoldable pub verdict_line : Net → ℕ → Verdict → List ℕ
verdict_line net k v = codes "snapshot " ++ (decimal k ++ (codes " " ++ (verdict_text net v ++ codes "\n")))

-- Rows.

abbrev pub totals_text : Net → List ℕ → List Total → List ℕ
totals_text net (l ∷ ls) (t ∷ ts) = codes " " ++ (channel_text net l ++ (codes " " ++ (decimal t.packets ++ (codes " " ++ (decimal t.bytes ++ totals_text net ls ts)))))
totals_text net _ _ = []

unfoldable pub row_line : Net → ℕ → Row → List ℕ
row_line net u r = unit_text net u ++ (codes " " ++ (decimal r.packets ++ (codes " " ++ (decimal r.bytes ++ (totals_text net (channel_links net u) r.inflight ++ codes "\n")))))

-- a line for each unit in order
abbrev pub rows_text : Net → List ℕ → List Row → List ℕ
rows_text net (u ∷ us) (r ∷ rs) = row_line net u r ++ rows_text net us rs
rows_text net _ _ = []

abbrev pub finding_text : Net → Finding → List ℕ
finding_text net f = verdict_line net f.k f.verdict ++ rows_text net (units net) f.rows

-- The other lines.

unfoldable pub network_line : Net → List ℕ
network_line net = codes "network devices " ++ (decimal (length net.parts.devices) ++ (codes " units " ++ (decimal (length (units net))
    ++ (codes " hosts " ++ (decimal (length net.parts.hosts) ++ codes "\n")))))

unfoldable pub observer_line : ℕ → Findings → List ℕ
observer_line count f = codes "observer count " ++ (decimal count ++ (codes " issued " ++ (decimal f.issued ++ (codes " collected " ++ (decimal f.floor
    ++ (codes " resent " ++ (decimal f.resent ++ codes "\n")))))))

unfoldable pub host_line : List ℕ → ℕ → ℕ → List ℕ
host_line name sent delivered = codes "host " ++ (name ++ (codes " sent " ++ (decimal sent ++ (codes " delivered " ++ (decimal delivered ++ codes "\n")))))

-- a line for each host in order
abbrev pub hosts_text : List (List ℕ) → List ℕ → List ℕ → List ℕ
hosts_text (name ∷ names) (sent ∷ sents) (delivered ∷ delivereds) = host_line name sent delivered ++ hosts_text names sents delivereds
hosts_text _ _ _ = []

unfoldable pub drops_line : Drops → List ℕ
drops_line d = codes "drops bad " ++ (decimal d.bad ++ (codes " expired " ++ (decimal d.expired ++ (codes " noroute " ++ (decimal d.noroute ++ codes "\n")))))

unfoldable pub lost_line : Lost → List ℕ
lost_line l = codes "lost cable " ++ (decimal l.cable ++ (codes " crossbar " ++ (decimal l.crossbar ++ (codes " init " ++ (decimal l.init
    ++ (codes " notice " ++ (decimal l.notice ++ codes "\n")))))))

-- a report up to its snapshots, and what comes after them
abbrev pub report_front : Net → ℕ → Findings → List ℕ
report_front net count f = codes "speedlight 1\n" ++ (network_line net ++ observer_line count f)

abbrev pub report_back : Net → Findings → List ℕ
report_back net f = hosts_text (map (λ host. host.name) net.parts.hosts) f.sent f.delivered ++ (drops_line f.drops ++ (lost_line f.lost ++ codes "end\n"))

-- the report on a net, of so many snapshots that were to be taken
abbrev pub report_text : Net → ℕ → Findings → List ℕ
report_text net count f = codes "speedlight 1\n" ++ (network_line net ++ (observer_line count f ++ (flat_map (finding_text net) f.list
    ++ (hosts_text (map (λ host. host.name) net.parts.hosts) f.sent f.delivered ++ (drops_line f.drops ++ (lost_line f.lost ++ codes "end\n"))))))
