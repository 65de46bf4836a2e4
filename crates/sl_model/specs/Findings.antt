-- Trusted text.
-- The findings of a run, as data.
use Rattle.std.specs.Prelude.{ℕ, Bool, false, List, [], ◌++◌, map, filter, length, take, replicate}
use Rattle.std.specs.List.{range_with_len}
use Rattle.sl_layout.specs.declared.actor.Side.TheVariants.{Ingress}
use Rattle.sl_layout.specs.declared.actor.ActorId.{ActorId}
use Rattle.sl_layout.specs.declared.actor.ActorId.TheVariants.{Unit as OfUnit}
use Rattle.sl_layout.specs.declared.actor.Sort.{Sort}
use Rattle.sl_layout.specs.declared.actor.Sort.TheVariants.{Cable, Crossbar, Init, Notice}
use Rattle.sl_layout.specs.Net.{Net, same_side, same_sort, actor_of, link_of, link_at, link_numbers, action_choice, units, hosts, data_channels}
use Rattle.sl_layout.specs.Devices.{device_of}
use Rattle.sl_saves.specs.declared.entry.Total.{Total}
use Rattle.sl_saves.specs.Keeping.{no_total}
use Rattle.sl_model.specs.declared.verdict.Verdict.{Verdict}
use Rattle.sl_model.specs.declared.verdict.Verdict.TheVariants.{Consistent}
use Rattle.sl_model.specs.declared.findings.Row.{Row}
use Rattle.sl_model.specs.declared.findings.Finding.{Finding}
use Rattle.sl_model.specs.declared.findings.Drops.{Drops}
use Rattle.sl_model.specs.declared.findings.Lost.{Lost}
use Rattle.sl_model.specs.declared.findings.Findings.{Findings}
use Rattle.sl_model.specs.Words.{weigh, tally}
use Rattle.sl_model.specs.History.{History, World, Losses, history, taken, put}
use Rattle.sl_model.specs.Counting.{packets, bytes, bad, expired, noroute}
use Rattle.sl_model.specs.Setup.{Setup}
use Rattle.sl_model.specs.Knowledge.{observer, issued, resent, floor}
use Rattle.sl_model.specs.World.{Entry, sender, world}
use Rattle.sl_model.specs.Cut.{before, channel_value}
use Rattle.sl_model.specs.Verdict.{verdict}

-- Rows.

-- the data channels of a unit, as links
abbrev pub channel_links : Net → ℕ → List ℕ
channel_links net u = map (link_at net u) (data_channels net u)

-- a unit has at most eight data channels; places past them are 0
abbrev pub eight_totals : List Total → List Total
eight_totals ts = take 8 (ts ++ replicate 8 no_total)

abbrev pub row : Net → Losses → World → ℕ → ℕ → Row
row net lost w k u = record { packets = packets (before k (history w u)); bytes = bytes (before k (history w u)); inflight = eight_totals (map (channel_value net lost w k) (channel_links net u)) }

abbrev pub rows_for : Net → Losses → World → ℕ → Verdict → List Row
rows_for net lost w k Consistent = map (row net lost w k) (units net)
rows_for net lost w k _ = []

abbrev pub finding : ℕ → Net → Losses → World → ℕ → Finding
finding n net lost w k = record { k = k; verdict = verdict n net w k; rows = rows_for net lost w k (verdict n net w k) }

-- Drops, over the ingress units.

abbrev pub is_ingress : ActorId → Bool
is_ingress (OfUnit u) = same_side u.side Ingress
is_ingress _ = false

abbrev pub ingress_units : Net → List ℕ
ingress_units net = filter (λ u. is_ingress (actor_of net u)) (units net)

abbrev pub over_ingress : Net → World → (ℕ → History → ℕ) → ℕ
over_ingress net w count = weigh (λ u. count (device_of (actor_of net u)) (history w u)) (ingress_units net)

abbrev pub drops_of : Net → World → Drops
drops_of net w = record { bad = over_ingress net w (λ d h. bad h); expired = over_ingress net w (λ d h. expired h); noroute = over_ingress net w (λ d h. noroute net.parts d h) }

-- Losses. The links of each lossy kind are those of one sort.

abbrev pub lost_on : Net → Losses → World → ℕ → ℕ
lost_on net lost w l = tally (λ n. lost l n) (range_with_len 1 (length (put l (sender net w l))))

abbrev pub lost_of : Net → Losses → World → Sort → ℕ
lost_of net lost w sort = weigh (lost_on net lost w) (filter (λ l. same_sort (link_of net l).sort sort) (link_numbers net))

abbrev pub losses_of : Net → Losses → World → Lost
losses_of net lost w = record { cable = lost_of net lost w Cable; crossbar = lost_of net lost w Crossbar; init = lost_of net lost w Init; notice = lost_of net lost w Notice }

-- Hosts: the inject steps of each, and what it took from its link.

abbrev pub sent_by : Net → World → ℕ → ℕ
sent_by net w a = taken (action_choice net a) (history w a)

abbrev pub delivered_to : World → ℕ → ℕ
delivered_to w a = taken 0 (history w a)

abbrev pub findings_in : Setup → Losses → World → Findings
findings_in s lost w = record {
  issued = issued s.net (observer w);
  floor = floor s.net w;
  resent = resent s.net (observer w);
  list = map (finding s.credits s.net lost w) (range_with_len 1 s.count);
  sent = map (sent_by s.net w) (hosts s.net);
  delivered = map (delivered_to w) (hosts s.net);
  drops = drops_of s.net w;
  lost = losses_of s.net lost w;
}

-- the findings of the world that a schedule reaches
abbrev pub findings : Setup → Losses → List Entry → Findings
findings s lost schedule = findings_in s lost (world s lost schedule)
