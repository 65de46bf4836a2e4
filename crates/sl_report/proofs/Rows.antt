-- The worked rows, by computation: the whole text of each report, from the input's net, script and losses.
use Rattle.std.specs.Prelude.{◌≡◌, ℕ, List, [], ◌∷◌, ◌++◌, codes, refl}
use Rattle.std.specs.Fmt.{digits}
use Rattle.sl_net.specs.declared.input.Script1.TheVariants.{Pass}
use Rattle.sl_layout.specs.declared.actor.Sort.TheVariants.{Cable, Notice}
use Rattle.sl_layout.specs.Net.{link_of, same_sort}
use Rattle.sl_model.specs.History.{Losses}
use Rattle.sl_model.specs.Frame.{plain_frame, packet_of}
use Rattle.sl_route.specs.Route.{next_port}
use Rattle.sl_model.specs.Setup.{Setup}
use Rattle.sl_model.specs.World.{Entry}
use Rattle.sl_model.specs.Schedule.{expand}
use Rattle.sl_model.specs.Findings.{findings}
use Rattle.sl_model.proofs.Worked.Nets.{net_a, net_b, net_c, net_d, flow, setup, form, drop_one, book_of, no_loss}
use Rattle.sl_report.specs.Report.{port_text, verdict_line, row_line, network_line, observer_line, host_line, drops_line, lost_line, report_text}

-- lines, each ended by a newline
abbrev pub lines : List (List ℕ) → List ℕ
lines [] = []
lines (l ∷ ls) = l ++ (codes "\n" ++ lines ls)

-- the report of a script, followed by finishing
abbrev pub report_of : Setup → Losses → List Entry → List ℕ
report_of s lost script = report_text s.net s.count (findings s lost (book_of s lost script))

-- all puts on the links of a sort are lost
abbrev pub dead_cables : Losses
dead_cables l n = same_sort (link_of net_c l).sort Cable

abbrev pub dead_notices : Losses
dead_notices l n = same_sort (link_of net_b l).sort Notice

-- the report of a run on each net: what follows its first two lines
abbrev on_a : List (List ℕ) → List ℕ
on_a told = lines (codes "speedlight 1" ∷ codes "network devices 1 units 4 hosts 2" ∷ told)

abbrev on_b : List (List ℕ) → List ℕ
on_b told = lines (codes "speedlight 1" ∷ codes "network devices 1 units 2 hosts 1" ∷ told)

abbrev on_c : List (List ℕ) → List ℕ
on_c told = lines (codes "speedlight 1" ∷ codes "network devices 2 units 8 hosts 2" ∷ told)

-- its end, where nothing is dropped, with so many messages lost
abbrev lost : List ℕ → List (List ℕ)
lost counts = codes "drops bad 0 expired 0 noroute 0" ∷ (codes "lost " ++ counts) ∷ codes "end" ∷ []

abbrev none_lost : List (List ℕ)
none_lost = lost (codes "cable 0 crossbar 0 init 0 notice 0")

-- the rows of a consistent snapshot: on the first net with so much in flight from its first unit to its last
abbrev flying_a : List ℕ → List (List ℕ)
flying_a total = (codes "in a.0 " ++ total) ∷ codes "out a.0 0 0 x0 0 0 x1 0 0" ∷ codes "in a.1 0 0" ∷ (codes "out a.1 0 0 x0 " ++ (total ++ codes " x1 0 0")) ∷ []

-- on the second net, where both units counted so much
abbrev counted_b : List ℕ → List (List ℕ)
counted_b total = (codes "in a.0 " ++ total) ∷ (codes "out a.0 " ++ (total ++ codes " x0 0 0")) ∷ []

-- on the third net, where so much went from its first host to its second
abbrev through_c : List ℕ → List (List ℕ)
through_c total =
    (codes "in a.0 " ++ total) ∷ codes "out a.0 0 0 x0 0 0 x1 0 0"
    ∷ codes "in a.1 0 0 cable 0 0" ∷ (codes "out a.1 " ++ (total ++ codes " x0 0 0 x1 0 0"))
    ∷ (codes "in b.0 " ++ (total ++ codes " cable 0 0")) ∷ codes "out b.0 0 0 x0 0 0 x1 0 0"
    ∷ codes "in b.1 0 0" ∷ (codes "out b.1 " ++ (total ++ codes " x0 0 0 x1 0 0")) ∷ []

pub three_packets : report_of (form 3 100) no_loss [] ≡ on_a
    (codes "observer count 1 issued 1 collected 1 resent 0" ∷ codes "snapshot 1 consistent" ∷ flying_a (codes "0 0")
    ++ codes "host h0 sent 3 delivered 0" ∷ codes "host h1 sent 0 delivered 3" ∷ none_lost)
unfolding plain_frame packet_of next_port digits port_text verdict_line row_line network_line observer_line host_line drops_line lost_line
three_packets = refl

pub no_flow : report_of (setup net_a 3 1 0 []) no_loss [] ≡ on_a
    (codes "observer count 1 issued 1 collected 1 resent 0" ∷ codes "snapshot 1 consistent" ∷ flying_a (codes "0 0")
    ++ codes "host h0 sent 0 delivered 0" ∷ codes "host h1 sent 0 delivered 0" ∷ none_lost)
unfolding plain_frame packet_of next_port digits port_text verdict_line row_line network_line observer_line host_line drops_line lost_line
no_flow = refl

pub no_snapshot : report_of (setup net_a 3 0 0 (flow 0 1 3 100 8 ∷ [])) no_loss [] ≡ on_a
    (codes "observer count 0 issued 0 collected 0 resent 0" ∷ codes "host h0 sent 3 delivered 0" ∷ codes "host h1 sent 0 delivered 3" ∷ none_lost)
unfolding plain_frame packet_of next_port digits port_text verdict_line row_line network_line observer_line host_line drops_line lost_line
no_snapshot = refl

pub two_in_flight : report_of (form 3 100) no_loss ((6, 1) ∷ (6, 1) ∷ (2, 0) ∷ (2, 0) ∷ (0, 1) ∷ (1, 0) ∷ (4, 1) ∷ (5, 1) ∷ (5, 0) ∷ (5, 0) ∷ []) ≡ on_a
    (codes "observer count 1 issued 1 collected 1 resent 0" ∷ codes "snapshot 1 consistent" ∷ flying_a (codes "2 200")
    ++ codes "host h0 sent 3 delivered 0" ∷ codes "host h1 sent 0 delivered 3" ∷ none_lost)
unfolding plain_frame packet_of next_port digits port_text verdict_line row_line network_line observer_line host_line drops_line lost_line
two_in_flight = refl

pub five_snapshots : report_of (setup net_b 1 5 0 (flow 0 0 8 100 8 ∷ [])) no_loss [] ≡ on_b
    (codes "observer count 5 issued 5 collected 5 resent 0"
    ∷ codes "snapshot 1 consistent" ∷ counted_b (codes "0 0")
    ++ codes "snapshot 2 consistent" ∷ counted_b (codes "4 400")
    ++ codes "snapshot 3 consistent" ∷ counted_b (codes "8 800")
    ++ codes "snapshot 4 consistent" ∷ counted_b (codes "8 800")
    ++ codes "snapshot 5 consistent" ∷ counted_b (codes "8 800")
    ++ codes "host h0 sent 8 delivered 8" ∷ none_lost)
unfolding plain_frame packet_of next_port digits port_text verdict_line row_line network_line observer_line host_line drops_line lost_line
five_snapshots = refl

pub lost_initiation : report_of (setup net_b 2 2 0 []) (drop_one 7 1) [] ≡ on_b
    (codes "observer count 2 issued 2 collected 2 resent 0"
    ∷ codes "snapshot 1 inconsistent in a.0 skipped to 2"
    ∷ codes "snapshot 2 consistent" ∷ counted_b (codes "0 0")
    ++ codes "host h0 sent 0 delivered 0" ∷ lost (codes "cable 0 crossbar 0 init 1 notice 0"))
unfolding plain_frame packet_of next_port digits port_text verdict_line row_line network_line observer_line host_line drops_line lost_line
lost_initiation = refl

pub too_late_packet : report_of (setup net_a 2 2 0 (flow 0 1 1 100 8 ∷ [])) no_loss ((6, 1) ∷ (2, 0) ∷ (0, 1) ∷ (0, 1) ∷ (1, 0) ∷ (1, 0) ∷ (4, 1) ∷ (4, 1) ∷ (5, 1) ∷ (5, 1) ∷ (5, 0) ∷ []) ≡ on_a
    (codes "observer count 2 issued 2 collected 2 resent 0"
    ∷ codes "snapshot 1 inconsistent out a.1 miscredited by 2"
    ∷ codes "snapshot 2 consistent" ∷ flying_a (codes "1 100")
    ++ codes "host h0 sent 1 delivered 0" ∷ codes "host h1 sent 0 delivered 1" ∷ none_lost)
unfolding plain_frame packet_of next_port digits port_text verdict_line row_line network_line observer_line host_line drops_line lost_line
too_late_packet = refl

pub reused_slot : report_of (setup net_b 3 6 0 []) (drop_one 7 5) [] ≡ on_b
    (codes "observer count 6 issued 6 collected 6 resent 0"
    ∷ codes "snapshot 1 consistent" ∷ counted_b (codes "0 0")
    ++ codes "snapshot 2 consistent" ∷ counted_b (codes "0 0")
    ++ codes "snapshot 3 consistent" ∷ counted_b (codes "0 0")
    ++ codes "snapshot 4 consistent" ∷ counted_b (codes "0 0")
    ++ codes "snapshot 5 inconsistent in a.0 skipped to 6"
    ∷ codes "snapshot 6 consistent" ∷ counted_b (codes "0 0")
    ++ codes "host h0 sent 0 delivered 0" ∷ lost (codes "cable 0 crossbar 0 init 1 notice 0"))
unfolding plain_frame packet_of next_port digits port_text verdict_line row_line network_line observer_line host_line drops_line lost_line
reused_slot = refl

pub dead_cable : report_of (setup net_c 1 2 0 []) dead_cables [] ≡ on_c
    (codes "observer count 2 issued 1 collected 0 resent 0"
    ∷ codes "snapshot 1 pending in a.1 cable 0"
    ∷ codes "snapshot 2 not issued in a.1 0"
    ∷ codes "host h0 sent 0 delivered 0" ∷ codes "host h1 sent 0 delivered 0" ∷ lost (codes "cable 2 crossbar 0 init 0 notice 0"))
unfolding plain_frame packet_of next_port digits port_text verdict_line row_line network_line observer_line host_line drops_line lost_line
dead_cable = refl

pub resent : report_of (setup net_c 1 1 1 []) (drop_one 32 1) [] ≡ on_c
    (codes "observer count 1 issued 1 collected 1 resent 1" ∷ codes "snapshot 1 consistent" ∷ through_c (codes "0 0")
    ++ codes "host h0 sent 0 delivered 0" ∷ codes "host h1 sent 0 delivered 0" ∷ lost (codes "cable 1 crossbar 0 init 0 notice 0"))
unfolding plain_frame packet_of next_port digits port_text verdict_line row_line network_line observer_line host_line drops_line lost_line
resent = refl

pub overtaken_initiation : report_of (setup net_c 1 2 0 (flow 0 1 1 100 8 ∷ [])) no_loss ((0, 2) ∷ (1, 0) ∷ (2, 1) ∷ (11, 1) ∷ (2, 0) ∷ (5, 0) ∷ (5, 0) ∷ (7, 0) ∷ (0, 2) ∷ []) ≡ on_c
    (codes "observer count 2 issued 2 collected 2 resent 0"
    ∷ codes "snapshot 1 consistent" ∷ through_c (codes "0 0")
    ++ codes "snapshot 2 consistent" ∷ through_c (codes "1 100")
    ++ codes "host h0 sent 1 delivered 0" ∷ codes "host h1 sent 0 delivered 1" ∷ none_lost)
unfolding plain_frame packet_of next_port digits port_text verdict_line row_line network_line observer_line host_line drops_line lost_line
overtaken_initiation = refl

pub lost_notices : report_of (setup net_b 3 1 0 []) dead_notices [] ≡ on_b
    (codes "observer count 1 issued 1 collected 1 resent 0" ∷ codes "snapshot 1 consistent" ∷ counted_b (codes "0 0")
    ++ codes "host h0 sent 0 delivered 0" ∷ lost (codes "cable 0 crossbar 0 init 0 notice 2"))
unfolding plain_frame packet_of next_port digits port_text verdict_line row_line network_line observer_line host_line drops_line lost_line
lost_notices = refl

pub expired : report_of (setup net_d 3 1 0 (flow 0 1 2 50 1 ∷ [])) no_loss (expand net_d (Pass 6 ∷ [])) ≡ lines
    (codes "speedlight 1" ∷ codes "network devices 3 units 12 hosts 2"
    ∷ codes "observer count 1 issued 1 collected 1 resent 0" ∷ codes "snapshot 1 consistent"
    ∷ codes "in a.0 2 100" ∷ codes "out a.0 0 0 x0 0 0 x1 0 0"
    ∷ codes "in a.1 0 0 cable 0 0" ∷ codes "out a.1 2 100 x0 0 0 x1 0 0"
    ∷ codes "in b.0 2 100 cable 0 0" ∷ codes "out b.0 0 0 x0 0 0 x1 0 0"
    ∷ codes "in b.1 0 0 cable 0 0" ∷ codes "out b.1 0 0 x0 0 0 x1 0 0"
    ∷ codes "in c.0 0 0 cable 0 0" ∷ codes "out c.0 0 0 x0 0 0 x1 0 0"
    ∷ codes "in c.1 0 0" ∷ codes "out c.1 0 0 x0 0 0 x1 0 0"
    ∷ codes "host h0 sent 2 delivered 0" ∷ codes "host h1 sent 0 delivered 0"
    ∷ codes "drops bad 0 expired 2 noroute 0" ∷ codes "lost cable 0 crossbar 0 init 0 notice 0" ∷ codes "end" ∷ [])
unfolding plain_frame packet_of next_port digits port_text verdict_line row_line network_line observer_line host_line drops_line lost_line
expired = refl

-- one raw frame from the first host, a plain frame but for its first reserved byte
abbrev pub raw_setup : ℕ → Setup
raw_setup reserved = record (setup net_a 3 1 0 []) {
  raws = record {
    from = 0;
    bytes = 0 ∷ 0 ∷ 0 ∷ 0 ∷ 0 ∷ 0 ∷ 0 ∷ 1 ∷ 0 ∷ 0 ∷ 0 ∷ 0 ∷ 0 ∷ 100 ∷ 8 ∷ 1 ∷ reserved ∷ 0 ∷ 0 ∷ 0 ∷ 0 ∷ 0 ∷ 0 ∷ 0 ∷ [];
  } ∷ [];
}

pub bad_raw_frame : report_of (raw_setup 1) no_loss [] ≡ on_a
    (codes "observer count 1 issued 1 collected 1 resent 0" ∷ codes "snapshot 1 consistent" ∷ flying_a (codes "0 0")
    ++ codes "host h0 sent 1 delivered 0" ∷ codes "host h1 sent 0 delivered 0"
    ∷ codes "drops bad 1 expired 0 noroute 0" ∷ codes "lost cable 0 crossbar 0 init 0 notice 0" ∷ codes "end" ∷ [])
unfolding plain_frame packet_of next_port digits port_text verdict_line row_line network_line observer_line host_line drops_line lost_line
bad_raw_frame = refl

pub plain_raw_frame : report_of (raw_setup 0) no_loss [] ≡ on_a
    (codes "observer count 1 issued 1 collected 1 resent 0" ∷ codes "snapshot 1 consistent" ∷ flying_a (codes "0 0")
    ++ codes "host h0 sent 1 delivered 0" ∷ codes "host h1 sent 0 delivered 1" ∷ none_lost)
unfolding plain_frame packet_of next_port digits port_text verdict_line row_line network_line observer_line host_line drops_line lost_line
plain_raw_frame = refl

pub two_flows : report_of (setup net_a 3 1 0 (flow 0 1 3 100 8 ∷ flow 1 0 2 100 8 ∷ [])) no_loss [] ≡ on_a
    (codes "observer count 1 issued 1 collected 1 resent 0" ∷ codes "snapshot 1 consistent" ∷ flying_a (codes "0 0")
    ++ codes "host h0 sent 3 delivered 2" ∷ codes "host h1 sent 2 delivered 3" ∷ none_lost)
unfolding plain_frame packet_of next_port digits port_text verdict_line row_line network_line observer_line host_line drops_line lost_line
two_flows = refl

-- the floor takes in the last-seen numbers of initiations, the verdict does not: so it may lie below a consistent snapshot
pub floor_below_consistent : report_of (setup net_c 2 2 0 []) (drop_one 18 2) ((0, 2) ∷ (0, 2) ∷ (6, 0) ∷ (6, 0) ∷ (7, 1) ∷ (7, 1) ∷ (8, 0) ∷ (8, 0) ∷ (4, 0) ∷ (4, 0) ∷ []) ≡ on_c
    (codes "observer count 2 issued 2 collected 1 resent 0"
    ∷ codes "snapshot 1 consistent" ∷ through_c (codes "0 0")
    ++ codes "snapshot 2 consistent" ∷ through_c (codes "0 0")
    ++ codes "host h0 sent 0 delivered 0" ∷ codes "host h1 sent 0 delivered 0" ∷ lost (codes "cable 0 crossbar 0 init 1 notice 0"))
unfolding plain_frame packet_of next_port digits port_text verdict_line row_line network_line observer_line host_line drops_line lost_line
floor_below_consistent = refl
