-- The packets of flows, one by one.
use Rattle.std.proofs.Common.{◌≡◌, ℕ, ◌+◌, ◌<◌, ◌≤◌, List, [], ◌∷◌, ◌++◌, length, refl, sym, ap, ◌∙◌, take, get_or, append-nil, length-append, zero-add, arith}
use Rattle.std.specs.Prelude.{Bool, filter, map, ◌==◌, ◌&&◌, true, false, cond, nat_lt, min, Some, None, slice_get}
use Rattle.std.specs.List.{All}
use Rattle.std.proofs.lemmas.Bool.Decides.{nat_tests}
use Rattle.std.proofs.lemmas.Grind.{flat_map-append}
use Rattle.std.proofs.lemmas.List.{take_more, take_all}
use Rattle.std.proofs.lemmas.List.Concat.{get_or-flat_map}
use Rattle.std.proofs.lemmas.List.Elements.{All-filter, All-get_or, filter_passes}
use Rattle.std.proofs.lemmas.List.Folds.{length-flat_map-take}
use Rattle.std.proofs.lemmas.List.FromFn.{get_or-map-range_with_len, length-map-range_with_len}
use Rattle.std.proofs.lemmas.Option.{slice_get-get_or, slice_get_past}
use Rattle.sl_net.specs.declared.input.Flow.{Flow}
use Rattle.sl_parts.specs.Parts.{below}
use Rattle.sl_flow.specs.Flow.{packet_in, flow_packets, packets_of, HasAddresses}
use Rattle.sl_flow.specs.Share.{all_packets, sent_before, IsAt, IsShare}

flow_length : (f : Flow) → length (flow_packets f) ≡ f.count
flow_length f = length-map-range_with_len (packet_in f) 0 f.count

-- how many packets there are before a flow, and after it
pub one_flow_more : (flows : List Flow) (i : ℕ) (none : Flow) → i < length flows
    → length (all_packets (take (i + 1) flows)) ≡ length (all_packets (take i flows)) + (get_or flows i none).count
one_flow_more flows i none l =
    let f = get_or flows i none in
    let before = all_packets (take i flows) in
    ap (λ fs. length (all_packets fs)) (take_more flows i none l) ∙ ap length (flat_map-append flow_packets (take i flows) (f ∷ []))
    ∙ ap (λ ps. length (before ++ ps)) (append-nil (flow_packets f)) ∙ length-append before (flow_packets f) ∙ ap (λ n. length before + n) (flow_length f)

flow_within : (flows : List Flow) (i : ℕ) (none : Flow) → i < length flows
    → length (all_packets (take i flows)) + (get_or flows i none).count ≤ length (all_packets flows)
flow_within flows i none l = omega (arith, length-flat_map-take flow_packets flows i none l, flow_length (get_or flows i none))

all_sent : (flows : List Flow) (i : ℕ) → length flows ≤ i → length (all_packets (take i flows)) ≡ length (all_packets flows)
all_sent flows i h = ap (λ fs. length (all_packets fs)) (take_all i flows h)

pub packet_stands : (flows : List Flow) (flow number : ℕ) (none : Flow) → IsAt flows flow number → flow < length flows
    → slice_get (all_packets flows) (sent_before flows flow number) ≡ Some (packet_in (get_or flows flow none) number)
packet_stands flows flow number none at l =
    let f = get_or flows flow none in
    let few : number < f.count = at.within none l in
    let listed : number < length (flow_packets f) = omega (arith, few, flow_length f) in
    let within : sent_before flows flow number < length (all_packets flows) = omega (arith, few, flow_within flows flow none l) in
    let packet = packet_in f number in
    slice_get-get_or (all_packets flows) (sent_before flows flow number) packet within
    ∙ ap Some (get_or-flat_map flow_packets flows flow number none packet l listed)
    ∙ ap Some (get_or-map-range_with_len (packet_in f) 0 f.count number number packet few (zero-add number))

pub no_packet_stands : (flows : List Flow) (flow number : ℕ) → IsAt flows flow number → length flows ≤ flow
    → slice_get (all_packets flows) (sent_before flows flow number) ≡ None
no_packet_stands flows flow number at h = slice_get_past (all_packets flows) (sent_before flows flow number) (omega (arith, all_sent flows flow h))

-- The place after a place: in the same flow, at the next flow, or nowhere.

pub next_in_flow : (flows : List Flow) (flow number : ℕ) (none : Flow) → flow < length flows → number + 1 < (get_or flows flow none).count
    → sent_before flows flow (number + 1) ≡ min (sent_before flows flow number + 1) (length (all_packets flows))
next_in_flow flows flow number none l h = omega (arith, flow_within flows flow none l)

pub next_flow : (flows : List Flow) (flow number : ℕ) (none : Flow) → IsAt flows flow number → flow < length flows → (get_or flows flow none).count ≤ number + 1
    → sent_before flows (flow + 1) 0 ≡ min (sent_before flows flow number + 1) (length (all_packets flows))
next_flow flows flow number none at l h = omega (arith, at.within none l, flow_within flows flow none l, one_flow_more flows flow none l)

pub no_next : (flows : List Flow) (flow number : ℕ) → IsAt flows flow number → length flows ≤ flow
    → sent_before flows flow number ≡ min (sent_before flows flow number + 1) (length (all_packets flows))
no_next flows flow number at h = omega (arith, all_sent flows flow h, at.past h)

pub starts_flow : (flows : List Flow) (flow : ℕ) → All (λ f. 0 < f.count) flows → IsAt flows flow 0
starts_flow flows flow some = record { within = λ none l. All-get_or (λ f. 0 < f.count) flows flow none l some; past = λ h. refl }

pub ruleset place_steps = (next_in_flow, next_flow, no_next, starts_flow)

-- The flows of a host that have packets.

abbrev own : ℕ → Flow → Bool
own h f = (f.from == h) && nat_lt 0 f.count

own_has_some : (f : Flow) (h : ℕ) → own h f ≡ true → 0 < f.count
own_has_some f h e = grind (arith, nat_tests)

own_some : (flows : List Flow) (h : ℕ) → All (λ f. 0 < f.count) (filter (own h) flows)
own_some flows h = λ k none l. own_has_some (get_or (filter (own h) flows) k none) h (filter_passes (own h) flows k none l)

none_in_flow : (f : Flow) → nat_lt 0 f.count ≡ false → flow_packets f ≡ []
none_in_flow f e = let none : f.count ≡ 0 = grind (arith, nat_tests) in ap (λ n. map (packet_in f) (below n)) none

with_own : (f : Flow) (fs gs : List Flow) (b c : Bool) → (c ≡ false → flow_packets f ≡ []) → all_packets fs ≡ all_packets gs
    → all_packets (cond (b && c) (f ∷ fs) fs) ≡ all_packets (cond b (f ∷ gs) gs)
with_own f fs gs false c none rest = rest
with_own f fs gs true true none rest = ap (λ ps. flow_packets f ++ ps) rest
with_own f fs gs true false none rest = rest ∙ ap (λ ps. ps ++ all_packets gs) (sym (none refl))

pub own_packets : (flows : List Flow) (h : ℕ) → all_packets (filter (own h) flows) ≡ packets_of flows h
own_packets [] h = refl
own_packets (f ∷ fs) h = with_own f (filter (own h) fs) (filter (λ g. g.from == h) fs) (f.from == h) (nat_lt 0 f.count) (none_in_flow f) (own_packets fs h)

pub own_share : (flows owned : List Flow) (h count : ℕ) → All HasAddresses flows → owned ≡ filter (own h) flows
    → count ≡ length (all_packets owned) → IsShare owned count 0 0
own_share flows owned h count addresses e counted =
    let some : All (λ f. 0 < f.count) owned = rw e (own_some flows h) in
    record {
      addresses = rw e (All-filter (own h) HasAddresses flows addresses);
      some = some;
      counted = counted;
      at = starts_flow owned 0 some;
    }
