-- The findings of a world with bad frames blanked.
use Rattle.std.proofs.Common.{◌≡◌, ℕ, suc, length, refl, ap, ◌∙◌, Some, None}
use Rattle.std.specs.Prelude.{◌==◌, if◌then◌else◌, map, filter, take, drop, nat_le}
use Rattle.std.specs.List.{range_with_len}
use Rattle.std.proofs.lemmas.List.{take-map, drop-map}
use Rattle.sl_layout.specs.declared.actor.Sort.{Sort}
use Rattle.sl_layout.specs.declared.actor.Sort.TheVariants.{Cable, Crossbar, Init, Notice}
use Rattle.sl_layout.specs.Net.{Net, actor_of, link_of, link_numbers, same_sort, choice_of, action_choice, units, hosts}
use Rattle.sl_layout.specs.Devices.{device_of}
use Rattle.sl_model.specs.declared.verdict.Verdict.{Verdict}
use Rattle.sl_model.specs.declared.verdict.Verdict.TheVariants.{Consistent, NotIssued}
use Rattle.sl_model.specs.Words.{weigh, tally, first_told}
use Rattle.sl_model.specs.History.{History, World, Losses, history, taken, put, carried_by}
use Rattle.sl_model.specs.Counting.{packets, bytes, bad, expired, noroute}
use Rattle.sl_model.specs.Setup.{Setup}
use Rattle.sl_model.specs.Knowledge.{resent}
use Rattle.sl_model.specs.World.{sender, receiver, taken_by}
use Rattle.sl_model.specs.Cut.{before, crossing, data_count, data_bytes, channel_value}
use Rattle.sl_model.specs.Verdict.{cause, lag, judged, issued_verdict, place_or_zero, floor_holder, verdict}
use Rattle.sl_model.specs.Findings.{channel_links, eight_totals, row, rows_for, finding, ingress_units, over_ingress, lost_of, findings_in}
use Rattle.sl_cut.specs.Hostile.{blank_step, blank_message, blank_history, blank_world}
use Rattle.sl_cut.proofs.Hostile.Frames.{blank_setup, count-blank, bytes-blank as data-blank, weigh-blank}
use Rattle.sl_cut.proofs.Hostile.Told.{carried-blank, blank-keeps}
use Rattle.sl_cut.proofs.Hostile.Kept.{bad-kept, bytes-kept, count-kept, expired-kept, noroute-kept, packets-kept, taken-kept, before-kept, cause-kept, lag-kept}
use Rattle.sl_cut.proofs.Hostile.Worlds.{history-blank, of_actor, issued-blank, unit_floor-blank, floor-same, all-taken}

-- Verdicts.

judged-blank : (n : ℕ) (net : Net) (w : World) (k : ℕ) → issued_verdict n net (blank_world w) k ≡ issued_verdict n net w k
judged-blank n net w k = λ i. judged (first_told (λ u. of_actor (lag net k u) (lag-kept blank_step blank-keeps net k u) w u i) (units net))
    (first_told (λ u. of_actor (cause n k) (cause-kept blank_step blank-keeps n k) w u i) (units net))

holder-blank : (net : Net) (w : World) → floor_holder net (blank_world w) ≡ floor_holder net w
holder-blank net w = λ i. place_or_zero (first_told (λ u. if unit_floor-blank net w u i == floor-same net w i then Some u else None) (units net))

verdict-blank : (n : ℕ) (net : Net) (w : World) (k : ℕ) → verdict n net (blank_world w) k ≡ verdict n net w k
verdict-blank n net w k = λ i. if nat_le k (issued-blank net w i) then judged-blank n net w k i else NotIssued (holder-blank net w i) (floor-same net w i)

-- Rows.

of_cut : {A : Type 0} (f : History → A) → ((h : History) → f (blank_history h) ≡ f h) → (w : World) (k u : ℕ) → f (before k (history (blank_world w) u)) ≡ f (before k (history w u))
of_cut f e w k u = ap (λ h. f (before k h)) (history-blank w u) ∙ ap f (before-kept blank_step blank-keeps k (history w u)) ∙ e (before k (history w u))

cut-carried : (net : Net) (lost : Losses) (w : World) (k l : ℕ) → carried_by lost l (before k (sender net (blank_world w) l)) ≡ map blank_message (carried_by lost l (before k (sender net w l)))
cut-carried net lost w k l = ap (λ h. carried_by lost l (before k h)) (history-blank w (link_of net l).from)
    ∙ ap (carried_by lost l) (before-kept blank_step blank-keeps k (sender net w l)) ∙ carried-blank lost l (before k (sender net w l))

crossing-blank : (net : Net) (lost : Losses) (w : World) (k l : ℕ) → crossing net lost (blank_world w) k l ≡ map blank_message (crossing net lost w k l)
crossing-blank net lost w k l =
    let m = taken_by net l (before k (receiver net w l)) in let n = taken_by net l (receiver net w l) in let ms = carried_by lost l (before k (sender net w l)) in
    (λ i. drop (of_cut (taken (choice_of net l)) (taken-kept blank_step blank-keeps (choice_of net l)) w k (link_of net l).to i) (take (all-taken net w l i) (cut-carried net lost w k l i)))
    ∙ ap (drop m) (take-map blank_message n ms) ∙ drop-map blank_message m (take n ms)

value-blank : (net : Net) (lost : Losses) (w : World) (k l : ℕ) → channel_value net lost (blank_world w) k l ≡ channel_value net lost w k l
value-blank net lost w k l = let ms = crossing net lost w k l in
    (λ i. record { packets = weigh data_count (crossing-blank net lost w k l i); bytes = weigh data_bytes (crossing-blank net lost w k l i) })
    ∙ (λ i. record { packets = weigh-blank data_count count-blank ms i; bytes = weigh-blank data_bytes data-blank ms i })

row-blank : (net : Net) (lost : Losses) (w : World) (k u : ℕ) → row net lost (blank_world w) k u ≡ row net lost w k u
row-blank net lost w k u = λ i. record {
  packets = of_cut packets (packets-kept blank_step blank-keeps) w k u i;
  bytes = of_cut bytes (bytes-kept blank_step blank-keeps) w k u i;
  inflight = eight_totals (map (λ l. value-blank net lost w k l i) (channel_links net u));
}

rows-blank : (net : Net) (lost : Losses) (w : World) (k : ℕ) (v : Verdict) → rows_for net lost (blank_world w) k v ≡ rows_for net lost w k v
rows-blank net lost w k Consistent = λ i. map (λ u. row-blank net lost w k u i) (units net)
rows-blank net lost w k _ = refl

finding-blank : (n : ℕ) (net : Net) (lost : Losses) (w : World) (k : ℕ) → finding n net lost (blank_world w) k ≡ finding n net lost w k
finding-blank n net lost w k =
    (λ i. record { k = k; verdict = verdict-blank n net w k i; rows = rows_for net lost (blank_world w) k (verdict-blank n net w k i) })
    ∙ (λ i. record { k = k; verdict = verdict n net w k; rows = rows-blank net lost w k (verdict n net w k) i })

-- Drops, losses and hosts.

ingress-blank : (net : Net) (w : World) (f : ℕ → History → ℕ) → ((d : ℕ) (h : History) → f d (blank_history h) ≡ f d h) → over_ingress net (blank_world w) f ≡ over_ingress net w f
ingress-blank net w f e = λ i. weigh (λ u. of_actor (f (device_of (actor_of net u))) (e (device_of (actor_of net u))) w u i) (ingress_units net)

lost-blank : (net : Net) (lost : Losses) (w : World) (sort : Sort) → lost_of net lost (blank_world w) sort ≡ lost_of net lost w sort
lost-blank net lost w sort = λ i. weigh (λ l. tally (λ n. lost l n) (range_with_len 1 (of_actor (λ h. length (put l h)) (count-kept blank_step blank-keeps l) w (link_of net l).from i)))
    (filter (λ l. same_sort (link_of net l).sort sort) (link_numbers net))

pub findings-blank : (s : Setup) (lost : Losses) (w : World) → findings_in (blank_setup s) lost (blank_world w) ≡ findings_in s lost w
findings-blank s lost w = λ i. record {
  issued = issued-blank s.net w i;
  floor = floor-same s.net w i;
  resent = of_actor (resent s.net) (taken-kept blank_step blank-keeps (suc (action_choice s.net 0))) w 0 i;
  list = map (λ k. finding-blank s.credits s.net lost w k i) (range_with_len 1 s.count);
  sent = map (λ a. of_actor (taken (action_choice s.net a)) (taken-kept blank_step blank-keeps (action_choice s.net a)) w a i) (hosts s.net);
  delivered = map (λ a. of_actor (taken 0) (taken-kept blank_step blank-keeps 0) w a i) (hosts s.net);
  drops = record {
    bad = ingress-blank s.net w (λ d h. bad h) (λ d. bad-kept blank_step blank-keeps) i;
    expired = ingress-blank s.net w (λ d h. expired h) (λ d. expired-kept blank_step blank-keeps) i;
    noroute = ingress-blank s.net w (λ d h. noroute s.net.parts d h) (noroute-kept blank_step blank-keeps s.net.parts) i;
  };
  lost = record {
    cable = lost-blank s.net lost w Cable i;
    crossbar = lost-blank s.net lost w Crossbar i;
    init = lost-blank s.net lost w Init i;
    notice = lost-blank s.net lost w Notice i;
  };
}
