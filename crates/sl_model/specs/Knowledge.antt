-- Trusted text; dumped, told_of for nodes.
-- What is known of units (Yaseen, Sonchack and Liu 2018: the collection by control planes and the observer).
--     upto_of, floor_of       what a unit with a history has reached
--     dumped c h, told_of     what a control plane knows of a unit
--     known place h           what the observer knows of one
--     floor net w             F, up to which the observer knows all units
-- Choices of the observer, a control plane and a host past their links are their own actions.
use Rattle.std.specs.Prelude.{ℕ, suc, ◌+◌, min, Bool, false, ◌&&◌, ◌||◌, List, [], ◌∷◌, map, length, nat_lt, nat_le, ◌==◌, if◌then◌else◌, Option, Some, None, unwrap_or, option_and_then}
use Rattle.std.specs.List.{fold, list_any, list_all}
use Rattle.sl_layout.specs.declared.actor.Sort.TheVariants.{Init}
use Rattle.sl_layout.specs.Net.{Net, choices_of, action_choice, data_channels, units, unit_place}
use Rattle.sl_layout.specs.Serving.{ServedUnit, served}
use Rattle.sl_model.specs.declared.message.Message.{Message}
use Rattle.sl_model.specs.declared.message.Message.TheVariants.{Notice as NoticeMsg}
use Rattle.sl_model.specs.declared.message.Put.{Put}
use Rattle.sl_route.specs.Least.{least}
use Rattle.sl_model.specs.History.{History, World, history, dump_of, done_of, id, heard, last, first, taken, put}
use Rattle.sl_model.specs.Setup.{Setup}

-- Units.

-- the least of the id and the data last-seen numbers
abbrev pub upto_of : Net → ℕ → History → ℕ
upto_of net u h = fold min (id h) (map (λ c. last c h) (data_channels net u))

-- the least of that and, for an ingress unit, the last-seen number of its initiations
abbrev pub floor_of : Net → ℕ → History → ℕ
floor_of net u h = fold min (upto_of net u h) (map (λ c. last c h) (choices_of net u Init))

-- Control planes. h is the history of the control plane, v a unit that it serves, sweep its own action.

-- the n of the last Dump that it took by the choice c
abbrev pub dumped : ℕ → History → ℕ
dumped c h = heard dump_of c h

-- the part that it knows of the unit's history, where us gives the history of each unit
abbrev pub told_of : (ℕ → History) → ServedUnit → History → History
told_of us v h = first (dumped v.dump h) (us v.unit)

-- it put more polls to the unit than it took dumps from it
abbrev pub is_outstanding : ServedUnit → History → Bool
is_outstanding v h = nat_lt (taken v.dump h) (length (put v.poll h))

abbrev pub puts_on : ℕ → List Put → Bool
puts_on l ps = list_any (λ p. p.link == l) ps

-- a step by this choice that took this, or nothing, took a notice of the unit or was a sweep
abbrev pub asks : ℕ → ServedUnit → ℕ → Option Message → Bool
asks sweep v c (Some NoticeMsg) = c == v.notice
asks sweep v c (Some m) = false
asks sweep v c None = c == sweep

-- a notice of the unit or a sweep came after the last poll to it
abbrev pub is_again : ℕ → ServedUnit → History → Bool
is_again sweep v [] = false
is_again sweep v (s ∷ h) = if puts_on v.poll s.puts then false else asks sweep v s.choice s.taken || is_again sweep v h

-- the guard of sweep fails: each unit has a poll outstanding and again
abbrev pub is_swept : Net → ℕ → History → Bool
is_swept net a h = list_all (λ v. is_outstanding v h && is_again (action_choice net a) v h) (served net a)

-- The observer. h is its history.

abbrev pub observer : World → History
observer w = history w 0

-- the n of the last Done that it took for the unit at a place
abbrev pub known : ℕ → History → ℕ
known place [] = 0
known place (s ∷ h) = unwrap_or (option_and_then (done_of place) s.taken) (known place h)

-- K, how many snapshots it issued, and how often it resent
abbrev pub issued : Net → History → ℕ
issued net h = taken (action_choice net 0) h

abbrev pub resent : Net → History → ℕ
resent net h = taken (suc (action_choice net 0)) h

-- the part that it knows of a unit's history
abbrev pub collected : Net → World → ℕ → History
collected net w u = first (known (unit_place net u) (observer w)) (history w u)

abbrev pub unit_floor : Net → World → ℕ → ℕ
unit_floor net w u = floor_of net u (collected net w u)

abbrev pub floors : Net → World → List ℕ
floors net w = map (unit_floor net w) (units net)

-- F, the least floor of a unit as the observer knows it, or K where there is no unit
abbrev pub floor : Net → World → ℕ
floor net w = unwrap_or (least (floors net w)) (issued net (observer w))

-- the guards of issue and of resend at the floor f: a snapshot is left and lies within the window; a retry is left and a snapshot isn't collected
abbrev pub can_issue : Setup → ℕ → History → Bool
can_issue s f h = nat_lt (issued s.net h) s.count && nat_le (suc (issued s.net h)) (f + s.window)

abbrev pub can_resend : Setup → ℕ → History → Bool
can_resend s f h = nat_lt (resent s.net h) s.retries && nat_lt f (issued s.net h)
