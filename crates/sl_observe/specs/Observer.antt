-- Trusted text for nodes, in part.
-- The observer: what it stands for, and what its turns do. It issues snapshots by number, and collects what the units saved for each
-- (Yaseen, Sonchack and Liu 2018).
--     observer_take     it takes a Done on a unit
--     observer_act      it issues the next snapshot, or begins the last one again
--     register_floor    the number up to which it has collected all units
--     first_state       before its first turn
use Rattle.std.specs.Prelude.{ℕ, suc, ◌+◌, ◌-◌, Bool, true, ◌&&◌, ◌==◌, nat_lt, nat_le, if◌then◌else◌, List, [], ◌∷◌, ◌++◌, map, length, replicate, slice_get, slice_set, slice_index_or, Option, Some, None, unwrap_or}
use Rattle.sl_machine.specs.Machine.{After, Rules, Counts, send_all}
use Rattle.sl_layout.specs.Devices.{device_of}
use Rattle.sl_net.specs.declared.input.Snapshot.{Snapshot}
use Rattle.sl_parts.specs.Parts.{below}
use Rattle.sl_layout.specs.Net.{Net, actor_of, links_into, links_from, units, data_channels}
use Rattle.sl_saves.specs.declared.entry.Saved.{Saved}
use Rattle.sl_wire.specs.declared.message.Done.{Done}
use Rattle.sl_wire.specs.declared.message.Msg.{Msg}
use Rattle.sl_wire.specs.declared.message.Msg.TheVariants.{Begin, Done as DoneMsg}
use Rattle.sl_route.specs.Least.{least}
use Rattle.sl_observe.specs.declared.unit.Seen.{Seen}

-- A unit: its device, which is also the choice by which Dones on it come; how many data channels it has; the id, last-seen numbers and floor
-- of the last Done on it; and the rows that came for it, of which that of the number k stands at the place k - 1.
pub record UnitState : Type 0 where
  pub device : ℕ
  pub channels : ℕ
  pub id : ℕ
  pub last : List ℕ
  pub floor : ℕ
  pub rows : List Saved

-- The observer: how many links lead to it, one from each device, and how many from it, one to each; what is asked of it; the greatest number
-- that it issued; how often it resent; and the units in order.
pub record ObserverState : Type 0 where
  pub ins : ℕ
  pub outs : ℕ
  pub snapshot : Snapshot
  pub issued : ℕ
  pub resent : ℕ
  pub units : List UnitState

-- Units.

abbrev pub new_unit : ℕ → ℕ → UnitState
new_unit device channels = record { device = device; channels = channels; id = 0; last = replicate 8 0; floor = 0; rows = [] }

abbrev pub unit_at : List UnitState → ℕ → UnitState
unit_at us place = slice_index_or us place (new_unit 0 0)

-- what the last Done said
abbrev pub seen_of : UnitState → Seen
seen_of u = record { id = u.id; last = u.last; floor = u.floor }

-- the row of a number, where it came
abbrev pub saved_of : UnitState → ℕ → Option Saved
saved_of u k = if k == 0 then None else slice_get u.rows (k - 1)

abbrev pub floors_of : List UnitState → List ℕ
floors_of us = map (λ u. u.floor) us

-- the number up to which all units are collected, or the greatest issued where there is no unit
abbrev pub register_floor : ObserverState → ℕ
register_floor s = unwrap_or (least (floors_of s.units)) s.issued

-- Dones.

-- rows of the numbers after n, ascending without a gap
abbrev pub is_after : ℕ → List (ℕ × Saved) → Bool
is_after n [] = true
is_after n (r ∷ rs) = (r.0 == suc n) && is_after (suc n) rs

-- the rows are those of the unit's next numbers, ascending without a gap, and at most as many as a ring holds
abbrev pub is_next : ℕ → UnitState → Done → Bool
is_next ring u d = nat_le (length d.rows) ring && is_after (length u.rows) d.rows

abbrev pub told : Done → UnitState → UnitState
told d u = record { device = u.device; channels = u.channels; id = d.id; last = d.last; floor = d.floor; rows = u.rows ++ map (λ r. r.1) d.rows }

-- a Done that doesn't come from the unit's device, or whose rows aren't the next, changes nothing
abbrev pub after_done : ℕ → ℕ → Done → UnitState → UnitState
after_done ring link d u = if (u.device == link) && is_next ring u d then told d u else u

-- nor does a Done on a place where no unit is
abbrev pub units_after : ℕ → ℕ → Done → List UnitState → List UnitState
units_after ring link d us = slice_set us d.unit (after_done ring link d (unit_at us d.unit))

-- Turns.

abbrev pub observer_take : ObserverState → ℕ → Msg → After ObserverState Msg
observer_take s link (DoneMsg d) = record { state = record s { units = units_after s.snapshot.ring link d s.units }; puts = [] }
observer_take s link _ = record { state = s; puts = [] }

-- the begin of a snapshot to each control plane
abbrev pub begins_out : ℕ → ℕ → List (ℕ × Msg)
begins_out outs k = send_all (Begin k) (below outs)

-- a snapshot is left, and the window has room for it
abbrev pub registers_can_issue : ObserverState → Bool
registers_can_issue s = nat_lt s.issued s.snapshot.count && nat_le (suc s.issued) (register_floor s + s.snapshot.window)

abbrev pub issue : ObserverState → Option (After ObserverState Msg)
issue s = if registers_can_issue s then Some (record { state = record s { issued = suc s.issued }; puts = begins_out s.outs (suc s.issued) }) else None

-- a retry is left, and a snapshot isn't collected
abbrev pub registers_can_resend : ObserverState → Bool
registers_can_resend s = nat_lt s.resent s.snapshot.retries && nat_lt (register_floor s) s.issued

abbrev pub resend : ObserverState → Option (After ObserverState Msg)
resend s = if registers_can_resend s then Some (record { state = record s { resent = suc s.resent }; puts = begins_out s.outs s.issued }) else None

-- issue is the first action, resend the other
abbrev pub observer_act : ObserverState → ℕ → Option (After ObserverState Msg)
observer_act s action = if action == s.ins then issue s else resend s

abbrev pub observer_rules : Rules ObserverState Msg
observer_rules = record { take = observer_take; act = observer_act }

abbrev pub observer_counts : ObserverState → Counts
observer_counts s = record { ins = s.ins; outs = s.outs; actions = 2 }

-- The start.

-- a unit by its actor's number
abbrev pub first_unit : Net → ℕ → UnitState
first_unit net u = new_unit (device_of (actor_of net u)) (length (data_channels net u))

abbrev pub first_state : Net → Snapshot → ObserverState
first_state net snapshot = record {
  ins = length (links_into net 0);
  outs = length (links_from net 0);
  snapshot = snapshot;
  issued = 0;
  resent = 0;
  units = map (first_unit net) (units net);
}
