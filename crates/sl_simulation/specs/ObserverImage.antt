-- Trusted text for nodes, in part.
-- What the observer's machine stands for: the histories of a world, as far as the observer knows them.
--     unit_of n net u g         the unit u as the observer has it, where it knows the history g of the unit, with credits to n saved numbers
--     observer_of net table w   the machine's state in the world w; table is the snapshot table
--     known_at w                how many steps the observer knows, by the place of a unit
--     account_of x              the account that a unit's state is
--     ObserverSimulates ..      a turn of the machine simulates a step of the observer; ObserverActSimulates an action
--     seen_by net w u           what the observer has seen of the unit u
--     IsNextReport ring x d     the rows of the Done d are the next ones of the unit x, and reach the number that d tells
use Rattle.std.specs.Prelude.{◌≡◌, ℕ, ◌+◌, ◌<◌, ◌≤◌, true, List, Option, map, length, take}
use Rattle.std.specs.List.{range_with_len}
use Rattle.sl_machine.specs.Machine.{After}
use Rattle.sl_ids.specs.Ids.{most_bits, modulus}
use Rattle.sl_net.specs.declared.input.Snapshot.{Snapshot}
use Rattle.sl_layout.specs.Net.{Net, actor_of, links_into, links_from, units, data_channels}
use Rattle.sl_saves.specs.Views.{held_saved}
use Rattle.sl_layout.specs.Devices.{device_of}
use Rattle.sl_wire.specs.declared.message.Done.{Done}
use Rattle.sl_wire.specs.declared.message.Msg.{Msg}
use Rattle.sl_wire.specs.Reach.{reached}
use Rattle.sl_wire.specs.Sizes.{Sizes}
use Rattle.sl_observe.specs.declared.unit.Seen.{Seen}
use Rattle.sl_observe.specs.Observer.{UnitState, ObserverState, is_next}
use Rattle.sl_model.specs.declared.message.Put.{Put}
use Rattle.sl_model.specs.History.{History, World, history, id}
use Rattle.sl_model.specs.Setup.{Setup}
use Rattle.sl_model.specs.Knowledge.{observer, known, issued, resent, collected, upto_of, floor_of, unit_floor}
use Rattle.sl_model.specs.Rows.{row}
use Rattle.sl_model.specs.Accounts.{Account}
use Rattle.sl_model.specs.LastSeen.{lasts}
use Rattle.sl_simulation.specs.Messages.{CarryIds, eight}
use Rattle.sl_simulation.specs.Simulates.{Simulates, ActSimulates}

-- the rows are those of the numbers that are collected, as slots hold them
abbrev pub unit_of : ℕ → Net → ℕ → History → UnitState
unit_of n net u g = record {
  device = device_of (actor_of net u);
  channels = length (data_channels net u);
  id = id g;
  last = eight (lasts net u g);
  floor = floor_of net u g;
  rows = map (λ k. held_saved (row n (data_channels net u) k g)) (range_with_len 1 (upto_of net u g));
}

abbrev pub observer_of : Net → Snapshot → World → ObserverState
observer_of net table w = record {
  ins = length (links_into net 0);
  outs = length (links_from net 0);
  snapshot = table;
  issued = issued net (observer w);
  resent = resent net (observer w);
  units = map (λ u. unit_of table.credits net u (collected net w u)) (units net);
}

abbrev pub IsObserverOf : Net → Snapshot → World → ObserverState → Type 0
IsObserverOf net table w x = x ≡ observer_of net table w

-- a turn of the machine simulates a step of the observer, which leads to the world v, and ps are the puts of the step
abbrev pub ObserverSimulates : Net → Snapshot → Sizes → World → (ℕ → ℕ) → List Put → After ObserverState Msg → Type 0
ObserverSimulates net table sizes v told ps x = Simulates (IsObserverOf net table v) net sizes (λ u. history v u) 0 told ps x

abbrev pub ObserverActSimulates : Net → Snapshot → Sizes → World → (ℕ → ℕ) → List Put → Option (After ObserverState Msg) → Type 0
ObserverActSimulates net table sizes v told ps o = ActSimulates (IsObserverOf net table v) net sizes (λ u. history v u) 0 told ps o

abbrev pub known_at : World → ℕ → ℕ
known_at w place = known place (observer w)

-- the table is that of the setup, a wrapped id stands for one number of a window, a ring holds a window, a data packet in flight is
-- credited to one number at least, and the frames on each link carry all ids
pub record IsTableOf (s : Setup) (table : Snapshot) : Type 0 where
  pub window : table.window ≡ s.window
  pub count : table.count ≡ s.count
  pub retries : table.retries ≡ s.retries
  pub credits : table.credits ≡ s.credits
  pub some_credits : 1 ≤ table.credits
  pub few_bits : table.width ≤ most_bits
  pub apart : table.window < modulus table.width
  pub room : table.window ≤ table.ring
  pub carried : CarryIds s.net table

abbrev pub account_of : UnitState → Account
account_of x = record { id = x.id; last = take x.channels x.last; floor = x.floor; rows = x.rows }

-- what the observer has seen of a unit, by what it knows of its history
abbrev pub seen_by : Net → World → ℕ → Seen
seen_by net w u = record { id = id (collected net w u); last = eight (lasts net u (collected net w u)); floor = unit_floor net w u }

-- the rows are those of the unit's next numbers, at most as many as a ring holds, and the last of them is the number that the Done says
-- the unit and its data channels have reached
pub record IsNextReport (ring : ℕ) (x : UnitState) (d : Done) : Type 0 where
  pub next : is_next ring x d ≡ true
  pub reaches : length x.rows + length d.rows ≡ reached x.channels d.id d.last
