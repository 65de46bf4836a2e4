-- Trusted text.
-- The units that a control plane serves.
use Rattle.std.specs.Prelude.{ℕ, List, map, filter, ◌==◌, slice_index_or}
use Rattle.sl_layout.specs.declared.actor.Sort.{Sort}
use Rattle.sl_layout.specs.declared.actor.Sort.TheVariants.{Poll, Notice, Dump}
use Rattle.sl_layout.specs.Net.{Net, link_of, link_at, links_out, choices_of}

-- a unit, by its actor's number; the choices by which its control plane takes its notices and its dumps; the link of the polls to it
pub record ServedUnit : Type 0 where
  pub unit : ℕ
  pub notice : ℕ
  pub dump : ℕ
  pub poll : ℕ

-- the choice of an actor that takes from a link of a sort that comes from u
abbrev pub choice_from : Net → ℕ → ℕ → Sort → ℕ
choice_from net a u s = slice_index_or (filter (λ c. (link_of net (link_at net a c)).from == u) (choices_of net a s)) 0 0

-- the unit to which a poll link leads
abbrev pub serving : Net → ℕ → ℕ → ServedUnit
serving net a l = record { unit = (link_of net l).to; notice = choice_from net a (link_of net l).to Notice; dump = choice_from net a (link_of net l).to Dump; poll = l }

-- the units that a control plane serves, in order
abbrev pub served : Net → ℕ → List ServedUnit
served net a = map (serving net a) (links_out net a Poll)
