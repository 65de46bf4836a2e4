-- What is on its way on a link, for a reader who looks at data packets alone: of each message the entry that put it, and the data packet that it is or none.
use Rattle.std.specs.Prelude.{ℕ, ◌+◌, ◌<◌, ◌^◌, List, [], ◌∷◌, ◌++◌, All, drop, if◌then◌else◌, Option, None, slice_set, slice_index_or}
use Rattle.sl_loss.specs.Loss.{Loss, loses_next, after_put}
use Rattle.sl_poll.specs.declared.lane.Mark.{Mark}

-- the messages on a link, what decides its losses, and how many puts there were
pub record Lane : Type 0 where
  pub queue : List Mark
  pub loss : Option Loss
  pub puts : ℕ

abbrev pub new_lane : Option Loss → Lane
new_lane loss = record { queue = []; loss = loss; puts = 0 }

abbrev pub lane_at : List Lane → ℕ → Lane
lane_at lanes l = slice_index_or lanes l (new_lane None)

-- after a put
abbrev pub with_mark : Mark → Lane → Lane
with_mark m lane = record { queue = if loses_next lane.loss then lane.queue else lane.queue ++ m ∷ []; loss = after_put lane.loss; puts = lane.puts + 1 }

-- after a take
abbrev pub without_first : Lane → Lane
without_first lane = record { queue = drop 1 lane.queue; loss = lane.loss; puts = lane.puts }

-- after a put of the same on each of these links
abbrev pub put_each : Mark → List ℕ → List Lane → List Lane
put_each m [] lanes = lanes
put_each m (l ∷ ls) lanes = put_each m ls (slice_set lanes l (with_mark m (lane_at lanes l)))

abbrev pub AreFew : List Lane → Type 0
AreFew lanes = All (λ lane. lane.puts < 2 ^ 64) lanes
