-- Trusted text.
-- Matching and consistent cuts (Chandy and Lamport 1985).
-- The n-th take of a link matches the n-th message that the link carried. Here n counts from 0, so the n-th take lies in a prefix
-- of the receiver's history exactly where that prefix took more than n messages of the link, and the put of the n-th message carried
-- lies in a prefix of the sender's history exactly where that prefix put more than n messages that are not lost.
use Rattle.std.specs.Prelude.{ℕ, ◌<◌, Bool, true, false, length, IsTrue}
use Rattle.sl_layout.specs.declared.actor.Sort.{Sort}
use Rattle.sl_layout.specs.declared.actor.Sort.TheVariants.{Cable, Crossbar}
use Rattle.sl_layout.specs.Net.{Net, link_of}
use Rattle.sl_model.specs.History.{History, World, Losses, history, first, carried_by}
use Rattle.sl_model.specs.World.{taken_by}

abbrev pub is_data : Sort → Bool
is_data Cable = true
is_data Crossbar = true
is_data _ = false

pub record IsDataChannel (net : Net) (l : ℕ) : Type 0 where
  pub link : l < length net.links
  pub data_sort : IsTrue (is_data (link_of net l).sort)

-- the n-th take of the link l lies in this prefix of its receiver's history
abbrev pub TakeLiesIn : Net → ℕ → ℕ → History → Type 0
TakeLiesIn net l n prefix = n < taken_by net l prefix

-- the put of the n-th message that the link l carried lies in this prefix of its sender's history
abbrev pub PutLiesIn : Losses → ℕ → ℕ → History → Type 0
PutLiesIn lost l n prefix = n < length (carried_by lost l prefix)

-- a family of prefixes, by the number of steps of each actor: of each matched pair whose take lies in the receiver's prefix, the put lies in the sender's
abbrev pub IsConsistentCut : Net → Losses → World → (ℕ → ℕ) → Type 0
IsConsistentCut net lost w steps = (l n : ℕ) → IsDataChannel net l
    → TakeLiesIn net l n (first (steps (link_of net l).to) (history w (link_of net l).to))
    → PutLiesIn lost l n (first (steps (link_of net l).from) (history w (link_of net l).from))
