-- Consistent cuts (Chandy and Lamport 1985) of data packets alone: of each data packet on a data channel whose take lies in the receiver's prefix the put
-- lies in the sender's.
use Rattle.std.specs.Prelude.{ℕ, List, length, slice_get, IsSome}
use Rattle.sl_layout.specs.Net.{Net, link_of, unit_place}
use Rattle.sl_model.specs.History.{World, Losses, history, first}
use Rattle.sl_model.specs.Setup.{Setup}
use Rattle.sl_model.specs.World.{Entry, carried}
use Rattle.sl_model.specs.Matching.{IsDataChannel, TakeLiesIn, PutLiesIn}
use Rattle.sl_poll.specs.Trail.{packet_in}
use Rattle.sl_poll.specs.Reading.{read_after, done_in}

-- the n-th message that the link carried is a data packet
abbrev pub IsPacket : Net → Losses → World → ℕ → ℕ → Type 0
IsPacket net lost w l n = IsSome (packet_in (slice_get (carried net lost w l) n))

abbrev pub IsDataCut : Net → Losses → World → (ℕ → ℕ) → Type 0
IsDataCut net lost w steps = (l n : ℕ) → IsDataChannel net l → IsPacket net lost w l n
    → TakeLiesIn net l n (first (steps (link_of net l).to) (history w (link_of net l).to))
    → PutLiesIn lost l n (first (steps (link_of net l).from) (history w (link_of net l).from))

-- how many steps each unit had made when it was read
abbrev pub steps_read : Setup → Losses → List Entry → ℕ → ℕ → ℕ → ℕ
steps_read s lost es start gap a = length (done_in s lost es (read_after (length es) start gap (unit_place s.net a)) a)
