-- Trusted text for nodes, in part.
-- What a host sends, and what the turns of its machine do.
--     messages_of input h          the frames that the host h sends, in order
--     host_take, host_act        bytes that come are counted; the next frame is sent
use Rattle.std.specs.Prelude.{ℕ, suc, ◌==◌, if◌then◌else◌, List, [], ◌∷◌, ◌++◌, map, filter, Option, is_some, slice_get, option_map}
use Rattle.sl_machine.specs.Machine.{After, Rules, Counts}
use Rattle.sl_machine.specs.Counting.{one_more}
use Rattle.sl_net.specs.declared.input.Packet.{Packet}
use Rattle.sl_net.specs.declared.input.RawPart.{RawPart}
use Rattle.sl_net.specs.Input.{Input}
use Rattle.sl_flow.specs.Flow.{packets_of}
use Rattle.sl_wire.specs.declared.message.Msg.{Msg}
use Rattle.sl_wire.specs.Carried.{bytes_on, carrying}
use Rattle.sl_wire.specs.Frames.{plain_frame}

-- packets as plain frames, then raw frames
abbrev pub messages : List Packet → List (List ℕ) → List (List ℕ)
messages packets raws = map plain_frame packets ++ raws

-- the raw frames of a host
abbrev pub raws_of : List RawPart → ℕ → List (List ℕ)
raws_of raws h = map (λ r. r.bytes) (filter (λ r. r.from == h) raws)

-- what a host sends: its packets, then its raw frames in input order
abbrev pub messages_of : Input → ℕ → List (List ℕ)
messages_of i h = messages (packets_of i.flows h) (raws_of i.raws h)

-- all that the host sends, how many of these it has sent, and how many frames it has taken
pub record HostState : Type 0 where
  pub messages : List (List ℕ)
  pub sent : ℕ
  pub delivered : ℕ

abbrev pub counted : HostState → HostState
counted s = record { messages = s.messages; sent = s.sent; delivered = one_more s.delivered }

-- a message that carries no bytes changes nothing
abbrev pub host_take : HostState → ℕ → Msg → After HostState Msg
host_take s link m = record { state = if is_some (bytes_on m) then counted s else s; puts = [] }

abbrev pub sending : HostState → List ℕ → After HostState Msg
sending s bytes = record { state = record { messages = s.messages; sent = suc s.sent; delivered = s.delivered }; puts = (0, carrying bytes) ∷ [] }

-- the next message goes on the link, where one is left
abbrev pub host_act : HostState → ℕ → Option (After HostState Msg)
host_act s action = option_map (sending s) (slice_get s.messages s.sent)

abbrev pub host_rules : Rules HostState Msg
host_rules = record { take = host_take; act = host_act }

-- the link from its egress unit, the link to its ingress unit, and inject
abbrev pub host_counts : Counts
host_counts = record { ins = 1; outs = 1; actions = 1 }
