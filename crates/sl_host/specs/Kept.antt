-- How a host keeps what it stands for.
use Rattle.std.specs.Prelude.{◌≡◌, ℕ, ◌≤◌, ◌+◌, ◌<◌, ◌^◌, List, length, min, Option, Some, option_map, slice_get}
use Rattle.std.specs.Option.{IfSome}
use Rattle.sl_net.specs.declared.input.Packet.{Packet}
use Rattle.sl_flow.specs.Share.{ShareView}
use Rattle.sl_wire.specs.Carried.{carrying}
use Rattle.sl_wire.specs.declared.message.Msg.{Msg}
use Rattle.sl_host.specs.Host.{HostState, messages}

-- the state, and the choice that it is ready for
pub record Host : Type 0 where
  pub state : HostState
  pub ready : Option ℕ

abbrev pub state_of : List Packet → List (List ℕ) → ℕ → ℕ → HostState
state_of packets raws sent delivered = record { messages = messages packets raws; sent = sent; delivered = delivered }

-- the messages are few enough to be counted, the share has sent those packets that the host has sent, a message that is made is the next one,
-- and a host that is ready to inject has made it
pub record IsKept (share : ShareView) (raws : List (List ℕ)) (sent : ℕ) (next : Option Msg) (prepared : Option ℕ) : Type 0 where
  pub few : length share.packets + length raws < 2 ^ 64
  pub counted : sent ≤ length share.packets + length raws
  pub shared : share.sent ≡ min sent (length share.packets)
  pub made : IfSome next (λ m. option_map carrying (slice_get (messages share.packets raws) sent) ≡ Some m)
  pub prepared_next : prepared ≡ Some 1 → next ≡ option_map carrying (slice_get (messages share.packets raws) sent)
