-- Packets whose fields fit the columns of a frame.
use Rattle.std.specs.Prelude.{ℕ, ◌<◌, ◌≤◌, ◌^◌, List}
use Rattle.sl_net.specs.declared.input.Flow.{Flow}
use Rattle.sl_net.specs.declared.input.Packet.{Packet}
use Rattle.sl_model.specs.declared.message.Message.{Message}
use Rattle.sl_model.specs.declared.message.Message.TheVariants.{Host, Data}
use Rattle.sl_parts.specs.Lists.{Each}
use Rattle.sl_model.specs.Setup.{Setup}

pub record HasFields (p : Packet) : Type 0 where
  pub src : p.src < 2 ^ 16
  pub dst : p.dst < 2 ^ 16
  pub seq : p.seq < 2 ^ 32
  pub len : p.len < 2 ^ 16
  pub hops : p.hops < 256

-- so do the packets of a flow
pub record FlowHasFields (f : Flow) : Type 0 where
  pub from : f.from < 2 ^ 16
  pub to : f.to < 2 ^ 16
  pub count : f.count ≤ 2 ^ 32
  pub bytes : f.bytes < 2 ^ 16
  pub hops : f.hops < 256

abbrev pub AreBytes : List ℕ → Type 0
AreBytes bytes = Each (λ b. b < 256) bytes

-- and what hosts send is bytes
pub record SendsFields (s : Setup) : Type 0 where
  pub flows : Each FlowHasFields s.flows
  pub raws : Each (λ r. AreBytes r.bytes) s.raws

-- the packet of a message fits a frame, and a host's frame is bytes
abbrev pub MessageHasFields : Message → Type 0
MessageHasFields (Host bytes) = AreBytes bytes
MessageHasFields (Data s p) = HasFields p
MessageHasFields _ = Unit {0}
