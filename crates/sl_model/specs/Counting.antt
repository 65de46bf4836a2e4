-- Trusted text.
-- What a unit counts, and what it drops.
--     packets h, bytes h       the data packets that it took, and their bytes
--     bad, expired, noroute    the steps in which an ingress unit dropped what it took
use Rattle.std.specs.Prelude.{ℕ, ◌+◌, Bool, false, ◌&&◌, not, [], ◌∷◌, ◌==◌, Option, Some, None, unwrap_or, option_and_then, option_map, is_none}
use Rattle.sl_net.specs.declared.input.Packet.{Packet}
use Rattle.sl_parts.specs.Parts.{Parts}
use Rattle.sl_model.specs.declared.message.Message.{Message}
use Rattle.sl_model.specs.declared.message.Message.TheVariants.{Host as HostMsg, Data}
use Rattle.sl_model.specs.declared.message.Step.{Step}
use Rattle.sl_model.specs.Words.{tally}
use Rattle.sl_model.specs.History.{History}
use Rattle.sl_model.specs.Frame.{packet_of}
use Rattle.sl_route.specs.Route.{next_port}

-- the data packet of a message: that of a plain frame from a host, or one on a data channel; no other link carries either
abbrev pub counted_in : Message → Option Packet
counted_in (HostMsg bytes) = packet_of bytes
counted_in (Data s p) = Some p
counted_in _ = None

-- the data packet that a step counts
abbrev pub counted : Step → Option Packet
counted s = option_and_then counted_in s.taken

abbrev pub packets : History → ℕ
packets [] = 0
packets (s ∷ h) = packets h + unwrap_or (option_map (λ p. 1) (counted s)) 0

abbrev pub bytes : History → ℕ
bytes [] = 0
bytes (s ∷ h) = bytes h + unwrap_or (option_map (λ p. p.len) (counted s)) 0

-- Drops of an ingress unit.

-- a frame from its host that is no plain frame
abbrev pub is_bad : Option Message → Bool
is_bad (Some (HostMsg b)) = is_none (packet_of b)
is_bad _ = false

-- a packet whose hop limit is 0
abbrev pub is_expired : Option Packet → Bool
is_expired None = false
is_expired (Some p) = p.hops == 0

-- any other packet for which the device d has no route
abbrev pub is_noroute : Parts → ℕ → Option Packet → Bool
is_noroute parts d None = false
is_noroute parts d (Some p) = not (p.hops == 0) && is_none (next_port parts d p.dst)

abbrev pub bad : History → ℕ
bad h = tally (λ s. is_bad s.taken) h

abbrev pub expired : History → ℕ
expired h = tally (λ s. is_expired (counted s)) h

abbrev pub noroute : Parts → ℕ → History → ℕ
noroute parts d h = tally (λ s. is_noroute parts d (counted s)) h
