-- Trusted text for nodes, but for bytes_on, if_read, frame_on, framed, carrying.
-- The bytes that messages carry. A message has a frame of 24 bytes in place, and other bytes in a list.
--     bytes_on x           the bytes that a message carries, None where it carries none
--     frame_on bits x      the header and the packet of which these are the frame in either version, where there are such
--     framed v h p         the message with the frame of a header and packet in a version
--     poll                 the message that is a poll
--     carrying bytes       the message with these bytes
use Rattle.std.specs.Prelude.{ℕ, List, length, ◌==◌, if◌then◌else◌, Option, Some, None, option_and_then, Result, Ok, Err}
use Rattle.sl_net.specs.declared.input.Packet.{Packet}
use Rattle.sl_wire.specs.declared.frame.Header.{Header}
use Rattle.sl_wire.specs.declared.frame.WireFault.{WireFault}
use Rattle.sl_wire.specs.declared.message.Msg.{Msg}
use Rattle.sl_wire.specs.declared.message.Msg.TheVariants.{Frame, Wire, Poll}
use Rattle.sl_wire.specs.Frames.{decoded, frame}

abbrev pub bytes_on : Msg → Option (List ℕ)
bytes_on (Frame f) = Some f.bytes
bytes_on (Wire bytes) = Some bytes
bytes_on _ = None

abbrev pub if_read : Result (ℕ × Header × Packet) WireFault → Option (Header × Packet)
if_read (Ok read) = Some (read.1, read.2)
if_read (Err fault) = None

abbrev pub frame_on : ℕ → Msg → Option (Header × Packet)
frame_on bits x = option_and_then (λ bytes. if_read (decoded bits bytes)) (bytes_on x)

abbrev pub framed : ℕ → Header → Packet → Msg
framed version h p = Frame (record { bytes = frame version h p })

-- a poll; contracts see nothing of what it takes back
abbrev pub poll : Msg
poll = Poll tt

abbrev pub carrying : List ℕ → Msg
carrying bytes = if length bytes == 24 then Frame (record { bytes = bytes }) else Wire bytes
