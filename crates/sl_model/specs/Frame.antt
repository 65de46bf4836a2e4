-- Trusted text.
-- Plain frames: the packets of hosts as 24 bytes, numbers big-endian.
--     kind 0, channel 0, id 0 (2 bytes), source (2), destination (2), number in the flow (4), length (2), hop limit, version 1, 8 bytes of 0
use Rattle.std.specs.Prelude.{ℕ, ◌+◌, ◌*◌, ◌/◌, ◌%◌, Bool, ◌&&◌, List, [], ◌∷◌, ◌++◌, length, ◌==◌, if◌then◌else◌, Option, Some, None, slice_index, take, drop, replicate}
use Rattle.std.specs.List.{list_all}
use Rattle.sl_net.specs.declared.input.Packet.{Packet}

abbrev pub two_bytes : ℕ → List ℕ
two_bytes n = n / 256 ∷ n % 256 ∷ []

-- the plain frame of a packet
unfoldable pub plain_frame : Packet → List ℕ
plain_frame p = (0 ∷ 0 ∷ 0 ∷ 0 ∷ []) ++ two_bytes p.src ++ two_bytes p.dst ++ two_bytes (p.seq / 65536) ++ two_bytes (p.seq % 65536)
    ++ two_bytes p.len ++ (p.hops ∷ 1 ∷ []) ++ replicate 8 0

abbrev pub number_at : List ℕ → ℕ → ℕ
number_at bytes i = 256 * slice_index bytes i + slice_index bytes (i + 1)

abbrev pub all_zero : List ℕ → Bool
all_zero bytes = list_all (λ b. b == 0) bytes

abbrev pub is_plain : List ℕ → Bool
is_plain bytes = (length bytes == 24) && (all_zero (take 4 bytes) && ((slice_index bytes 15 == 1) && all_zero (drop 16 bytes)))

abbrev pub packet_at : List ℕ → Packet
packet_at bytes = record { src = number_at bytes 4; dst = number_at bytes 6; seq = 65536 * number_at bytes 8 + number_at bytes 10; len = number_at bytes 12; hops = slice_index bytes 14 }

-- the packet whose plain frame the bytes are, where there is one
unfoldable pub packet_of : List ℕ → Option Packet
packet_of bytes = if is_plain bytes then Some (packet_at bytes) else None
