-- Trusted text for nodes, in part.
-- Frames of 24 bytes, by their columns. Numbers are big-endian.
--     bytes      plain   carried       probe         initiation
--     0          0       1             2             3
--     1          0       below 8       below 8       255             the channel
--     2, 3       0       an id         an id         an id
--     4, 5       any     any           0             0               the source
--     6, 7       any     any           0             0               the destination
--     8 to 11    any     any           0             0               the number in its flow
--     12, 13     any     any           0             0               the length
--     14         any     any           0             0               the hop limit
--     15         1       1 or 2        1 or 2        1 or 2          the version
--     16, 17     0       0 in version 1, 65535 less the id in version 2    the check
--     18 to 23   0       0             0             0
-- A frame of version 1 carries ids below 256 alone.
use Rattle.std.specs.Prelude.{◌≡◌, ℕ, ◌+◌, ◌-◌, ◌*◌, ◌/◌, ◌%◌, ◌<◌, Bool, true, not, ◌&&◌, ◌||◌, ◌==◌, nat_lt, nat_le, if◌then◌else◌, List, [], ◌∷◌, length, slice_index, slice_range, Option, Some, None, Result, Ok, Err, IsTrue}
use Rattle.sl_ids.specs.Ids.{modulus}
use Rattle.sl_ids.specs.declared.wid.Wid.{Wid}
use Rattle.sl_net.specs.declared.input.Packet.{Packet}
use Rattle.sl_wire.specs.declared.frame.Kind.{Kind}
use Rattle.sl_wire.specs.declared.frame.Kind.TheVariants.{Plain, Carried, Probe, Init}
use Rattle.sl_wire.specs.declared.frame.Header.{Header}
use Rattle.sl_wire.specs.declared.frame.WireFault.{WireFault}
use Rattle.sl_wire.specs.declared.frame.WireFault.TheVariants.{E1, E2, E3, E4, E5}

-- What the columns allow.

abbrev pub kind_byte : Kind → ℕ
kind_byte Plain = 0
kind_byte Carried = 1
kind_byte Probe = 2
kind_byte Init = 3

abbrev pub channel_fits : Kind → ℕ → Bool
channel_fits Plain c = c == 0
channel_fits Carried c = nat_lt c 8
channel_fits Probe c = nat_lt c 8
channel_fits Init c = c == 255

-- a plain frame is of version 1
abbrev pub version_fits : Kind → ℕ → Bool
version_fits Plain version = version == 1
version_fits _ version = (version == 1) || (version == 2)

-- an id of some bits that a frame of a version carries
abbrev pub stamp_fits : ℕ → ℕ → ℕ → Bool
stamp_fits bits version id = nat_lt id (modulus bits) && ((version == 2) || nat_lt id 256)

abbrev pub id_fits : ℕ → ℕ → Kind → ℕ → Bool
id_fits bits version Plain id = id == 0
id_fits bits version Carried id = stamp_fits bits version id
id_fits bits version Probe id = stamp_fits bits version id
id_fits bits version Init id = stamp_fits bits version id

-- a version whose frames carry all ids of some bits
abbrev pub carries : ℕ → ℕ → Bool
carries bits version = (version == 2) || ((version == 1) && nat_le bits 8)

abbrev pub IsZeroPacket : Packet → Type 0
IsZeroPacket p = (p.src ≡ 0) × (p.dst ≡ 0) × (p.seq ≡ 0) × (p.len ≡ 0) × (p.hops ≡ 0)

-- a probe and an initiation carry no packet
abbrev pub PacketFits : Kind → Packet → Type 0
PacketFits Plain p = Unit {0}
PacketFits Carried p = Unit {0}
PacketFits Probe p = IsZeroPacket p
PacketFits Init p = IsZeroPacket p

-- a version, a header and a packet that the columns allow
pub record IsCanonical (bits v : ℕ) (h : Header) (p : Packet) : Type 0 where
  pub version : IsTrue (version_fits h.kind v)
  pub id : IsTrue (id_fits bits v h.kind h.id.raw)
  pub channel : IsTrue (channel_fits h.kind h.channel)
  pub packet : PacketFits h.kind p

-- in version 2 the check tells the id once more
abbrev pub check_of : ℕ → ℕ → ℕ
check_of version id = if version == 2 then 65535 - id else 0

-- their bytes
unfoldable pub frame : ℕ → Header → Packet → List ℕ
frame version h p =
    kind_byte h.kind ∷ h.channel ∷ h.id.raw / 256 ∷ h.id.raw % 256 ∷ p.src / 256 ∷ p.src % 256 ∷ p.dst / 256 ∷ p.dst % 256
    ∷ p.seq / 65536 / 256 ∷ p.seq / 65536 % 256 ∷ p.seq % 65536 / 256 ∷ p.seq % 65536 % 256 ∷ p.len / 256 ∷ p.len % 256 ∷ p.hops ∷ version
    ∷ check_of version h.id.raw / 256 ∷ check_of version h.id.raw % 256 ∷ 0 ∷ 0 ∷ 0 ∷ 0 ∷ 0 ∷ 0 ∷ []

-- the header of a plain frame, and the plain frame of a packet
abbrev pub plain_header : Header
plain_header = record { kind = Plain; id = record { raw = 0 }; channel = 0 }

abbrev pub plain_frame : Packet → List ℕ
plain_frame p = frame 1 plain_header p

-- the headers of frames between units, with the sender's id and port, and that of an initiation
abbrev pub carried_header : Wid → ℕ → Header
carried_header id port = record { kind = Carried; id = id; channel = port }

abbrev pub probe_header : Wid → ℕ → Header
probe_header id port = record { kind = Probe; id = id; channel = port }

abbrev pub init_header : Wid → Header
init_header id = record { kind = Init; id = id; channel = 255 }

-- what probes and initiations carry in place of a packet
abbrev pub no_packet : Packet
no_packet = record { src = 0; dst = 0; seq = 0; len = 0; hops = 0 }

-- bytes are the frame of a version, a header and a packet
pub record IsFrame (bits : ℕ) (bytes : List ℕ) (v : ℕ) (h : Header) (p : Packet) : Type 0 where
  pub canonical : IsCanonical bits v h p
  pub spelled : bytes ≡ frame v h p

-- What bytes are read as.

abbrev pub kind_of : ℕ → Option Kind
kind_of b = if b == 0 then Some Plain else if b == 1 then Some Carried else if b == 2 then Some Probe else if b == 3 then Some Init else None

abbrev pub number : ℕ → ℕ → ℕ
number high low = high * 256 + low

abbrev pub wide_number : ℕ → ℕ → ℕ
wide_number high low = high * 65536 + low

-- the eight bytes from a place on as one number
abbrev pub word : List ℕ → ℕ → ℕ
word bytes at =
    ((((((slice_index bytes at * 256 + slice_index bytes (at + 1)) * 256 + slice_index bytes (at + 2)) * 256 + slice_index bytes (at + 3)) * 256
    + slice_index bytes (at + 4)) * 256 + slice_index bytes (at + 5)) * 256 + slice_index bytes (at + 6)) * 256 + slice_index bytes (at + 7)

abbrev pub all_zero : List ℕ → Bool
all_zero [] = true
all_zero (b ∷ bs) = b == 0 && all_zero bs

abbrev pub packet_fits : Kind → List ℕ → Bool
packet_fits Plain bytes = true
packet_fits Carried bytes = true
packet_fits Probe bytes = all_zero (slice_range bytes 4 15)
packet_fits Init bytes = all_zero (slice_range bytes 4 15)

abbrev pub id_in : List ℕ → ℕ
id_in bytes = number (slice_index bytes 2) (slice_index bytes 3)

abbrev pub check_in : List ℕ → ℕ
check_in bytes = number (slice_index bytes 16) (slice_index bytes 17)

abbrev pub header_of : Kind → List ℕ → Header
header_of kind bytes =
    record { kind = kind; id = record { raw = id_in bytes }; channel = slice_index bytes 1 }

unfoldable pub packet_of : List ℕ → Packet
packet_of bytes = record {
  src = number (slice_index bytes 4) (slice_index bytes 5);
  dst = number (slice_index bytes 6) (slice_index bytes 7);
  seq = wide_number (number (slice_index bytes 8) (slice_index bytes 9)) (number (slice_index bytes 10) (slice_index bytes 11));
  len = number (slice_index bytes 12) (slice_index bytes 13);
  hops = slice_index bytes 14;
}

-- the bytes after the version that are 0: in version 2 the check stands before them
abbrev pub reserved_in : ℕ → List ℕ → List ℕ
reserved_in version bytes = slice_range bytes (if version == 2 then 18 else 16) 24

-- E5 for the check
abbrev pub check_decoded : List ℕ → ℕ → Kind → Result (ℕ × Header × Packet) WireFault
check_decoded bytes version kind =
    if (version == 2) && not (check_in bytes == 65535 - id_in bytes) then Err E5 else Ok (version, header_of kind bytes, packet_of bytes)

-- E3 for the id, E4 for another byte that the kind and the version don't allow
abbrev pub columns_decoded : ℕ → List ℕ → ℕ → Kind → Result (ℕ × Header × Packet) WireFault
columns_decoded bits bytes version kind =
    if not (id_fits bits version kind (id_in bytes)) then Err E3
    else if not (channel_fits kind (slice_index bytes 1)) || (not (packet_fits kind bytes) || not (all_zero (reserved_in version bytes))) then Err E4
    else check_decoded bytes version kind

-- E2 for the kind or the version
abbrev pub kind_decoded : ℕ → List ℕ → Option Kind → Result (ℕ × Header × Packet) WireFault
kind_decoded bits bytes None = Err E2
kind_decoded bits bytes (Some kind) =
    if version_fits kind (slice_index bytes 15) then columns_decoded bits bytes (slice_index bytes 15) kind else Err E2

-- what bytes say, or the first refusal: E1 for the length
unfoldable pub decoded : ℕ → List ℕ → Result (ℕ × Header × Packet) WireFault
decoded bits bytes = if length bytes == 24 then kind_decoded bits bytes (kind_of (slice_index bytes 0)) else Err E1

abbrev pub IsBytes : List ℕ → Type 0
IsBytes bs = (i : ℕ) → slice_index bs i < 256
