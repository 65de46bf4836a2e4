-- Trusted text.
-- The input: the bytes as a TOML document, its shape, then its names, its net, its spellings, its
-- total and its limits. The first refusal in this order is the answer.
use Rattle.std.specs.Prelude.{ℕ, ◌+◌, nat_lt, if◌then◌else◌, List, length, map, Option, Some, None, option_and_then, Result, Ok, Err}
use Rattle.std.specs.List.{sum}
use Rattle.std.specs.Str.{is_utf8}
use Rattle.toml.specs.Data.{Members}
use Rattle.toml.specs.Parse.{parse_document}
use Rattle.sl_parts.specs.declared.fault.NetFault.{NetFault}
use Rattle.sl_parts.specs.declared.parts.HostPart.{HostPart}
use Rattle.sl_net.specs.declared.input.Flow.{Flow}
use Rattle.sl_net.specs.declared.input.RawPart.{RawPart}
use Rattle.sl_net.specs.declared.input.Drop1.{Drop1}
use Rattle.sl_parts.specs.Parts.{Parts}
use Rattle.sl_parts.specs.Fault.{fault_of}
use Rattle.sl_layout.specs.Net.{Net, net_of}
use Rattle.sl_net.specs.Input.{Input, LossSpec}
use Rattle.sl_form.specs.declared.refusal.Refusal.{Refusal}
use Rattle.sl_form.specs.declared.refusal.Refusal.TheVariants.{TooLong, NotToml, Absent, Unlisted, Form, Range, Unknown, Entry, Net as WrongNet, TooMany, TooWide, TooManyValues}
use Rattle.sl_read.specs.declared.fault.InputFault.{InputFault}
use Rattle.sl_read.specs.declared.fault.InputFault.TheVariants.{I1, I2, I3, I4, I5, I6, I7, I8, I9, I10, I11, I12}
use Rattle.sl_read.specs.declared.loss.LossRow.{LossRow}
use Rattle.sl_read.specs.declared.document.Document.{Document}
use Rattle.sl_read.specs.declared.read.Traffic.{Traffic}
use Rattle.sl_read.specs.declared.read.Contents.{Contents}
use Rattle.sl_form.specs.Paths.{path_text, table_text}
use Rattle.sl_form.specs.Refusals.{◌>>=◌}
use Rattle.sl_read.specs.Documents.{document_of}
use Rattle.sl_read.specs.Places.{each, parts_of, flow_part, raw_part}
use Rattle.sl_read.specs.Choices.{drop_part, entries_of}
use Rattle.sl_read.specs.Limits.{limits_kept}

-- the net of the parts, or the first reason why they are none
abbrev pub unless_refused : Option NetFault → Net → Result Net Refusal
unless_refused None net = Ok net
unless_refused (Some e) net = Err (WrongNet e)

unfoldable pub built : Parts → Result Net Refusal
built parts = unless_refused (fault_of parts) (net_of parts)

-- packets and raw frames in all
abbrev pub packets : List Flow → List RawPart → ℕ
packets flows raws = sum (map (λ f. f.count) flows) + length raws

unfoldable pub few_packets : List Flow → List RawPart → Result (Unit {0}) Refusal
few_packets flows raws = if nat_lt 200000 (packets flows raws) then Err (TooMany (packets flows raws)) else Ok tt

abbrev pub losses : LossRow → List Drop1 → LossSpec
losses loss drops = record { seed = loss.seed; cable = loss.cable; crossbar = loss.crossbar; init = loss.init; notice = loss.notice; drops = drops }

-- the net of a document: the names in its ports, and then what is wrong with its parts
unfoldable pub net_in : Document → Result Net Refusal
net_in doc = parts_of doc.devices doc.snapshot.version doc.cables doc.hosts >>= built

-- flows and raw frames, with hosts by their places
unfoldable pub traffic_in : List HostPart → Document → Result Traffic Refusal
traffic_in hosts doc = do
  flows ← each (flow_part hosts) 0 doc.flows
  raws ← each (raw_part hosts) 0 doc.raws
  Ok (record { flows = flows; raws = raws })

-- what stands in the net: first hosts by name, then links and choices by their spelling, then the total
unfoldable pub contents_in : Net → Document → Result Contents Refusal
contents_in net doc = do
  traffic ← traffic_in net.parts.hosts doc
  drops ← each (drop_part net) 0 doc.loss.drops
  script ← entries_of net 0 0 doc.script
  _ ← few_packets traffic.flows traffic.raws
  Ok (record { loss = losses doc.loss drops; flows = traffic.flows; raws = traffic.raws; script = script })

-- names, net, spellings, total and limits of a document of the right shape
unfoldable pub settled : Document → Result Input Refusal
settled doc = do
  net ← net_in doc
  contents ← contents_in net doc
  _ ← limits_kept net doc.snapshot
  Ok (record { net = net; snapshot = doc.snapshot; loss = contents.loss; flows = contents.flows; raws = contents.raws; script = contents.script })

unfoldable pub tables_of : Members → Result Input Refusal
tables_of ms = document_of ms >>= settled

abbrev pub parsed : Option Members → Result Input Refusal
parsed None = Err NotToml
parsed (Some ms) = tables_of ms

abbrev pub text_of : List ℕ → Option (List ℕ)
text_of bytes = if is_utf8 bytes then Some bytes else None

-- what the bytes are read as
unfoldable pub reading_of : List ℕ → Result Input Refusal
reading_of bytes = if nat_lt 1048576 (length bytes) then Err TooLong else parsed (option_and_then parse_document (text_of bytes))

-- a refusal by its number
abbrev pub fault : Refusal → InputFault
fault TooLong = I1
fault NotToml = I2
fault (Absent p) = I3 (path_text p)
fault (Unlisted t) = I4 (table_text t)
fault (Form p) = I5 (path_text p)
fault (Range p z) = I6 (path_text p) z
fault (Unknown p) = I7 (path_text p)
fault (Entry i) = I8 i
fault (WrongNet e) = I9 e
fault (TooMany n) = I10 n
fault (TooWide p) = I11 (path_text p)
fault (TooManyValues n) = I12 n

abbrev pub numbered : Result Input Refusal → Result Input InputFault
numbered (Ok input) = Ok input
numbered (Err r) = Err (fault r)

-- the input that the bytes are, or the first reason why they are none
abbrev pub input_of : List ℕ → Result Input InputFault
input_of bytes = numbered (reading_of bytes)
