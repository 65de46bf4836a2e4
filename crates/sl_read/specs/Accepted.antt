-- What holds of each accepted input: its numbers and places are within their ranges.
use Rattle.std.specs.Prelude.{◌≡◌, ◌⊎◌, ℕ, ◌<◌, ◌≤◌, ◌^◌, true, length, None, IfSome}
use Rattle.std.specs.List.{All, sum_by}
use Rattle.sl_net.specs.declared.input.Snapshot.{Snapshot}
use Rattle.sl_net.specs.declared.input.Drop1.{Drop1}
use Rattle.sl_net.specs.declared.input.Flow.{Flow}
use Rattle.sl_net.specs.declared.input.RawPart.{RawPart}
use Rattle.sl_net.specs.declared.input.Script1.{Script1}
use Rattle.sl_net.specs.declared.input.Script1.TheVariants.{Pass, Choice}
use Rattle.sl_parts.specs.Parts.{Parts}
use Rattle.sl_parts.specs.Fault.{fault_of}
use Rattle.sl_parts.specs.Lists.{Each}
use Rattle.sl_layout.specs.Net.{Net, net_of, link_of}
use Rattle.sl_layout.specs.Wiring.{kind_of, is_lossy}
use Rattle.sl_net.specs.Spelling.{HasChoice}
use Rattle.sl_net.specs.Input.{Input, LossSpec}
use Rattle.sl_read.specs.declared.cable.CableRow.{CableRow}
use Rattle.sl_read.specs.declared.document.Document.{Document}
use Rattle.sl_read.specs.Choices.{passes}
use Rattle.sl_read.specs.Inputs.{packets}
use Rattle.sl_read.specs.Limits.{values}

-- the versions of frames
abbrev pub IsVersion : ℕ → Type 0
IsVersion version = (1 ≤ version) × (version ≤ 2)

-- of the frames on a cable, where it gives one
abbrev pub HasVersion : CableRow → Type 0
HasVersion cable = IfSome cable.version IsVersion

-- a document gives no other
pub record HasVersions (d : Document) : Type 0 where
  pub version : IsVersion d.snapshot.version
  pub cables : Each HasVersion d.cables

-- at least one snapshot fits the window, a wrapped id stands for one number in it, and the ring holds it
pub record IsSnapshot (s : Snapshot) : Type 0 where
  pub some_bits : 1 ≤ s.width
  pub few_bits : s.width ≤ 16
  pub some_window : 1 ≤ s.window
  pub few_window : s.window < 2 ^ s.width
  pub most_window : s.window ≤ 1024
  pub some_ring : s.window ≤ s.ring
  pub few_ring : s.ring ≤ 2 ^ s.width
  pub most_ring : s.ring ≤ 1024
  pub count : s.count ≤ 100000
  pub retries : s.retries ≤ 100
  pub some_credits : 1 ≤ s.credits
  pub few_credits : s.credits ≤ 4
  pub version : IsVersion s.version

-- frames of this version carry ids of so many bits: those of version 1 have 8 bits for them
abbrev pub IsCarried : ℕ → ℕ → Type 0
IsCarried bits version = ((version ≡ 1) × (bits ≤ 8)) ⊎ (version ≡ 2)

-- a put on a link of the net on which messages may be lost
pub record IsDrop (net : Net) (d : Drop1) : Type 0 where
  pub link : d.link < length net.links
  pub lossy : is_lossy (kind_of (link_of net d.link).sort) ≡ true
  pub some : 1 ≤ d.n
  pub most : d.n ≤ 1000000000

pub record IsLoss (net : Net) (l : LossSpec) : Type 0 where
  pub seed : l.seed < 2 ^ 63
  pub cable : l.cable ≤ 1000
  pub crossbar : l.crossbar ≤ 1000
  pub init : l.init ≤ 1000
  pub notice : l.notice ≤ 1000
  pub few : length l.drops ≤ 1000
  pub drops : All (IsDrop net) l.drops

-- between two hosts of the net
pub record IsFlow (parts : Parts) (f : Flow) : Type 0 where
  pub from : f.from < length parts.hosts
  pub to : f.to < length parts.hosts
  pub count : f.count ≤ 20000
  pub bytes : f.bytes < 2 ^ 16
  pub hops : f.hops < 2 ^ 8

pub record IsRaw (parts : Parts) (r : RawPart) : Type 0 where
  pub from : r.from < length parts.hosts
  pub few : length r.bytes ≤ 64
  pub bytes : All (λ b. b < 256) r.bytes

-- some passes, or a choice of the net
abbrev pub IsEntry : Net → Script1 → Type 0
IsEntry net (Pass n) = (1 ≤ n) × (n ≤ 10000)
IsEntry net (Choice a c) = HasChoice net a c

pub record IsAccepted (input : Input) : Type 0 where
  pub net : input.net ≡ net_of input.net.parts
  pub right : fault_of input.net.parts ≡ None
  pub snapshot : IsSnapshot input.snapshot
  pub loss : IsLoss input.net input.loss
  pub flows : All (IsFlow input.net.parts) input.flows
  pub raws : All (IsRaw input.net.parts) input.raws
  pub script : All (IsEntry input.net) input.script
  pub few_entries : length input.script ≤ 1048576
  pub few_passes : sum_by passes input.script ≤ 10000
  pub few_packets : packets input.flows input.raws ≤ 200000
  pub carried : IsCarried input.snapshot.width input.snapshot.version
  pub cables : All (λ c. IsCarried input.snapshot.width c.version) input.net.parts.cables
  pub few_values : values input.net input.snapshot ≤ 1024000
