-- Trusted text.
-- An accepted input, and its losses.
use Rattle.std.specs.Prelude.{ℕ, List}
use Rattle.sl_net.specs.declared.input.Snapshot.{Snapshot}
use Rattle.sl_net.specs.declared.input.Drop1.{Drop1}
use Rattle.sl_net.specs.declared.input.Flow.{Flow}
use Rattle.sl_net.specs.declared.input.RawPart.{RawPart}
use Rattle.sl_net.specs.declared.input.Script1.{Script1}
use Rattle.sl_layout.specs.declared.actor.LinkKind.{LinkKind}
use Rattle.sl_layout.specs.declared.actor.LinkKind.TheVariants.{Cable, Crossbar, Init, Notice, Reliable}
use Rattle.sl_layout.specs.Net.{Net}

pub record LossSpec : Type 0 where
  pub seed : ℕ
  pub cable : ℕ
  pub crossbar : ℕ
  pub init : ℕ
  pub notice : ℕ
  pub drops : List Drop1

-- how many of a thousand puts on links of a kind are lost
abbrev pub rate_of : LossSpec → LinkKind → ℕ
rate_of loss Cable = loss.cable
rate_of loss Crossbar = loss.crossbar
rate_of loss Init = loss.init
rate_of loss Notice = loss.notice
rate_of loss Reliable = 0

pub record Input : Type 0 where
  pub net : Net
  pub snapshot : Snapshot
  pub loss : LossSpec
  pub flows : List Flow
  pub raws : List RawPart
  pub script : List Script1
