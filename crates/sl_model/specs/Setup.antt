-- Trusted text.
-- What is run: of an input, the net, the window, the count, the retries and the credits of its snapshot table, and what its hosts send.
use Rattle.std.specs.Prelude.{ℕ, List, ◌++◌, map, filter, ◌==◌}
use Rattle.sl_net.specs.declared.input.Flow.{Flow}
use Rattle.sl_net.specs.declared.input.RawPart.{RawPart}
use Rattle.sl_layout.specs.Net.{Net}
use Rattle.sl_net.specs.Input.{Input}
use Rattle.sl_model.specs.Frame.{plain_frame}
use Rattle.sl_flow.specs.Flow.{packets_of}

pub record Setup : Type 0 where
  pub net : Net
  pub window : ℕ
  pub count : ℕ
  pub retries : ℕ
  pub credits : ℕ
  pub flows : List Flow
  pub raws : List RawPart

abbrev pub setup_of : Input → Setup
setup_of i = record { net = i.net; window = i.snapshot.window; count = i.snapshot.count; retries = i.snapshot.retries; credits = i.snapshot.credits; flows = i.flows; raws = i.raws }

-- what a host sends: its packets as plain frames, then its raw frames in input order
abbrev pub frames_of : Setup → ℕ → List (List ℕ)
frames_of s h = map plain_frame (packets_of s.flows h) ++ map (λ r. r.bytes) (filter (λ r. r.from == h) s.raws)
