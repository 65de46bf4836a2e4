-- Trusted text for nodes, but for HostSimulates, HostActSimulates.
-- What a host's machine stands for: the host's history. a is the host's actor, and i its number among the hosts.
use Rattle.std.specs.Prelude.{◌≡◌, ℕ, List, Option}
use Rattle.sl_machine.specs.Machine.{After}
use Rattle.sl_layout.specs.Net.{action_choice}
use Rattle.sl_wire.specs.declared.message.Msg.{Msg}
use Rattle.sl_wire.specs.Sizes.{Sizes}
use Rattle.sl_host.specs.Host.{HostState}
use Rattle.sl_model.specs.declared.message.Put.{Put}
use Rattle.sl_model.specs.History.{History, World, history, taken}
use Rattle.sl_model.specs.Setup.{Setup, frames_of}
use Rattle.sl_simulation.specs.Simulates.{Simulates, ActSimulates}

-- it sent a frame each time that it injected, and took each from its one link, by the choice 0
abbrev pub host_of : Setup → ℕ → ℕ → History → HostState
host_of s a i h = record { messages = frames_of s i; sent = taken (action_choice s.net a) h; delivered = taken 0 h }

abbrev pub IsHostOf : Setup → ℕ → ℕ → World → HostState → Type 0
IsHostOf s a i w x = x ≡ host_of s a i (history w a)

-- a turn of the machine simulates a step of the host, which leads to the world v, and ps are the puts of the step
abbrev pub HostSimulates : Setup → Sizes → ℕ → ℕ → World → (ℕ → ℕ) → List Put → After HostState Msg → Type 0
HostSimulates s sizes a i v told ps x = Simulates (IsHostOf s a i v) s.net sizes (λ u. history v u) a told ps x

abbrev pub HostActSimulates : Setup → Sizes → ℕ → ℕ → World → (ℕ → ℕ) → List Put → Option (After HostState Msg) → Type 0
HostActSimulates s sizes a i v told ps o = ActSimulates (IsHostOf s a i v) s.net sizes (λ u. history v u) a told ps o
