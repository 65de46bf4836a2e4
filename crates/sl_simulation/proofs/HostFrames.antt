-- The frames that a host sends are those of its machine.
use Rattle.std.proofs.Common.{◌≡◌, ℕ, List, [], ◌∷◌, ◌++◌, refl, sym, ap}
use Rattle.std.specs.Prelude.{map}
use Rattle.sl_net.specs.declared.input.Packet.{Packet}
use Rattle.sl_net.specs.Input.{Input}
use Rattle.sl_layout.specs.Net.{action_choice}
use Rattle.sl_flow.specs.Flow.{packets_of}
use Rattle.sl_wire.specs.Frames.{plain_frame as wire_frame}
use Rattle.sl_host.specs.Host.{raws_of}
use Rattle.sl_host.specs.Host.{messages_of}
use Rattle.sl_model.specs.Frame.{plain_frame}
use Rattle.sl_model.specs.History.{Losses, history, taken}
use Rattle.sl_model.specs.Setup.{frames_of, setup_of}
use Rattle.sl_model.specs.World.{world}
use Rattle.sl_model.specs.Turns.{TakesTurns}
use Rattle.sl_simulation.specs.HostImage.{host_of}
use Rattle.sl_simulation.proofs.UnitFrames.{frame-is}

map-each : (ps : List Packet) → map wire_frame ps ≡ map plain_frame ps
map-each [] = refl
map-each (p ∷ ps) = let a = frame-is p in let b = map-each ps in λ i. a i ∷ b i

pub frames-same : (i : Input) (h : ℕ) → messages_of i h ≡ frames_of (setup_of i) h
frames-same i h = ap (λ fs. fs ++ raws_of i.raws h) (map-each (packets_of i.flows h))

pub host-start : TakesTurns → (i : Input) (lost : Losses) (a h : ℕ) → record { messages = messages_of i h; sent = 0; delivered = 0 } ≡ host_of (setup_of i) a h (history (world (setup_of i) lost []) a)
host-start turns i lost a h = let m = frames-same i h in let e = turns.starts i.net a in let s = sym (ap (taken (action_choice i.net a)) e) in let d = sym (ap (taken 0) e) in
    λ j. record { messages = m j; sent = s j; delivered = d j }
