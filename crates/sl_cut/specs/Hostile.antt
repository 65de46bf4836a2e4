-- What hostile hosts send: raw frames that are bad, no plain frames. A plain frame has version 1 whatever the input says of versions, so what is bad
-- depends on the bytes alone.
--     IsSameButBad a b       two frames that are the same, or both bad
--     IsAlike i j            two inputs that differ in bad raw frames alone
--     blank, blank_world ..  a bad frame with no byte left, and so each bad frame in a message, a put, a step, a history and a world
use Rattle.std.specs.Prelude.{◌≡◌, ◌⊎◌, ℕ, List, [], ◌∷◌, map, if◌then◌else◌, None, is_none, option_map}
use Rattle.sl_net.specs.declared.input.RawPart.{RawPart}
use Rattle.sl_net.specs.Input.{Input}
use Rattle.sl_model.specs.declared.message.Message.{Message}
use Rattle.sl_model.specs.declared.message.Message.TheVariants.{Host as HostMsg}
use Rattle.sl_model.specs.declared.message.Put.{Put}
use Rattle.sl_model.specs.declared.message.Step.{Step}
use Rattle.sl_model.specs.Frame.{packet_of}
use Rattle.sl_model.specs.History.{History, World}

abbrev pub IsBad : List ℕ → Type 0
IsBad bytes = packet_of bytes ≡ None

abbrev pub IsSameButBad : List ℕ → List ℕ → Type 0
IsSameButBad a b = (a ≡ b) ⊎ (IsBad a × IsBad b)

-- raw frames in order: the same hosts send them, and each is the same or bad in both
abbrev pub AreSameButBad : List RawPart → List RawPart → Type 0
AreSameButBad [] [] = Unit {0}
AreSameButBad (r ∷ rs) (q ∷ qs) = (r.from ≡ q.from) × IsSameButBad r.bytes q.bytes × AreSameButBad rs qs
AreSameButBad _ _ = ⊥

pub record IsAlike (i j : Input) : Type 0 where
  pub net : i.net ≡ j.net
  pub snapshot : i.snapshot ≡ j.snapshot
  pub loss : i.loss ≡ j.loss
  pub flows : i.flows ≡ j.flows
  pub raws : AreSameButBad i.raws j.raws
  pub script : i.script ≡ j.script

-- Blanking.

abbrev pub blank : List ℕ → List ℕ
blank bytes = if is_none (packet_of bytes) then [] else bytes

abbrev pub blank_message : Message → Message
blank_message (HostMsg bytes) = HostMsg (blank bytes)
blank_message m = m

abbrev pub blank_put : Put → Put
blank_put p = record { link = p.link; message = blank_message p.message }

abbrev pub blank_step : Step → Step
blank_step s = record { choice = s.choice; taken = option_map blank_message s.taken; puts = map blank_put s.puts }

abbrev pub blank_history : History → History
blank_history h = map blank_step h

abbrev pub blank_world : World → World
blank_world w = map blank_history w
