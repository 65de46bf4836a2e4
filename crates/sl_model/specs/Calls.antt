-- Trusted text for nodes.
-- What a unit's history makes it save (Yaseen, Sonchack and Liu 2018). cs are the unit's data channels, as choices.
--     credits_in cs k c o    what a step by the choice c that took o credits to the number k
--     calls cs h             the calls on the saved entries that the steps of h make
use Rattle.std.specs.Prelude.{ℕ, ◌-◌, List, [], ◌∷◌, ◌++◌, map, nat_lt, if◌then◌else◌, Option, Some}
use Rattle.sl_net.specs.declared.input.Packet.{Packet}
use Rattle.sl_layout.specs.Net.{place_in}
use Rattle.sl_saves.specs.Calls.{Call, Adopt, Credited, Credit}
use Rattle.sl_model.specs.declared.message.Message.{Message}
use Rattle.sl_model.specs.declared.message.Message.TheVariants.{Data}
use Rattle.sl_model.specs.declared.message.Step.{Step}
use Rattle.sl_model.specs.History.{History, id}
use Rattle.sl_model.specs.Counting.{packets, bytes}

-- a data packet with the stamp s, which came by the choice c, as a credit to the number k
abbrev pub credit : List ℕ → ℕ → ℕ → ℕ → Packet → Credit
credit cs k c s p = record { channel = place_in 0 c cs; age = k - s; bytes = p.len }

-- a data packet with a stamp below k, and nothing else
abbrev pub credits_in : List ℕ → ℕ → ℕ → Option Message → List Credit
credits_in cs k c (Some (Data s p)) = if nat_lt s k then credit cs k c s p ∷ [] else []
credits_in cs k c _ = []

-- a step that raises the id adopts the new one, with the counters before the step; any other credits to the id
abbrev pub step_calls : List ℕ → History → Step → List Call
step_calls cs h s = if nat_lt (id h) (id (s ∷ h)) then Adopt (id (s ∷ h) - id h) (packets h) (bytes h) ∷ [] else map Credited (credits_in cs (id h) s.choice s.taken)

abbrev pub calls : List ℕ → History → List Call
calls cs [] = []
calls cs (s ∷ h) = step_calls cs h s ++ calls cs h
