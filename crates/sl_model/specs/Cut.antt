-- Trusted text, but for outside.
-- The cut of a snapshot, and its values (Chandy and Lamport 1985; Yaseen, Sonchack and Liu 2018).
--     cut k h                       how many steps of a unit leave its id below k
--     value k h                     what it counted in these steps
--     channel_value net lost w k l  the data packets that were put before the sender's cut and taken after the receiver's
use Rattle.std.specs.Prelude.{ℕ, List, [], ◌∷◌, length, nat_lt, if◌then◌else◌, take, drop}
use Rattle.sl_layout.specs.Net.{Net}
use Rattle.sl_saves.specs.declared.entry.Total.{Total}
use Rattle.sl_model.specs.declared.message.Message.{Message}
use Rattle.sl_model.specs.declared.message.Message.TheVariants.{Data}
use Rattle.sl_model.specs.declared.message.Step.{Step}
use Rattle.sl_model.specs.Words.{weigh}
use Rattle.sl_model.specs.History.{History, World, Losses, history, id, carried_by}
use Rattle.sl_model.specs.Counting.{packets, bytes}
use Rattle.sl_model.specs.World.{sender, receiver, taken_by}

-- the steps after which the id is below k; an id never falls, so these are the first steps
abbrev pub before : ℕ → History → History
before k [] = []
before k (s ∷ h) = if nat_lt (id (s ∷ h)) k then s ∷ h else before k h

-- the other steps
abbrev pub outside : ℕ → History → List Step
outside k [] = []
outside k (s ∷ h) = if nat_lt (id (s ∷ h)) k then [] else s ∷ outside k h

abbrev pub cut : ℕ → History → ℕ
cut k h = length (before k h)

-- the cut of each actor
abbrev pub cuts : World → ℕ → ℕ → ℕ
cuts w k a = cut k (history w a)

abbrev pub value : ℕ → History → Total
value k h = record { packets = packets (before k h); bytes = bytes (before k h) }

-- the matched messages of a link whose put lies in the sender's first cut(k) steps and whose take lies outside the receiver's: of those carried,
-- as many as the receiver took in all have a take, and as many as it took in its first cut(k) steps have it there
abbrev pub crossing : Net → Losses → World → ℕ → ℕ → List Message
crossing net lost w k l = drop (taken_by net l (before k (receiver net w l))) (take (taken_by net l (receiver net w l)) (carried_by lost l (before k (sender net w l))))

abbrev pub data_count : Message → ℕ
data_count (Data s p) = 1
data_count _ = 0

abbrev pub data_bytes : Message → ℕ
data_bytes (Data s p) = p.len
data_bytes _ = 0

abbrev pub channel_value : Net → Losses → World → ℕ → ℕ → Total
channel_value net lost w k l = record { packets = weigh data_count (crossing net lost w k l); bytes = weigh data_bytes (crossing net lost w k l) }
