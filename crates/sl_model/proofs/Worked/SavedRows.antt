-- Rows of a unit with two data channels, worked out: two packets come by the first with the stamps 1 and 2, then one by the second with the stamp 0;
-- and then a stamp 4 comes.
use Rattle.std.proofs.Common.{◌≡◌, ℕ, List, [], ◌∷◌, refl, Some}
use Rattle.sl_net.specs.declared.input.Packet.{Packet}
use Rattle.sl_saves.specs.declared.entry.Total.{Total}
use Rattle.sl_saves.specs.declared.entry.Saved.TheVariants.{Value, Skipped, Miscredited}
use Rattle.sl_saves.specs.Calls.{Adopt, Credited, saves, saved}
use Rattle.sl_model.specs.declared.message.Message.TheVariants.{Data, Probe as ProbeMsg}
use Rattle.sl_model.specs.declared.message.Message.{Message}
use Rattle.sl_model.specs.declared.message.Step.{Step}
use Rattle.sl_saves.specs.Keeping.{no_total}
use Rattle.sl_model.specs.History.{History}
use Rattle.sl_model.specs.Calls.{calls}
use Rattle.sl_model.specs.Rows.{row}

abbrev packet : ℕ → Packet
packet len = record { src = 0; dst = 1; seq = 0; len = len; hops = 8 }

abbrev step : ℕ → Message → Step
step choice m = record { choice = choice; taken = Some m; puts = [] }

abbrev late : History
late = step 1 (Data 0 (packet 50)) ∷ step 0 (Data 2 (packet 200)) ∷ step 0 (Data 1 (packet 100)) ∷ []

abbrev skipping : History
skipping = step 1 (ProbeMsg 4) ∷ late

abbrev channels : List ℕ
channels = 0 ∷ 1 ∷ []

pub calls-made : calls channels late ≡ Credited (record { channel = 1; age = 2; bytes = 50 }) ∷ Adopt 1 1 100 ∷ Adopt 1 0 0 ∷ []
calls-made = refl

-- the last packet was in flight for 2, and too late for 1
pub too-late : row 1 channels 1 late ≡ Miscredited 2 2
too-late = refl

pub in-flight : row 1 channels 2 late ≡ Value 1 100 (no_total ∷ record { packets = 1; bytes = 50 } ∷ no_total ∷ no_total ∷ no_total ∷ no_total ∷ no_total ∷ no_total ∷ [])
in-flight = refl

-- with two credits it goes to both, and is too late for neither
abbrev one_late : List Total
one_late = no_total ∷ record { packets = 1; bytes = 50 } ∷ no_total ∷ no_total ∷ no_total ∷ no_total ∷ no_total ∷ no_total ∷ []

pub credited-first : row 2 channels 1 late ≡ Value 0 0 one_late
credited-first = refl

pub credited-second : row 2 channels 2 late ≡ Value 1 100 one_late
credited-second = refl

-- 3 is passed over; the number that was reached is not
pub passed-over : row 1 channels 3 skipping ≡ Skipped 4
passed-over = refl

pub reached : row 1 channels 4 skipping ≡ Value 3 350 (no_total ∷ no_total ∷ no_total ∷ no_total ∷ no_total ∷ no_total ∷ no_total ∷ no_total ∷ [])
reached = refl

-- and so the saved entries say
pub saved-too-late : saved 1 (saves 1 (calls channels skipping)) ≡ Miscredited 2 2
saved-too-late = refl

pub saved-first : saved 1 (saves 2 (calls channels late)) ≡ Value 0 0 one_late
saved-first = refl

pub saved-second : saved 2 (saves 2 (calls channels late)) ≡ Value 1 100 one_late
saved-second = refl
