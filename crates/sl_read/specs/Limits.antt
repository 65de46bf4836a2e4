-- Trusted text.
-- Limits of an input that its numbers keep together.
use Rattle.std.specs.Prelude.{ℕ, ◌*◌, nat_lt, nat_le, ◌==◌, if◌then◌else◌, List, length, Option, Some, None, Result, Ok, Err}
use Rattle.std.specs.List.{position}
use Rattle.sl_parts.specs.declared.parts.CablePart.{CablePart}
use Rattle.sl_layout.specs.Net.{Net, units}
use Rattle.sl_net.specs.declared.input.Snapshot.{Snapshot}
use Rattle.sl_form.specs.declared.path.TableName.TheVariants as table
use Rattle.sl_form.specs.declared.path.Key.TheVariants.{Version}
use Rattle.sl_form.specs.declared.refusal.Refusal.{Refusal}
use Rattle.sl_form.specs.declared.refusal.Refusal.TheVariants.{TooWide, TooManyValues}
use Rattle.sl_form.specs.Paths.{at}
use Rattle.sl_form.specs.Refusals.{◌>>=◌}

-- no cable, or the place of one whose frames carry less
abbrev pub no_cable : Option ℕ → Result (Unit {0}) Refusal
no_cable None = Ok tt
no_cable (Some i) = Err (TooWide (at (table.Cable i) Version))

-- ids of more than 8 bits need version 2, in the snapshot table and then on each cable
unfoldable pub ids_carried : Snapshot → List CablePart → Result (Unit {0}) Refusal
ids_carried s cables =
    if nat_le s.width 8 then Ok tt
    else if s.version == 1 then Err (TooWide (at table.Snapshot Version))
    else no_cable (position (λ c. c.version == 1) cables)

-- a value of each unit for each snapshot
abbrev pub values : Net → Snapshot → ℕ
values net s = s.count * length (units net)

unfoldable pub few_values : Net → Snapshot → Result (Unit {0}) Refusal
few_values net s = if nat_lt 1024000 (values net s) then Err (TooManyValues (values net s)) else Ok tt

abbrev pub limits_kept : Net → Snapshot → Result (Unit {0}) Refusal
limits_kept net s = ids_carried s net.parts.cables >>= (λ _. few_values net s)
