use Rattle.sl_layout.specs.Net.{Net}
use Rattle.sl_net.specs.Wired.{IsNet, IsWired}
use Rattle.sl_model.specs.History.{Losses}
use Rattle.sl_model.specs.Passing.{PassesMessages}
use Rattle.sl_model.specs.Reported.{AreReported}
use Rattle.sl_model.specs.Setup.{Setup}
use Rattle.sl_model.specs.Turns.{TakesTurns}
use Rattle.sl_model.specs.World.{IsLossTable, world}
use Rattle.sl_cut.specs.Honest.{honest_setup, honest_entries}
use Rattle.sl_cut.proofs.Honest.Links.{Erases}
use Rattle.sl_cut.proofs.Honest.Found.{Laws, found-at, choices-at}
use Rattle.sl_cut.proofs.Honest.Follow.{honest-run}
use Rattle.sl_cut.proofs.hostile_laws.hostile_turns_change_no_finding.Goals as goal

laws : ((net : Net) → IsNet net → IsWired net) → PassesMessages → TakesTurns → ((s : Setup) → IsNet s.net → AreReported s) → Erases
    → (s : Setup) (lost : Losses) → IsNet s.net → IsLossTable s.net lost → Laws s lost
laws wired passes turns reported erases s lost n spares = record { wired = wired s.net n; spares = spares; passes = passes; turns = turns; reported = reported s n; erases = erases }

pub returns-clause-steps : goal.returns-clause-steps
returns-clause-steps c = λ s lost es a n spares.
    let f = c.forged_frames_change_nothing.ensures in
    let erases : Erases = record { id = f.id; last = f.last; packets = f.packets; bytes = f.bytes; bad = f.bad; expired = f.expired; noroute = f.noroute; value = f.value; cause = f.cause; lag = f.lag } in
    let l = laws c.nets_are_wired.ensures c.links_pass_messages.ensures c.worlds_take_turns.ensures c.known_steps_are_made.ensures erases s lost n spares in
    choices-at s lost (world s lost es) (world s lost es) (world (honest_setup s) lost (honest_entries s lost es)) (honest-run s lost l es).at a

pub returns-clause-findings : goal.returns-clause-findings
returns-clause-findings c = λ s lost es n spares.
    let f = c.forged_frames_change_nothing.ensures in
    let erases : Erases = record { id = f.id; last = f.last; packets = f.packets; bytes = f.bytes; bad = f.bad; expired = f.expired; noroute = f.noroute; value = f.value; cause = f.cause; lag = f.lag } in
    let l = laws c.nets_are_wired.ensures c.links_pass_messages.ensures c.worlds_take_turns.ensures c.known_steps_are_made.ensures erases s lost n spares in
    let late = c.channel_values_are_late_data.ensures in
    found-at s lost (world s lost es) (world s lost es) (world (honest_setup s) lost (honest_entries s lost es)) l (honest-run s lost l es).at
    (λ k link d. late (honest_setup s) lost (honest_entries s lost es) k link n d) (λ k link d. late s lost es k link n d)

pub returns-clause-legal : goal.returns-clause-legal
returns-clause-legal c = λ s lost es n spares.
    let f = c.forged_frames_change_nothing.ensures in
    let erases : Erases = record { id = f.id; last = f.last; packets = f.packets; bytes = f.bytes; bad = f.bad; expired = f.expired; noroute = f.noroute; value = f.value; cause = f.cause; lag = f.lag } in
    (honest-run s lost (laws c.nets_are_wired.ensures c.links_pass_messages.ensures c.worlds_take_turns.ensures c.known_steps_are_made.ensures erases s lost n spares) es).legal
