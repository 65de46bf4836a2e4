-- Trusted text.
-- The bound on the turns of a whole run that do something.
use Rattle.std.specs.Prelude.{ℕ, ◌+◌, ◌*◌, Bool, true, false, ◌&&◌, length, ◌==◌}
use Rattle.sl_layout.specs.declared.actor.ActorId.{ActorId}
use Rattle.sl_layout.specs.declared.actor.ActorId.TheVariants.{Control}
use Rattle.sl_layout.specs.declared.actor.Sort.{Sort}
use Rattle.sl_layout.specs.declared.actor.Sort.TheVariants.{Cable, Crossbar, Init}
use Rattle.sl_net.specs.declared.input.Script1.{Script1}
use Rattle.sl_net.specs.declared.input.Script1.TheVariants.{Pass, Choice}
use Rattle.sl_layout.specs.Net.{Net, actor_of, link_of, link_numbers, same_sort, action_choice, units}
use Rattle.sl_net.specs.Input.{Input}
use Rattle.sl_model.specs.Words.{tally, weigh}
use Rattle.sl_model.specs.Setup.{Setup, setup_of}

-- D devices, U units, I ingress units, X crossbar links, Y cable links, C the count, T the retries, P the packets and raw frames, S the sweeps of the script
abbrev pub bound : ℕ → ℕ → ℕ → ℕ → ℕ → ℕ → ℕ → ℕ → ℕ → ℕ
bound D U I X Y C T P S = let Z = I + X + Y in let G = 2 * C + T + 2 in
    (C + T) * (1 + D + Z) + P * (2 * D + 2) + C * Z + 3 * (C * Z + 16 * S + G * U) + S + G * D

abbrev pub links_of_sort : Net → Sort → ℕ
links_of_sort net sort = tally (λ l. same_sort (link_of net l).sort sort) (link_numbers net)

-- the packets and raw frames of all hosts
abbrev pub frame_count : Setup → ℕ
frame_count s = weigh (λ f. f.count) s.flows + length s.raws

-- each ingress unit has one link of initiations
abbrev pub bound_of : Setup → ℕ → ℕ
bound_of s sweeps = bound (length s.net.parts.devices) (length (units s.net)) (links_of_sort s.net Init) (links_of_sort s.net Crossbar) (links_of_sort s.net Cable)
    s.count s.retries (frame_count s) sweeps

abbrev pub is_control : ActorId → Bool
is_control (Control d) = true
is_control _ = false

abbrev pub is_sweep : Net → Script1 → Bool
is_sweep net (Pass n) = false
is_sweep net (Choice actor choice) = is_control (actor_of net actor) && (choice == action_choice net actor)

abbrev pub input_bound : Input → ℕ
input_bound i = bound_of (setup_of i) (tally (is_sweep i.net) i.script)
