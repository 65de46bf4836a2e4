-- Trusted text, but for IsLossTable.
-- The world of whole histories, and how an entry of a schedule changes it (Chandy and Lamport 1985: processes, channels and events).
-- An entry is an actor with one of its choices; a schedule is a list of entries, the oldest first.
--     next_step s lost w e    the step that the entry makes, or None where it is idle
--     turn, run, world        the world after an entry, after a schedule, after a schedule from the start
use Rattle.std.specs.Prelude.{ℕ, ◌-◌, ◌≡◌, List, [], ◌∷◌, map, cond, Option, Some, None, slice_get, slice_set, option_map, option_and_then, is_some, IsSome, false}
use Rattle.sl_layout.specs.declared.actor.ActorId.{ActorId}
use Rattle.sl_layout.specs.declared.actor.ActorId.TheVariants.{Observer}
use Rattle.sl_layout.specs.declared.actor.LinkKind.TheVariants.{Reliable}
use Rattle.sl_layout.specs.Net.{Net, link_of, links_into, choice_of, action_choice}
use Rattle.sl_layout.specs.Wiring.{kind_of}
use Rattle.sl_model.specs.declared.message.Message.{Message}
use Rattle.sl_model.specs.declared.message.Put.{Put}
use Rattle.sl_model.specs.declared.message.Step.{Step}
use Rattle.sl_model.specs.History.{History, World, Losses, history, taken, carried_by}
use Rattle.sl_model.specs.Setup.{Setup}
use Rattle.sl_model.specs.Knowledge.{floor}
use Rattle.sl_model.specs.Puts.{puts_of, action}

abbrev pub Entry : Type 0
Entry = ℕ × ℕ

-- a loss table loses nothing on a reliable link
abbrev pub IsLossTable : Net → Losses → Type 0
IsLossTable net lost = (l n : ℕ) → kind_of (link_of net l).sort ≡ Reliable → lost l n ≡ false

abbrev pub start : Net → World
start net = map (λ a. []) net.actors

-- Links.

abbrev pub sender : Net → World → ℕ → History
sender net w l = history w (link_of net l).from

abbrev pub receiver : Net → World → ℕ → History
receiver net w l = history w (link_of net l).to

-- what was put on a link and is not lost
abbrev pub carried : Net → Losses → World → ℕ → List Message
carried net lost w l = carried_by lost l (sender net w l)

-- how many messages of a link its receiver, with this history, took
abbrev pub taken_by : Net → ℕ → History → ℕ
taken_by net l h = taken (choice_of net l) h

-- the message that the actor a would take next by the choice c of the link l
abbrev pub front : Net → Losses → World → ℕ → ℕ → ℕ → Option Message
front net lost w a c l = slice_get (carried net lost w l) (taken c (history w a))

-- Steps.

abbrev pub taking : ℕ → Message → List Put → Step
taking c m ps = record { choice = c; taken = Some m; puts = ps }

abbrev pub acting : ℕ → List Put → Step
acting c ps = record { choice = c; taken = None; puts = ps }

-- the floor, at which the observer alone looks
abbrev pub floor_for : Net → World → ActorId → ℕ
floor_for net w Observer = floor net w
floor_for net w _ = 0

-- the step of a choice of the link, or of an own action where it is the choice of none
abbrev pub step_by : Setup → Losses → World → ℕ → ℕ → Option ℕ → ActorId → Option Step
step_by s lost w a c (Some l) actor = option_map (λ m. taking c m (puts_of s a actor (history w a) c l m)) (front s.net lost w a c l)
step_by s lost w a c None actor = option_map (acting c) (action s (floor_for s.net w actor) a actor (history w a) (c - action_choice s.net a))

-- an actor's number past the last actor has no step
abbrev pub next_step : Setup → Losses → World → Entry → Option Step
next_step s lost w e = option_and_then (step_by s lost w e.0 e.1 (slice_get (links_into s.net e.0) e.1)) (slice_get s.net.actors e.0)

abbrev pub after : World → ℕ → Option Step → World
after w a None = w
after w a (Some step) = slice_set w a (step ∷ history w a)

abbrev pub turn : Setup → Losses → World → Entry → World
turn s lost w e = after w e.0 (next_step s lost w e)

abbrev pub run : Setup → Losses → World → List Entry → World
run s lost w [] = w
run s lost w (e ∷ es) = run s lost (turn s lost w e) es

abbrev pub world : Setup → Losses → List Entry → World
world s lost schedule = run s lost (start s.net) schedule

-- no entry is idle
abbrev pub IsLegalFrom : Setup → Losses → World → List Entry → Type 0
IsLegalFrom s lost w [] = Unit {0}
IsLegalFrom s lost w (e ∷ es) = IsSome (next_step s lost w e) × IsLegalFrom s lost (turn s lost w e) es

abbrev pub IsLegal : Setup → Losses → List Entry → Type 0
IsLegal s lost schedule = IsLegalFrom s lost (start s.net) schedule

-- a schedule without its idle entries
abbrev pub kept_from : Setup → Losses → World → List Entry → List Entry
kept_from s lost w [] = []
kept_from s lost w (e ∷ es) = cond (is_some (next_step s lost w e)) (e ∷ kept_from s lost (turn s lost w e) es) (kept_from s lost w es)

abbrev pub kept : Setup → Losses → List Entry → List Entry
kept s lost schedule = kept_from s lost (start s.net) schedule
