-- The numbers of the turns of a schedule by the clock of Lamport, "Time, Clocks, and the Ordering of Events in a
-- Distributed System", 1978. A turn's number is one more than the larger of the number of its actor's turn before it and
-- that of the turn that put the message which it took; one that isn't there counts as 0. So a world is run whose machines
-- number their turns and mark each message with the number of the turn that put it.
use Rattle.std.specs.Prelude.{◌≡◌, ◌≤◌, ℕ, List, [], ◌∷◌, length, map, Option, Some, None, slice_get}
use Rattle.std.specs.List.{All}
use Rattle.sl_machine.specs.Machine.{Rules}
use Rattle.sl_machine.specs.Plan.{Plan}
use Rattle.sl_machine.specs.declared.wiring.Entry.{Entry}
use Rattle.sl_loss.specs.Loss.{Loss}
use Rattle.sl_actor.specs.Histories.{numbered}
use Rattle.sl_world.specs.Scene.{Scene, first_scene, after_turn, schedule_of}

-- the time that a clock shows where there is one
abbrev pub time_in : {S : Type 0} → (S → ℕ) → Option S → ℕ
time_in time None = 0
time_in time (Some s) = time s

-- the time that the clock of each entry's actor shows after the entry
abbrev pub times_of : {S M : Type 0} → Rules S M → (S → ℕ) → Scene S M → List (ℕ × ℕ) → List ℕ
times_of rules time w [] = []
times_of rules time w (e ∷ es) = time_in time (slice_get (after_turn rules w e).states e.0) ∷ times_of rules time (after_turn rules w e) es

-- machines that have taken no turn
abbrev pub unnumbered : {S : Type 0} → List S → List (S × ℕ)
unnumbered states = map (λ s. (s, 0)) states

-- the numbers of the entries of a schedule, from a world where nothing has happened
abbrev pub lamport_numbers : {S M : Type 0} → Rules S M → Plan → List S → List (Option Loss) → List (ℕ × ℕ) → List ℕ
lamport_numbers rules plan states losses schedule =
    times_of (numbered rules) (λ s. s.1) (first_scene plan (unnumbered states) losses) schedule

-- the numbers in a book are those of its schedule
abbrev pub IsNumbered : {S M : Type 0} → Rules S M → Plan → List S → List (Option Loss) → List Entry → Type 0
IsNumbered rules plan states losses book = lamport_numbers rules plan states losses (schedule_of book) ≡ map (λ e. e.number) book

-- none is above the number of entries
abbrev pub AreLow : List Entry → Type 0
AreLow book = All (λ e. e.number ≤ length book) book
