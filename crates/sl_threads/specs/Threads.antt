-- Actors that ran, each in a thread of its own.
use Rattle.std.specs.Prelude.{◌≡◌, ◌+◌, ◌<◌, ◌≤◌, ℕ, List, [], length, None, Result, Ok, OnOk, slice_index, slice_index_or}
use Rattle.std.specs.List.{All, Contains}
use Rattle.sl_machine.specs.declared.machine.Memory.{Memory}
use Rattle.sl_machine.specs.Machine.{Rules, Counts, IsChoice}
use Rattle.sl_machine.specs.declared.wiring.Entry.{Entry}
use Rattle.sl_actor.specs.Follows.{ActorView, Follows}
use Rattle.sl_actor.specs.Turns.{KeepsEnds}
use Rattle.sl_actor.specs.Runs.{LogGoesOn, Settled, HasPassed}
use Rattle.sl_actor.specs.declared.run.Rest.{Rest}
use Rattle.sl_actor.specs.declared.run.Rest.TheVariants.{Rested, Spent}

-- what a run of an actor with a plan comes to, of so many steps at most: it rested, or it made all steps, or memory was refused
pub record HasRun {S M : Type 0} (rules : Rules S M) (plan : List ℕ) (steps : ℕ) (old new : ActorView S M) (answer : Result Rest Memory) : Type 0 where
  pub follows : (first : S) → Follows rules first old → Follows rules first new
  pub ends : KeepsEnds old new
  pub counts : new.counts ≡ old.counts
  pub log : LogGoesOn plan old.log new.log
  pub most : OnOk answer (length new.log ≤ length old.log + steps)
  pub spent : answer ≡ Ok Spent → length new.log ≡ length old.log + steps
  pub rested : answer ≡ Ok Rested → All (λ choice. Settled rules choice new) plan

-- an actor whose run rested has passed the gate before each of its first rounds, as many as are to be quiet
abbrev pub PassedAtRest : {G : Type 0} → (G → ℕ → ℕ → Type 0) → G → ℕ → ℕ → Result Rest Memory → Type 0
PassedAtRest passed gate place quiet answer = answer ≡ Ok Rested → HasPassed passed gate place quiet

-- each of the first n actors has passed the gate before each of its first rounds, so many
abbrev pub HavePassed : {G : Type 0} → (G → ℕ → ℕ → Type 0) → G → ℕ → ℕ → Type 0
HavePassed passed gate n rounds = (actor : ℕ) → actor < n → HasPassed passed gate actor rounds

-- there is a plan for each, of choices that each has
pub record ArePlans (counts : List Counts) (plans : List (List ℕ)) : Type 0 where
  pub each : length plans ≡ length counts
  pub choices : (i : ℕ) (n : Counts) → i < length counts → All (IsChoice (slice_index_or counts i n)) (slice_index_or plans i [])

-- each entry has a choice of its actor's plan
abbrev pub ArePlanned : List (List ℕ) → List Entry → Type 0
ArePlanned plans book = All (λ e. Contains (slice_index_or plans e.actor []) e.choice) book

-- the guard of each action of a plan is false
abbrev pub AreAtRest : {S M : Type 0} → Rules S M → List ℕ → List (List ℕ) → List S → Type 0
AreAtRest {S} rules ins plans states =
    (i : ℕ) (s : S) → i < length states → All (λ choice. slice_index ins i ≤ choice → rules.act (slice_index_or states i s) choice ≡ None) (slice_index_or plans i [])
