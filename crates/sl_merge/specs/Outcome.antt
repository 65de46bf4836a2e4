-- What actors leave when all have ended, and the run that the merge of their logs is.
use Rattle.std.specs.Prelude.{◌≡◌, ◌<◌, ℕ, map, List, ◌++◌, length, Option, Some, None, slice_get, slice_index, slice_index_or}
use Rattle.sl_machine.specs.Machine.{Rules}
use Rattle.sl_machine.specs.Plan.{Plan, IsSound, link_at}
use Rattle.sl_machine.specs.declared.wiring.Entry.{Entry}
use Rattle.sl_loss.specs.Loss.{Loss}
use Rattle.sl_link.specs.declared.ends.Stamped.{Stamped}
use Rattle.sl_actor.specs.Histories.{Step, IsHistory, last_state, put_on, taken_by, AreChosen, numbered, entries_of}
use Rattle.sl_actor.specs.Losses.{kept, loss_after, lost_after}
use Rattle.sl_world.specs.Scene.{Scene, first_scene, line_at, run_of, schedule_of}
use Rattle.sl_merge.specs.Lamport.{IsNumbered, AreLow}
use Rattle.sl_merge.specs.Merging.{joined}

-- how the actors are joined and the loss of each link, the state of each machine at first and at last, each actor's
-- history, and for each link the messages that are left on it
pub record Outcome (S M : Type 0) : Type 0 where
  pub plan : Plan
  pub losses : List (Option Loss)
  pub firsts : List S
  pub lasts : List S
  pub histories : ℕ → List (Step (S × ℕ) (Stamped M))
  pub left : ℕ → List (Stamped M)

-- the loss of a link before anything was put
abbrev pub loss_at : {S M : Type 0} → Outcome S M → ℕ → Option Loss
loss_at o l = slice_index_or o.losses l None

-- what its sender put on a link, lost or not, and what its receiver took from it
abbrev pub put_at : {S M : Type 0} → Outcome S M → ℕ → List (Stamped M)
put_at o l = put_on (link_at o.plan.links l).out (o.histories (link_at o.plan.links l).from)

abbrev pub taken_at : {S M : Type 0} → Outcome S M → ℕ → List (Stamped M)
taken_at o l = taken_by (link_at o.plan.links l).choice (o.histories (link_at o.plan.links l).to)

-- the entries of all logs
abbrev pub all_entries : {S M : Type 0} → Outcome S M → List Entry
all_entries o = joined (length o.plan.ins) (λ a. entries_of (o.histories a))

-- Each actor followed its first machine to its last by its history; and what was taken from a link, and then what is left
-- on it, is what was put on it and not lost.
pub record AreFollowed {S M : Type 0} (rules : Rules S M) (o : Outcome S M) : Type 0 where
  pub sound : IsSound o.plan
  pub losses_each : length o.losses ≡ length o.plan.links
  pub firsts_each : length o.firsts ≡ length o.plan.ins
  pub lasts_each : length o.lasts ≡ length o.plan.ins
  pub runs : (a : ℕ) (s : S) → slice_get o.firsts a ≡ Some s → IsHistory (numbered rules) (s, 0) (o.histories a)
  pub ends : (a : ℕ) (s t : S) → slice_get o.firsts a ≡ Some s → slice_get o.lasts a ≡ Some t → (last_state (s, 0) (o.histories a)).0 ≡ t
  pub chosen : (a : ℕ) → a < length o.plan.ins → AreChosen (slice_index o.plan.ins a) (o.histories a)
  pub tied : (l : ℕ) → l < length o.plan.links → taken_at o l ++ o.left l ≡ kept (loss_at o l) (put_at o l)

-- The book's schedule is legal, from a world where nothing has happened. It leaves each machine as its actor left it and on
-- each link what is left; each loss has answered once for each put, and the lost ones are counted. The book's numbers are
-- the Lamport numbers of the schedule, and none is above the number of entries.
pub record IsRun {S M : Type 0} (rules : Rules S M) (o : Outcome S M) (book : List Entry) : Type 0 where
  pub world : Scene S M
  pub run : run_of rules (first_scene o.plan o.firsts o.losses) (schedule_of book) ≡ Some world
  pub states : world.states ≡ o.lasts
  pub lines : length world.lines ≡ length o.plan.links
  pub queues : (l : ℕ) → l < length o.plan.links → (line_at world.lines l).queue ≡ map (λ s. s.m) (o.left l)
  pub answered : (l : ℕ) → l < length o.plan.links → (line_at world.lines l).loss ≡ loss_after (loss_at o l) (put_at o l)
  pub counted : (l : ℕ) → l < length o.plan.links → (line_at world.lines l).lost ≡ lost_after (loss_at o l) 0 (put_at o l)
  pub numbers : IsNumbered rules o.plan o.firsts o.losses book
  pub small : AreLow book
