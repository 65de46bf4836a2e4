-- Actors that have ended, in the words of what they hold, and the run that the merge of their logs is.
use Rattle.std.specs.Prelude.{◌≡◌, ◌<◌, ℕ, map, List, [], ◌++◌, length, Option, Some, None, slice_index, slice_index_or}
use Rattle.sl_machine.specs.Machine.{Rules}
use Rattle.sl_machine.specs.Plan.{Plan, IsSound, link_at}
use Rattle.sl_machine.specs.declared.wiring.Link.{Link}
use Rattle.sl_machine.specs.declared.wiring.Entry.{Entry}
use Rattle.sl_loss.specs.Loss.{Loss}
use Rattle.sl_link.specs.Ends.{TakeView}
use Rattle.sl_link.specs.declared.ends.Stamped.{Stamped}
use Rattle.sl_actor.specs.Losses.{unasked}
use Rattle.sl_actor.specs.Outs.{OutView}
use Rattle.sl_actor.specs.Follows.{ActorView}
use Rattle.sl_actor.specs.Made.{EachFollows}
use Rattle.sl_world.specs.Scene.{Scene, first_scene, line_at, lines_with, run_of, schedule_of}
use Rattle.sl_merge.specs.Lamport.{IsNumbered, AreLow}
use Rattle.sl_merge.specs.Merging.{joined, IsMerge}

module _ {S M : Type 0} where
  -- the end of a link at its receiver, and that at its sender
  abbrev pub take_at : List (ActorView S M) → Link → ActorView S M → TakeView (Stamped M) → TakeView (Stamped M)
  take_at actors link a t = slice_index_or (slice_index_or actors link.to a).takes link.choice t

  abbrev pub out_at : List (ActorView S M) → Link → ActorView S M → OutView M → OutView M
  out_at actors link a o = slice_index_or (slice_index_or actors link.from a).outs link.out o

  -- the entries of all logs
  abbrev pub log_entries : List (ActorView S M) → List Entry
  log_entries actors = joined (length actors) (λ a. slice_index_or (map (λ x. x.log) actors) a [])

-- how the actors are joined, the loss of each link before anything was put, the state of each machine at first, the actors,
-- and for each link what it held when its two ends met
pub record EndedActors (S M : Type 0) : Type 0 where
  pub plan : Plan
  pub losses : List (Option Loss)
  pub firsts : List S
  pub actors : List (ActorView S M)
  pub held : ℕ → List (Stamped M)

-- Each actor follows the machine of its place and has an end for each of its links; the losses are those of the links
-- before they answered; and of each link the list put is the list taken and then what it held.
pub record HaveMet {S M : Type 0} (rules : Rules S M) (e : EndedActors S M) : Type 0 where
  pub sound : IsSound e.plan
  pub losses_each : length e.losses ≡ length e.plan.links
  pub firsts_each : length e.firsts ≡ length e.plan.ins
  pub actors_each : length e.actors ≡ length e.plan.ins
  pub follows : EachFollows rules e.firsts e.actors
  pub takes_each : (a : ℕ) (x : ActorView S M) → a < length e.plan.ins → length (slice_index_or e.actors a x).takes ≡ slice_index e.plan.ins a
  pub outs_each : (a : ℕ) (x : ActorView S M) → a < length e.plan.ins → length (slice_index_or e.actors a x).outs ≡ slice_index e.plan.outs a
  pub same_loss : (l : ℕ) (b : ActorView S M) (o : OutView M) → l < length e.plan.links
      → unasked (out_at e.actors (link_at e.plan.links l) b o).loss ≡ slice_index_or e.losses l None
  pub met : (l : ℕ) (a b : ActorView S M) (t : TakeView (Stamped M)) (o : OutView M) → l < length e.plan.links
      → (out_at e.actors (link_at e.plan.links l) b o).put.put ≡ (take_at e.actors (link_at e.plan.links l) a t).taken ++ e.held l

-- The book's schedule is legal, from a world where nothing has happened. It leaves each machine as its actor has it and on
-- each link what the link held and then its outbox, with its loss and its count of lost puts. The book's numbers are the
-- Lamport numbers of the schedule, and none is above the number of entries.
pub record IsRunOf {S M : Type 0} (rules : Rules S M) (e : EndedActors S M) (book : List Entry) : Type 0 where
  pub world : Scene S M
  pub run : run_of rules (first_scene e.plan e.firsts e.losses) (schedule_of book) ≡ Some world
  pub states : world.states ≡ map (λ a. a.state) e.actors
  pub lines : length world.lines ≡ length e.plan.links
  pub queues : (l : ℕ) (b : ActorView S M) (o : OutView M) → l < length e.plan.links
      → (line_at world.lines l).queue ≡ map (λ s. s.m) (e.held l ++ (out_at e.actors (link_at e.plan.links l) b o).outbox)
  pub answered : (l : ℕ) (b : ActorView S M) (o : OutView M) → l < length e.plan.links
      → (line_at world.lines l).loss ≡ (out_at e.actors (link_at e.plan.links l) b o).loss
  pub counted : (l : ℕ) (b : ActorView S M) (o : OutView M) → l < length e.plan.links
      → (line_at world.lines l).lost ≡ (out_at e.actors (link_at e.plan.links l) b o).lost
  pub numbers : IsNumbered rules e.plan e.firsts e.losses book
  pub small : AreLow book

-- the book is a merge of their logs
abbrev pub IsMergeOf : {S M : Type 0} → EndedActors S M → List Entry → Type 0
IsMergeOf e book = IsMerge (log_entries e.actors) book

-- for each link its loss, how many puts it lost, and messages
pub record LeftOnLinks (M : Type 0) : Type 0 where
  pub losses : List (Option Loss)
  pub lost : List ℕ
  pub messages : List (List M)

-- the loss of each link and its count are those of now, and the messages are those that the link held and then its outbox
pub record AreLeftOnLinks {S M : Type 0} (e : EndedActors S M) (r : LeftOnLinks M) : Type 0 where
  pub losses_each : length r.losses ≡ length e.plan.links
  pub lost_each : length r.lost ≡ length e.plan.links
  pub messages_each : length r.messages ≡ length e.plan.links
  pub losses_are : (l : ℕ) (b : ActorView S M) (o : OutView M) → l < length e.plan.links
      → slice_index_or r.losses l None ≡ (out_at e.actors (link_at e.plan.links l) b o).loss
  pub lost_are : (l : ℕ) (b : ActorView S M) (o : OutView M) → l < length e.plan.links
      → slice_index_or r.lost l 0 ≡ (out_at e.actors (link_at e.plan.links l) b o).lost
  pub messages_are : (l : ℕ) (b : ActorView S M) (o : OutView M) → l < length e.plan.links
      → slice_index_or r.messages l [] ≡ map (λ s. s.m) (e.held l ++ (out_at e.actors (link_at e.plan.links l) b o).outbox)

-- what a world that goes on from these actors has, with this book
abbrev pub resumed : {S M : Type 0} → EndedActors S M → LeftOnLinks M → List Entry → Scene S M
resumed e r book =
    record { plan = e.plan; states = map (λ a. a.state) e.actors; lines = lines_with r.losses r.lost r.messages; book = book }

-- a world is, but for the numbers of its book, the one to which the schedule of its book leads from where nothing has happened
pub record StandsAsRun {S M : Type 0} (rules : Rules S M) (plan : Plan) (firsts : List S) (losses : List (Option Loss)) (v : Scene S M) : Type 0 where
  pub world : Scene S M
  pub run : run_of rules (first_scene plan firsts losses) (schedule_of v.book) ≡ Some world
  pub same : v ≡ record world { book = v.book }
