-- What actors need to be merged, and the world that they are merged to.
use Rattle.std.specs.Prelude.{◌≡◌, ◌<◌, ℕ, map, drop, List, [], ◌++◌, length, Option, None, slice_index_or}
use Rattle.std.specs.List.{All}
use Rattle.sl_machine.specs.Plan.{Plan, IsSound, link_at}
use Rattle.sl_machine.specs.Fit.{HasCounts}
use Rattle.sl_machine.specs.declared.wiring.Link.{Link}
use Rattle.sl_loss.specs.Loss.{Loss}
use Rattle.sl_link.specs.Ends.{TakeView}
use Rattle.sl_link.specs.declared.ends.Stamped.{Stamped}
use Rattle.sl_actor.specs.Losses.{unasked}
use Rattle.sl_actor.specs.Outs.{OutView}
use Rattle.sl_actor.specs.Follows.{ActorView}
use Rattle.sl_actor.specs.Turns.{KeepsEnds}
use Rattle.sl_actor.specs.Made.{HasEnds}
use Rattle.sl_world.specs.Scene.{Line, line_at}
use Rattle.sl_merge.specs.RunOfActors.{take_at, out_at}

module _ {S M : Type 0} where
  -- the list put on a link, at its sender, and the list taken from it, at its receiver
  abbrev pub list_put : List (ActorView S M) → Link → List (Stamped M)
  list_put actors link = slice_index_or (slice_index_or (map (λ a. map (λ o. o.put.put) a.outs) actors) link.from []) link.out []

  abbrev pub list_taken : List (ActorView S M) → Link → List (Stamped M)
  list_taken actors link = slice_index_or (slice_index_or (map (λ a. map (λ t. t.taken) a.takes) actors) link.to []) link.choice []

  -- what the channel of a link holds: what of the list put lies after the list taken
  abbrev pub left_on : List (ActorView S M) → Link → List (Stamped M)
  left_on actors link = drop (length (list_taken actors link)) (list_put actors link)

  -- the loss of a link before it answered
  abbrev pub loss_before : List (ActorView S M) → Link → Option Loss
  loss_before actors link = unasked (slice_index_or (slice_index_or (map (λ a. map (λ o. o.loss) a.outs) actors) link.from []) link.out None)

  abbrev pub losses_before : List Link → List (ActorView S M) → List (Option Loss)
  losses_before links actors = map (loss_before actors) links

-- Actors that are wired by a sound plan: each has its three numbers and an end for each of its links, and the two ends of
-- each link are of one channel.
pub record AreWired {S M : Type 0} (plan : Plan) (actors : List (ActorView S M)) : Type 0 where
  pub sound : IsSound plan
  pub counts : HasCounts (λ a. a.counts) plan actors
  pub ends : All HasEnds actors
  pub one_channel : (l : ℕ) (a b : ActorView S M) (t : TakeView (Stamped M)) (o : OutView M) → l < length plan.links
      → (take_at actors (link_at plan.links l) a t).channel ≡ (out_at actors (link_at plan.links l) b o).put.channel

-- as many actors, with the same numbers and the same ends of links
pub record AreKept {S M : Type 0} (old new : List (ActorView S M)) : Type 0 where
  pub each : length new ≡ length old
  pub counts : map (λ a. a.counts) new ≡ map (λ a. a.counts) old
  pub ends : (i : ℕ) (a b : ActorView S M) → i < length old → KeepsEnds (slice_index_or old i a) (slice_index_or new i b)

-- on each link is what its channel holds and then its outbox, and its loss and its count of lost puts are those of its sender
pub record AreLeft {S M : Type 0} (links : List Link) (actors : List (ActorView S M)) (lines : List (Line M)) : Type 0 where
  pub each : length lines ≡ length links
  pub queue : (l : ℕ) (b : ActorView S M) (o : OutView M) → l < length links
      → (line_at lines l).queue ≡ map (λ s. s.m) (left_on actors (link_at links l) ++ (out_at actors (link_at links l) b o).outbox)
  pub loss : (l : ℕ) (b : ActorView S M) (o : OutView M) → l < length links → (line_at lines l).loss ≡ (out_at actors (link_at links l) b o).loss
  pub lost : (l : ℕ) (b : ActorView S M) (o : OutView M) → l < length links → (line_at lines l).lost ≡ (out_at actors (link_at links l) b o).lost
