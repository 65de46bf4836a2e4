-- What actors hold, taken apart, and what is left on links whose two ends have met.
use Rattle.std.specs.Prelude.{◌≡◌, ◌<◌, ℕ, map, drop, List, [], ◌∷◌, ◌++◌, length, Option, Some, None, slice_index_or, slice_set}
use Rattle.sl_machine.specs.Plan.{link_at, link_in, link_out}
use Rattle.sl_machine.specs.declared.wiring.Link.{Link}
use Rattle.sl_loss.specs.Loss.{Loss}
use Rattle.sl_link.specs.Ends.{TakeView}
use Rattle.sl_link.specs.declared.ends.Stamped.{Stamped}
use Rattle.sl_actor.specs.declared.part.OutPart.{OutPart}
use Rattle.sl_actor.specs.Rows.{place_at}
use Rattle.sl_merge.specs.RunOfActors.{LeftOnLinks}

-- a place of a row made empty
abbrev pub empty_at : {X : Type 0} → ℕ → ℕ → List (List (Option X)) → List (List (Option X))
empty_at row place rows = slice_set rows row (slice_set (slice_index_or rows row []) place None)

-- no two links share a place at their senders or at their receivers
pub record AreApart (links : List Link) : Type 0 where
  pub once_out : (l : ℕ) → l < length links → link_out links (link_at links l).from (link_at links l).out ≡ l
  pub once_in : (l : ℕ) → l < length links → link_in links (link_at links l).to (link_at links l).choice ≡ l

-- the two ends of a link are at their places, and of one channel
pub record IsThere {M : Type 0} (link : Link) (takes : List (List (Option (TakeView (Stamped M))))) (outs : List (List (Option (OutPart M)))) : Type 0 where
  pub end : TakeView (Stamped M)
  pub part : OutPart M
  pub end_at : place_at takes link.to link.choice ≡ Some end
  pub part_at : place_at outs link.from link.out ≡ Some part
  pub one_channel : end.channel ≡ part.put.channel

-- so of each link
abbrev pub AreThere : {M : Type 0} → List Link → List (List (Option (TakeView (Stamped M)))) → List (List (Option (OutPart M))) → Type 0
AreThere links takes outs = (l : ℕ) → l < length links → IsThere (link_at links l) takes outs

-- what was put on a link and not taken, and then its outbox
abbrev pub rest_of : {M : Type 0} → TakeView (Stamped M) → OutPart M → List M
rest_of end part = map (λ s. s.m) (drop (length end.taken) part.put.put ++ part.outbox.items)

-- this is the rest of a link whose two ends were at these places
pub record IsRestOf {M : Type 0} (link : Link) (takes : List (List (Option (TakeView (Stamped M))))) (outs : List (List (Option (OutPart M)))) (loss : Option Loss) (lost : ℕ) (messages : List M) : Type 0 where
  pub end : TakeView (Stamped M)
  pub part : OutPart M
  pub end_at : place_at takes link.to link.choice ≡ Some end
  pub part_at : place_at outs link.from link.out ≡ Some part
  pub met : part.put.put ≡ end.taken ++ drop (length end.taken) part.put.put
  pub loss_is : loss ≡ part.loss
  pub lost_is : lost ≡ part.lost
  pub messages_are : messages ≡ rest_of end part

-- so of the first n links
pub record AreLeftOnLinksOf {M : Type 0} (links : List Link) (n : ℕ) (takes : List (List (Option (TakeView (Stamped M))))) (outs : List (List (Option (OutPart M)))) (r : LeftOnLinks M) : Type 0 where
  pub losses_each : length r.losses ≡ n
  pub lost_each : length r.lost ≡ n
  pub messages_each : length r.messages ≡ n
  pub rests : (l : ℕ) → l < n → IsRestOf (link_at links l) takes outs (slice_index_or r.losses l None) (slice_index_or r.lost l 0) (slice_index_or r.messages l [])

-- the rests of one more link
pub record IsAdded {M : Type 0} (end : TakeView (Stamped M)) (part : OutPart M) (old new : LeftOnLinks M) : Type 0 where
  pub met : part.put.put ≡ end.taken ++ drop (length end.taken) part.put.put
  pub losses : new.losses ≡ old.losses ++ part.loss ∷ []
  pub lost : new.lost ≡ old.lost ++ part.lost ∷ []
  pub messages : new.messages ≡ old.messages ++ rest_of end part ∷ []
