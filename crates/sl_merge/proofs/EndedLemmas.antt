-- Actors that have ended leave histories that meet on the links.
use Rattle.std.proofs.Common.{◌≡◌, ℕ, zero, suc, ◌<◌, List, [], ◌++◌, length, map, get_or, slice_get, Option, Some, None, sym, refl, ap, ap₂, ◌∙◌, subst, arith, append_assoc}
use Rattle.std.specs.Prelude.{slice_index}
use Rattle.std.specs.Option.{option_map}
use Rattle.std.specs.List.Sorted.{IsNonDecreasingBy}
use Rattle.std.proofs.lemmas.List.{length-map, get_or-map}
use Rattle.std.proofs.lemmas.Option.{slice_get-map, slice_get_within, same_Some, get_or_from_slice_get}
use Rattle.sl_machine.specs.Machine.{Rules}
use Rattle.sl_machine.specs.Plan.{link_at}
use Rattle.sl_machine.specs.declared.wiring.Link.{Link}
use Rattle.sl_machine.specs.declared.wiring.Entry.{Entry}
use Rattle.sl_loss.specs.Loss.{Loss}
use Rattle.sl_link.specs.Ends.{TakeView}
use Rattle.sl_link.specs.declared.ends.Stamped.{Stamped}
use Rattle.sl_actor.specs.Histories.{Step, IsHistory, last_state, put_on, taken_by, AreChosen, numbered, entries_of}
use Rattle.sl_actor.specs.Losses.{kept, loss_after, lost_after}
use Rattle.sl_actor.specs.Outs.{OutView, IsGiven}
use Rattle.sl_actor.specs.Follows.{ActorView, Follows}
use Rattle.sl_merge.specs.Merging.{entries_by, joined, IsMerge, AreLogs}
use Rattle.sl_merge.specs.Outcome.{Outcome, AreFollowed, IsRun, all_entries}
use Rattle.sl_merge.specs.RunOfActors.{EndedActors, HaveMet, IsRunOf, take_at, out_at, log_entries}
use Rattle.sl_merge.proofs.GetLemmas.{some_at}
use Rattle.sl_merge.proofs.MergeLemmas.{logs_rise, merge_is_run}
use Rattle.sl_merge.proofs.CountLemmas.{AreStrict}
use Rattle.sl_merge.proofs.LogLemmas.{joined_logs, in_order}

joined_same : (n : ℕ) (f g : ℕ → List (ℕ × ℕ)) → ((a : ℕ) → a < n → f a ≡ g a) → joined n f ≡ joined n g
joined_same zero f g h = refl
joined_same (suc n) f g h = ap₂ (λ xs ys. xs ++ ys) (joined_same n f g (λ a low. h a (omega arith))) (ap (entries_by n) (h n (omega arith)))

module _ {S M : Type 0} (rules : Rules S M) (all : EndedActors S M) (h : HaveMet rules all) where
  abbrev Steps : Type 0
  Steps = List (Step (S × ℕ) (Stamped M))

  -- what is known of the history of an actor with this view
  record IsHistoryOf (first : S) (v : ActorView S M) (steps : Steps) : Type 0 where
    runs : IsHistory (numbered rules) (first, 0) steps
    ends : last_state (first, 0) steps ≡ (v.state, v.number)
    logged : entries_of steps ≡ v.log
    chosen : AreChosen (length v.takes) steps
    taken : (c : ℕ) (d : TakeView (Stamped M)) → c < length v.takes → (get_or v.takes c d).taken ≡ taken_by c steps
    given : (o : ℕ) (d : OutView M) → o < length v.outs → IsGiven (get_or v.outs o d) (put_on o steps)

  abbrev Own : ℕ → Steps → Type 0
  Own a steps = (s : S) (v : ActorView S M) → slice_get all.firsts a ≡ Some s → slice_get all.actors a ≡ Some v → IsHistoryOf s v steps

  own_by : (a : ℕ) (o : Option S) (p : Option (ActorView S M)) → slice_get all.firsts a ≡ o → slice_get all.actors a ≡ p → (steps : Steps) × Own a steps
  own_by a None p e f = ([], λ s v e' f'. absurd (let is : None ≡ Some s = sym e ∙ e' in cc))
  own_by a (Some s) None e f = ([], λ s v e' f'. absurd (let is : None ≡ Some v = sym f ∙ f' in cc))
  own_by a (Some s) (Some v) e f =
      let low : a < length all.firsts = slice_get_within all.firsts a s e in
      let follows : Follows rules s v = subst (λ (r : S × ActorView S M). Follows rules r.0 r.1) (λ i. (get_or_from_slice_get all.firsts a s s e i, get_or_from_slice_get all.actors a v v f i)) (h.follows a s v low) in (
        follows.history,
        λ s' v' e' f'.
            let first : s ≡ s' = same_Some s s' (sym e ∙ e') in
            let view : v ≡ v' = same_Some v v' (sym f ∙ f') in
            subst (λ (r : S × ActorView S M). IsHistoryOf r.0 r.1 follows.history) (λ i. (first i, view i))
            (record { runs = follows.runs; ends = follows.ends; logged = follows.logged; chosen = follows.chosen; taken = follows.taken; given = follows.given }),
      )

  own : (a : ℕ) → (steps : Steps) × Own a steps
  own a = own_by a (slice_get all.firsts a) (slice_get all.actors a) refl refl

  histories : ℕ → Steps
  histories a = (own a).0

  record Known (a : ℕ) : Type 0 where
    first : S
    view : ActorView S M
    first_is : slice_get all.firsts a ≡ Some first
    view_is : slice_get all.actors a ≡ Some view
    is : IsHistoryOf first view (histories a)

  known : (a : ℕ) → a < length all.plan.ins → Known a
  unfolding histories
  known a low =
      let s = some_at all.firsts a (subst (λ (n : ℕ). a < n) (sym h.firsts_each) low) in
      let v = some_at all.actors a (subst (λ (n : ℕ). a < n) (sym h.actors_each) low) in
      record { first = s.0; view = v.0; first_is = s.1; view_is = v.1; is = (own a).1 s.0 v.0 s.1 v.1 }

  -- the view is the actor
  view_at : (a : ℕ) (low : a < length all.plan.ins) (d : ActorView S M) → get_or all.actors a d ≡ (known a low).view
  view_at a low d = get_or_from_slice_get all.actors a (known a low).view d (known a low).view_is

  takes_long : (a : ℕ) (low : a < length all.plan.ins) → length (known a low).view.takes ≡ slice_index all.plan.ins a
  takes_long a low = subst (λ (v : ActorView S M). length v.takes ≡ slice_index all.plan.ins a) (view_at a low (known a low).view) (h.takes_each a (known a low).view low)

  outs_long : (a : ℕ) (low : a < length all.plan.ins) → length (known a low).view.outs ≡ slice_index all.plan.outs a
  outs_long a low = subst (λ (v : ActorView S M). length v.outs ≡ slice_index all.plan.outs a) (view_at a low (known a low).view) (h.outs_each a (known a low).view low)

  -- what is known of the two ends of a link
  taken_there : (l : ℕ) → l < length all.plan.links → (a : ActorView S M) (t : TakeView (Stamped M)) → (take_at all.actors (link_at all.plan.links l) a t).taken ≡ taken_by (link_at all.plan.links l).choice (histories (link_at all.plan.links l).to)
  taken_there l low a t =
      let k : Link = link_at all.plan.links l in
      let to : k.to < length all.plan.ins = h.sound.to_below l low in
      let choice : k.choice < length (known k.to to).view.takes = subst (λ (n : ℕ). k.choice < n) (sym (takes_long k.to to)) (h.sound.choice_below l low) in
      ap (λ (v : ActorView S M). (get_or v.takes k.choice t).taken) (view_at k.to to a) ∙ (known k.to to).is.taken k.choice t choice

  given_there : (l : ℕ) → l < length all.plan.links → (b : ActorView S M) (o : OutView M) → IsGiven (out_at all.actors (link_at all.plan.links l) b o) (put_on (link_at all.plan.links l).out (histories (link_at all.plan.links l).from))
  given_there l low b o =
      let k : Link = link_at all.plan.links l in
      let from : k.from < length all.plan.ins = h.sound.from_below l low in
      let out : k.out < length (known k.from from).view.outs = subst (λ (n : ℕ). k.out < n) (sym (outs_long k.from from)) (h.sound.out_below l low) in
      subst (λ (v : ActorView S M). IsGiven (get_or v.outs k.out o) (put_on k.out (histories k.from))) (sym (view_at k.from from b)) ((known k.from from).is.given k.out o out)

  -- each link has an end at an actor
  pub out_end : (l : ℕ) → l < length all.plan.links → ActorView S M × OutView M
  out_end l low =
      let k : Link = link_at all.plan.links l in
      let from : k.from < length all.plan.ins = h.sound.from_below l low in
      let out : k.out < length (known k.from from).view.outs = subst (λ (n : ℕ). k.out < n) (sym (outs_long k.from from)) (h.sound.out_below l low) in
      ((known k.from from).view, (some_at (known k.from from).view.outs k.out out).0)

  -- the outbox of each link
  outbox_at : ℕ → List (Stamped M)
  outbox_at l = get_or (get_or (map (λ (v : ActorView S M). map (λ (x : OutView M). x.outbox) v.outs) all.actors) (link_at all.plan.links l).from []) (link_at all.plan.links l).out []

  outbox_is : (l : ℕ) → l < length all.plan.links → (b : ActorView S M) (o : OutView M) → outbox_at l ≡ (out_at all.actors (link_at all.plan.links l) b o).outbox
  unfolding outbox_at
  outbox_is l low b o =
      let k : Link = link_at all.plan.links l in
      let from : k.from < length all.plan.ins = h.sound.from_below l low in
      let here : k.from < length all.actors = subst (λ (n : ℕ). k.from < n) (sym h.actors_each) from in
      let out : k.out < length (get_or all.actors k.from b).outs = subst (λ (n : ℕ). k.out < n) (sym (h.outs_each k.from b from)) (h.sound.out_below l low) in
      ap (λ (xs : List (List (Stamped M))). get_or xs k.out []) (get_or-map (λ (v : ActorView S M). map (λ (x : OutView M). x.outbox) v.outs) all.actors k.from b [] here)
      ∙ get_or-map (λ (x : OutView M). x.outbox) (get_or all.actors k.from b).outs k.out o [] out

  outcome : Outcome S M
  outcome = record { plan = all.plan; losses = all.losses; firsts = all.firsts; lasts = map (λ v. v.state) all.actors; histories = histories; left = λ l. all.held l ++ outbox_at l }

  -- what was taken from a link, and then what it holds and what waits, is what was put on it and not lost
  flows : (l : ℕ) → l < length all.plan.links → taken_by (link_at all.plan.links l).choice (histories (link_at all.plan.links l).to) ++ (all.held l ++ outbox_at l) ≡ kept (get_or all.losses l None) (put_on (link_at all.plan.links l).out (histories (link_at all.plan.links l).from))
  flows l low =
      let k : Link = link_at all.plan.links l in
      let to : k.to < length all.plan.ins = h.sound.to_below l low in
      let from : k.from < length all.plan.ins = h.sound.from_below l low in
      let a : ActorView S M = (known k.to to).view in
      let b : ActorView S M = (known k.from from).view in
      let choice : k.choice < length a.takes = subst (λ (n : ℕ). k.choice < n) (sym (takes_long k.to to)) (h.sound.choice_below l low) in
      let out : k.out < length b.outs = subst (λ (n : ℕ). k.out < n) (sym (outs_long k.from from)) (h.sound.out_below l low) in
      let t : TakeView (Stamped M) = (some_at a.takes k.choice choice).0 in
      let o : OutView M = (some_at b.outs k.out out).0 in
      let x : OutView M = out_at all.actors k b o in
      ap₂ (λ (ts us : List (Stamped M)). ts ++ (all.held l ++ us)) (sym (taken_there l low a t)) (outbox_is l low b o)
      ∙ (sym (append_assoc (take_at all.actors k a t).taken (all.held l) x.outbox)
      ∙ (ap (λ (ps : List (Stamped M)). ps ++ x.outbox) (sym (h.met l a b t o low))
      ∙ ((given_there l low b o).messages ∙ ap (λ (s : Option Loss). kept s (put_on k.out (histories k.from))) (h.same_loss l b o low))))

  followed : AreFollowed rules outcome
  unfolding outcome
  followed = record {
    sound = h.sound;
    losses_each = h.losses_each;
    firsts_each = h.firsts_each;
    lasts_each = length-map all.actors (λ v. v.state) ∙ h.actors_each;
    runs = λ a s here.
        let k = known a (subst (λ (n : ℕ). a < n) h.firsts_each (slice_get_within all.firsts a s here)) in
        subst (λ (x : S). IsHistory (numbered rules) (x, 0) (histories a)) (same_Some k.first s (sym k.first_is ∙ here)) k.is.runs;
    ends = λ a s t here there.
        let k = known a (subst (λ (n : ℕ). a < n) h.firsts_each (slice_get_within all.firsts a s here)) in
        let last : Some k.view.state ≡ Some t = ap (option_map (λ v. v.state)) (sym k.view_is) ∙ (sym (slice_get-map (λ v. v.state) all.actors a) ∙ there) in
        subst (λ (x : S). (last_state (x, 0) (histories a)).0 ≡ t) (same_Some k.first s (sym k.first_is ∙ here)) (ap (λ (x : S × ℕ). x.0) k.is.ends ∙ same_Some k.view.state t last);
    chosen = λ a low. subst (λ (n : ℕ). AreChosen n (histories a)) (takes_long a low) (known a low).is.chosen;
    tied = flows;
  }

  log_is : (a : ℕ) → a < length all.plan.ins → get_or (map (λ x. x.log) all.actors) a [] ≡ entries_of (histories a)
  log_is a low =
      let k = known a low in
      get_or-map (λ (x : ActorView S M). x.log) all.actors a k.view [] (subst (λ (n : ℕ). a < n) (sym h.actors_each) low) ∙ (ap (λ (v : ActorView S M). v.log) (view_at a low k.view) ∙ sym k.is.logged)

  entries_are : log_entries all.actors ≡ all_entries outcome
  unfolding outcome
  entries_are =
      ap (λ (n : ℕ). joined n (λ a. get_or (map (λ x. x.log) all.actors) a [])) h.actors_each
      ∙ joined_same (length all.plan.ins) (λ a. get_or (map (λ x. x.log) all.actors) a []) (λ a. entries_of (histories a)) log_is

  pub ended_is_run : (book : List Entry) → IsMerge (log_entries all.actors) book → IsRunOf rules all book
  unfolding outcome
  ended_is_run book m =
      let r : IsRun rules outcome book = merge_is_run rules outcome book followed (subst (λ (es : List Entry). IsMerge es book) entries_are m) in
      let puts : ℕ → List (Stamped M) = λ l. put_on (link_at all.plan.links l).out (histories (link_at all.plan.links l).from) in
      record {
        world = r.world;
        run = r.run;
        states = r.states;
        lines = r.lines;
        queues = λ l b o low. r.queues l low ∙ ap (λ (us : List (Stamped M)). map (λ s. s.m) (all.held l ++ us)) (outbox_is l low b o);
        answered = λ l b o low. r.answered l low ∙ (ap (λ (s : Option Loss). loss_after s (puts l)) (sym (h.same_loss l b o low)) ∙ sym (given_there l low b o).answered);
        counted = λ l b o low. r.counted l low ∙ (ap (λ (s : Option Loss). lost_after s 0 (puts l)) (sym (h.same_loss l b o low)) ∙ sym (given_there l low b o).counted);
        numbers = r.numbers;
        small = r.small;
      }

  strict : (a : ℕ) → a < length all.plan.ins → AreStrict (entries_of (histories a))
  unfolding outcome
  strict a low = logs_rise rules outcome followed a low

  -- so the numbers of each log rise
  pub ended_rise : (a : ℕ) → a < length all.plan.ins → AreStrict (get_or (map (λ x. x.log) all.actors) a [])
  unfolding outcome
  ended_rise a low = subst AreStrict (sym (log_is a low)) (strict a low)

  -- the entries of all logs are in the order of their actors, and the numbers of each rise
  pub ended_logs : AreLogs (log_entries all.actors)
  unfolding outcome
  ended_logs = subst AreLogs (sym entries_are) (joined_logs (length all.plan.ins) (λ a. entries_of (histories a)) strict)

  pub ended_in_order : IsNonDecreasingBy (λ x. x.actor) (log_entries all.actors)
  unfolding outcome
  ended_in_order = subst (IsNonDecreasingBy (λ x. x.actor)) (sym entries_are) (in_order (length all.plan.ins) (λ a. entries_of (histories a)) strict)
