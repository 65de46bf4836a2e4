-- Actors are wired as they are made, and turns keep it.
use Rattle.std.proofs.Common.{◌≡◌, ℕ, zero, suc, ◌+◌, ◌*◌, ◌<◌, ◌≤◌, List, [], ◌∷◌, length, map, get_or, Option, Some, None, sym, refl, ap, ◌∙◌, subst, arith}
use Rattle.std.specs.List.{All}
use Rattle.std.proofs.lemmas.List.{length-append, length-map, get_or-map, same_lists}
use Rattle.sl_machine.specs.Machine.{Counts}
use Rattle.sl_machine.specs.Plan.{Plan, link_at, no_link}
use Rattle.sl_machine.specs.Fit.{Fits}
use Rattle.sl_loss.specs.Loss.{Loss, IsFresh}
use Rattle.sl_link.specs.Ends.{TakeView}
use Rattle.sl_link.specs.declared.ends.Stamped.{Stamped}
use Rattle.sl_actor.specs.Losses.{unasked}
use Rattle.sl_actor.specs.Outs.{OutView}
use Rattle.sl_actor.specs.Follows.{ActorView}
use Rattle.sl_actor.specs.Turns.{KeepsEnds}
use Rattle.sl_actor.specs.Made.{HasEnds, AreTied}
use Rattle.sl_merge.specs.Merging.{entries_by, joined}
use Rattle.sl_merge.specs.RunOfActors.{log_entries, take_at, out_at}
use Rattle.sl_merge.specs.Merged.{AreWired, AreKept, loss_before, losses_before}
use Rattle.sl_merge.proofs.MergedLemmas.{counts_of, in_range, out_by, some_out}

-- what a function makes of an element, where it makes the same of two lists
same_by : {X Y : Type 0} (f : X → Y) (xs ys : List X) (i : ℕ) (d : X) → map f xs ≡ map f ys → i < length xs → f (get_or xs i d) ≡ f (get_or ys i d)
same_by f xs ys i d same low =
    let long : i < length ys = omega (arith, ap length same, length-map xs f, length-map ys f) in
    sym (get_or-map f xs i d (f d) low) ∙ ap (λ l. get_or l i (f d)) same ∙ get_or-map f ys i d (f d) long

same_length : {X Y : Type 0} (f : X → Y) (xs ys : List X) → map f xs ≡ map f ys → length xs ≡ length ys
same_length f xs ys same = sym (length-map xs f) ∙ ap length same ∙ length-map ys f

unasked_fresh : (loss : Option Loss) → IsFresh loss → unasked loss ≡ loss
unasked_fresh None h = refl
unasked_fresh (Some loss) h = λ i. Some (record loss { answered = sym h i })

as_long : (actor : ℕ) (log : List (ℕ × ℕ)) → length (entries_by actor log) ≡ length log
as_long actor log = length-map log (λ p. record { number = p.0; actor = actor; choice = p.1 })

joined_few : (bound n : ℕ) (logs : ℕ → List (ℕ × ℕ)) → ((a : ℕ) → a < n → length (logs a) ≤ bound) → length (joined n logs) ≤ n * bound
joined_few bound zero logs h = omega arith
joined_few bound (suc n) logs h =
    let rest : length (joined n logs) ≤ n * bound = joined_few bound n logs (λ a low. h a (omega arith)) in
    let own : length (logs n) ≤ bound = h n (omega arith) in
    let more : suc n * bound ≡ n * bound + bound = grind arith in
    omega (arith, length-append (joined n logs) (entries_by n (logs n)), as_long n (logs n), rest, own, more)

module _ {S M : Type 0} (plan : Plan) where
  pub made_wired : {A : Type 0} (counts : A → Counts) (machines : List A) (losses : List (Option Loss)) (capacity : ℕ) (actors : List (ActorView S M)) → Fits counts plan machines losses → map (λ a. a.counts) actors ≡ map counts machines → All HasEnds actors
      → AreTied plan.links losses capacity actors → AreWired plan actors
  made_wired counts machines losses capacity actors fit same ends tied =
      record {
        sound = fit.sound;
        counts = counts_of (λ a. a.counts) counts plan actors machines same fit.machines_fit;
        ends = ends;
        one_channel = λ l a b t o low. (tied.tied l None low).channel a b t o;
      }

  pub made_losses : (losses : List (Option Loss)) (capacity : ℕ) (actors : List (ActorView S M)) → AreWired plan actors → AreTied plan.links losses capacity actors → length losses ≡ length plan.links → All IsFresh losses → losses_before plan.links actors ≡ losses
  made_losses losses capacity actors wired tied each fresh =
      same_lists (losses_before plan.links actors) losses (length-map plan.links (loss_before actors) ∙ sym each) (λ k d low.
      let here : k < length plan.links = omega (arith, length-map plan.links (loss_before actors)) in
      let r = in_range plan actors wired k here in
      let e = some_out plan actors wired k here in
      get_or-map (loss_before actors) plan.links k no_link d here
      ∙ ap unasked (out_by (λ o. o.loss) actors (link_at plan.links k) None e.0 e.1 r.from (r.out e.0))
      ∙ (tied.tied k d here).same_loss e.0 e.1
      ∙ unasked_fresh (get_or losses k d) (fresh k d (subst (λ (n : ℕ). k < n) (sym each) here)))

  module _ (old new : List (ActorView S M)) (kept : AreKept old new) (wired : AreWired plan old) where
    same_counts : (i : ℕ) (d : ActorView S M) → i < length new → (get_or new i d).counts ≡ (get_or old i d).counts
    same_counts i d low = same_by (λ a. a.counts) new old i d kept.counts low

    long : {i : ℕ} → i < length new → i < length old
    long {i} low = subst (λ (n : ℕ). i < n) kept.each low

    pub kept_ends : All HasEnds new
    kept_ends i d low =
        let k : KeepsEnds (get_or old i d) (get_or new i d) = kept.ends i d d (long low) in
        let h : HasEnds (get_or old i d) = wired.ends i d (long low) in
        record {
          takes = same_length (λ e. e.channel) (get_or new i d).takes (get_or old i d).takes k.takes ∙ h.takes ∙ ap (λ (n : Counts). n.ins) (sym (same_counts i d low));
          outs = same_length (λ o. o.put.channel) (get_or new i d).outs (get_or old i d).outs k.outs ∙ h.outs ∙ ap (λ (n : Counts). n.outs) (sym (same_counts i d low));
        }

    same_take : (l : ℕ) (a : ActorView S M) (t : TakeView (Stamped M)) → l < length plan.links → (take_at old (link_at plan.links l) a t).channel ≡ (take_at new (link_at plan.links l) a t).channel
    same_take l a t low =
        let r = in_range plan old wired l low in
        let k : KeepsEnds (get_or old (link_at plan.links l).to a) (get_or new (link_at plan.links l).to a) = kept.ends (link_at plan.links l).to a a r.to in
        same_by (λ e. e.channel) (get_or old (link_at plan.links l).to a).takes (get_or new (link_at plan.links l).to a).takes (link_at plan.links l).choice t (sym k.takes) (r.choice a)

    out_kept : (l : ℕ) (b : ActorView S M) (o : OutView M) {X : Type 0} (f : OutView M → X) → l < length plan.links
        → ((i : ℕ) (d : ActorView S M) → i < length old → map f (get_or new i d).outs ≡ map f (get_or old i d).outs) → f (out_at old (link_at plan.links l) b o) ≡ f (out_at new (link_at plan.links l) b o)
    out_kept l b o f low same =
        let r = in_range plan old wired l low in
        same_by f (get_or old (link_at plan.links l).from b).outs (get_or new (link_at plan.links l).from b).outs (link_at plan.links l).out o (sym (same (link_at plan.links l).from b r.from)) (r.out b)

    pub kept_wired : AreWired plan new
    kept_wired = record {
      sound = wired.sound;
      counts = counts_of (λ a. a.counts) (λ a. a.counts) plan new old kept.counts wired.counts;
      ends = kept_ends;
      one_channel = λ l a b t o low.
          sym (same_take l a t low) ∙ wired.one_channel l a b t o low ∙ out_kept l b o (λ x. x.put.channel) low (λ i d here. (kept.ends i d d here).outs);
    }

    pub kept_losses : losses_before plan.links new ≡ losses_before plan.links old
    kept_losses =
        same_lists (losses_before plan.links new) (losses_before plan.links old) (length-map plan.links (loss_before new) ∙ sym (length-map plan.links (loss_before old))) (λ k d low.
        let here : k < length plan.links = omega (arith, length-map plan.links (loss_before new)) in
        let r = in_range plan new kept_wired k here in
        let q = in_range plan old wired k here in
        let e = some_out plan old wired k here in
        get_or-map (loss_before new) plan.links k no_link d here
        ∙ ap unasked (out_by (λ o. o.loss) new (link_at plan.links k) None e.0 e.1 r.from (r.out e.0))
        ∙ sym (out_kept k e.0 e.1 (λ x. unasked x.loss) here (λ i d here. (kept.ends i d d here).losses))
        ∙ ap unasked (sym (out_by (λ o. o.loss) old (link_at plan.links k) None e.0 e.1 q.from (q.out e.0)))
        ∙ sym (get_or-map (loss_before old) plan.links k no_link d here))

module _ {S M : Type 0} where
  log_few : (bound : ℕ) (actors : List (ActorView S M)) (a : ℕ) → a < length actors → All (λ (x : ActorView S M). length x.log ≤ bound) actors → length (get_or (map (λ (x : ActorView S M). x.log) actors) a []) ≤ bound
  log_few bound [] a low all = absurd (omega arith)
  log_few bound (x ∷ xs) a low all = subst (λ (l : List (ℕ × ℕ)). length l ≤ bound) (sym (get_or-map (λ (x : ActorView S M). x.log) (x ∷ xs) a x [] low)) (all a x low)

  pub logs_few : (bound : ℕ) (actors : List (ActorView S M)) → All (λ (x : ActorView S M). length x.log ≤ bound) actors → length (log_entries actors) ≤ length actors * bound
  logs_few bound actors all = joined_few bound (length actors) (λ a. get_or (map (λ (x : ActorView S M). x.log) actors) a []) (λ a low. log_few bound actors a low all)
