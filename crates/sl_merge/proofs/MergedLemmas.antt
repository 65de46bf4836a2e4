-- Actors that are wired by a plan, taken apart and with the ends of their links met, are such as the law of the merge asks for.
use Rattle.std.proofs.Common.{◌≡◌, ℕ, ◌<◌, ◌^◌, List, [], ◌∷◌, ◌++◌, length, map, drop, get_or, Option, Some, None, sym, refl, ap, ap₂, ◌∙◌, subst, arith}
use Rattle.std.specs.Prelude.{slice_index}
use Rattle.std.specs.List.{All}
use Rattle.std.specs.List.Sorted.{IsPermutation}
use Rattle.std.specs.Option.{option_map}
use Rattle.std.proofs.lemmas.List.{length-map, get_or-map}
use Rattle.std.proofs.lemmas.List.Sorted.{length_permutation}
use Rattle.std.proofs.lemmas.Option.{same_Some}
use Rattle.sl_machine.specs.Machine.{Rules, Counts}
use Rattle.sl_machine.specs.Plan.{Plan, link_at, no_link}
use Rattle.sl_machine.specs.Fit.{HasCounts}
use Rattle.sl_machine.specs.declared.wiring.Link.{Link}
use Rattle.sl_machine.specs.declared.wiring.Entry.{Entry}
use Rattle.sl_loss.specs.Loss.{Loss}
use Rattle.sl_link.specs.Ends.{TakeView}
use Rattle.sl_link.specs.declared.ends.Stamped.{Stamped}
use Rattle.sl_actor.specs.declared.part.OutPart.{OutPart}
use Rattle.sl_actor.specs.Losses.{unasked}
use Rattle.sl_actor.specs.Rows.{place_at}
use Rattle.sl_actor.specs.Outs.{OutView, out_view}
use Rattle.sl_actor.specs.Follows.{ActorView}
use Rattle.sl_actor.specs.Made.{EachFollows}
use Rattle.sl_world.specs.Scene.{Scene, lines_with}
use Rattle.sl_world.proofs.ResumeLemmas.{length-lines_with}
use Rattle.sl_world.proofs.TurnLemmas.{some_at}
use Rattle.sl_merge.specs.Lamport.{IsNumbered, AreLow}
use Rattle.sl_merge.specs.Merging.{IsMerge, IsAscending, IsLog, all_entries, joined}
use Rattle.sl_merge.specs.RunOfActors.{EndedActors, HaveMet, IsMergeOf, IsRunOf, LeftOnLinks, AreLeftOnLinks, StandsAsRun, resumed, log_entries, take_at, out_at}
use Rattle.sl_merge.specs.Merged.{AreWired, AreLeft, left_on, loss_before, losses_before}
use Rattle.sl_merge.specs.Parted.{AreApart, AreThere, AreLeftOnLinksOf}
use Rattle.sl_merge.proofs.EndedLemmas.{ended_is_run, ended_rise}
use Rattle.sl_merge.proofs.WindowLemmas.{are_logs}
use Rattle.sl_merge.proofs.ResumedLemmas.{line_with}
use Rattle.sl_merge.proofs.RowLemmas.{Made, made_of, place_of_map}

map_twice : {X Y Z : Type 0} (g : Y → Z) (f : X → Y) (xs : List X) → map g (map f xs) ≡ map (λ x. g (f x)) xs
map_twice g f [] = refl
map_twice g f (x ∷ xs) = ap (λ t. g (f x) ∷ t) (map_twice g f xs)

-- machines with the numbers of actors
pub counts_of : {A B : Type 0} (f : A → Counts) (g : B → Counts) (plan : Plan) (xs : List A) (ys : List B) → map f xs ≡ map g ys → HasCounts g plan ys → HasCounts f plan xs
counts_of {A} {B} f g plan xs ys same h =
    record {
      ins_are = by (λ n. n.ins) ∙ h.ins_are;
      outs_are = by (λ n. n.outs) ∙ h.outs_are;
      actions_are = by (λ n. n.actions) ∙ h.actions_are;
    }
  where
    by : (n : Counts → ℕ) → map (λ x. n (f x)) xs ≡ map (λ y. n (g y)) ys
    by n = sym (map_twice n f xs) ∙ ap (map n) same ∙ map_twice n g ys

-- the entries of the logs of actors
pub entries_of_logs : {S M : Type 0} (actors : List (ActorView S M)) (logs : List (List (ℕ × ℕ))) → logs ≡ map (λ a. a.log) actors → all_entries logs ≡ log_entries actors
entries_of_logs actors logs is = ap all_entries is ∙ ap (λ (n : ℕ). joined n (λ a. get_or (map (λ x. x.log) actors) a [])) (length-map actors (λ x. x.log))

-- the logs of actors that have met rise
pub all_rise : {S M : Type 0} (rules : Rules S M) (e : EndedActors S M) (logs : List (List (ℕ × ℕ))) → HaveMet rules e → logs ≡ map (λ a. a.log) e.actors → All IsLog logs
all_rise rules e logs met is =
    subst (All IsLog) (sym is) (are_logs (map (λ a. a.log) e.actors) (λ a low. ended_rise rules e met a (omega (arith, length-map e.actors (λ a. a.log), met.actors_each))))

pub few_sorted : (entries sorted : List Entry) (all : List Entry) → IsPermutation entries sorted → entries ≡ all → length all < 2 ^ 39 → length sorted < 2 ^ 40
few_sorted entries sorted all perm is few = omega (arith, length_permutation entries sorted perm, ap length is)

module _ {S M : Type 0} where
  -- what a function makes of the end of a link
  pub out_by : {X : Type 0} (f : OutView M → X) (actors : List (ActorView S M)) (link : Link) (d : X) (b : ActorView S M) (o : OutView M) → link.from < length actors → link.out < length (get_or actors link.from b).outs
      → get_or (get_or (map (λ a. map f a.outs) actors) link.from []) link.out d ≡ f (out_at actors link b o)
  out_by f actors link d b o low here =
      ap (λ xs. get_or xs link.out d) (get_or-map (λ a. map f a.outs) actors link.from b [] low) ∙ get_or-map f (get_or actors link.from b).outs link.out o d here

  pub take_by : {X : Type 0} (f : TakeView (Stamped M) → X) (actors : List (ActorView S M)) (link : Link) (d : X) (a : ActorView S M) (t : TakeView (Stamped M)) → link.to < length actors → link.choice < length (get_or actors link.to a).takes
      → get_or (get_or (map (λ a. map f a.takes) actors) link.to []) link.choice d ≡ f (take_at actors link a t)
  take_by f actors link d a t low here =
      ap (λ xs. get_or xs link.choice d) (get_or-map (λ a. map f a.takes) actors link.to a [] low) ∙ get_or-map f (get_or actors link.to a).takes link.choice t d here

-- the actors have ended, from these states of their machines on
abbrev pub ended_by : {S M : Type 0} → Plan → List (ActorView S M) → List S → EndedActors S M
ended_by plan actors firsts = record { plan = plan; losses = losses_before plan.links actors; firsts = firsts; actors = actors; held = λ l. left_on actors (link_at plan.links l) }

module _ {S M : Type 0} (plan : Plan) (actors : List (ActorView S M)) (wired : AreWired plan actors) where
  pub actors_each : length actors ≡ length plan.ins
  actors_each = sym (length-map actors (λ a. a.counts.ins)) ∙ ap length wired.counts.ins_are

  pub takes_each : (a : ℕ) (x : ActorView S M) → a < length plan.ins → length (get_or actors a x).takes ≡ slice_index plan.ins a
  takes_each a x low =
      let here : a < length actors = omega (arith, actors_each) in
      (wired.ends a x here).takes ∙ sym (get_or-map (λ a. a.counts.ins) actors a x 0 here) ∙ ap (λ l. get_or l a 0) wired.counts.ins_are

  pub outs_each : (a : ℕ) (x : ActorView S M) → a < length plan.ins → length (get_or actors a x).outs ≡ slice_index plan.outs a
  outs_each a x low =
      let here : a < length actors = omega (arith, actors_each) in
      (wired.ends a x here).outs ∙ sym (get_or-map (λ a. a.counts.outs) actors a x 0 here) ∙ ap (λ l. get_or l a 0) wired.counts.outs_are

  pub record IsInRange (link : Link) : Type 0 where
    pub to : link.to < length actors
    pub from : link.from < length actors
    pub choice : (a : ActorView S M) → link.choice < length (get_or actors link.to a).takes
    pub out : (b : ActorView S M) → link.out < length (get_or actors link.from b).outs

  pub in_range : (l : ℕ) → l < length plan.links → IsInRange (link_at plan.links l)
  in_range l low =
      let to = wired.sound.to_below l low in
      let from = wired.sound.from_below l low in
      record {
        to = subst (λ (n : ℕ). (link_at plan.links l).to < n) (sym actors_each) to;
        from = subst (λ (n : ℕ). (link_at plan.links l).from < n) (sym actors_each) from;
        choice = λ a. subst (λ (n : ℕ). (link_at plan.links l).choice < n) (sym (takes_each (link_at plan.links l).to a to)) (wired.sound.choice_below l low);
        out = λ b. subst (λ (n : ℕ). (link_at plan.links l).out < n) (sym (outs_each (link_at plan.links l).from b from)) (wired.sound.out_below l low);
      }

  -- an end of a link at its sender
  pub some_out : (l : ℕ) → l < length plan.links → ActorView S M × OutView M
  some_out l low =
      let r = in_range l low in
      let b = (some_at actors (link_at plan.links l).from r.from).0 in
      (b, (some_at (get_or actors (link_at plan.links l).from b).outs (link_at plan.links l).out (r.out b)).0)

  pub same_loss : (l : ℕ) (b : ActorView S M) (o : OutView M) → l < length plan.links → unasked (out_at actors (link_at plan.links l) b o).loss ≡ get_or (losses_before plan.links actors) l None
  same_loss l b o low =
      let r = in_range l low in
      sym (get_or-map (loss_before actors) plan.links l no_link None low ∙ ap unasked (out_by (λ o. o.loss) actors (link_at plan.links l) None b o r.from (r.out b)))

  pub apart : AreApart plan.links
  apart = record { once_out = wired.sound.once_out; once_in = wired.sound.once_in }

  module _ (takes : List (List (Option (TakeView (Stamped M))))) (outs : List (List (Option (OutPart M)))) (takes_are : takes ≡ map (λ a. map Some a.takes) actors) (outs_are : map (λ row. map (option_map out_view) row) outs ≡ map (λ a. map Some a.outs) actors) where
    end_there : (l : ℕ) (a : ActorView S M) (t : TakeView (Stamped M)) → l < length plan.links → place_at takes (link_at plan.links l).to (link_at plan.links l).choice ≡ Some (take_at actors (link_at plan.links l) a t)
    end_there l a t low =
        let r = in_range l low in
        ap (λ rows. place_at rows (link_at plan.links l).to (link_at plan.links l).choice) takes_are ∙ take_by Some actors (link_at plan.links l) None a t r.to (r.choice a)

    part_there : (l : ℕ) (b : ActorView S M) (o : OutView M) → l < length plan.links → Made out_view (place_at outs (link_at plan.links l).from (link_at plan.links l).out) (out_at actors (link_at plan.links l) b o)
    part_there l b o low =
        let r = in_range l low in
        made_of out_view (place_at outs (link_at plan.links l).from (link_at plan.links l).out) (out_at actors (link_at plan.links l) b o)
        (sym (place_of_map out_view outs (link_at plan.links l).from (link_at plan.links l).out) ∙ ap (λ rows. place_at rows (link_at plan.links l).from (link_at plan.links l).out) outs_are ∙ out_by Some actors (link_at plan.links l) None b o r.from (r.out b))

    pub there : AreThere plan.links takes outs
    there l low =
        let r = in_range l low in
        let a = (some_at actors (link_at plan.links l).to r.to).0 in
        let b = (some_at actors (link_at plan.links l).from r.from).0 in
        let t = (some_at (get_or actors (link_at plan.links l).to a).takes (link_at plan.links l).choice (r.choice a)).0 in
        let o = (some_at (get_or actors (link_at plan.links l).from b).outs (link_at plan.links l).out (r.out b)).0 in
        let p = part_there l b o low in
        record {
          end = take_at actors (link_at plan.links l) a t;
          part = p.x;
          end_at = end_there l a t low;
          part_at = p.at;
          one_channel = wired.one_channel l a b t o low ∙ sym (ap (λ (x : OutView M). x.put.channel) p.is);
        }

    module _ (rests : LeftOnLinks M) (are : AreLeftOnLinksOf plan.links (length plan.links) takes outs rests) where
      record IsRest (l : ℕ) (a b : ActorView S M) (t : TakeView (Stamped M)) (o : OutView M) : Type 0 where
        met : (out_at actors (link_at plan.links l) b o).put.put ≡ (take_at actors (link_at plan.links l) a t).taken ++ left_on actors (link_at plan.links l)
        loss_is : get_or rests.losses l None ≡ (out_at actors (link_at plan.links l) b o).loss
        lost_is : get_or rests.lost l 0 ≡ (out_at actors (link_at plan.links l) b o).lost
        messages_are : get_or rests.messages l [] ≡ map (λ s. s.m) (left_on actors (link_at plan.links l) ++ (out_at actors (link_at plan.links l) b o).outbox)

      rest : (l : ℕ) (a b : ActorView S M) (t : TakeView (Stamped M)) (o : OutView M) → l < length plan.links → IsRest l a b t o
      rest l a b t o low =
          let r = in_range l low in
          let k = link_at plan.links l in
          let w = are.rests l low in
          let p = part_there l b o low in
          let end : w.end ≡ take_at actors k a t = same_Some _ _ (sym w.end_at ∙ end_there l a t low) in
          let part : out_view w.part ≡ out_at actors k b o = ap out_view (same_Some _ _ (sym w.part_at ∙ p.at)) ∙ p.is in
          let put : w.part.put.put ≡ (out_at actors k b o).put.put = ap (λ (x : OutView M). x.put.put) part in
          let taken : w.end.taken ≡ (take_at actors k a t).taken = ap (λ (x : TakeView (Stamped M)). x.taken) end in
          let left : drop (length w.end.taken) w.part.put.put ≡ left_on actors k =
          ap₂ (λ (ts ps : List (Stamped M)). drop (length ts) ps) (taken ∙ sym (take_by (λ t. t.taken) actors k [] a t r.to (r.choice a))) (put ∙ sym (out_by (λ o. o.put.put) actors k [] b o r.from (r.out b))) in
          record {
            met = sym put ∙ w.met ∙ ap₂ (λ (ts ls : List (Stamped M)). ts ++ ls) taken left;
            loss_is = w.loss_is ∙ ap (λ (x : OutView M). x.loss) part;
            lost_is = w.lost_is ∙ ap (λ (x : OutView M). x.lost) part;
            messages_are = w.messages_are ∙ ap₂ (λ (ls os : List (Stamped M)). map (λ s. s.m) (ls ++ os)) left (ap (λ (x : OutView M). x.outbox) part);
          }

      module _ (rules : Rules S M) (firsts : List S) (firsts_each : length firsts ≡ length plan.ins) (follows : EachFollows rules firsts actors) where
        abbrev pub ended : EndedActors S M
        ended = ended_by plan actors firsts

        pub have_met : HaveMet rules ended
        have_met = record {
          sound = wired.sound;
          losses_each = length-map plan.links (loss_before actors);
          firsts_each = firsts_each;
          actors_each = actors_each;
          follows = follows;
          takes_each = takes_each;
          outs_each = outs_each;
          same_loss = same_loss;
          met = λ l a b t o low. (rest l a b t o low).met;
        }

        pub are_rests : AreLeftOnLinks ended rests
        are_rests = record {
          losses_each = are.losses_each;
          lost_each = are.lost_each;
          messages_each = are.messages_each;
          losses_are = λ l b o low. (rest l b b (some_take l low) o low).loss_is;
          lost_are = λ l b o low. (rest l b b (some_take l low) o low).lost_is;
          messages_are = λ l b o low. (rest l b b (some_take l low) o low).messages_are;
        }
          where
            some_take : (l : ℕ) → l < length plan.links → TakeView (Stamped M)
            some_take l low =
                let r = in_range l low in
                let a = (some_at actors (link_at plan.links l).to r.to).0 in
                (some_at (get_or actors (link_at plan.links l).to a).takes (link_at plan.links l).choice (r.choice a)).0

        module _ (book : List Entry) (m : IsMergeOf ended book) where
          -- what is known of the world that goes on from all this
          pub record IsMerged (w : Scene S M) : Type 0 where
            pub run : StandsAsRun rules plan firsts (losses_before plan.links actors) w
            pub numbers : IsNumbered rules plan firsts (losses_before plan.links actors) w.book
            pub small : AreLow w.book
            pub book_is : IsMerge (log_entries actors) w.book
            pub order : IsAscending book → IsAscending w.book
            pub plan_is : w.plan ≡ plan
            pub machines : w.states ≡ map (λ a. a.state) actors
            pub links : AreLeft plan.links actors w.lines

          left : AreLeft plan.links actors (lines_with rests.losses rests.lost rests.messages)
          left =
              let lost : length rests.lost ≡ length rests.losses = are.lost_each ∙ sym are.losses_each in
              let messages : length rests.messages ≡ length rests.losses = are.messages_each ∙ sym are.losses_each in
              record {
                each = length-lines_with rests.losses rests.lost rests.messages lost messages ∙ are.losses_each;
                queue = λ l b o low. ap (λ x. x.queue) (line_with rests.losses rests.lost rests.messages l (subst (λ (n : ℕ). l < n) (sym are.losses_each) low) lost messages) ∙ are_rests.messages_are l b o low;
                loss = λ l b o low. ap (λ x. x.loss) (line_with rests.losses rests.lost rests.messages l (subst (λ (n : ℕ). l < n) (sym are.losses_each) low) lost messages) ∙ are_rests.losses_are l b o low;
                lost = λ l b o low. ap (λ x. x.lost) (line_with rests.losses rests.lost rests.messages l (subst (λ (n : ℕ). l < n) (sym are.losses_each) low) lost messages) ∙ are_rests.lost_are l b o low;
              }

          is_merged : StandsAsRun rules plan firsts (losses_before plan.links actors) (resumed ended rests book) → IsMerged (resumed ended rests book)
          is_merged run =
              let r : IsRunOf rules ended book = ended_is_run rules ended have_met book m in
              record {
                run = run;
                numbers = r.numbers;
                small = r.small;
                book_is = m;
                order = λ h. h;
                plan_is = refl;
                machines = refl;
                links = left;
              }

          pub merged : StandsAsRun rules plan firsts (losses_before plan.links actors) (resumed ended rests book) → (w : Scene S M) → w ≡ resumed ended rests book → IsMerged w
          merged run w is = subst IsMerged (sym is) (is_merged run)

          pub resumed_by : (w : Scene S M) (states : List S) (losses : List (Option Loss)) (lost : List ℕ) (messages : List (List M)) → w ≡ record { plan = plan; states = states; lines = lines_with losses lost messages; book = book }
              → states ≡ map (λ a. a.state) actors → losses ≡ rests.losses → lost ≡ rests.lost → messages ≡ rests.messages → w ≡ resumed ended rests book
          resumed_by w states losses lost messages is same_states same_losses same_lost same_messages =
              is ∙ (λ i. record { plan = plan; states = same_states i; lines = lines_with (same_losses i) (same_lost i) (same_messages i); book = book })

    -- the same of the links as they were read
    pub rests_by : (links : List Link) → links ≡ plan.links → (rests : LeftOnLinks M) → AreLeftOnLinksOf links (length links) takes outs rests → AreLeftOnLinksOf plan.links (length plan.links) takes outs rests
    rests_by links is rests are = subst (λ (l : List Link). AreLeftOnLinksOf l (length l) takes outs rests) is are

    pub met_by : (links : List Link) → links ≡ plan.links → (rests : LeftOnLinks M) → AreLeftOnLinksOf links (length links) takes outs rests
        → (rules : Rules S M) (firsts : List S) → length firsts ≡ length plan.ins → EachFollows rules firsts actors → HaveMet rules (ended_by plan actors firsts)
    met_by links is rests are rules firsts each follows = have_met rests (rests_by links is rests are) rules firsts each follows
