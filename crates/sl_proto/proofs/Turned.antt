-- A turn of a scene that stands for a world is idle where the world makes no step, and else leads to one that stands for the world after it.
use Rattle.std.proofs.Common.{◌≡◌, ℕ, zero, suc, ◌^◌, ◌<◌, ◌≤◌, List, [], ◌∷◌, length, refl, sym, ap, subst, ◌∙◌, Option, Some, None, arith, inl, inr, length-set, get_or-set_same, get_or-set_other, drop}
use Rattle.std.specs.Prelude.{◌⊎◌, true, false, nat_eq, nat_lt, if◌then◌else◌, slice_get, slice_set, option_map, option_and_then}
use Rattle.std.proofs.lemmas.Bool.{cases_lt, lt-ltb, le-ltb}
use Rattle.std.proofs.lemmas.Bool.Decides.{eqb_tells}
use Rattle.std.proofs.lemmas.Option.{slice_get-get_or, slice_get_past}
use Rattle.sl_machine.specs.Machine.{Rules}
use Rattle.sl_machine.specs.Plan.{IsSound, link_in}
use Rattle.sl_layout.specs.declared.actor.ActorId.{ActorId}
use Rattle.sl_layout.specs.Net.{Net, link_of, links_into, choice_of}
use Rattle.sl_layout.specs.Wiring.{plan_of}
use Rattle.sl_net.specs.Wired.{IsWired}
use Rattle.sl_wire.specs.declared.message.Msg.{Msg}
use Rattle.sl_wire.specs.Sizes.{Sizes}
use Rattle.sl_model.specs.declared.message.Message.{Message}
use Rattle.sl_model.specs.declared.message.Step.{Step}
use Rattle.sl_model.specs.History.{World, Losses, history, taken}
use Rattle.sl_model.specs.Setup.{Setup}
use Rattle.sl_model.specs.Puts.{puts_of}
use Rattle.sl_model.specs.World.{Entry, IsLossTable, next_step, step_by, front, taking, turn, world, carried}
use Rattle.sl_model.specs.Made.{Took, Acted}
use Rattle.sl_model.specs.Window.{on_way}
use Rattle.sl_model.specs.Turns.{GrowsAt, Takes, Acts, TakesTurns}
use Rattle.sl_model.specs.Passing.{PassesMessages}
use Rattle.sl_model.specs.Reported.{AreReported}
use Rattle.sl_net.specs.Ways.{HasWays}
use Rattle.sl_simulation.specs.Messages.{IsMessage}
use Rattle.sl_world.specs.Scene.{Line, Scene, line_at, empty_line, done, without_first, take_first, take_turn, act_turn, turn_of}
use Rattle.sl_proto.specs.Image.{tell, tell_all, told_by, AreQueued, IsImage, IsTurned}
use Rattle.sl_proto.specs.Machines.{MachineSimulates, MachineActSimulates, FollowSteps}
use Rattle.sl_proto.proofs.Queues.{Front, front-of, queue-empty}
use Rattle.sl_proto.proofs.Lines.{IsLine}
use Rattle.sl_proto.proofs.Delivered.{LinesAre, told_last}
use Rattle.sl_proto.proofs.Images.{told_at, taken_at, put_at, drop-more, drop-longer, drop-get, drop-none, heard-this, told-still, line-retold, link-in-is, link-in-none, wire-at, wires-each, actors-each, lines-of, lines-grown, Turning, image-after}

-- one link comes by a choice
another : (net : Net) → HasWays net → (a c k l : ℕ) → k < length net.links → slice_get (links_into net a) c ≡ Some l → (link_of net k).to ≡ a → choice_of net k ≡ c → k ≡ l
another net ways a c k l p into to choice = let e : Some k ≡ Some l = sym (ways.taken k p) ∙ (λ i. slice_get (links_into net (to i)) (choice i)) ∙ into in cc

got : {A : Type 0} (xs : List A) (i : ℕ) → i < length xs → (x : A) × (slice_get xs i ≡ Some x)
got [] i p = absurd (omega (arith, p))
got (x ∷ xs) zero p = (x, refl)
got (x ∷ xs) (suc i) p = got xs i (omega (arith, p))

module _ {S : Type 0} (s : Setup) (lost : Losses) (sizes : Sizes) (Stands : World → ℕ → S → Type 0) (rules : Rules S Msg) where
  -- what the laws are told of the setup
  pub record Given : Type 0 where
    pub wired : IsWired s.net
    pub sound : IsSound (plan_of s.net)
    pub table : IsLossTable s.net lost
    pub follow : FollowSteps s lost sizes Stands rules
    pub turns : TakesTurns
    pub passing : PassesMessages
    pub reported : AreReported s

  -- The scene's turn.

  turn-takes : (v : Scene S Msg) (a c l : ℕ) (state : S) (line : Line Msg) → link_in v.plan.links a c ≡ l → l < length v.plan.links → slice_get v.states a ≡ Some state → slice_get v.lines l ≡ Some line
      → turn_of rules v a c ≡ take_first rules v a c l state line line.queue
  turn-takes v a c l state line at low st li =
      (λ i. if nat_lt (at i) (length v.plan.links) then take_turn rules v a c (at i) (slice_get v.states a) (slice_get v.lines (at i)) else act_turn rules v a c (slice_get v.states a))
      ∙ ap (λ b. if b then take_turn rules v a c l (slice_get v.states a) (slice_get v.lines l) else act_turn rules v a c (slice_get v.states a)) (lt-ltb l (length v.plan.links) low)
      ∙ (λ i. take_turn rules v a c l (st i) (li i))

  turn-acts : (v : Scene S Msg) (a c : ℕ) → length v.plan.links ≤ link_in v.plan.links a c → turn_of rules v a c ≡ act_turn rules v a c (slice_get v.states a)
  turn-acts v a c past = let l = link_in v.plan.links a c in
      ap (λ b. if b then take_turn rules v a c l (slice_get v.states a) (slice_get v.lines l) else act_turn rules v a c (slice_get v.states a)) (le-ltb l (length v.plan.links) past)

  -- The world's step.

  step-takes : (w : World) (a c l : ℕ) (x : ActorId) → slice_get s.net.actors a ≡ Some x → slice_get (links_into s.net a) c ≡ Some l
      → next_step s lost w (a, c) ≡ option_map (λ m. taking c m (puts_of s a x (history w a) c l m)) (front s.net lost w a c l)
  step-takes w a c l x there into = λ i. option_and_then (step_by s lost w a c (into i)) (there i)

  -- Takes.

  taking-line : (es : List Entry) (a c l : ℕ) (step : Step) (m : Message) (rest : List Message) (v : Scene S Msg) → Given → IsImage s lost sizes Stands (world s lost es) v → GrowsAt (world s lost es) (turn s lost (world s lost es) (a, c)) a step
      → step.choice ≡ c → step.taken ≡ Some m → slice_get (links_into s.net a) c ≡ Some l → on_way s.net lost (world s lost es) l ≡ m ∷ rest
      → (told_at s.net (turn s lost (world s lost es) (a, c)) l ≡ tell (told_at s.net (world s lost es) l) m) × (taken_at s.net (turn s lost (world s lost es) (a, c)) l ≡ suc (taken_at s.net (world s lost es) l))
  taking-line es a c l step m rest v given image g choice took into way = let w = world s lost es in let u = turn s lost (world s lost es) (a, c) in
      let i = given.wired.ways.into a c l into in let k : choice_of s.net l ≡ c = given.wired.ways.choice a c l into in
      let grown : history u (link_of s.net l).to ≡ step ∷ history w (link_of s.net l).to = ap (history u) i.to ∙ g.same ∙ ap (λ b. step ∷ history w b) (sym i.to) in (
        ap (told_by (choice_of s.net l)) grown ∙ heard-this (choice_of s.net l) step (history w (link_of s.net l).to) m (choice ∙ sym k) took,
        ap (taken (choice_of s.net l)) grown ∙ given.turns.counted (choice_of s.net l) step (history w (link_of s.net l).to) (choice ∙ sym k),
      )

  -- the links once the first message is taken from one
  took-lines : (es : List Entry) (a c l : ℕ) (step : Step) (m : Message) (rest : List Message) (v : Scene S Msg) (queue : List Msg) → Given → IsImage s lost sizes Stands (world s lost es) v → GrowsAt (world s lost es) (turn s lost (world s lost es) (a, c)) a step
      → step.choice ≡ c → step.taken ≡ Some m → slice_get (links_into s.net a) c ≡ Some l → on_way s.net lost (world s lost es) l ≡ m ∷ rest → (x : Msg) → (line_at v.lines l).queue ≡ x ∷ queue
      → LinesAre s.net sizes (history (turn s lost (world s lost es) (a, c))) lost (told_at s.net (turn s lost (world s lost es) (a, c))) (taken_at s.net (turn s lost (world s lost es) (a, c))) (put_at s.net (world s lost es)) (slice_set v.lines l (without_first (line_at v.lines l) queue))
  took-lines es a c l step m rest v queue given image g choice took into way x is k below = by_tells (eqb_tells k l)
    where
      grown : LinesAre s.net sizes (history (turn s lost (world s lost es) (a, c))) lost (told_at s.net (world s lost es)) (taken_at s.net (world s lost es)) (put_at s.net (world s lost es)) v.lines
      grown = lines-grown given.passing s lost sizes (world s lost es) (turn s lost (world s lost es) (a, c)) a step v.lines given.reported given.wired (given.turns.fifo_run s lost es) g (lines-of s given.wired.ways lost sizes Stands (world s lost es) v (given.turns.fifo_run s lost es) image)

      low : l < length s.net.links
      low = (given.wired.ways.into a c l into).is_link

      shorter : IsLine s.net sizes (history (turn s lost (world s lost es) (a, c))) (link_of s.net l).from (lost l) (tell (told_at s.net (world s lost es) l) m) (suc (taken_at s.net (world s lost es) l)) (put_at s.net (world s lost es) l) (without_first (line_at v.lines l) queue)
      shorter = let i = grown l low in let n = taken_at s.net (world s lost es) l in let u = history (turn s lost (world s lost es) (a, c)) in record {
        within = drop-longer n (carried s.net lost (world s lost es) l) m rest way;
        queue = subst (λ ms. AreQueued s.net sizes u (link_of s.net l).from (tell (told_at s.net (world s lost es) l) m) ms queue) (sym (drop-more n (carried s.net lost (world s lost es) l) m rest way))
            (let both : AreQueued s.net sizes u (link_of s.net l).from (told_at s.net (world s lost es) l) (m ∷ rest) (x ∷ queue) =
            subst (λ xs. AreQueued s.net sizes u (link_of s.net l).from (told_at s.net (world s lost es) l) (m ∷ rest) xs) is (subst (λ ms. AreQueued s.net sizes u (link_of s.net l).from (told_at s.net (world s lost es) l) ms (line_at v.lines l).queue) way i.queue) in both.1);
        loss = i.loss;
        count = i.count;
      }

      by_tells : ((nat_eq k l ≡ true) × (k ≡ l)) ⊎ ((nat_eq k l ≡ false) × (k ≡ l → ⊥))
          → IsLine s.net sizes (history (turn s lost (world s lost es) (a, c))) (link_of s.net k).from (lost k) (told_at s.net (turn s lost (world s lost es) (a, c)) k) (taken_at s.net (turn s lost (world s lost es) (a, c)) k) (put_at s.net (world s lost es) k) (line_at (slice_set v.lines l (without_first (line_at v.lines l) queue)) k)
      by_tells (inl q) = let t = taking-line es a c l step m rest v given image g choice took into way in let u = turn s lost (world s lost es) (a, c) in
          subst (λ j. IsLine s.net sizes (history u) (link_of s.net j).from (lost j) (told_at s.net u j) (taken_at s.net u j) (put_at s.net (world s lost es) j) (line_at (slice_set v.lines l (without_first (line_at v.lines l) queue)) j)) (sym q.1)
          (subst (λ y. IsLine s.net sizes (history u) (link_of s.net l).from (lost l) (told_at s.net u l) (taken_at s.net u l) (put_at s.net (world s lost es) l) y)
          (sym (get_or-set_same v.lines l (without_first (line_at v.lines l) queue) empty_line (let n = image.lines_each in omega (arith, n, low))))
          (line-retold s.net sizes (history u) (link_of s.net l).from (lost l) (tell (told_at s.net (world s lost es) l) m) (told_at s.net u l) (suc (taken_at s.net (world s lost es) l)) (taken_at s.net u l) (put_at s.net (world s lost es) l) (without_first (line_at v.lines l) queue) t.0 t.1 shorter))
      by_tells (inr q) = let u = turn s lost (world s lost es) (a, c) in let t = told-still s.net (world s lost es) u a step k g (λ to ch. q.1 (another s.net given.wired.ways a c k l below into to (ch ∙ choice))) in
          subst (λ y. IsLine s.net sizes (history u) (link_of s.net k).from (lost k) (told_at s.net u k) (taken_at s.net u k) (put_at s.net (world s lost es) k) y)
          (sym (get_or-set_other v.lines l k (without_first (line_at v.lines l) queue) empty_line q.1))
          (line-retold s.net sizes (history u) (link_of s.net k).from (lost k) (told_at s.net (world s lost es) k) (told_at s.net u k) (taken_at s.net (world s lost es) k) (taken_at s.net u k) (put_at s.net (world s lost es) k) (line_at v.lines k) t.0 t.1 (grown k below))

  -- what is told at the ends of links stays
  took-same : (es : List Entry) (a c l : ℕ) (step : Step) (m : Message) (rest : List Message) (v : Scene S Msg) → Given → IsImage s lost sizes Stands (world s lost es) v → GrowsAt (world s lost es) (turn s lost (world s lost es) (a, c)) a step
      → step.choice ≡ c → step.taken ≡ Some m → slice_get (links_into s.net a) c ≡ Some l → on_way s.net lost (world s lost es) l ≡ m ∷ rest → (k : ℕ) → k < length s.net.links
      → told_last lost (told_at s.net (turn s lost (world s lost es) (a, c))) (taken_at s.net (turn s lost (world s lost es) (a, c))) (put_at s.net (world s lost es)) k
      ≡ told_last lost (told_at s.net (world s lost es)) (taken_at s.net (world s lost es)) (put_at s.net (world s lost es)) k
  took-same es a c l step m rest v given image g choice took into way k below = by_tells (eqb_tells k l)
    where
      here : told_last lost (told_at s.net (turn s lost (world s lost es) (a, c))) (taken_at s.net (turn s lost (world s lost es) (a, c))) (put_at s.net (world s lost es)) l
          ≡ told_last lost (told_at s.net (world s lost es)) (taken_at s.net (world s lost es)) (put_at s.net (world s lost es)) l
      here = let t = taking-line es a c l step m rest v given image g choice took into way in let ms = carried s.net lost (world s lost es) l in let told = told_at s.net (world s lost es) l in let n = taken_at s.net (world s lost es) l in
          (λ i. tell_all (t.0 i) (drop (t.1 i) ms)) ∙ ap (tell_all (tell told m)) (drop-more n ms m rest way) ∙ ap (tell_all told) (sym way)

      by_tells : ((nat_eq k l ≡ true) × (k ≡ l)) ⊎ ((nat_eq k l ≡ false) × (k ≡ l → ⊥)) → told_last lost (told_at s.net (turn s lost (world s lost es) (a, c))) (taken_at s.net (turn s lost (world s lost es) (a, c))) (put_at s.net (world s lost es)) k
          ≡ told_last lost (told_at s.net (world s lost es)) (taken_at s.net (world s lost es)) (put_at s.net (world s lost es)) k
      by_tells (inl q) = let w = world s lost es in let u = turn s lost (world s lost es) (a, c) in
          subst (λ j. told_last lost (told_at s.net u) (taken_at s.net u) (put_at s.net w) j ≡ told_last lost (told_at s.net w) (taken_at s.net w) (put_at s.net w) j) (sym q.1) here
      by_tells (inr q) = let t = told-still s.net (world s lost es) (turn s lost (world s lost es) (a, c)) a step k g (λ to ch. q.1 (another s.net given.wired.ways a c k l below into to (ch ∙ choice))) in
          (λ i. tell_all (t.0 i) (drop (t.1 i) (carried s.net lost (world s lost es) k)))

  -- Turns.

  turned-by : (u : World) (o n : Option Step) (t m : Option (Scene S Msg)) → n ≡ o → m ≡ t → IsTurned s lost sizes Stands u o t → IsTurned s lost sizes Stands u n m
  turned-by u o n t m p q i = subst (λ x. IsTurned s lost sizes Stands u x m) (sym p) (subst (λ y. IsTurned s lost sizes Stands u o y) (sym q) i)

  few-steps : Given → (es : List Entry) → length es < 2 ^ 40 → (b : ℕ) → length (history (world s lost es) b) < 2 ^ 40
  few-steps given es few b = let i = given.turns.few s lost es b in omega (arith, i, few)

  turning : (es : List Entry) (a c : ℕ) (step : Step) → Given → length es < 2 ^ 40 → next_step s lost (world s lost es) (a, c) ≡ Some step → a < length s.net.actors
      → Turning s lost sizes Stands (world s lost es) (turn s lost (world s lost es) (a, c)) a step
  turning es a c step given few next within = record {
    wired = given.wired;
    sound = given.sound;
    table = given.table;
    turns = given.turns;
    fifo_run = given.turns.fifo_run s lost es;
    few = few-steps given es few;
    within = within;
    grows = given.turns.grows s lost es (a, c) step next;
    made = made (given.turns.view s lost (world s lost es) (a, c) step next);
  }
    where
      made : Takes s lost (world s lost es) a step ⊎ Acts s (world s lost es) a step → Took s a (history (world s lost es) a) step ⊎ Acted s a (history (world s lost es) a) step
      made (inl t) = inl t.took
      made (inr t) = inr t.acted

  -- a turn by the choice of a link
  by-take : (es : List Entry) (a c l : ℕ) (v : Scene S Msg) → Given → length es < 2 ^ 40 → IsImage s lost sizes Stands (world s lost es) v → slice_get (links_into s.net a) c ≡ Some l
      → IsTurned s lost sizes Stands (turn s lost (world s lost es) (a, c)) (next_step s lost (world s lost es) (a, c)) (turn_of rules v a c)
  by-take es a c l v given few image into = by_way (on_way s.net lost (world s lost es) l) refl
    where
      low : l < length s.net.links
      low = (given.wired.ways.into a c l into).is_link

      within : a < length s.net.actors
      within = let i = given.wired.ways.into a c l into in let b = given.sound.to_below l (let n = wires-each s.net in omega (arith, n, low)) in let e = ap (λ k. k.to) (wire-at s.net l low) in let n = actors-each s.net in omega (arith, b, e, n, i.to)

      actor : (x : ActorId) × (slice_get s.net.actors a ≡ Some x)
      actor = got s.net.actors a within

      state : (x : S) × (slice_get v.states a ≡ Some x)
      state = got v.states a (let n = image.states_each in omega (arith, n, within))

      line : slice_get v.lines l ≡ Some (line_at v.lines l)
      line = slice_get-get_or v.lines l empty_line (let n = image.lines_each in omega (arith, n, low))

      -- the world's words by the choice
      place : taken_at s.net (world s lost es) l ≡ taken c (history (world s lost es) a)
      place = λ i. taken (given.wired.ways.choice a c l into i) (history (world s lost es) ((given.wired.ways.into a c l into).to i))

      told : told_at s.net (world s lost es) l ≡ told_by c (history (world s lost es) a)
      told = λ i. told_by (given.wired.ways.choice a c l into i) (history (world s lost es) ((given.wired.ways.into a c l into).to i))

      turned : turn_of rules v a c ≡ take_first rules v a c l state.0 (line_at v.lines l) (line_at v.lines l).queue
      turned = turn-takes v a c l state.0 (line_at v.lines l) (ap (λ p. link_in p.links a c) image.plan ∙ link-in-is s.net given.wired.ways a c l given.sound into)
          (let n = wires-each s.net in let e = ap (λ p. length p.links) image.plan in omega (arith, n, e, low)) state.1 line

      queued : AreQueued s.net sizes (history (world s lost es)) (link_of s.net l).from (told_at s.net (world s lost es) l) (on_way s.net lost (world s lost es) l) (line_at v.lines l).queue
      queued = (image.lines l low).queue

      of_front : (m : Message) (rest : List Message) → on_way s.net lost (world s lost es) l ≡ m ∷ rest → Front s.net sizes (history (world s lost es)) (link_of s.net l).from (told_at s.net (world s lost es) l) m rest (line_at v.lines l).queue
          → (step : Step) → next_step s lost (world s lost es) (a, c) ≡ Some step → step.taken ≡ Some m → IsTurned s lost sizes Stands (turn s lost (world s lost es) (a, c)) (next_step s lost (world s lost es) (a, c)) (turn_of rules v a c)
      of_front m rest way f step next took = let w = world s lost es in let u = turn s lost (world s lost es) (a, c) in
          let choice = given.turns.choice s lost w (a, c) step next in let g = given.turns.grows s lost es (a, c) step next in
          let lines = slice_set v.lines l (without_first (line_at v.lines l) f.rest) in
          let msg : IsMessage s.net sizes (history w) (link_of s.net l).from (told_by c (history w a)) m f.message = subst (λ t. IsMessage s.net sizes (history w) (link_of s.net l).from t m f.message) told f.stands in
          let left = rules.take state.0 c f.message in
          let stands : MachineSimulates s sizes Stands w u a step left = given.follow.take es a c l step m f.message state.0 few next into took msg (image.states a state.0 state.1) in
          turned-by u (Some step) (next_step s lost w (a, c)) (Some (done v a c lines left)) (turn_of rules v a c) next (turned ∙ ap (take_first rules v a c l state.0 (line_at v.lines l)) f.is)
          (image-after s lost sizes Stands w u a c step v lines left (turning es a c step given few next within) image
          (took-same es a c l step m rest v given image g choice took into way)
          (length-set v.lines l (without_first (line_at v.lines l) f.rest) ∙ image.lines_each)
          (took-lines es a c l step m rest v f.rest given image g choice took into way f.message f.is)
          stands (λ b x ne st. given.follow.stays es a b c step x few next ne st))

      by_way : (ms : List Message) → on_way s.net lost (world s lost es) l ≡ ms → IsTurned s lost sizes Stands (turn s lost (world s lost es) (a, c)) (next_step s lost (world s lost es) (a, c)) (turn_of rules v a c)
      by_way [] way = let w = world s lost es in
          let none : front s.net lost w a c l ≡ None = ap (slice_get (carried s.net lost w l)) (sym place) ∙ drop-none (taken_at s.net w l) (carried s.net lost w l) way in
          let next : next_step s lost w (a, c) ≡ None = step-takes w a c l actor.0 actor.1 into ∙ ap (option_map (λ m. taking c m (puts_of s a actor.0 (history w a) c l m))) none in
          let empty : (line_at v.lines l).queue ≡ [] = queue-empty s.net sizes (history w) (link_of s.net l).from (told_at s.net w l) (line_at v.lines l).queue (subst (λ ms. AreQueued s.net sizes (history w) (link_of s.net l).from (told_at s.net w l) ms (line_at v.lines l).queue) way queued) in
          turned-by (turn s lost w (a, c)) None (next_step s lost w (a, c)) None (turn_of rules v a c) next (turned ∙ ap (take_first rules v a c l state.0 (line_at v.lines l)) empty) tt
      by_way (m ∷ rest) way = let w = world s lost es in
          let some : front s.net lost w a c l ≡ Some m = ap (slice_get (carried s.net lost w l)) (sym place) ∙ drop-get (taken_at s.net w l) (carried s.net lost w l) m rest way in
          let next : next_step s lost w (a, c) ≡ Some (taking c m (puts_of s a actor.0 (history w a) c l m)) = step-takes w a c l actor.0 actor.1 into ∙ ap (option_map (λ m. taking c m (puts_of s a actor.0 (history w a) c l m))) some in
          of_front m rest way (front-of s.net sizes (history w) (link_of s.net l).from (told_at s.net w l) m rest (line_at v.lines l).queue (subst (λ ms. AreQueued s.net sizes (history w) (link_of s.net l).from (told_at s.net w l) ms (line_at v.lines l).queue) way queued))
          (taking c m (puts_of s a actor.0 (history w a) c l m)) next refl

  -- a turn by another choice
  by-act : (es : List Entry) (a c : ℕ) (v : Scene S Msg) → Given → length es < 2 ^ 40 → IsImage s lost sizes Stands (world s lost es) v → slice_get (links_into s.net a) c ≡ None
      → IsTurned s lost sizes Stands (turn s lost (world s lost es) (a, c)) (next_step s lost (world s lost es) (a, c)) (turn_of rules v a c)
  by-act es a c v given few image none = by_next (next_step s lost (world s lost es) (a, c)) refl
    where
      turned : turn_of rules v a c ≡ act_turn rules v a c (slice_get v.states a)
      turned = turn-acts v a c (let k = link-in-none s.net given.wired.ways a c none in let e = ap (λ p. length p.links) image.plan in let f = ap (λ p. link_in p.links a c) image.plan in omega (arith, k, e, f))

      state : a < length s.net.actors → (x : S) × (slice_get v.states a ≡ Some x)
      state p = got v.states a (let n = image.states_each in omega (arith, n, p))

      still : (step : Step) → next_step s lost (world s lost es) (a, c) ≡ Some step → (k : ℕ) → k < length s.net.links → (link_of s.net k).to ≡ a → choice_of s.net k ≡ step.choice → ⊥
      still step next k p to ch = let choice = given.turns.choice s lost (world s lost es) (a, c) step next in
          let e : None ≡ Some k = sym none ∙ sym ((λ i. slice_get (links_into s.net (to i)) ((ch ∙ choice) i))) ∙ given.wired.ways.taken k p in absurd (cc)

      of_acts : (step : Step) → next_step s lost (world s lost es) (a, c) ≡ Some step → (p : a < length s.net.actors) (x : S) → slice_get v.states a ≡ Some x
          → MachineActSimulates s sizes Stands (world s lost es) (turn s lost (world s lost es) (a, c)) a step (rules.act x c)
          → IsTurned s lost sizes Stands (turn s lost (world s lost es) (a, c)) (next_step s lost (world s lost es) (a, c)) (turn_of rules v a c)
      of_acts step next p x st acts = let w = world s lost es in let u = turn s lost (world s lost es) (a, c) in let g = given.turns.grows s lost es (a, c) step next in
          turned-by u (Some step) (next_step s lost w (a, c)) (Some (done v a c v.lines acts.after)) (turn_of rules v a c) next (turned ∙ ap (act_turn rules v a c) st ∙ ap (option_map (done v a c v.lines)) acts.is)
          (image-after s lost sizes Stands w u a c step v v.lines acts.after (turning es a c step given few next p) image
          (λ k low. let t = told-still s.net w u a step k g (still step next k low) in (λ i. tell_all (t.0 i) (drop (t.1 i) (carried s.net lost w k))))
          image.lines_each
          (λ k low. let t = told-still s.net w u a step k g (still step next k low) in
          line-retold s.net sizes (history u) (link_of s.net k).from (lost k) (told_at s.net w k) (told_at s.net u k) (taken_at s.net w k) (taken_at s.net u k) (put_at s.net w k) (line_at v.lines k) t.0 t.1
          (lines-grown given.passing s lost sizes w u a step v.lines given.reported given.wired (given.turns.fifo_run s lost es) g (lines-of s given.wired.ways lost sizes Stands w v (given.turns.fifo_run s lost es) image) k low))
          acts.simulates (λ b y ne z. given.follow.stays es a b c step y few next ne z))

      by_order : (a < length s.net.actors) ⊎ (length s.net.actors ≤ a) → next_step s lost (world s lost es) (a, c) ≡ None → turn_of rules v a c ≡ None
      by_order (inl p) next = turned ∙ ap (act_turn rules v a c) (state p).1 ∙ ap (option_map (done v a c v.lines)) (given.follow.idle es a c (state p).0 few p next none (image.states a (state p).0 (state p).1))
      by_order (inr p) next = turned ∙ ap (act_turn rules v a c) (slice_get_past v.states a (let n = image.states_each in omega (arith, n, p)))

      by_next : (o : Option Step) → next_step s lost (world s lost es) (a, c) ≡ o → IsTurned s lost sizes Stands (turn s lost (world s lost es) (a, c)) (next_step s lost (world s lost es) (a, c)) (turn_of rules v a c)
      by_next None next = turned-by (turn s lost (world s lost es) (a, c)) None (next_step s lost (world s lost es) (a, c)) None (turn_of rules v a c) next (by_order (cases_lt a (length s.net.actors)) next) tt
      by_next (Some step) next = let p = given.turns.within s lost (world s lost es) (a, c) step next in let x = state p in
          of_acts step next p x.0 x.1 (given.follow.act es a c step x.0 few next none (image.states a x.0 x.1))

  -- each turn of a scene that stands for a world
  pub turned : (es : List Entry) (a c : ℕ) (v : Scene S Msg) → Given → length es < 2 ^ 40 → IsImage s lost sizes Stands (world s lost es) v
      → IsTurned s lost sizes Stands (turn s lost (world s lost es) (a, c)) (next_step s lost (world s lost es) (a, c)) (turn_of rules v a c)
  turned es a c v given few image = by_link (slice_get (links_into s.net a) c) refl
    where
      by_link : (o : Option ℕ) → slice_get (links_into s.net a) c ≡ o → IsTurned s lost sizes Stands (turn s lost (world s lost es) (a, c)) (next_step s lost (world s lost es) (a, c)) (turn_of rules v a c)
      by_link (Some l) k = by-take es a c l v given few image k
      by_link None k = by-act es a c v given few image k
