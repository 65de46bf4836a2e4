-- A turn of a scene that stands for a world leads to one that stands for the world after it.
use Rattle.std.proofs.Common.{◌≡◌, ℕ, zero, suc, ◌+◌, ◌^◌, ◌<◌, ◌≤◌, List, [], ◌∷◌, ◌++◌, length, refl, sym, ap, subst, ◌∙◌, Some, None, arith, inl, inr, length-append, append-nil, length-set, drop, zero-add}
use Rattle.std.specs.Prelude.{◌⊎◌, true, false, Bool, cond, nat_eq, if◌then◌else◌, slice_get, slice_set, option_and_then, unwrap_or}
use Rattle.std.proofs.lemmas.Bool.{cases_lt, ne_eqb}
use Rattle.std.proofs.lemmas.Bool.Decides.{eqb_tells}
use Rattle.std.proofs.lemmas.List.FromFn.{get_or-map-range_with_len, length-map-range_with_len}
use Rattle.sl_machine.specs.Machine.{After}
use Rattle.sl_machine.specs.Plan.{IsSound, link_in, link_out, link_at}
use Rattle.sl_layout.specs.declared.actor.Sort.{Sort}
use Rattle.sl_layout.specs.declared.actor.Sort.TheVariants.{Done}
use Rattle.sl_layout.specs.Net.{Net, link_of, links_into, choice_of}
use Rattle.sl_layout.specs.Wires.{out_of}
use Rattle.sl_layout.specs.Wiring.{kind_of, wired_link, plan_of}
use Rattle.sl_net.specs.Wired.{IsWired}
use Rattle.sl_wire.specs.declared.message.Msg.{Msg}
use Rattle.sl_wire.specs.Sizes.{Sizes}
use Rattle.sl_model.specs.declared.message.Message.{Message}
use Rattle.sl_model.specs.declared.message.Message.TheVariants.{Done as DoneMsg}
use Rattle.sl_model.specs.declared.message.Put.{Put}
use Rattle.sl_model.specs.declared.message.Step.{Step}
use Rattle.sl_parts.specs.Lists.{Each}
use Rattle.sl_model.specs.History.{History, World, Losses, history, done_of, taken, takes, put, on_link, without_lost}
use Rattle.sl_model.specs.Setup.{Setup}
use Rattle.sl_model.specs.World.{IsLossTable, carried}
use Rattle.sl_model.specs.Made.{Took, Acted, IsMade, Fifo, IsFifoRun}
use Rattle.sl_model.specs.Fit.{fits, fits_link}
use Rattle.sl_model.specs.Window.{on_way}
use Rattle.sl_model.specs.Turns.{GrowsAt, TakesTurns}
use Rattle.sl_model.specs.Passing.{PassesMessages}
use Rattle.sl_model.specs.Reported.{AreReported}
use Rattle.sl_net.specs.Ways.{HasWays}
use Rattle.sl_world.specs.Scene.{Line, Scene, line_at, done, put_each}
use Rattle.sl_world.proofs.ShapeLaws.{length-put_each}
use Rattle.sl_world.proofs.LinkLemmas.{link_in_is}
use Rattle.sl_proto.specs.Image.{tell, tell_all, told_on, told_by, IsLineOf, IsImage}
use Rattle.sl_proto.specs.Machines.{MachineSimulates}
use Rattle.sl_proto.specs.Spread.{ArePutFrom}
use Rattle.sl_proto.proofs.Spread.{IsSpread, step-spread, put-from, each-put, one-each}
use Rattle.sl_proto.proofs.Queues.{tell_all-append, untold, heard-told, queue-grown}
use Rattle.sl_proto.proofs.Known.{way-there, told-there}
use Rattle.sl_proto.proofs.Lines.{IsLine}
use Rattle.sl_proto.proofs.Delivered.{LinesAre, told_last, all-put, to-send}
use Rattle.sl_model.proofs.Saved.Polls.{lost-none}

-- The links of a world: what was told to the receiver, how many it took, and what was put.

abbrev pub told_at : Net → World → ℕ → ℕ → ℕ
told_at net w l = told_by (choice_of net l) (history w (link_of net l).to)

abbrev pub taken_at : Net → World → ℕ → ℕ
taken_at net w l = taken (choice_of net l) (history w (link_of net l).to)

abbrev pub put_at : Net → World → ℕ → List Message
put_at net w l = put l (history w (link_of net l).from)

-- Lists.

get-set-same : {A : Type 0} (xs : List A) (i : ℕ) (y : A) → i < length xs → slice_get (slice_set xs i y) i ≡ Some y
get-set-same [] i y p = absurd (omega (arith, p))
get-set-same (x ∷ xs) zero y p = refl
get-set-same (x ∷ xs) (suc i) y p = get-set-same xs i y (omega (arith, p))

get-set-other : {A : Type 0} (xs : List A) (i j : ℕ) (y : A) → (j ≡ i → ⊥) → slice_get (slice_set xs i y) j ≡ slice_get xs j
get-set-other [] i j y ne = refl
get-set-other (x ∷ xs) zero zero y ne = absurd (ne refl)
get-set-other (x ∷ xs) zero (suc j) y ne = refl
get-set-other (x ∷ xs) (suc i) zero y ne = refl
get-set-other (x ∷ xs) (suc i) (suc j) y ne = get-set-other xs i j y (λ e. ne (ap suc e))

pub drop-more : {A : Type 0} (n : ℕ) (xs : List A) (y : A) (ys : List A) → drop n xs ≡ y ∷ ys → drop (suc n) xs ≡ ys
drop-more zero [] y ys e = absurd (cc)
drop-more zero (x ∷ xs) y ys e = cc
drop-more (suc n) [] y ys e = absurd (cc)
drop-more (suc n) (x ∷ xs) y ys e = drop-more n xs y ys e

pub drop-longer : {A : Type 0} (n : ℕ) (xs : List A) (y : A) (ys : List A) → drop n xs ≡ y ∷ ys → suc n ≤ length xs
drop-longer zero [] y ys e = absurd (cc)
drop-longer zero (x ∷ xs) y ys e = omega arith
drop-longer (suc n) [] y ys e = absurd (cc)
drop-longer (suc n) (x ∷ xs) y ys e = let k = drop-longer n xs y ys e in omega (arith, k)

pub drop-get : {A : Type 0} (n : ℕ) (xs : List A) (y : A) (ys : List A) → drop n xs ≡ y ∷ ys → slice_get xs n ≡ Some y
drop-get zero [] y ys e = absurd (cc)
drop-get zero (x ∷ xs) y ys e = let k : x ≡ y = cc in ap Some k
drop-get (suc n) [] y ys e = absurd (cc)
drop-get (suc n) (x ∷ xs) y ys e = drop-get n xs y ys e

pub drop-none : {A : Type 0} (n : ℕ) (xs : List A) → drop n xs ≡ [] → slice_get xs n ≡ None
drop-none zero [] e = refl
drop-none zero (x ∷ xs) e = absurd (cc)
drop-none (suc n) [] e = refl
drop-none (suc n) (x ∷ xs) e = drop-none n xs e

drop-past : {A : Type 0} (xs ys : List A) → drop (length xs) (xs ++ ys) ≡ ys
drop-past [] ys = refl
drop-past (x ∷ xs) ys = drop-past xs ys

-- Choices.

heard-other : (c : ℕ) (step : Step) (h : History) → (step.choice ≡ c → ⊥) → told_by c (step ∷ h) ≡ told_by c h
heard-other c step h ne = by_tells (eqb_tells step.choice c)
  where
    by_tells : ((nat_eq step.choice c ≡ true) × (step.choice ≡ c)) ⊎ ((nat_eq step.choice c ≡ false) × (step.choice ≡ c → ⊥)) → told_by c (step ∷ h) ≡ told_by c h
    by_tells (inl q) = absurd (ne q.1)
    by_tells (inr q) = λ i place. if q.0 i then unwrap_or (option_and_then (done_of place) step.taken) (told_by c h place) else told_by c h place

pub heard-this : (c : ℕ) (step : Step) (h : History) (m : Message) → step.choice ≡ c → step.taken ≡ Some m → told_by c (step ∷ h) ≡ tell (told_by c h) m
heard-this c step h m q t = by_tells (eqb_tells step.choice c)
  where
    by_tells : ((nat_eq step.choice c ≡ true) × (step.choice ≡ c)) ⊎ ((nat_eq step.choice c ≡ false) × (step.choice ≡ c → ⊥)) → told_by c (step ∷ h) ≡ tell (told_by c h) m
    by_tells (inl e) = (λ i place. if e.0 i then unwrap_or (option_and_then (done_of place) step.taken) (told_by c h place) else told_by c h place)
        ∙ (λ i place. unwrap_or (option_and_then (done_of place) (t i)) (told_by c h place))
    by_tells (inr e) = absurd (e.1 q)

pub told-still : (net : Net) (w v : World) (a : ℕ) (step : Step) (k : ℕ) → GrowsAt w v a step → ((link_of net k).to ≡ a → choice_of net k ≡ step.choice → ⊥) → (told_at net v k ≡ told_at net w k) × (taken_at net v k ≡ taken_at net w k)
told-still net w v a step k g ne = by_tells (link_of net k).to (eqb_tells (link_of net k).to a) ne
  where
    by_tells : (b : ℕ) → ((nat_eq b a ≡ true) × (b ≡ a)) ⊎ ((nat_eq b a ≡ false) × (b ≡ a → ⊥)) → (b ≡ a → choice_of net k ≡ step.choice → ⊥)
        → (told_by (choice_of net k) (history v b) ≡ told_by (choice_of net k) (history w b)) × (taken (choice_of net k) (history v b) ≡ taken (choice_of net k) (history w b))
    by_tells b (inl q) n = let grown : history v b ≡ step ∷ history w b = ap (history v) q.1 ∙ g.same ∙ ap (λ x. step ∷ history w x) (sym q.1) in let c = choice_of net k in
        (ap (told_by c) grown ∙ heard-other c step (history w b) (λ e. n q.1 (sym e)), ap (taken c) grown ∙ ap (λ t. if t then suc (taken c (history w b)) else taken c (history w b)) (ne_eqb step.choice c (λ e. n q.1 (sym e))))
    by_tells b (inr q) n = (ap (told_by (choice_of net k)) (g.other b q.1), ap (taken (choice_of net k)) (g.other b q.1))

-- Links and their puts.

pub line-retold : (net : Net) (sizes : Sizes) (us : ℕ → History) (a : ℕ) (lost : ℕ → Bool) (told now : ℕ → ℕ) (n i : ℕ) (ms : List Message) (line : Line Msg) → now ≡ told → i ≡ n → IsLine net sizes us a lost told n ms line → IsLine net sizes us a lost now i ms line
line-retold net sizes us a lost told now n i ms line p q l = subst (λ t. IsLine net sizes us a lost t i ms line) (sym p) (subst (λ j. IsLine net sizes us a lost told j ms line) (sym q) l)

-- what was told at the end of a link of Dones is what all messages put on it tell
told-end : (net : Net) (lost : Losses) (w : World) (l : ℕ) → Fifo (choice_of net l) (history w (link_of net l).to) (carried net lost w l) → ((k : ℕ) → lost l k ≡ false)
    → tell_all untold (put_at net w l) ≡ told_last lost (told_at net w) (taken_at net w) (put_at net w) l
told-end net lost w l f none = let c = choice_of net l in let h = history w (link_of net l).to in
    let all : put_at net w l ≡ takes c h ++ f.rest = sym (lost-none (lost l) 0 (put_at net w l) none) ∙ f.split in
    let rest : drop (taken c h) (carried net lost w l) ≡ f.rest = (λ i. drop (sym f.count i) (f.split i)) ∙ drop-past (takes c h) f.rest in
    ap (tell_all untold) all ∙ tell_all-append untold (takes c h) f.rest ∙ ap (λ t. tell_all t f.rest) (sym (heard-told c h)) ∙ ap (tell_all (told_by c h)) (sym rest)

taken-within : (net : Net) (lost : Losses) (w : World) (l : ℕ) → Fifo (choice_of net l) (history w (link_of net l).to) (carried net lost w l) → taken_at net w l ≤ length (carried net lost w l)
taken-within net lost w l f = let e = ap length f.split in let k = length-append (takes (choice_of net l) (history w (link_of net l).to)) f.rest in omega (arith, e, k, f.count)

done-sort : (t : Sort) (place n : ℕ) → fits t (DoneMsg place n) ≡ true → t ≡ Done
done-sort Done place n h = refl
done-sort _ place n h = absurd (cc)

-- Sizes.

pub put-small : (s : Setup) (a l : ℕ) (h : History) → IsWired s.net → IsMade s a h → length (put l h) ≤ length h
put-small s a l [] z m = omega arith
put-small s a l (step ∷ h) z m = let ih = put-small s a l h z m.1 in let k = one-each l step.puts (step-spread s a h step z m.0).apart in omega (arith, ih, k, length-append (put l h) (on_link l step.puts))

-- Wiring.

pub wire-at : (net : Net) (l : ℕ) → l < length net.links → link_at (plan_of net).links l ≡ wired_link net l
wire-at net l p = get_or-map-range_with_len (wired_link net) 0 (length net.links) l _ _ p (zero-add l)

pub wires-each : (net : Net) → length (plan_of net).links ≡ length net.links
wires-each net = length-map-range_with_len (wired_link net) 0 (length net.links)

pub actors-each : (net : Net) → length (plan_of net).ins ≡ length net.actors
actors-each net = length-map-range_with_len (λ a. length (links_into net a)) 0 (length net.actors)

pub link-in-is : (net : Net) → HasWays net → (a c l : ℕ) → IsSound (plan_of net) → slice_get (links_into net a) c ≡ Some l → link_in (plan_of net).links a c ≡ l
link-in-is net ways a c l sound k = let i = ways.into a c l k in let w = wire-at net l i.is_link in
    let once = sound.once_in l (let n = wires-each net in omega (arith, n, i.is_link)) in
    (λ t. link_in (plan_of net).links (sym i.to t) (sym (ways.choice a c l k) t)) ∙ (λ t. link_in (plan_of net).links (sym w t).to (sym w t).choice) ∙ once

pub link-in-none : (net : Net) → HasWays net → (a c : ℕ) → slice_get (links_into net a) c ≡ None → length (plan_of net).links ≤ link_in (plan_of net).links a c
link-in-none net ways a c none = by_order (cases_lt (link_in (plan_of net).links a c) (length (plan_of net).links))
  where
    found : link_in (plan_of net).links a c < length (plan_of net).links → ⊥
    found low = let l = link_in (plan_of net).links a c in let p : l < length net.links = let n = wires-each net in omega (arith, n, low) in
        let is = link_in_is (plan_of net).links a c low in let w = wire-at net l p in
        let to : (link_of net l).to ≡ a = sym (ap (λ k. k.to) w) ∙ is.0 in let choice : choice_of net l ≡ c = sym (ap (λ k. k.choice) w) ∙ is.1 in
        let some : slice_get (links_into net a) c ≡ Some l = (λ t. slice_get (links_into net (sym to t)) (sym choice t)) ∙ ways.taken l p in
        let no : None ≡ Some l = sym none ∙ some in absurd (cc)

    by_order : (link_in (plan_of net).links a c < length (plan_of net).links) ⊎ (length (plan_of net).links ≤ link_in (plan_of net).links a c) → length (plan_of net).links ≤ link_in (plan_of net).links a c
    by_order (inl low) = absurd (found low)
    by_order (inr past) = past

link-out-is : (net : Net) (a l : ℕ) → IsSound (plan_of net) → l < length net.links → (link_of net l).from ≡ a → link_out (plan_of net).links a (out_of net l) ≡ l
link-out-is net a l sound p from = let w = wire-at net l p in let once = sound.once_out l (let n = wires-each net in omega (arith, n, p)) in
    ap (λ b. link_out (plan_of net).links b (out_of net l)) (sym from) ∙ (λ t. link_out (plan_of net).links (sym w t).from (sym w t).out) ∙ once

-- The scene.

-- the links of a scene that stands for the world w, seen by internal words
pub lines-of : {S : Type 0} (s : Setup) → HasWays s.net → (lost : Losses) (sizes : Sizes) (Stands : World → ℕ → S → Type 0) (w : World) (v : Scene S Msg) → IsFifoRun s lost w → IsImage s lost sizes Stands w v
    → LinesAre s.net sizes (history w) lost (told_at s.net w) (taken_at s.net w) (put_at s.net w) v.lines
lines-of s ways lost sizes Stands w v x image l p = let i = image.lines l p in let k = ways.taken l p in
    record { within = taken-within s.net lost w l (x.fifo (link_of s.net l).to (choice_of s.net l) l k); queue = i.queue; loss = i.loss; count = i.count }

pub lines-grown : PassesMessages → (s : Setup) (lost : Losses) (sizes : Sizes) (w v : World) (a : ℕ) (step : Step) (lines : List (Line Msg)) → AreReported s → IsWired s.net → IsFifoRun s lost w → GrowsAt w v a step
    → LinesAre s.net sizes (history w) lost (told_at s.net w) (taken_at s.net w) (put_at s.net w) lines → LinesAre s.net sizes (history v) lost (told_at s.net w) (taken_at s.net w) (put_at s.net w) lines
lines-grown passing s lost sizes w v a step lines reported z x g all l p = let i = all l p in record {
  within = i.within;
  queue = queue-grown s.net sizes w v a step (link_of s.net l).from (told_at s.net w l) (on_way s.net lost w l) (line_at lines l).queue g (told-there passing s lost w l reported z x p) (way-there passing s lost w l reported z x p) i.queue;
  loss = i.loss;
  count = i.count;
}

put-grown : (net : Net) (w v : World) (a : ℕ) (step : Step) (l : ℕ) → GrowsAt w v a step → ArePutFrom net a step.puts → put_at net w l ++ on_link l step.puts ≡ put_at net v l
put-grown net w v a step l g from = by_tells (link_of net l).from refl (eqb_tells (link_of net l).from a)
  where
    off : (ps : List Put) → ArePutFrom net a ps → ((link_of net l).from ≡ a → ⊥) → on_link l ps ≡ []
    off [] f ne = refl
    off (p ∷ ps) f ne = by_link (off ps f.1 ne) (eqb_tells p.link l)
      where
        by_link : on_link l ps ≡ [] → ((nat_eq p.link l ≡ true) × (p.link ≡ l)) ⊎ ((nat_eq p.link l ≡ false) × (p.link ≡ l → ⊥)) → on_link l (p ∷ ps) ≡ []
        by_link ih (inl q) = absurd (ne (ap (λ k. (link_of net k).from) (sym q.1) ∙ f.0.1))
        by_link ih (inr q) = ap (λ b. cond b (p.message ∷ on_link l ps) (on_link l ps)) q.0 ∙ ih

    by_tells : (b : ℕ) → (link_of net l).from ≡ b → ((nat_eq b a ≡ true) × (b ≡ a)) ⊎ ((nat_eq b a ≡ false) × (b ≡ a → ⊥)) → put l (history w b) ++ on_link l step.puts ≡ put l (history v b)
    by_tells b e (inl q) = (λ t. put l (history w (q.1 t)) ++ on_link l step.puts) ∙ sym (ap (put l) g.same) ∙ (λ t. put l (history v (sym q.1 t)))
    by_tells b e (inr q) = ap (λ ms. put l (history w b) ++ ms) (off step.puts from (λ k. q.1 (sym e ∙ k))) ∙ append-nil (put l (history w b)) ∙ ap (put l) (sym (g.other b q.1))

-- Where a turn of the actor a makes a step, and its machine leaves what stands for this, after the links were as lines says.
module _ {S : Type 0} (s : Setup) (lost : Losses) (sizes : Sizes) (Stands : World → ℕ → S → Type 0) where
  pub record Turning (w v : World) (a : ℕ) (step : Step) : Type 0 where
    pub wired : IsWired s.net
    pub sound : IsSound (plan_of s.net)
    pub table : IsLossTable s.net lost
    pub turns : TakesTurns
    pub fifo_run : IsFifoRun s lost w
    pub few : (b : ℕ) → length (history w b) < 2 ^ 40
    pub within : a < length s.net.actors
    pub grows : GrowsAt w v a step
    pub made : Took s a (history w a) step ⊎ Acted s a (history w a) step

  -- what a Done is told by
  done-told : (w v : World) (a : ℕ) (step : Step) → Turning w v a step → ((k : ℕ) → k < length s.net.links → told_last lost (told_at s.net v) (taken_at s.net v) (put_at s.net w) k ≡ told_last lost (told_at s.net w) (taken_at s.net w) (put_at s.net w) k)
      → Each (λ p. (place k : ℕ) → p.message ≡ DoneMsg place k → told_on p.link (history w a) place ≡ told_last lost (told_at s.net v) (taken_at s.net v) (λ l. put l (history w a)) p.link place) step.puts
  done-told w v a step t same = each-put s.net a step.puts (λ p. fits_link s.net p.link p.message ≡ true)
      (λ p. (place k : ℕ) → p.message ≡ DoneMsg place k → told_on p.link (history w a) place ≡ told_last lost (told_at s.net v) (taken_at s.net v) (λ l. put l (history w a)) p.link place)
      (step-spread s a (history w a) step t.wired t.made).each (t.turns.puts s a (history w a) step t.made) (λ p b f place k e. of_put p b f place k e)
    where
      of_put : (p : Put) → fits_link s.net p.link p.message ≡ true → (p.link < length s.net.links) × ((link_of s.net p.link).from ≡ a) → (place k : ℕ) → p.message ≡ DoneMsg place k
          → told_on p.link (history w a) place ≡ told_last lost (told_at s.net v) (taken_at s.net v) (λ l. put l (history w a)) p.link place
      of_put p b f place k e = let l = p.link in let sort : (link_of s.net l).sort ≡ Done = done-sort (link_of s.net l).sort place k (ap (fits (link_of s.net l).sort) (sym e) ∙ b) in
          let none : (j : ℕ) → lost l j ≡ false = λ j. t.table l j (ap kind_of sort) in
          let end = told-end s.net lost w l (t.fifo_run.fifo (link_of s.net l).to (choice_of s.net l) l (t.wired.ways.taken l f.0)) none in
          let here : put_at s.net w l ≡ put l (history w a) = ap (λ b. put l (history w b)) f.1 in
          (λ i. tell_all untold (sym here i) place) ∙ (λ i. end i place) ∙ (λ i. sym (same l f.0) i place) ∙ (λ i. tell_all (told_at s.net v l) (drop (taken_at s.net v l) (without_lost (lost l) 0 (here i))) place)

  pub image-after : (w v : World) (a c : ℕ) (step : Step) (scene : Scene S Msg) (lines : List (Line Msg)) (left : After S Msg) → Turning w v a step → IsImage s lost sizes Stands w scene
      → ((k : ℕ) → k < length s.net.links → told_last lost (told_at s.net v) (taken_at s.net v) (put_at s.net w) k ≡ told_last lost (told_at s.net w) (taken_at s.net w) (put_at s.net w) k)
      → length lines ≡ length s.net.links → LinesAre s.net sizes (history v) lost (told_at s.net v) (taken_at s.net v) (put_at s.net w) lines
      → MachineSimulates s sizes Stands w v a step left → ((b : ℕ) (state : S) → (b ≡ a → ⊥) → Stands w b state → Stands v b state)
      → IsImage s lost sizes Stands v (done scene a c lines left)
  image-after w v a c step scene lines left t image same long all stands stays = record {
    plan = image.plan;
    states_each = length-set scene.states a left.state ∙ image.states_each;
    states = λ b state e. by_actor b state e (eqb_tells b a);
    lines_each = length-put_each (link_out scene.plan.links a) left.puts lines ∙ long;
    lines = λ l p. by_line l (delivered l p);
  }
    where
      spread : IsSpread s.net a step.puts
      spread = step-spread s a (history w a) step t.wired t.made

      by_actor : (b : ℕ) (state : S) → slice_get (slice_set scene.states a left.state) b ≡ Some state → ((nat_eq b a ≡ true) × (b ≡ a)) ⊎ ((nat_eq b a ≡ false) × (b ≡ a → ⊥)) → Stands v b state
      by_actor b state e (inl q) = let k : Some left.state ≡ Some state = sym (get-set-same scene.states a left.state (let n = image.states_each in omega (arith, n, t.within))) ∙ ap (slice_get (slice_set scene.states a left.state)) (sym q.1) ∙ e in
          let is : left.state ≡ state = cc in subst (λ x. Stands v x state) (sym q.1) (subst (Stands v a) is stands.state)
      by_actor b state e (inr q) = stays b state q.1 (image.states b state (sym (get-set-other scene.states a b left.state q.1) ∙ e))

      placed : (l : ℕ) → l < length s.net.links → (link_of s.net l).from ≡ a → link_out scene.plan.links a (out_of s.net l) ≡ l
      placed l p from = ap (λ x. link_out x.links a (out_of s.net l)) image.plan ∙ link-out-is s.net a l t.sound p from

      -- each link of the actor has room to count
      room : (l : ℕ) → length (put_at s.net w l) + length (on_link l step.puts) < 2 ^ 64
      room l = let one = one-each l step.puts spread.apart in let small = put-small s (link_of s.net l).from l (history w (link_of s.net l).from) t.wired (t.fifo_run.made (link_of s.net l).from) in let few = t.few (link_of s.net l).from in omega (arith, one, small, few)

      delivered : LinesAre s.net sizes (history v) lost (told_at s.net v) (taken_at s.net v) (λ k. put_at s.net w k ++ on_link k step.puts) (put_each (link_out scene.plan.links a) left.puts lines)
      delivered = all-put s.net sizes (history v) a lost (told_at s.net v) (taken_at s.net v) (link_out scene.plan.links a) (put_at s.net w) lines step.puts left.puts placed room long
          (put-from s.net a step.puts spread.each)
          (to-send s.net sizes (history v) a lost (told_at s.net v) (taken_at s.net v) (history w a) (put_at s.net w) step.puts left.puts spread.apart
          (each-put s.net a step.puts (λ p. fits_link s.net p.link p.message ≡ true) (λ p. put_at s.net w p.link ≡ put p.link (history w a)) spread.each (t.turns.puts s a (history w a) step t.made) (λ p b f. ap (λ b. put p.link (history w b)) f.1))
          (done-told w v a step t same) stands.puts) all

      by_line : (l : ℕ) → IsLine s.net sizes (history v) (link_of s.net l).from (lost l) (told_at s.net v l) (taken_at s.net v l) (put_at s.net w l ++ on_link l step.puts) (line_at (put_each (link_out scene.plan.links a) left.puts lines) l)
          → IsLineOf s lost sizes v l (line_at (put_each (link_out scene.plan.links a) left.puts lines) l)
      by_line l i = let now = put-grown s.net w v a step l t.grows (put-from s.net a step.puts spread.each) in
          let j = subst (λ ms. IsLine s.net sizes (history v) (link_of s.net l).from (lost l) (told_at s.net v l) (taken_at s.net v l) ms (line_at (put_each (link_out scene.plan.links a) left.puts lines) l)) now i in
          record { queue = j.queue; loss = j.loss; count = j.count }
