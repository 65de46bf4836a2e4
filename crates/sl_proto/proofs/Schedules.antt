-- Schedules of a scene that stands for a world.
use Rattle.std.proofs.Common.{◌≡◌, ℕ, zero, suc, ◌+◌, ◌^◌, ◌<◌, List, [], ◌∷◌, ◌++◌, length, refl, sym, ap, subst, ◌∙◌, Option, Some, None, arith, is_some, length-append, Bool, true, false, cond, drop, append_assoc, append-nil}
use Rattle.std.specs.Prelude.{if◌then◌else◌, slice_index_or, unwrap_or}
use Rattle.std.specs.Option.{option_and_then}
use Rattle.std.proofs.lemmas.List.{length-map, map-append, get_or-map}
use Rattle.std.specs.List.{range_with_len}
use Rattle.sl_machine.specs.Machine.{Rules}
use Rattle.sl_machine.specs.declared.wiring.Entry.{Entry as BookEntry}
use Rattle.sl_loss.specs.Loss.{Loss}
use Rattle.sl_layout.specs.Net.{link_of, choice_of}
use Rattle.sl_layout.specs.Wiring.{plan_of}
use Rattle.sl_wire.specs.declared.message.Msg.{Msg}
use Rattle.sl_wire.specs.Sizes.{Sizes}
use Rattle.sl_model.specs.declared.message.Message.{Message}
use Rattle.sl_model.specs.declared.message.Step.{Step}
use Rattle.sl_model.specs.History.{World, Losses, history, taken, put, without_lost}
use Rattle.sl_model.specs.Words.{tally}
use Rattle.sl_model.specs.Setup.{Setup}
use Rattle.sl_model.specs.World.{Entry, start, next_step, turn, after, run, world, IsLegalFrom, kept_from}
use Rattle.sl_model.specs.Books.{schedule_of, numbers_of}
use Rattle.sl_model.specs.Window.{on_way}
use Rattle.sl_model.specs.Turns.{TakesTurns}
use Rattle.sl_world.specs.Scene.{Scene, empty_line, new_line, first_scene, turn_of, after_turn, after_all, run_of, kept, last_number, entry_after}
use Rattle.sl_world.specs.Legal.{numbered_from}
use Rattle.sl_world.proofs.BookLaws.{book-after_all, last_number-push, schedule_of-numbered_from}
use Rattle.sl_proto.specs.Image.{told_by, AreQueued, GoesOn, IsLineOf, IsImage, IsTurned, IsFirst}
use Rattle.sl_proto.specs.Runs.{grown, IsBookOfTurns}
use Rattle.sl_proto.proofs.Turned.{Given, turned}

-- Books that grow by turns.

grown-more : (book : List BookEntry) (e : Entry) (es : List Entry) → grown book (e ∷ es) ≡ grown (book ++ entry_after book e.0 e.1 ∷ []) es
grown-more book e es = let next : BookEntry = entry_after book e.0 e.1 in
    sym (ap (λ (n : ℕ). (book ++ next ∷ []) ++ numbered_from n es) (last_number-push book e.0 e.1)
    ∙ append_assoc book (next ∷ []) (numbered_from (last_number book + 1) es))

pub grown-append : (book : List BookEntry) (es fs : List Entry) → grown (grown book es) fs ≡ grown book (es ++ fs)
grown-append book [] fs = ap (λ (b : List BookEntry). grown b fs) (append-nil book)
grown-append book (e ∷ es) fs = ap (λ (b : List BookEntry). grown b fs) (grown-more book e es)
    ∙ grown-append (book ++ entry_after book e.0 e.1 ∷ []) es fs
    ∙ sym (grown-more book e (es ++ fs))

pub none-numbered : (n : ℕ) (es : List Entry) → numbered_from n es ≡ [] → es ≡ []
none-numbered n [] h = refl
none-numbered n (e ∷ es) h = absurd cc

-- Books numbered from 1.

numbers-numbered : (n : ℕ) (es : List Entry) → numbers_of (numbered_from n es) ≡ range_with_len (n + 1) (length es)
numbers-numbered n [] = refl
numbers-numbered n (e ∷ es) = ap (λ r. (n + 1) ∷ r) (numbers-numbered (n + 1) es)

length-numbered : (n : ℕ) (es : List Entry) → length (numbered_from n es) ≡ length es
length-numbered n [] = refl
length-numbered n (e ∷ es) = ap suc (length-numbered (n + 1) es)

pub numbered_book : (book : List BookEntry) (es : List Entry) → book ≡ numbered_from 0 es → IsBookOfTurns (record { entries = book }) es
numbered_book book es h = record {
  schedule = ap schedule_of h ∙ schedule_of-numbered_from 0 es;
  numbers = ap numbers_of h ∙ numbers-numbered 0 es ∙ ap (range_with_len 1) (sym (ap length h ∙ length-numbered 0 es));
}

-- a book that grew by numbered entries
pub schedule-grown : (old new : List BookEntry) (n : ℕ) (es : List Entry) → new ≡ old ++ numbered_from n es → schedule_of new ≡ schedule_of old ++ es
schedule-grown old new n es h = ap schedule_of h ∙ map-append (λ (e : BookEntry). (e.actor, e.choice)) old (numbered_from n es) ∙ ap (λ r. schedule_of old ++ r) (schedule_of-numbered_from n es)

abbrev no-messages : List Message
no-messages = []

module _ {S : Type 0} (s : Setup) (lost : Losses) (sizes : Sizes) (Stands : World → ℕ → S → Type 0) (rules : Rules S Msg) where
  -- One turn.

  after-turned : (w : World) (a : ℕ) (v : Scene S Msg) (o : Option Step) (t : Option (Scene S Msg)) → IsImage s lost sizes Stands w v → IsTurned s lost sizes Stands (after w a o) o t → IsImage s lost sizes Stands (after w a o) (unwrap_or t v)
  after-turned w a v None None i z = i
  after-turned w a v None (Some u) i z = absurd z
  after-turned w a v (Some step) None i z = absurd z
  after-turned w a v (Some step) (Some u) i z = z

  same-did : (w : World) (o : Option Step) (t : Option (Scene S Msg)) → IsTurned s lost sizes Stands w o t → is_some t ≡ is_some o
  same-did w None None z = refl
  same-did w None (Some u) z = absurd z
  same-did w (Some step) None z = absurd z
  same-did w (Some step) (Some u) z = refl

  pub turn-image : (es : List Entry) (e : Entry) (v : Scene S Msg) → Given s lost sizes Stands rules → length es < 2 ^ 40 → IsImage s lost sizes Stands (world s lost es) v → IsImage s lost sizes Stands (world s lost (es ++ e ∷ [])) (after_turn rules v e)
  turn-image es e v given few image = subst (λ w. IsImage s lost sizes Stands w (after_turn rules v e)) (sym (given.turns.parts s lost (start s.net) es (e ∷ [])))
      (after-turned (world s lost es) e.0 v (next_step s lost (world s lost es) e) (turn_of rules v e.0 e.1) image (turned s lost sizes Stands rules es e.0 e.1 v given few image))

  -- Schedules.

  module _ (given : Given s lost sizes Stands rules) where
    longer : (es : List Entry) (e : Entry) (fs : List Entry) → length es + length (e ∷ fs) < 2 ^ 40 → length (es ++ e ∷ []) + length fs < 2 ^ 40
    longer es e fs few = omega (arith, few, length-append es (e ∷ []))

    first-few : (es : List Entry) (e : Entry) (fs : List Entry) → length es + length (e ∷ fs) < 2 ^ 40 → length es < 2 ^ 40
    first-few es e fs few = omega (arith, few)

    pub all-image : (es fs : List Entry) (v : Scene S Msg) → length es + length fs < 2 ^ 40 → IsImage s lost sizes Stands (world s lost es) v → IsImage s lost sizes Stands (run s lost (world s lost es) fs) (after_all rules v fs)
    all-image es [] v few image = image
    all-image es (e ∷ fs) v few image = subst (λ w. IsImage s lost sizes Stands (run s lost w fs) (after_all rules (after_turn rules v e) fs)) (given.turns.parts s lost (start s.net) es (e ∷ []))
        (all-image (es ++ e ∷ []) fs (after_turn rules v e) (longer es e fs few) (turn-image es e v given (first-few es e fs few) image))

    idle-stays : (w : World) (a : ℕ) (o : Option Step) (fs : List Entry) → is_some o ≡ false → kept_from s lost (after w a o) fs ≡ kept_from s lost w fs
    idle-stays w a None fs e = refl
    idle-stays w a (Some step) fs e = absurd (cc)

    pub same-kept : (es fs : List Entry) (v : Scene S Msg) → length es + length fs < 2 ^ 40 → IsImage s lost sizes Stands (world s lost es) v → kept rules v fs ≡ kept_from s lost (world s lost es) fs
    same-kept es [] v few image = refl
    same-kept es (e ∷ fs) v few image = let w = world s lost es in let u = world s lost (es ++ e ∷ []) in
        let did : is_some (turn_of rules v e.0 e.1) ≡ is_some (next_step s lost w e) = same-did (turn s lost w e) (next_step s lost w e) (turn_of rules v e.0 e.1) (turned s lost sizes Stands rules es e.0 e.1 v given (first-few es e fs few) image) in
        let rest : kept rules (after_turn rules v e) fs ≡ kept_from s lost (turn s lost w e) fs =
        same-kept (es ++ e ∷ []) fs (after_turn rules v e) (longer es e fs few) (turn-image es e v given (first-few es e fs few) image) ∙ ap (λ x. kept_from s lost x fs) (given.turns.parts s lost (start s.net) es (e ∷ [])) in
        (λ i. if did i then e ∷ rest i else rest i) ∙ by_bool (is_some (next_step s lost w e)) refl
      where
        by_bool : (b : Bool) → is_some (next_step s lost (world s lost es) e) ≡ b → (if b then e ∷ kept_from s lost (turn s lost (world s lost es) e) fs else kept_from s lost (turn s lost (world s lost es) e) fs)
            ≡ cond b (e ∷ kept_from s lost (turn s lost (world s lost es) e) fs) (kept_from s lost (world s lost es) fs)
        by_bool true q = refl
        by_bool false q = idle-stays (world s lost es) e.0 (next_step s lost (world s lost es) e) fs q

    pub legal-run : (es fs : List Entry) (v : Scene S Msg) → length es + length fs < 2 ^ 40 → IsImage s lost sizes Stands (world s lost es) v → IsLegalFrom s lost (world s lost es) fs → run_of rules v fs ≡ Some (after_all rules v fs)
    legal-run es [] v few image legal = refl
    legal-run es (e ∷ fs) v few image legal = let w = world s lost es in
        by_turn (turn_of rules v e.0 e.1) (same-did (turn s lost w e) (next_step s lost w e) (turn_of rules v e.0 e.1) (turned s lost sizes Stands rules es e.0 e.1 v given (first-few es e fs few) image) ∙ legal.0)
        (legal-run (es ++ e ∷ []) fs (after_turn rules v e) (longer es e fs few) (turn-image es e v given (first-few es e fs few) image) (subst (λ x. IsLegalFrom s lost x fs) (sym (given.turns.parts s lost (start s.net) es (e ∷ []))) legal.1))
      where
        by_turn : (t : Option (Scene S Msg)) → is_some t ≡ true → run_of rules (unwrap_or t v) fs ≡ Some (after_all rules (unwrap_or t v) fs) → option_and_then (λ u. run_of rules u fs) t ≡ Some (after_all rules (unwrap_or t v) fs)
        by_turn None q ih = absurd (cc)
        by_turn (Some u) q ih = ih

    pub run-legal : (es fs : List Entry) (v u : Scene S Msg) → length es + length fs < 2 ^ 40 → IsImage s lost sizes Stands (world s lost es) v → run_of rules v fs ≡ Some u → IsLegalFrom s lost (world s lost es) fs
    run-legal es [] v u few image run = tt
    run-legal es (e ∷ fs) v u few image run = let w = world s lost es in
        by_turn (turn_of rules v e.0 e.1) (sym (same-did (turn s lost w e) (next_step s lost w e) (turn_of rules v e.0 e.1) (turned s lost sizes Stands rules es e.0 e.1 v given (first-few es e fs few) image)))
        (λ q. subst (λ x. IsLegalFrom s lost x fs) (given.turns.parts s lost (start s.net) es (e ∷ [])) (run-legal (es ++ e ∷ []) fs (after_turn rules v e) u (longer es e fs few) (turn-image es e v given (first-few es e fs few) image) q)) run
      where
        by_turn : (t : Option (Scene S Msg)) → is_some (next_step s lost (world s lost es) e) ≡ is_some t → (run_of rules (unwrap_or t v) fs ≡ Some u → IsLegalFrom s lost (turn s lost (world s lost es) e) fs)
            → option_and_then (λ x. run_of rules x fs) t ≡ Some u → IsLegalFrom s lost (world s lost es) (e ∷ fs)
        by_turn None q ih r = absurd (cc)
        by_turn (Some x) q ih r = (q, ih r)

    pub grown-book : (es fs : List Entry) (v : Scene S Msg) → length es + length fs < 2 ^ 40 → IsImage s lost sizes Stands (world s lost es) v → (after_all rules v fs).book ≡ v.book ++ numbered_from (last_number v.book) (kept_from s lost (world s lost es) fs)
    grown-book es fs v few image = book-after_all rules v fs ∙ ap (λ ks. v.book ++ numbered_from (last_number v.book) ks) (same-kept es fs v few image)

-- The first scene.

module _ {S : Type 0} (turns : TakesTurns) (s : Setup) (lost : Losses) (sizes : Sizes) (Stands : World → ℕ → S → Type 0) where
  drop-nil : (n : ℕ) → drop n (no-messages) ≡ []
  drop-nil zero = refl
  drop-nil (suc n) = refl

  nothing-on-way : (l : ℕ) → on_way s.net lost (start s.net) l ≡ []
  nothing-on-way l = let n = taken (choice_of s.net l) (history (start s.net) (link_of s.net l).to) in
      ap (λ h. drop n (without_lost (lost l) 0 (put l h))) (turns.starts s.net (link_of s.net l).from) ∙ drop-nil n

  first-line : (l : ℕ) (loss : Option Loss) → GoesOn (lost l) 0 loss → IsLineOf s lost sizes (start s.net) l (new_line loss)
  first-line l loss g = let none : put l (history (start s.net) (link_of s.net l).from) ≡ [] = ap (put l) (turns.starts s.net (link_of s.net l).from) in record {
    queue = subst (λ ms. AreQueued s.net sizes (history (start s.net)) (link_of s.net l).from (told_by (choice_of s.net l) (history (start s.net) (link_of s.net l).to)) ms []) (sym (nothing-on-way l)) tt;
    loss = subst (λ ms. GoesOn (lost l) (length ms) loss) (sym none) g;
    count = sym (ap (λ ms. tally (λ k. lost l k) (range_with_len 1 (length ms))) none);
  }

  pub first-image : (states : List S) (losses : List (Option Loss)) → IsFirst s lost Stands states losses → IsImage s lost sizes Stands (start s.net) (first_scene (plan_of s.net) states losses)
  first-image states losses f = record {
    plan = refl;
    states_each = f.states_each;
    states = f.states_stand;
    lines_each = length-map losses new_line ∙ f.losses_each;
    lines = λ l p. subst (IsLineOf s lost sizes (start s.net) l) (sym (get_or-map new_line losses l None empty_line (let n = f.losses_each in omega (arith, n, p)))) (first-line l (slice_index_or losses l None) (f.losses_go l p));
  }
