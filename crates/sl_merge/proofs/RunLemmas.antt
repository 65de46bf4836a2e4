-- The steps of all histories, woven into one list in the order of their numbers, are a run.
use Rattle.std.proofs.Common.{◌≡◌, ℕ, ◌<◌, ◌≤◌, List, [], ◌∷◌, ◌++◌, length, map, slice_get, Option, Some, None, sym, ap, ap₂, ◌∙◌, subst, arith}
use Rattle.std.specs.Prelude.{slice_index, ⊤}
use Rattle.std.specs.Option.{option_map}
use Rattle.std.specs.List.{AllByRecursion}
use Rattle.std.proofs.Math.ListN.{get_or-map}
use Rattle.std.proofs.lemmas.List.{length-map}
use Rattle.std.proofs.lemmas.List.Elements.{All-from_recursion}
use Rattle.std.proofs.lemmas.Option.{slice_get-map, slice_get_within}
use Rattle.sl_machine.specs.Machine.{Rules}
use Rattle.sl_machine.specs.Plan.{link_at}
use Rattle.sl_machine.specs.declared.wiring.Entry.{Entry}
use Rattle.sl_loss.specs.Loss.{Loss}
use Rattle.sl_link.specs.declared.ends.Stamped.{Stamped}
use Rattle.sl_actor.specs.Histories.{Step, IsHistory, last_state, put_on, taken_by, AreChosen, numbered, number}
use Rattle.sl_actor.specs.Losses.{kept, loss_after, lost_after}
use Rattle.sl_world.specs.Scene.{Scene, Line, empty_line, line_at, new_line, first_scene, run_of, schedule_of}
use Rattle.sl_merge.specs.Lamport.{unnumbered, times_of}
use Rattle.sl_merge.specs.Outcome.{Outcome, AreFollowed, IsRun, loss_at, put_at, taken_at}
use Rattle.sl_merge.proofs.GetLemmas.{same_gets, some_at}
use Rattle.sl_merge.proofs.LineLemmas.{tally, tally_after, tally_is}
use Rattle.sl_merge.proofs.WeavingLemmas.{schedule_by, StepsFrom, Ascends, all_taken, all_put, LeadsTo, leads}
use Rattle.sl_merge.proofs.PartLemmas.{part_of, AreBelow, Histories, woven, last_states, length-states_after, all_linked, taken_there, put_there}
use Rattle.sl_merge.proofs.ForgettingLemmas.{seen_line, seen, run-seen}
use Rattle.sl_merge.proofs.BoundLemmas.{times_up}
use Rattle.sl_merge.proofs.NumberLemmas.{time, state, stamp, message, zeros, states-seen, first_at, empties, lines-seen, timed, plain, slow}

-- these numbers never fall
abbrev pub AreRising : List ℕ → Type 0
AreRising [] = ⊤
AreRising (n ∷ ns) = AllByRecursion (λ m. n ≤ m) ns × AreRising ns

-- a list of steps, each with its actor, that has the steps of all, in the order of their numbers
pub record IsWeave {S M : Type 0} (actors : ℕ) (histories : ℕ → List (Step (S × ℕ) (Stamped M))) (merged : List (ℕ × Step (S × ℕ) (Stamped M))) : Type 0 where
  pub below : AreBelow actors merged
  pub parts : (a : ℕ) → a < actors → part_of a merged ≡ histories a
  pub ordered : AreRising (map (λ e. number e.1) merged)

module _ {S M : Type 0} where
  steps_from : (n : ℕ) (es : List (ℕ × Step (S × ℕ) (Stamped M))) → AllByRecursion (λ (m : ℕ). n ≤ m) (map (λ e. number e.1) es) → StepsFrom time n es
  steps_from n [] h = tt
  steps_from n (f ∷ es) h = (h.0, steps_from n es h.1)

  ascends : (es : List (ℕ × Step (S × ℕ) (Stamped M))) → AreRising (map (λ e. number e.1) es) → Ascends time es
  ascends [] h = tt
  ascends (e ∷ es) h = (steps_from (number e.1) es h.0, ascends es h.1)

all-map : (n : ℕ) (book : List Entry) → AllByRecursion (λ (k : ℕ). k ≤ n) (map (λ e. e.number) book) → AllByRecursion (λ (e : Entry). e.number ≤ n) book
all-map n [] h = tt
all-map n (e ∷ book) h = (h.0, all-map n book h.1)

module _ {S M : Type 0} (rules : Rules S M) (o : Outcome S M) (h : AreFollowed rules o) (merged : List (ℕ × Step (S × ℕ) (Stamped M))) (m : IsWeave (length o.plan.ins) o.histories merged) where
  abbrev first : Scene (S × ℕ) (Stamped M)
  first = first_scene o.plan (unnumbered o.firsts) o.losses

  len : length (unnumbered o.firsts) ≡ length o.plan.ins
  len = length-map o.firsts (λ t. (t, 0)) ∙ h.firsts_each

  below : (a : ℕ) (s : S) → slice_get o.firsts a ≡ Some s → a < length o.plan.ins
  below a s here = subst (λ (n : ℕ). a < n) h.firsts_each (slice_get_within o.firsts a s here)

  all : Histories (numbered rules) (unnumbered o.firsts) merged
  all a s here =
      let t = first_at o.firsts a s here in
      subst (IsHistory (numbered rules) s) (sym (m.parts a (below a t.0 t.1))) (subst (λ (x : S × ℕ). IsHistory (numbered rules) x (o.histories a)) t.2 (h.runs a t.0 t.1))

  taken : (l : ℕ) → l < length o.plan.links → all_taken o.plan.links l merged ≡ taken_at o l
  taken l low = taken_there o.plan l h.sound low merged ∙ ap (taken_by (link_at o.plan.links l).choice) (m.parts (link_at o.plan.links l).to (h.sound.to_below l low))

  put : (l : ℕ) → l < length o.plan.links → all_put o.plan.links l merged ≡ put_at o l
  put l low = put_there o.plan l h.sound low merged ∙ ap (put_on (link_at o.plan.links l).out) (m.parts (link_at o.plan.links l).from (h.sound.from_below l low))

  at_first : (l : ℕ) → line_at first.lines l ≡ new_line (loss_at o l)
  at_first l = get_or-map new_line o.losses l None

  reached : LeadsTo (numbered rules) time stamp (timed rules) first merged o.left
  reached =
      leads (numbered rules) time stamp (timed rules) first merged o.left (length-map o.losses new_line ∙ h.losses_each)
      (woven (numbered rules) (length o.plan.ins) (unnumbered o.firsts) merged len m.below all)
      (all_linked o.plan merged h.sound m.below (λ a low. subst (AreChosen (slice_index o.plan.ins a)) (sym (m.parts a low)) (h.chosen a low)))
      (ascends merged m.ordered)
      (λ l low. ap (λ (t : List (Stamped M)). t ++ o.left l) (taken l low) ∙ h.tied l low ∙ ap (kept (loss_at o l)) (sym (put l low))
      ∙ ap (λ (x : Line (Stamped M)). x.queue ++ kept x.loss (all_put o.plan.links l merged)) (sym (at_first l)))

  first-seen : first_scene o.plan o.firsts o.losses ≡ seen state message first
  first-seen = ap₂ (λ (ss : List S) (ls : List (Line M)). record { plan = o.plan; states = ss; lines = ls; book = [] }) (sym (states-seen o.firsts)) (sym (lines-seen M o.losses))

  -- the loss of a link and how many it lost, where the steps lead
  counts : (l : ℕ) → l < length o.plan.links → tally (line_at reached.world.lines l) ≡ (loss_after (loss_at o l) (put_at o l), lost_after (loss_at o l) 0 (put_at o l))
  counts l low =
      reached.tallies l low
      ∙ (ap (λ (x : Line (Stamped M)). tally_after (tally x) (all_put o.plan.links l merged)) (at_first l)
      ∙ (ap (tally_after (loss_at o l, 0)) (put l low) ∙ tally_is (loss_at o l, 0) (put_at o l)))

  -- each machine ends as its actor left it
  last_at : (a : ℕ) (t : S) → slice_get o.lasts a ≡ Some t → slice_get (map state reached.world.states) a ≡ Some t
  last_at a t here =
      let low : a < length o.plan.ins = subst (λ (n : ℕ). a < n) h.lasts_each (slice_get_within o.lasts a t here) in
      let s = some_at o.firsts a (subst (λ (n : ℕ). a < n) (sym h.firsts_each) low) in
      let start : slice_get (unnumbered o.firsts) a ≡ Some (s.0, 0) = slice_get-map (λ t. (t, 0)) o.firsts a ∙ ap (option_map (λ t. (t, 0))) s.1 in
      let end : slice_get reached.world.states a ≡ Some (last_state (s.0, 0) (o.histories a)) =
      ap (λ (ss : List (S × ℕ)). slice_get ss a) reached.states ∙ (last_states (unnumbered o.firsts) merged a (s.0, 0) start ∙ ap (λ (es : List (Step (S × ℕ) (Stamped M))). Some (last_state (s.0, 0) es)) (m.parts a low)) in
      slice_get-map state reached.world.states a ∙ (ap (option_map state) end ∙ ap (λ (x : S). Some x) (h.ends a s.0 t s.1 here))

  pub weave_is_run : (book : List Entry) → schedule_by merged ≡ schedule_of book → map (λ e. number e.1) merged ≡ map (λ e. e.number) book → IsRun rules o book
  weave_is_run book schedule numbers =
      let line-seen : (l : ℕ) → line_at (map (seen_line message) reached.world.lines) l ≡ seen_line message (line_at reached.world.lines l) = λ l. get_or-map (seen_line message) reached.world.lines l empty_line in
      let long : length (schedule_by merged) ≡ length book = ap length schedule ∙ length-map book (λ e. (e.actor, e.choice)) in
      let states : length (map state reached.world.states) ≡ length o.lasts =
      length-map reached.world.states state ∙ (ap length reached.states ∙ (length-states_after (unnumbered o.firsts) merged ∙ (len ∙ sym h.lasts_each))) in
      record {
        world = seen state message reached.world;
        run = ap (run_of rules (first_scene o.plan o.firsts o.losses)) (sym schedule)
            ∙ (ap (λ (x : Scene S M). run_of rules x (schedule_by merged)) first-seen
            ∙ (run-seen state message (numbered rules) rules (plain rules) first (schedule_by merged) ∙ ap (option_map (seen state message)) reached.run));
        states = same_gets (map state reached.world.states) o.lasts states last_at;
        lines = length-map reached.world.lines (seen_line message) ∙ reached.len;
        queues = λ l low. ap (λ (x : Line M). x.queue) (line-seen l) ∙ ap (map message) (reached.queues l low);
        answered = λ l low. ap (λ (x : Line M). x.loss) (line-seen l) ∙ ap (λ (x : Option Loss × ℕ). x.0) (counts l low);
        counted = λ l low. ap (λ (x : Line M). x.lost) (line-seen l) ∙ ap (λ (x : Option Loss × ℕ). x.1) (counts l low);
        numbers = subst (λ (es : List (ℕ × ℕ)). times_of (numbered rules) time first es ≡ map (λ e. e.number) book) schedule (reached.times ∙ numbers);
        small = All-from_recursion (λ (e : Entry). e.number ≤ length book) book (all-map (length book) book
            (subst (AllByRecursion (λ (n : ℕ). n ≤ length book)) (reached.times ∙ numbers)
            (times_up time stamp (numbered rules) (slow rules) 0 (length book) first reached.world (schedule_by merged) (omega (arith, long)) (record { states = zeros o.firsts; lines = empties S M o.losses }) reached.run)));
      }
