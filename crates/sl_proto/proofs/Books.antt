-- The book of a run, by the laws of finishing.
use Rattle.std.proofs.Common.{◌≡◌, ℕ, ◌≤◌, List, [], ◌++◌, length, take, drop, sym, ap, ◌∙◌, subst, refl}
use Rattle.std.proofs.lemmas.List.{length-map}
use Rattle.std.proofs.Math.Seq.{take-append_seam, drop-append_seam}
use Rattle.std.specs.List.{range_with_len}
use Rattle.sl_machine.specs.declared.wiring.Entry.{Entry as BookEntry}
use Rattle.sl_machine.specs.Plan.{IsSound}
use Rattle.sl_net.specs.Input.{Input}
use Rattle.sl_net.specs.Wired.{IsNet}
use Rattle.sl_layout.specs.Wiring.{plan_of}
use Rattle.sl_wire.specs.declared.message.Msg.{Msg}
use Rattle.sl_model.specs.History.{World, Losses}
use Rattle.sl_model.specs.Setup.{Setup, setup_of}
use Rattle.sl_model.specs.World.{Entry, IsLossTable, start, world, kept, kept_from}
use Rattle.sl_model.specs.Schedule.{expand}
use Rattle.sl_model.specs.End.{IsFin}
use Rattle.sl_model.specs.Books.{schedule_of, numbers_of}
use Rattle.sl_model.specs.Finished.{IsBookOfRun}
use Rattle.sl_model.specs.Bound.{input_bound}
use Rattle.sl_model.specs.Cut.{cuts}
use Rattle.sl_model.specs.Matching.{IsConsistentCut}
use Rattle.sl_model.specs.Turns.{TakesTurns}
use Rattle.sl_world.specs.Scene.{Scene}
use Rattle.sl_proto.specs.Nodes.{NodeState}
use Rattle.sl_proto.specs.Meaning.{IsRunnable}
use Rattle.sl_proto.specs.Runs.{grown, Follows, IsBookOfTurns}
use Rattle.sl_proto.specs.Standing.{case_of, world_of, run_at, StandsFor, FinishesTo}
use Rattle.sl_proto.specs.RunBook.{CanRun, IsRunBook}

-- What the laws of lower crates say.

abbrev pub Bounded : Type 0
Bounded = (i : Input) (lost : Losses) (fs : List Entry) → IsNet i.net → IsFin (setup_of i) lost (world (setup_of i) lost (expand i.net i.script)) fs
    → length (kept (setup_of i) lost (expand i.net i.script) ++ fs) ≤ input_bound i

abbrev pub Consistent : Type 0
Consistent = (s : Setup) (lost : Losses) (es : List Entry) (k : ℕ) → IsNet s.net → IsConsistentCut s.net lost (world s lost es) (cuts (world s lost es) k)

-- an input that can be run has what the laws of nodes ask
pub runnable : (i : Input) (lost : Losses) → CanRun i → IsSound (plan_of i.net) → IsLossTable i.net lost → IsRunnable (setup_of i) i.snapshot lost
runnable i lost can sound table = record {
  net = can.net;
  sound = sound;
  losses = table;
  short = can.short;
  is_table = record { window = refl; count = refl; retries = refl; credits = refl; some_credits = can.snapshot.some_credits; few_bits = can.snapshot.few_bits; apart = can.snapshot.few_window; room = can.snapshot.some_ring; carried = can.carried };
}

-- the laws of books that grow by turns
abbrev pub Grows : Type 0
Grows = (book : List BookEntry) (es fs : List Entry) → grown (grown book es) fs ≡ grown book (es ++ fs)

abbrev pub Numbers : Type 0
Numbers = (es : List Entry) → IsBookOfTurns (record { entries = grown [] es }) es

-- from the first scene v, whose book is empty, by the script to u and by finishing to t
module _ (turns : TakesTurns) (i : Input) (lost : Losses) (v u t : Scene NodeState Msg) (grows : Grows) (numbers : Numbers) (empty : v.book ≡ [])
    (script : Follows (setup_of i) lost (run_at (case_of i lost) v) (expand i.net i.script) (run_at (case_of i lost) u))
    (ends : FinishesTo (case_of i lost) u t) where
  abbrev first : List Entry
  first = kept (setup_of i) lost (expand i.net i.script)

  first-book : u.book ≡ grown [] first
  first-book = subst (λ (b : List BookEntry). u.book ≡ grown b (kept_from (setup_of i) lost (world (setup_of i) lost (schedule_of b)) (expand i.net i.script))) empty script.book

  script-book : schedule_of u.book ≡ first
  script-book = ap schedule_of first-book ∙ (numbers first).schedule

  whole-book : t.book ≡ grown [] (first ++ ends.turns)
  whole-book = ends.goes.book ∙ ap (λ (b : List BookEntry). grown b ends.turns) first-book ∙ grows [] first ends.turns

  whole : schedule_of t.book ≡ first ++ ends.turns
  whole = ap schedule_of whole-book ∙ (numbers (first ++ ends.turns)).schedule

  count : length u.book ≡ length first
  count = sym (length-map u.book (λ (e : BookEntry). (e.actor, e.choice))) ∙ ap length script-book

  front-is : take (length u.book) (schedule_of t.book) ≡ first
  front-is = ap (λ n. take n (schedule_of t.book)) count ∙ ap (take (length first)) whole ∙ take-append_seam first ends.turns

  rest-is : drop (length u.book) (schedule_of t.book) ≡ ends.turns
  rest-is = ap (λ n. drop n (schedule_of t.book)) count ∙ ap (drop (length first)) whole ∙ drop-append_seam first ends.turns

  is-book : StandsFor i.net (case_of i lost) t → IsBookOfRun i lost t.book (length u.book)
  is-book stands = record {
    count = count;
    script = front-is;
    finishing = subst (λ es. IsFin (setup_of i) lost (world (setup_of i) lost es) (drop (length u.book) (schedule_of t.book))) (script-book ∙ sym front-is)
        (subst (IsFin (setup_of i) lost (world_of (case_of i lost) u)) (sym rest-is) ends.finishes);
    legal = stands.legal;
    numbers = subst (λ (b : List BookEntry). numbers_of b ≡ range_with_len 1 (length b)) (sym whole-book) (numbers (first ++ ends.turns)).numbers;
  }

  reached : world_of (case_of i lost) u ≡ world (setup_of i) lost (expand i.net i.script)
  reached = ap (world (setup_of i) lost) script-book ∙ turns.kept (setup_of i) lost (start i.net) (expand i.net i.script)

  pub is-run : Bounded → Consistent → IsNet i.net → StandsFor i.net (case_of i lost) t → IsRunBook i lost t.book (length u.book)
  is-run bounded consistent net stands = record {
    run = is-book stands;
    within = subst (λ n. n ≤ input_bound i) (sym (ap length whole) ∙ length-map t.book (λ (e : BookEntry). (e.actor, e.choice)))
        (bounded i lost ends.turns net (subst (λ (w : World). IsFin (setup_of i) lost w ends.turns) reached ends.finishes));
    ended = record { finished = ends.finished; cuts_consistent = λ k. consistent (setup_of i) lost (schedule_of t.book) k net };
  }
