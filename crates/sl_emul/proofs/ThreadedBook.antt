-- The book of a run with a thread for each actor, by the laws of finishing.
use Rattle.std.proofs.Common.{◌≡◌, ℕ, ◌^◌, ◌<◌, ◌≤◌, List, [], ◌∷◌, ◌++◌, length, take, drop, cond, refl, sym, ap, ◌∙◌, subst, arith, length-append}
use Rattle.std.proofs.lemmas.List.{length-map}
use Rattle.std.proofs.Math.Seq.{take-append_seam, drop-append_seam}
use Rattle.sl_machine.specs.declared.wiring.Entry.{Entry as BookEntry}
use Rattle.sl_net.specs.Input.{Input}
use Rattle.sl_net.specs.Wired.{IsNet}
use Rattle.sl_wire.specs.declared.message.Msg.{Msg}
use Rattle.sl_model.specs.History.{World, Losses}
use Rattle.sl_model.specs.Setup.{Setup, setup_of}
use Rattle.sl_model.specs.World.{Entry, start, turn, world, kept, kept_from, IsLegalFrom}
use Rattle.sl_model.specs.End.{IsFin}
use Rattle.sl_model.specs.Books.{schedule_of}
use Rattle.sl_model.specs.Bound.{bound_of}
use Rattle.sl_model.specs.Sweeps.{sweeps_in}
use Rattle.sl_world.specs.Scene.{Scene, last_number}
use Rattle.sl_world.specs.Legal.{numbered_from}
use Rattle.sl_proto.specs.Nodes.{NodeState}
use Rattle.sl_proto.specs.Runs.{grown}
use Rattle.sl_proto.specs.Standing.{case_of, world_of, StandsFor, FinishesTo}
use Rattle.sl_emul.specs.Run.{HasEnded}
use Rattle.sl_emul.specs.Finishing.{IsFinishedFrom}
use Rattle.sl_emul.specs.Threaded.{HasRested, IsThreadedFront, IsThreadedBook}
use Rattle.sl_emul.proofs.Books.{Consistent}

-- what the law of bounded runs says
abbrev pub RunsBounded : Type 0
RunsBounded = (s : Setup) (lost : Losses) (es fs : List Entry) → IsNet s.net → IsFin s lost (world s lost es) fs → length (kept s lost es ++ fs) ≤ bound_of s (sweeps_in s.net es)

-- nothing is left out of a legal schedule
kept-legal : (s : Setup) (lost : Losses) (w : World) (es : List Entry) → IsLegalFrom s lost w es → kept_from s lost w es ≡ es
kept-legal s lost w [] legal = refl
kept-legal s lost w (e ∷ es) legal =
    ap (λ b. cond b (e ∷ kept_from s lost (turn s lost w e) es) (kept_from s lost w es)) legal.0 ∙ ap (λ (l : List Entry). e ∷ l) (kept-legal s lost (turn s lost w e) es legal.1)

between : (a b c d : ℕ) → a ≤ b → b ≤ c → c < d → a < d
between a b c d p q r = omega (arith, p, q, r)

-- the law that a schedule grows with its book
abbrev pub SchedulesGrow : Type 0
SchedulesGrow = (book : List BookEntry) (es : List Entry) → schedule_of (grown book es) ≡ schedule_of book ++ es

-- from the scene u to which the threads came by finishing to t
module _ (grows : SchedulesGrow) (i : Input) (lost : Losses) (u t : Scene NodeState Msg) (ends : FinishesTo (case_of i lost) u t) where
  whole-book : t.book ≡ grown u.book ends.turns
  whole-book = ends.goes.book

  front-book : take (length u.book) t.book ≡ u.book
  front-book = ap (take (length u.book)) whole-book ∙ take-append_seam u.book (numbered_from (last_number u.book) ends.turns)

  whole : schedule_of t.book ≡ schedule_of u.book ++ ends.turns
  whole = ap schedule_of whole-book ∙ grows u.book ends.turns

  count : length (schedule_of u.book) ≡ length u.book
  count = length-map u.book (λ (e : BookEntry). (e.actor, e.choice))

  front-is : take (length u.book) (schedule_of t.book) ≡ schedule_of u.book
  front-is = ap (λ n. take n (schedule_of t.book)) (sym count) ∙ ap (take (length (schedule_of u.book))) whole ∙ take-append_seam (schedule_of u.book) ends.turns

  rest-is : drop (length u.book) (schedule_of t.book) ≡ ends.turns
  rest-is = ap (λ n. drop n (schedule_of t.book)) (sym count) ∙ ap (drop (length (schedule_of u.book))) whole ∙ drop-append_seam (schedule_of u.book) ends.turns

  part : length u.book ≤ length t.book
  part =
      let n : length t.book ≡ length (u.book ++ numbered_from (last_number u.book) ends.turns) = ap (λ (b : List BookEntry). length b) whole-book in
      omega (arith, n, length-append u.book (numbered_from (last_number u.book) ends.turns))

  bounded : RunsBounded → IsNet i.net → StandsFor i.net (case_of i lost) u → IsThreadedFront i lost u.book → length t.book ≤ bound_of (setup_of i) 0
  bounded bound net stands front =
      let all : length (kept (setup_of i) lost (schedule_of u.book) ++ ends.turns) ≤ bound_of (setup_of i) (sweeps_in i.net (schedule_of u.book)) = bound (setup_of i) lost (schedule_of u.book) ends.turns net ends.finishes in
      let same : kept (setup_of i) lost (schedule_of u.book) ++ ends.turns ≡ schedule_of t.book = ap (λ (es : List Entry). es ++ ends.turns) (kept-legal (setup_of i) lost (start i.net) (schedule_of u.book) stands.legal) ∙ sym whole in
      subst (λ n. n ≤ bound_of (setup_of i) 0) (ap (λ (es : List Entry). length es) same ∙ length-map t.book (λ (e : BookEntry). (e.actor, e.choice)))
      (subst (λ n. length (kept (setup_of i) lost (schedule_of u.book) ++ ends.turns) ≤ bound_of (setup_of i) n) front.no_sweep all)

  module _ (bound : RunsBounded) (consistent : Consistent) (net : IsNet i.net) (first : StandsFor i.net (case_of i lost) u) (stands : StandsFor i.net (case_of i lost) t)
      (front : IsThreadedFront i lost u.book) (rest : length u.book < 2 ^ 27 → HasRested (setup_of i) (world_of (case_of i lost) u)) where
    is-book : IsThreadedBook i lost t.book (length u.book)
    is-book = record {
      within_book = part;
      threads = subst (IsThreadedFront i lost) (sym front-book) front;
      rested = λ small. subst (λ (es : List Entry). HasRested (setup_of i) (world (setup_of i) lost es)) (sym front-is)
          (rest (between (length u.book) (length t.book) (bound_of (setup_of i) 0) (2 ^ 27) part (bounded bound net first front) small));
      finishing = subst (λ (es : List Entry). IsFin (setup_of i) lost (world (setup_of i) lost es) (drop (length u.book) (schedule_of t.book))) (sym front-is)
          (subst (IsFin (setup_of i) lost (world_of (case_of i lost) u)) (sym rest-is) ends.finishes);
      goes_on = whole-book ∙ ap (λ (b : List BookEntry). grown b ends.turns) (sym front-book) ∙ ap (λ (es : List Entry). grown (take (length u.book) t.book) es) (sym rest-is);
      legal = stands.legal;
      within = bounded bound net first front;
      ended = record { finished = ends.finished; cuts_consistent = λ k. consistent (setup_of i) lost (schedule_of t.book) k net };
    }

-- the scene v to which finishing leads from the scene u to which the threads came
pub has-ended : (i : Input) (lost : Losses) (u v : Scene NodeState Msg) (front : ℕ) → IsFinishedFrom i lost u v front → SchedulesGrow → RunsBounded → Consistent → IsNet i.net → StandsFor i.net (case_of i lost) u
    → IsThreadedFront i lost u.book → (length u.book < 2 ^ 27 → HasRested (setup_of i) (world_of (case_of i lost) u)) → HasEnded IsThreadedBook i lost v front
has-ended i lost u v front done grows bound consistent net first threads rest = record {
  run = subst (IsThreadedBook i lost v.book) (sym done.front_is) (is-book grows i lost u v done.finishing bound consistent net first done.stands threads rest);
  stands = done.stands;
  few = done.few;
}
