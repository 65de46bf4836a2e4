-- Readings of units with bad frames blanked.
use Rattle.std.proofs.Common.{◌≡◌, ℕ, suc, ◌-◌, List, [], ◌∷◌, ◌++◌, length, refl, sym, ap, ◌∙◌, Option, Some, None, take}
use Rattle.std.specs.Prelude.{map, option_map, slice_index, slice_get, find, replicate}
use Rattle.sl_parts.specs.Parts.{below}
use Rattle.sl_layout.specs.Net.{Net, links_into, units}
use Rattle.sl_model.specs.declared.message.Step.{Step}
use Rattle.sl_model.specs.History.{History, World, Losses, history, taken}
use Rattle.sl_model.specs.Counting.{counted_in, packets, bytes}
use Rattle.sl_model.specs.Putting.{Putters, no_putters, putters_after}
use Rattle.sl_model.specs.Setup.{Setup}
use Rattle.sl_model.specs.World.{Entry, start, next_step, turn, world}
use Rattle.sl_poll.specs.Reading.{read_after, reads, breaks, broken_by}
use Rattle.sl_poll.specs.Trail.{pair_from, pair_by, pairs_from}
use Rattle.sl_cut.specs.Hostile.{blank_step, blank_history, blank_world}
use Rattle.sl_cut.proofs.Hostile.Frames.{blank_setup, counted-blank, through}
use Rattle.sl_cut.proofs.Hostile.Told.{blank-keeps}
use Rattle.sl_cut.proofs.Hostile.Kept.{bytes-kept, packets-kept, taken-kept}
use Rattle.sl_cut.proofs.Hostile.Worlds.{of_actor, next-blank, turn-blank, start-blank, world-blank}
use Rattle.sl_cut.proofs.Hostile.Ended.{count-carried}

pair-blank : (net : Net) (w : World) (n : ℕ) (putters : Putters) (e : Entry) (l : Option ℕ) (o : Option Step)
    → pair_by net (blank_world w) n putters e l (option_map blank_step o) ≡ pair_by net w n putters e l o
pair-blank net w n putters e (Some l) (Some step) = λ i. pair_from net n (putters l) l (of_actor (taken e.1) (taken-kept blank_step blank-keeps e.1) w e.0 i) (through counted_in counted-blank step.taken i)
pair-blank net w n putters e (Some l) None = refl
pair-blank net w n putters e None o = none o
  where
    none : (o : Option Step) → pair_by net (blank_world w) n putters e None (option_map blank_step o) ≡ pair_by net w n putters e None o
    none None = refl
    none (Some step) = refl

putters-blank : (net : Net) (lost : Losses) (w v : World) (n : ℕ) (putters : Putters) → putters_after net lost (blank_world w) (blank_world v) n putters ≡ putters_after net lost w v n putters
putters-blank net lost w v n putters = λ i l. putters l ++ replicate (count-carried net lost v l i - count-carried net lost w l i) n

pairs-blank : (s : Setup) (lost : Losses) (w : World) (n : ℕ) (putters : Putters) (es : List Entry)
    → pairs_from (blank_setup s) lost (blank_world w) n putters es ≡ pairs_from s lost w n putters es
pairs-blank s lost w n putters [] = refl
pairs-blank s lost w n putters (e ∷ es) =
    let l = slice_get (links_into s.net e.0) e.1 in
    let v = turn s lost w e in
    let first = ap (pair_by s.net (blank_world w) n putters e l) (next-blank s lost w e) ∙ pair-blank s.net w n putters e l (next_step s lost w e) in
    let rest = ap (λ x. pairs_from (blank_setup s) lost x (suc n) (putters_after s.net lost (blank_world w) x n putters) es) (turn-blank s lost w e)
    ∙ ap (λ p. pairs_from (blank_setup s) lost (blank_world v) (suc n) p es) (putters-blank s.net lost w v n putters)
    ∙ pairs-blank s lost v (suc n) (putters_after s.net lost w v n putters) es in
    λ i. first i ++ rest i

pub broken-blank : (s : Setup) (lost : Losses) (es : List Entry) (begin gap : ℕ) → broken_by (blank_setup s) lost es begin gap ≡ broken_by s lost es begin gap
broken-blank s lost es begin gap = ap (find (breaks s.net (length es) begin gap))
    (ap (λ w. pairs_from (blank_setup s) lost w 1 no_putters es) (sym (start-blank s.net)) ∙ pairs-blank s lost (start s.net) 1 no_putters es)

pub reads-blank : (s : Setup) (lost : Losses) (es : List Entry) (begin gap : ℕ) → reads (blank_setup s) lost es begin gap ≡ reads s lost es begin gap
reads-blank s lost es begin gap = λ i. map (λ place. record {
  unit = place;
  at = at place;
  packets = told packets (packets-kept blank_step blank-keeps) place i;
  bytes = told bytes (bytes-kept blank_step blank-keeps) place i;
}) (below (length (units s.net)))
  where
    at : ℕ → ℕ
    at place = read_after (length es) begin gap place

    told : (f : History → ℕ) → ((h : History) → f (blank_history h) ≡ f h) → (place : ℕ)
        → f (history (world (blank_setup s) lost (take (at place) es)) (slice_index (units s.net) place)) ≡ f (history (world s lost (take (at place) es)) (slice_index (units s.net) place))
    told f e place = ap (λ w. f (history w (slice_index (units s.net) place))) (world-blank s lost (take (at place) es))
        ∙ of_actor f e (world s lost (take (at place) es)) (slice_index (units s.net) place)
