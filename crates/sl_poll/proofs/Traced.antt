-- A schedule followed entry by entry.
use Rattle.std.proofs.Common.{◌≡◌, ℕ, suc, ◌+◌, ◌<◌, ◌^◌, List, [], ◌∷◌, ◌++◌, length, get_or, drop, refl, sym, ap, subst, ◌∙◌, Option, Some, None, arith, append-nil, append_assoc, zero-add}
use Rattle.std.specs.Prelude.{map, slice_get, IsSome}
use Rattle.std.proofs.Math.Seq.{drop-cons}
use Rattle.std.proofs.Math.ListN.{drop_of_length-le}
use Rattle.std.proofs.lemmas.List.Elements.{All-nil, All-cons}
use Rattle.std.specs.List.{All}
use Rattle.std.proofs.lemmas.List.FromFn.{get_or-map-range_with_len, length-map-range_with_len}
use Rattle.sl_parts.specs.Parts.{below}
use Rattle.sl_parts.proofs.Lists.{inside}
use Rattle.sl_layout.specs.Net.{Net, link_of, links_into, action_choice}
use Rattle.sl_net.specs.Input.{Input}
use Rattle.sl_net.specs.Wired.{IsWired}
use Rattle.sl_model.specs.declared.message.Step.{Step}
use Rattle.sl_model.specs.History.{World, taken, put, carried_by}
use Rattle.sl_model.specs.Losses.{loss_after, losses}
use Rattle.sl_model.specs.Setup.{Setup, setup_of}
use Rattle.sl_model.specs.Turns.{TakesTurns}
use Rattle.sl_model.specs.World.{Entry, start, next_step, turn, IsLegalFrom, IsLegal}
use Rattle.sl_input.specs.Answers.{AnswerInOrder}
use Rattle.sl_poll.specs.declared.trail.Pair.{Pair}
use Rattle.sl_poll.specs.declared.trail.Counted.{Counted}
use Rattle.sl_poll.specs.Lanes.{Lane, new_lane, AreFew}
use Rattle.sl_model.specs.Putting.{Putters, no_putters, putters_after}
use Rattle.sl_poll.specs.Trail.{pair_by, pairs_from, pairs, count_by, counted_from, all_counted}
use Rattle.sl_poll.specs.Ways.{Feed, no_feed, first_lane, first_feed, lanes_after, feeds_after, pairs_told, counts_told}
use Rattle.sl_poll.proofs.Moves.{sized-start}
use Rattle.sl_poll.proofs.Pairs.{of_channel}
use Rattle.sl_poll.proofs.Follows.{LaneIs, FeedIs, Follows, kept}

drop-none : {A : Type 0} (k : ℕ) → ◌≡◌ {A = List A} (drop k []) []
drop-none k = drop_of_length-le [] (omega arith)

first-lane : TakesTurns → (i : Input) (l : ℕ) → LaneIs i (start i.net) no_putters l (first_lane i l)
first-lane turns i l = let e = turns.starts i.net (link_of i.net l).from in record {
  size = sym (ap (λ h. length (carried_by (losses i) l h)) e);
  queue = sym (drop-none _);
  loss = sym (ap (λ h. loss_after i l (length (put l h))) e);
  puts = sym (ap (λ h. length (put l h)) e);
}

first-feed : TakesTurns → (s : Setup) (a : ℕ) → FeedIs s (start s.net) a (first_feed s a)
first-feed turns s a = record { frames = refl; sent = λ h q. sym (ap (taken (action_choice s.net a)) (turns.starts s.net a)) }

pub first-follows : (i : Input) → TakesTurns → Follows i (start i.net) no_putters (map (first_lane i) (below (length i.net.links))) (map (first_feed (setup_of i)) (below (length i.net.actors)))
first-follows i turns = record {
  fifo_run = turns.fifo_run (setup_of i) (losses i) [];
  sized = sized-start (setup_of i);
  lanes_each = length-map-range_with_len (first_lane i) 0 (length i.net.links);
  feeds_each = length-map-range_with_len (first_feed (setup_of i)) 0 (length i.net.actors);
  lane = λ l low b. subst (LaneIs i (start i.net) no_putters l) (sym (get_or-map-range_with_len (first_lane i) 0 (length i.net.links) l _ (new_lane None) low (zero-add l))) (first-lane turns i l);
  feed = λ a low. subst (FeedIs (setup_of i) (start i.net) a) (sym (get_or-map-range_with_len (first_feed (setup_of i)) 0 (length i.net.actors) a _ no_feed low (zero-add a))) (first-feed turns (setup_of i) a);
}

pub few-first : (i : Input) (ls : List ℕ) → AreFew (map (first_lane i) ls)
few-first i [] = All-nil (λ (lane : Lane). lane.puts < 2 ^ 64)
few-first i (l ∷ ls) = All-cons (λ (lane : Lane). lane.puts < 2 ^ 64) (first_lane i l) (map (first_lane i) ls) (omega arith) (few-first i ls)

-- after the first entries, what the trail has, and what the others tell
pub record Traced (i : Input) (es : List Entry) (index : ℕ) (lanes : List Lane) (feeds : List Feed) (ps : List Pair) (cs : List Counted) : Type 0 where
  pub world : World
  pub putters : Putters
  pub follows : Follows i world putters lanes feeds
  pub legal : IsLegalFrom (setup_of i) (losses i) world (drop index es)
  pub pairs : ps ++ pairs_from (setup_of i) (losses i) world (index + 1) putters (drop index es) ≡ pairs (setup_of i) (losses i) es
  pub counted : cs ++ counted_from (setup_of i) (losses i) world (index + 1) (drop index es) ≡ all_counted (setup_of i) (losses i) es

pub traced_first : (i : Input) (es : List Entry) (lanes : List Lane) (feeds : List Feed) (ps : List Pair) (cs : List Counted) → TakesTurns → IsLegal (setup_of i) (losses i) es
    → lanes ≡ map (first_lane i) (below (length i.net.links)) → feeds ≡ map (first_feed (setup_of i)) (below (length i.net.actors)) → ps ≡ [] → cs ≡ [] → Traced i es 0 lanes feeds ps cs
traced_first i es lanes feeds ps cs turns legal l f p c = record {
  world = start i.net;
  putters = no_putters;
  follows = subst (λ fs. Follows i (start i.net) no_putters lanes fs) (sym f) (subst (λ ls. Follows i (start i.net) no_putters ls (map (first_feed (setup_of i)) (below (length i.net.actors)))) (sym l) (first-follows i turns));
  legal = legal;
  pairs = ap (λ r. r ++ pairs (setup_of i) (losses i) es) p;
  counted = ap (λ r. r ++ all_counted (setup_of i) (losses i) es) c;
}

-- the same of a listener who was told what the others tell
pub record Walked {L : Type 0} (heard : Net → L → L → List Pair → List Counted → Type 0) (first now : L) (i : Input) (es : List Entry) (index : ℕ) (lanes : List Lane) (feeds : List Feed) : Type 0 where
  pub told : List Pair
  pub counts : List Counted
  pub traced : Traced i es index lanes feeds told counts
  pub hears : heard i.net first now told counts

-- The next entry.

module _ (i : Input) (es : List Entry) (k : ℕ) (lanes : List Lane) (feeds : List Feed) (ps : List Pair) (cs : List Counted) (t : Traced i es k lanes feeds ps cs) (d : Entry) (low : k < length es) where
  abbrev e : Entry
  e = get_or es k d

  rest-is : drop k es ≡ e ∷ drop (k + 1) es
  rest-is = let one : suc k ≡ k + 1 = omega arith in drop-cons es k d low ∙ ap (λ j. get_or es k d ∷ drop j es) one

  legal-here : IsLegalFrom (setup_of i) (losses i) t.world (e ∷ drop (k + 1) es)
  legal-here = subst (IsLegalFrom (setup_of i) (losses i) t.world) rest-is t.legal

  step-of : (o : Option Step) → IsSome o → (step : Step) × (o ≡ Some step)
  step-of None h = absurd cc
  step-of (Some x) h = (x, refl)

  made : (step : Step) × (next_step (setup_of i) (losses i) t.world e ≡ Some step)
  made = step-of (next_step (setup_of i) (losses i) t.world e) legal-here.0

  pub traced_actor : TakesTurns → e.0 < length i.net.actors
  traced_actor turns = turns.within (setup_of i) (losses i) t.world e made.0 made.1

  more-here : IsWired i.net → TakesTurns → AnswerInOrder → (lanes' : List Lane) (feeds' : List Feed) (ps' : List Pair) (cs' : List Counted)
      → lanes' ≡ lanes_after i.net (k + 1) e.0 (slice_get (links_into i.net e.0) e.1) lanes feeds → feeds' ≡ feeds_after e.0 (slice_get (links_into i.net e.0) e.1) feeds
      → ps' ≡ ps ++ pairs_told i.net (k + 1) (slice_get (links_into i.net e.0) e.1) lanes → cs' ≡ cs ++ counts_told i.net (k + 1) e.0 (slice_get (links_into i.net e.0) e.1) lanes
      → AreFew lanes' → length lanes' ≡ length i.net.links → Traced i es (k + 1) lanes' feeds' ps' cs'
  more-here wired turns answer lanes' feeds' ps' cs' l f p c few each =
      let x = kept i wired turns answer t.world e made.0 made.1 (k + 1) t.putters lanes feeds t.follows (subst AreFew l few) (sym (ap length l) ∙ each) in
      let one : suc (k + 1) ≡ k + 1 + 1 = omega arith in
      record {
        world = turn (setup_of i) (losses i) t.world e;
        putters = putters_after i.net (losses i) t.world (turn (setup_of i) (losses i) t.world e) (k + 1) t.putters;
        follows = subst (λ ls. Follows i (turn (setup_of i) (losses i) t.world e) (putters_after i.net (losses i) t.world (turn (setup_of i) (losses i) t.world e) (k + 1) t.putters) ls feeds') (sym l)
            (subst (Follows i (turn (setup_of i) (losses i) t.world e) (putters_after i.net (losses i) t.world (turn (setup_of i) (losses i) t.world e) (k + 1) t.putters) (lanes_after i.net (k + 1) e.0 (slice_get (links_into i.net e.0) e.1) lanes feeds)) (sym f) x.follows);
        legal = legal-here.1;
        pairs = ap (λ r. r ++ more-pairs (k + 1 + 1)) p ∙ append_assoc ps (pairs_told i.net (k + 1) (slice_get (links_into i.net e.0) e.1) lanes) (more-pairs (k + 1 + 1))
            ∙ ap (λ r. ps ++ (r ++ more-pairs (k + 1 + 1))) (sym x.pairs) ∙ ap (λ j. ps ++ (pair_by i.net t.world (k + 1) t.putters e (slice_get (links_into i.net e.0) e.1) (next_step (setup_of i) (losses i) t.world e) ++ more-pairs j)) (sym one)
            ∙ ap (λ xs. ps ++ pairs_from (setup_of i) (losses i) t.world (k + 1) t.putters xs) (sym rest-is) ∙ t.pairs;
        counted = ap (λ r. r ++ more-counts (k + 1 + 1)) c ∙ append_assoc cs (counts_told i.net (k + 1) e.0 (slice_get (links_into i.net e.0) e.1) lanes) (more-counts (k + 1 + 1))
            ∙ ap (λ r. cs ++ (r ++ more-counts (k + 1 + 1))) (sym x.counted) ∙ ap (λ j. cs ++ (count_by i.net (k + 1) e.0 (next_step (setup_of i) (losses i) t.world e) ++ more-counts j)) (sym one)
            ∙ ap (λ xs. cs ++ counted_from (setup_of i) (losses i) t.world (k + 1) xs) (sym rest-is) ∙ t.counted;
      }
    where
      more-pairs : ℕ → List Pair
      more-pairs j = pairs_from (setup_of i) (losses i) (turn (setup_of i) (losses i) t.world e) j (putters_after i.net (losses i) t.world (turn (setup_of i) (losses i) t.world e) (k + 1) t.putters) (drop (k + 1) es)

      more-counts : ℕ → List Counted
      more-counts j = counted_from (setup_of i) (losses i) (turn (setup_of i) (losses i) t.world e) j (drop (k + 1) es)

  -- the same, of a net and a number that are the same
  pub traced_more : IsWired i.net → TakesTurns → AnswerInOrder → (net : Net) → net ≡ i.net → (n : ℕ) → n ≡ k + 1 → (lanes' : List Lane) (feeds' : List Feed) (ps' : List Pair) (cs' : List Counted)
      → lanes' ≡ lanes_after net n e.0 (slice_get (links_into net e.0) e.1) lanes feeds → feeds' ≡ feeds_after e.0 (slice_get (links_into net e.0) e.1) feeds
      → ps' ≡ ps ++ pairs_told net n (slice_get (links_into net e.0) e.1) lanes → cs' ≡ cs ++ counts_told net n e.0 (slice_get (links_into net e.0) e.1) lanes
      → AreFew lanes' → length lanes' ≡ length net.links → Traced i es (k + 1) lanes' feeds' ps' cs'
  traced_more wired turns answer net q n r lanes' feeds' ps' cs' l f p c few each = more-here wired turns answer lanes' feeds' ps' cs'
      (l ∙ ap (λ j. lanes_after net j e.0 (slice_get (links_into net e.0) e.1) lanes feeds) r ∙ ap (λ (m : Net). lanes_after m (k + 1) e.0 (slice_get (links_into m e.0) e.1) lanes feeds) q)
      (f ∙ ap (λ (m : Net). feeds_after e.0 (slice_get (links_into m e.0) e.1) feeds) q)
      (p ∙ ap (λ j. ps ++ pairs_told net j (slice_get (links_into net e.0) e.1) lanes) r ∙ ap (λ (m : Net). ps ++ pairs_told m (k + 1) (slice_get (links_into m e.0) e.1) lanes) q)
      (c ∙ ap (λ j. cs ++ counts_told net j e.0 (slice_get (links_into net e.0) e.1) lanes) r ∙ ap (λ (m : Net). cs ++ counts_told m (k + 1) e.0 (slice_get (links_into m e.0) e.1) lanes) q)
      few (each ∙ ap (λ (m : Net). length m.links) q)

-- after all entries the trail has all
pub record Whole (i : Input) (es : List Entry) (ps : List Pair) (cs : List Counted) : Type 0 where
  pub pairs : ps ≡ pairs (setup_of i) (losses i) es
  pub counted : cs ≡ all_counted (setup_of i) (losses i) es

pub traced_all : (i : Input) (es : List Entry) (k : ℕ) (lanes : List Lane) (feeds : List Feed) (ps : List Pair) (cs : List Counted) → Traced i es k lanes feeds ps cs → length es ≡ k → Whole i es ps cs
traced_all i es k lanes feeds ps cs t all = let none : drop k es ≡ [] = drop_of_length-le es (omega (arith, all)) in record {
  pairs = sym (append-nil ps) ∙ ap (λ xs. ps ++ pairs_from (setup_of i) (losses i) t.world (k + 1) t.putters xs) (sym none) ∙ t.pairs;
  counted = sym (append-nil cs) ∙ ap (λ xs. cs ++ counted_from (setup_of i) (losses i) t.world (k + 1) xs) (sym none) ∙ t.counted;
}

-- the pairs are of links of the net
pub pairs_low : (i : Input) (es : List Entry) (ps : List Pair) (net : Net) → ps ≡ pairs (setup_of i) (losses i) es → net ≡ i.net → All (λ p. p.link < length net.links) ps
pairs_low i es ps net p q = subst (λ (m : Net). All (λ p. p.link < length m.links) ps) (sym q) (subst (All (λ p. p.link < length i.net.links)) (sym p)
    (λ k d h. (of_channel (setup_of i) (losses i) (start i.net) 1 no_putters es (get_or (pairs (setup_of i) (losses i) es) k d) (inside (pairs (setup_of i) (losses i) es) k d h)).link))
