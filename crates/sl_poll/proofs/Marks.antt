-- The marks of messages, and what puts leave on a link.
--     marks ps ms      the marks of messages that were put by these entries
use Rattle.std.proofs.Common.{◌≡◌, ℕ, zero, suc, ◌+◌, ◌<◌, ◌^◌, List, [], ◌∷◌, ◌++◌, length, get_or, set, drop, replicate, refl, sym, ap, ◌∙◌, Option, Some, None, arith, inl, inr, append-nil, append_assoc}
use Rattle.std.specs.Prelude.{◌⊎◌, Bool, true, false, cond, ◌==◌, if◌then◌else◌, map, slice_get, nat_eq}
use Rattle.std.proofs.lemmas.Bool.Decides.{eqb_tells}
use Rattle.std.proofs.lemmas.List.{get_or-set_same, get_or-set_other, length-set}
use Rattle.sl_loss.specs.Loss.{loses_next, after_put}
use Rattle.sl_layout.specs.Net.{Net}
use Rattle.sl_net.specs.declared.input.Packet.{Packet}
use Rattle.sl_net.specs.Input.{Input}
use Rattle.sl_model.specs.declared.message.Message.{Message}
use Rattle.sl_model.specs.Counting.{counted_in}
use Rattle.sl_model.specs.History.{without_lost}
use Rattle.sl_model.specs.Losses.{loss_after, losses}
use Rattle.sl_input.specs.Answers.{AnswerInOrder}
use Rattle.sl_poll.specs.declared.lane.Mark.{Mark}
use Rattle.sl_poll.specs.declared.way.Sends.{Sends}
use Rattle.sl_poll.specs.Lanes.{Lane, new_lane, lane_at, with_mark, put_each}
use Rattle.sl_poll.specs.Ways.{links_by, send_by}
use Rattle.sl_poll.proofs.Moves.{sent_on, sent_by}

abbrev pub mark : ℕ → Message → Mark
mark n m = record { put = n; packet = counted_in m }

abbrev pub marks : List ℕ → List Message → List Mark
marks [] ms = []
marks (p ∷ ps) [] = []
marks (p ∷ ps) (m ∷ ms) = mark p m ∷ marks ps ms

pub length-marks : (ps : List ℕ) (ms : List Message) → length ps ≡ length ms → length (marks ps ms) ≡ length ms
length-marks [] [] h = refl
length-marks [] (m ∷ ms) h = absurd (omega (arith, h))
length-marks (p ∷ ps) [] h = absurd (omega (arith, h))
length-marks (p ∷ ps) (m ∷ ms) h = ap suc (length-marks ps ms (omega (arith, h)))

pub marks-append : (ps qs : List ℕ) (ms ns : List Message) → length ps ≡ length ms → marks (ps ++ qs) (ms ++ ns) ≡ marks ps ms ++ marks qs ns
marks-append [] qs [] ns h = refl
marks-append [] qs (m ∷ ms) ns h = absurd (omega (arith, h))
marks-append (p ∷ ps) qs [] ns h = absurd (omega (arith, h))
marks-append (p ∷ ps) qs (m ∷ ms) ns h = ap (λ r. mark p m ∷ r) (marks-append ps qs ms ns (omega (arith, h)))

pub marks-new : (n : ℕ) (ms : List Message) → marks (replicate (length ms) n) ms ≡ map (mark n) ms
marks-new n [] = refl
marks-new n (m ∷ ms) = ap (λ r. mark n m ∷ r) (marks-new n ms)

-- the mark of the next message
pub mark-at : (ps : List ℕ) (ms : List Message) (k : ℕ) (m : Message) → length ps ≡ length ms → slice_get ms k ≡ Some m → slice_get (drop k (marks ps ms)) 0 ≡ Some (mark (get_or ps k 0) m)
mark-at [] [] k m h q = absurd cc
mark-at [] (x ∷ ms) k m h q = absurd (omega (arith, h))
mark-at (p ∷ ps) [] k m h q = absurd (omega (arith, h))
mark-at (p ∷ ps) (x ∷ ms) zero m h q = let e : x ≡ m = cc in ap (λ y. Some (mark p y)) e
mark-at (p ∷ ps) (x ∷ ms) (suc k) m h q = mark-at ps ms k m (omega (arith, h)) q

pub without-append : (lost : ℕ → Bool) (n : ℕ) (xs ys : List Message) → without_lost lost n (xs ++ ys) ≡ without_lost lost n xs ++ without_lost lost (n + length xs) ys
without-append lost n [] ys = let e : n ≡ n + 0 = omega arith in ap (λ k. without_lost lost k ys) e
without-append lost n (x ∷ xs) ys = let e : suc n + length xs ≡ n + suc (length xs) = omega arith in
    by_bool (lost (suc n)) (without-append lost (suc n) xs ys ∙ ap (λ k. without_lost lost (suc n) xs ++ without_lost lost k ys) e)
  where
    rest : List Message
    rest = without_lost lost (n + suc (length xs)) ys

    by_bool : (b : Bool) → without_lost lost (suc n) (xs ++ ys) ≡ without_lost lost (suc n) xs ++ rest
        → (if b then without_lost lost (suc n) (xs ++ ys) else x ∷ without_lost lost (suc n) (xs ++ ys)) ≡ (if b then without_lost lost (suc n) xs else x ∷ without_lost lost (suc n) xs) ++ rest
    by_bool true q = q
    by_bool false q = ap (λ r. x ∷ r) q

-- Puts on one link.

abbrev pub with_marks : ℕ → List (Option Packet) → Lane → Lane
with_marks n [] lane = lane
with_marks n (q ∷ qs) lane = with_marks n qs (with_mark (record { put = n; packet = q }) lane)

pub puts-count : (n : ℕ) (qs : List (Option Packet)) (lane : Lane) → (with_marks n qs lane).puts ≡ lane.puts + length qs
puts-count n [] lane = omega arith
puts-count n (q ∷ qs) lane = let r = puts-count n qs (with_mark (record { put = n; packet = q }) lane) in omega (arith, r)

-- the link after the entry n put these messages, after k others
pub record IsPut (i : Input) (l n k : ℕ) (ms : List Message) (lane new : Lane) : Type 0 where
  pub queue : new.queue ≡ lane.queue ++ map (mark n) (without_lost (losses i l) k ms)
  pub loss : new.loss ≡ loss_after i l (k + length ms)
  pub puts : new.puts ≡ k + length ms

pub all-put : AnswerInOrder → (i : Input) (l n k : ℕ) (ms : List Message) (lane : Lane) → lane.loss ≡ loss_after i l k → lane.puts ≡ k → k + length ms < 2 ^ 64 → IsPut i l n k ms lane (with_marks n (map counted_in ms) lane)
all-put answer i l n k [] lane p q f = let e : k ≡ k + 0 = omega arith in record { queue = sym (append-nil lane.queue); loss = p ∙ ap (loss_after i l) e; puts = omega (arith, q) }
all-put answer i l n k (m ∷ ms) lane p q f =
    let one : k + 1 ≡ suc k = omega arith in
    let few : k + 1 < 2 ^ 64 = omega (arith, f) in
    let rest = all-put answer i l n (suc k) ms next (ap after_put p ∙ answer.after i l k few ∙ ap (loss_after i l) one) (omega (arith, q)) (omega (arith, f)) in
    let e : suc k + length ms ≡ k + suc (length ms) = omega arith in
    record {
      queue = rest.queue ∙ ap (λ b. (if b then lane.queue else lane.queue ++ mark n m ∷ []) ++ map (mark n) kept) (ap loses_next p ∙ answer.next i l k ∙ ap (losses i l) one) ∙ by_bool (losses i l (suc k));
      loss = rest.loss ∙ ap (loss_after i l) e;
      puts = omega (arith, rest.puts);
    }
  where
    next : Lane
    next = with_mark (mark n m) lane

    kept : List Message
    kept = without_lost (losses i l) (suc k) ms

    by_bool : (b : Bool) → (if b then lane.queue else lane.queue ++ mark n m ∷ []) ++ map (mark n) kept ≡ lane.queue ++ map (mark n) (if b then kept else m ∷ kept)
    by_bool true = refl
    by_bool false = append_assoc lane.queue (mark n m ∷ []) (map (mark n) kept)

-- Puts on many links, looked at on one.

pub each-lane : (n : ℕ) (q : Option Packet) (ls : List ℕ) (lanes : List Lane) (o : ℕ) → o < length lanes
    → lane_at (put_each (record { put = n; packet = q }) ls lanes) o ≡ with_marks n (sent_on o q ls) (lane_at lanes o)
each-lane n q [] lanes o h = refl
each-lane n q (l ∷ ls) lanes o h = each-lane n q ls (set lanes l x) o (omega (arith, h, length-set lanes l x)) ∙ by_tells (eqb_tells l o)
  where
    x : Lane
    x = with_mark (record { put = n; packet = q }) (lane_at lanes l)

    by_tells : ((nat_eq l o ≡ true) × (l ≡ o)) ⊎ ((nat_eq l o ≡ false) × (l ≡ o → ⊥)) → with_marks n (sent_on o q ls) (lane_at (set lanes l x) o) ≡ with_marks n (cond (l == o) (q ∷ sent_on o q ls) (sent_on o q ls)) (lane_at lanes o)
    by_tells (inl e) = ap (λ k. with_marks n (sent_on o q ls) (lane_at (set lanes k (with_mark (record { put = n; packet = q }) (lane_at lanes k))) o)) e.1
        ∙ ap (with_marks n (sent_on o q ls)) (get_or-set_same lanes o (with_mark (record { put = n; packet = q }) (lane_at lanes o)) (new_lane None) h)
        ∙ sym (ap (λ b. with_marks n (cond b (q ∷ sent_on o q ls) (sent_on o q ls)) (lane_at lanes o)) e.0)
    by_tells (inr e) = ap (with_marks n (sent_on o q ls)) (get_or-set_other lanes l o x (new_lane None) (λ k. e.1 (sym k)))
        ∙ sym (ap (λ b. with_marks n (cond b (q ∷ sent_on o q ls) (sent_on o q ls)) (lane_at lanes o)) e.0)

pub send-lane : (net : Net) (n a : ℕ) (sends : Option Sends) (lanes : List Lane) (o : ℕ) → o < length lanes → lane_at (send_by net n a sends lanes) o ≡ with_marks n (sent_by net a o sends) (lane_at lanes o)
send-lane net n a None lanes o h = refl
send-lane net n a (Some x) lanes o h = each-lane n x.packet (links_by net a x.way) lanes o h
