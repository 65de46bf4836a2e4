-- What comes after the last reading tells nothing of it.
use Rattle.std.proofs.Common.{◌≡◌, ℕ, zero, suc, ◌+◌, ◌*◌, ◌<◌, ◌≤◌, ◌⊎◌, List, [], ◌∷◌, length, take, refl, sym, ap, ◌∙◌, Option, Some, None, arith, inl, inr}
use Rattle.std.specs.Prelude.{Bool, true, false, cond, ◌&&◌, ◌==◌, if◌then◌else◌, min, nat_le, nat_lt, find, slice_get, slice_index}
use Rattle.std.specs.Option.{option_or}
use Rattle.std.proofs.Math.Nat.{mul-le-mul_right, min-le_left, min-le_right, le-min}
use Rattle.std.proofs.lemmas.Bool.Decides.{leb_tells}
use Rattle.std.proofs.lemmas.List.Folds.{find-append}
use Rattle.sl_layout.specs.Net.{Net, link_of, links_into, units, unit_place, place_in}
use Rattle.sl_net.specs.declared.input.Packet.{Packet}
use Rattle.sl_model.specs.declared.message.Step.{Step}
use Rattle.sl_model.specs.Matching.{is_data}
use Rattle.sl_model.specs.History.{World, Losses, history, taken}
use Rattle.sl_model.specs.Putting.{Putters, no_putters, putters_after}
use Rattle.sl_model.specs.Setup.{Setup}
use Rattle.sl_model.specs.World.{Entry, start, next_step, turn, IsLegalFrom, IsLegal}
use Rattle.sl_poll.specs.declared.trail.Pair.{Pair}
use Rattle.sl_poll.specs.Trail.{packet_in, pair_from, pair_by, pairs_from, pairs}
use Rattle.sl_poll.specs.Reading.{read_after, breaks, broken_by}

-- a front of a legal schedule is legal
legal-from : (s : Setup) (lost : Losses) (k : ℕ) (w : World) (es : List Entry) → IsLegalFrom s lost w es → IsLegalFrom s lost w (take k es)
legal-from s lost zero w es h = tt
legal-from s lost (suc k) w [] h = tt
legal-from s lost (suc k) w (e ∷ es) h = (h.0, legal-from s lost k (turn s lost w e) es h.1)

pub legal_front : (s : Setup) (lost : Losses) (k : ℕ) (es : List Entry) → IsLegal s lost es → IsLegal s lost (take k es)
legal_front s lost k es h = legal-from s lost k (start s.net) es h

pub take_front : (j k : ℕ) (es : List Entry) → j ≤ k → take j (take k es) ≡ take j es
take_front zero k es h = refl
take_front (suc j) zero es h = absurd (omega (arith, h))
take_front (suc j) (suc k) [] h = refl
take_front (suc j) (suc k) (e ∷ es) h = ap (λ r. e ∷ r) (take_front j k es (omega (arith, h)))

-- Pairs that are taken too late to break the reading.

module _ (s : Setup) (lost : Losses) (test : Pair → Bool) where
  none-by : (w : World) (n : ℕ) (putters : Putters) (e : Entry) (o : Option ℕ) (step : Option Step) → ((p : Pair) → n ≤ p.take → test p ≡ false) → find test (pair_by s.net w n putters e o step) ≡ None
  none-by w n putters e None step h = refl
  none-by w n putters e (Some l) None h = refl
  none-by w n putters e (Some l) (Some step) h = of_packet (packet_in step.taken)
    where
      place : ℕ
      place = taken e.1 (history w e.0)

      of_packet : (q : Option Packet) → find test (pair_from s.net n (putters l) l place q) ≡ None
      of_packet None = refl
      of_packet (Some p) = by_sort (is_data (link_of s.net l).sort)
        where
          by_sort : (b : Bool) → find test (cond b (record { link = l; put = slice_index (putters l) place; take = n } ∷ []) []) ≡ None
          by_sort true = ap (λ t. cond t (Some (record { link = l; put = slice_index (putters l) place; take = n })) None) (h (record { link = l; put = slice_index (putters l) place; take = n }) (omega arith))
          by_sort false = refl

  none-from : (w : World) (n : ℕ) (putters : Putters) (es : List Entry) → ((p : Pair) → n ≤ p.take → test p ≡ false) → find test (pairs_from s lost w n putters es) ≡ None
  none-from w n putters [] h = refl
  none-from w n putters (e ∷ es) h =
      let here = pair_by s.net w n putters e (slice_get (links_into s.net e.0) e.1) (next_step s lost w e) in
      let rest = pairs_from s lost (turn s lost w e) (suc n) (putters_after s.net lost w (turn s lost w e) n putters) es in
      find-append test here rest
      ∙ ap (λ o. option_or o (find test rest)) (none-by w n putters e (slice_get (links_into s.net e.0) e.1) (next_step s lost w e) h)
      ∙ none-from (turn s lost w e) (suc n) (putters_after s.net lost w (turn s lost w e) n putters) es (λ p l. h p (omega (arith, l)))

  first-from : (k n : ℕ) (w : World) (putters : Putters) (es : List Entry) → ((p : Pair) → n + k ≤ p.take → test p ≡ false)
      → find test (pairs_from s lost w n putters (take k es)) ≡ find test (pairs_from s lost w n putters es)
  first-from zero n w putters es h = sym (none-from w n putters es (λ p l. h p (omega (arith, l))))
  first-from (suc k) n w putters [] h = refl
  first-from (suc k) n w putters (e ∷ es) h =
      let here = pair_by s.net w n putters e (slice_get (links_into s.net e.0) e.1) (next_step s lost w e) in
      let rest : List Entry → List Pair = λ xs. pairs_from s lost (turn s lost w e) (suc n) (putters_after s.net lost w (turn s lost w e) n putters) xs in
      find-append test here (rest (take k es))
      ∙ ap (option_or (find test here)) (first-from k (suc n) (turn s lost w e) (putters_after s.net lost w (turn s lost w e) n putters) es (λ p l. h p (omega (arith, l))))
      ∙ sym (find-append test here (rest es))

-- The last reading.

place-low : (n x : ℕ) (xs : List ℕ) → place_in n x xs ≤ n + length xs
place-low n x [] = omega arith
place-low n x (y ∷ ys) = by_test (y == x) (place-low (suc n) x ys)
  where
    by_test : (b : Bool) → place_in (suc n) x ys ≤ suc n + length ys → (if b then n else place_in (suc n) x ys) ≤ n + length (y ∷ ys)
    by_test true h = omega arith
    by_test false h = omega (arith, h)

pub read_earlier : (count begin gap i j : ℕ) → i ≤ j → read_after count begin gap i ≤ read_after count begin gap j
read_earlier count begin gap i j h =
    let m = mul-le-mul_right gap h in
    let a = min-le_left (begin + i * gap) count in
    let b = min-le_right (begin + i * gap) count in
    let low : min (begin + i * gap) count ≤ begin + j * gap = omega (arith, a, m) in le-min low b

late-whole : (net : Net) (count begin gap : ℕ) (p : Pair) → suc (read_after count begin gap (length (units net))) ≤ p.take → breaks net count begin gap p ≡ false
late-whole net count begin gap p h = go (leb_tells p.take (read_after count begin gap place))
  where
    place : ℕ
    place = unit_place net (link_of net p.link).to

    sent : Bool
    sent = nat_lt (read_after count begin gap (unit_place net (link_of net p.link).from)) p.put

    low : place ≤ length (units net)
    low = let e = place-low 0 (link_of net p.link).to (units net) in omega (arith, e)

    go : ((nat_le p.take (read_after count begin gap place) ≡ true) × (p.take ≤ read_after count begin gap place))
        ⊎ ((nat_le p.take (read_after count begin gap place) ≡ false) × (read_after count begin gap place < p.take))
        → (nat_le p.take (read_after count begin gap place) && sent) ≡ false
    go (inl x) = let e = read_earlier count begin gap place (length (units net)) low in absurd (omega (arith, e, h, x.1))
    go (inr x) = ap (λ b. b && sent) x.0

pub reads_front : (count begin gap last n : ℕ) (es fs : List Entry) → fs ≡ take last es → last ≡ read_after count begin gap n
    → (i : ℕ) → i < n → take (read_after count begin gap i) fs ≡ take (read_after count begin gap i) es
reads_front count begin gap last n es fs f q i h =
    let e = read_earlier count begin gap i n (omega (arith, h)) in
    ap (take (read_after count begin gap i)) f ∙ take_front (read_after count begin gap i) last es (omega (arith, e, q))

pub broken_front : (s : Setup) (lost : Losses) (es fs : List Entry) (begin gap last : ℕ) → fs ≡ take last es → last ≡ read_after (length es) begin gap (length (units s.net))
    → find (breaks s.net (length es) begin gap) (pairs s lost fs) ≡ broken_by s lost es begin gap
broken_front s lost es fs begin gap last f q = ap (λ xs. find (breaks s.net (length es) begin gap) (pairs s lost xs)) f
    ∙ first-from s lost (breaks s.net (length es) begin gap) last 1 (start s.net) no_putters es (λ p h. late-whole s.net (length es) begin gap p (omega (arith, h, q)))
