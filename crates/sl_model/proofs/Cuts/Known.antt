-- What the observer knows gives the verdicts and the findings of the world.
use Rattle.std.proofs.Common.{◌≡◌, ℕ, ◌≤◌, List, [], ◌∷◌, length, sym, ap, ◌∙◌, None, arith, inl, inr, zero, suc, ◌+◌, ◌-◌, ◌<◌, refl, subst, Option, Some}
use Rattle.std.specs.Prelude.{◌⊎◌, true, ◌==◌, if◌then◌else◌, map, unwrap_or, false, Bool, nat_lt, slice_get, option_and_then, min, ◌↔◌, max, option_map}
use Rattle.std.proofs.lemmas.Bool.{le-leb, eqb-true, and_parts, lt-leb, cases_lt, eq-eqb}
use Rattle.sl_model.specs.declared.verdict.Verdict.TheVariants.{NotIssued, Consistent, Inconsistent, Pending}
use Rattle.sl_layout.specs.declared.actor.ActorId.TheVariants.{Unit as OfUnit}
use Rattle.sl_layout.specs.declared.actor.UnitId.{UnitId}
use Rattle.sl_layout.specs.declared.actor.Sort.TheVariants.{Init}
use Rattle.sl_layout.specs.Net.{Net, actor_of, choices_of, data_channels, units, unit_place, link_of}
use Rattle.sl_net.specs.Wired.{IsWired}
use Rattle.sl_parts.specs.Lists.{Each, Member}
use Rattle.sl_parts.proofs.Lists.{each-imp, each-both-of, each-map}
use Rattle.sl_model.specs.Words.{first_told, first_from, or_later}
use Rattle.sl_route.specs.Least.{least_in, least}
use Rattle.sl_model.specs.History.{History, World, Losses, history, id, last, stamp_of, stamp_taken}
use Rattle.sl_model.specs.Setup.{Setup}
use Rattle.sl_model.specs.Knowledge.{observer, known, issued, collected, upto_of, floor_of, unit_floor, floor}
use Rattle.sl_model.specs.World.{Entry, run}
use Rattle.sl_model.specs.Made.{IsFifoRun, Took, Acted, IsMade}
use Rattle.sl_model.specs.Verdict.{cause, lag, judged, issued_verdict, floor_holder, verdict, first_cause, skipped_to, miscredits, lag_at, holds_floor, place_or_zero}
use Rattle.sl_model.specs.End.{IsFinished, IsSpent, is_collected, KnowsAll}
use Rattle.sl_model.specs.Collected.{IsKept, known_verdict}
use Rattle.sl_model.proofs.Worlds.Numbers.{falls-first, NeverFalls}
use Rattle.sl_model.proofs.Worlds.Stamps.{id-falls}
use Rattle.sl_model.proofs.Cuts.Bounds.{each-unit, issued-run, AllBelow, ids-below, choice-falls}
use Rattle.sl_model.proofs.Cuts.Prefixes.{first-all}
use Rattle.sl_model.proofs.Cuts.Collected.{least-start, least-each, each-least, floor-id, Reached, lag-of, none-first, first-same, kept, kept-ahead, first-none, reached-of, stamped-choice, stamped-sort}
use Rattle.sl_model.proofs.Cuts.Begins.{knows, TakesFit, fit-taken, fit-before, fit-last}
use Rattle.std.specs.List.{fold, range_with_len}
use Rattle.std.proofs.lemmas.List.FromFn.{get_or-map-range_with_len, length-map-range_with_len}
use Rattle.std.proofs.lemmas.Option.{slice_get_read}
use Rattle.sl_model.specs.declared.verdict.Cause.{Cause}
use Rattle.sl_model.specs.declared.verdict.Cause.TheVariants.{Skipped as WasSkipped, Miscredited as WasMiscredited}
use Rattle.sl_model.specs.declared.verdict.Lag.{Lag}
use Rattle.sl_model.specs.declared.verdict.Lag.TheVariants.{Id}
use Rattle.sl_model.specs.declared.verdict.Verdict.{Verdict}
use Rattle.sl_model.specs.Cut.{value}
use Rattle.sl_model.specs.Findings.{rows_for, finding, row as world_row}
use Rattle.sl_model.specs.Rows.{told, row}
use Rattle.sl_model.specs.Accounts.{account, accounts, row_of, behind, lag_by, cause_in, cause_by, value_row, floor_by, holds, verdict_by, rows_by, finding_by}
use Rattle.sl_model.proofs.Saved.Settled.{row-kept, map-both, totals-are}
use Rattle.sl_model.proofs.Lists.Lowest.{none-least}
use Rattle.sl_model.specs.declared.message.Step.{Step}
use Rattle.sl_model.specs.LastSeen.{cpu_last, or_else, last_seen, IsClean}
use Rattle.sl_model.proofs.Saved.Windows.{last-id}

-- The verdict from what the observer knows of the units is that of the world, wherever F has reached the number, and in a finished world.

-- A number up to the floor of a history has been reached by it.
pub floor-reached : (net : Net) (u k : ℕ) (h : History) → k ≤ floor_of net u h → Reached net k u h
floor-reached net u k h p = let a : floor_of net u h ≤ upto_of net u h = least-start (map (λ c. last c h) (choices_of net u Init)) (upto_of net u h) in
    let b : upto_of net u h ≤ id h = least-start (map (λ c. last c h) (data_channels net u)) (id h) in
    record {
      id_at = omega (arith, a, b, p);
      lasts = each-imp (λ c. upto_of net u h ≤ last c h) (λ c. k ≤ last c h) (data_channels net u) (λ c q. omega (arith, q, a, p)) (least-each (λ c. last c h) (data_channels net u) (id h));
    }

-- up to F, each unit as the observer knows it has
pub all-reached : (net : Net) (w : World) (k : ℕ) → k ≤ floor net w → Each (λ u. lag net k u (collected net w u) ≡ None) (units net)
all-reached net w k p = each-imp (λ u. floor net w ≤ unit_floor net w u) (λ u. lag net k u (collected net w u) ≡ None) (units net)
    (λ u q. lag-of net k u (collected net w u) (floor-reached net u k (collected net w u) (omega (arith, q, p)))) (each-least (unit_floor net w) (units net) (issued net (observer w)) None)

pub all-kept : (s : Setup) (lost : Losses) (w : World) (k : ℕ) → IsWired s.net → IsFifoRun s lost w → k ≤ floor s.net w → Each (λ u. IsKept s.credits s.net u k (collected s.net w u) (history w u)) (units s.net)
all-kept s lost w k t r p = each-imp (λ u. lag s.net k u (collected s.net w u) ≡ None) (λ u. IsKept s.credits s.net u k (collected s.net w u) (history w u)) (units s.net)
    (λ u q. kept s lost w s.credits u k (known (unit_place s.net u) (observer w)) t r q) (all-reached s.net w k p)

-- F is at most K.
pub floor-up : (s : Setup) (lost : Losses) (w : World) → IsFifoRun s lost w → AllBelow s.net w → floor s.net w ≤ issued s.net (observer w)
floor-up s lost w r b = of_units (units s.net) (each-least (unit_floor s.net w) (units s.net) (issued s.net (observer w)) None)
  where
    of_units : (us : List ℕ) → Each (λ u. unwrap_or (least_in None (map (unit_floor s.net w) us)) (issued s.net (observer w)) ≤ unit_floor s.net w u) us → unwrap_or (least_in None (map (unit_floor s.net w) us)) (issued s.net (observer w)) ≤ issued s.net (observer w)
    of_units [] e = omega arith
    of_units (u ∷ us) e = let f : unit_floor s.net w u ≤ id (collected s.net w u) = floor-id s.net u (collected s.net w u) in
        let g : id (collected s.net w u) ≤ id (history w u) = falls-first id (known (unit_place s.net u) (observer w)) (history w u) (id-falls (history w u)) in
        omega (arith, e.0, f, g, ids-below s lost w u r b)

-- Up to F the verdict from what the observer knows is the verdict of the world.

pub verdict-by : (n : ℕ) (net : Net) (w : World) (k : ℕ) → k ≤ issued net (observer w) → verdict n net w k ≡ issued_verdict n net w k
verdict-by n net w k p = ap (λ b. if b then issued_verdict n net w k else NotIssued (floor_holder net w) (floor net w)) (le-leb k (issued net (observer w)) p)

no-lag-now : (s : Setup) (w : World) (k : ℕ) → Each (λ u. IsKept s.credits s.net u k (collected s.net w u) (history w u)) (units s.net) → first_told (λ u. lag s.net k u (history w u)) (units s.net) ≡ None
no-lag-now s w k e = none-first 0 (λ u. lag s.net k u (history w u)) (units s.net) (each-imp (λ u. IsKept s.credits s.net u k (collected s.net w u) (history w u)) (λ u. lag s.net k u (history w u) ≡ None) (units s.net) (λ u i. i.reached) e)

pub known-verdict-is : (s : Setup) (lost : Losses) (w : World) (k : ℕ) → IsWired s.net → IsFifoRun s lost w → k ≤ floor s.net w → known_verdict s.credits s.net w k ≡ issued_verdict s.credits s.net w k
known-verdict-is s lost w k t r p = let e = all-kept s lost w k t r p in
    ap (λ o. judged o (first_told (λ u. cause s.credits k (collected s.net w u)) (units s.net))) (none-first 0 (λ u. lag s.net k u (collected s.net w u)) (units s.net) (all-reached s.net w k p) ∙ sym (no-lag-now s w k e))
    ∙ ap (judged (first_told (λ u. lag s.net k u (history w u)) (units s.net))) (first-same 0 (λ u. cause s.credits k (collected s.net w u)) (λ u. cause s.credits k (history w u)) (units s.net)
    (each-imp (λ u. IsKept s.credits s.net u k (collected s.net w u) (history w u)) (λ u. cause s.credits k (collected s.net w u) ≡ cause s.credits k (history w u)) (units s.net) (λ u i. sym i.cause) e))

pub known-verdict-now : (s : Setup) (lost : Losses) (w : World) (k : ℕ) → IsWired s.net → IsFifoRun s lost w → AllBelow s.net w → k ≤ floor s.net w → known_verdict s.credits s.net w k ≡ verdict s.credits s.net w k
known-verdict-now s lost w k t r b p = known-verdict-is s lost w k t r p ∙ sym (verdict-by s.credits s.net w k (let f : floor s.net w ≤ issued s.net (observer w) = floor-up s lost w r b in omega (arith, f, p)))

-- ... and of every longer schedule.

pub verdict-stays : (s : Setup) (lost : Losses) (w : World) (es : List Entry) (k : ℕ) → IsWired s.net → IsFifoRun s lost w → AllBelow s.net w → k ≤ floor s.net w → verdict s.credits s.net (run s lost w es) k ≡ verdict s.credits s.net w k
verdict-stays s lost w es k t r b p = let v = run s lost w es in
    let f : floor s.net w ≤ issued s.net (observer w) = floor-up s lost w r b in
    let i : issued s.net (observer w) ≤ issued s.net (observer v) = issued-run s lost w es in
    verdict-by s.credits s.net v k (omega (arith, f, i, p)) ∙ sym (of_kept ahead) ∙ known-verdict-is s lost w k t r p ∙ sym (verdict-by s.credits s.net w k (omega (arith, f, p)))
  where
    ahead : Each (λ u. IsKept s.credits s.net u k (collected s.net w u) (history (run s lost w es) u)) (units s.net)
    ahead = each-both-of (λ u. lag s.net k u (collected s.net w u) ≡ None) (λ u. (i : UnitId) × (actor_of s.net u ≡ OfUnit i)) (λ u. IsKept s.credits s.net u k (collected s.net w u) (history (run s lost w es) u)) (units s.net)
        (λ u q x. kept-ahead s lost w es s.credits u k (known (unit_place s.net u) (observer w)) t r (knows s lost w u x.0 t r (t.reports u x.0 x.1) x.1).at_most q) (all-reached s.net w k p) (each-unit s.net)

    of_kept : Each (λ u. IsKept s.credits s.net u k (collected s.net w u) (history (run s lost w es) u)) (units s.net) → known_verdict s.credits s.net w k ≡ issued_verdict s.credits s.net (run s lost w es) k
    of_kept e = ap (λ o. judged o (first_told (λ u. cause s.credits k (collected s.net w u)) (units s.net))) (none-first 0 (λ u. lag s.net k u (collected s.net w u)) (units s.net) (all-reached s.net w k p)
        ∙ sym (none-first 0 (λ u. lag s.net k u (history (run s lost w es) u)) (units s.net) (each-imp (λ u. IsKept s.credits s.net u k (collected s.net w u) (history (run s lost w es) u)) (λ u. lag s.net k u (history (run s lost w es) u) ≡ None) (units s.net) (λ u i. i.reached) e)))
        ∙ ap (judged (first_told (λ u. lag s.net k u (history (run s lost w es) u)) (units s.net))) (first-same 0 (λ u. cause s.credits k (collected s.net w u)) (λ u. cause s.credits k (history (run s lost w es) u)) (units s.net)
        (each-imp (λ u. IsKept s.credits s.net u k (collected s.net w u) (history (run s lost w es) u)) (λ u. cause s.credits k (collected s.net w u) ≡ cause s.credits k (history (run s lost w es) u)) (units s.net) (λ u i. sym i.cause) e))

-- Where the observer knows all, what it knows is the world's.

all-known : (n : ℕ) (net : Net) (w : World) (k : ℕ) → KnowsAll net w → known_verdict n net w k ≡ issued_verdict n net w k
all-known n net w k e = let whole = each-imp (λ u. known (unit_place net u) (observer w) ≡ length (history w u)) (λ u. collected net w u ≡ history w u) (units net)
    (λ u q. first-all (known (unit_place net u) (observer w)) (history w u) (omega (arith, q))) e in
    ap (λ o. judged o (first_told (λ u. cause n k (collected net w u)) (units net))) (first-same 0 (λ u. lag net k u (collected net w u)) (λ u. lag net k u (history w u)) (units net)
    (each-imp (λ u. collected net w u ≡ history w u) (λ u. lag net k u (collected net w u) ≡ lag net k u (history w u)) (units net) (λ u q. ap (lag net k u) q) whole))
    ∙ ap (judged (first_told (λ u. lag net k u (history w u)) (units net))) (first-same 0 (λ u. cause n k (collected net w u)) (λ u. cause n k (history w u)) (units net)
    (each-imp (λ u. collected net w u ≡ history w u) (λ u. cause n k (collected net w u) ≡ cause n k (history w u)) (units net) (λ u q. ap (cause n k) q) whole))

-- In a finished world the verdict on each number that was issued is that from what the observer knows.
pub finished-verdict : (s : Setup) (lost : Losses) (w : World) (k : ℕ) → IsWired s.net → IsFifoRun s lost w → IsFinished s lost w → k ≤ issued s.net (observer w) → known_verdict s.credits s.net w k ≡ verdict s.credits s.net w k
finished-verdict s lost w k t r f p = by_end f.ended ∙ sym (verdict-by s.credits s.net w k p)
  where
    by_end : (is_collected s w ≡ true) ⊎ IsSpent s w → known_verdict s.credits s.net w k ≡ issued_verdict s.credits s.net w k
    by_end (inl c) = let e : floor s.net w ≡ issued s.net (observer w) = eqb-true (floor s.net w) (issued s.net (observer w)) (and_parts (floor s.net w == issued s.net (observer w)) (issued s.net (observer w) == s.count) c).0 in
        known-verdict-is s lost w k t r (omega (arith, e, p))
    by_end (inr c) = all-known s.credits s.net w k c.knows_all

-- Findings by what the observer knows are those of the world.

-- Lists.

first-map : {A B C : Type 0} (n : ℕ) (f : B → Option C) (g : A → B) (xs : List A) → first_from n f (map g xs) ≡ first_from n (λ x. f (g x)) xs
first-map n f g [] = refl
first-map n f g (x ∷ xs) = ap (or_later n (f (g x))) (first-map (suc n) f g xs)

map-one : {A B C : Type 0} (f : B → C) (g : A → B) (xs : List A) → map f (map g xs) ≡ map (λ x. f (g x)) xs
map-one f g [] = refl
map-one f g (x ∷ xs) = ap (λ r. f (g x) ∷ r) (map-one f g xs)

found : {A : Type 0} (f : ℕ → A) (s m i : ℕ) → i < m → slice_get (map f (range_with_len s m)) i ≡ Some (f (s + i))
found f s m i p = slice_get_read (map f (range_with_len s m)) m i (f (s + i)) (sym (length-map-range_with_len f s m)) p (sym (get_or-map-range_with_len f s m i _ (f (s + i)) p refl))

least-ge : (k n : ℕ) (xs : List ℕ) → k ≤ n → Each (λ x. k ≤ x) xs → k ≤ fold min n xs
least-ge k n [] p e = p
least-ge k n (x ∷ xs) p e = least-ge k (min n x) xs (let q : k ≤ x = e.0 in omega (arith, p, q)) e.1

-- An account against its history.

lag-is : (n : ℕ) (net : Net) (k u : ℕ) (h : History) → lag_by k (account n net u h) ≡ lag net k u h
lag-is n net k u h = ap (λ o. if nat_lt (id h) k then Some (Id (id h)) else lag_at o) (first-map 0 (behind k) (λ c. last c h) (data_channels net u))

upto-reached : (net : Net) (k u : ℕ) (h : History) → Reached net k u h → k ≤ upto_of net u h
upto-reached net k u h r = least-ge k (id h) (map (λ c. last c h) (data_channels net u)) r.id_at (each-map (λ x. k ≤ x) (λ c. last c h) (data_channels net u) r.lasts)

row-found : (n : ℕ) (net : Net) (k u : ℕ) (h : History) → 1 ≤ k → Reached net k u h → row_of k (account n net u h) ≡ Some (row n (data_channels net u) k h)
row-found n net k u h one r = let p = upto-reached net k u h r in let e : 1 + (k - 1) ≡ k = omega (arith, one) in
    found (λ k. row n (data_channels net u) k h) 1 (upto_of net u h) (k - 1) (omega (arith, one, p)) ∙ ap (λ j. Some (row n (data_channels net u) j h)) e

cause-told : (n : ℕ) (cs : List ℕ) (k : ℕ) (h : History) (o : Option Cause) → cause_in (told n cs k h o) ≡ o
cause-told n cs k h None = refl
cause-told n cs k h (Some (WasSkipped j)) = refl
cause-told n cs k h (Some (WasMiscredited j)) = refl

pub cause-row : (n : ℕ) (cs : List ℕ) (k : ℕ) (h : History) → cause_in (row n cs k h) ≡ cause n k h
cause-row n cs k h = cause-told n cs k h (cause n k h)

cause-is : (n : ℕ) (net : Net) (k u : ℕ) (h : History) → 1 ≤ k → lag net k u h ≡ None → cause_by k (account n net u h) ≡ cause n k h
cause-is n net k u h one q = ap (option_and_then cause_in) (row-found n net k u h one (reached-of net k u h q)) ∙ cause-row n (data_channels net u) k h

-- Verdicts. Causes tell only where nothing lags, and there each row is known.

lags-are : (n : ℕ) (net : Net) (w : World) (k : ℕ) → first_told (lag_by k) (accounts n net w) ≡ first_told (λ u. lag net k u (collected net w u)) (units net)
lags-are n net w k = first-map 0 (lag_by k) (λ u. account n net u (collected net w u)) (units net)
    ∙ first-same 0 (λ u. lag_by k (account n net u (collected net w u))) (λ u. lag net k u (collected net w u)) (units net) (each (units net))
  where
    each : (us : List ℕ) → Each (λ u. lag_by k (account n net u (collected net w u)) ≡ lag net k u (collected net w u)) us
    each [] = tt
    each (u ∷ us) = (lag-is n net k u (collected net w u), each us)

judged-is : (n : ℕ) (net : Net) (w : World) (k : ℕ) → 1 ≤ k → judged (first_told (lag_by k) (accounts n net w)) (first_told (cause_by k) (accounts n net w)) ≡ known_verdict n net w k
judged-is n net w k one = ap (λ o. judged o (first_told (cause_by k) (accounts n net w))) (lags-are n net w k) ∙ by_lag (first_told (λ u. lag net k u (collected net w u)) (units net)) refl
  where
    by_lag : (o : Option (ℕ × Lag)) → first_told (λ u. lag net k u (collected net w u)) (units net) ≡ o
        → judged o (first_told (cause_by k) (accounts n net w)) ≡ judged o (first_told (λ u. cause n k (collected net w u)) (units net))
    by_lag (Some l) e = refl
    by_lag None e = ap (judged None) (first-map 0 (cause_by k) (λ u. account n net u (collected net w u)) (units net)
        ∙ first-same 0 (λ u. cause_by k (account n net u (collected net w u))) (λ u. cause n k (collected net w u)) (units net)
        (each-imp (λ u. lag net k u (collected net w u) ≡ None) (λ u. cause_by k (account n net u (collected net w u)) ≡ cause n k (collected net w u)) (units net)
        (λ u q. cause-is n net k u (collected net w u) one q) (first-none 0 (λ u. lag net k u (collected net w u)) (units net) e)))

-- Rows of a consistent snapshot.

pub clear : (o : Option (ℕ × Lag)) (c : Option (ℕ × Cause)) → judged o c ≡ Consistent → (o ≡ None) × (c ≡ None)
clear (Some l) c e = absurd cc
clear None (Some c) e = absurd cc
clear None None e = (refl, refl)

pub no-cause : (n k : ℕ) (h : History) → cause n k h ≡ None → (skipped_to k h ≡ None) × (miscredits n k h ≡ [])
no-cause n k h e = let p = of_parts (skipped_to k h) (least (miscredits n k h)) e in (p.0, none-least (miscredits n k h) p.1)
  where
    of_parts : (a o : Option ℕ) → first_cause a o ≡ None → (a ≡ None) × (o ≡ None)
    of_parts (Some j) o e = absurd cc
    of_parts None (Some j) e = absurd cc
    of_parts None None e = (refl, refl)

-- what is told of a number without a cause is the row of the world
pub value-is : (s : Setup) (lost : Losses) (w : World) (k u : ℕ) → IsWired s.net → IsFifoRun s lost w → 1 ≤ s.credits → cause s.credits k (history w u) ≡ None → value_row (Some (row s.credits (data_channels s.net u) k (history w u))) ≡ world_row s.net lost w k u
value-is s lost w k u n r some e = let p = no-cause s.credits k (history w u) e in let t = totals-are s lost w s.credits k u n r some p.0 p.1 in
    ap (λ o. value_row (Some (told s.credits (data_channels s.net u) k (history w u) o))) e ∙ (λ i. record { packets = (value k (history w u)).packets; bytes = (value k (history w u)).bytes; inflight = t i })

unit-row : (s : Setup) (lost : Losses) (w : World) (k u : ℕ) → IsWired s.net → IsFifoRun s lost w → 1 ≤ s.credits → 1 ≤ k → lag s.net k u (collected s.net w u) ≡ None → cause s.credits k (collected s.net w u) ≡ None
    → value_row (row_of k (account s.credits s.net u (collected s.net w u))) ≡ world_row s.net lost w k u
unit-row s lost w k u n r some one q e = let cs = data_channels s.net u in let h = history w u in
    let same : row s.credits cs k h ≡ row s.credits cs k (collected s.net w u) = row-kept s lost w s.credits cs u k (known (unit_place s.net u) (observer w)) n r q in
    ap value_row (row-found s.credits s.net k u (collected s.net w u) one (reached-of s.net k u (collected s.net w u) q) ∙ ap (λ r. Some r) (sym same))
    ∙ value-is s lost w k u n r some (sym (cause-row s.credits cs k h) ∙ ap cause_in same ∙ cause-row s.credits cs k (collected s.net w u) ∙ e)

rows-are : (s : Setup) (lost : Losses) (w : World) (k : ℕ) → IsWired s.net → IsFifoRun s lost w → 1 ≤ s.credits → 1 ≤ k → known_verdict s.credits s.net w k ≡ Consistent
    → map (λ a. value_row (row_of k a)) (accounts s.credits s.net w) ≡ map (world_row s.net lost w k) (units s.net)
rows-are s lost w k n r some one q = of_clear (clear (first_told (λ u. lag s.net k u (collected s.net w u)) (units s.net)) (first_told (λ u. cause s.credits k (collected s.net w u)) (units s.net)) q)
  where
    of_clear : (first_told (λ u. lag s.net k u (collected s.net w u)) (units s.net) ≡ None) × (first_told (λ u. cause s.credits k (collected s.net w u)) (units s.net) ≡ None)
        → map (λ a. value_row (row_of k a)) (accounts s.credits s.net w) ≡ map (world_row s.net lost w k) (units s.net)
    of_clear c = map-both (λ a. value_row (row_of k a)) (λ u. account s.credits s.net u (collected s.net w u)) (world_row s.net lost w k) (units s.net)
        (each-both-of (λ u. lag s.net k u (collected s.net w u) ≡ None) (λ u. cause s.credits k (collected s.net w u) ≡ None)
        (λ u. value_row (row_of k (account s.credits s.net u (collected s.net w u))) ≡ world_row s.net lost w k u) (units s.net)
        (λ u a b. unit-row s lost w k u n r some one a b)
        (first-none 0 (λ u. lag s.net k u (collected s.net w u)) (units s.net) c.0) (first-none 0 (λ u. cause s.credits k (collected s.net w u)) (units s.net) c.1))

rows-for : (s : Setup) (lost : Losses) (w : World) (k : ℕ) (v : Verdict) → IsWired s.net → IsFifoRun s lost w → 1 ≤ s.credits → 1 ≤ k → known_verdict s.credits s.net w k ≡ v → rows_by (accounts s.credits s.net w) k v ≡ rows_for s.net lost w k v
rows-for s lost w k Consistent n r some one q = rows-are s lost w k n r some one q
rows-for s lost w k (Inconsistent u c) n r some one q = refl
rows-for s lost w k (Pending u l) n r some one q = refl
rows-for s lost w k (NotIssued u f) n r some one q = refl

-- Numbers that were not issued.

floor-is : (n : ℕ) (net : Net) (w : World) → floor_by (issued net (observer w)) (accounts n net w) ≡ floor net w
floor-is n net w = ap (λ xs. unwrap_or (least xs) (issued net (observer w))) (map-one (λ a. a.floor) (λ u. account n net u (collected net w u)) (units net))

holder-is : (n : ℕ) (net : Net) (w : World) → place_or_zero (first_told (holds (floor net w)) (accounts n net w)) ≡ floor_holder net w
holder-is n net w = ap place_or_zero (first-map 0 (holds (floor net w)) (λ u. account n net u (collected net w u)) (units net)) ∙ of_units 0 (units net)
  where
    of_units : (m : ℕ) (us : List ℕ) → place_or_zero (first_from m (λ u. holds (floor net w) (account n net u (collected net w u))) us) ≡ place_or_zero (first_from m (holds_floor net w) us)
    of_units m [] = refl
    of_units m (u ∷ us) = by_bool (unit_floor net w u == floor net w) (of_units (suc m) us)
      where
        by_bool : (b : Bool) → place_or_zero (first_from (suc m) (λ u. holds (floor net w) (account n net u (collected net w u))) us) ≡ place_or_zero (first_from (suc m) (holds_floor net w) us)
            → place_or_zero (or_later m (if b then Some (unit_floor net w u) else None) (first_from (suc m) (λ u. holds (floor net w) (account n net u (collected net w u))) us))
            ≡ place_or_zero (or_later m (if b then Some u else None) (first_from (suc m) (holds_floor net w) us))
        by_bool true ih = refl
        by_bool false ih = ih

unissued-is : (n : ℕ) (net : Net) (w : World) → NotIssued (place_or_zero (first_told (holds (floor_by (issued net (observer w)) (accounts n net w))) (accounts n net w))) (floor_by (issued net (observer w)) (accounts n net w))
    ≡ NotIssued (floor_holder net w) (floor net w)
unissued-is n net w = ap (λ f. NotIssued (place_or_zero (first_told (holds f) (accounts n net w))) f) (floor-is n net w) ∙ ap (λ p. NotIssued p (floor net w)) (holder-is n net w)

-- Findings.

unissued : (n : ℕ) (net : Net) (w : World) (k : ℕ) → issued net (observer w) < k → verdict n net w k ≡ NotIssued (floor_holder net w) (floor net w)
unissued n net w k p = ap (λ b. if b then issued_verdict n net w k else NotIssued (floor_holder net w) (floor net w)) (lt-leb k (issued net (observer w)) p)

verdict-is : (n : ℕ) (net : Net) (w : World) (k : ℕ) → 1 ≤ k → (k ≤ issued net (observer w) → known_verdict n net w k ≡ verdict n net w k) → verdict_by (issued net (observer w)) (accounts n net w) k ≡ verdict n net w k
verdict-is n net w k one e = by_place (cases_lt (issued net (observer w)) k)
  where
    by_place : ((issued net (observer w) < k) ⊎ (k ≤ issued net (observer w))) → verdict_by (issued net (observer w)) (accounts n net w) k ≡ verdict n net w k
    by_place (inl p) = (λ i. if lt-leb k (issued net (observer w)) p i then judged (first_told (lag_by k) (accounts n net w)) (first_told (cause_by k) (accounts n net w)) else
        NotIssued (place_or_zero (first_told (holds (floor_by (issued net (observer w)) (accounts n net w))) (accounts n net w))) (floor_by (issued net (observer w)) (accounts n net w)))
        ∙ unissued-is n net w ∙ sym (unissued n net w k p)
    by_place (inr p) = ap (λ b. if b then judged (first_told (lag_by k) (accounts n net w)) (first_told (cause_by k) (accounts n net w)) else
        NotIssued (place_or_zero (first_told (holds (floor_by (issued net (observer w)) (accounts n net w))) (accounts n net w))) (floor_by (issued net (observer w)) (accounts n net w))) (le-leb k (issued net (observer w)) p)
        ∙ judged-is n net w k one ∙ e p

rows-by : (s : Setup) (lost : Losses) (w : World) (k : ℕ) → IsWired s.net → IsFifoRun s lost w → 1 ≤ s.credits → 1 ≤ k → (k ≤ issued s.net (observer w) → known_verdict s.credits s.net w k ≡ verdict s.credits s.net w k)
    → rows_by (accounts s.credits s.net w) k (verdict s.credits s.net w k) ≡ rows_for s.net lost w k (verdict s.credits s.net w k)
rows-by s lost w k n r some one e = by_place (cases_lt (issued s.net (observer w)) k)
  where
    by_place : ((issued s.net (observer w) < k) ⊎ (k ≤ issued s.net (observer w))) → rows_by (accounts s.credits s.net w) k (verdict s.credits s.net w k) ≡ rows_for s.net lost w k (verdict s.credits s.net w k)
    by_place (inl p) = subst (λ v. rows_by (accounts s.credits s.net w) k v ≡ rows_for s.net lost w k v) (sym (unissued s.credits s.net w k p)) refl
    by_place (inr p) = rows-for s lost w k (verdict s.credits s.net w k) n r some one (e p)

pub finding-is : (s : Setup) (lost : Losses) (w : World) (k : ℕ) → IsWired s.net → IsFifoRun s lost w → 1 ≤ s.credits → 1 ≤ k → (k ≤ issued s.net (observer w) → known_verdict s.credits s.net w k ≡ verdict s.credits s.net w k)
    → finding_by (issued s.net (observer w)) (accounts s.credits s.net w) k ≡ finding s.credits s.net lost w k
finding-is s lost w k n r some one e = let v = verdict-is s.credits s.net w k one e in
    ap (λ v. record { k = k; verdict = v; rows = rows_by (accounts s.credits s.net w) k v }) v ∙ ap (λ r. record { k = k; verdict = verdict s.credits s.net w k; rows = r }) (rows-by s lost w k n r some one e)

pub map-from : {A : Type 0} (f g : ℕ → A) (start n : ℕ) → 1 ≤ start → ((k : ℕ) → 1 ≤ k → f k ≡ g k) → map f (range_with_len start n) ≡ map g (range_with_len start n)
map-from f g start zero p h = refl
map-from f g start (suc n) p h = let e = h start p in let r = map-from f g (start + 1) n (omega arith) h in λ i. e i ∷ r i

-- What the last-seen numbers of a unit tell of its id and of verdicts.

-- Without a data channel a unit takes stamps by the choice of its initiations alone.

by-init : (s : Setup) (u : ℕ) (step : Step) (h : History) (j : ℕ) → data_channels s.net u ≡ [] → TakesFit s u (step ∷ h) → (t : Took s u h step) → stamp_of t.message ≡ Some j
    → Member step.choice (choices_of s.net u Init)
by-init s u step h j d f t e = by_choice (stamped-choice s.net u step.choice t.link t.into (stamped-sort (link_of s.net t.link).sort t.message j (fit-last s u step h f t) e))
  where
    by_choice : Member step.choice (data_channels s.net u) ⊎ Member step.choice (choices_of s.net u Init) → Member step.choice (choices_of s.net u Init)
    by_choice (inl m) = absurd (subst (Member step.choice) d m)
    by_choice (inr m) = m

sole : (xs : List ℕ) (c : ℕ) → Member c xs → length xs ≤ 1 → slice_get xs 0 ≡ Some c
sole [] c m p = absurd m
sole (x ∷ []) c (inl e) p = ap Some (sym e)
sole (x ∷ []) c (inr m) p = absurd m
sole (x ∷ y ∷ ys) c m p = absurd (omega (arith, p))

-- so its id is the last-seen number of that choice

abbrev last_by : Option ℕ → History → ℕ
last_by o h = unwrap_or (option_map (λ c. last c h) o) 0

last-kept : (c : ℕ) (step : Step) (h : History) → stamp_taken step ≡ None → last c (step ∷ h) ≡ last c h
last-kept c step h e = ap (λ o. if step.choice == c then unwrap_or o (last c h) else last c h) e ∙ by_bool (step.choice == c)
  where
    by_bool : (b : Bool) → (if b then last c h else last c h) ≡ last c h
    by_bool true = refl
    by_bool false = refl

last-now : (j : ℕ) (step : Step) (h : History) → stamp_taken step ≡ Some j → last step.choice (step ∷ h) ≡ j
last-now j step h e = ap (λ b. if b then unwrap_or (stamp_taken step) (last step.choice h) else last step.choice h) (eq-eqb step.choice step.choice refl)
    ∙ ap (λ o. unwrap_or o (last step.choice h)) e

own-step : (o k : Option ℕ) (step : Step) (h : History) → stamp_taken step ≡ k → ((j : ℕ) → k ≡ Some j → o ≡ Some step.choice) → ((c : ℕ) → o ≡ Some c → last c h ≤ last c (step ∷ h))
    → last_by o h ≡ id h → last_by o (step ∷ h) ≡ id (step ∷ h)
own-step None None step h e f g p = let none : 0 ≡ id h = p in
    let whole : id (step ∷ h) ≡ max 0 (id h) = ap (λ o. max (unwrap_or o 0) (id h)) e in
    let same : 0 ≡ id (step ∷ h) = omega (arith, none, whole) in same
own-step (Some c) None step h e f g p = let own : last c h ≡ id h = p in
    let kept : last c (step ∷ h) ≡ last c h = last-kept c step h e in
    let whole : id (step ∷ h) ≡ max 0 (id h) = ap (λ o. max (unwrap_or o 0) (id h)) e in
    let same : last c (step ∷ h) ≡ id (step ∷ h) = omega (arith, own, kept, whole) in same
own-step None (Some j) step h e f g p = absurd (let z : None ≡ Some step.choice = f j refl in cc)
own-step (Some c) (Some j) step h e f g p = let own : last c h ≡ id h = p in
    let z : Some c ≡ Some step.choice = f j refl in
    let q : c ≡ step.choice = cc in
    let now : last c (step ∷ h) ≡ j = ap (λ d. last d (step ∷ h)) q ∙ last-now j step h e in
    let rises : last c h ≤ last c (step ∷ h) = g c refl in
    let whole : id (step ∷ h) ≡ max j (id h) = ap (λ o. max (unwrap_or o 0) (id h)) e in
    let same : last c (step ∷ h) ≡ id (step ∷ h) = omega (arith, own, now, rises, whole) in same

own-by : (s : Setup) (u : ℕ) (h : History) → data_channels s.net u ≡ [] → length (choices_of s.net u Init) ≤ 1 → IsMade s u h → TakesFit s u h → ((c : ℕ) → slice_get (choices_of s.net u Init) 0 ≡ Some c → NeverFalls (last c) h)
    → cpu_last s.net u h ≡ id h
own-by s u [] d l m f n = by_option (slice_get (choices_of s.net u Init) 0)
  where
    by_option : (o : Option ℕ) → last_by o [] ≡ 0
    by_option None = refl
    by_option (Some c) = refl
own-by s u (step ∷ h) d l m f n = own-step (slice_get (choices_of s.net u Init) 0) (stamp_taken step) step h refl (of_stamp m.0) (λ c e. (n c e).0) (own-by s u h d l m.1 (fit-before s u step h f) (λ c e. (n c e).1))
  where
    of_stamp : Took s u h step ⊎ Acted s u h step → (j : ℕ) → stamp_taken step ≡ Some j → slice_get (choices_of s.net u Init) 0 ≡ Some step.choice
    of_stamp (inl t) j e = sole (choices_of s.net u Init) step.choice (by-init s u step h j d f t (sym (ap (option_and_then stamp_of) t.taken) ∙ e)) l
    of_stamp (inr t) j e = absurd (let z : None ≡ Some j = sym (ap (option_and_then stamp_of) t.taken) ∙ e in cc)

pub own-last : (s : Setup) (lost : Losses) (w : World) (u : ℕ) (i : UnitId) → IsWired s.net → IsFifoRun s lost w → actor_of s.net u ≡ OfUnit i → data_channels s.net u ≡ [] → cpu_last s.net u (history w u) ≡ id (history w u)
own-last s lost w u i n r q d = own-by s u (history w u) d (n.one_init u i q) (r.made u) (fit-taken s lost w u r)
    (λ c e. got (choices_of s.net u Init) c (choice-falls s lost w u Init n r refl) e)
  where
    got : (cs : List ℕ) (c : ℕ) → Each (λ c. NeverFalls (last c) (history w u)) cs → slice_get cs 0 ≡ Some c → NeverFalls (last c) (history w u)
    got [] c e z = absurd cc
    got (x ∷ xs) c e z = let y : x ≡ c = cc in subst (λ c. NeverFalls (last c) (history w u)) y e.0

-- Lags.

pub seen-reached : (s : Setup) (lost : Losses) (w : World) (u k : ℕ) (i : UnitId) → IsWired s.net → IsFifoRun s lost w → actor_of s.net u ≡ OfUnit i → Each (λ m. k ≤ m) (last_seen s.net u (history w u)) → Reached s.net k u (history w u)
seen-reached s lost w u k i n r q e = by_channels (data_channels s.net u) refl e
  where
    by_channels : (cs : List ℕ) → data_channels s.net u ≡ cs → Each (λ m. k ≤ m) (or_else (map (λ c. last c (history w u)) cs) (cpu_last s.net u (history w u))) → Reached s.net k u (history w u)
    by_channels [] d e = record { id_at = let own : cpu_last s.net u (history w u) ≡ id (history w u) = own-last s lost w u i n r q d in omega (arith, own, e.0); lasts = subst (Each (λ c. k ≤ last c (history w u))) (sym d) tt }
    by_channels (c ∷ cs) d e = record { id_at = let below = last-id c (history w u) in omega (arith, below, e.0); lasts = subst (Each (λ c. k ≤ last c (history w u))) (sym d) (each-unmap (c ∷ cs) e) }
      where
        each-unmap : (cs : List ℕ) → Each (λ m. k ≤ m) (map (λ c. last c (history w u)) cs) → Each (λ c. k ≤ last c (history w u)) cs
        each-unmap [] e = tt
        each-unmap (c ∷ cs) e = (e.0, each-unmap cs e.1)

pub reached-seen : (s : Setup) (lost : Losses) (w : World) (u k : ℕ) (i : UnitId) → IsWired s.net → IsFifoRun s lost w → actor_of s.net u ≡ OfUnit i → Reached s.net k u (history w u) → Each (λ m. k ≤ m) (last_seen s.net u (history w u))
reached-seen s lost w u k i n r q e = by_channels (data_channels s.net u) refl e.lasts
  where
    by_channels : (cs : List ℕ) → data_channels s.net u ≡ cs → Each (λ c. k ≤ last c (history w u)) cs → Each (λ m. k ≤ m) (or_else (map (λ c. last c (history w u)) cs) (cpu_last s.net u (history w u)))
    by_channels [] d l = let own : cpu_last s.net u (history w u) ≡ id (history w u) = own-last s lost w u i n r q d in let p = e.id_at in (omega (arith, own, p), tt)
    by_channels (c ∷ cs) d l = each-map (λ m. k ≤ m) (λ c. last c (history w u)) (c ∷ cs) l

pub lag-seen : (s : Setup) (lost : Losses) (w : World) (u k : ℕ) (i : UnitId) → IsWired s.net → IsFifoRun s lost w → actor_of s.net u ≡ OfUnit i → lag s.net k u (history w u) ≡ None ↔ Each (λ m. k ≤ m) (last_seen s.net u (history w u))
lag-seen s lost w u k i n r q = (
  (λ e. reached-seen s lost w u k i n r q (reached-of s.net k u (history w u) e)),
  (λ e. lag-of s.net k u (history w u) (seen-reached s lost w u k i n r q e)),
)

-- Verdicts.

-- an issued snapshot is consistent exactly where each unit is whole in it
module _ (s : Setup) (lost : Losses) (w : World) (k : ℕ) (n : IsWired s.net) (r : IsFifoRun s lost w) where
  only-whole : issued_verdict s.credits s.net w k ≡ Consistent → Each (λ u. IsClean s.credits s.net u k (history w u)) (units s.net)
  only-whole e = let z = clear (first_told (λ u. lag s.net k u (history w u)) (units s.net)) (first_told (λ u. cause s.credits k (history w u)) (units s.net)) e in
      each-both-of (λ u. (i : UnitId) × (actor_of s.net u ≡ OfUnit i)) (λ u. (lag s.net k u (history w u) ≡ None) × (cause s.credits k (history w u) ≡ None)) (λ u. IsClean s.credits s.net u k (history w u)) (units s.net)
      (λ u i p. let b = no-cause s.credits k (history w u) p.1 in record { seen = (lag-seen s lost w u k i.0 n r i.1).0 p.0; not_skipped = b.0; not_miscredited = b.1 }) (each-unit s.net)
      (each-both-of (λ u. lag s.net k u (history w u) ≡ None) (λ u. cause s.credits k (history w u) ≡ None) (λ u. (lag s.net k u (history w u) ≡ None) × (cause s.credits k (history w u) ≡ None)) (units s.net) (λ u p q. (p, q))
      (first-none 0 (λ u. lag s.net k u (history w u)) (units s.net) z.0) (first-none 0 (λ u. cause s.credits k (history w u)) (units s.net) z.1))

  all-whole : Each (λ u. IsClean s.credits s.net u k (history w u)) (units s.net) → issued_verdict s.credits s.net w k ≡ Consistent
  all-whole e = ap (λ o. judged o (first_told (λ u. cause s.credits k (history w u)) (units s.net)))
      (none-first 0 (λ u. lag s.net k u (history w u)) (units s.net) (each-both-of (λ u. (i : UnitId) × (actor_of s.net u ≡ OfUnit i)) (λ u. IsClean s.credits s.net u k (history w u)) (λ u. lag s.net k u (history w u) ≡ None) (units s.net)
      (λ u i p. (lag-seen s lost w u k i.0 n r i.1).1 p.seen) (each-unit s.net) e))
      ∙ ap (judged None) (none-first 0 (λ u. cause s.credits k (history w u)) (units s.net) (each-imp (λ u. IsClean s.credits s.net u k (history w u)) (λ u. cause s.credits k (history w u) ≡ None) (units s.net)
      (λ u p. let a = p.not_skipped in let b = p.not_miscredited in λ i. first_cause (a i) (least (b i))) e))

  pub whole-verdict : k ≤ issued s.net (observer w) → verdict s.credits s.net w k ≡ Consistent ↔ Each (λ u. IsClean s.credits s.net u k (history w u)) (units s.net)
  whole-verdict p = ((λ e. only-whole (sym (verdict-by s.credits s.net w k p) ∙ e)), (λ e. verdict-by s.credits s.net w k p ∙ all-whole e))
