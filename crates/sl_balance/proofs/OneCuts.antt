-- Lines of a run are of one cut, and its counts are few.
use Rattle.std.proofs.Common.{ℕ, zero, suc, ◌<◌, ◌≤◌, ◌^◌, List, [], ◌∷◌, map, length, arith, ◌≡◌, get_or, refl, sym, ap, ◌∙◌}
use Rattle.std.specs.Prelude.{Bool, true, false, nat_lt, cond}
use Rattle.std.specs.List.{All, range_with_len}
use Rattle.sl_parts.specs.Lists.{Each}
use Rattle.sl_parts.proofs.Lists.{all-from_each, each-of, each-map, each-flat, each-below, each-filter, each-from}
use Rattle.sl_layout.specs.Net.{units, Net, actor_of}
use Rattle.sl_model.specs.declared.verdict.Verdict.{Verdict}
use Rattle.sl_model.specs.declared.verdict.Verdict.TheVariants.{Consistent, Inconsistent, Pending, NotIssued}
use Rattle.sl_model.specs.declared.findings.Row.{Row}
use Rattle.sl_model.specs.declared.findings.Finding.{Finding}
use Rattle.sl_model.specs.History.{History, World, Losses, history, id}
use Rattle.sl_model.specs.Setup.{Setup}
use Rattle.sl_model.specs.Counting.{packets}
use Rattle.sl_model.specs.World.{Entry, world}
use Rattle.sl_model.specs.Cut.{before, cuts}
use Rattle.sl_model.specs.Verdict.{verdict}
use Rattle.sl_model.specs.Findings.{row, rows_for, finding, findings}
use Rattle.sl_balance.specs.Balance.{AreFew, packets_at, line_of, device_line, lines_if, finding_lines, balance}
use Rattle.sl_parts.specs.Parts.{below}
use Rattle.sl_model.specs.Matching.{IsConsistentCut}
use Rattle.sl_balance.specs.Cabled.{is_cabled, unit_at, cabled}
use Rattle.sl_balance.specs.OneCut.{packets_before, IsOfOneCut}

-- Few counts.

before-shorter : (k : ℕ) (h : History) → length (before k h) ≤ length h
before-shorter k [] = omega arith
before-shorter k (s ∷ h) = go (before-shorter k h) (nat_lt (id (s ∷ h)) k)
  where
    go : length (before k h) ≤ length h → (b : Bool) → length (cond b (s ∷ h) (before k h)) ≤ length (s ∷ h)
    go rest true = omega arith
    go rest false = omega (arith, rest)

module _ (fits : (h : History) → packets h ≤ length h) (s : Setup) (lost : Losses) (es : List Entry) (short : (u : ℕ) → length (history (world s lost es) u) ≤ length es) (small : length es < 2 ^ 40) where
  few-row : (k u : ℕ) → (row s.net lost (world s lost es) k u).packets < 2 ^ 40
  few-row k u = let h = history (world s lost es) u in
      omega (arith, fits (before k h), before-shorter k h, short u, small)

  few-rows : (k : ℕ) (v : Verdict) → Each (λ r. r.packets < 2 ^ 40) (rows_for s.net lost (world s lost es) k v)
  few-rows k Consistent = each-map (λ r. r.packets < 2 ^ 40) (row s.net lost (world s lost es) k) (units s.net)
      (each-of (λ u. (row s.net lost (world s lost es) k u).packets < 2 ^ 40) (units s.net) (λ u m. few-row k u))
  few-rows k (Inconsistent unit cause) = tt
  few-rows k (Pending unit lag) = tt
  few-rows k (NotIssued unit floor) = tt

  pub few-findings : All (λ f. AreFew f.rows) (findings s lost es).list
  few-findings = all-from_each (λ (f : Finding). AreFew f.rows) (findings s lost es).list
      (each-map (λ (f : Finding). AreFew f.rows) (finding s.credits s.net lost (world s lost es)) (range_with_len 1 s.count)
      (each-of (λ k. AreFew (finding s.credits s.net lost (world s lost es) k).rows) (range_with_len 1 s.count)
      (λ k m. all-from_each (λ (r : Row). r.packets < 2 ^ 40) (rows_for s.net lost (world s lost es) k (verdict s.credits s.net (world s lost es) k)) (few-rows k (verdict s.credits s.net (world s lost es) k)))))

-- Lines of one cut.

-- the row of the unit at a place
row_at : (f : ℕ → Row) (us : List ℕ) (i : ℕ) → i < length us → packets_at (map f us) i ≡ (f (get_or us i 0)).packets
row_at f [] i h = absurd (omega (arith, h))
row_at f (u ∷ us) zero h = refl
row_at f (u ∷ us) (suc i) h = row_at f us i (omega (arith, h))

map_same : (f g : ℕ → ℕ) (xs : List ℕ) → Each (λ x. f x ≡ g x) xs → map f xs ≡ map g xs
map_same f g [] e = refl
map_same f g (x ∷ xs) e = ap (λ y. y ∷ map f xs) e.0 ∙ ap (λ ys. g x ∷ ys) (map_same f g xs e.1)

module _ (n : ℕ) (net : Net) (lost : Losses) (w : World) (consistent : (k : ℕ) → IsConsistentCut net lost w (cuts w k)) where
  -- in the rows of a finding stands what the units counted before
  counted : (k d : ℕ) → map (packets_at (map (row net lost w k) (units net))) (cabled net d) ≡ map (packets_before net w k) (cabled net d)
  counted k d = map_same (packets_at (map (row net lost w k) (units net))) (packets_before net w k) (cabled net d)
      (each-filter (λ i. packets_at (map (row net lost w k) (units net)) i ≡ packets_before net w k i) (λ i. is_cabled net.parts d (actor_of net (unit_at net i))) (below (length (units net)))
      (each-below (λ i. packets_at (map (row net lost w k) (units net)) i ≡ packets_before net w k i) (length (units net)) (λ i h. row_at (row net lost w k) (units net) i h)))

  of_device : (k d : ℕ) → verdict n net w k ≡ Consistent → Each (IsOfOneCut n net lost w) (device_line net k (map (row net lost w k) (units net)) d)
  of_device k d v = go (map (packets_at (map (row net lost w k) (units net))) (cabled net d)) (sym (counted k d))
    where
      go : (xs : List ℕ) → map (packets_before net w k) (cabled net d) ≡ xs → Each (IsOfOneCut n net lost w) (line_of k d xs)
      go [] e = tt
      go (x ∷ xs) e = (record { is_consistent = v; cut = consistent k; counts = ap (line_of k d) e }, tt)

  of_verdict : (k : ℕ) (v : Verdict) → verdict n net w k ≡ v → Each (IsOfOneCut n net lost w) (lines_if net k (rows_for net lost w k v) v)
  of_verdict k Consistent e = each-flat (IsOfOneCut n net lost w) (device_line net k (map (row net lost w k) (units net))) (below (length net.parts.devices))
      (each-below (λ d. Each (IsOfOneCut n net lost w) (device_line net k (map (row net lost w k) (units net)) d)) (length net.parts.devices) (λ d h. of_device k d e))
  of_verdict k (Inconsistent unit cause) e = tt
  of_verdict k (Pending unit lag) e = tt
  of_verdict k (NotIssued unit floor) e = tt

  pub of_findings : (count : ℕ) → All (IsOfOneCut n net lost w) (balance net (map (finding n net lost w) (range_with_len 1 count)))
  of_findings count = all-from_each (IsOfOneCut n net lost w) (balance net (map (finding n net lost w) (range_with_len 1 count)))
      (each-flat (IsOfOneCut n net lost w) (finding_lines net) (map (finding n net lost w) (range_with_len 1 count))
      (each-map (λ (f : Finding). Each (IsOfOneCut n net lost w) (finding_lines net f)) (finding n net lost w) (range_with_len 1 count)
      (each-from (λ k. Each (IsOfOneCut n net lost w) (finding_lines net (finding n net lost w k))) 1 count (λ k g h. of_verdict k (verdict n net w k) refl))))
