-- What the lines of a report tell.
use Rattle.std.proofs.Common.{◌≡◌, ℕ, zero, suc, ◌<◌, List, [], ◌∷◌, ◌++◌, length, get_or, map, drop, refl, sym, ap, subst, ◌∙◌, arith, append_assoc}
use Rattle.std.specs.Prelude.{codes, decimal, flat_map}
use Rattle.std.proofs.lemmas.List.{append_cancel_left, length-map}
use Rattle.sl_parts.specs.Lists.{Each}
use Rattle.sl_layout.specs.Net.{Net, units}
use Rattle.sl_net.specs.Spelled.{HasOneSpelling}
use Rattle.sl_net.specs.Wired.{IsWired}
use Rattle.sl_saves.specs.declared.entry.Total.{Total}
use Rattle.sl_saves.specs.Keeping.{no_total}
use Rattle.sl_model.specs.declared.verdict.Cause.{Cause}
use Rattle.sl_model.specs.declared.verdict.Cause.TheVariants.{Skipped, Miscredited}
use Rattle.sl_model.specs.declared.verdict.Lag.{Lag}
use Rattle.sl_model.specs.declared.verdict.Lag.TheVariants.{Id, Channel}
use Rattle.sl_model.specs.declared.verdict.Verdict.{Verdict}
use Rattle.sl_model.specs.declared.verdict.Verdict.TheVariants.{Consistent, Inconsistent, Pending, NotIssued}
use Rattle.sl_model.specs.declared.findings.Row.{Row}
use Rattle.sl_model.specs.declared.findings.Finding.{Finding}
use Rattle.sl_model.specs.declared.findings.Drops.{Drops}
use Rattle.sl_model.specs.declared.findings.Lost.{Lost}
use Rattle.sl_model.specs.declared.findings.Findings.{Findings}
use Rattle.sl_model.specs.Findings.{channel_links}
use Rattle.sl_net.specs.Names.{HasNames}
use Rattle.sl_report.specs.Report.{unit_text, unit_at, channel_text, channel_at, cause_text, lag_text, verdict_text, verdict_line, totals_text, row_line, rows_text, finding_text, network_line, observer_line, host_line, hosts_text, drops_line, lost_line, report_text}
use Rattle.sl_report.specs.Sayable.{CauseIsSayable, LagIsSayable, IsUnitPlace, VerdictIsSayable, TotalIsSayable, IsSayableRow, RowsAreSayable, HasRowsFor, IsSayableFinding, AreSayableDrops, IsSayableLost, IsSayable}
use Rattle.sl_report.proofs.Named.{number_before, worded, BeginsLow, AreSmall, worded_told, sort_begins, unit_told, place_within, channel_before}

abbrev head : List ℕ → ℕ
head text = get_or text 0 0

-- Causes.

cause_told : (c d : Cause) (r s : List ℕ) → CauseIsSayable c → CauseIsSayable d → cause_text c ++ 10 ∷ r ≡ cause_text d ++ 10 ∷ s → (c ≡ d) × (r ≡ s)
cause_told (Skipped i) (Skipped j) r s h k e =
    let t = number_before 10 i j r s (omega arith) h k (append_cancel_left (codes "skipped to ") (decimal i ++ 10 ∷ r) (decimal j ++ 10 ∷ s) e) in (ap Skipped t.0, t.1)
cause_told (Miscredited i) (Miscredited j) r s h k e =
    let t = number_before 10 i j r s (omega arith) h k (append_cancel_left (codes "miscredited by ") (decimal i ++ 10 ∷ r) (decimal j ++ 10 ∷ s) e) in (ap Miscredited t.0, t.1)
cause_told (Skipped i) (Miscredited j) r s h k e = let z : 115 ≡ 109 = ap head e in absurd (omega (arith, z))
cause_told (Miscredited i) (Skipped j) r s h k e = let z : 109 ≡ 115 = ap head e in absurd (omega (arith, z))

-- The numbers of totals, and the lists that they are of.

abbrev total_numbers : List ℕ → List Total → List ℕ
total_numbers (l ∷ ls) (t ∷ ts) = t.packets ∷ t.bytes ∷ total_numbers ls ts
total_numbers _ _ = []

same_total : (t u : Total) → t.packets ≡ u.packets → t.bytes ≡ u.bytes → t ≡ u
same_total t u p b = ap (λ n. record { packets = n; bytes = t.bytes }) p ∙ ap (λ n. record { packets = u.packets; bytes = n }) b

all_zero : (ts us : List Total) → length ts ≡ length us → Each (λ t. t ≡ no_total) ts → Each (λ t. t ≡ no_total) us → ts ≡ us
all_zero [] [] e h k = refl
all_zero [] (u ∷ us) e h k = absurd (omega (arith, e))
all_zero (t ∷ ts) [] e h k = absurd (omega (arith, e))
all_zero (t ∷ ts) (u ∷ us) e h k = ap (λ x. x ∷ ts) (h.0 ∙ sym k.0) ∙ ap (λ xs. u ∷ xs) (all_zero ts us (omega (arith, e)) h.1 k.1)

same_totals : (ls : List ℕ) (ts us : List Total) → length ts ≡ length us → Each (λ t. t ≡ no_total) (drop (length ls) ts) → Each (λ t. t ≡ no_total) (drop (length ls) us)
    → total_numbers ls ts ≡ total_numbers ls us → ts ≡ us
same_totals [] ts us e h k n = all_zero ts us e h k
same_totals (l ∷ ls) [] [] e h k n = refl
same_totals (l ∷ ls) [] (u ∷ us) e h k n = absurd (omega (arith, e))
same_totals (l ∷ ls) (t ∷ ts) [] e h k n = absurd (omega (arith, e))
same_totals (l ∷ ls) (t ∷ ts) (u ∷ us) e h k n =
    let p : t.packets ≡ u.packets = cc in
    let b : t.bytes ≡ u.bytes = cc in
    let m : total_numbers ls ts ≡ total_numbers ls us = cc in
    ap (λ x. x ∷ ts) (same_total t u p b) ∙ ap (λ xs. u ∷ xs) (same_totals ls ts us (omega (arith, e)) h k m)

small_totals : (ls : List ℕ) (ts : List Total) → Each TotalIsSayable ts → AreSmall (total_numbers ls ts)
small_totals [] ts h = tt
small_totals (l ∷ ls) [] h = tt
small_totals (l ∷ ls) (t ∷ ts) h = (h.0.0, (h.0.1, small_totals ls ts h.1))

-- Hosts, drops and losses.

abbrev host_words : List ℕ → List (List ℕ)
host_words name = (codes "host " ++ (name ++ codes " sent ")) ∷ codes " delivered " ∷ []

host_worded : (name : List ℕ) (s d : ℕ) (x : List ℕ) → host_line name s d ++ x ≡ worded (host_words name) (s ∷ d ∷ []) x
unfolding host_line
host_worded name s d x = simp append_assoc

hosts_told : (names : List (List ℕ)) (ss ts ds es x y : List ℕ) → length ss ≡ length names → length ts ≡ length names → length ds ≡ length names → length es ≡ length names
    → AreSmall ss → AreSmall ts → AreSmall ds → AreSmall es → hosts_text names ss ds ++ x ≡ hosts_text names ts es ++ y → (ss ≡ ts) × (ds ≡ es) × (x ≡ y)
hosts_told [] [] [] [] [] x y a b c d f g h k e = (refl, refl, e)
hosts_told (n ∷ ns) (s ∷ ss) (t ∷ ts) (d ∷ ds) (u ∷ us) x y a b c f g h k l e =
    let one = worded_told (host_words n) (s ∷ d ∷ []) (t ∷ u ∷ []) (hosts_text ns ss ds ++ x) (hosts_text ns ts us ++ y) (omega arith, tt) (g.0, (k.0, tt)) (h.0, (l.0, tt)) refl refl
    (sym (host_worded n s d (hosts_text ns ss ds ++ x)) ∙ sym (append_assoc (host_line n s d) (hosts_text ns ss ds) x) ∙ e ∙ append_assoc (host_line n t u) (hosts_text ns ts us) y ∙ host_worded n t u (hosts_text ns ts us ++ y)) in
    let rest = hosts_told ns ss ts ds us x y (omega (arith, a)) (omega (arith, b)) (omega (arith, c)) (omega (arith, f)) g.1 h.1 k.1 l.1 one.1 in
    let p : s ≡ t = let z = one.0 in cc in
    let q : d ≡ u = let z = one.0 in cc in
    (ap (λ z. z ∷ ss) p ∙ ap (λ zs. t ∷ zs) rest.0, ap (λ z. z ∷ ds) q ∙ ap (λ zs. u ∷ zs) rest.1, rest.2)
hosts_told [] (s ∷ ss) ts ds es x y a b c d f g h k e = absurd (omega (arith, a))
hosts_told [] [] (t ∷ ts) ds es x y a b c d f g h k e = absurd (omega (arith, b))
hosts_told [] [] [] (d ∷ ds) es x y a b c f g h k l e = absurd (omega (arith, c))
hosts_told [] [] [] [] (u ∷ us) x y a b c d f g h k e = absurd (omega (arith, d))
hosts_told (n ∷ ns) [] ts ds es x y a b c d f g h k e = absurd (omega (arith, a))
hosts_told (n ∷ ns) (s ∷ ss) [] ds es x y a b c d f g h k e = absurd (omega (arith, b))
hosts_told (n ∷ ns) (s ∷ ss) (t ∷ ts) [] es x y a b c d f g h k e = absurd (omega (arith, c))
hosts_told (n ∷ ns) (s ∷ ss) (t ∷ ts) (d ∷ ds) [] x y a b c f g h k l e = absurd (omega (arith, f))

abbrev drops_words : List (List ℕ)
drops_words = codes "drops bad " ∷ codes " expired " ∷ codes " noroute " ∷ []

drops_worded : (d : Drops) (x : List ℕ) → drops_line d ++ x ≡ worded drops_words (d.bad ∷ d.expired ∷ d.noroute ∷ []) x
unfolding drops_line
drops_worded d x = simp append_assoc

abbrev rebuilt_drops : Drops → Drops
rebuilt_drops d = record { bad = d.bad; expired = d.expired; noroute = d.noroute }

drops_told : (d e : Drops) (x y : List ℕ) → AreSayableDrops d → AreSayableDrops e → drops_line d ++ x ≡ drops_line e ++ y → (d ≡ e) × (x ≡ y)
drops_told d e x y h k t =
    let o = worded_told drops_words (d.bad ∷ d.expired ∷ d.noroute ∷ []) (e.bad ∷ e.expired ∷ e.noroute ∷ []) x y (omega arith, (omega arith, tt))
    (h.bad, (h.expired, (h.noroute, tt))) (k.bad, (k.expired, (k.noroute, tt))) refl refl (sym (drops_worded d x) ∙ t ∙ drops_worded e y) in
    let a : d.bad ≡ e.bad = let z = o.0 in cc in
    let b : d.expired ≡ e.expired = let z = o.0 in cc in
    let c : d.noroute ≡ e.noroute = let z = o.0 in cc in
    let same : rebuilt_drops d ≡ rebuilt_drops e = rw (a, b, c) refl in
    (same, o.1)

abbrev lost_words : List (List ℕ)
lost_words = codes "lost cable " ∷ codes " crossbar " ∷ codes " init " ∷ codes " notice " ∷ []

lost_worded : (l : Lost) (x : List ℕ) → lost_line l ++ x ≡ worded lost_words (l.cable ∷ l.crossbar ∷ l.init ∷ l.notice ∷ []) x
unfolding lost_line
lost_worded l x = simp append_assoc

abbrev rebuilt_lost : Lost → Lost
rebuilt_lost l = record { cable = l.cable; crossbar = l.crossbar; init = l.init; notice = l.notice }

lost_told : (l m : Lost) (x y : List ℕ) → IsSayableLost l → IsSayableLost m → lost_line l ++ x ≡ lost_line m ++ y → (l ≡ m) × (x ≡ y)
lost_told l m x y h k t =
    let o = worded_told lost_words (l.cable ∷ l.crossbar ∷ l.init ∷ l.notice ∷ []) (m.cable ∷ m.crossbar ∷ m.init ∷ m.notice ∷ []) x y (omega arith, (omega arith, (omega arith, tt)))
    (h.cable, (h.crossbar, (h.init, (h.notice, tt)))) (k.cable, (k.crossbar, (k.init, (k.notice, tt)))) refl refl (sym (lost_worded l x) ∙ t ∙ lost_worded m y) in
    let a : l.cable ≡ m.cable = let z = o.0 in cc in
    let b : l.crossbar ≡ m.crossbar = let z = o.0 in cc in
    let c : l.init ≡ m.init = let z = o.0 in cc in
    let d : l.notice ≡ m.notice = let z = o.0 in cc in
    let same : rebuilt_lost l ≡ rebuilt_lost m = rw (a, b, c, d) refl in
    (same, o.1)

observer_worded : (count : ℕ) (f : Findings) (x : List ℕ) → observer_line count f ++ x ≡ codes "observer count " ++ (decimal count ++ worded (codes " issued " ∷ codes " collected " ∷ codes " resent " ∷ []) (f.issued ∷ f.floor ∷ f.resent ∷ []) x)
unfolding observer_line
observer_worded count f x = simp append_assoc

module _ (net : Net) (wired : IsWired net) (names : HasNames net.parts) (spelled : HasOneSpelling net) where
  -- Verdicts.

  after_unit : (i j : ℕ) (c d r s : List ℕ) → IsUnitPlace net i → IsUnitPlace net j → (unit_text net (unit_at net i) ++ (codes " " ++ c)) ++ r ≡ (unit_text net (unit_at net j) ++ (codes " " ++ d)) ++ s
      → (i ≡ j) × (c ++ r ≡ d ++ s)
  after_unit i j c d r s h k e = unit_told net wired names spelled i j (c ++ r) (d ++ s) h k
      (sym (append_assoc (unit_text net (unit_at net i)) (codes " " ++ c) r) ∙ e ∙ append_assoc (unit_text net (unit_at net j)) (codes " " ++ d) s)

  lag_told : (u : ℕ) (a b : Lag) (r s : List ℕ) → u < length net.actors → LagIsSayable net u a → LagIsSayable net u b → lag_text net u a ++ 10 ∷ r ≡ lag_text net u b ++ 10 ∷ s → (a ≡ b) × (r ≡ s)
  lag_told u (Id m) (Id n) r s within h k e =
      let t = number_before 10 m n r s (omega arith) h k (append_cancel_left (codes "id ") (decimal m ++ 10 ∷ r) (decimal n ++ 10 ∷ s) e) in (ap Id t.0, t.1)
  lag_told u (Channel i m) (Channel j n) r s within h k e =
      let p = channel_before net wired names spelled u i j (decimal m ++ 10 ∷ r) (decimal n ++ 10 ∷ s) within h.0 k.0
      (sym (append_assoc (channel_at net u i) (codes " " ++ decimal m) (10 ∷ r)) ∙ e ∙ append_assoc (channel_at net u j) (codes " " ++ decimal n) (10 ∷ s)) in
      let t = number_before 10 m n r s (omega arith) h.1 k.1 p.1 in
      (ap (λ x. Channel x m) p.0 ∙ ap (Channel j) t.0, t.1)
  lag_told u (Id m) (Channel j n) r s within h k e =
      absurd (sort_begins _ _ _ (sym (ap head (e ∙ append_assoc (channel_at net u j) (codes " " ++ decimal n) (10 ∷ s)))))
  lag_told u (Channel i m) (Id n) r s within h k e =
      absurd (sort_begins _ _ _ (ap head (sym (append_assoc (channel_at net u i) (codes " " ++ decimal m) (10 ∷ r)) ∙ e)))

  abbrev first_byte : Verdict → ℕ
  first_byte Consistent = 99
  first_byte (Inconsistent unit cause) = 105
  first_byte (Pending unit lag) = 112
  first_byte (NotIssued unit floor) = 110

  begins_by : (v : Verdict) (r : List ℕ) → head (verdict_text net v ++ r) ≡ first_byte v
  begins_by Consistent r = refl
  begins_by (Inconsistent unit cause) r = refl
  begins_by (Pending unit lag) r = refl
  begins_by (NotIssued unit floor) r = refl

  verdict_told : (v w : Verdict) (r s : List ℕ) → VerdictIsSayable net v → VerdictIsSayable net w → verdict_text net v ++ 10 ∷ r ≡ verdict_text net w ++ 10 ∷ s → (v ≡ w) × (r ≡ s)
  verdict_told v w r s h k e = go v w h k e (sym (begins_by v (10 ∷ r)) ∙ ap head e ∙ begins_by w (10 ∷ s))
    where
      go : (v w : Verdict) → VerdictIsSayable net v → VerdictIsSayable net w → verdict_text net v ++ 10 ∷ r ≡ verdict_text net w ++ 10 ∷ s → first_byte v ≡ first_byte w → (v ≡ w) × (r ≡ s)
      go Consistent Consistent h k e b = (refl, append_cancel_left (codes "consistent\n") r s e)
      go (Inconsistent i c) (Inconsistent j d) h k e b =
          let p = after_unit i j (cause_text c) (cause_text d) (10 ∷ r) (10 ∷ s) h.0 k.0 (append_cancel_left (codes "inconsistent ") _ _ e) in
          let t = cause_told c d r s h.1 k.1 p.1 in
          (ap (λ x. Inconsistent x c) p.0 ∙ ap (Inconsistent j) t.0, t.1)
      go (Pending i a) (Pending j b) h k e z =
          let p = after_unit i j (lag_text net (unit_at net i) a) (lag_text net (unit_at net j) b) (10 ∷ r) (10 ∷ s) h.0 k.0 (append_cancel_left (codes "pending ") _ _ e) in
          let t = lag_told (unit_at net i) a b r s (place_within net wired names spelled i h.0) h.1 (subst (λ x. LagIsSayable net (unit_at net x) b) (sym p.0) k.1)
          (p.1 ∙ ap (λ x. lag_text net (unit_at net x) b ++ 10 ∷ s) (sym p.0)) in
          (ap (λ x. Pending x a) p.0 ∙ ap (Pending j) t.0, t.1)
      go (NotIssued i m) (NotIssued j n) h k e b =
          let p = after_unit i j (decimal m) (decimal n) (10 ∷ r) (10 ∷ s) h.0 k.0 (append_cancel_left (codes "not issued ") _ _ e) in
          let t = number_before 10 m n r s (omega arith) h.1 k.1 p.1 in
          (ap (λ x. NotIssued x m) p.0 ∙ ap (NotIssued j) t.0, t.1)
      go Consistent (Inconsistent j d) h k e b = absurd (omega (arith, b))
      go Consistent (Pending j d) h k e b = absurd (omega (arith, b))
      go Consistent (NotIssued j d) h k e b = absurd (omega (arith, b))
      go (Inconsistent i c) Consistent h k e b = absurd (omega (arith, b))
      go (Inconsistent i c) (Pending j d) h k e b = absurd (omega (arith, b))
      go (Inconsistent i c) (NotIssued j d) h k e b = absurd (omega (arith, b))
      go (Pending i c) Consistent h k e b = absurd (omega (arith, b))
      go (Pending i c) (Inconsistent j d) h k e b = absurd (omega (arith, b))
      go (Pending i c) (NotIssued j d) h k e b = absurd (omega (arith, b))
      go (NotIssued i c) Consistent h k e b = absurd (omega (arith, b))
      go (NotIssued i c) (Inconsistent j d) h k e b = absurd (omega (arith, b))
      go (NotIssued i c) (Pending j d) h k e b = absurd (omega (arith, b))

  verdict_whole : (k : ℕ) (v : Verdict) (x : List ℕ) → verdict_line net k v ++ x ≡ codes "snapshot " ++ (decimal k ++ (codes " " ++ (verdict_text net v ++ 10 ∷ x)))
  unfolding verdict_line
  verdict_whole k v x = simp append_assoc

  verdict_line_told : (k : ℕ) (v w : Verdict) (r s : List ℕ) → VerdictIsSayable net v → VerdictIsSayable net w → verdict_line net k v ++ r ≡ verdict_line net k w ++ s → (v ≡ w) × (r ≡ s)
  verdict_line_told k v w r s h p e =
      let t = append_cancel_left (codes "snapshot ") _ _ (sym (verdict_whole k v r) ∙ e ∙ verdict_whole k w s) in
      verdict_told v w r s h p (append_cancel_left (codes " ") _ _ (append_cancel_left (decimal k) _ _ t))

  -- Rows.

  abbrev total_words : List ℕ → ℕ → List (List ℕ)
  total_words (l ∷ ls) (suc n) = (codes " " ++ (channel_text net l ++ codes " ")) ∷ codes " " ∷ total_words ls n
  total_words _ _ = []

  low_words : (ls : List ℕ) (n : ℕ) → Each BeginsLow (total_words ls n)
  low_words [] n = tt
  low_words (l ∷ ls) zero = tt
  low_words (l ∷ ls) (suc n) = (omega arith, (omega arith, low_words ls n))

  as_many : (ls : List ℕ) (ts : List Total) → length (total_numbers ls ts) ≡ length (total_words ls (length ts))
  as_many [] ts = refl
  as_many (l ∷ ls) [] = refl
  as_many (l ∷ ls) (t ∷ ts) = ap (λ n. suc (suc n)) (as_many ls ts)

  totals_worded : (ls : List ℕ) (ts : List Total) (x : List ℕ) → totals_text net ls ts ++ 10 ∷ x ≡ worded (total_words ls (length ts)) (total_numbers ls ts) x
  totals_worded [] ts x = refl
  totals_worded (l ∷ ls) [] x = refl
  totals_worded (l ∷ ls) (t ∷ ts) x =
      let front = λ (rest : List ℕ). codes " " ++ (channel_text net l ++ (codes " " ++ (decimal t.packets ++ (codes " " ++ (decimal t.bytes ++ rest))))) in
      let a : totals_text net (l ∷ ls) (t ∷ ts) ++ 10 ∷ x ≡ front (totals_text net ls ts ++ 10 ∷ x) = simp append_assoc in
      let b : front (worded (total_words ls (length ts)) (total_numbers ls ts) x) ≡ worded (total_words (l ∷ ls) (length (t ∷ ts))) (total_numbers (l ∷ ls) (t ∷ ts)) x = simp append_assoc in
      a ∙ ap front (totals_worded ls ts x) ∙ b

  abbrev row_words : ℕ → ℕ → List (List ℕ)
  row_words u n = (unit_text net u ++ codes " ") ∷ codes " " ∷ total_words (channel_links net u) n

  abbrev row_numbers : ℕ → Row → List ℕ
  row_numbers u r = r.packets ∷ r.bytes ∷ total_numbers (channel_links net u) r.inflight

  row_worded : (u : ℕ) (r : Row) (x : List ℕ) → row_line net u r ++ x ≡ worded (row_words u (length r.inflight)) (row_numbers u r) x
  unfolding row_line
  row_worded u r x =
      let front = λ (rest : List ℕ). unit_text net u ++ (codes " " ++ (decimal r.packets ++ (codes " " ++ (decimal r.bytes ++ rest)))) in
      let a : row_line net u r ++ x ≡ front (totals_text net (channel_links net u) r.inflight ++ 10 ∷ x) = simp append_assoc in
      let b : front (worded (total_words (channel_links net u) (length r.inflight)) (total_numbers (channel_links net u) r.inflight) x) ≡ worded (row_words u (length r.inflight)) (row_numbers u r) x = simp append_assoc in
      a ∙ ap front (totals_worded (channel_links net u) r.inflight x) ∙ b

  abbrev rebuilt_row : Row → Row
  rebuilt_row r = record { packets = r.packets; bytes = r.bytes; inflight = r.inflight }

  row_told : (u : ℕ) (r q : Row) (x y : List ℕ) → IsSayableRow net u r → IsSayableRow net u q → row_line net u r ++ x ≡ row_line net u q ++ y → (r ≡ q) × (x ≡ y)
  row_told u r q x y h k e =
      let eight : length r.inflight ≡ length q.inflight = h.eight ∙ sym k.eight in
      let o = worded_told (row_words u (length q.inflight)) (row_numbers u r) (row_numbers u q) x y (omega arith, low_words (channel_links net u) (length q.inflight))
      (h.packets, (h.bytes, small_totals (channel_links net u) r.inflight h.totals)) (k.packets, (k.bytes, small_totals (channel_links net u) q.inflight k.totals))
      (ap (λ n. suc (suc n)) (as_many (channel_links net u) r.inflight ∙ ap (λ n. length (total_words (channel_links net u) n)) eight)) (ap (λ n. suc (suc n)) (as_many (channel_links net u) q.inflight))
      (ap (λ n. worded (row_words u n) (row_numbers u r) x) (sym eight) ∙ sym (row_worded u r x) ∙ e ∙ row_worded u q y) in
      let a : r.packets ≡ q.packets = let z = o.0 in cc in
      let b : r.bytes ≡ q.bytes = let z = o.0 in cc in
      let n : total_numbers (channel_links net u) r.inflight ≡ total_numbers (channel_links net u) q.inflight = let z = o.0 in cc in
      let c = same_totals (channel_links net u) r.inflight q.inflight eight h.past k.past n in
      let same : rebuilt_row r ≡ rebuilt_row q = rw (a, b, c) refl in
      (same, o.1)

  rows_told : (us : List ℕ) (rs qs : List Row) (x y : List ℕ) → RowsAreSayable net us rs → RowsAreSayable net us qs → rows_text net us rs ++ x ≡ rows_text net us qs ++ y → (rs ≡ qs) × (x ≡ y)
  rows_told [] [] [] x y h k e = (refl, e)
  rows_told [] [] (q ∷ qs) x y h k e = absurd k
  rows_told [] (r ∷ rs) qs x y h k e = absurd h
  rows_told (u ∷ us) [] qs x y h k e = absurd h
  rows_told (u ∷ us) (r ∷ rs) [] x y h k e = absurd k
  rows_told (u ∷ us) (r ∷ rs) (q ∷ qs) x y h k e =
      let a = row_told u r q (rows_text net us rs ++ x) (rows_text net us qs ++ y) h.0 k.0
      (sym (append_assoc (row_line net u r) (rows_text net us rs) x) ∙ e ∙ append_assoc (row_line net u q) (rows_text net us qs) y) in
      let b = rows_told us rs qs x y h.1 k.1 a.1 in
      (ap (λ z. z ∷ rs) a.0 ∙ ap (λ zs. q ∷ zs) b.0, b.1)

  -- Findings.

  no_rows : (us : List ℕ) → rows_text net us [] ≡ []
  no_rows [] = refl
  no_rows (u ∷ us) = refl

  rows_for_told : (v : Verdict) (rs qs : List Row) (x y : List ℕ) → HasRowsFor net v rs → HasRowsFor net v qs → rows_text net (units net) rs ++ x ≡ rows_text net (units net) qs ++ y → (rs ≡ qs) × (x ≡ y)
  rows_for_told v rs qs x y h k e = go v h k
    where
      none : rs ≡ [] → qs ≡ [] → (rs ≡ qs) × (x ≡ y)
      none p q = (p ∙ sym q, ap (λ t. t ++ x) (sym (ap (rows_text net (units net)) p ∙ no_rows (units net))) ∙ e ∙ ap (λ t. t ++ y) (ap (rows_text net (units net)) q ∙ no_rows (units net)))

      go : (v : Verdict) → HasRowsFor net v rs → HasRowsFor net v qs → (rs ≡ qs) × (x ≡ y)
      go Consistent h k = rows_told (units net) rs qs x y h k e
      go (Inconsistent unit cause) h k = none h k
      go (Pending unit lag) h k = none h k
      go (NotIssued unit floor) h k = none h k

  abbrev rebuilt_finding : Finding → Finding
  rebuilt_finding f = record { k = f.k; verdict = f.verdict; rows = f.rows }

  finding_told : (f g : Finding) (x y : List ℕ) → IsSayableFinding net f → IsSayableFinding net g → f.k ≡ g.k → finding_text net f ++ x ≡ finding_text net g ++ y → (f ≡ g) × (x ≡ y)
  finding_told f g x y h k n e =
      let v = verdict_line_told g.k f.verdict g.verdict (rows_text net (units net) f.rows ++ x) (rows_text net (units net) g.rows ++ y) h.verdict k.verdict
      (ap (λ m. verdict_line net m f.verdict ++ (rows_text net (units net) f.rows ++ x)) (sym n) ∙ sym (append_assoc (verdict_line net f.k f.verdict) (rows_text net (units net) f.rows) x) ∙ e
      ∙ append_assoc (verdict_line net g.k g.verdict) (rows_text net (units net) g.rows) y) in
      let r = rows_for_told g.verdict f.rows g.rows x y (subst (λ w. HasRowsFor net w f.rows) v.0 h.rows) k.rows v.1 in
      let p = v.0 in
      let q = r.0 in
      let same : rebuilt_finding f ≡ rebuilt_finding g = rw (n, p, q) refl in
      (same, r.1)

  findings_told : (fs gs : List Finding) (x y : List ℕ) → Each (IsSayableFinding net) fs → Each (IsSayableFinding net) gs → map (λ f. f.k) fs ≡ map (λ g. g.k) gs
      → flat_map (finding_text net) fs ++ x ≡ flat_map (finding_text net) gs ++ y → (fs ≡ gs) × (x ≡ y)
  findings_told [] [] x y h k n e = (refl, e)
  findings_told [] (g ∷ gs) x y h k n e = absurd (cc)
  findings_told (f ∷ fs) [] x y h k n e = absurd (cc)
  findings_told (f ∷ fs) (g ∷ gs) x y h k n e =
      let p : f.k ≡ g.k = cc in
      let q : map (λ f. f.k) fs ≡ map (λ g. g.k) gs = cc in
      let a = finding_told f g (flat_map (finding_text net) fs ++ x) (flat_map (finding_text net) gs ++ y) h.0 k.0 p
      (sym (append_assoc (finding_text net f) (flat_map (finding_text net) fs) x) ∙ e ∙ append_assoc (finding_text net g) (flat_map (finding_text net) gs) y) in
      let b = findings_told fs gs x y h.1 k.1 q a.1 in
      (ap (λ z. z ∷ fs) a.0 ∙ ap (λ zs. g ∷ zs) b.0, b.1)

  abbrev rebuilt : Findings → Findings
  rebuilt f = record { issued = f.issued; floor = f.floor; resent = f.resent; list = f.list; sent = f.sent; delivered = f.delivered; drops = f.drops; lost = f.lost }

  -- the whole report
  pub told : (count : ℕ) (f g : Findings) → IsSayable net count f → IsSayable net count g → report_text net count f ≡ report_text net count g → f ≡ g
  told count f g h k e =
      let host_names = map (λ host. host.name) net.parts.hosts in
      let many = length-map net.parts.hosts (λ host. host.name) in
      let line = append_cancel_left (network_line net) _ _ (append_cancel_left (codes "speedlight 1\n") _ _ e) in
      let counted = append_cancel_left (decimal count) _ _ (append_cancel_left (codes "observer count ") _ _ (sym (observer_worded count f _) ∙ line ∙ observer_worded count g _)) in
      let o = worded_told (codes " issued " ∷ codes " collected " ∷ codes " resent " ∷ []) (f.issued ∷ f.floor ∷ f.resent ∷ []) (g.issued ∷ g.floor ∷ g.resent ∷ []) _ _ (omega arith, (omega arith, tt))
      (h.issued, (h.floor, (h.resent, tt))) (k.issued, (k.floor, (k.resent, tt))) refl refl counted in
      let found = findings_told f.list g.list _ _ h.each k.each (h.numbers ∙ sym k.numbers) o.1 in
      let hosts = hosts_told host_names f.sent g.sent f.delivered g.delivered _ _ (h.sent.hosts ∙ sym many) (k.sent.hosts ∙ sym many) (h.delivered.hosts ∙ sym many) (k.delivered.hosts ∙ sym many)
      h.sent.each k.sent.each h.delivered.each k.delivered.each found.1 in
      let dropped = drops_told f.drops g.drops _ _ h.drops k.drops hosts.2 in
      let lost = lost_told f.lost g.lost _ _ h.lost k.lost dropped.1 in
      let a : f.issued ≡ g.issued = let z = o.0 in cc in
      let b : f.floor ≡ g.floor = let z = o.0 in cc in
      let c : f.resent ≡ g.resent = let z = o.0 in cc in
      let same : rebuilt f ≡ rebuilt g = rw (a, b, c, found.0, hosts.0, hosts.1, dropped.0, lost.0) refl in
      same
