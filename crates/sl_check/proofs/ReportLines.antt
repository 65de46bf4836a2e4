-- The lines of a report: the last one is `end`, and no other is.
use Rattle.std.proofs.Common.{◌≡◌, ℕ, List, [], ◌∷◌, ◌++◌, map, length, true, false, refl, sym, ap, subst, ◌∙◌, append_assoc, append-nil}
use Rattle.std.specs.Prelude.{codes, decimal, flat_map, ◌==◌}
use Rattle.std.specs.List.{All}
use Rattle.std.proofs.lemmas.List.Elements.{All-head, All-tail}
use Rattle.sl_parts.specs.Lists.{Each}
use Rattle.sl_parts.specs.Text.{IsName}
use Rattle.sl_parts.specs.declared.parts.HostPart.{HostPart}
use Rattle.sl_layout.specs.declared.actor.Side.{Side}
use Rattle.sl_layout.specs.declared.actor.Side.TheVariants.{Ingress, Egress}
use Rattle.sl_layout.specs.declared.actor.ActorId.{ActorId}
use Rattle.sl_layout.specs.declared.actor.ActorId.TheVariants.{Observer, Control, Unit as OfUnit, Host as OfHost}
use Rattle.sl_layout.specs.Net.{Net, actor_of, link_of, units}
use Rattle.sl_net.specs.Spelling.{side_text, device_name, port_of}
use Rattle.sl_saves.specs.declared.entry.Total.{Total}
use Rattle.sl_model.specs.declared.verdict.Cause.{Cause}
use Rattle.sl_model.specs.declared.verdict.Cause.TheVariants.{Skipped, Miscredited}
use Rattle.sl_model.specs.declared.verdict.Lag.{Lag}
use Rattle.sl_model.specs.declared.verdict.Lag.TheVariants.{Id, Channel}
use Rattle.sl_model.specs.declared.verdict.Verdict.{Verdict}
use Rattle.sl_model.specs.declared.verdict.Verdict.TheVariants.{Consistent, Inconsistent, Pending, NotIssued}
use Rattle.sl_model.specs.declared.findings.Row.{Row}
use Rattle.sl_model.specs.declared.findings.Finding.{Finding}
use Rattle.sl_model.specs.declared.findings.Drops.{Drops}
use Rattle.sl_model.specs.declared.findings.Lost.{Lost}
use Rattle.sl_model.specs.declared.findings.Findings.{Findings}
use Rattle.sl_model.specs.Findings.{channel_links}
use Rattle.sl_net.specs.Names.{HasNames}
use Rattle.sl_report.specs.Report.{port_text, unit_or_none, unit_text, unit_at, sort_text, channel_text, channel_at, cause_text, lag_text, verdict_text, verdict_line, totals_text, row_line, rows_text, finding_text, network_line, observer_line, host_line, hosts_text, drops_line, lost_line, report_text}
use Rattle.sl_check.specs.Lines.{IsLine, lines_text, PartsAt}
use Rattle.sl_check.proofs.Printable.{line-append, decimal-line, line_of_test, has_no_newline, actor-line, name-line}
use Rattle.sl_parts.proofs.Lists.{each-append}
use Rattle.sl_layout.proofs.Sorts.{by_sort}

-- it doesn't begin as `end` does
abbrev BeginsElse : List ℕ → Type 0
BeginsElse [] = ⊥
BeginsElse (b ∷ bs) = b ≡ 101 → ⊥

record IsOther (line : List ℕ) : Type 0 where
  pub line_is : IsLine line
  pub begins : BeginsElse line

apart : (b : ℕ) → (b == 101) ≡ false → b ≡ 101 → ⊥
apart b f e = let z : (101 == 101) ≡ false = subst (λ (m : ℕ). (m == 101) ≡ false) e f in cc

not-end : (line : List ℕ) → BeginsElse line → line ≡ codes "end" → ⊥
not-end [] h e = h
not-end (b ∷ bs) h e = let z : b ≡ 101 = cc in h z

-- a text that is lines, none of which is `end`
record AreOthers (text : List ℕ) : Type 0 where
  pub lines : List (List ℕ)
  pub each : Each IsLine lines
  pub none : Each (λ line. line ≡ codes "end" → ⊥) lines
  pub is : text ≡ lines_text lines

others-nil : AreOthers []
others-nil = record { lines = []; each = tt; none = tt; is = refl }

lines-append : (ls ms : List (List ℕ)) → lines_text (ls ++ ms) ≡ lines_text ls ++ lines_text ms
lines-append [] ms = refl
lines-append (l ∷ ls) ms = ap (λ (r : List ℕ). (l ++ codes "\n") ++ r) (lines-append ls ms) ∙ sym (append_assoc (l ++ codes "\n") (lines_text ls) (lines_text ms))

others-append : (x y : List ℕ) → AreOthers x → AreOthers y → AreOthers (x ++ y)
others-append x y h k = record {
  lines = h.lines ++ k.lines;
  each = each-append IsLine h.lines k.lines h.each k.each;
  none = each-append (λ line. line ≡ codes "end" → ⊥) h.lines k.lines h.none k.none;
  is = ap (λ (r : List ℕ). r ++ y) h.is ∙ ap (λ (r : List ℕ). lines_text h.lines ++ r) k.is ∙ sym (lines-append h.lines k.lines);
}

-- one line
other : (line text : List ℕ) → IsLine line → BeginsElse line → text ≡ line ++ codes "\n" → AreOthers text
other line text l b e = record { lines = line ∷ []; each = (l, tt); none = (not-end line b, tt); is = e ∙ sym (append-nil (line ++ codes "\n")) }

abbrev Plain : List ℕ → Type 0
Plain text = has_no_newline text ≡ true

-- Pieces, each before what is a line.

word : (w r : List ℕ) → Plain w → IsLine r → IsLine (w ++ r)
word w r p h = line-append w r (line_of_test w p) h

number : (n : ℕ) (r : List ℕ) → IsLine r → IsLine (decimal n ++ r)
number n r h = line-append (decimal n) r (decimal-line n) h

side-begins : (s : Side) (r : List ℕ) → BeginsElse (side_text s ++ r)
side-begins Ingress r = apart 105 refl
side-begins Egress r = apart 111 refl

module _ (net : Net) (names : HasNames net.parts) where
  unit-line : (u : ℕ) → IsLine (unit_text net u)
  unfolding port_text
  unit-line u = go (actor_of net u)
    where
      go : (a : ActorId) → IsLine (unit_or_none net.parts a)
      go (OfUnit i) = actor-line net.parts (OfUnit i) names
      go Observer = tt
      go (Control d) = tt
      go (OfHost h) = tt

  channel-line : (l : ℕ) → IsLine (channel_text net l)
  channel-line l = by_sort (λ s. IsLine (sort_text s q)) crossbar crossbar (line_of_test (codes "cable") refl) crossbar crossbar crossbar crossbar crossbar crossbar crossbar (link_of net l).sort
    where
      q : ℕ
      q = port_of (actor_of net (link_of net l).from)

      crossbar : IsLine (codes "x" ++ decimal q)
      crossbar = word (codes "x") (decimal q) refl (decimal-line q)

  cause-line : (c : Cause) → IsLine (cause_text c)
  cause-line (Skipped j) = word (codes "skipped to ") (decimal j) refl (decimal-line j)
  cause-line (Miscredited j) = word (codes "miscredited by ") (decimal j) refl (decimal-line j)

  lag-line : (u : ℕ) (l : Lag) → IsLine (lag_text net u l)
  lag-line u (Id n) = word (codes "id ") (decimal n) refl (decimal-line n)
  lag-line u (Channel place n) = line-append (channel_at net u place) (codes " " ++ decimal n) (channel-line _) (word (codes " ") (decimal n) refl (decimal-line n))

  verdict-words : (v : Verdict) → IsLine (verdict_text net v)
  verdict-words Consistent = line_of_test (codes "consistent") refl
  verdict-words (Inconsistent unit cause) = word (codes "inconsistent ") (unit_text net (unit_at net unit) ++ (codes " " ++ cause_text cause)) refl
      (line-append (unit_text net (unit_at net unit)) (codes " " ++ cause_text cause) (unit-line (unit_at net unit)) (word (codes " ") (cause_text cause) refl (cause-line cause)))
  verdict-words (Pending unit lag) = word (codes "pending ") (unit_text net (unit_at net unit) ++ (codes " " ++ lag_text net (unit_at net unit) lag)) refl
      (line-append (unit_text net (unit_at net unit)) (codes " " ++ lag_text net (unit_at net unit) lag) (unit-line (unit_at net unit))
      (word (codes " ") (lag_text net (unit_at net unit) lag) refl (lag-line (unit_at net unit) lag)))
  verdict-words (NotIssued unit floor) = word (codes "not issued ") (unit_text net (unit_at net unit) ++ (codes " " ++ decimal floor)) refl
      (line-append (unit_text net (unit_at net unit)) (codes " " ++ decimal floor) (unit-line (unit_at net unit)) (word (codes " ") (decimal floor) refl (decimal-line floor)))

  verdict-other : (k : ℕ) (v : Verdict) → AreOthers (verdict_line net k v)
  unfolding verdict_line
  verdict-other k v = other (codes "snapshot " ++ (decimal k ++ (codes " " ++ verdict_text net v))) (verdict_line net k v)
      (word (codes "snapshot ") (decimal k ++ (codes " " ++ verdict_text net v)) refl (number k (codes " " ++ verdict_text net v) (word (codes " ") (verdict_text net v) refl (verdict-words v))))
      (apart 115 refl)
      (simp append_assoc)

  totals-line : (ls : List ℕ) (ts : List Total) → IsLine (totals_text net ls ts)
  totals-line [] ts = tt
  totals-line (l ∷ ls) [] = tt
  totals-line (l ∷ ls) (t ∷ ts) = word (codes " ") _ refl (line-append (channel_text net l) _ (channel-line l) (word (codes " ") _ refl (number t.packets _ (word (codes " ") _ refl (number t.bytes (totals_text net ls ts) (totals-line ls ts))))))

  row-begins : (u : ℕ) (r : List ℕ) → BeginsElse (unit_text net u ++ (codes " " ++ r))
  unfolding port_text
  row-begins u r = go (actor_of net u)
    where
      go : (a : ActorId) → BeginsElse (unit_or_none net.parts a ++ (codes " " ++ r))
      go (OfUnit i) = let rest = codes " " ++ (device_name net.parts i.device ++ (codes "." ++ decimal i.port)) in
          subst BeginsElse (sym (append_assoc (side_text i.side) rest (codes " " ++ r))) (side-begins i.side (rest ++ (codes " " ++ r)))
      go Observer = apart 32 refl
      go (Control d) = apart 32 refl
      go (OfHost h) = apart 32 refl

  row-other : (u : ℕ) (r : Row) → AreOthers (row_line net u r)
  unfolding row_line
  row-other u r =
      let rest = decimal r.packets ++ (codes " " ++ (decimal r.bytes ++ totals_text net (channel_links net u) r.inflight)) in
      other (unit_text net u ++ (codes " " ++ rest)) (row_line net u r)
      (line-append (unit_text net u) (codes " " ++ rest) (unit-line u) (word (codes " ") rest refl (number r.packets _ (word (codes " ") _ refl (number r.bytes _ (totals-line (channel_links net u) r.inflight))))))
      (row-begins u rest) (simp append_assoc)

  rows-other : (us : List ℕ) (rs : List Row) → AreOthers (rows_text net us rs)
  rows-other [] rs = others-nil
  rows-other (u ∷ us) [] = others-nil
  rows-other (u ∷ us) (r ∷ rs) = others-append (row_line net u r) (rows_text net us rs) (row-other u r) (rows-other us rs)

  findings-other : (fs : List Finding) → AreOthers (flat_map (finding_text net) fs)
  findings-other [] = others-nil
  findings-other (f ∷ fs) = others-append (finding_text net f) (flat_map (finding_text net) fs)
      (others-append (verdict_line net f.k f.verdict) (rows_text net (units net) f.rows) (verdict-other f.k f.verdict) (rows-other (units net) f.rows)) (findings-other fs)

  host-other : (name : List ℕ) (sent delivered : ℕ) → IsLine name → AreOthers (host_line name sent delivered)
  unfolding host_line
  host-other name sent delivered n = let rest = codes " sent " ++ (decimal sent ++ (codes " delivered " ++ decimal delivered)) in
      other (codes "host " ++ (name ++ rest)) (host_line name sent delivered)
      (word (codes "host ") (name ++ rest) refl (line-append name rest n (word (codes " sent ") _ refl (number sent _ (word (codes " delivered ") (decimal delivered) refl (decimal-line delivered))))))
      (apart 104 refl) (simp append_assoc)

  hosts-other : (hs : List HostPart) (ss ds : List ℕ) → All (λ host. IsName host.name) hs → AreOthers (hosts_text (map (λ host. host.name) hs) ss ds)
  hosts-other [] ss ds all = others-nil
  hosts-other (h ∷ hs) [] ds all = others-nil
  hosts-other (h ∷ hs) (s ∷ ss) [] all = others-nil
  hosts-other (h ∷ hs) (s ∷ ss) (d ∷ ds) all = others-append (host_line h.name s d) (hosts_text (map (λ host. host.name) hs) ss ds)
      (host-other h.name s d (name-line h.name (All-head (λ host. IsName host.name) h hs all))) (hosts-other hs ss ds (All-tail (λ host. IsName host.name) h hs all))

  network-other : AreOthers (network_line net)
  unfolding network_line
  network-other = let rest = decimal (length net.parts.devices) ++ (codes " units " ++ (decimal (length (units net)) ++ (codes " hosts " ++ decimal (length net.parts.hosts)))) in
      other (codes "network devices " ++ rest) (network_line net)
      (word (codes "network devices ") rest refl (number (length net.parts.devices) _ (word (codes " units ") _ refl (number (length (units net)) _ (word (codes " hosts ") _ refl (decimal-line (length net.parts.hosts)))))))
      (apart 110 refl) (simp append_assoc)

  observer-other : (count : ℕ) (f : Findings) → AreOthers (observer_line count f)
  unfolding observer_line
  observer-other count f = let rest = decimal count ++ (codes " issued " ++ (decimal f.issued ++ (codes " collected " ++ (decimal f.floor ++ (codes " resent " ++ decimal f.resent))))) in
      other (codes "observer count " ++ rest) (observer_line count f)
      (word (codes "observer count ") rest refl (number count _ (word (codes " issued ") _ refl (number f.issued _ (word (codes " collected ") _ refl (number f.floor _ (word (codes " resent ") _ refl (decimal-line f.resent))))))))
      (apart 111 refl) (simp append_assoc)

  drops-other : (d : Drops) → AreOthers (drops_line d)
  unfolding drops_line
  drops-other d = let rest = decimal d.bad ++ (codes " expired " ++ (decimal d.expired ++ (codes " noroute " ++ decimal d.noroute))) in
      other (codes "drops bad " ++ rest) (drops_line d)
      (word (codes "drops bad ") rest refl (number d.bad _ (word (codes " expired ") _ refl (number d.expired _ (word (codes " noroute ") _ refl (decimal-line d.noroute))))))
      (apart 100 refl) (simp append_assoc)

  lost-other : (l : Lost) → AreOthers (lost_line l)
  unfolding lost_line
  lost-other l = let rest = decimal l.cable ++ (codes " crossbar " ++ (decimal l.crossbar ++ (codes " init " ++ (decimal l.init ++ (codes " notice " ++ decimal l.notice))))) in
      other (codes "lost cable " ++ rest) (lost_line l)
      (word (codes "lost cable ") rest refl (number l.cable _ (word (codes " crossbar ") _ refl (number l.crossbar _ (word (codes " init ") _ refl (number l.init _ (word (codes " notice ") _ refl (decimal-line l.notice))))))))
      (apart 108 refl) (simp append_assoc)

  first-other : AreOthers (codes "speedlight 1\n")
  first-other = other (codes "speedlight 1") (codes "speedlight 1\n") (line_of_test (codes "speedlight 1") refl) (apart 115 refl) refl

  -- what stands before the last line
  before_end : ℕ → Findings → List ℕ
  before_end count f = codes "speedlight 1\n" ++ (network_line net ++ (observer_line count f ++ (flat_map (finding_text net) f.list
      ++ (hosts_text (map (λ host. host.name) net.parts.hosts) f.sent f.delivered ++ (drops_line f.drops ++ lost_line f.lost)))))

  all-other : (count : ℕ) (f : Findings) → AreOthers (before_end count f)
  unfolding before_end
  all-other count f = others-append (codes "speedlight 1\n") _ first-other (others-append (network_line net) _ network-other (others-append (observer_line count f) _ (observer-other count f)
      (others-append (flat_map (finding_text net) f.list) _ (findings-other f.list)
      (others-append (hosts_text (map (λ host. host.name) net.parts.hosts) f.sent f.delivered) _ (hosts-other net.parts.hosts f.sent f.delivered names.hosts)
      (others-append (drops_line f.drops) (lost_line f.lost) (drops-other f.drops) (lost-other f.lost))))))

  whole : (count : ℕ) (f : Findings) → report_text net count f ≡ before_end count f ++ codes "end\n"
  unfolding before_end
  whole count f = simp append_assoc

  -- a report before some text is parted at its last line
  pub report_parts : (count : ℕ) (f : Findings) (back : List ℕ) → (front : List ℕ) × PartsAt (codes "end") (report_text net count f ++ back) front back × (report_text net count f ≡ front ++ codes "end\n")
  report_parts count f back = let o = all-other count f in (
    before_end count f,
    record {
      lines = o.lines;
      each = o.each;
      none = o.none;
      front_is = o.is;
      whole = ap (λ (r : List ℕ). r ++ back) (whole count f) ∙ append_assoc (before_end count f) (codes "end\n") back;
    },
    whole count f,
  )
