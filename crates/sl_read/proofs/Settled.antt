-- An accepted input is within its ranges, its limits are kept, and each entry names the first choice with its spelling.
use Rattle.std.proofs.Common.{◌≡◌, ℕ, ◌≤◌, List, length, Bool, true, false, Option, Some, None, Ok, Err, refl, subst, arith, inl, inr, [], ◌∷◌, map, sym, ap, ◌∙◌, suc, ◌+◌, ◌<◌, Result}
use Rattle.std.specs.Prelude.{◌==◌, nat_lt, nat_le, if◌then◌else◌, unwrap_or, IfSome, ◌⊎◌, bytes_eq, codes, ◌&&◌, nat_eq, option_and_then}
use Rattle.std.specs.List.{All, position, position_or_len, sum_by, before_first, after_first}
use Rattle.std.proofs.lemmas.Bool.{ltb-false, leb-true, eqb-false, eqb-true, and_parts, ltb-true}
use Rattle.std.proofs.lemmas.Grind.{common_steps}
use Rattle.std.proofs.lemmas.List.Sums.{fails_before_first, sum_by-cons, length-filter, count_by-le-length}
use Rattle.std.proofs.lemmas.List.FromFn.{length-range_with_len, get_or-range_with_len}
use Rattle.sl_parts.specs.declared.parts.CablePart.{CablePart}
use Rattle.sl_parts.specs.declared.parts.DevicePart.{DevicePart}
use Rattle.sl_parts.specs.Lists.{Each, Member}
use Rattle.sl_parts.specs.Parts.{Parts, below}
use Rattle.sl_parts.specs.Valid.{AreVersioned}
use Rattle.sl_parts.proofs.Lists.{all-from_each, each-map, each-flat, each-below, each-at, member-flat, member-map, member-from}
use Rattle.sl_layout.specs.Net.{Net, actor_of, is_unit, units, net_of, link_of, link_at, action_choice}
use Rattle.sl_net.specs.declared.input.Snapshot.{Snapshot}
use Rattle.sl_form.specs.declared.path.Key.TheVariants.{A, B, Version, From, To, Link}
use Rattle.sl_form.specs.declared.refusal.Refusal.TheVariants.{TooWide, TooLong}
use Rattle.sl_form.specs.Paths.{at}
use Rattle.sl_read.specs.declared.cable.CableRow.{CableRow}
use Rattle.sl_read.specs.declared.host.HostRow.{HostRow}
use Rattle.sl_read.specs.Accepted.{IsVersion, HasVersion, IsCarried, IsDrop, IsLoss, IsFlow, IsRaw, IsEntry, IsAccepted}
use Rattle.sl_read.specs.Places.{each, port_place, cable_part, host_part, parts_of, known, host_place, flow_part, raw_part}
use Rattle.sl_read.specs.Limits.{no_cable, ids_carried, values, few_values, limits_kept}
use Rattle.sl_read.proofs.Steps.{bind_ok, same_ok, not_held, each_ok, same_some, held, kept, and_then_some, map_some, known_ok}
use Rattle.std.proofs.lemmas.Slice.Eq.{bytes_eq-Decides}
use Rattle.sl_net.specs.Spelling.{choice_text, choice_count, HasChoice}
use Rattle.sl_net.specs.Spelled.{HasOneSpelling}
use Rattle.sl_read.specs.Choices.{choices, first, choice_named, lossy_link, link_named, drop_part, pass_or, as_choice, entry_of, fits, fitting, passes, entries_of}
use Rattle.std.proofs.lemmas.Bool.Decides.{nat_tests}
use Rattle.std.proofs.lemmas.List.Quantifiers.{position-Some}
use Rattle.toml.specs.Data.{Members}
use Rattle.toml.specs.Parse.{parse_document}
use Rattle.sl_parts.specs.declared.fault.NetFault.{NetFault}
use Rattle.sl_parts.specs.declared.parts.HostPart.{HostPart}
use Rattle.sl_net.specs.declared.input.Drop1.{Drop1}
use Rattle.sl_net.specs.declared.input.Flow.{Flow}
use Rattle.sl_net.specs.declared.input.RawPart.{RawPart}
use Rattle.sl_net.specs.declared.input.Script1.{Script1}
use Rattle.sl_net.specs.declared.input.Script1.TheVariants.{Pass}
use Rattle.sl_parts.specs.Fault.{fault_of}
use Rattle.sl_layout.specs.Wiring.{kind_of, is_lossy}
use Rattle.sl_net.specs.Input.{Input}
use Rattle.sl_parts.specs.Number.{plain_number}
use Rattle.sl_parts.proofs.NumberLemmas.{is_plain_number}
use Rattle.sl_form.specs.declared.path.Path.{Path}
use Rattle.sl_form.specs.declared.refusal.Refusal.{Refusal}
use Rattle.sl_read.specs.declared.flow.FlowRow.{FlowRow}
use Rattle.sl_read.specs.declared.raw.RawRow.{RawRow}
use Rattle.sl_read.specs.declared.loss.DropRow.{DropRow}
use Rattle.sl_read.specs.declared.document.Document.{Document}
use Rattle.sl_read.specs.declared.read.Traffic.{Traffic}
use Rattle.sl_read.specs.declared.read.Contents.{Contents}
use Rattle.sl_read.specs.Documents.{document_of}
use Rattle.sl_form.specs.Forms.{pass_of, positive}
use Rattle.sl_read.specs.Inputs.{unless_refused, built, net_in, packets, few_packets, traffic_in, contents_in, settled, tables_of, parsed, text_of, reading_of, numbered, input_of}
use Rattle.sl_read.proofs.Ranges.{IsDocument, IsRawRow, IsDropRow, IsFlowRow, document_ok, script_short}
use Rattle.sl_form.specs.declared.path.TableName.TheVariants as table
use Rattle.std.proofs.lemmas.List.Elements.{All-filter}

version_or : (o : Option ℕ) (version : ℕ) → IsVersion version → IfSome o IsVersion → IsVersion (unwrap_or o version)
version_or None version v h = v
version_or (Some n) version v h = h

cable_versioned : (devices : List DevicePart) (version : ℕ) → IsVersion version → (i : ℕ) (x : CableRow) (y : CablePart) → HasVersion x → cable_part devices version i x ≡ Ok y → IsVersion y.version
cable_versioned devices version v i x y p h =
    let a = bind_ok (port_place devices (at (table.Cable i) A) x.a) _ y h in
    let b = bind_ok (port_place devices (at (table.Cable i) B) x.b) _ y a.2 in
    subst (λ (y : CablePart). IsVersion y.version) (same_ok _ y b.2) (version_or x.version version v p)

pub parts_versioned : (devices : List DevicePart) (version : ℕ) (cables : List CableRow) (hosts : List HostRow) (parts : Parts) → IsVersion version → Each HasVersion cables
    → parts_of devices version cables hosts ≡ Ok parts → AreVersioned parts.cables
unfolding parts_of
parts_versioned devices version cables hosts parts v e h =
    let c = bind_ok (each (cable_part devices version) 0 cables) _ parts h in
    let o = bind_ok (each (host_part devices) 0 hosts) _ parts c.2 in
    let r = each_ok (cable_part devices version) HasVersion (λ (c : CablePart). IsVersion c.version) (cable_versioned devices version v) 0 cables c.0 e c.1 in
    subst (λ (p : Parts). AreVersioned p.cables) (same_ok _ parts o.2) (all-from_each (λ (c : CablePart). IsVersion c.version) c.0 r.0)

-- Limits.

-- units are actors
pub units_few : (net : Net) → length (units net) ≤ length net.actors
units_few net = let test = λ (a : ℕ). is_unit (actor_of net a) in let all = below (length net.actors) in
    omega (arith, length-filter test all, count_by-le-length test all, length-range_with_len 0 (length net.actors))

carried_wide : (bits version : ℕ) → (version == 1) ≡ false → IsVersion version → IsCarried bits version
carried_wide bits version h v = let other = eqb-false version 1 h in inr (omega (arith, v, other))

carried_narrow : (bits version : ℕ) → bits ≤ 8 → IsVersion version → IsCarried bits version
carried_narrow bits version few v = by_one (version == 1) refl
  where
    by_one : (one : Bool) → (version == 1) ≡ one → IsCarried bits version
    by_one true h = inl (eqb-true version 1 h, few)
    by_one false h = carried_wide bits version h v

no_cable_ok : (o : Option ℕ) (x : Unit {0}) → no_cable o ≡ Ok x → o ≡ None
no_cable_ok None x h = refl
no_cable_ok (Some i) x h = absurd (cc)

none_narrow : (cables : List CablePart) → position (λ (c : CablePart). c.version == 1) cables ≡ None → All (λ (c : CablePart). (c.version == 1) ≡ false) cables
none_narrow cables h k d p =
    let past : length cables ≤ position_or_len (λ (c : CablePart). c.version == 1) cables = grind (arith, common_steps) in
    fails_before_first (λ (c : CablePart). c.version == 1) cables k d (omega arith)

carried_ok : (s : Snapshot) (cables : List CablePart) (x : Unit {0}) → IsVersion s.version → AreVersioned cables → ids_carried s cables ≡ Ok x
    → IsCarried s.width s.version × All (λ (c : CablePart). IsCarried s.width c.version) cables
unfolding ids_carried
carried_ok s cables x v versions h = by_width (nat_le s.width 8) refl (s.version == 1) refl h
  where
    by_width : (b : Bool) → nat_le s.width 8 ≡ b → (one : Bool) → (s.version == 1) ≡ one
        → (if b then Ok tt else if one then Err (TooWide (at table.Snapshot Version)) else no_cable (position (λ (c : CablePart). c.version == 1) cables)) ≡ Ok x
        → IsCarried s.width s.version × All (λ (c : CablePart). IsCarried s.width c.version) cables
    by_width true w one o h = let few = leb-true s.width 8 w in (carried_narrow s.width s.version few v, λ k d p. carried_narrow s.width _ few (versions k d p))
    by_width false w true o h = absurd (cc)
    by_width false w false o h =
        let none = none_narrow cables (no_cable_ok (position (λ (c : CablePart). c.version == 1) cables) x h) in
        (carried_wide s.width s.version o v, λ k d p. carried_wide s.width _ (none k d p) (versions k d p))

few_ok : (net : Net) (s : Snapshot) (x : Unit {0}) → few_values net s ≡ Ok x → values net s ≤ 1024000
unfolding few_values
few_ok net s x h = let t = not_held (nat_lt 1024000 (values net s)) _ tt x h in ltb-false 1024000 (values net s) t.0

pub limits_ok : (net : Net) (s : Snapshot) (x : Unit {0}) → IsVersion s.version → AreVersioned net.parts.cables → limits_kept net s ≡ Ok x
    → IsCarried s.width s.version × All (λ (c : CablePart). IsCarried s.width c.version) net.parts.cables × (values net s ≤ 1024000)
limits_ok net s x v versions h =
    let a = bind_ok (ids_carried s net.parts.cables) (λ _. few_values net s) x h in
    let c = carried_ok s net.parts.cables a.0 v versions a.1 in
    (c.0, c.1, few_ok net s x a.2)

-- The first choice with a spelling, where no two have one.

-- Looking for the first.

module _ (passes : ℕ × ℕ → Bool) where
  first_none : (ps : List (ℕ × ℕ)) → ((p : ℕ × ℕ) → Member p ps → passes p ≡ true → ⊥) → first passes ps ≡ None
  first_none [] f = refl
  first_none (p ∷ ps) f = by_bool (first_none ps (λ y m. f y (inr m))) (passes p) refl
    where
      by_bool : first passes ps ≡ None → (b : Bool) → passes p ≡ b → (if b then Some p else first passes ps) ≡ None
      by_bool ih true q = absurd (f p (inl refl) q)
      by_bool ih false q = ih

  first_is : (ps : List (ℕ × ℕ)) (x : ℕ × ℕ) → Member x ps → passes x ≡ true → ((p : ℕ × ℕ) → Member p ps → passes p ≡ true → p ≡ x) → first passes ps ≡ Some x
  first_is [] x m h f = absurd m
  first_is (p ∷ ps) x m h f = by_bool (λ n. first_is ps x n h (λ y k. f y (inr k))) (passes p) refl m
    where
      by_bool : (Member x ps → first passes ps ≡ Some x) → (b : Bool) → passes p ≡ b → (x ≡ p) ⊎ Member x ps → (if b then Some p else first passes ps) ≡ Some x
      by_bool ih true q n = ap Some (f p (inl refl) q)
      by_bool ih false q (inl e) = let z : true ≡ false = sym h ∙ ap passes e ∙ q in absurd (cc)
      by_bool ih false q (inr n) = ih n

listed : (net : Net) (a c : ℕ) → HasChoice net a c → Member (a, c) (choices net)
listed net a c h = member-flat (λ a. map (λ c. (a, c)) (below (choice_count net a))) a (a, c) (below (length net.actors)) (member-from a 0 (length net.actors) (omega arith) (omega (arith, h.actor)))
    (member-map (λ c. (a, c)) c (below (choice_count net a)) (member-from c 0 (choice_count net a) (omega arith) (omega (arith, h.choice))))

pub each_has : (net : Net) → Each (λ (p : ℕ × ℕ). HasChoice net p.0 p.1) (choices net)
each_has net = each-flat (λ (p : ℕ × ℕ). HasChoice net p.0 p.1) (λ a. map (λ c. (a, c)) (below (choice_count net a))) (below (length net.actors))
    (each-below (λ a. Each (λ (p : ℕ × ℕ). HasChoice net p.0 p.1) (map (λ c. (a, c)) (below (choice_count net a)))) (length net.actors)
    (λ a h. each-map (λ (p : ℕ × ℕ). HasChoice net p.0 p.1) (λ c. (a, c)) (below (choice_count net a)) (each-below (λ c. HasChoice net a c) (choice_count net a) (λ c k. record { actor = h; choice = k }))))

pub no_choice : (net : Net) (text : List ℕ) → ((a c : ℕ) → HasChoice net a c → choice_text net a c ≡ text → ⊥) → None ≡ choice_named net text
unfolding choice_named
no_choice net text f = sym (first_none (λ p. bytes_eq (choice_text net p.0 p.1) text) (choices net)
    (λ p m q. f p.0 p.1 (each-at (λ (p : ℕ × ℕ). HasChoice net p.0 p.1) p (choices net) (each_has net) m) ((bytes_eq-Decides (choice_text net p.0 p.1) text).0 q)))

pub one_choice : (net : Net) (text : List ℕ) (a c : ℕ) → HasOneSpelling net → HasChoice net a c → choice_text net a c ≡ text → Some (a, c) ≡ choice_named net text
unfolding choice_named
one_choice net text a c one h e =
    sym (first_is (λ p. bytes_eq (choice_text net p.0 p.1) text) (choices net) (a, c) (listed net a c h) ((bytes_eq-Decides (choice_text net a c) text).1 e)
    (λ p m q. let t = one.one p.0 p.1 a c (each-at (λ (p : ℕ × ℕ). HasChoice net p.0 p.1) p (choices net) (each_has net) m) h ((bytes_eq-Decides (choice_text net p.0 p.1) text).0 q ∙ sym e) in
    ap (λ x. (x, p.1)) t.0 ∙ ap (λ y. (a, y)) t.1))

-- An accepted input is within its ranges.

-- Hosts by their names.

host_low : (p : Path) (hosts : List HostPart) (name : List ℕ) (n : ℕ) → known p (host_place hosts name) ≡ Ok n → n < length hosts
host_low p hosts name n h = by_hosts hosts (known_ok p (host_place hosts name) n h)
  where
    by_hosts : (hs : List HostPart) → position (λ (h : HostPart). bytes_eq h.name name) hs ≡ Some n → n < length hs
    by_hosts [] h = absurd (cc)
    by_hosts (x ∷ hs) h = (position-Some (λ (h : HostPart). bytes_eq h.name name) (x ∷ hs) n x h).0

flow_settled : (parts : Parts) (i : ℕ) (x : FlowRow) (y : Flow) → IsFlowRow x → flow_part parts.hosts i x ≡ Ok y → IsFlow parts y
flow_settled parts i x y p h =
    let from = bind_ok (known (at (table.Flow i) From) (host_place parts.hosts x.from)) _ y h in
    let to = bind_ok (known (at (table.Flow i) To) (host_place parts.hosts x.to)) _ y from.2 in
    subst (IsFlow parts) (same_ok _ y to.2)
    (record { from = host_low (at (table.Flow i) From) parts.hosts x.from from.0 from.1; to = host_low (at (table.Flow i) To) parts.hosts x.to to.0 to.1; count = p.count; bytes = p.bytes; hops = p.hops })

raw_settled : (parts : Parts) (i : ℕ) (x : RawRow) (y : RawPart) → IsRawRow x → raw_part parts.hosts i x ≡ Ok y → IsRaw parts y
raw_settled parts i x y p h =
    let from = bind_ok (known (at (table.Raw i) From) (host_place parts.hosts x.from)) _ y h in
    subst (IsRaw parts) (same_ok _ y from.2) (record { from = host_low (at (table.Raw i) From) parts.hosts x.from from.0 from.1; few = p.few; bytes = all-from_each (λ b. b < 256) x.bytes p.bytes })

-- The net.

unless_ok : (o : Option NetFault) (n net : Net) → unless_refused o n ≡ Ok net → (o ≡ None) × (n ≡ net)
unless_ok None n net h = (refl, same_ok n net h)
unless_ok (Some e) n net h = absurd (cc)

record IsBuilt (parts : Parts) (net : Net) : Type 0 where
  pub parts_are : parts ≡ net.parts
  pub made : net ≡ net_of net.parts
  pub right : fault_of net.parts ≡ None

built_ok : (parts : Parts) (net : Net) → built parts ≡ Ok net → IsBuilt parts net
unfolding built
built_ok parts net h =
    let t = unless_ok (fault_of parts) (net_of parts) net h in
    let p : parts ≡ net.parts = ap (λ (n : Net). n.parts) t.1 in
    record { parts_are = p; made = sym t.1 ∙ ap net_of p; right = subst (λ p. fault_of p ≡ None) p t.0 }

-- Links and choices by their spelling.

link_low : (net : Net) (a c : ℕ) → c < action_choice net a → link_at net a c < length net.links
link_low net a c h = All-filter (λ l. nat_eq (link_of net l).to a) (λ l. l < length net.links) (below (length net.links))
    (λ k d p. let low : k < length net.links = omega (arith, p, length-range_with_len 0 (length net.links)) in
    subst (λ x. x < length net.links) (sym (get_or-range_with_len 0 (length net.links) k d low)) (omega (arith, low))) c 0 h

lossy_ok : (net : Net) (a c l : ℕ) → lossy_link net a c ≡ Some l → (l < length net.links) × (is_lossy (kind_of (link_of net l).sort) ≡ true)
lossy_ok net a c l h =
    let t = kept (nat_lt c (action_choice net a) && is_lossy (kind_of (link_of net (link_at net a c)).sort)) (link_at net a c) l h in
    let b = and_parts (nat_lt c (action_choice net a)) (is_lossy (kind_of (link_of net (link_at net a c)).sort)) t.0 in
    subst (λ l. (l < length net.links) × (is_lossy (kind_of (link_of net l).sort) ≡ true)) t.1 (link_low net a c (ltb-true c (action_choice net a) b.0), b.1)

link_ok : (net : Net) (text : List ℕ) (l : ℕ) → link_named net text ≡ Some l → (l < length net.links) × (is_lossy (kind_of (link_of net l).sort) ≡ true)
unfolding link_named
link_ok net text l h = let t = and_then_some (λ (p : ℕ × ℕ). lossy_link net p.0 p.1) (choice_named net text) l h in lossy_ok net t.0.0 t.0.1 l t.2

drop_settled : (net : Net) (i : ℕ) (x : DropRow) (y : Drop1) → IsDropRow x → drop_part net i x ≡ Ok y → IsDrop net y
drop_settled net i x y p h =
    let l = bind_ok (known (at (table.Drop i) Link) (link_named net x.link)) _ y h in
    let k = link_ok net x.link l.0 (known_ok (at (table.Drop i) Link) (link_named net x.link) l.0 l.1) in
    subst (IsDrop net) (same_ok _ y l.2) (record { link = k.0; lossy = k.1; some = p.some; most = p.most })

first_member : (test : ℕ × ℕ → Bool) (ps : List (ℕ × ℕ)) (p : ℕ × ℕ) → first test ps ≡ Some p → Member p ps
first_member test [] p h = absurd (cc)
first_member test (q ∷ ps) p h = by_test (first_member test ps p) (test q) h
  where
    by_test : (first test ps ≡ Some p → Member p ps) → (b : Bool) → (if b then Some q else first test ps) ≡ Some p → (p ≡ q) ⊎ Member p ps
    by_test ih true h = inl (sym (same_some q p h))
    by_test ih false h = inr (ih h)

choice_there : (net : Net) (text : List ℕ) (p : ℕ × ℕ) → choice_named net text ≡ Some p → HasChoice net p.0 p.1
unfolding choice_named
choice_there net text p h = each-at (λ (p : ℕ × ℕ). HasChoice net p.0 p.1) p (choices net) (each_has net) (first_member (λ p. bytes_eq (choice_text net p.0 p.1) text) (choices net) p h)

then_some : {A : Type 0} (b : Bool) (o : Option A) (x : A) → (if b then o else None) ≡ Some x → o ≡ Some x
then_some true o x h = h
then_some false o x h = absurd (cc)

positive_ok : (m n : ℕ) → positive m ≡ Some n → (1 ≤ m) × (m ≡ n)
positive_ok m n h = let t = kept (nat_lt 0 m) m n h in (omega (arith, ltb-true 0 m t.0), t.1)

pass_range : (text : List ℕ) (n : ℕ) → pass_of text ≡ Some n → (1 ≤ n) × (n ≤ 10000)
pass_range text n h =
    let number = plain_number 10000 (after_first (λ c. c == 32) text) in
    let t = and_then_some positive number n (then_some (bytes_eq (before_first (λ c. c == 32) text) (codes "pass")) (option_and_then positive number) n h) in
    let p = positive_ok t.0 n t.2 in
    let bound = (is_plain_number 10000 (omega arith)).bound (after_first (λ c. c == 32) text) t.0 t.1 in
    subst (λ n. (1 ≤ n) × (n ≤ 10000)) p.1 (p.0, bound)

entry_ok : (net : Net) (text : List ℕ) (e : Script1) → entry_of net text ≡ Some e → IsEntry net e
unfolding entry_of
entry_ok net text e h = by_pass (pass_of text) refl h
  where
    by_pass : (o : Option ℕ) → pass_of text ≡ o → pass_or o (choice_named net text) ≡ Some e → IsEntry net e
    by_pass (Some n) q h = subst (IsEntry net) (same_some (Pass n) e h) (pass_range text n q)
    by_pass None q h = let t = map_some as_choice (choice_named net text) e h in subst (IsEntry net) t.2 (choice_there net text t.0 t.1)

fits_ok : (i used : ℕ) (o : Option Script1) (e : Script1) → fits i used o ≡ Ok e → (o ≡ Some e) × (used + passes e ≤ 10000)
fits_ok i used None e h = absurd (cc)
fits_ok i used (Some x) e h =
    let t = held (nat_le (used + passes x) 10000) x _ e h in
    let le : nat_le (used + passes x) 10000 ≡ true = t.0 in
    (ap Some t.1, subst (λ e. used + passes e ≤ 10000) t.1 (grind (arith, nat_tests)))

entries_ok : (net : Net) (i used : ℕ) (texts : List (List ℕ)) (es : List Script1) → used ≤ 10000 → entries_of net i used texts ≡ Ok es → Each (IsEntry net) es × (used + sum_by passes es ≤ 10000) × (length es ≡ length texts)
unfolding fitting
entries_ok net i used [] es p h = subst (λ es. Each (IsEntry net) es × (used + sum_by passes es ≤ 10000) × (length es ≡ 0)) (same_ok [] es h) (tt, omega arith, refl)
entries_ok net i used (t ∷ ts) es p h =
    let a = bind_ok (fitting net i used t) _ es h in
    let f = fits_ok i used (entry_of net t) a.0 a.1 in
    let b = bind_ok (entries_of net (i + 1) (used + passes a.0) ts) _ es a.2 in
    let r = entries_ok net (i + 1) (used + passes a.0) ts b.0 f.1 b.1 in
    let more : sum_by passes (a.0 ∷ b.0) ≡ passes a.0 + sum_by passes b.0 = sum_by-cons passes a.0 b.0 in
    subst (λ es. Each (IsEntry net) es × (used + sum_by passes es ≤ 10000) × (length es ≡ suc (length ts))) (same_ok (a.0 ∷ b.0) es b.2) ((entry_ok net t a.0 f.0, r.0), omega (arith, more, r.1), ap suc r.2)

few_packets_ok : (flows : List Flow) (raws : List RawPart) (x : Unit {0}) → few_packets flows raws ≡ Ok x → packets flows raws ≤ 200000
unfolding few_packets
few_packets_ok flows raws x h = let t = not_held (nat_lt 200000 (packets flows raws)) _ tt x h in ltb-false 200000 (packets flows raws) t.0

-- The whole input.

record IsTraffic (parts : Parts) (t : Traffic) : Type 0 where
  flows : All (IsFlow parts) t.flows
  raws : All (IsRaw parts) t.raws

traffic_ok : (parts : Parts) (doc : Document) (t : Traffic) → IsDocument doc → traffic_in parts.hosts doc ≡ Ok t → IsTraffic parts t
unfolding traffic_in
traffic_ok parts doc t d h =
    let flows = bind_ok (each (flow_part parts.hosts) 0 doc.flows) _ t h in
    let raws = bind_ok (each (raw_part parts.hosts) 0 doc.raws) _ t flows.2 in
    subst (IsTraffic parts) (same_ok _ t raws.2) (record {
      flows = all-from_each (IsFlow parts) flows.0 (each_ok (flow_part parts.hosts) IsFlowRow (IsFlow parts) (flow_settled parts) 0 doc.flows flows.0 d.flows flows.1).0;
      raws = all-from_each (IsRaw parts) raws.0 (each_ok (raw_part parts.hosts) IsRawRow (IsRaw parts) (raw_settled parts) 0 doc.raws raws.0 d.raws raws.1).0;
    })

record IsFilled (net : Net) (c : Contents) : Type 0 where
  loss : IsLoss net c.loss
  flows : All (IsFlow net.parts) c.flows
  raws : All (IsRaw net.parts) c.raws
  script : All (IsEntry net) c.script
  few_entries : length c.script ≤ 1048576
  few_passes : sum_by passes c.script ≤ 10000
  few_packets : packets c.flows c.raws ≤ 200000

contents_ok : (net : Net) (doc : Document) (c : Contents) → IsDocument doc → length doc.script ≤ 1048576 → contents_in net doc ≡ Ok c → IsFilled net c
unfolding contents_in
contents_ok net doc c d short h =
    let traffic = bind_ok (traffic_in net.parts.hosts doc) _ c h in
    let drops = bind_ok (each (drop_part net) 0 doc.loss.drops) _ c traffic.2 in
    let script = bind_ok (entries_of net 0 0 doc.script) _ c drops.2 in
    let few = bind_ok (few_packets traffic.0.flows traffic.0.raws) _ c script.2 in
    let t = traffic_ok net.parts doc traffic.0 d traffic.1 in
    let r = each_ok (drop_part net) IsDropRow (IsDrop net) (drop_settled net) 0 doc.loss.drops drops.0 d.loss.drops drops.1 in
    let s = entries_ok net 0 0 doc.script script.0 (omega arith) script.1 in
    subst (IsFilled net) (same_ok _ c few.2) (record {
      loss = d.loss.placed net drops.0 r.1 (all-from_each (IsDrop net) drops.0 r.0);
      flows = t.flows;
      raws = t.raws;
      script = all-from_each (IsEntry net) script.0 s.0;
      few_entries = omega (arith, s.2, short);
      few_passes = omega (arith, s.1);
      few_packets = few_packets_ok traffic.0.flows traffic.0.raws few.0 few.1;
    })

settled_ok : (doc : Document) (input : Input) → IsDocument doc → length doc.script ≤ 1048576 → settled doc ≡ Ok input → IsAccepted input
unfolding settled net_in
settled_ok doc input d short h =
    let net = bind_ok (net_in doc) _ input h in
    let contents = bind_ok (contents_in net.0 doc) _ input net.2 in
    let limits = bind_ok (limits_kept net.0 doc.snapshot) _ input contents.2 in
    let parts = bind_ok (parts_of doc.devices doc.snapshot.version doc.cables doc.hosts) built net.0 net.1 in
    let b = built_ok parts.0 net.0 parts.2 in
    let f = contents_ok net.0 doc contents.0 d short contents.1 in
    let versions = subst (λ (p : Parts). AreVersioned p.cables) b.parts_are (parts_versioned doc.devices doc.snapshot.version doc.cables doc.hosts parts.0 d.snapshot.version d.cables parts.1) in
    let l = limits_ok net.0 doc.snapshot limits.0 d.snapshot.version versions limits.1 in
    subst IsAccepted (same_ok _ input limits.2)
    (record {
      net = b.made;
      right = b.right;
      snapshot = d.snapshot;
      loss = f.loss;
      flows = f.flows;
      raws = f.raws;
      script = f.script;
      few_entries = f.few_entries;
      few_passes = f.few_passes;
      few_packets = f.few_packets;
      carried = l.0;
      cables = l.1;
      few_values = l.2;
    })

parsed_ok : (o : Option Members) (input : Input) → IfSome o (λ (ms : Members). (d : Document) → document_of ms ≡ Ok d → length d.script ≤ 1048576) → parsed o ≡ Ok input → IsAccepted input
unfolding tables_of
parsed_ok None input few h = absurd (cc)
parsed_ok (Some ms) input few h = let doc = bind_ok (document_of ms) settled input h in settled_ok doc.0 input (document_ok ms doc.0 doc.1) (few doc.0 doc.1) doc.2

numbered_ok : (r : Result Input Refusal) (input : Input) → numbered r ≡ Ok input → r ≡ Ok input
numbered_ok (Ok x) input h = let e : x ≡ input = cc in ap Ok e
numbered_ok (Err e) input h = absurd (cc)

pub accepted : (bytes : List ℕ) (input : Input) → input_of bytes ≡ Ok input → IsAccepted input
unfolding reading_of
accepted bytes input h = by_length (nat_lt 1048576 (length bytes)) refl (numbered_ok (reading_of bytes) input h)
  where
    by_length : (b : Bool) → nat_lt 1048576 (length bytes) ≡ b → (if b then Err TooLong else parsed (option_and_then parse_document (text_of bytes))) ≡ Ok input → IsAccepted input
    by_length true q h = absurd (cc)
    by_length false q h = parsed_ok (option_and_then parse_document (text_of bytes)) input (script_short bytes (ltb-false 1048576 (length bytes) q)) h
