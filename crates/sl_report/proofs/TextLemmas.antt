-- The texts of lists, from a place on, and of numbers that are counted up.
use Rattle.std.proofs.Common.{◌≡◌, ℕ, suc, ◌+◌, ◌<◌, ◌≤◌, min, map, List, [], ◌∷◌, ◌++◌, length, get_or, drop, refl, sym, ap, subst, Bool, true, false, cond, filter, ◌∙◌, ◌⊎◌, inl, inr, arith, append_assoc}
use Rattle.std.proofs.lemmas.List.{drop_more, drop_all, append-nil, map-append}
use Rattle.std.proofs.lemmas.Bool.{cases_order}
use Rattle.std.specs.Prelude.{codes, decimal}
use Rattle.std.specs.List.{flat_map, range_with_len}
use Rattle.sl_parts.specs.declared.parts.HostPart.{HostPart}
use Rattle.sl_layout.specs.declared.actor.Sort.{Sort}
use Rattle.sl_layout.specs.declared.actor.Sort.TheVariants.{Cable, Crossbar}
use Rattle.sl_model.specs.Findings.{channel_links}
use Rattle.sl_layout.specs.Net.{Net, net_of, units, link_of, link_at, links_into, choices_of, same_sort}
use Rattle.sl_saves.specs.declared.entry.Total.{Total}
use Rattle.sl_model.specs.declared.findings.Row.{Row}
use Rattle.sl_model.specs.declared.findings.Finding.{Finding}
use Rattle.sl_machine.specs.declared.wiring.Entry.{Entry}
use Rattle.sl_report.specs.TraceText.{entry_line}
use Rattle.sl_report.specs.Report.{network_line, channel_text, totals_text, row_line, rows_text, finding_text, hosts_text, host_line}

pub totals_more : (net : Net) (ls : List ℕ) (ts : List Total) (i : ℕ) (d : Total) → i < length ls → i < length ts
    → totals_text net (drop i ls) (drop i ts) ≡ (codes " " ++ (channel_text net (get_or ls i 0) ++ (codes " " ++ (decimal (get_or ts i d).packets ++ (codes " " ++ decimal (get_or ts i d).bytes))))) ++ totals_text net (drop (i + 1) ls) (drop (i + 1) ts)
totals_more net ls ts i d h k = rw (drop_more ls i 0 h, drop_more ts i d k) (simp append_assoc)

-- two lists walked side by side, past the end of one
pub nothing_left : {A : Type 0} (text : List ℕ → List A → List ℕ) → text [] [] ≡ [] → ((n : ℕ) (ns : List ℕ) → text (n ∷ ns) [] ≡ []) → ((xs : List A) → text [] xs ≡ []) → (ns : List ℕ) (xs : List A) (i : ℕ) → min (length ns) (length xs) ≤ i → text (drop i ns) (drop i xs) ≡ []
nothing_left text none more no_ns ns xs i h = go (cases_order (length ns) i) (cases_order (length xs) i)
  where
    no_xs : (ns : List ℕ) → text ns [] ≡ []
    no_xs [] = none
    no_xs (n ∷ ns) = more n ns

    go : (length ns ≡ i) ⊎ ((length ns < i) ⊎ (i < length ns)) → (length xs ≡ i) ⊎ ((length xs < i) ⊎ (i < length xs)) → text (drop i ns) (drop i xs) ≡ []
    go (inl a) o = rw (drop_all i ns (omega arith)) (no_ns (drop i xs))
    go (inr (inl a)) o = rw (drop_all i ns (omega arith)) (no_ns (drop i xs))
    go (inr (inr a)) (inl b) = rw (drop_all i xs (omega arith)) (no_xs (drop i ns))
    go (inr (inr a)) (inr (inl b)) = rw (drop_all i xs (omega arith)) (no_xs (drop i ns))
    go (inr (inr a)) (inr (inr b)) = absurd (omega arith)

pub totals_none : (net : Net) (ls : List ℕ) (ts : List Total) (i : ℕ) → min (length ls) (length ts) ≤ i → totals_text net (drop i ls) (drop i ts) ≡ []
totals_none net = nothing_left (totals_text net) refl (λ n ns. refl) (λ ts. refl)

pub rows_none : (net : Net) (us : List ℕ) (rs : List Row) (i : ℕ) → min (length us) (length rs) ≤ i → rows_text net (drop i us) (drop i rs) ≡ []
rows_none net = nothing_left (rows_text net) refl (λ n ns. refl) (λ rs. refl)

-- what is written so far, where nothing is left
pub written_all : (out old rest whole : List ℕ) → out ++ rest ≡ old ++ whole → rest ≡ [] → out ≡ old ++ whole
written_all out old rest whole e none = sym (append-nil out) ∙ ap (λ (r : List ℕ). out ++ r) (sym none) ∙ e

pub rows_more : (net : Net) (us : List ℕ) (rs : List Row) (i : ℕ) (d : Row) → i < length us → i < length rs
    → rows_text net (drop i us) (drop i rs) ≡ row_line net (get_or us i 0) (get_or rs i d) ++ rows_text net (drop (i + 1) us) (drop (i + 1) rs)
rows_more net us rs i d h k = rw (drop_more us i 0 h, drop_more rs i d k) refl

pub findings_more : (net : Net) (fs : List Finding) (i : ℕ) (d : Finding) → i < length fs → flat_map (finding_text net) (drop i fs) ≡ finding_text net (get_or fs i d) ++ flat_map (finding_text net) (drop (i + 1) fs)
findings_more net fs i d h = rw (drop_more fs i d h) refl

pub entries_more : (net : Net) (es : List Entry) (i : ℕ) (d : Entry) → i < length es → flat_map (entry_line net) (drop i es) ≡ entry_line net (get_or es i d) ++ flat_map (entry_line net) (drop (i + 1) es)
entries_more net es i d h = rw (drop_more es i d h) refl

-- the sizes of a net as numbers
abbrev pub sizes_line : ℕ → ℕ → ℕ → List ℕ
sizes_line devices units hosts = codes "network devices " ++ (decimal devices ++ (codes " units " ++ (decimal units ++ (codes " hosts " ++ (decimal hosts ++ codes "\n")))))

pub sizes_are : (net : Net) (d u h : ℕ) → d ≡ length net.parts.devices → u ≡ length (units net) → h ≡ length net.parts.hosts → sizes_line d u h ≡ network_line net
unfolding network_line
sizes_are net d u h a b k =
    ap (λ (n : ℕ). sizes_line n u h) a ∙ ap (λ (n : ℕ). sizes_line (length net.parts.devices) n h) b ∙ ap (λ (n : ℕ). sizes_line (length net.parts.devices) (length (units net)) n) k

pub hosts_more : (hs : List HostPart) (ss ds : List ℕ) (i : ℕ) (d : HostPart) → i < length hs → i < length ss → i < length ds
    → hosts_text (map (λ host. host.name) (drop i hs)) (drop i ss) (drop i ds) ≡ host_line (get_or hs i d).name (get_or ss i 0) (get_or ds i 0) ++ hosts_text (map (λ host. host.name) (drop (i + 1) hs)) (drop (i + 1) ss) (drop (i + 1) ds)
hosts_more hs ss ds i d h k l = rw (drop_more hs i d h, drop_more ss i 0 k, drop_more ds i 0 l) refl

pub hosts_none : (hs : List HostPart) (ss ds : List ℕ) (i : ℕ) → min (min (length hs) (length ss)) (length ds) ≤ i → hosts_text (map (λ host. host.name) (drop i hs)) (drop i ss) (drop i ds) ≡ []
hosts_none hs ss ds i h = go (cases_order (length hs) i) (cases_order (length ss) i) (cases_order (length ds) i)
  where
    no_sent : (ks : List (List ℕ)) (ds : List ℕ) → hosts_text ks [] ds ≡ []
    no_sent [] ds = refl
    no_sent (k ∷ ks) ds = refl

    no_delivered : (ks : List (List ℕ)) (ss : List ℕ) → hosts_text ks ss [] ≡ []
    no_delivered [] ss = refl
    no_delivered (k ∷ ks) [] = refl
    no_delivered (k ∷ ks) (s ∷ ss) = refl

    go : (length hs ≡ i) ⊎ ((length hs < i) ⊎ (i < length hs)) → (length ss ≡ i) ⊎ ((length ss < i) ⊎ (i < length ss)) → (length ds ≡ i) ⊎ ((length ds < i) ⊎ (i < length ds))
        → hosts_text (map (λ host. host.name) (drop i hs)) (drop i ss) (drop i ds) ≡ []
    go (inl a) o p = rw (drop_all i hs (omega arith)) refl
    go (inr (inl a)) o p = rw (drop_all i hs (omega arith)) refl
    go (inr (inr a)) (inl b) p = rw (drop_all i ss (omega arith)) (no_sent (map (λ host. host.name) (drop i hs)) (drop i ds))
    go (inr (inr a)) (inr (inl b)) p = rw (drop_all i ss (omega arith)) (no_sent (map (λ host. host.name) (drop i hs)) (drop i ds))
    go (inr (inr a)) (inr (inr b)) (inl k) = rw (drop_all i ds (omega arith)) (no_delivered (map (λ host. host.name) (drop i hs)) (drop i ss))
    go (inr (inr a)) (inr (inr b)) (inr (inl k)) = rw (drop_all i ds (omega arith)) (no_delivered (map (λ host. host.name) (drop i hs)) (drop i ss))
    go (inr (inr a)) (inr (inr b)) (inr (inr k)) = absurd (omega arith)

pub filter_more : (p : ℕ → Bool) (xs : List ℕ) (i : ℕ) → i < length xs → filter p (drop i xs) ≡ cond (p (get_or xs i 0)) (get_or xs i 0 ∷ []) [] ++ filter p (drop (i + 1) xs)
filter_more p xs i h = rw (drop_more xs i 0 h) (go (p (get_or xs i 0)) refl)
  where
    go : (t : Bool) → p (get_or xs i 0) ≡ t → filter p (get_or xs i 0 ∷ drop (i + 1) xs) ≡ cond (p (get_or xs i 0)) (get_or xs i 0 ∷ []) [] ++ filter p (drop (i + 1) xs)
    go true t = rw t refl
    go false t = rw t refl

-- a net has an actor
pub some_actors : (net : Net) → net ≡ net_of net.parts → 0 < length net.actors
some_actors net e = subst (λ (n : Net). 0 < length n.actors) (sym e) (omega arith)

-- the elements of a list that pass, found by their places
by_places : (q : ℕ → Bool) (f : ℕ → ℕ) (start : ℕ) (xs : List ℕ) → ((i : ℕ) → i < length xs → f (start + i) ≡ get_or xs i 0) → map f (filter (λ c. q (f c)) (range_with_len start (length xs))) ≡ filter q xs
by_places q f start [] h = refl
by_places q f start (x ∷ xs) h =
    let later = λ (i : ℕ) (l : i < length xs). let e : start + suc i ≡ start + 1 + i = omega arith in subst (λ (n : ℕ). f n ≡ get_or xs i 0) e (h (suc i) (omega arith)) in
    go (q x) refl (by_places q f (start + 1) xs later)
  where
    here : f start ≡ x
    here = let e : start + 0 ≡ start = omega arith in subst (λ (n : ℕ). f n ≡ x) e (h 0 (omega arith))

    go : (t : Bool) → q x ≡ t → map f (filter (λ c. q (f c)) (range_with_len (start + 1) (length xs))) ≡ filter q xs → map f (filter (λ c. q (f c)) (range_with_len start (length (x ∷ xs)))) ≡ filter q (x ∷ xs)
    go true t rest = let u : q (f start) ≡ true = ap q here ∙ t in rw (t, u) (cc (here, rest))
    go false t rest = let u : q (f start) ≡ false = ap q here ∙ t in rw (t, u) rest

of_sort : (net : Net) (u : ℕ) (s : Sort) → map (link_at net u) (choices_of net u s) ≡ filter (λ l. same_sort (link_of net l).sort s) (links_into net u)
of_sort net u s = by_places (λ l. same_sort (link_of net l).sort s) (link_at net u) 0 (links_into net u) (λ i h. let e : 0 + i ≡ i = omega arith in ap (link_at net u) e)

channels_are : (net : Net) (u : ℕ) → filter (λ l. same_sort (link_of net l).sort Cable) (links_into net u) ++ filter (λ l. same_sort (link_of net l).sort Crossbar) (links_into net u) ≡ channel_links net u
channels_are net u =
    sym (map-append (link_at net u) (choices_of net u Cable) (choices_of net u Crossbar)
    ∙ ap (λ (xs : List ℕ). xs ++ map (link_at net u) (choices_of net u Crossbar)) (of_sort net u Cable)
    ∙ ap (λ (xs : List ℕ). filter (λ l. same_sort (link_of net l).sort Cable) (links_into net u) ++ xs) (of_sort net u Crossbar))

pub channels_added : (net : Net) (u : ℕ) (from none first all : List ℕ) → from ≡ links_into net u → none ≡ [] → first ≡ none ++ filter (λ l. same_sort (link_of net l).sort Cable) from
    → all ≡ first ++ filter (λ l. same_sort (link_of net l).sort Crossbar) from → all ≡ channel_links net u
channels_added net u from none first all a b c d =
    d ∙ ap (λ (xs : List ℕ). xs ++ filter (λ l. same_sort (link_of net l).sort Crossbar) from) (c ∙ ap (λ (xs : List ℕ). xs ++ filter (λ l. same_sort (link_of net l).sort Cable) from) b)
    ∙ ap (λ (xs : List ℕ). filter (λ l. same_sort (link_of net l).sort Cable) xs ++ filter (λ l. same_sort (link_of net l).sort Crossbar) xs) a ∙ channels_are net u
