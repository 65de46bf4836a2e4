-- Where a number was neither skipped nor miscredited, what is credited to it on a data channel is what came late there.
use Rattle.std.proofs.Common.{◌≡◌, ℕ, suc, ◌+◌, ◌<◌, ◌≤◌, List, [], ◌∷◌, ◌++◌, refl, sym, ap, ◌∙◌, Option, Some, None, arith, inl, inr, length, subst, zero, add-one}
use Rattle.std.specs.Prelude.{true, false, Bool, cond, nat_lt, nat_eq, ◌==◌, ◌&&◌, ◌⊎◌, if◌then◌else◌, filter, take, slice_get, IsTrue, map, replicate}
use Rattle.std.proofs.lemmas.Bool.{ltb-true, ltb-false, eq-eqb, ne_eqb, cases_lt, cases_Bool, lt-ltb, le-ltb}
use Rattle.std.proofs.lemmas.Bool.Decides.{eqb_tells}
use Rattle.sl_layout.specs.Net.{place_in, Net, link_of, links_into, data_channels, link_at, choice_of}
use Rattle.sl_saves.specs.declared.entry.Total.{Total}
use Rattle.sl_saves.specs.Calls.{Credit, one_more, total_on, totals}
use Rattle.sl_model.specs.declared.message.Message.{Message}
use Rattle.sl_model.specs.declared.message.Message.TheVariants.{Host, Data, Probe as ProbeMsg, Init as InitMsg, Poll as PollMsg, Notice as NoticeMsg, Dump as DumpMsg, Begin as BeginMsg, Done as DoneMsg}
use Rattle.sl_model.specs.declared.message.Step.{Step}
use Rattle.sl_parts.specs.Lists.{Each, Member}
use Rattle.sl_parts.proofs.Lists.{each-of, each-append, each-both-of, Distinct}
use Rattle.sl_model.specs.Words.{listed, weigh}
use Rattle.sl_model.specs.History.{History, id, takes, World, Losses, history, stamp_of, last, first}
use Rattle.sl_model.specs.Cut.{outside, data_count, data_bytes, channel_value}
use Rattle.sl_model.specs.Verdict.{is_old_data, adopted, nth_adopted, skipped_to, miscredits, lag}
use Rattle.sl_model.specs.Late.{is_old, IsLateData}
use Rattle.sl_net.proofs.Sorts.{place-same}
use Rattle.sl_model.proofs.Cuts.Prefixes.{outside-none, outside-more, id-le, value-is-late}
use Rattle.sl_model.specs.Calls.{credit, credits_in}
use Rattle.sl_model.specs.Rows.{is_among, credits_at, row}
use Rattle.sl_model.specs.LateTotal.{late_total}
use Rattle.sl_model.proofs.Saved.Entries.{adopted-falls, credits-none, credits-same, credit-clear, map-each}
use Rattle.sl_model.proofs.Saved.Rows.{nth-take, adopted-at, row-stays}
use Rattle.sl_layout.specs.declared.actor.Sort.{Sort}
use Rattle.sl_layout.specs.declared.actor.Sort.TheVariants.{Cable, Crossbar}
use Rattle.sl_net.specs.declared.input.Packet.{Packet}
use Rattle.sl_net.specs.Wired.{IsWired}
use Rattle.sl_model.specs.Setup.{Setup}
use Rattle.sl_model.specs.World.{Entry, run, receiver}
use Rattle.sl_model.specs.Made.{Took, Acted, IsMade, IsFifoRun}
use Rattle.sl_model.specs.Fit.{fits_link}
use Rattle.sl_model.proofs.Worlds.Turns.{kept_by_run}
use Rattle.sl_model.proofs.Worlds.FifoRuns.{fifo_run-turn}
use Rattle.sl_model.proofs.Worlds.Numbers.{never-falls, NeverFalls}
use Rattle.sl_model.proofs.Worlds.Stamps.{id-falls}
use Rattle.sl_model.proofs.Cuts.Begins.{TakesFit, fit-taken, fit-before, fit-last, last-never-falls, heard-this}
use Rattle.sl_model.proofs.Cuts.Bounds.{extends-run}
use Rattle.sl_model.proofs.Cuts.Collected.{Reached, reached-of, channel-at, IsChannel, each-channel, distinct-channels, data-fits, sort-stamped}
use Rattle.std.proofs.lemmas.Option.{get_or_from_slice_get}
use Rattle.std.specs.List.{range_with_len}
use Rattle.sl_model.specs.Matching.{is_data}
use Rattle.sl_saves.specs.Keeping.{no_total}
use Rattle.sl_model.specs.Findings.{eight_totals, channel_links}

-- Places in a list.

pub place-here : (n x y : ℕ) (ys : List ℕ) → y ≡ x → place_in n x (y ∷ ys) ≡ n
place-here n x y ys p = ap (λ b. if b then n else place_in (suc n) x ys) (eq-eqb y x p)

pub place-past : (n x y : ℕ) (ys : List ℕ) → (y ≡ x → ⊥) → place_in n x (y ∷ ys) ≡ place_in (suc n) x ys
place-past n x y ys p = ap (λ b. if b then n else place_in (suc n) x ys) (ne_eqb y x p)

-- Totals.

abbrev zero_total : Total
zero_total = record { packets = 0; bytes = 0 }

abbrev pub both_totals : Total → Total → Total
both_totals a b = record { packets = a.packets + b.packets; bytes = a.bytes + b.bytes }

abbrev old_total : ℕ → List Message → Total
old_total k ms = record { packets = weigh data_count (filter (is_old k) ms); bytes = weigh data_bytes (filter (is_old k) ms) }

weigh-filter : (f : Message → ℕ) (t : Message → Bool) (ms ns : List Message) → weigh f (filter t (ms ++ ns)) ≡ weigh f (filter t ms) + weigh f (filter t ns)
weigh-filter f t [] ns = omega arith
weigh-filter f t (m ∷ ms) ns = by_bool (t m) (weigh-filter f t ms ns)
  where
    by_bool : (b : Bool) → weigh f (filter t (ms ++ ns)) ≡ weigh f (filter t ms) + weigh f (filter t ns)
        → weigh f (if b then m ∷ filter t (ms ++ ns) else filter t (ms ++ ns)) ≡ weigh f (if b then m ∷ filter t ms else filter t ms) + weigh f (filter t ns)
    by_bool true ih = omega (arith, ih)
    by_bool false ih = ih

old-append : (k : ℕ) (ms ns : List Message) → old_total k (ms ++ ns) ≡ both_totals (old_total k ms) (old_total k ns)
old-append k ms ns = let p = weigh-filter data_count (is_old k) ms ns in let b = weigh-filter data_bytes (is_old k) ms ns in λ i. record { packets = p i; bytes = b i }

on-front : (j : ℕ) (x : Credit) (xs : List Credit) → total_on j (x ∷ xs) ≡ both_totals (total_on j xs) (total_on j (x ∷ []))
on-front j x xs = by_bool (x.channel == j)
  where
    by_bool : (b : Bool) → (if b then one_more x.bytes (total_on j xs) else total_on j xs) ≡ both_totals (total_on j xs) (if b then one_more x.bytes zero_total else zero_total)
    by_bool true = let p : (total_on j xs).packets + 1 ≡ (total_on j xs).packets + (0 + 1) = omega arith in let b : (total_on j xs).bytes + x.bytes ≡ (total_on j xs).bytes + (0 + x.bytes) = omega arith in
        λ i. record { packets = p i; bytes = b i }
    by_bool false = let p : (total_on j xs).packets ≡ (total_on j xs).packets + 0 = omega arith in let b : (total_on j xs).bytes ≡ (total_on j xs).bytes + 0 = omega arith in
        λ i. record { packets = p i; bytes = b i }

with-zero : (t : Total) → t ≡ both_totals t zero_total
with-zero t = let p : t.packets ≡ t.packets + 0 = omega arith in let b : t.bytes ≡ t.bytes + 0 = omega arith in λ i. record { packets = p i; bytes = b i }

-- at most one credit in front
pub step-total : (cs : List ℕ) (j k ch : ℕ) (o : Option Message) (xs : List Credit) → total_on j (credits_in cs k ch o ++ xs) ≡ both_totals (total_on j xs) (total_on j (credits_in cs k ch o))
step-total cs j k ch (Some (Data s p)) xs = by_bool (nat_lt s k)
  where
    by_bool : (b : Bool) → total_on j ((if b then credit cs k ch s p ∷ [] else []) ++ xs) ≡ both_totals (total_on j xs) (total_on j (if b then credit cs k ch s p ∷ [] else []))
    by_bool true = on-front j (credit cs k ch s p) xs
    by_bool false = with-zero (total_on j xs)
step-total cs j k ch _ xs = with-zero (total_on j xs)

-- What one step adds.

abbrev taken_by_choice : ℕ → ℕ → Option Message → List Message
taken_by_choice ch c o = if ch == c then listed o else []

no-data : (k ch c : ℕ) (m : Message) → data_count m ≡ 0 → data_bytes m ≡ 0 → zero_total ≡ old_total k (taken_by_choice ch c (Some m))
no-data k ch c m p b = by_bools (ch == c) (is_old k m)
  where
    by_old : (o : Bool) → zero_total ≡ record { packets = weigh data_count (if o then m ∷ [] else []); bytes = weigh data_bytes (if o then m ∷ [] else []) }
    by_old true = let x : 0 ≡ data_count m + 0 = omega (arith, p) in let y : 0 ≡ data_bytes m + 0 = omega (arith, b) in λ i. record { packets = x i; bytes = y i }
    by_old false = refl

    by_bools : (t o : Bool) → zero_total ≡ old_total k (if t then m ∷ [] else [])
    by_bools true o = by_old (is_old k m)
    by_bools false o = refl

nothing-taken : (k ch c : ℕ) → zero_total ≡ old_total k (taken_by_choice ch c None)
nothing-taken k ch c = by_bool (ch == c)
  where
    by_bool : (t : Bool) → zero_total ≡ old_total k (if t then [] else [])
    by_bool true = refl
    by_bool false = refl

of-step : (cs : List ℕ) (k ch c : ℕ) (o : Option Message) → Member c cs → total_on (place_in 0 c cs) (credits_in cs k ch o) ≡ old_total k (taken_by_choice ch c o)
of-step cs k ch c (Some (Data s p)) m = by_tells (eqb_tells ch c)
  where
    by_old : (b : Bool) → total_on (place_in 0 c cs) (if b then credit cs k c s p ∷ [] else [])
        ≡ record { packets = weigh data_count (if b then Data s p ∷ [] else []); bytes = weigh data_bytes (if b then Data s p ∷ [] else []) }
    by_old true = ap (λ b. if b then one_more p.len zero_total else zero_total) (eq-eqb (place_in 0 c cs) (place_in 0 c cs) refl)
        ∙ (let b : 0 + p.len ≡ p.len + 0 = omega arith in λ i. record { packets = 1; bytes = b i })
    by_old false = refl

    elsewhere : (ch ≡ c → ⊥) → (b : Bool) → total_on (place_in 0 c cs) (if b then credit cs k ch s p ∷ [] else []) ≡ zero_total
    elsewhere ne true = ap (λ b. if b then one_more p.len zero_total else zero_total) (ne_eqb (place_in 0 ch cs) (place_in 0 c cs) (λ e. ne (place-same 0 ch c cs m e)))
    elsewhere ne false = refl

    by_tells : ((nat_eq ch c ≡ true) × (ch ≡ c)) ⊎ ((nat_eq ch c ≡ false) × (ch ≡ c → ⊥)) → total_on (place_in 0 c cs) (credits_in cs k ch (Some (Data s p))) ≡ old_total k (taken_by_choice ch c (Some (Data s p)))
    by_tells (inl q) = ap (λ d. total_on (place_in 0 c cs) (credits_in cs k d (Some (Data s p)))) q.1 ∙ by_old (nat_lt s k)
        ∙ sym (ap (λ b. old_total k (if b then Data s p ∷ [] else [])) q.0)
    by_tells (inr q) = elsewhere q.1 (nat_lt s k) ∙ sym (ap (λ b. old_total k (if b then Data s p ∷ [] else [])) q.0)
of-step cs k ch c None m = nothing-taken k ch c
of-step cs k ch c (Some (Host b)) m = no-data k ch c (Host b) refl refl
of-step cs k ch c (Some (ProbeMsg s)) m = no-data k ch c (ProbeMsg s) refl refl
of-step cs k ch c (Some (InitMsg s)) m = no-data k ch c (InitMsg s) refl refl
of-step cs k ch c (Some PollMsg) m = no-data k ch c PollMsg refl refl
of-step cs k ch c (Some NoticeMsg) m = no-data k ch c NoticeMsg refl refl
of-step cs k ch c (Some (DumpMsg n)) m = no-data k ch c (DumpMsg n) refl refl
of-step cs k ch c (Some (BeginMsg n)) m = no-data k ch c (BeginMsg n) refl refl
of-step cs k ch c (Some (DoneMsg u n)) m = no-data k ch c (DoneMsg u n) refl refl

-- what has no miscredit takes no old data below the n-th adopted number
none-first : (n k : ℕ) (s : Step) (h : History) → miscredits n k (s ∷ h) ≡ [] → (miscredits n k h ≡ []) × ((is_old_data k s.taken && nat_lt k (nth_adopted n (s ∷ h))) ≡ false)
none-first n k s h q = by_bool (is_old_data k s.taken && nat_lt k (nth_adopted n (s ∷ h))) q
  where
    by_bool : (b : Bool) → cond b (nth_adopted n (s ∷ h) ∷ miscredits n k h) (miscredits n k h) ≡ [] → (miscredits n k h ≡ []) × (b ≡ false)
    by_bool true q = absurd (cc)
    by_bool false q = (q, refl)

skip-first : (k : ℕ) (s : Step) (h : History) → skipped_to k (s ∷ h) ≡ None → skipped_to k h ≡ None
skip-first k s h q = by_bool (nat_lt (id h) k && nat_lt k (id (s ∷ h))) q
  where
    by_bool : (b : Bool) → (if b then Some (id (s ∷ h)) else skipped_to k h) ≡ None → skipped_to k h ≡ None
    by_bool true q = absurd (cc)
    by_bool false q = q

old-below : (k : ℕ) (o : Option Message) → is_old_data k o ≡ true → 1 ≤ k
old-below k (Some (Data s p)) q = let l : s < k = ltb-true s k q in omega (arith, l)
old-below k _ q = absurd cc

-- old data of a number that was not skipped goes to it, where it goes to no n numbers above
old-given : (n k : ℕ) (s : Step) (h : History) → 1 ≤ n → k ≤ id (s ∷ h) → skipped_to k (s ∷ h) ≡ None → is_old_data k s.taken ≡ true → (is_old_data k s.taken && nat_lt k (nth_adopted n (s ∷ h))) ≡ false
    → is_among k (take n (adopted (s ∷ h))) ≡ true
old-given n k s h one p q o r = nth-take n k (adopted (s ∷ h)) one (adopted-falls (s ∷ h)) (adopted-at k (s ∷ h) (old-below k s.taken o) p q)
    (ltb-false k (nth_adopted n (s ∷ h)) (sym (ap (λ b. b && nat_lt k (nth_adopted n (s ∷ h))) o) ∙ r))

-- a step outside the cut adds what it credits to k
credits-outside : (n : ℕ) (cs : List ℕ) (j k : ℕ) (s : Step) (h : History) → 1 ≤ n → k ≤ id (s ∷ h) → skipped_to k (s ∷ h) ≡ None → (is_old_data k s.taken && nat_lt k (nth_adopted n (s ∷ h))) ≡ false
    → total_on j (credits_at n cs k (s ∷ h)) ≡ both_totals (total_on j (credits_at n cs k h)) (total_on j (credits_in cs k s.choice s.taken))
credits-outside n cs j k s h one p q r = by_old (cases_Bool (is_old_data k s.taken))
  where
    by_old : ((is_old_data k s.taken ≡ true) ⊎ (is_old_data k s.taken ≡ false)) → total_on j (credits_at n cs k (s ∷ h)) ≡ both_totals (total_on j (credits_at n cs k h)) (total_on j (credits_in cs k s.choice s.taken))
    by_old (inl o) = ap (λ b. total_on j (if b then credits_in cs k s.choice s.taken ++ credits_at n cs k h else credits_at n cs k h)) (old-given n k s h one p q o r) ∙ step-total cs j k s.choice s.taken (credits_at n cs k h)
    by_old (inr o) = let e : credits_in cs k s.choice s.taken ≡ [] = credit-clear cs k s.choice s.taken o in
        ap (total_on j) (credits-same n cs k s h e) ∙ with-zero (total_on j (credits_at n cs k h)) ∙ ap (λ xs. both_totals (total_on j (credits_at n cs k h)) (total_on j xs)) (sym e)

late-credited : (n : ℕ) (cs : List ℕ) (k c : ℕ) (h : History) → 1 ≤ n → Member c cs → skipped_to k h ≡ None → miscredits n k h ≡ [] → total_on (place_in 0 c cs) (credits_at n cs k h) ≡ late_total k c h
late-credited n cs k c [] one m v q = refl
late-credited n cs k c (s ∷ h) one m v q = by_place (cases_lt (id (s ∷ h)) k) (none-first n k s h q) (late-credited n cs k c h one m (skip-first k s h v))
  where
    by_place : ((id (s ∷ h) < k) ⊎ (k ≤ id (s ∷ h))) → (miscredits n k h ≡ []) × ((is_old_data k s.taken && nat_lt k (nth_adopted n (s ∷ h))) ≡ false)
        → (miscredits n k h ≡ [] → total_on (place_in 0 c cs) (credits_at n cs k h) ≡ late_total k c h) → total_on (place_in 0 c cs) (credits_at n cs k (s ∷ h)) ≡ late_total k c (s ∷ h)
    by_place (inl p) r ih = ap (total_on (place_in 0 c cs)) (credits-none n cs k (s ∷ h) p) ∙ sym (ap (λ g. old_total k (takes c g)) (outside-none k (s ∷ h) p))
    by_place (inr p) r ih = credits-outside n cs (place_in 0 c cs) k s h one p v r.1 ∙ (λ i. both_totals (ih r.0 i) (of-step cs k s.choice c s.taken m i))
        ∙ sym (old-append k (takes c (outside k h)) (taken_by_choice s.choice c s.taken)) ∙ sym (ap (λ g. old_total k (takes c g)) (outside-more k s h p))

pub each-late : (n : ℕ) (cs : List ℕ) (k : ℕ) (h : History) → 1 ≤ n → skipped_to k h ≡ None → miscredits n k h ≡ [] → Each (λ c. total_on (place_in 0 c cs) (credits_at n cs k h) ≡ late_total k c h) cs
each-late n cs k h one v q = each-of (λ c. total_on (place_in 0 c cs) (credits_at n cs k h) ≡ late_total k c h) cs (λ c m. late-credited n cs k c h one m v q)

-- Histories of a world: data comes on data channels, and rows that are collected stay.

-- Data channels.

abbrev pub IsData : Net → ℕ → Type 0
IsData net l = ((link_of net l).sort ≡ Cable) ⊎ ((link_of net l).sort ≡ Crossbar)

-- a step that takes data takes it from a link that carries data
pub data-link : (s : Setup) (a j : ℕ) (p : Packet) (step : Step) (h : History) → TakesFit s a (step ∷ h) → (t : Took s a h step) → t.message ≡ Data j p → IsData s.net t.link
data-link s a j p step h f t e = data-fits (link_of s.net t.link).sort j p (ap (fits_link s.net t.link) (sym e) ∙ fit-last s a step h f t)

-- a choice that takes from a link that carries data is a data channel
pub is-channel : (net : Net) (a c l : ℕ) → slice_get (links_into net a) c ≡ Some l → IsData net l → Member c (data_channels net a)
is-channel net a c l k q = channel-at net a c l (λ c. Member c (data_channels net a)) (each-of (λ c. Member c (data_channels net a)) (data_channels net a) (λ c m. m)) k q

pub place-lt : (n c : ℕ) (xs : List ℕ) → Member c xs → place_in n c xs < n + length xs
place-lt n c [] m = absurd m
place-lt n c (y ∷ ys) m = by_tells (eqb_tells y c) m (λ r. place-lt (suc n) c ys r)
  where
    by_tells : ((nat_eq y c ≡ true) × (y ≡ c)) ⊎ ((nat_eq y c ≡ false) × (y ≡ c → ⊥)) → Member c (y ∷ ys) → (Member c ys → place_in (suc n) c ys < suc n + length ys) → place_in n c (y ∷ ys) < n + suc (length ys)
    by_tells (inl q) m ih = let e = place-here n c y ys q.1 in omega (arith, e)
    by_tells (inr q) (inl r) ih = absurd (q.1 (sym r))
    by_tells (inr q) (inr r) ih = let e = place-past n c y ys q.1 in let i = ih r in omega (arith, e, i)

-- each credit names a data channel
abbrev pub IsPlaced : Net → ℕ → Credit → Type 0
IsPlaced net a x = x.channel < length (data_channels net a)

pub credits-placed : (s : Setup) (a k : ℕ) (step : Step) (h : History) → TakesFit s a (step ∷ h) → Took s a h step ⊎ Acted s a h step
    → Each (IsPlaced s.net a) (credits_in (data_channels s.net a) k step.choice step.taken)
credits-placed s a k step h f (inr t) = subst (λ o. Each (IsPlaced s.net a) (credits_in (data_channels s.net a) k step.choice o)) (sym t.taken) tt
credits-placed s a k step h f (inl t) = subst (λ o. Each (IsPlaced s.net a) (credits_in (data_channels s.net a) k step.choice o)) (sym t.taken) (of_message t.message refl)
  where
    of_data : (j : ℕ) (p : Packet) → t.message ≡ Data j p → (b : Bool) → Each (IsPlaced s.net a) (if b then credit (data_channels s.net a) k step.choice j p ∷ [] else [])
    of_data j p e true = (let m = place-lt 0 step.choice (data_channels s.net a) (is-channel s.net a step.choice t.link t.into (data-link s a j p step h f t e)) in omega (arith, m), tt)
    of_data j p e false = tt

    of_message : (m : Message) → t.message ≡ m → Each (IsPlaced s.net a) (credits_in (data_channels s.net a) k step.choice (Some m))
    of_message (Data j p) e = of_data j p e (nat_lt j k)
    of_message _ e = tt

pub all-placed : (s : Setup) (n a k : ℕ) (h : History) → IsMade s a h → TakesFit s a h → Each (IsPlaced s.net a) (credits_at n (data_channels s.net a) k h)
all-placed s n a k [] m f = tt
all-placed s n a k (step ∷ h) m f = by_bool (is_among k (take n (adopted (step ∷ h)))) (all-placed s n a k h m.1 (fit-before s a step h f))
  where
    by_bool : (b : Bool) → Each (IsPlaced s.net a) (credits_at n (data_channels s.net a) k h)
        → Each (IsPlaced s.net a) (if b then credits_in (data_channels s.net a) k step.choice step.taken ++ credits_at n (data_channels s.net a) k h else credits_at n (data_channels s.net a) k h)
    by_bool true ih = each-append (IsPlaced s.net a) (credits_in (data_channels s.net a) k step.choice step.taken) (credits_at n (data_channels s.net a) k h) (credits-placed s a k step h f m.0) ih
    by_bool false ih = ih

-- Collected rows.

-- the last-seen numbers of data channels never fall
abbrev ChannelsRise : Setup → ℕ → History → Type 0
ChannelsRise s a h = (c l : ℕ) → slice_get (links_into s.net a) c ≡ Some l → IsData s.net l → NeverFalls (last c) h

channels-rise : (s : Setup) (lost : Losses) (w : World) (a : ℕ) → IsWired s.net → IsFifoRun s lost w → ChannelsRise s a (history w a)
channels-rise s lost w a n r c l k q = last-never-falls s lost w a c l n r k (sort-stamped (link_of s.net l).sort q)

-- what comes after k was reached is no data with a stamp below k
none-older : (s : Setup) (a k : ℕ) (step : Step) (h : History) → TakesFit s a (step ∷ h) → ChannelsRise s a (step ∷ h) → Reached s.net k a h → Took s a h step ⊎ Acted s a h step → is_old_data k step.taken ≡ false
none-older s a k step h f d r (inr t) = ap (is_old_data k) t.taken
none-older s a k step h f d r (inl t) = ap (is_old_data k) t.taken ∙ of_message t.message refl
  where
    of_message : (m : Message) → t.message ≡ m → is_old_data k (Some m) ≡ false
    of_message (Data j p) e = let q = data-link s a j p step h f t e in
        let new : last step.choice (step ∷ h) ≡ j = heard-this stamp_of step.choice j step h (Data j p) refl (t.taken ∙ ap (λ m. Some m) e) refl in
        let low : k ≤ last step.choice h = channel-at s.net a step.choice t.link (λ c. k ≤ last c h) r.lasts t.into q in
        let more : last step.choice h ≤ last step.choice (step ∷ h) = (d step.choice t.link t.into q).0 in
        le-ltb j k (omega (arith, new, low, more))
    of_message _ e = refl

record IsSettled (net : Net) (n : ℕ) (cs : List ℕ) (a k : ℕ) (g h : History) : Type 0 where
  pub reached : Reached net k a h
  pub same : row n cs k h ≡ row n cs k g

settled-step : (s : Setup) (n : ℕ) (cs : List ℕ) (a k : ℕ) (step : Step) (g h : History) → TakesFit s a (step ∷ h) → ChannelsRise s a (step ∷ h) → Took s a h step ⊎ Acted s a h step
    → IsSettled s.net n cs a k g h → IsSettled s.net n cs a k g (step ∷ h)
settled-step s n cs a k step g h f d t i = let r = i.reached in record {
  reached = record {
    id_at = omega (arith, r.id_at, id-le step h);
    lasts = each-both-of (λ c. k ≤ last c h) (IsChannel s.net a) (λ c. k ≤ last c (step ∷ h)) (data_channels s.net a)
        (λ c p x. let more : last c h ≤ last c (step ∷ h) = (d c x.link x.into x.data_sort).0 in omega (arith, p, more)) r.lasts (each-channel s.net a);
  };
  same = row-stays n cs k step h r.id_at (none-older s a k step h f d r t) ∙ i.same;
}

settled-from : (s : Setup) (n : ℕ) (cs : List ℕ) (a k m : ℕ) (h : History) → IsMade s a h → TakesFit s a h → ChannelsRise s a h → Reached s.net k a (first m h) → IsSettled s.net n cs a k (first m h) h
settled-from s n cs a k m [] i f d q = record { reached = q; same = refl }
settled-from s n cs a k m (step ∷ h) i f d q = by_cases (cases_lt (length h) m) (settled-from s n cs a k m h i.1 (fit-before s a step h f) (λ c l e t. (d c l e t).1))
  where
    whole : length h < m → first m (step ∷ h) ≡ step ∷ h
    whole p = ap (λ b. if b then step ∷ h else first m h) (lt-ltb (length h) m p)

    past : m ≤ length h → first m (step ∷ h) ≡ first m h
    past p = ap (λ b. if b then step ∷ h else first m h) (le-ltb (length h) m p)

    by_cases : ((length h < m) ⊎ (m ≤ length h)) → (Reached s.net k a (first m h) → IsSettled s.net n cs a k (first m h) h) → IsSettled s.net n cs a k (first m (step ∷ h)) (step ∷ h)
    by_cases (inl p) ih = subst (λ g. IsSettled s.net n cs a k g (step ∷ h)) (sym (whole p)) (record { reached = subst (Reached s.net k a) (whole p) q; same = refl })
    by_cases (inr p) ih = subst (λ g. IsSettled s.net n cs a k g (step ∷ h)) (sym (past p)) (settled-step s n cs a k step (first m h) h f d i.0 (ih (subst (Reached s.net k a) (past p) q)))

settled : (s : Setup) (lost : Losses) (w : World) (n : ℕ) (cs : List ℕ) (u k m : ℕ) → IsWired s.net → IsFifoRun s lost w → Reached s.net k u (first m (history w u)) → IsSettled s.net n cs u k (first m (history w u)) (history w u)
settled s lost w n cs u k m t r q = settled-from s n cs u k m (history w u) (r.made u) (fit-taken s lost w u r) (channels-rise s lost w u t r) q

-- Once nothing of a unit lags behind k, the row of k stays.
pub row-kept : (s : Setup) (lost : Losses) (w : World) (credits : ℕ) (cs : List ℕ) (u k n : ℕ) → IsWired s.net → IsFifoRun s lost w → lag s.net k u (first n (history w u)) ≡ None → row credits cs k (history w u) ≡ row credits cs k (first n (history w u))
row-kept s lost w credits cs u k n t r q = (settled s lost w credits cs u k n t r (reached-of s.net k u (first n (history w u)) q)).same

-- ... after more of the unit's steps
pub row-later : (s : Setup) (lost : Losses) (w : World) (credits : ℕ) (cs : List ℕ) (u k n m : ℕ) → IsWired s.net → IsFifoRun s lost w → n ≤ m → lag s.net k u (first n (history w u)) ≡ None
    → row credits cs k (first m (history w u)) ≡ row credits cs k (first n (history w u))
row-later s lost w credits cs u k n m t r p q = of_reached (reached-of s.net k u (first n (history w u)) q)
  where
    of_reached : Reached s.net k u (first n (history w u)) → row credits cs k (first m (history w u)) ≡ row credits cs k (first n (history w u))
    of_reached x = sym ((settled s lost w credits cs u k m t r (record {
      id_at = let i : id (first n (history w u)) ≤ id (first m (history w u)) = never-falls id n m (history w u) (id-falls (history w u)) p in omega (arith, x.id_at, i);
      lasts = each-both-of (λ c. k ≤ last c (first n (history w u))) (IsChannel s.net u) (λ c. k ≤ last c (first m (history w u))) (data_channels s.net u)
          (λ c b y. let i : last c (first n (history w u)) ≤ last c (first m (history w u)) = never-falls (last c) n m (history w u) (channels-rise s lost w u t r c y.link y.into y.data_sort) p in omega (arith, b, i))
          x.lasts (each-channel s.net u);
    })).same) ∙ (settled s lost w credits cs u k n t r x).same

-- ... in every longer schedule
pub row-ahead : (s : Setup) (lost : Losses) (w : World) (es : List Entry) (credits : ℕ) (cs : List ℕ) (u k n : ℕ) → IsWired s.net → IsFifoRun s lost w → n ≤ length (history w u) → lag s.net k u (first n (history w u)) ≡ None
    → row credits cs k (history (run s lost w es) u) ≡ row credits cs k (first n (history w u))
row-ahead s lost w es credits cs u k n t r p q = let e : first n (history (run s lost w es) u) ≡ first n (history w u) = (extends-run s lost w es u).steps n p in
    row-kept s lost (run s lost w es) credits cs u k n t (kept_by_run s lost (IsFifoRun s lost) (fifo_run-turn s lost) w es r) (subst (λ g. lag s.net k u g ≡ None) (sym e) q) ∙ ap (row credits cs k) e

-- The totals of a unit's row are the values of its data channels.

-- Each data channel is there once.

by-place : {A : Type 0} (g : ℕ → A) (n : ℕ) (xs : List ℕ) → Distinct xs → map (λ c. g (place_in n c xs)) xs ≡ map g (range_with_len n (length xs))
by-place g n [] d = refl
by-place g n (y ∷ ys) d = let head = ap g (place-here n y y ys refl) in
    let rest = map-each (λ c. g (place_in n c (y ∷ ys))) (λ c. g (place_in (suc n) c ys)) ys
    (each-of (λ c. g (place_in n c (y ∷ ys)) ≡ g (place_in (suc n) c ys)) ys (λ c m. ap g (place-past n c y ys (λ e. d.0 (subst (λ z. Member z ys) (sym e) m))))) in
    (λ i. head i ∷ rest i) ∙ ap (λ r. g n ∷ r) (by-place g (suc n) ys d.1) ∙ ap (λ s. g n ∷ map g (range_with_len s (length ys))) (sym (add-one n))

-- Places past the data channels are 0.

fill : (g : ℕ → Total) (s n m k : ℕ) → m ≤ k → ((j : ℕ) → s + n ≤ j → g j ≡ no_total) → take m (map g (range_with_len s n) ++ replicate k no_total) ≡ map g (range_with_len s m)
fill g s n zero k p z = refl
fill g s (suc n) (suc m) k p z = ap (λ r. g s ∷ r) (fill g (s + 1) n m k (omega (arith, p)) (λ j q. z j (omega (arith, q))))
fill g s zero (suc m) zero p z = absurd (omega (arith, p))
fill g s zero (suc m) (suc k) p z = let head = sym (z s (omega arith)) in let rest = fill g (s + 1) zero m k (omega (arith, p)) (λ j q. z j (omega (arith, q))) in
    λ i. head i ∷ rest i

none-on : (j n : ℕ) (xs : List Credit) → Each (λ x. x.channel < n) xs → n ≤ j → total_on j xs ≡ no_total
none-on j n [] e p = refl
none-on j n (x ∷ xs) e p = ap (λ b. if b then one_more x.bytes (total_on j xs) else total_on j xs) (ne_eqb x.channel j (let a : x.channel < n = e.0 in λ q. omega (arith, q, a, p))) ∙ none-on j n xs e.1 p

eight-are : (cs : List ℕ) (xs : List Credit) → Distinct cs → Each (λ x. x.channel < length cs) xs → eight_totals (map (λ c. total_on (place_in 0 c cs) xs) cs) ≡ totals xs
eight-are cs xs d e = ap eight_totals (by-place (λ j. total_on j xs) 0 cs d) ∙ fill (λ j. total_on j xs) 0 (length cs) 8 8 (omega arith) (λ j q. none-on j (length cs) xs e (omega (arith, q)))

pub map-both : {A B C : Type 0} (f : B → C) (g : A → B) (h : A → C) (xs : List A) → Each (λ x. f (g x) ≡ h x) xs → map f (map g xs) ≡ map h xs
map-both f g h [] e = refl
map-both f g h (x ∷ xs) e = λ i. e.0 i ∷ map-both f g h xs e.1 i

-- The channels' values.

pub data-is : (t : Sort) → (t ≡ Cable) ⊎ (t ≡ Crossbar) → IsTrue (is_data t)
data-is t (inl q) = subst (λ t. IsTrue (is_data t)) (sym q) refl
data-is t (inr q) = subst (λ t. IsTrue (is_data t)) (sym q) refl

value-late : (s : Setup) (lost : Losses) (w : World) (k u c : ℕ) → IsWired s.net → IsFifoRun s lost w → IsChannel s.net u c → channel_value s.net lost w k (link_at s.net u c) ≡ late_total k c (history w u)
value-late s lost w k u c n r i = let at : link_at s.net u c ≡ i.link = get_or_from_slice_get (links_into s.net u) c i.link 0 i.into in
    ap (channel_value s.net lost w k) at ∙ of_late (value-is-late s lost w k i.link n r (record { link = (n.ways.into u c i.link i.into).is_link; data_sort = data-is (link_of s.net i.link).sort i.data_sort }))
    ∙ (λ j. late_total k (n.ways.choice u c i.link i.into j) (history w ((n.ways.into u c i.link i.into).to j)))
  where
    of_late : IsLateData s.net lost w k i.link → channel_value s.net lost w k i.link ≡ late_total k (choice_of s.net i.link) (receiver s.net w i.link)
    of_late x = let p = x.packets in let b = x.bytes in λ j. record { packets = p j; bytes = b j }

pub totals-are : (s : Setup) (lost : Losses) (w : World) (credits k u : ℕ) → IsWired s.net → IsFifoRun s lost w → 1 ≤ credits → skipped_to k (history w u) ≡ None → miscredits credits k (history w u) ≡ []
    → totals (credits_at credits (data_channels s.net u) k (history w u)) ≡ eight_totals (map (channel_value s.net lost w k) (channel_links s.net u))
totals-are s lost w credits k u n r one v q = let cs = data_channels s.net u in let xs = credits_at credits cs k (history w u) in
    sym (eight-are cs xs (distinct-channels s.net u) (all-placed s credits u k (history w u) (r.made u) (fit-taken s lost w u r)))
    ∙ sym (ap eight_totals (map-both (channel_value s.net lost w k) (link_at s.net u) (λ c. total_on (place_in 0 c cs) xs) cs
    (each-both-of (IsChannel s.net u) (λ c. total_on (place_in 0 c cs) xs ≡ late_total k c (history w u)) (λ c. channel_value s.net lost w k (link_at s.net u c) ≡ total_on (place_in 0 c cs) xs) cs
    (λ c i e. value-late s lost w k u c n r i ∙ sym e) (each-channel s.net u) (each-late credits cs k (history w u) one v q))))
