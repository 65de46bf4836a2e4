-- A world without its hostile steps: its floor, and its findings.
--     tell_in net z place n    how many of the first n steps of the unit at a place are no hostile ones, in the last world z
--     IsAt laws z w v          the world v is w without its hostile steps, with numbers told anew, on the way to z
use Rattle.std.proofs.Common.{◌≡◌, ℕ, suc, ◌-◌, ◌≤◌, List, [], ◌∷◌, length, refl, sym, ap, ◌∙◌, Some, arith, inl, inr, zero, ◌+◌, ◌<◌, subst, Option, None}
use Rattle.std.specs.Prelude.{true, false, Bool, ◌⊎◌, ◌==◌, if◌then◌else◌, map, min, nat_eq, nat_lt, unwrap_or, slice_index_or, slice_get, cond, filter, nat_le}
use Rattle.std.specs.List.{fold, range_with_len}
use Rattle.std.proofs.lemmas.Bool.Decides.{eqb_tells}
use Rattle.std.proofs.lemmas.List.{length-map}
use Rattle.sl_layout.specs.declared.actor.ActorId.{ActorId}
use Rattle.sl_layout.specs.declared.actor.ActorId.TheVariants.{Observer, Control, Unit as OfUnit, Host as OfHost}
use Rattle.sl_layout.specs.declared.actor.UnitId.{UnitId}
use Rattle.sl_layout.specs.declared.actor.Sort.{Sort}
use Rattle.sl_layout.specs.declared.actor.Sort.TheVariants.{FromHost, ToHost, Init, Cable, Crossbar, Notice}
use Rattle.sl_layout.specs.Net.{Net, actor_of, link_of, links_into, choices_of, data_channels, action_choice, is_unit, units, unit_place, place_in, nobody, link_at, link_numbers, same_sort, choice_of, is_host, hosts}
use Rattle.sl_net.specs.Wired.{receives, IsWired, sends}
use Rattle.sl_parts.specs.Lists.{Each, Member}
use Rattle.sl_parts.specs.Parts.{below}
use Rattle.sl_parts.proofs.Lists.{each-imp, each-at, each-passes, each-append, each-map, each-filter, each-both, each-below}
use Rattle.sl_route.specs.Least.{least}
use Rattle.sl_model.specs.declared.message.Message.{Message}
use Rattle.sl_model.specs.declared.message.Message.TheVariants.{Host as HostMsg, Data}
use Rattle.sl_model.specs.History.{History, World, Losses, history, id, last, first, taken, takes, put, on_link}
use Rattle.sl_model.specs.Setup.{Setup}
use Rattle.sl_model.specs.Knowledge.{observer, known, floor_of, unit_floor, floor}
use Rattle.sl_model.specs.Made.{IsMade, IsFifoRun, Took, Acted}
use Rattle.sl_model.specs.Fit.{fits, fits_link}
use Rattle.sl_model.specs.Passing.{PassesMessages}
use Rattle.sl_model.specs.Reported.{AreReported}
use Rattle.sl_model.specs.Turns.{TakesTurns}
use Rattle.sl_model.specs.World.{IsLossTable, sender}
use Rattle.sl_cut.specs.Honest.{honest, choices_made, honest_setup, AreSameButSent}
use Rattle.sl_layout.specs.declared.actor.LinkKind.TheVariants.{Reliable}
use Rattle.sl_layout.specs.Devices.{device_of}
use Rattle.sl_layout.specs.Wiring.{kind_of}
use Rattle.sl_net.specs.Ways.{IsChoice}
use Rattle.sl_model.specs.declared.verdict.Verdict.{Verdict}
use Rattle.sl_model.specs.declared.verdict.Verdict.TheVariants.{Consistent, NotIssued}
use Rattle.sl_model.specs.Words.{weigh, tally, or_later, first_from}
use Rattle.sl_model.specs.Counting.{is_bad, packets, bytes, bad, expired, noroute}
use Rattle.sl_model.specs.Cut.{before, data_count, data_bytes, channel_value}
use Rattle.sl_model.specs.Late.{late, IsLateData}
use Rattle.sl_model.specs.declared.message.Put.{Put}
use Rattle.sl_model.specs.Matching.{is_data, IsDataChannel}
use Rattle.sl_model.specs.Verdict.{cause, lag, judged, holds_floor, place_or_zero, verdict}
use Rattle.sl_model.specs.Findings.{channel_links, eight_totals, row, rows_for, finding, is_ingress, ingress_units, over_ingress, lost_on, lost_of, findings_in}
use Rattle.sl_simulation.specs.Forged.{without_forged}
use Rattle.sl_cut.proofs.Hostile.Kept.{taken-kept, floor-kept, first-kept, packets-kept, bytes-kept, bad-kept, expired-kept, noroute-kept, before-kept, cause-kept, lag-kept}
use Rattle.sl_cut.proofs.Honest.Anew.{unmoved, Telling, anew_step, keeps-anew, known-anew, anew}
use Rattle.sl_cut.proofs.Honest.Links.{IsGood, told_anew, Erases, unit-honest, quiet, first-honest, first-none, put-anew, taken-anew, good-all, good-lossy, late-anew}
use Rattle.sl_cut.proofs.Honest.Puts.{IsFair, fair-took, fair-acted}

pub record Laws (s : Setup) (lost : Losses) : Type 0 where
  pub wired : IsWired s.net
  pub spares : IsLossTable s.net lost
  pub passes : PassesMessages
  pub turns : TakesTurns
  pub reported : AreReported s
  pub erases : Erases

abbrev pub tell_in : Net → World → Telling
tell_in net z place n = length (honest (first n (history z (slice_index_or (units net) place 0))))

abbrev pub told_in : Setup → World → ℕ → History → History
told_in s z a h = told_anew (tell_in s.net z) s.net a h

pub record IsAt (s : Setup) (lost : Losses) (z w v : World) : Type 0 where
  pub fifo_run : IsFifoRun s lost w
  pub same : (a : ℕ) → history v a ≡ told_in s z a (history w a)
  pub grows : (a n : ℕ) → n ≤ length (history w a) → first n (history z a) ≡ first n (history w a)
  pub size : length w ≡ length s.net.actors
  pub size_too : length v ≡ length s.net.actors

-- Units by their places.

place-ge : (n x : ℕ) (xs : List ℕ) → n ≤ place_in n x xs
place-ge n x [] = omega arith
place-ge n x (y ∷ xs) = by_bool (y == x) (place-ge (suc n) x xs)
  where
    by_bool : (b : Bool) → suc n ≤ place_in (suc n) x xs → n ≤ (if b then n else place_in (suc n) x xs)
    by_bool true e = omega arith
    by_bool false e = omega (arith, e)

at-place : (n x : ℕ) (xs : List ℕ) → Member x xs → slice_index_or xs (place_in n x xs - n) 0 ≡ x
at-place n x [] m = absurd m
at-place n x (y ∷ xs) m = by_tells (eqb_tells y x) m (at-place (suc n) x xs)
  where
    here : (j : ℕ) → j ≡ 0 → y ≡ x → slice_index_or (y ∷ xs) j 0 ≡ x
    here j e q = ap (λ j. slice_index_or (y ∷ xs) j 0) e ∙ q

    there : (p j : ℕ) → j ≡ suc (p - suc n) → slice_index_or xs (p - suc n) 0 ≡ x → slice_index_or (y ∷ xs) j 0 ≡ x
    there p j e q = ap (λ j. slice_index_or (y ∷ xs) j 0) e ∙ q

    by_tells : ((nat_eq y x ≡ true) × (y ≡ x)) ⊎ ((nat_eq y x ≡ false) × (y ≡ x → ⊥)) → (x ≡ y) ⊎ Member x xs → (Member x xs → slice_index_or xs (place_in (suc n) x xs - suc n) 0 ≡ x)
        → slice_index_or (y ∷ xs) ((if y == x then n else place_in (suc n) x xs) - n) 0 ≡ x
    by_tells (inl q) k ih = here _ (ap (λ b. (if b then n else place_in (suc n) x xs) - n) q.0 ∙ (let z : n - n ≡ 0 = omega arith in z)) q.1
    by_tells (inr q) (inl e) ih = absurd (q.1 (sym e))
    by_tells (inr q) (inr e) ih = let p = place_in (suc n) x xs in let g = place-ge (suc n) x xs in
        there p _ (ap (λ b. (if b then n else p) - n) q.0 ∙ (let z : p - n ≡ suc (p - suc n) = omega (arith, g) in z)) (ih e)

pub unit-at : (net : Net) (u : ℕ) (i : UnitId) → IsWired net → actor_of net u ≡ OfUnit i → slice_index_or (units net) (unit_place net u) 0 ≡ u
unit-at net u i wired q = let z : unit_place net u - 0 ≡ unit_place net u = omega arith in ap (λ p. slice_index_or (units net) p 0) (sym z) ∙ at-place 0 u (units net) (wired.ways.unit u i q)

-- The observer and control planes take no frame of a host.

good-received : (sort : Sort) (m : Message) → (sort ≡ FromHost → ⊥) → (sort ≡ ToHost → ⊥) → fits sort m ≡ true → IsGood m
good-received FromHost (HostMsg b) f t e = absurd (f refl)
good-received ToHost (HostMsg b) f t e = absurd (t refl)
good-received _ (HostMsg b) f t e = absurd cc
good-received sort _ f t e = refl

good-takes : (s : Setup) (lost : Losses) (w : World) (a c l : ℕ) → Laws s lost → IsFifoRun s lost w → (receives (actor_of s.net a) FromHost ≡ true → ⊥) → (receives (actor_of s.net a) ToHost ≡ true → ⊥)
    → slice_get (links_into s.net a) c ≡ Some l → Each IsGood (takes c (history w a))
good-takes s lost w a c l laws r f t k =
    let into = laws.wired.ways.into a c l k in
    let got : receives (actor_of s.net a) (link_of s.net l).sort ≡ true = ap (λ b. receives (actor_of s.net b) (link_of s.net l).sort) (sym into.to) ∙ laws.wired.receiver l into.is_link in
    each-imp (λ m. Member m (put l (sender s.net w l))) IsGood (takes c (history w a))
    (λ m x. good-received (link_of s.net l).sort m (λ q. f (ap (receives (actor_of s.net a)) (sym q) ∙ got)) (λ q. t (ap (receives (actor_of s.net a)) (sym q) ∙ got))
    (each-at (λ m. fits_link s.net l m ≡ true) m (put l (sender s.net w l)) (laws.passes.fits s lost w l r) x))
    (laws.passes.taken s lost w a c l r k)

pub observer-quiet : (s : Setup) (lost : Losses) (w : World) (a : ℕ) → Laws s lost → IsFifoRun s lost w → actor_of s.net a ≡ Observer → honest (history w a) ≡ history w a
observer-quiet s lost w a laws r q = quiet s a (history w a) (λ i e. let x = sym q ∙ e in cc) (r.made a)
    (λ c l k. good-takes s lost w a c l laws r (λ e. let x = ap (λ y. receives y FromHost) (sym q) ∙ e in cc) (λ e. let x = ap (λ y. receives y ToHost) (sym q) ∙ e in cc) k)

pub control-quiet : (s : Setup) (lost : Losses) (w : World) (a d : ℕ) → Laws s lost → IsFifoRun s lost w → actor_of s.net a ≡ Control d → honest (history w a) ≡ history w a
control-quiet s lost w a d laws r q = quiet s a (history w a) (λ i e. let x = sym q ∙ e in cc) (r.made a)
    (λ c l k. good-takes s lost w a c l laws r (λ e. let x = ap (λ y. receives y FromHost) (sym q) ∙ e in cc) (λ e. let x = ap (λ y. receives y ToHost) (sym q) ∙ e in cc) k)

-- Floors.

made-first : (s : Setup) (a n : ℕ) (h : History) → IsMade s a h → IsMade s a (first n h)
made-first s a n [] m = tt
made-first s a n (step ∷ h) m = by_bool (nat_lt (length h) n) (made-first s a n h m.1)
  where
    by_bool : (b : Bool) → IsMade s a (first n h) → IsMade s a (if b then step ∷ h else first n h)
    by_bool true e = m
    by_bool false e = e

pub unit-last : (s : Setup) (lost : Losses) (u : ℕ) (i : UnitId) (c : ℕ) (h : History) → Laws s lost → actor_of s.net u ≡ OfUnit i → IsMade s u h → last c (honest h) ≡ last c h
unit-last s lost u i c h laws q m = ap (last c) (unit-honest s u i h q m) ∙ laws.erases.last c h

pub unit-id : (s : Setup) (lost : Losses) (u : ℕ) (i : UnitId) (h : History) → Laws s lost → actor_of s.net u ≡ OfUnit i → IsMade s u h → id (honest h) ≡ id h
unit-id s lost u i h laws q m = ap id (unit-honest s u i h q m) ∙ laws.erases.id h

floor-honest : (s : Setup) (lost : Losses) (u : ℕ) (i : UnitId) (h : History) → Laws s lost → actor_of s.net u ≡ OfUnit i → IsMade s u h → floor_of s.net u (honest h) ≡ floor_of s.net u h
floor-honest s lost u i h laws q m = λ k. fold min (fold min (unit-id s lost u i h laws q m k) (map (λ c. unit-last s lost u i c h laws q m k) (data_channels s.net u)))
    (map (λ c. unit-last s lost u i c h laws q m k) (choices_of s.net u Init))

pub issued-at : (s : Setup) (lost : Losses) (z w v : World) (c : ℕ) → Laws s lost → IsAt s lost z w v → taken c (observer v) ≡ taken c (observer w)
issued-at s lost z w v c laws at = ap (taken c) (at.same 0) ∙ taken-kept (anew_step (tell_in s.net z) s.net 0) (keeps-anew (tell_in s.net z) s.net 0) c (honest (history w 0))
    ∙ ap (taken c) (observer-quiet s lost w 0 laws at.fifo_run laws.wired.observer)

pub unit_floor-at : (s : Setup) (lost : Losses) (z w v : World) (u : ℕ) (i : UnitId) → Laws s lost → IsAt s lost z w v → actor_of s.net u ≡ OfUnit i → unit_floor s.net v u ≡ unit_floor s.net w u
unit_floor-at s lost z w v u i laws at q =
    let tell = tell_in s.net z in let p = unit_place s.net u in let hw = history w u in let n = known p (observer w) in
    let low : n ≤ length hw = (laws.reported lost w u i (laws.wired.reports u i q) at.fifo_run q).at_most in
    let none : tell p 0 ≡ 0 = ap (λ h. length (honest h)) (first-none (history z (slice_index_or (units s.net) p 0))) in
    let knows : known p (observer v) ≡ tell p n = ap (known p) (at.same 0) ∙ ap (λ h. known p (map (anew_step tell s.net 0) h)) (observer-quiet s lost w 0 laws at.fifo_run laws.wired.observer)
    ∙ known-anew tell s.net 0 p none (history w 0) in
    let tells : tell p n ≡ length (honest (first n hw)) = ap (λ x. length (honest (first n (history z x)))) (unit-at s.net u i laws.wired q) ∙ ap (λ h. length (honest h)) (at.grows u n low) in
    (λ k. floor_of s.net u (first ((knows ∙ tells) k) (at.same u k)))
    ∙ ap (floor_of s.net u) (first-kept (anew_step tell s.net u) (length (honest (first n hw))) (honest hw) ∙ ap (map (anew_step tell s.net u)) (first-honest n hw))
    ∙ floor-kept (anew_step tell s.net u) (keeps-anew tell s.net u) s.net u (honest (first n hw))
    ∙ floor-honest s lost u i (first n hw) laws q (made-first s u n hw (at.fifo_run.made u))

-- what holds of each unit
pub each-unit : (net : Net) (P : ℕ → Type 0) → ((u : ℕ) (i : UnitId) → actor_of net u ≡ OfUnit i → P u) → Each P (units net)
each-unit net P f = each-imp (λ u. is_unit (actor_of net u) ≡ true) P (units net) (λ u e. let x = unit (actor_of net u) e in f u x.0 x.1) (each-passes (λ a. is_unit (actor_of net a)) (below (length net.actors)))
  where
    unit : (x : ActorId) → is_unit x ≡ true → (i : UnitId) × (x ≡ OfUnit i)
    unit (OfUnit i) e = (i, refl)
    unit _ e = absurd cc

pub map-each : {A : Type 0} (f g : ℕ → A) (xs : List ℕ) → Each (λ x. f x ≡ g x) xs → map f xs ≡ map g xs
map-each f g [] e = refl
map-each f g (x ∷ xs) e = λ i. e.0 i ∷ map-each f g xs e.1 i

pub floor-at : (s : Setup) (lost : Losses) (z w v : World) → Laws s lost → IsAt s lost z w v → floor s.net v ≡ floor s.net w
floor-at s lost z w v laws at =
    let floors = map-each (unit_floor s.net v) (unit_floor s.net w) (units s.net) (each-unit s.net (λ u. unit_floor s.net v u ≡ unit_floor s.net w u) (λ u i q. unit_floor-at s lost z w v u i laws at q)) in
    λ k. unwrap_or (least (floors k)) (issued-at s lost z w v (action_choice s.net 0) laws at k)

-- Of each unit.

first-each : {A : Type 0} (n : ℕ) (f g : ℕ → Option A) (xs : List ℕ) → Each (λ x. f x ≡ g x) xs → first_from n f xs ≡ first_from n g xs
first-each n f g [] e = refl
first-each n f g (x ∷ xs) e = λ i. or_later n (e.0 i) (first-each (suc n) f g xs e.1 i)

weigh-each : (f g : ℕ → ℕ) (xs : List ℕ) → Each (λ x. f x ≡ g x) xs → weigh f xs ≡ weigh g xs
weigh-each f g [] e = refl
weigh-each f g (x ∷ xs) e = λ i. e.0 i + weigh-each f g xs e.1 i

-- what is told of a unit's history alike without bad frames and with other numbers
unit-same : {A : Type 0} (s : Setup) (lost : Losses) (z w v : World) (u : ℕ) (i : UnitId) (f : History → A) → IsAt s lost z w v → actor_of s.net u ≡ OfUnit i
    → ((g : History) → f (map (anew_step (tell_in s.net z) s.net u) g) ≡ f g) → ((h : History) → f (without_forged h) ≡ f h) → f (history v u) ≡ f (history w u)
unit-same s lost z w v u i f at q kept erased = ap f (at.same u) ∙ kept (honest (history w u)) ∙ ap f (unit-honest s u i (history w u) q (at.fifo_run.made u)) ∙ erased (history w u)

verdict-at : (s : Setup) (lost : Losses) (z w v : World) (n k : ℕ) → Laws s lost → IsAt s lost z w v → verdict n s.net v k ≡ verdict n s.net w k
verdict-at s lost z w v n k laws at =
    let lags = first-each 0 (λ u. lag s.net k u (history v u)) (λ u. lag s.net k u (history w u)) (units s.net) (each-unit s.net _ (λ u i q.
    unit-same s lost z w v u i (lag s.net k u) at q (lag-kept (anew_step (tell_in s.net z) s.net u) (keeps-anew (tell_in s.net z) s.net u) s.net k u) (laws.erases.lag s.net k u))) in
    let causes = first-each 0 (λ u. cause n k (history v u)) (λ u. cause n k (history w u)) (units s.net) (each-unit s.net _ (λ u i q.
    unit-same s lost z w v u i (cause n k) at q (cause-kept (anew_step (tell_in s.net z) s.net u) (keeps-anew (tell_in s.net z) s.net u) n k) (laws.erases.cause n k))) in
    let holders = first-each 0 (holds_floor s.net v) (holds_floor s.net w) (units s.net) (each-unit s.net _ (λ u i q.
    λ j. if unit_floor-at s lost z w v u i laws at q j == floor-at s lost z w v laws at j then Some u else None)) in
    λ j. if nat_le k (issued-at s lost z w v (action_choice s.net 0) laws at j) then judged (lags j) (causes j) else NotIssued (place_or_zero (holders j)) (floor-at s lost z w v laws at j)

-- Rows. The channel values of both worlds are those of late data.

abbrev pub AreLate : Setup → Losses → World → Type 0
AreLate s lost w = (k l : ℕ) → IsDataChannel s.net l → IsLateData s.net lost w k l

count-unmoved : (tell : Telling) (net : Net) (l : ℕ) (m : Message) → data_count (anew tell net l m) ≡ data_count m
count-unmoved = unmoved data_count (λ m n. refl) (λ place m n. refl)

bytes-unmoved : (tell : Telling) (net : Net) (l : ℕ) (m : Message) → data_bytes (anew tell net l m) ≡ data_bytes m
bytes-unmoved = unmoved data_bytes (λ m n. refl) (λ place m n. refl)

count-weightless : (m : Message) → is_bad (Some m) ≡ true → data_count m ≡ 0
count-weightless (Data k p) e = absurd cc
count-weightless _ e = refl

bytes-weightless : (m : Message) → is_bad (Some m) ≡ true → data_bytes m ≡ 0
bytes-weightless (Data k p) e = absurd cc
bytes-weightless _ e = refl

late-same : (s : Setup) (lost : Losses) (z w v : World) (u : ℕ) (i : UnitId) (k c : ℕ) (f : Message → ℕ) → Laws s lost → IsAt s lost z w v → actor_of s.net u ≡ OfUnit i
    → ((l : ℕ) (m : Message) → f (anew (tell_in s.net z) s.net l m) ≡ f m) → ((m : Message) → is_bad (Some m) ≡ true → f m ≡ 0) → weigh f (late k c (history v u)) ≡ weigh f (late k c (history w u))
late-same s lost z w v u i k c f laws at q e g =
    ap (λ h. weigh f (late k c h)) (at.same u ∙ ap (map (anew_step (tell_in s.net z) s.net u)) (unit-honest s u i (history w u) q (at.fifo_run.made u)))
    ∙ late-anew f k c (tell_in s.net z) s.net u e g laws.erases (history w u)

-- the data channels of a unit
record IsOwn (net : Net) (u l : ℕ) : Type 0 where
  channel : IsDataChannel net l
  to : (link_of net l).to ≡ u

own-channels : (s : Setup) (lost : Losses) (u : ℕ) → Laws s lost → Each (IsOwn s.net u) (channel_links s.net u)
own-channels s lost u laws = each-map (IsOwn s.net u) (link_at s.net u) (data_channels s.net u) (each-append (λ c. IsOwn s.net u (link_at s.net u c)) (choices_of s.net u Cable) (choices_of s.net u Crossbar)
    (each-imp (IsChoice s.net u Cable) (λ c. IsOwn s.net u (link_at s.net u c)) (choices_of s.net u Cable) (λ c x. own Cable c x refl) (laws.wired.ways.choices u Cable))
    (each-imp (IsChoice s.net u Crossbar) (λ c. IsOwn s.net u (link_at s.net u c)) (choices_of s.net u Crossbar) (λ c x. own Crossbar c x refl) (laws.wired.ways.choices u Crossbar)))
  where
    own : (sort : Sort) (c : ℕ) → IsChoice s.net u sort c → is_data sort ≡ true → IsOwn s.net u (link_at s.net u c)
    own sort c x d = let into = laws.wired.ways.into u c (link_at s.net u c) x.into in
        record { channel = record { link = into.is_link; data_sort = ap is_data x.sort ∙ d }; to = into.to }

row-at : (s : Setup) (lost : Losses) (z w v : World) (u : ℕ) (i : UnitId) (k : ℕ) → Laws s lost → IsAt s lost z w v → AreLate s lost v → AreLate s lost w → actor_of s.net u ≡ OfUnit i
    → row s.net lost v k u ≡ row s.net lost w k u
row-at s lost z w v u i k laws at old new q =
    let tell = tell_in s.net z in let g = anew_step tell s.net u in let keeps = keeps-anew tell s.net u in
    let counts = unit-same s lost z w v u i (λ h. packets (before k h)) at q (λ h. ap packets (before-kept g keeps k h) ∙ packets-kept g keeps (before k h)) (λ h. ap (λ t. t.packets) (laws.erases.value k h)) in
    let lengths = unit-same s lost z w v u i (λ h. bytes (before k h)) at q (λ h. ap bytes (before-kept g keeps k h) ∙ bytes-kept g keeps (before k h)) (λ h. ap (λ t. t.bytes) (laws.erases.value k h)) in
    let values = map-each (channel_value s.net lost v k) (channel_value s.net lost w k) (channel_links s.net u) (each-imp (IsOwn s.net u) _ (channel_links s.net u) (λ l o. value l o) (own-channels s lost u laws)) in
    λ j. record { packets = counts j; bytes = lengths j; inflight = eight_totals (values j) }
  where
    value : (l : ℕ) → IsOwn s.net u l → channel_value s.net lost v k l ≡ channel_value s.net lost w k l
    value l o =
        let tell = tell_in s.net z in
        let here : (f : Message → ℕ) → ((l : ℕ) (m : Message) → f (anew tell s.net l m) ≡ f m) → ((m : Message) → is_bad (Some m) ≡ true → f m ≡ 0)
        → weigh f (late k (choice_of s.net l) (history v (link_of s.net l).to)) ≡ weigh f (late k (choice_of s.net l) (history w (link_of s.net l).to)) =
        (λ f e g. subst (λ a. weigh f (late k (choice_of s.net l) (history v a)) ≡ weigh f (late k (choice_of s.net l) (history w a))) (sym o.to)
        (late-same s lost z w v u i k (choice_of s.net l) f laws at q e g)) in
        let p = (old k l o.channel).packets ∙ here data_count (count-unmoved tell s.net) count-weightless ∙ sym (new k l o.channel).packets in
        let b = (old k l o.channel).bytes ∙ here data_bytes (bytes-unmoved tell s.net) bytes-weightless ∙ sym (new k l o.channel).bytes in
        λ j. record { packets = p j; bytes = b j }

rows-at : (s : Setup) (lost : Losses) (z w v : World) (k : ℕ) (x : Verdict) → Laws s lost → IsAt s lost z w v → AreLate s lost v → AreLate s lost w → rows_for s.net lost v k x ≡ rows_for s.net lost w k x
rows-at s lost z w v k Consistent laws at old new = map-each (row s.net lost v k) (row s.net lost w k) (units s.net) (each-unit s.net _ (λ u i q. row-at s lost z w v u i k laws at old new q))
rows-at s lost z w v k _ laws at old new = refl

finding-at : (s : Setup) (lost : Losses) (z w v : World) (n k : ℕ) → Laws s lost → IsAt s lost z w v → AreLate s lost v → AreLate s lost w → finding n s.net lost v k ≡ finding n s.net lost w k
finding-at s lost z w v n k laws at old new =
    (λ j. record { k = k; verdict = verdict-at s lost z w v n k laws at j; rows = rows_for s.net lost v k (verdict-at s lost z w v n k laws at j) })
    ∙ (λ j. record { k = k; verdict = verdict n s.net w k; rows = rows-at s lost z w v k (verdict n s.net w k) laws at old new j })

-- Drops.

ingress-at : (s : Setup) (lost : Losses) (z w v : World) (f : ℕ → History → ℕ) → IsAt s lost z w v
    → ((u : ℕ) (g : History) → f (device_of (actor_of s.net u)) (map (anew_step (tell_in s.net z) s.net u) g) ≡ f (device_of (actor_of s.net u)) g)
    → ((d : ℕ) (h : History) → f d (without_forged h) ≡ f d h) → over_ingress s.net v f ≡ over_ingress s.net w f
ingress-at s lost z w v f at kept erased = weigh-each (λ u. f (device_of (actor_of s.net u)) (history v u)) (λ u. f (device_of (actor_of s.net u)) (history w u)) (ingress_units s.net)
    (each-filter _ (λ u. is_ingress (actor_of s.net u)) (units s.net) (each-unit s.net _ (λ u i q. unit-same s lost z w v u i (f (device_of (actor_of s.net u))) at q (kept u) (erased (device_of (actor_of s.net u))))))

all-none : (f : ℕ → ℕ) (xs : List ℕ) → Each (λ x. f x ≡ 0) xs → weigh f xs ≡ 0
all-none f [] e = refl
all-none f (x ∷ xs) e = let a = e.0 in let b = all-none f xs e.1 in omega (arith, a, b)

none-bad-at : (s : Setup) (lost : Losses) (z w v : World) → Laws s lost → IsAt s lost z w v → over_ingress s.net v (λ d h. bad h) ≡ 0
none-bad-at s lost z w v laws at = all-none (λ u. bad (history v u)) (ingress_units s.net) (each-filter _ (λ u. is_ingress (actor_of s.net u)) (units s.net) (each-unit s.net _ (λ u i q.
    ap bad (at.same u) ∙ bad-kept (anew_step (tell_in s.net z) s.net u) (keeps-anew (tell_in s.net z) s.net u) (honest (history w u)) ∙ ap bad (unit-honest s u i (history w u) q (at.fifo_run.made u)) ∙ laws.erases.bad (history w u))))

-- Losses.

lost-at : (s : Setup) (lost : Losses) (z w v : World) (sort : Sort) → Laws s lost → IsAt s lost z w v → (kind_of sort ≡ Reliable → ⊥) → lost_of s.net lost v sort ≡ lost_of s.net lost w sort
lost-at s lost z w v sort laws at ne = weigh-each (lost_on s.net lost v) (lost_on s.net lost w) (filter (λ l. same_sort (link_of s.net l).sort sort) (link_numbers s.net))
    (each-imp (λ l. same_sort (link_of s.net l).sort sort ≡ true) _ (filter (λ l. same_sort (link_of s.net l).sort sort) (link_numbers s.net)) one (each-passes (λ l. same_sort (link_of s.net l).sort sort) (link_numbers s.net)))
  where
    one : (l : ℕ) → same_sort (link_of s.net l).sort sort ≡ true → lost_on s.net lost v l ≡ lost_on s.net lost w l
    one l e =
        let is = laws.wired.ways.is_sort l sort e in
        let a = (link_of s.net l).from in
        let good = each-imp (λ m. fits_link s.net l m ≡ true) IsGood (put l (history w a)) (λ m x. good-lossy (link_of s.net l).sort m (λ k. ne (ap kind_of (sym is) ∙ k)) x) (laws.passes.fits s lost w l at.fifo_run) in
        let same : length (put l (history v a)) ≡ length (put l (history w a)) = ap (λ h. length (put l h)) (at.same a) ∙ ap length (put-anew (tell_in s.net z) s a l (history w a) (at.fifo_run.made a) ∙ ap (map (anew (tell_in s.net z) s.net l)) (good-all (put l (history w a)) good))
        ∙ length-map (put l (history w a)) (anew (tell_in s.net z) s.net l) in
        ap (λ n. tally (λ j. lost l j) (range_with_len 1 n)) same

-- Hosts.

get-there : {A : Type 0} (xs : List A) (n : ℕ) (d : A) → n < length xs → slice_get xs n ≡ Some (slice_index_or xs n d)
get-there [] n d p = absurd (omega (arith, p))
get-there (x ∷ xs) zero d p = refl
get-there (x ∷ xs) (suc n) d p = get-there xs n d (omega (arith, p))

good-on : (l : ℕ) (ps : List Put) → Each IsFair ps → Each IsGood (on_link l ps)
good-on l [] e = tt
good-on l (p ∷ ps) e = by_bool (p.link == l) (good-on l ps e.1)
  where
    by_bool : (b : Bool) → Each IsGood (on_link l ps) → Each IsGood (cond b (p.message ∷ on_link l ps) (on_link l ps))
    by_bool true f = (e.0, f)
    by_bool false f = f

-- who is no host puts no bad frame
good-put : (s : Setup) (a l : ℕ) (h : History) → ((i : ℕ) → actor_of s.net a ≡ OfHost i → ⊥) → IsMade s a h → Each IsGood (put l h)
good-put s a l [] ne m = tt
good-put s a l (step ∷ h) ne m = each-append IsGood (put l h) (on_link l step.puts) (good-put s a l h ne m.1) (good-on l step.puts (by_kind m.0))
  where
    by_kind : Took s a h step ⊎ Acted s a h step → Each IsFair step.puts
    by_kind (inl t) = subst (Each IsFair) (sym t.puts) (fair-took s a (actor_of s.net a) h step.choice t.link t.message)
    by_kind (inr x) = fair-acted s x.floor a (actor_of s.net a) h (step.choice - action_choice s.net a) step.puts ne x.puts

no-both : (i j : ℕ) (sort : Sort) → sends (OfHost j) sort ≡ true → receives (OfHost i) sort ≡ true → ⊥
no-both i j FromHost p q = cc
no-both i j ToHost p q = cc
no-both i j _ p q = cc

delivered-at : (s : Setup) (lost : Losses) (z w v : World) (a i : ℕ) → Laws s lost → IsAt s lost z w v → a < length s.net.actors → actor_of s.net a ≡ OfHost i → taken 0 (history v a) ≡ taken 0 (history w a)
delivered-at s lost z w v a i laws at p q =
    let links = laws.wired.host_links a i (get-there s.net.actors a nobody p ∙ ap Some q) in
    let one = links.one_in in
    let l = slice_index_or (links_into s.net a) 0 0 in
    let k : slice_get (links_into s.net a) 0 ≡ Some l = get-there (links_into s.net a) 0 0 (omega (arith, one)) in
    let into = laws.wired.ways.into a 0 l k in
    let b = (link_of s.net l).from in
    let got : receives (OfHost i) (link_of s.net l).sort ≡ true = ap (λ x. receives x (link_of s.net l).sort) (sym q ∙ ap (actor_of s.net) (sym into.to)) ∙ laws.wired.receiver l into.is_link in
    let ne : (j : ℕ) → actor_of s.net b ≡ OfHost j → ⊥ = (λ j e. no-both i j (link_of s.net l).sort (ap (λ x. sends x (link_of s.net l).sort) (sym e) ∙ laws.wired.sender l into.is_link) got) in
    let good = each-imp (λ m. Member m (put l (sender s.net w l))) IsGood (takes 0 (history w a)) (λ m x. each-at IsGood m (put l (sender s.net w l)) (good-put s b l (history w b) ne (at.fifo_run.made b)) x)
    (laws.passes.taken s lost w a 0 l at.fifo_run k) in
    ap (taken 0) (at.same a) ∙ taken-anew (tell_in s.net z) s a 0 l (history w a) k (at.fifo_run.made a) ∙ ap length (good-all (takes 0 (history w a)) good) ∙ (at.fifo_run.fifo a 0 l k).count

all-delivered : (s : Setup) (lost : Losses) (z w v : World) → Laws s lost → IsAt s lost z w v → map (λ a. taken 0 (history v a)) (hosts s.net) ≡ map (λ a. taken 0 (history w a)) (hosts s.net)
all-delivered s lost z w v laws at = map-each (λ a. taken 0 (history v a)) (λ a. taken 0 (history w a)) (hosts s.net)
    (each-imp (λ a. (a < length s.net.actors) × (is_host (actor_of s.net a) ≡ true)) _ (hosts s.net) (λ a x. let y = host (actor_of s.net a) x.1 in delivered-at s lost z w v a y.0 laws at x.0 y.1)
    (each-both (λ a. a < length s.net.actors) (λ a. is_host (actor_of s.net a)) (below (length s.net.actors)) (each-below (λ a. a < length s.net.actors) (length s.net.actors) (λ a p. p))))
  where
    host : (x : ActorId) → is_host x ≡ true → (i : ℕ) × (x ≡ OfHost i)
    host (OfHost i) e = (i, refl)
    host _ e = absurd cc

-- All findings.

pub found-at : (s : Setup) (lost : Losses) (z w v : World) → Laws s lost → IsAt s lost z w v → AreLate s lost v → AreLate s lost w → AreSameButSent (findings_in s lost w) (findings_in (honest_setup s) lost v)
found-at s lost z w v laws at old new = record {
  issued = sym (issued-at s lost z w v (action_choice s.net 0) laws at);
  floor = sym (floor-at s lost z w v laws at);
  resent = sym (issued-at s lost z w v (suc (action_choice s.net 0)) laws at);
  list = sym (λ j. map (λ k. finding-at s lost z w v s.credits k laws at old new j) (range_with_len 1 s.count));
  delivered = sym (all-delivered s lost z w v laws at);
  expired = sym (ingress-at s lost z w v (λ d h. expired h) at (λ u. expired-kept (anew_step (tell_in s.net z) s.net u) (keeps-anew (tell_in s.net z) s.net u)) (λ d. laws.erases.expired));
  noroute = sym (ingress-at s lost z w v (λ d h. noroute s.net.parts d h) at (λ u. noroute-kept (anew_step (tell_in s.net z) s.net u) (keeps-anew (tell_in s.net z) s.net u) s.net.parts (device_of (actor_of s.net u)))
      (laws.erases.noroute s.net.parts));
  lost = sym (λ j. record {
    cable = lost-at s lost z w v Cable laws at (λ e. cc) j;
    crossbar = lost-at s lost z w v Crossbar laws at (λ e. cc) j;
    init = lost-at s lost z w v Init laws at (λ e. cc) j;
    notice = lost-at s lost z w v Notice laws at (λ e. cc) j;
  });
  no_bad = none-bad-at s lost z w v laws at;
}

pub choices-at : (s : Setup) (lost : Losses) (z w v : World) → IsAt s lost z w v → (a : ℕ) → choices_made (history v a) ≡ choices_made (honest (history w a))
choices-at s lost z w v at a = ap choices_made (at.same a) ∙ same (honest (history w a))
  where
    same : (h : History) → choices_made (map (anew_step (tell_in s.net z) s.net a) h) ≡ choices_made h
    same [] = refl
    same (step ∷ h) = ap (λ r. step.choice ∷ r) (same h)
