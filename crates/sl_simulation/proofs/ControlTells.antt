-- What a dump tells a control plane of its unit, and what its machine puts: it stands for the puts of its steps.
use Rattle.std.proofs.Common.{◌≡◌, ℕ, List, [], ◌∷◌, ◌++◌, refl, sym, ap, subst, map, zero, suc, ◌+◌, ◌-◌, ◌<◌, ◌≤◌, length, ◌∙◌, Option, Some, None, arith}
use Rattle.std.specs.Prelude.{cond, true, false, Bool, if◌then◌else◌, flat_map, slice_index, slice_index_or, ◌^◌, min, max, nat_lt, replicate, take, option_map, unwrap_or, slice_get}
use Rattle.std.specs.List.{fold, list_all, range_with_len}
use Rattle.std.proofs.lemmas.Bool.{lt-ltb, eq-eqb, and_from}
use Rattle.std.proofs.lemmas.List.{length-map}
use Rattle.std.proofs.lemmas.Nat.{mod_below, pow_pos}
use Rattle.sl_layout.specs.declared.actor.Sort.TheVariants.{Dump as DumpSort, Done, Init}
use Rattle.sl_layout.specs.Net.{Net, links_out, action_choice, units, unit_place, data_channels, choices_of}
use Rattle.sl_layout.specs.Serving.{ServedUnit, choice_from}
use Rattle.sl_layout.specs.Wires.{out_of}
use Rattle.sl_saves.specs.declared.entry.View.{View}
use Rattle.sl_wire.specs.declared.message.Msg.TheVariants as wire
use Rattle.sl_wire.specs.Carried.{poll}
use Rattle.sl_machine.specs.Machine.{send_all as send_each}
use Rattle.sl_wire.specs.declared.message.Msg.{Msg}
use Rattle.sl_wire.specs.Sizes.{Sizes, lengths}
use Rattle.sl_control.specs.declared.known.Numbers.{Numbers}
use Rattle.sl_control.specs.Control.{initiation, poll_by, answer_by, done_of, has_wids, has_rooms, numbers_told, is_read, is_taken, answered}
use Rattle.sl_control.specs.Wires.{control_wires, unit_wires}
use Rattle.sl_model.specs.declared.message.Message.TheVariants.{Init as InitMsg, Poll as PollMsg, Done as DoneMsg}
use Rattle.sl_model.specs.declared.message.Put.{Put}
use Rattle.sl_parts.specs.Lists.{Each}
use Rattle.sl_model.specs.History.{History, first, id, last}
use Rattle.sl_model.specs.Knowledge.{dumped, told_of, is_outstanding, is_again, upto_of}
use Rattle.sl_model.specs.Puts.{send, send_all, poll_puts, dump_answer}
use Rattle.sl_simulation.specs.Messages.{AreSent, IsDoneOf, SaysDone, eight, numbers_after, IsDumpOf, held_row}
use Rattle.sl_simulation.specs.ControlImage.{known_of, told_at, known_by}
use Rattle.sl_ids.specs.declared.wid.Wid.{Wid}
use Rattle.sl_ids.specs.Ids.{modulus, wrapped, unwrapped}
use Rattle.sl_ids.specs.Wids.{wid}
use Rattle.sl_saves.specs.Calls.{number}
use Rattle.sl_saves.specs.Views.{IsLive, held_saved, read}
use Rattle.sl_wire.specs.declared.message.Dump.{Dump}
use Rattle.sl_wire.specs.Reach.{reached}
use Rattle.sl_wire.specs.Wids.{is_wid, has_room, unwrapped_each}
use Rattle.sl_control.specs.Rows.{span, seen_on, is_sized, is_readable, row as control_row}
use Rattle.sl_control.proofs.ReadableSpans.{readable-live}
use Rattle.sl_model.specs.Calls.{calls}
use Rattle.sl_model.specs.Rows.{row}
use Rattle.sl_model.specs.Brought.{IsRaised}
use Rattle.sl_model.specs.LastSeen.{lasts, cpu_last}
use Rattle.sl_simulation.proofs.ObserverUnits.{map-numbers}

pub sent-append : (net : Net) (sizes : Sizes) (us : ℕ → History) (a : ℕ) (told : ℕ → ℕ) (ps qs : List Put) (xs ys : List (ℕ × Msg)) → AreSent net sizes us a told ps xs → AreSent net sizes us a told qs ys → AreSent net sizes us a told (ps ++ qs) (xs ++ ys)
sent-append net sizes us a told [] qs [] ys h k = k
sent-append net sizes us a told [] qs (x ∷ xs) ys h k = absurd h
sent-append net sizes us a told (p ∷ ps) qs [] ys h k = absurd h
sent-append net sizes us a told (p ∷ ps) qs (x ∷ xs) ys h k = (h.0, sent-append net sizes us a told ps qs xs ys h.1 k)

-- of each unit
pub sent-each : {A : Type 0} (net : Net) (sizes : Sizes) (us : ℕ → History) (a : ℕ) (told : ℕ → ℕ) (f : A → List Put) (g : A → List (ℕ × Msg)) (vs : List A) → Each (λ v. AreSent net sizes us a told (f v) (g v)) vs
    → AreSent net sizes us a told (flat_map f vs) (flat_map g vs)
sent-each net sizes us a told f g [] h = tt
sent-each net sizes us a told f g (v ∷ vs) h = sent-append net sizes us a told (f v) (flat_map f vs) (g v) (flat_map g vs) h.0 (sent-each net sizes us a told f g vs h.1)

pub flat-map : {A B C : Type 0} (g : B → List C) (f : A → B) (xs : List A) → flat_map g (map f xs) ≡ flat_map (λ x. g (f x)) xs
flat-map g f [] = refl
flat-map g f (x ∷ xs) = ap (λ r. g (f x) ++ r) (flat-map g f xs)

pub sent-if : (net : Net) (sizes : Sizes) (us : ℕ → History) (a : ℕ) (told : ℕ → ℕ) (b : Bool) (ps : List Put) (xs : List (ℕ × Msg)) → AreSent net sizes us a told ps xs → AreSent net sizes us a told (if b then ps else []) (cond b xs [])
sent-if net sizes us a told true ps xs h = h
sent-if net sizes us a told false ps xs h = tt

-- Initiations.

pub sent-inits : (net : Net) (sizes : Sizes) (us : ℕ → History) (a : ℕ) (told : ℕ → ℕ) (k : ℕ) (ls : List ℕ) → AreSent net sizes us a told (send_all (InitMsg k) ls) (send_each (initiation sizes.bits sizes.version k) (map (out_of net) ls))
sent-inits net sizes us a told k [] = tt
sent-inits net sizes us a told k (l ∷ ls) = ((refl, refl), sent-inits net sizes us a told k ls)

-- Polls.

sent-poll : (net : Net) (sizes : Sizes) (us : ℕ → History) (a : ℕ) (told : ℕ → ℕ) (v : ServedUnit) (b : Bool) → AreSent net sizes us a told (if b then [] else send PollMsg v.poll ∷ []) (if b then [] else (out_of net v.poll, poll) ∷ [])
sent-poll net sizes us a told v true = tt
sent-poll net sizes us a told v false = ((refl, refl), tt)

sent-again : (net : Net) (sizes : Sizes) (us : ℕ → History) (a : ℕ) (told : ℕ → ℕ) (v : ServedUnit) (b : Bool) → AreSent net sizes us a told (if b then send PollMsg v.poll ∷ [] else []) (if b then (out_of net v.poll, poll) ∷ [] else [])
sent-again net sizes us a told v true = ((refl, refl), tt)
sent-again net sizes us a told v false = tt

-- us before the step, ws after it
pub sent-polls : (net : Net) (sizes : Sizes) (us ws : ℕ → History) (a : ℕ) (told : ℕ → ℕ) (v : ServedUnit) → AreSent net sizes ws a told (poll_puts v (us a)) (poll_by (known_of net us a v))
sent-polls net sizes us ws a told v = sent-poll net sizes ws a told v (is_outstanding v (us a))

-- An answer: a Done, then a poll where one was asked for again.

pub sent-answer : (net : Net) (sizes : Sizes) (us ws : ℕ → History) (a k n : ℕ) (v : ServedUnit) (x : Numbers) (view : View) → links_out net a Done ≡ k ∷ [] → slice_index (units net) (unit_place net v.unit) ≡ v.unit → v.dump ≡ choice_from net a v.unit DumpSort → ws v.unit ≡ us v.unit
    → IsDoneOf sizes.credits net v.unit (told_of us v (us a)) (first n (us v.unit)) (done_of x view (known_of net us a v)) → AreSent net sizes ws a (told_at net us a) (dump_answer net a (us a) n v) (answer_by (control_wires net a sizes).done x view (known_of net us a v))
sent-answer net sizes us ws a k n v x view e at c w o =
    subst (λ ls. AreSent net sizes ws a (told_at net us a) (send_all (DoneMsg (unit_place net v.unit) n) ls ++ again) ((slice_index_or (map (out_of net) ls) 0 0, wire.Done (done_of x view (known_of net us a v))) ∷ more)) (sym e)
    ((refl, told), sent-again net sizes ws a (told_at net us a) v (is_again (action_choice net a) v (us a)))
  where
    again : List Put
    again = if is_again (action_choice net a) v (us a) then send PollMsg v.poll ∷ [] else []

    more : List (ℕ × Msg)
    more = if is_again (action_choice net a) v (us a) then (out_of net v.poll, poll) ∷ [] else []

    here : SaysDone sizes.credits net v.unit (first (dumped (choice_from net a v.unit DumpSort) (us a)) (ws v.unit)) (first n (ws v.unit)) (wire.Done (done_of x view (known_of net us a v)))
    here = subst (λ c. SaysDone sizes.credits net v.unit (first (dumped c (us a)) (ws v.unit)) (first n (ws v.unit)) (wire.Done (done_of x view (known_of net us a v)))) c
        (subst (λ g. SaysDone sizes.credits net v.unit (first (dumped v.dump (us a)) g) (first n g) (wire.Done (done_of x view (known_of net us a v)))) (sym w)
        (record { done = done_of x view (known_of net us a v); is = refl; of = o }))

    told : SaysDone sizes.credits net (slice_index (units net) (unit_place net v.unit)) (first (told_at net us a (unit_place net v.unit)) (ws (slice_index (units net) (unit_place net v.unit))))
        (first n (ws (slice_index (units net) (unit_place net v.unit)))) (wire.Done (done_of x view (known_of net us a v)))
    told = subst (λ u. SaysDone sizes.credits net u (first (dumped (choice_from net a u DumpSort) (us a)) (ws u)) (first n (ws u)) (wire.Done (done_of x view (known_of net us a v)))) (sym at) here

-- Numbers.

map-above : {A : Type 0} (f g : ℕ → A) (a d : ℕ) → ((k : ℕ) → a < k → k ≤ a + d → f k ≡ g k) → map f (range_with_len (suc a) d) ≡ map g (range_with_len (suc a) d)
map-above f g a d h = map-numbers f g (suc a) d (λ k l m. h k l (omega (arith, m)))

all-above : (p : ℕ → Bool) (a d : ℕ) → ((k : ℕ) → a < k → k ≤ a + d → p k ≡ true) → list_all p (range_with_len (suc a) d) ≡ true
all-above p a d h = from (suc a) d (λ k l m. h k l (omega (arith, m)))
  where
    from : (s n : ℕ) → ((k : ℕ) → s ≤ k → k < s + n → p k ≡ true) → list_all p (range_with_len s n) ≡ true
    from s zero h = refl
    from s (suc n) h = and_from _ _ (h s (omega arith) (omega arith)) (from (s + 1) n (λ k l m. h k (omega (arith, l)) (omega (arith, m))))

-- Eight registers.

pub fits-eight : (xs : List ℕ) → length xs ≤ 8 → (seen_on (length xs) (eight xs) ≡ eight xs) × (take (length xs) (eight xs) ≡ xs)
fits-eight [] p = (refl, refl)
fits-eight (a ∷ []) p = (refl, refl)
fits-eight (a ∷ b ∷ []) p = (refl, refl)
fits-eight (a ∷ b ∷ c ∷ []) p = (refl, refl)
fits-eight (a ∷ b ∷ c ∷ d ∷ []) p = (refl, refl)
fits-eight (a ∷ b ∷ c ∷ d ∷ e ∷ []) p = (refl, refl)
fits-eight (a ∷ b ∷ c ∷ d ∷ e ∷ f ∷ []) p = (refl, refl)
fits-eight (a ∷ b ∷ c ∷ d ∷ e ∷ f ∷ g ∷ []) p = (refl, refl)
fits-eight (a ∷ b ∷ c ∷ d ∷ e ∷ f ∷ g ∷ h ∷ []) p = (refl, refl)
fits-eight (a ∷ b ∷ c ∷ d ∷ e ∷ f ∷ g ∷ h ∷ x ∷ xs) p = absurd (omega (arith, p))

-- the initiations of an ingress unit count too
floor-by : (n : ℕ) (g : History) (cs : List ℕ) → length cs ≤ 1 → (if nat_lt 0 (length cs) then min n (unwrap_or (option_map (λ c. last c g) (slice_get cs 0)) 0) else n) ≡ fold min n (map (λ c. last c g) cs)
floor-by n g [] p = refl
floor-by n g (c ∷ []) p = refl
floor-by n g (c ∷ d ∷ cs) p = absurd (omega (arith, p))

-- Numbers from their wrapped ids.

-- numbers near one that is known are unwrapped
abbrev pub Unwraps : Type 0
Unwraps = (bits base n : ℕ) → base ≤ n → n < base + modulus bits → unwrapped bits base (wrapped bits n) ≡ n

raised-unwraps : Unwraps → (bits window a b : ℕ) → window < modulus bits → IsRaised window a b → unwrapped bits a (wrapped bits b) ≡ b
raised-unwraps u bits window a b w r = u bits a b r.0 (let h = r.1 in omega (arith, h, w))

zero-unwraps : Unwraps → (bits : ℕ) → unwrapped bits 0 (wrapped bits 0) ≡ 0
zero-unwraps u bits = u bits 0 0 (omega arith) (let p : 0 < modulus bits = pow_pos bits in omega (arith, p))

each-unwraps : Unwraps → (bits window n m : ℕ) → window < modulus bits → (f g : ℕ → ℕ) (cs : List ℕ) → Each (λ c. IsRaised window (f c) (g c)) cs
    → unwrapped_each bits (take n (map f cs ++ replicate m 0)) (map (wid bits) (take n (map g cs ++ replicate m 0))) ≡ take n (map g cs ++ replicate m 0)
each-unwraps u bits window zero m w f g cs h = refl
each-unwraps u bits window (suc n) zero w f g [] h = refl
each-unwraps u bits window (suc n) (suc m) w f g [] h = let x = zero-unwraps u bits in let y = each-unwraps u bits window n m w f g [] h in λ i. x i ∷ y i
each-unwraps u bits window (suc n) m w f g (c ∷ cs) h = let x = raised-unwraps u bits window (f c) (g c) w h.0 in let y = each-unwraps u bits window n m w f g cs h.1 in λ i. x i ∷ y i

one-unwraps : Unwraps → (bits window : ℕ) → window < modulus bits → (f g : ℕ → ℕ) (cs : List ℕ) → Each (λ c. IsRaised window (f c) (g c)) cs
    → unwrapped bits (unwrap_or (option_map f (slice_get cs 0)) 0) (wrapped bits (unwrap_or (option_map g (slice_get cs 0)) 0)) ≡ unwrap_or (option_map g (slice_get cs 0)) 0
one-unwraps u bits window w f g [] h = zero-unwraps u bits
one-unwraps u bits window w f g (c ∷ cs) h = raised-unwraps u bits window (f c) (g c) w h.0

-- Each of them is an id of so many bits.

is-wid : (bits n : ℕ) → is_wid bits (wid bits n) ≡ true
is-wid bits n = lt-ltb (wrapped bits n) (modulus bits) (mod_below n (modulus bits) (pow_pos bits))

all-wids : (bits : ℕ) (ns : List ℕ) → list_all (is_wid bits) (map (wid bits) ns) ≡ true
all-wids bits [] = refl
all-wids bits (n ∷ ns) = and_from _ _ (is-wid bits n) (all-wids bits ns)

-- the numbers of a unit after the history g lie less than the modulus above those after the history `before`
pub record Raised (net : Net) (bits u : ℕ) (before g : History) : Type 0 where
  pub window : ℕ
  pub apart : window < modulus bits
  pub id : IsRaised window (id before) (id g)
  pub lasts : Each (λ c. IsRaised window (last c before) (last c g)) (data_channels net u)
  pub inits : Each (λ c. IsRaised window (last c before) (last c g)) (choices_of net u Init)

-- Of a unit of which the history `before` was told, the dump tells the history g.
pub record Tells (net : Net) (sizes : Sizes) (v : ServedUnit) (before g : History) (d : Dump) : Type 0 where
  pub dump : IsDumpOf net sizes v.unit g d
  pub unwraps : Unwraps
  pub few : length (data_channels net v.unit) ≤ 8
  pub one : length (choices_of net v.unit Init) ≤ 1
  pub raised : Raised net sizes.bits v.unit before g
  pub small : (c : ℕ) → last c before ≤ id before
  pub room : id before + modulus sizes.bits < 2 ^ 64
  pub rises : upto_of net v.unit before ≤ upto_of net v.unit g
  pub near : (k : ℕ) → upto_of net v.unit before < k → id g < k + sizes.ring
  pub live : (k : ℕ) → upto_of net v.unit before < k → k ≤ upto_of net v.unit g → IsLive d.view (id g) k
  pub reads : (k : ℕ) → upto_of net v.unit before < k → k ≤ upto_of net v.unit g → read d.view (id g) k ≡ held_saved (row sizes.credits (data_channels net v.unit) k g)

-- What is unwrapped are the numbers of the unit.

pub numbers-are : (net : Net) (sizes : Sizes) (v : ServedUnit) (before g : History) (d : Dump) (waits again : Bool) → Unwraps → IsDumpOf net sizes v.unit g d → Raised net sizes.bits v.unit before g
    → numbers_told sizes.bits d (known_by net v before waits again) ≡ numbers_after net v.unit g
numbers-are net sizes v before g d waits again u o r =
    let n = ap (λ (w : Wid). unwrapped sizes.bits (id before) w.raw) o.id ∙ raised-unwraps u sizes.bits r.window (id before) (id g) r.apart r.id in
    let c = ap (λ (w : Wid). unwrapped sizes.bits (cpu_last net v.unit before) w.raw) o.cpu
    ∙ one-unwraps u sizes.bits r.window r.apart (λ c. last c before) (λ c. last c g) (choices_of net v.unit Init) r.inits in
    let l = ap (unwrapped_each sizes.bits (eight (lasts net v.unit before))) o.last
    ∙ each-unwraps u sizes.bits r.window 8 8 r.apart (λ c. last c before) (λ c. last c g) (data_channels net v.unit) r.lasts in
    λ i. record { id = n i; cpu = c i; last = l i }

has-ids : (net : Net) (sizes : Sizes) (v : ServedUnit) (before g : History) (d : Dump) → Tells net sizes v before g d → has_wids sizes.bits d ≡ true
has-ids net sizes v before g d t = and_from _ _ (ap (is_wid sizes.bits) t.dump.id ∙ is-wid sizes.bits (id g))
    (and_from _ _ (ap (is_wid sizes.bits) t.dump.cpu ∙ is-wid sizes.bits (cpu_last net v.unit g)) (ap (list_all (is_wid sizes.bits)) t.dump.last ∙ all-wids sizes.bits (eight (lasts net v.unit g))))

-- From each number that was known there is room.

small-room : (bits top n : ℕ) → top + modulus bits < 2 ^ 64 → n ≤ top → has_room bits n ≡ true
small-room bits top n r s = lt-ltb (n + modulus bits) (2 ^ 64) (omega (arith, r, s))

each-room : (bits top n m : ℕ) → top + modulus bits < 2 ^ 64 → (f : ℕ → ℕ) → ((c : ℕ) → f c ≤ top) → (cs : List ℕ) → list_all (has_room bits) (take n (map f cs ++ replicate m 0)) ≡ true
each-room bits top zero m r f s cs = refl
each-room bits top (suc n) zero r f s [] = refl
each-room bits top (suc n) (suc m) r f s [] = and_from _ _ (small-room bits top 0 r (omega arith)) (each-room bits top n m r f s [])
each-room bits top (suc n) m r f s (c ∷ cs) = and_from _ _ (small-room bits top (f c) r (s c)) (each-room bits top n m r f s cs)

one-small : (top : ℕ) (f : ℕ → ℕ) → ((c : ℕ) → f c ≤ top) → (o : Option ℕ) → unwrap_or (option_map f o) 0 ≤ top
one-small top f s None = omega arith
one-small top f s (Some c) = s c

has-rooms : (net : Net) (sizes : Sizes) (v : ServedUnit) (before g : History) (d : Dump) (waits again : Bool) → Tells net sizes v before g d → has_rooms sizes.bits (known_by net v before waits again) ≡ true
has-rooms net sizes v before g d waits again t = and_from _ _ (small-room sizes.bits (id before) (id before) t.room (omega arith))
    (and_from _ _ (small-room sizes.bits (id before) (cpu_last net v.unit before) t.room (one-small (id before) (λ c. last c before) t.small (slice_get (choices_of net v.unit Init) 0)))
    (each-room sizes.bits (id before) 8 8 t.room (λ c. last c before) t.small (data_channels net v.unit)))

-- What is made of the numbers.

few-lasts : (net : Net) (u : ℕ) (g : History) → length (data_channels net u) ≤ 8 → length (lasts net u g) ≤ 8
few-lasts net u g few = let e = length-map (data_channels net u) (λ c. last c g) in omega (arith, e, few)

last-is : (net : Net) (u : ℕ) (g : History) → length (data_channels net u) ≤ 8 → seen_on (length (data_channels net u)) (eight (lasts net u g)) ≡ eight (lasts net u g)
last-is net u g few = ap (λ n. seen_on n (eight (lasts net u g))) (sym (length-map (data_channels net u) (λ c. last c g))) ∙ (fits-eight (lasts net u g) (few-lasts net u g few)).0

reached-is : (net : Net) (u : ℕ) (g : History) → length (data_channels net u) ≤ 8 → reached (length (data_channels net u)) (id g) (eight (lasts net u g)) ≡ upto_of net u g
reached-is net u g few = ap (λ n. fold min (id g) (take n (eight (lasts net u g)))) (sym (length-map (data_channels net u) (λ c. last c g)))
    ∙ ap (fold min (id g)) (fits-eight (lasts net u g) (few-lasts net u g few)).1

pub answered-is : (net : Net) (sizes : Sizes) (v : ServedUnit) (before g : History) (d : Dump) (waits again : Bool) → Tells net sizes v before g d
    → answered (numbers_told sizes.bits d (known_by net v before waits again)) (known_by net v before waits again) ≡ known_by net v g again false
answered-is net sizes v before g d waits again t = ap (λ n. answered n (known_by net v before waits again)) (numbers-are net sizes v before g d waits again t.unwraps t.dump t.raised)
    ∙ (let l = last-is net v.unit g t.few in let u = ap (max (upto_of net v.unit before)) (reached-is net v.unit g t.few) ∙ max-is (upto_of net v.unit before) (upto_of net v.unit g) t.rises in
    λ i. record { wires = unit_wires net v; id = id g; last = l i; cpu = cpu_last net v.unit g; upto = u i; waits = again; again = false })
  where
    max-is : (a b : ℕ) → a ≤ b → max a b ≡ b
    max-is a b p = omega (arith, p)

pub done-is : (net : Net) (sizes : Sizes) (v : ServedUnit) (before g : History) (d : Dump) (waits again : Bool) → Tells net sizes v before g d
    → IsDoneOf sizes.credits net v.unit before g (done_of (numbers_told sizes.bits d (known_by net v before waits again)) d.view (known_by net v before waits again))
done-is net sizes v before g d waits again t = subst (λ n. IsDoneOf sizes.credits net v.unit before g (done_of n d.view (known_by net v before waits again))) (sym (numbers-are net sizes v before g d waits again t.unwraps t.dump t.raised))
    (let u = reached-is net v.unit g t.few in record {
      unit = refl;
      id = refl;
      last = last-is net v.unit g t.few;
      floor = ap (λ n. if nat_lt 0 (length (choices_of net v.unit Init)) then min n (cpu_last net v.unit g) else n) u ∙ floor-by (upto_of net v.unit g) g (choices_of net v.unit Init) t.one;
      rows = ap (λ n. map (control_row d.view (id g)) (span (upto_of net v.unit before) n)) u
          ∙ map-above (control_row d.view (id g)) (held_row sizes.credits net v.unit g) (upto_of net v.unit before) (upto_of net v.unit g - upto_of net v.unit before)
          (λ k l m. ap (λ y. (k, y)) (t.reads k l (omega (arith, l, m))));
    })

sized : (net : Net) (sizes : Sizes) (v : ServedUnit) (g : History) (d : Dump) → IsDumpOf net sizes v.unit g d → is_sized sizes.ring d.view ≡ true
sized net sizes v g d x = let n = mod_below (number (calls (data_channels net v.unit) g)) (length d.view.slots) (let s = x.shown.some in omega (arith, s)) in
    and_from _ _ (lt-ltb d.view.at (length d.view.slots) (subst (λ a. a < length d.view.slots) (sym x.shown.at) n)) (eq-eqb (length d.view.slots) sizes.ring x.size)

read-is : (net : Net) (sizes : Sizes) (v : ServedUnit) (before g : History) (d : Dump) (waits again : Bool) → Tells net sizes v before g d → waits ≡ true
    → is_read sizes.ring (numbers_after net v.unit g) d.view (known_by net v before waits again) ≡ true
read-is net sizes v before g d waits again t w = and_from _ _ w (and_from _ _ (sized net sizes v g d t.dump)
    (ap (λ n. list_all (is_readable d.view (id g)) (span (upto_of net v.unit before) n)) (reached-is net v.unit g t.few)
    ∙ all-above (is_readable d.view (id g)) (upto_of net v.unit before) (upto_of net v.unit g - upto_of net v.unit before)
    (λ k l m. readable-live d.view (id g) k (let x = t.near k l in let y = t.dump.size in omega (arith, x, y)) (t.live k l (omega (arith, l, m))))))

pub taken-is : (net : Net) (sizes : Sizes) (v : ServedUnit) (before g : History) (d : Dump) (waits again : Bool) → Tells net sizes v before g d → waits ≡ true → is_taken (lengths sizes) d (known_by net v before waits again) ≡ true
taken-is net sizes v before g d waits again t w = and_from _ _ (has-ids net sizes v before g d t) (and_from _ _ (has-rooms net sizes v before g d waits again t)
    (ap (λ n. is_read sizes.ring n d.view (known_by net v before waits again)) (numbers-are net sizes v before g d waits again t.unwraps t.dump t.raised) ∙ read-is net sizes v before g d waits again t w))
