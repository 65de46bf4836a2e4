-- The floor never falls, and the number issued lies within the window above it; every id, stamp and Begin number is at most K.
use Rattle.std.proofs.Common.{◌≡◌, ℕ, suc, ◌+◌, ◌-◌, ◌<◌, ◌≤◌, List, [], ◌∷◌, length, refl, sym, ap, subst, ◌∙◌, Some, None, arith, inl, inr, zero, Option}
use Rattle.std.specs.Prelude.{◌⊎◌, true, false, nat_eq, nat_lt, nat_le, min, map, unwrap_or, IsTrue, if◌then◌else◌, ◌==◌, option_and_then, slice_get}
use Rattle.std.specs.List.{fold}
use Rattle.std.proofs.lemmas.Bool.{and_parts, leb-true}
use Rattle.std.proofs.lemmas.Bool.Decides.{eqb_tells}
use Rattle.std.proofs.lemmas.Option.{slice_get_within}
use Rattle.sl_model.specs.declared.message.Step.{Step}
use Rattle.sl_layout.specs.declared.actor.Sort.{Sort}
use Rattle.sl_layout.specs.declared.actor.Sort.TheVariants.{Cable, Crossbar, Init}
use Rattle.sl_layout.specs.declared.actor.ActorId.{ActorId}
use Rattle.sl_layout.specs.declared.actor.ActorId.TheVariants.{Observer, Unit as OfUnit, Control, Host as OfHost}
use Rattle.sl_layout.specs.declared.actor.UnitId.{UnitId}
use Rattle.sl_parts.specs.Parts.{below}
use Rattle.sl_layout.specs.Net.{Net, links_into, link_at, actor_of, choices_of, choice_of, action_choice, data_channels, is_unit, units, unit_place, link_of}
use Rattle.sl_net.specs.Wired.{IsWired}
use Rattle.sl_parts.specs.Lists.{Each}
use Rattle.sl_parts.proofs.Lists.{each-append, each-imp, each-passes, each-front}
use Rattle.sl_route.specs.Least.{least_in}
use Rattle.sl_model.specs.History.{History, World, Losses, history, done_of, id, last, heard, first, taken, stamp_of, stamp_taken, begin_of, dump_of, takes, put, on_link}
use Rattle.sl_model.specs.Setup.{Setup}
use Rattle.sl_model.specs.Knowledge.{observer, known, issued, upto_of, floor_of, unit_floor, floor, can_issue, can_resend}
use Rattle.sl_model.specs.World.{Entry, start, turn, run, floor_for, carried}
use Rattle.sl_model.specs.Made.{IsFifoRun, Took, Acted, IsMade}
use Rattle.sl_model.specs.Fit.{is_stamped}
use Rattle.sl_net.specs.Ways.{IsChoice}
use Rattle.sl_model.specs.Turns.{GrowsAt, Extends, Takes, Acts, Begins}
use Rattle.sl_model.proofs.Worlds.Turns.{kept_by_run, Steps, turn-cases, taken-step, taken-falls, taken-other, start-empty}
use Rattle.sl_model.proofs.Worlds.FifoRuns.{next-view, fifo_run, fifo_run-turn, made-of}
use Rattle.sl_model.proofs.Worlds.Numbers.{never-falls, first-grown, grown-le, NeverFalls, Says}
use Rattle.sl_model.proofs.Worlds.Stamps.{observer-acts, id-falls, acted-by, PutBy, control-said, action-said, unit-step, each-on-link, each-lost, each-taken, says-itself, took-by}
use Rattle.sl_model.proofs.Cuts.Begins.{last-never-falls, knows, each-last, observer-step}
use Rattle.sl_model.specs.declared.message.Message.{Message}
use Rattle.sl_model.specs.declared.message.Put.{Put}
use Rattle.sl_model.specs.Words.{listed}
use Rattle.sl_model.specs.Puts.{puts_of}
use Rattle.sl_model.specs.Window.{IsBelow}

-- Least numbers.

least-le : (f g : ℕ → ℕ) (cs : List ℕ) (m n : ℕ) → m ≤ n → Each (λ c. f c ≤ g c) cs → fold min m (map f cs) ≤ fold min n (map g cs)
least-le f g [] m n i h = i
least-le f g (c ∷ cs) m n i h = least-le f g cs (min m (f c)) (min n (g c)) (let k : f c ≤ g c = h.0 in omega arith) h.1

falls-least : (g : History → ℕ) (cs : List ℕ) (h : History) → NeverFalls g h → Each (λ c. NeverFalls (last c) h) cs → NeverFalls (λ h. fold min (g h) (map (λ c. last c h) cs)) h
falls-least g cs [] n e = tt
falls-least g cs (s ∷ h) n e = (
  least-le (λ c. last c h) (λ c. last c (s ∷ h)) cs (g h) (g (s ∷ h)) n.0 (each-imp (λ c. NeverFalls (last c) (s ∷ h)) (λ c. last c h ≤ last c (s ∷ h)) cs (λ c p. p.0) e),
  falls-least g cs h n.1 (each-imp (λ c. NeverFalls (last c) (s ∷ h)) (λ c. NeverFalls (last c) h) cs (λ c p. p.1) e),
)

-- The floor of any actor's history never falls as it grows.

pub choice-falls : (s : Setup) (lost : Losses) (w : World) (a : ℕ) (t : Sort) → IsWired s.net → IsFifoRun s lost w → IsTrue (is_stamped t) → Each (λ c. NeverFalls (last c) (history w a)) (choices_of s.net a t)
choice-falls s lost w a t n r i = each-imp (IsChoice s.net a t) (λ c. NeverFalls (last c) (history w a)) (choices_of s.net a t)
    (λ c p. last-never-falls s lost w a c (link_at s.net a c) n r p.into (subst (λ x. IsTrue (is_stamped x)) (sym p.sort) i)) (n.ways.choices a t)

pub channels-fall : (s : Setup) (lost : Losses) (w : World) (a : ℕ) → IsWired s.net → IsFifoRun s lost w → Each (λ c. NeverFalls (last c) (history w a)) (data_channels s.net a)
channels-fall s lost w a n r =
    each-append (λ c. NeverFalls (last c) (history w a)) (choices_of s.net a Cable) (choices_of s.net a Crossbar) (choice-falls s lost w a Cable n r refl) (choice-falls s lost w a Crossbar n r refl)

pub upto-falls : (s : Setup) (lost : Losses) (w : World) (a : ℕ) → IsWired s.net → IsFifoRun s lost w → NeverFalls (upto_of s.net a) (history w a)
upto-falls s lost w a n r = falls-least id (data_channels s.net a) (history w a) (id-falls (history w a)) (channels-fall s lost w a n r)

pub floor-of-falls : (s : Setup) (lost : Losses) (w : World) (a : ℕ) → IsWired s.net → IsFifoRun s lost w → NeverFalls (floor_of s.net a) (history w a)
floor-of-falls s lost w a n r = falls-least (upto_of s.net a) (choices_of s.net a Init) (history w a) (upto-falls s lost w a n r) (choice-falls s lost w a Init n r refl)

-- F never falls.

pub extends-grown : (w v : World) (a : ℕ) (step : Step) (u : ℕ) → GrowsAt w v a step → Extends w v u
extends-grown w v a step u g = by_actor (eqb_tells u a)
  where
    by_actor : ((nat_eq u a ≡ true) × (u ≡ a)) ⊎ ((nat_eq u a ≡ false) × (u ≡ a → ⊥)) → Extends w v u
    by_actor (inl q) = subst (Extends w v) (sym q.1) (record { steps = λ n p. ap (first n) g.same ∙ first-grown n step (history w a) p })
    by_actor (inr q) = record { steps = λ n p. ap (first n) (g.other u q.1) }

unit-floor-le : (s : Setup) (lost : Losses) (w v : World) (u : ℕ) (i : UnitId) → IsWired s.net → IsFifoRun s lost w → IsFifoRun s lost v → actor_of s.net u ≡ OfUnit i → Extends w v u → known (unit_place s.net u) (observer w) ≤ known (unit_place s.net u) (observer v)
    → unit_floor s.net w u ≤ unit_floor s.net v u
unit-floor-le s lost w v u i n r t q e k = let m = known (unit_place s.net u) (observer w) in
    let p : m ≤ length (history w u) = (knows s lost w u i n r (n.reports u i q) q).at_most in
    subst (λ h. floor_of s.net u h ≤ unit_floor s.net v u) (e.steps m p) (never-falls (floor_of s.net u) m (known (unit_place s.net u) (observer v)) (history v u) (floor-of-falls s lost v u n t) k)

least-some : (f g : ℕ → ℕ) (us : List ℕ) (a b x y : ℕ) → x ≤ y → Each (λ u. f u ≤ g u) us → unwrap_or (least_in (Some x) (map f us)) a ≤ unwrap_or (least_in (Some y) (map g us)) b
least-some f g [] a b x y i h = i
least-some f g (u ∷ us) a b x y i h = least-some f g us a b (min x (f u)) (min y (g u)) (let k : f u ≤ g u = h.0 in omega arith) h.1

least-none : (f g : ℕ → ℕ) (us : List ℕ) (a b : ℕ) → a ≤ b → Each (λ u. f u ≤ g u) us → unwrap_or (least_in None (map f us)) a ≤ unwrap_or (least_in None (map g us)) b
least-none f g [] a b i h = i
least-none f g (u ∷ us) a b i h = least-some f g us a b (min (f u) (f u)) (min (g u) (g u)) (let k : f u ≤ g u = h.0 in omega arith) h.1

pub each-unit : (net : Net) → Each (λ u. (i : UnitId) × (actor_of net u ≡ OfUnit i)) (units net)
each-unit net = each-imp (λ u. is_unit (actor_of net u) ≡ true) (λ u. (i : UnitId) × (actor_of net u ≡ OfUnit i)) (units net) (λ u p. of_actor (actor_of net u) p) (each-passes (λ u. is_unit (actor_of net u)) (below (length net.actors)))
  where
    of_actor : (x : ActorId) → is_unit x ≡ true → (i : UnitId) × (x ≡ OfUnit i)
    of_actor (OfUnit i) p = (i, refl)
    of_actor _ p = absurd cc

pub floor-le : (s : Setup) (lost : Losses) (w v : World) → IsWired s.net → IsFifoRun s lost w → IsFifoRun s lost v → ((u : ℕ) → Extends w v u) → ((u : ℕ) (i : UnitId) → actor_of s.net u ≡ OfUnit i → known (unit_place s.net u) (observer w) ≤ known (unit_place s.net u) (observer v))
    → issued s.net (observer w) ≤ issued s.net (observer v) → floor s.net w ≤ floor s.net v
floor-le s lost w v n r t e k j = least-none (unit_floor s.net w) (unit_floor s.net v) (units s.net) (issued s.net (observer w)) (issued s.net (observer v)) j
    (each-imp (λ u. (i : UnitId) × (actor_of s.net u ≡ OfUnit i)) (λ u. unit_floor s.net w u ≤ unit_floor s.net v u) (units s.net)
    (λ u p. unit-floor-le s lost w v u p.0 n r t p.1 (e u) (k u p.0 p.1)) (each-unit s.net))

pub taken-never-falls : (c : ℕ) (h : History) → NeverFalls (taken c) h
taken-never-falls c [] = tt
taken-never-falls c (step ∷ h) = (taken-falls c step h, taken-never-falls c h)

pub known-le : (s : Setup) (lost : Losses) (w v : World) (a : ℕ) (step : Step) (u : ℕ) (i : UnitId) → IsWired s.net → IsFifoRun s lost w → IsFifoRun s lost v → GrowsAt w v a step → actor_of s.net u ≡ OfUnit i
    → known (unit_place s.net u) (observer w) ≤ known (unit_place s.net u) (observer v)
known-le s lost w v a step u i n r t g q = let p = n.reports u i q in
    let x = (knows s lost w u i n r p q).told in
    let y = (knows s lost v u i n t p q).told in
    let z : heard (done_of (unit_place s.net u)) (choice_of s.net p.done) (observer w) ≤ heard (done_of (unit_place s.net u)) (choice_of s.net p.done) (observer v) =
    grown-le (heard (done_of (unit_place s.net u)) (choice_of s.net p.done)) w v a step 0 g (knows s lost v u i n t p q).dones.climbs in
    omega (arith, x, y, z)

pub floor-step : (s : Setup) (lost : Losses) (w v : World) (a : ℕ) (step : Step) → IsWired s.net → IsFifoRun s lost w → IsFifoRun s lost v → GrowsAt w v a step → floor s.net w ≤ floor s.net v
floor-step s lost w v a step n r t g = floor-le s lost w v n r t (λ u. extends-grown w v a step u g) (λ u i q. known-le s lost w v a step u i n r t g q)
    (grown-le (issued s.net) w v a step 0 g (taken-never-falls (action_choice s.net 0) (observer v)))

pub floor-turn : (s : Setup) (lost : Losses) (w : World) (e : Entry) → IsWired s.net → IsFifoRun s lost w → floor s.net w ≤ floor s.net (turn s lost w e)
floor-turn s lost w e n r = by_cases (turn-cases s lost w e)
  where
    by_cases : (turn s lost w e ≡ w) ⊎ Steps s lost w e (turn s lost w e) → floor s.net w ≤ floor s.net (turn s lost w e)
    by_cases (inl q) = subst (λ v. floor s.net w ≤ floor s.net v) (sym q) (omega arith)
    by_cases (inr t) = floor-step s lost w (turn s lost w e) e.0 t.step n r (fifo_run-turn s lost w e r) t.grows

pub floor-run : (s : Setup) (lost : Losses) (w : World) (es : List Entry) → IsWired s.net → IsFifoRun s lost w → floor s.net w ≤ floor s.net (run s lost w es)
floor-run s lost w [] n r = omega arith
floor-run s lost w (e ∷ es) n r = omega (arith, floor-turn s lost w e n r, floor-run s lost (turn s lost w e) es n (fifo_run-turn s lost w e r))

-- K never falls.

issued-turn : (s : Setup) (lost : Losses) (w : World) (e : Entry) → issued s.net (observer w) ≤ issued s.net (observer (turn s lost w e))
issued-turn s lost w e = by_cases (turn-cases s lost w e)
  where
    by_cases : (turn s lost w e ≡ w) ⊎ Steps s lost w e (turn s lost w e) → issued s.net (observer w) ≤ issued s.net (observer (turn s lost w e))
    by_cases (inl q) = subst (λ v. issued s.net (observer w) ≤ issued s.net (observer v)) (sym q) (omega arith)
    by_cases (inr t) = grown-le (issued s.net) w (turn s lost w e) e.0 t.step 0 t.grows (taken-never-falls (action_choice s.net 0) (observer (turn s lost w e)))

pub issued-run : (s : Setup) (lost : Losses) (w : World) (es : List Entry) → issued s.net (observer w) ≤ issued s.net (observer (run s lost w es))
issued-run s lost w [] = omega arith
issued-run s lost w (e ∷ es) = omega (arith, issued-turn s lost w e, issued-run s lost (turn s lost w e) es)

-- K is at most F + W.

pub record IsWithin (s : Setup) (lost : Losses) (w : World) : Type 0 where
  pub fifo_run : IsFifoRun s lost w
  pub within : issued s.net (observer w) ≤ floor s.net w + s.window

-- a step of the observer
within-zero : (s : Setup) (lost : Losses) (w : World) (step : Step) → actor_of s.net 0 ≡ Observer → Takes s lost w 0 step ⊎ Acts s w 0 step → issued s.net (observer w) ≤ floor s.net w + s.window
    → issued s.net (step ∷ observer w) ≤ floor s.net w + s.window
within-zero s lost w step q (inl x) h = let p : step.choice < length (links_into s.net 0) = slice_get_within (links_into s.net 0) step.choice x.took.link x.took.into in
    let e : issued s.net (step ∷ observer w) ≡ issued s.net (observer w) = taken-other (action_choice s.net 0) step (observer w) (λ c. omega (arith, c, p)) in omega (arith, e, h)
within-zero s lost w step q (inr x) h = let f : x.acted.floor ≡ floor s.net w = x.now ∙ ap (floor_for s.net w) q in
    of_kind (observer-acts s x.acted.floor 0 (step.choice - action_choice s.net 0) (observer w) step.puts (acted-by s 0 (observer w) step Observer q x.acted)) f
  where
    of_kind : Begins s x.acted.floor (observer w) (step.choice - action_choice s.net 0) step.puts → x.acted.floor ≡ floor s.net w → issued s.net (step ∷ observer w) ≤ floor s.net w + s.window
    of_kind b f = by_kind b.kind
      where
        by_kind : ((step.choice - action_choice s.net 0 ≡ 0) × (b.number ≡ suc (issued s.net (observer w))) × (can_issue s x.acted.floor (observer w) ≡ true)) ⊎ ((step.choice - action_choice s.net 0 ≡ 1) × (b.number ≡ issued s.net (observer w)) × (can_resend s x.acted.floor (observer w) ≡ true))
            → issued s.net (step ∷ observer w) ≤ floor s.net w + s.window
        by_kind (inl z) = let g : suc (issued s.net (observer w)) ≤ x.acted.floor + s.window = leb-true (suc (issued s.net (observer w))) (x.acted.floor + s.window) (and_parts (nat_lt (issued s.net (observer w)) s.count) (nat_le (suc (issued s.net (observer w))) (x.acted.floor + s.window)) z.2).1 in
            omega (arith, f, g, taken-step (action_choice s.net 0) step (observer w))
        by_kind (inr z) = let e : issued s.net (step ∷ observer w) ≡ issued s.net (observer w) = taken-other (action_choice s.net 0) step (observer w) (λ c. omega (arith, z.0, c)) in omega (arith, e, h)

within-step : (s : Setup) (lost : Losses) (w v : World) (e : Entry) → IsWired s.net → IsFifoRun s lost w → IsFifoRun s lost v → Steps s lost w e v → issued s.net (observer w) ≤ floor s.net w + s.window → issued s.net (observer v) ≤ floor s.net v + s.window
within-step s lost w v e n r t x h = let f : floor s.net w ≤ floor s.net v = floor-step s lost w v e.0 x.step n r t x.grows in
    let k : issued s.net (observer v) ≤ floor s.net w + s.window = by_actor (eqb_tells 0 e.0) in omega (arith, f, k)
  where
    by_actor : ((nat_eq 0 e.0 ≡ true) × (0 ≡ e.0)) ⊎ ((nat_eq 0 e.0 ≡ false) × (0 ≡ e.0 → ⊥)) → issued s.net (observer v) ≤ floor s.net w + s.window
    by_actor (inl q) = subst (λ h. issued s.net h ≤ floor s.net w + s.window) (sym (ap (history v) q.1 ∙ x.grows.same ∙ ap (λ b. x.step ∷ history w b) (sym q.1)))
        (within-zero s lost w x.step n.observer (subst (λ a. Takes s lost w a x.step ⊎ Acts s w a x.step) (sym q.1) (next-view s lost w e x.step x.next)) h)
    by_actor (inr q) = subst (λ h. issued s.net h ≤ floor s.net w + s.window) (sym (x.grows.other 0 q.1)) h

within-turn : (s : Setup) (lost : Losses) (w : World) (e : Entry) → IsWired s.net → IsWithin s lost w → IsWithin s lost (turn s lost w e)
within-turn s lost w e n h = record { fifo_run = fifo_run-turn s lost w e h.fifo_run; within = by_cases (turn-cases s lost w e) }
  where
    by_cases : (turn s lost w e ≡ w) ⊎ Steps s lost w e (turn s lost w e) → issued s.net (observer (turn s lost w e)) ≤ floor s.net (turn s lost w e) + s.window
    by_cases (inl q) = subst (λ v. issued s.net (observer v) ≤ floor s.net v + s.window) (sym q) h.within
    by_cases (inr t) = within-step s lost w (turn s lost w e) e n h.fifo_run (fifo_run-turn s lost w e h.fifo_run) t h.within

pub within : (s : Setup) (lost : Losses) (es : List Entry) → IsWired s.net → IsWithin s lost (run s lost (start s.net) es)
within s lost es n = kept_by_run s lost (IsWithin s lost) (λ w e. within-turn s lost w e n) (start s.net) es
    (record { fifo_run = fifo_run s lost []; within = let z : issued s.net (observer (start s.net)) ≡ 0 = ap (issued s.net) (start-empty s.net 0) in omega (arith, z) })

-- What a unit's first steps are stays so in every longer world.

pub extends-turn : (s : Setup) (lost : Losses) (w : World) (e : Entry) (u : ℕ) → Extends w (turn s lost w e) u
extends-turn s lost w e u = by_cases (turn-cases s lost w e)
  where
    by_cases : (turn s lost w e ≡ w) ⊎ Steps s lost w e (turn s lost w e) → Extends w (turn s lost w e) u
    by_cases (inl q) = record { steps = λ n p. ap (λ v. first n (history v u)) q }
    by_cases (inr t) = extends-grown w (turn s lost w e) e.0 t.step u t.grows

pub length-turn-le : (s : Setup) (lost : Losses) (w : World) (e : Entry) (u : ℕ) → length (history w u) ≤ length (history (turn s lost w e) u)
length-turn-le s lost w e u = by_cases (turn-cases s lost w e)
  where
    grows : (h : History) → NeverFalls (λ h. length h) h
    grows [] = tt
    grows (x ∷ h) = (omega arith, grows h)

    by_cases : (turn s lost w e ≡ w) ⊎ Steps s lost w e (turn s lost w e) → length (history w u) ≤ length (history (turn s lost w e) u)
    by_cases (inl q) = subst (λ v. length (history w u) ≤ length (history v u)) (sym q) (omega arith)
    by_cases (inr t) = grown-le (λ h. length h) w (turn s lost w e) e.0 t.step u t.grows (grows (history (turn s lost w e) u))

pub extends-run : (s : Setup) (lost : Losses) (w : World) (es : List Entry) (u : ℕ) → Extends w (run s lost w es) u
extends-run s lost w [] u = record { steps = λ n p. refl }
extends-run s lost w (e ∷ es) u = record {
  steps = λ n p.
      let q : n ≤ length (history (turn s lost w e) u) = omega (arith, p, length-turn-le s lost w e u) in
      (extends-run s lost (turn s lost w e) es u).steps n q ∙ (extends-turn s lost w e u).steps n p;
}

-- Every id, stamp and Begin number is at most K.
--     AllBelow net w      each message that was put is at most K

abbrev pub AllBelow : Net → World → Type 0
AllBelow net w = (l : ℕ) → Each (IsBelow (issued net (observer w))) (put l (history w (link_of net l).from))

below-more : (j k : ℕ) (m : Message) → j ≤ k → IsBelow j m → IsBelow k m
below-more j k m i b = record { stamp = let x : unwrap_or (stamp_of m) 0 ≤ j = b.stamp in omega arith; begin = let x : unwrap_or (begin_of m) 0 ≤ j = b.begin in omega arith }

each-more : (j k : ℕ) (ms : List Message) → j ≤ k → Each (IsBelow j) ms → Each (IsBelow k) ms
each-more j k ms i e = each-imp (IsBelow j) (IsBelow k) ms (λ m b. below-more j k m i b) e

says-le : (k : ℕ) (o : Option ℕ) → Says k o → unwrap_or o 0 ≤ k
says-le k o (inl q) = subst (λ o. unwrap_or o 0 ≤ k) (sym q) (omega arith)
says-le k o (inr q) = subst (λ o. unwrap_or o 0 ≤ k) (sym q) (omega arith)

-- a step whose number is at most k
puts-below : (s : Setup) (j n k : ℕ) (ps : List Put) → j ≤ k → Each (PutBy s.net j n) ps → Each (λ p. IsBelow k p.message) ps
puts-below s j n k ps i e = each-imp (PutBy s.net j n) (λ p. IsBelow k p.message) ps
    (λ p b. below-more j k p.message i (record { stamp = says-le j (stamp_of p.message) b.said.stamp; begin = says-le j (begin_of p.message) b.said.begin })) e

-- The id.

id-below : (s : Setup) (a k : ℕ) (h : History) → IsMade s a h → ((c l : ℕ) → slice_get (links_into s.net a) c ≡ Some l → Each (IsBelow k) (takes c h)) → id h ≤ k
id-below s a k [] m e = omega arith
id-below s a k (step ∷ h) m e = let i : id h ≤ k = id-below s a k h m.1 (λ c l q. each-front (IsBelow k) (takes c h) (if step.choice == c then listed step.taken else []) (e c l q)) in
    let x : unwrap_or (stamp_taken step) 0 ≤ k = of_step m.0 in omega arith
  where
    of_step : Took s a h step ⊎ Acted s a h step → unwrap_or (option_and_then stamp_of step.taken) 0 ≤ k
    of_step (inl t) = subst (λ o. unwrap_or (option_and_then stamp_of o) 0 ≤ k) (sym t.taken) (each-last (IsBelow k) step h t.message t.taken (e step.choice t.link t.into)).stamp
    of_step (inr t) = subst (λ o. unwrap_or (option_and_then stamp_of o) 0 ≤ k) (sym t.taken) (omega arith)

taken-below : (s : Setup) (lost : Losses) (w : World) (a c l : ℕ) → IsFifoRun s lost w → AllBelow s.net w → slice_get (links_into s.net a) c ≡ Some l → Each (IsBelow (issued s.net (observer w))) (takes c (history w a))
taken-below s lost w a c l r b q = each-taken (IsBelow (issued s.net (observer w))) (lost l) c (history w a) (put l (history w (link_of s.net l).from)) (b l) (r.fifo a c l q)

pub ids-below : (s : Setup) (lost : Losses) (w : World) (a : ℕ) → IsFifoRun s lost w → AllBelow s.net w → id (history w a) ≤ issued s.net (observer w)
ids-below s lost w a r b = id-below s a (issued s.net (observer w)) (history w a) (r.made a) (λ c l q. taken-below s lost w a c l r b q)

-- Steps.

pub each-get : (P : Message → Type 0) (ms : List Message) (i : ℕ) (m : Message) → Each P ms → slice_get ms i ≡ Some m → P m
each-get P [] i m e q = absurd cc
each-get P (x ∷ ms) zero m e q = let z : x ≡ m = cc in subst P z e.0
each-get P (x ∷ ms) (suc i) m e q = each-get P ms i m e.1 q

-- what is taken next is at most K
found-below : (s : Setup) (lost : Losses) (w : World) (a : ℕ) (step : Step) → AllBelow s.net w → (t : Takes s lost w a step) → IsBelow (issued s.net (observer w)) t.took.message
found-below s lost w a step b t = each-get (IsBelow (issued s.net (observer w))) (carried s.net lost w t.took.link) (taken step.choice (history w a)) t.took.message
    (each-lost (IsBelow (issued s.net (observer w))) (lost t.took.link) 0 (put t.took.link (history w (link_of s.net t.took.link).from)) (b t.took.link)) t.found

step-below : (s : Setup) (lost : Losses) (w : World) (a : ℕ) (step : Step) (k : ℕ) → IsWired s.net → IsFifoRun s lost w → AllBelow s.net w → issued s.net (observer w) ≤ k
    → (actor_of s.net a ≡ Observer → (a ≡ 0) × (issued s.net (step ∷ observer w) ≡ k)) → Takes s lost w a step ⊎ Acts s w a step → Each (λ p. IsBelow k p.message) step.puts
step-below s lost w a step k n r b i o t = by_kind (actor_of s.net a) refl t
  where
    acts : (x : ActorId) → actor_of s.net a ≡ x → (x ≡ Observer → ⊥) → Acts s w a step → Each (λ p. IsBelow k p.message) step.puts
    acts x q ne z = puts-below s 0 0 k step.puts (omega arith) (action-said s z.acted.floor a (step.choice - action_choice s.net a) x (history w a) step.puts 0 0 ne (acted-by s a (history w a) step x q z.acted))

    puts : (x : ActorId) → actor_of s.net a ≡ x → (z : Takes s lost w a step) → step.puts ≡ puts_of s a x (history w a) step.choice z.took.link z.took.message
    puts x q z = took-by s a (history w a) step x q z.took

    id-after : Takes s lost w a step ⊎ Acts s w a step → unwrap_or (option_and_then stamp_of step.taken) 0 ≤ issued s.net (observer w)
    id-after (inl z) = subst (λ o. unwrap_or (option_and_then stamp_of o) 0 ≤ issued s.net (observer w)) (sym z.took.taken) (found-below s lost w a step b z).stamp
    id-after (inr z) = subst (λ o. unwrap_or (option_and_then stamp_of o) 0 ≤ issued s.net (observer w)) (sym z.acted.taken) (omega arith)

    by_kind : (x : ActorId) → actor_of s.net a ≡ x → Takes s lost w a step ⊎ Acts s w a step → Each (λ p. IsBelow k p.message) step.puts
    by_kind Observer q z = let e = o q in puts-below s k 0 k step.puts (omega arith) (subst (λ k. Each (PutBy s.net k 0) step.puts) e.1
        (observer-step s (observer w) step n.observer (made-of s lost w 0 step (subst (λ a. Takes s lost w a step ⊎ Acts s w a step) e.0 z))))
    by_kind (Control d) q (inl z) = let m = z.took.message in let j = unwrap_or (begin_of m) 0 in let c = unwrap_or (dump_of m) 0 in
        let x : j ≤ issued s.net (observer w) = (found-below s lost w a step b z).begin in
        puts-below s j c k step.puts (omega arith) (subst (Each (PutBy s.net j c)) (sym (puts (Control d) q z)) (control-said s.net a (history w a) step.choice m j c (says-itself (begin_of m)) (says-itself (dump_of m))))
    by_kind (Control d) q (inr z) = acts (Control d) q (λ e. cc) z
    by_kind (OfUnit u) q z = let x : id (history w a) ≤ issued s.net (observer w) = ids-below s lost w a r b in let y : unwrap_or (stamp_taken step) 0 ≤ issued s.net (observer w) = id-after z in
        puts-below s (id (step ∷ history w a)) (suc (length (history w a))) k step.puts (omega arith) (unit-step s a u (history w a) step q (made-of s lost w a step z))
    by_kind (OfHost d) q (inl z) = subst (Each (λ p. IsBelow k p.message)) (sym (puts (OfHost d) q z)) tt
    by_kind (OfHost d) q (inr z) = acts (OfHost d) q (λ e. cc) z

below-step : (s : Setup) (lost : Losses) (w v : World) (e : Entry) → IsWired s.net → IsFifoRun s lost w → Steps s lost w e v → AllBelow s.net w → AllBelow s.net v
below-step s lost w v e n r t b l = by_actor (eqb_tells (link_of s.net l).from e.0)
  where
    more : issued s.net (observer w) ≤ issued s.net (observer v)
    more = grown-le (issued s.net) w v e.0 t.step 0 t.grows (taken-never-falls (action_choice s.net 0) (observer v))

    observed : (link_of s.net l).from ≡ e.0 → actor_of s.net e.0 ≡ Observer → (e.0 ≡ 0) × (issued s.net (t.step ∷ observer w) ≡ issued s.net (observer v))
    observed q o = let z : e.0 ≡ 0 = n.one_observer e.0 o in
        (z, ap (λ b. issued s.net (t.step ∷ history w b)) (sym z) ∙ ap (issued s.net) (sym t.grows.same) ∙ ap (λ b. issued s.net (history v b)) z)

    by_actor : ((nat_eq (link_of s.net l).from e.0 ≡ true) × ((link_of s.net l).from ≡ e.0)) ⊎ ((nat_eq (link_of s.net l).from e.0 ≡ false) × ((link_of s.net l).from ≡ e.0 → ⊥))
        → Each (IsBelow (issued s.net (observer v))) (put l (history v (link_of s.net l).from))
    by_actor (inl q) = subst (λ a. Each (IsBelow (issued s.net (observer v))) (put l (history v a))) (sym q.1) (subst (λ h. Each (IsBelow (issued s.net (observer v))) (put l h)) (sym t.grows.same)
        (each-append (IsBelow (issued s.net (observer v))) (put l (history w e.0)) (on_link l t.step.puts)
        (subst (λ a. Each (IsBelow (issued s.net (observer v))) (put l (history w a))) q.1 (each-more (issued s.net (observer w)) (issued s.net (observer v)) (put l (history w (link_of s.net l).from)) more (b l)))
        (each-on-link (λ l m. IsBelow (issued s.net (observer v)) m) l t.step.puts
        (step-below s lost w e.0 t.step (issued s.net (observer v)) n r b more (observed q.1) (next-view s lost w e t.step t.next)))))
    by_actor (inr q) = subst (λ h. Each (IsBelow (issued s.net (observer v))) (put l h)) (sym (t.grows.other (link_of s.net l).from q.1))
        (each-more (issued s.net (observer w)) (issued s.net (observer v)) (put l (history w (link_of s.net l).from)) more (b l))

-- what holds in each world of a net that is wired
pub record RanBelow (s : Setup) (lost : Losses) (w : World) : Type 0 where
  pub fifo_run : IsFifoRun s lost w
  pub below : AllBelow s.net w

below-turn : (s : Setup) (lost : Losses) (w : World) (e : Entry) → IsWired s.net → RanBelow s lost w → RanBelow s lost (turn s lost w e)
below-turn s lost w e n h = record { fifo_run = fifo_run-turn s lost w e h.fifo_run; below = by_cases (turn-cases s lost w e) }
  where
    by_cases : (turn s lost w e ≡ w) ⊎ Steps s lost w e (turn s lost w e) → AllBelow s.net (turn s lost w e)
    by_cases (inl q) = subst (AllBelow s.net) (sym q) h.below
    by_cases (inr t) = below-step s lost w (turn s lost w e) e n h.fifo_run t h.below

pub all-below : (s : Setup) (lost : Losses) (es : List Entry) → IsWired s.net → RanBelow s lost (run s lost (start s.net) es)
all-below s lost es n = kept_by_run s lost (RanBelow s lost) (λ w e. below-turn s lost w e n) (start s.net) es
    (record { fifo_run = fifo_run s lost []; below = λ l. subst (λ h. Each (IsBelow (issued s.net (observer (start s.net)))) (put l h)) (sym (start-empty s.net (link_of s.net l).from)) tt })
