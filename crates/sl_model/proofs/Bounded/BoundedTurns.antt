-- The bound on the turns of a run, in the terms of its formula.
use Rattle.std.proofs.Common.{◌*◌, ◌+◌, ◌++◌, ◌<◌, ◌==◌, List, ap, refl, subst, suc, sym, zero, ℕ, ◌∙◌, ◌∷◌, ◌≡◌, ◌≤◌, arith, []}
use Rattle.std.specs.Prelude.{◌&&◌, Bool, false, length, true, if◌then◌else◌}
use Rattle.sl_layout.specs.Net.{Net, action_choice, actor_of, units}
use Rattle.sl_layout.specs.Serving.{served}
use Rattle.sl_net.specs.Wired.{IsNet}
use Rattle.sl_layout.specs.declared.actor.ActorId.{ActorId}
use Rattle.sl_layout.specs.declared.actor.ActorId.TheVariants.{Control, Observer, Host as OfHost, Unit as OfUnit}
use Rattle.sl_layout.specs.declared.actor.Sort.TheVariants.{Cable, Crossbar, Init}
use Rattle.sl_model.specs.Bound.{bound, bound_of, frame_count, is_control, links_of_sort}
use Rattle.sl_model.specs.End.{IsFin, IsFinished}
use Rattle.sl_model.specs.History.{Losses}
use Rattle.sl_model.specs.Setup.{Setup}
use Rattle.sl_model.specs.Words.{weigh}
use Rattle.sl_model.specs.World.{Entry, IsLegalFrom, IsLossTable, kept, run, start, world}
use Rattle.sl_model.specs.Ended.{IsEnded}
use Rattle.sl_model.specs.Potential.{allowance, allowed, round_price}
use Rattle.sl_model.specs.Sweeps.{sweeps_in}
use Rattle.sl_model.proofs.Worlds.Legal.{fin_legal, kept_legal, legal_append}
use Rattle.sl_model.proofs.Worlds.Trails.{run-kept}
use Rattle.sl_model.proofs.Worlds.Turns.{run-append}
use Rattle.sl_model.proofs.Bounded.Costs.{IsCosted, costed, channels-few, frames-few, observers-few}
use Rattle.sl_model.proofs.Bounded.Ways.{all_channels, all_frames, observers, start-by-kinds, guided}
use Rattle.sl_model.proofs.Finishing.Finished.{fin-is-finished, mul-le, sweep_gain, weigh-kept}
use Rattle.sl_model.proofs.Finishing.NetWiring.{wiring}
use Rattle.sl_model.proofs.Bounded.Whole.{start_potential, whole-run}

-- the sweeps of a schedule, at 49 each
pub sweeps-cost : (net : Net) → ((a : ℕ) → length (served net a) ≤ 16) → (es : List Entry) → weigh (allowed net) es ≤ 49 * sweeps_in net es
sweeps-cost net few [] = omega arith
sweeps-cost net few (e ∷ es) = omega (arith, at (actor_of net e.0), sweeps-cost net few es)
  where
    by_bool : (n : ℕ) (b : Bool) → n ≤ 16 → (if b then suc (3 * n) else 0) ≤ 49 * (if b then 1 else 0)
    by_bool n true k = omega (arith, k)
    by_bool n false k = omega arith

    at : (i : ActorId) → allowance net e.0 i e.1 ≤ 49 * (if is_control i && (e.1 == action_choice net e.0) then 1 else 0)
    at Observer = omega arith
    at (Control d) = by_bool (length (served net e.0)) (e.1 == action_choice net e.0) (few e.0)
    at (OfUnit i) = omega arith
    at (OfHost x) = omega arith

-- The formula, over plain numbers.

pub mul-right : (a b g : ℕ) → a ≤ b → g * a ≤ g * b
mul-right a b zero h = omega arith
mul-right a b (suc g) h = omega (arith, h, mul-right a b g h)

-- what remains of the bound: one round of sweeps
abbrev pub Sums : ℕ → ℕ → ℕ → ℕ → ℕ → ℕ → ℕ → ℕ → ℕ → ℕ
Sums D U I X Y C T P S = (C + T) * (1 + D + (I + (X + Y))) + (I + (X + Y)) * (4 * C) + P * (2 * D + 2) + 49 * S + (2 * C + T + 1) * (D + 3 * U)

sums-are : (D U I X Y C T P S : ℕ) → Sums D U I X Y C T P S + (D + 3 * U) ≡ bound D U I X Y C T P S
sums-are D U I X Y C T P S = omega (arith, a, b, c, d, e, f, g)
  where
    Z : ℕ
    Z = I + X + Y

    z : I + (X + Y) ≡ I + X + Y
    z = omega arith

    a : (C + T) * (1 + D + (I + (X + Y))) ≡ (C + T) * (1 + D + (I + X + Y))
    a = ap (λ n. (C + T) * (1 + D + n)) z

    four : (x y : ℕ) → x * (4 * y) ≡ y * x + 3 * (y * x)
    four x y = omega arith

    b : (I + (X + Y)) * (4 * C) ≡ C * (I + X + Y) + 3 * (C * (I + X + Y))
    b = four (I + (X + Y)) C ∙ ap (λ n. C * n + 3 * (C * n)) z

    split : (n x y : ℕ) → n * (x + 3 * y) ≡ n * x + 3 * (n * y)
    split n x y = omega arith

    c : (2 * C + T + 1) * (D + 3 * U) ≡ (2 * C + T + 1) * D + 3 * ((2 * C + T + 1) * U)
    c = split (2 * C + T + 1) D U

    one_more : (n x : ℕ) → (n + 2) * x ≡ (n + 1) * x + x
    one_more n x = omega arith

    d : (2 * C + T + 2) * D ≡ (2 * C + T + 1) * D + D
    d = one_more (2 * C + T) D

    e : (2 * C + T + 2) * U ≡ (2 * C + T + 1) * U + U
    e = one_more (2 * C + T) U

    f : bound D U I X Y C T P S ≡ (C + T) * (1 + D + (I + X + Y)) + P * (2 * D + 2) + C * (I + X + Y) + 3 * (C * (I + X + Y) + 16 * S + (2 * C + T + 2) * U) + S + (2 * C + T + 2) * D
    f = refl

    g : 3 * (C * (I + X + Y) + 16 * S + (2 * C + T + 2) * U) ≡ 3 * (C * (I + X + Y)) + 48 * S + 3 * ((2 * C + T + 2) * U)
    g = omega arith

-- what all actors may start, and what finishing may add, under the formula
below-sums : (o r ch fr gain D U Z C T P : ℕ) → o ≤ 1 → r ≤ 1 + D + Z → ch ≤ Z → fr ≤ P → gain ≤ D + 3 * U
    → o * ((C + T) * r) + ch * (4 * C) + fr * (2 * D + 2) + (2 * C + T + 1) * gain ≤ (C + T) * (1 + D + Z) + Z * (4 * C) + P * (2 * D + 2) + (2 * C + T + 1) * (D + 3 * U)
below-sums o r ch fr gain D U Z C T P a b c d e = omega (
  arith,
  mul-le o 1 ((C + T) * r) a,
  one ((C + T) * r),
  mul-right r (1 + D + Z) (C + T) b,
  mul-le ch Z (4 * C) c,
  mul-le fr P (2 * D + 2) d,
  mul-right gain (D + 3 * U) (2 * C + T + 1) e,
)
  where
    one : (n : ℕ) → 1 * n ≡ n
    one n = omega arith

-- The potential at the start, the sweeps of a schedule and those of finishing, and a round more of them.
pub within-bound : (s : Setup) → IsNet s.net → (es : List Entry)
    → start_potential s + weigh (allowed s.net) es + (2 * s.count + s.retries + 1) * sweep_gain s.net + (length s.net.parts.devices + 3 * length (units s.net)) ≤ bound_of s (sweeps_in s.net es)
within-bound s n es = omega (
  arith,
  start-by-kinds s (guided s.net n (wiring s.net n).wired),
  below-sums (observers s.net) (round_price s.net) (all_channels s.net) (all_frames s) (sweep_gain s.net) D U (I + (X + Y)) s.count s.retries (frame_count s) (observers-few s.net (wiring s.net n).wired) c.round (channels s.net) (frames-few s n (wiring s.net n).wired) c.gain,
  sweeps-cost s.net c.served es,
  sums-are D U I X Y s.count s.retries (frame_count s) (sweeps_in s.net es),
)
  where
    c : IsCosted s.net
    c = costed s.net n (wiring s.net n).wired

    D : ℕ
    D = length s.net.parts.devices

    U : ℕ
    U = length (units s.net)

    I : ℕ
    I = links_of_sort s.net Init

    X : ℕ
    X = links_of_sort s.net Crossbar

    Y : ℕ
    Y = links_of_sort s.net Cable

    channels : (net : Net) → all_channels net ≤ links_of_sort net Init + (links_of_sort net Crossbar + links_of_sort net Cable)
    channels net = omega (arith, channels-few net)

-- The entries of any schedule that aren't idle, then what finishing takes.
pub run-within : (s : Setup) (lost : Losses) (es fs : List Entry) → IsNet s.net → IsFin s lost (world s lost es) fs → length (kept s lost es ++ fs) ≤ bound_of s (sweeps_in s.net es)
run-within s lost es fs n f = omega (
  arith,
  whole-run s lost (wiring s.net n) (kept s lost es) fs (kept_legal s lost (start s.net) es) (subst (λ w. IsFin s lost w fs) (sym (run-kept s lost (start s.net) es)) f),
  within-bound s n es,
  weigh-kept (allowed s.net) s lost (start s.net) es,
)

-- The same run is legal and its world finished.
pub run-ends : (s : Setup) (lost : Losses) (es fs : List Entry) → IsNet s.net → IsLossTable s.net lost → 0 < s.window → IsFin s lost (world s lost es) fs → IsEnded s lost es (kept s lost es ++ fs)
run-ends s lost es fs n t p f = record {
  legal = legal_append s lost (start s.net) (kept s lost es) fs (kept_legal s lost (start s.net) es) (subst (λ w. IsLegalFrom s lost w fs) (sym same) (fin_legal f.fuel s lost (world s lost es) fs f.finished));
  finished = subst (IsFinished s lost) (ap (λ w. run s lost w fs) (sym same) ∙ sym (run-append s lost (start s.net) (kept s lost es) fs)) (fin-is-finished s lost (wiring s.net n) t p (world s lost es) (es, refl) fs f);
  within = run-within s lost es fs n f;
}
  where
    same : run s lost (start s.net) (kept s lost es) ≡ world s lost es
    same = run-kept s lost (start s.net) es
