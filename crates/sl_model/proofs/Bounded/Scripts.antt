-- The bound for an input with a script, and on the first net.
use Rattle.std.proofs.Common.{◌*◌, ◌+◌, ◌++◌, ◌==◌, List, ap, length, refl, subst, suc, sym, ℕ, ◌∙◌, ◌∷◌, ◌≡◌, ◌≤◌, arith, []}
use Rattle.std.specs.Prelude.{◌&&◌, Bool, false, flat_map, true, if◌then◌else◌}
use Rattle.sl_net.specs.Input.{Input}
use Rattle.sl_layout.specs.Net.{Net, action_choice, actor_of, units}
use Rattle.sl_parts.specs.Parts.{below}
use Rattle.sl_layout.specs.Serving.{served}
use Rattle.sl_net.specs.Wired.{IsNet}
use Rattle.sl_layout.specs.declared.actor.ActorId.{ActorId}
use Rattle.sl_layout.specs.declared.actor.ActorId.TheVariants.{Control, Observer, Host as OfHost, Unit as OfUnit}
use Rattle.sl_layout.specs.declared.actor.Sort.TheVariants.{Cable, Crossbar, Init}
use Rattle.sl_net.specs.declared.input.Script1.{Script1}
use Rattle.sl_net.specs.declared.input.Script1.TheVariants.{Choice, Pass}
use Rattle.sl_model.specs.Bound.{bound, bound_of, frame_count, input_bound, is_control, is_sweep, links_of_sort}
use Rattle.sl_model.specs.End.{IsFin, finish}
use Rattle.sl_model.specs.History.{Losses}
use Rattle.sl_model.specs.Schedule.{expand, expand_one, pass}
use Rattle.sl_model.specs.Setup.{Setup, setup_of}
use Rattle.sl_parts.specs.Lists.{Each}
use Rattle.sl_model.specs.Words.{tally}
use Rattle.sl_model.specs.World.{Entry, kept, world}
use Rattle.sl_model.specs.FirstNet.{IsFirstNet}
use Rattle.sl_model.specs.Potential.{allowance, allowed}
use Rattle.sl_model.specs.Sweeps.{sweeps_at, sweeps_in}
use Rattle.sl_model.proofs.Finishing.Enough.{Finishes, bound-enough}
use Rattle.sl_model.proofs.Finishing.Finished.{pass-free}
use Rattle.sl_model.proofs.Lists.Weighed.{weigh-append}
use Rattle.sl_model.proofs.Bounded.BoundedTurns.{run-within}

-- The sweeps of a script's expansion.

no-sweep : (net : Net) (e : Entry) (a : ActorId) → allowance net e.0 a e.1 ≡ 0 → (if is_control a && (e.1 == action_choice net e.0) then 1 else 0) ≤ 0
no-sweep net e Observer h = omega arith
no-sweep net e (Control d) h = by_bool (e.1 == action_choice net e.0) h
  where
    by_bool : (b : Bool) → (if b then suc (3 * length (served net e.0)) else 0) ≡ 0 → (if b then 1 else 0) ≤ 0
    by_bool true h = absurd (omega (arith, h))
    by_bool false h = omega arith
no-sweep net e (OfUnit i) h = omega arith
no-sweep net e (OfHost x) h = omega arith

free-sweeps : (net : Net) (es : List Entry) → Each (λ e. allowed net e ≡ 0) es → sweeps_in net es ≤ 0
free-sweeps net [] h = omega arith
free-sweeps net (e ∷ es) h = omega (arith, no-sweep net e (actor_of net e.0) h.0, free-sweeps net es h.1)

passes-sweeps : (net : Net) (ns : List ℕ) → sweeps_in net (flat_map (λ n. pass net) ns) ≤ 0
passes-sweeps net [] = omega arith
passes-sweeps net (n ∷ ns) = omega (arith, weigh-append (λ e. if sweeps_at net e then 1 else 0) (pass net) (flat_map (λ n. pass net) ns), free-sweeps net (pass net) (pass-free net false), passes-sweeps net ns)

script-sweeps : (net : Net) (script : List Script1) → sweeps_in net (expand net script) ≤ tally (is_sweep net) script
script-sweeps net [] = omega arith
script-sweeps net (x ∷ script) = omega (arith, weigh-append (λ e. if sweeps_at net e then 1 else 0) (expand_one net x) (expand net script), of_one x, script-sweeps net script)
  where
    of_one : (x : Script1) → sweeps_in net (expand_one net x) ≤ (if is_sweep net x then 1 else 0)
    of_one (Pass n) = omega (arith, passes-sweeps net (below n))
    of_one (Choice actor choice) = omega arith

-- more sweeps, a greater bound
bound-more : (s : Setup) (a b : ℕ) → a ≤ b → bound_of s a ≤ bound_of s b
bound-more s a b h = of_numbers (length s.net.parts.devices) (length (units s.net)) (links_of_sort s.net Init) (links_of_sort s.net Crossbar) (links_of_sort s.net Cable) s.count s.retries (frame_count s) a b h
  where
    of_numbers : (D U I X Y C T P a b : ℕ) → a ≤ b → bound D U I X Y C T P a ≤ bound D U I X Y C T P b
    of_numbers D U I X Y C T P a b h = omega (arith, h)

pub input-within : (i : Input) (lost : Losses) (fs : List Entry) → IsNet i.net → IsFin (setup_of i) lost (world (setup_of i) lost (expand i.net i.script)) fs → length (kept (setup_of i) lost (expand i.net i.script) ++ fs) ≤ input_bound i
input-within i lost fs n f = omega (arith, run-within (setup_of i) lost (expand i.net i.script) fs n f, bound-more (setup_of i) (sweeps_in i.net (expand i.net i.script)) (tally (is_sweep i.net) i.script) (script-sweeps i.net i.script))

pub input-enough : (i : Input) (lost : Losses) (fuel : ℕ) → IsNet i.net → input_bound i ≤ fuel → Finishes (setup_of i) lost (λ w. finish fuel (setup_of i) lost w) (world (setup_of i) lost (expand i.net i.script))
input-enough i lost fuel n h = let b = bound-more (setup_of i) (sweeps_in i.net (expand i.net i.script)) (tally (is_sweep i.net) i.script) (script-sweeps i.net i.script) in
    bound-enough (setup_of i) lost (expand i.net i.script) fuel n (omega (arith, h, b))

-- The first net, with one snapshot and no retry.

record FirstCounts (net : Net) : Type 0 where
  devices : length net.parts.devices ≡ 1
  units_in : length (units net) ≡ 4
  inits : links_of_sort net Init ≡ 2
  crossbars : links_of_sort net Crossbar ≡ 4
  cables : links_of_sort net Cable ≡ 0

first-counts : (net : Net) → IsFirstNet net → FirstCounts net
first-counts net f = subst FirstCounts (sym f.made) (record { devices = refl; units_in = refl; inits = refl; crossbars = refl; cables = refl })

first-numbers : (P S : ℕ) → bound 1 4 2 4 0 1 0 P S ≡ 84 + 4 * P + 49 * S
first-numbers P S = omega arith

pub first-bound : (s : Setup) (sweeps : ℕ) → IsFirstNet s.net → s.count ≡ 1 → s.retries ≡ 0 → bound_of s sweeps ≡ 84 + 4 * frame_count s + 49 * sweeps
first-bound s sweeps f c t = let k = first-counts s.net f in
    ap (λ n. bound n (length (units s.net)) (links_of_sort s.net Init) (links_of_sort s.net Crossbar) (links_of_sort s.net Cable) s.count s.retries (frame_count s) sweeps) k.devices
    ∙ ap (λ n. bound 1 n (links_of_sort s.net Init) (links_of_sort s.net Crossbar) (links_of_sort s.net Cable) s.count s.retries (frame_count s) sweeps) k.units_in
    ∙ ap (λ n. bound 1 4 n (links_of_sort s.net Crossbar) (links_of_sort s.net Cable) s.count s.retries (frame_count s) sweeps) k.inits
    ∙ ap (λ n. bound 1 4 2 n (links_of_sort s.net Cable) s.count s.retries (frame_count s) sweeps) k.crossbars
    ∙ ap (λ n. bound 1 4 2 4 n s.count s.retries (frame_count s) sweeps) k.cables
    ∙ ap (λ n. bound 1 4 2 4 0 n s.retries (frame_count s) sweeps) c
    ∙ ap (λ n. bound 1 4 2 4 0 1 n (frame_count s) sweeps) t
    ∙ first-numbers (frame_count s) sweeps
