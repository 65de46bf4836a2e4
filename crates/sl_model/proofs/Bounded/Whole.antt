-- The turns of a whole run.
use Rattle.std.proofs.Common.{◌*◌, ◌+◌, ◌++◌, ◌-◌, List, length, refl, subst, suc, sym, ℕ, ◌≡◌, ◌≤◌, arith, []}
use Rattle.sl_layout.specs.Net.{Net, actor_of, link_of}
use Rattle.sl_parts.specs.Parts.{below}
use Rattle.sl_layout.specs.Serving.{served}
use Rattle.sl_layout.specs.declared.actor.ActorId.{ActorId}
use Rattle.sl_layout.specs.declared.actor.ActorId.TheVariants.{Control, Observer, Host as OfHost, Unit as OfUnit}
use Rattle.sl_model.specs.End.{IsFin}
use Rattle.sl_model.specs.History.{Losses, history, last}
use Rattle.sl_model.specs.Setup.{Setup, frames_of}
use Rattle.sl_model.specs.Window.{on_way}
use Rattle.sl_model.specs.Words.{weigh}
use Rattle.sl_model.specs.World.{Entry, IsLegal, start, world}
use Rattle.sl_model.specs.Flight.{Weight, flight}
use Rattle.sl_model.specs.Potential.{again_credit, allowed, channels, credit, frame_price, potential, price, round_price}
use Rattle.sl_model.proofs.Worlds.Legal.{fin_legal, legal_append}
use Rattle.sl_model.proofs.Worlds.Turns.{start-empty}
use Rattle.sl_model.proofs.Finishing.NetWiring.{Wiring}
use Rattle.sl_model.proofs.Worlds.ReachedWorlds.{Reached, reached-start}
use Rattle.sl_model.proofs.Finishing.Finished.{finish-adds, left, mul-le, sweep_gain}
use Rattle.sl_model.proofs.Lists.Weighed.{weigh-append, weigh-at-most, weigh-each, weigh-nothing}
use Rattle.sl_model.proofs.Bounded.TurnPays.{potential-run}

-- what each actor may start in all
abbrev pub start_credit : Setup → ℕ → ActorId → ℕ
start_credit s a Observer = (s.count + s.retries) * round_price s.net
start_credit s a (Control d) = 0
start_credit s a (OfUnit i) = 4 * s.count * length (channels s.net a)
start_credit s a (OfHost x) = weigh (frame_price s.net a) (frames_of s x)

abbrev pub start_potential : Setup → ℕ
start_potential s = weigh (λ a. start_credit s a (actor_of s.net a)) (below (length s.net.actors))

mul-same : (a b r : ℕ) → a ≡ b → a * r ≤ b * r
mul-same a b r e = subst (λ b. a * r ≤ b * r) e (omega arith)

credit-start : (s : Setup) (a : ℕ) (i : ActorId) → credit s a i [] ≤ start_credit s a i
credit-start s a Observer = let e : (s.count - 0) + (s.retries - 0) ≡ s.count + s.retries = omega arith in mul-same ((s.count - 0) + (s.retries - 0)) (s.count + s.retries) (round_price s.net) e
credit-start s a (Control d) = weigh-nothing (again_credit s.net a []) (served s.net a) (λ v. omega arith)
credit-start s a (OfUnit i) = let z : (c : ℕ) → 4 * (s.count - last c []) ≤ 4 * s.count = λ c. omega arith in weigh-each (λ c. 4 * (s.count - last c [])) (4 * s.count) (channels s.net a) z
credit-start s a (OfHost x) = omega arith

no-flight : (weight : Weight) (net : Net) (lost : Losses) → flight weight net lost (start net) ≤ 0
no-flight weight net lost = weigh-nothing (λ l. weigh (weight l) (on_way net lost (start net) l)) (below (length net.links)) on
  where
    on : (l : ℕ) → weigh (weight l) (on_way net lost (start net) l) ≤ 0
    on l = rw (start-empty net (link_of net l).from, start-empty net (link_of net l).to) (omega arith)

pub potential-start : (s : Setup) (lost : Losses) → potential s lost (start s.net) ≤ start_potential s
potential-start s lost = let a = no-flight (price s.net) s.net lost in
    let b : weigh (λ a. credit s a (actor_of s.net a) (history (start s.net) a)) (below (length s.net.actors)) ≤ start_potential s
    = weigh-at-most (λ a. credit s a (actor_of s.net a) (history (start s.net) a)) (λ a. start_credit s a (actor_of s.net a)) (below (length s.net.actors))
    (λ a. subst (λ h. credit s a (actor_of s.net a) h ≤ start_credit s a (actor_of s.net a)) (sym (start-empty s.net a)) (credit-start s a (actor_of s.net a))) in
    omega (arith, a, b)

-- A legal book, then what finishing takes.
pub whole-run : (s : Setup) (lost : Losses) → Wiring s.net → (book es : List Entry) → IsLegal s lost book → IsFin s lost (world s lost book) es
    → length (book ++ es) ≤ start_potential s + weigh (allowed s.net) book + (2 * s.count + s.retries + 1) * sweep_gain s.net
whole-run s lost g book es legal fin = let w = world s lost book in let r : Reached s lost w = (book, refl) in
    let k = finish-adds s lost g fin.fuel w r es fin.finished in
    let x = potential-run s lost g (start s.net) (reached-start s lost) (book ++ es) (legal_append s lost (start s.net) book es legal (fin_legal fin.fuel s lost w es fin.finished)) in
    let y = potential-start s lost in
    let z = weigh-append (allowed s.net) book es in
    let l : suc (left s w) ≤ 2 * s.count + s.retries + 1 = omega arith in
    let m : suc (left s w) * sweep_gain s.net ≤ (2 * s.count + s.retries + 1) * sweep_gain s.net = mul-le (suc (left s w)) (2 * s.count + s.retries + 1) (sweep_gain s.net) l in
    omega (arith, x, y, z, m, k)
