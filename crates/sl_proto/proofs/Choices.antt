-- Passes, sweeps and the resend entry are choices of a net.
use Rattle.std.proofs.Common.{◌≡◌, ℕ, suc, ◌+◌, ◌<◌, List, [], ◌∷◌, ◌++◌, length, refl, sym, ap, subst, arith, zero-add}
use Rattle.std.specs.Prelude.{Bool, true, false, flat_map, slice_index}
use Rattle.std.specs.List.{All}
use Rattle.std.proofs.lemmas.List.{get_or-map}
use Rattle.std.proofs.lemmas.List.FromFn.{get_or-map-range_with_len, length-map-range_with_len}
use Rattle.sl_machine.specs.Plan.{HasChoice}
use Rattle.sl_layout.specs.declared.actor.ActorId.{ActorId}
use Rattle.sl_layout.specs.declared.actor.ActorId.TheVariants.{Observer, Control, Unit as OfUnit, Host as OfHost}
use Rattle.sl_parts.specs.Parts.{Parts, below}
use Rattle.sl_layout.specs.Net.{Net, net_of, nobody, actors_of, actor_of, links_into}
use Rattle.sl_layout.specs.Wiring.{plan_of, actions_of}
use Rattle.sl_parts.specs.Lists.{Each}
use Rattle.sl_parts.proofs.Lists.{all-from_each, each-append, each-map, each-flat, each-below, flat_map_below_more}
use Rattle.sl_model.specs.World.{Entry}
use Rattle.sl_model.specs.Schedule.{of_actors, link_entries, first_action, pass_actions, pass_of, sweep_of, sweeps, resend_entry, passes_of}

abbrev IsChoice : Net → Entry → Type 0
IsChoice net e = HasChoice (plan_of net) e.0 e.1

pub choice-of : (net : Net) (a c : ℕ) → a < length net.actors → c < length (links_into net a) + actions_of (actor_of net a) → HasChoice (plan_of net) a c
choice-of net a c low few =
    let each : length (plan_of net).ins ≡ length net.actors = length-map-range_with_len (λ a. length (links_into net a)) 0 (length net.actors) in
    let ins : slice_index (plan_of net).ins a ≡ length (links_into net a) = get_or-map-range_with_len (λ a. length (links_into net a)) 0 (length net.actors) a _ 0 low (zero-add a) in
    let actions : slice_index (plan_of net).actions a ≡ actions_of (actor_of net a) = get_or-map actions_of net.actors a nobody 0 low in
    record { actor_below = omega (arith, each, low); choice_below = omega (arith, ins, actions, few) }

-- an own action
own : (net : Net) (a k : ℕ) (y : ActorId) → a < length net.actors → actor_of net a ≡ y → k < actions_of y → HasChoice (plan_of net) a (k + length (links_into net a))
own net a k y low is few = let n : actions_of (actor_of net a) ≡ actions_of y = ap actions_of is in choice-of net a (k + length (links_into net a)) low (omega (arith, n, few))

own-first : (net : Net) (a : ℕ) (y : ActorId) → a < length net.actors → actor_of net a ≡ y → 0 < actions_of y → Each (IsChoice net) (first_action net a)
own-first net a y low is few = let z : 0 + length (links_into net a) ≡ length (links_into net a) = omega arith in (subst (HasChoice (plan_of net) a) z (own net a 0 y low is few), tt)

by-links : (net : Net) (a : ℕ) → a < length net.actors → Each (IsChoice net) (link_entries net a)
by-links net a low = each-map (IsChoice net) (λ c. (a, c)) _ (each-below (λ c. HasChoice (plan_of net) a c) (length (links_into net a)) (λ c p. choice-of net a c low (omega (arith, p))))

by-actions : (net : Net) (settling : Bool) (a : ℕ) (y : ActorId) → a < length net.actors → actor_of net a ≡ y → Each (IsChoice net) (pass_actions net settling a y)
by-actions net true a Observer low is = own-first net a Observer low is (omega arith)
by-actions net false a Observer low is = tt
by-actions net settling a (Control d) low is = tt
by-actions net settling a (OfUnit u) low is = tt
by-actions net settling a (OfHost h) low is = own-first net a (OfHost h) low is (omega arith)

by-sweep : (net : Net) (a : ℕ) (y : ActorId) → a < length net.actors → actor_of net a ≡ y → Each (IsChoice net) (sweep_of net a y)
by-sweep net a Observer low is = tt
by-sweep net a (Control d) low is = own-first net a (Control d) low is (omega arith)
by-sweep net a (OfUnit u) low is = tt
by-sweep net a (OfHost h) low is = tt

by-actors : (net : Net) (f : ℕ → ActorId → List Entry) → ((a : ℕ) → a < length net.actors → Each (IsChoice net) (f a (actor_of net a))) → All (IsChoice net) (of_actors net f)
by-actors net f each = all-from_each (IsChoice net) (of_actors net f) (each-flat (IsChoice net) (λ a. f a (actor_of net a)) _ (each-below (λ a. Each (IsChoice net) (f a (actor_of net a))) (length net.actors) each))

pub pass-choices : (net : Net) (settling : Bool) → All (λ e. HasChoice (plan_of net) e.0 e.1) (pass_of net settling)
pass-choices net settling = by-actors net (λ a actor. link_entries net a ++ pass_actions net settling a actor)
    (λ a low. each-append (IsChoice net) (link_entries net a) (pass_actions net settling a (actor_of net a)) (by-links net a low) (by-actions net settling a (actor_of net a) low refl))

pub sweep-choices : (net : Net) → All (λ e. HasChoice (plan_of net) e.0 e.1) (sweeps net)
sweep-choices net = by-actors net (sweep_of net) (λ a low. by-sweep net a (actor_of net a) low refl)

pub resend-choice : (net : Net) → 0 < length net.actors → actor_of net 0 ≡ Observer → All (λ e. HasChoice (plan_of net) e.0 e.1) (resend_entry net ∷ [])
resend-choice net low is = let z : 1 + length (links_into net 0) ≡ suc (length (links_into net 0)) = omega arith in
    all-from_each (IsChoice net) (resend_entry net ∷ []) (subst (HasChoice (plan_of net) 0) z (own net 0 1 Observer low is (omega arith)), tt)

pub has-actors : (net : Net) → net ≡ net_of net.parts → 0 < length net.actors
has-actors net made = subst (λ (n : Net). 0 < length n.actors) (sym made) (has-some net.parts)
  where
    has-some : (parts : Parts) → 0 < length (actors_of parts)
    has-some parts = omega arith

-- One actor more, one pass more.

pub actors-next : (net : Net) (f : ℕ → ActorId → List Entry) (n : ℕ) → flat_map (λ a. f a (actor_of net a)) (below (n + 1)) ≡ flat_map (λ a. f a (actor_of net a)) (below n) ++ f n (actor_of net n)
actors-next net f n = flat_map_below_more (λ a. f a (actor_of net a)) n

pub passes-next : (es : List Entry) (n : ℕ) → passes_of es (n + 1) ≡ passes_of es n ++ es
passes-next es n = flat_map_below_more (λ i. es) n
