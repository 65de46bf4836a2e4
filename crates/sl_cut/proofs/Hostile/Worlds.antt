-- A run with bad frames blanked makes the same turns.
use Rattle.std.proofs.Common.{◌≡◌, ℕ, ◌-◌, List, [], ◌∷◌, refl, sym, ap, ◌∙◌, Option, Some, None}
use Rattle.std.specs.Prelude.{cond, map, unwrap_or, option_map, option_and_then, is_some, slice_get, slice_set}
use Rattle.std.proofs.Math.ListN.{get_or-map}
use Rattle.std.proofs.lemmas.List.{map-set}
use Rattle.std.proofs.lemmas.Option.{slice_get-map}
use Rattle.sl_layout.specs.declared.actor.ActorId.{ActorId}
use Rattle.sl_layout.specs.declared.actor.ActorId.TheVariants.{Observer}
use Rattle.sl_layout.specs.Net.{Net, links_into, link_of, choice_of, action_choice, unit_place, units}
use Rattle.sl_route.specs.Least.{least}
use Rattle.sl_model.specs.declared.message.Message.{Message}
use Rattle.sl_model.specs.declared.message.Put.{Put}
use Rattle.sl_model.specs.declared.message.Step.{Step}
use Rattle.sl_model.specs.History.{History, World, Losses, history, first, taken, carried_by}
use Rattle.sl_model.specs.Setup.{Setup}
use Rattle.sl_model.specs.Puts.{puts_of, action}
use Rattle.sl_model.specs.Knowledge.{observer, known, floor_of, collected, unit_floor, issued, floor}
use Rattle.sl_model.specs.World.{Entry, start, sender, receiver, carried, taken_by, front, taking, acting, floor_for, step_by, next_step, after, turn, run, world, kept_from}
use Rattle.sl_cut.specs.Hostile.{blank_message, blank_put, blank_step, blank_history, blank_world}
use Rattle.sl_cut.proofs.Hostile.Frames.{blank_setup}
use Rattle.sl_cut.proofs.Hostile.Told.{known-blank, carried-blank, blank-keeps}
use Rattle.sl_cut.proofs.Hostile.Kept.{first-kept, floor-kept, taken-kept}
use Rattle.sl_cut.proofs.Hostile.Puts.{puts-blank, action-blank}

pub history-blank : (w : World) (a : ℕ) → history (blank_world w) a ≡ blank_history (history w a)
history-blank w a = get_or-map blank_history w a []

-- what is told of a history alike, of the history of an actor
pub of_actor : {A : Type 0} (f : History → A) → ((h : History) → f (blank_history h) ≡ f h) → (w : World) (a : ℕ) → f (history (blank_world w) a) ≡ f (history w a)
of_actor f e w a = ap f (history-blank w a) ∙ e (history w a)

-- The floor.

pub issued-blank : (net : Net) (w : World) → issued net (observer (blank_world w)) ≡ issued net (observer w)
issued-blank net w = of_actor (issued net) (taken-kept blank_step blank-keeps (action_choice net 0)) w 0

collected-blank : (net : Net) (w : World) (u : ℕ) → collected net (blank_world w) u ≡ blank_history (collected net w u)
collected-blank net w u = (λ i. first (of_actor (known (unit_place net u)) (known-blank (unit_place net u)) w 0 i) (history-blank w u i))
    ∙ first-kept blank_step (known (unit_place net u) (observer w)) (history w u)

pub unit_floor-blank : (net : Net) (w : World) (u : ℕ) → unit_floor net (blank_world w) u ≡ unit_floor net w u
unit_floor-blank net w u = ap (floor_of net u) (collected-blank net w u) ∙ floor-kept blank_step blank-keeps net u (collected net w u)

pub floor-same : (net : Net) (w : World) → floor net (blank_world w) ≡ floor net w
floor-same net w = λ i. unwrap_or (least (map (λ u. unit_floor-blank net w u i) (units net))) (issued-blank net w i)

-- Links.

pub all-carried : (net : Net) (lost : Losses) (w : World) (l : ℕ) → carried net lost (blank_world w) l ≡ map blank_message (carried net lost w l)
all-carried net lost w l = ap (λ h. carried_by lost l h) (history-blank w (link_of net l).from) ∙ carried-blank lost l (sender net w l)

pub all-taken : (net : Net) (w : World) (l : ℕ) → taken_by net l (receiver net (blank_world w) l) ≡ taken_by net l (receiver net w l)
all-taken net w l = of_actor (taken (choice_of net l)) (taken-kept blank_step blank-keeps (choice_of net l)) w (link_of net l).to

front-blank : (net : Net) (lost : Losses) (w : World) (a c l : ℕ) → front net lost (blank_world w) a c l ≡ option_map blank_message (front net lost w a c l)
front-blank net lost w a c l = (λ i. slice_get (all-carried net lost w l i) (of_actor (taken c) (taken-kept blank_step blank-keeps c) w a i))
    ∙ slice_get-map blank_message (carried net lost w l) (taken c (history w a))

-- Steps.

floor_for-blank : (net : Net) (w : World) (actor : ActorId) → floor_for net (blank_world w) actor ≡ floor_for net w actor
floor_for-blank net w Observer = floor-same net w
floor_for-blank net w _ = refl

take-blank : (c : ℕ) (f g : Message → List Put) → ((m : Message) → g (blank_message m) ≡ map blank_put (f m)) → (o : Option Message)
    → option_map (λ m. taking c m (g m)) (option_map blank_message o) ≡ option_map blank_step (option_map (λ m. taking c m (f m)) o)
take-blank c f g e None = refl
take-blank c f g e (Some m) = ap (λ ps. Some (taking c (blank_message m) ps)) (e m)

act-blank : (c : ℕ) (o : Option (List Put)) → option_map (acting c) (option_map (map blank_put) o) ≡ option_map blank_step (option_map (acting c) o)
act-blank c None = refl
act-blank c (Some ps) = refl

step_by-blank : (s : Setup) (lost : Losses) (w : World) (a c : ℕ) (l : Option ℕ) (actor : ActorId)
    → step_by (blank_setup s) lost (blank_world w) a c l actor ≡ option_map blank_step (step_by s lost w a c l actor)
step_by-blank s lost w a c (Some l) actor =
    (λ i. option_map (λ m. taking c m (puts_of (blank_setup s) a actor (history-blank w a i) c l m)) (front-blank s.net lost w a c l i))
    ∙ take-blank c (puts_of s a actor (history w a) c l) (puts_of (blank_setup s) a actor (blank_history (history w a)) c l) (puts-blank s a actor (history w a) c l) (front s.net lost w a c l)
step_by-blank s lost w a c None actor = let n = c - action_choice s.net a in
    (λ i. option_map (acting c) (action (blank_setup s) (floor_for-blank s.net w actor i) a actor (history-blank w a i) n))
    ∙ ap (option_map (acting c)) (action-blank s (floor_for s.net w actor) a actor (history w a) n)
    ∙ act-blank c (action s (floor_for s.net w actor) a actor (history w a) n)

pub next-blank : (s : Setup) (lost : Losses) (w : World) (e : Entry) → next_step (blank_setup s) lost (blank_world w) e ≡ option_map blank_step (next_step s lost w e)
next-blank s lost w e = by_actor (slice_get s.net.actors e.0)
  where
    by_actor : (o : Option ActorId) → option_and_then (step_by (blank_setup s) lost (blank_world w) e.0 e.1 (slice_get (links_into s.net e.0) e.1)) o
        ≡ option_map blank_step (option_and_then (step_by s lost w e.0 e.1 (slice_get (links_into s.net e.0) e.1)) o)
    by_actor None = refl
    by_actor (Some actor) = step_by-blank s lost w e.0 e.1 (slice_get (links_into s.net e.0) e.1) actor

some-map : {A B : Type 0} (f : A → B) (o : Option A) → is_some (option_map f o) ≡ is_some o
some-map f None = refl
some-map f (Some x) = refl

pub idle-same : (s : Setup) (lost : Losses) (w : World) (e : Entry) → is_some (next_step (blank_setup s) lost (blank_world w) e) ≡ is_some (next_step s lost w e)
idle-same s lost w e = ap is_some (next-blank s lost w e) ∙ some-map blank_step (next_step s lost w e)

-- Turns.

after-blank : (w : World) (a : ℕ) (o : Option Step) → after (blank_world w) a (option_map blank_step o) ≡ blank_world (after w a o)
after-blank w a None = refl
after-blank w a (Some step) = ap (λ h. slice_set (blank_world w) a (blank_step step ∷ h)) (history-blank w a) ∙ sym (map-set blank_history w a (step ∷ history w a))

pub turn-blank : (s : Setup) (lost : Losses) (w : World) (e : Entry) → turn (blank_setup s) lost (blank_world w) e ≡ blank_world (turn s lost w e)
turn-blank s lost w e = ap (after (blank_world w) e.0) (next-blank s lost w e) ∙ after-blank w e.0 (next_step s lost w e)

pub run-blank : (s : Setup) (lost : Losses) (w : World) (es : List Entry) → run (blank_setup s) lost (blank_world w) es ≡ blank_world (run s lost w es)
run-blank s lost w [] = refl
run-blank s lost w (e ∷ es) = ap (λ v. run (blank_setup s) lost v es) (turn-blank s lost w e) ∙ run-blank s lost (turn s lost w e) es

pub start-blank : (net : Net) → blank_world (start net) ≡ start net
start-blank net = each net.actors
  where
    each : (actors : List ActorId) → blank_world (map (λ a. []) actors) ≡ map (λ a. []) actors
    each [] = refl
    each (a ∷ actors) = ap (λ w. [] ∷ w) (each actors)

pub world-blank : (s : Setup) (lost : Losses) (es : List Entry) → world (blank_setup s) lost es ≡ blank_world (world s lost es)
world-blank s lost es = ap (λ v. run (blank_setup s) lost v es) (sym (start-blank s.net)) ∙ run-blank s lost (start s.net) es

-- Idle entries.

pub kept-blank : (s : Setup) (lost : Losses) (w : World) (es : List Entry) → kept_from (blank_setup s) lost (blank_world w) es ≡ kept_from s lost w es
kept-blank s lost w [] = refl
kept-blank s lost w (e ∷ es) =
    let after_it = ap (λ v. kept_from (blank_setup s) lost v es) (turn-blank s lost w e) ∙ kept-blank s lost (turn s lost w e) es in
    λ i. cond (idle-same s lost w e i) (e ∷ after_it i) (kept-blank s lost w es i)
