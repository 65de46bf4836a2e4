-- Trusted text.
-- Schedules that the program takes: passes, sweeps, and the expansion of a script.
use Rattle.std.specs.Prelude.{ℕ, suc, Bool, true, false, List, [], ◌∷◌, ◌++◌, map, flat_map, length, if◌then◌else◌}
use Rattle.sl_layout.specs.declared.actor.ActorId.{ActorId}
use Rattle.sl_layout.specs.declared.actor.ActorId.TheVariants.{Observer, Control, Host as OfHost}
use Rattle.sl_net.specs.declared.input.Script1.{Script1}
use Rattle.sl_net.specs.declared.input.Script1.TheVariants.{Pass, Choice}
use Rattle.sl_parts.specs.Parts.{below}
use Rattle.sl_layout.specs.Net.{Net, actor_of, links_into, action_choice}
use Rattle.sl_model.specs.World.{Entry}

-- the entries of all actors in order, where f gives those of one
abbrev pub of_actors : Net → (ℕ → ActorId → List Entry) → List Entry
of_actors net f = flat_map (λ a. f a (actor_of net a)) (below (length net.actors))

-- each link of an actor in order
abbrev pub link_entries : Net → ℕ → List Entry
link_entries net a = map (λ c. (a, c)) (below (length (links_into net a)))

-- its first own action
abbrev pub first_action : Net → ℕ → List Entry
first_action net a = (a, action_choice net a) ∷ []

-- the own actions in a pass: inject, and in a settling pass issue
abbrev pub pass_actions : Net → Bool → ℕ → ActorId → List Entry
pass_actions net settling a (OfHost h) = first_action net a
pass_actions net settling a Observer = if settling then first_action net a else []
pass_actions net settling a _ = []

abbrev pub pass_of : Net → Bool → List Entry
pass_of net settling = of_actors net (λ a actor. link_entries net a ++ pass_actions net settling a actor)

-- each link of each actor in order, and for a host then inject
abbrev pub pass : Net → List Entry
pass net = pass_of net false

-- a pass with issue after the links of the observer
abbrev pub settling_pass : Net → List Entry
settling_pass net = pass_of net true

abbrev pub sweep_of : Net → ℕ → ActorId → List Entry
sweep_of net a (Control d) = first_action net a
sweep_of net a _ = []

-- sweep at each control plane in order
abbrev pub sweeps : Net → List Entry
sweeps net = of_actors net (sweep_of net)

abbrev pub resend_entry : Net → Entry
resend_entry net = (0, suc (action_choice net 0))

-- A script: so many passes, or one choice.

abbrev pub passes_of : List Entry → ℕ → List Entry
passes_of es n = flat_map (λ i. es) (below n)

abbrev pub expand_one : Net → Script1 → List Entry
expand_one net (Pass n) = passes_of (pass net) n
expand_one net (Choice actor choice) = (actor, choice) ∷ []

abbrev pub expand : Net → List Script1 → List Entry
expand net script = flat_map (expand_one net) script
