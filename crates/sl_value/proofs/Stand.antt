-- The world of nodes that keep values stands for histories.
use Rattle.std.proofs.Common.{◌≡◌, ℕ, List, [], ◌∷◌, length, map, refl, sym, ap, subst, ◌∙◌, Some, arith, zero-add}
use Rattle.std.specs.Prelude.{slice_get, option_map}
use Rattle.std.proofs.lemmas.Option.{get_or_from_slice_get, slice_get-map, slice_get_within}
use Rattle.std.proofs.lemmas.List.FromFn.{get_or-map-range_with_len, length-map-range_with_len}
use Rattle.std.specs.List.{range_with_len}
use Rattle.sl_parts.specs.Parts.{below}
use Rattle.sl_layout.specs.declared.actor.ActorId.{ActorId}
use Rattle.sl_layout.specs.declared.actor.ActorId.TheVariants.{Observer, Control, Unit as OfUnit, Host as OfHost}
use Rattle.sl_layout.specs.Net.{Net, actor_of, unit_place}
use Rattle.sl_layout.specs.Serving.{ServedUnit, served}
use Rattle.sl_net.specs.Input.{Input}
use Rattle.sl_unit.specs.Made.{IsRanged}
use Rattle.sl_wire.specs.declared.message.Msg.{Msg}
use Rattle.sl_wire.specs.Sizes.{sizes_of}
use Rattle.sl_model.specs.History.{History, history, first}
use Rattle.sl_model.specs.Losses.{losses}
use Rattle.sl_model.specs.Setup.{setup_of}
use Rattle.sl_model.specs.Knowledge.{upto_of, dumped, told_of}
use Rattle.sl_model.specs.World.{start}
use Rattle.sl_model.specs.Turns.{TakesTurns}
use Rattle.sl_world.specs.Scene.{Scene}
use Rattle.sl_proto.specs.Built.{first_node, first_at, first_states}
use Rattle.sl_proto.specs.Machines.{FollowHistories, Begun}
use Rattle.sl_proto.specs.Meaning.{NodeStands}
use Rattle.sl_proto.specs.Nodes.{NodeState}
use Rattle.sl_value.specs.Counted.{counted}
use Rattle.sl_value.specs.Valued.{no_values, first_value}
use Rattle.sl_value.specs.Nodes.{ValueNodeState, value_node_rules, first_values, plain}
use Rattle.sl_value.specs.Standing.{values_told, kept_told, KeepsValues, ValueStands}
use Rattle.sl_value.specs.Run.{IsValueRun}
use Rattle.sl_value.proofs.Plain.{first-states-plain}
use Rattle.sl_value.proofs.Told.{upto-id}

-- At the start nothing was told.

first-none : (n : ℕ) (h : History) → h ≡ [] → first n h ≡ []
first-none n [] e = refl
first-none n (s ∷ h) e = absurd (cc)

none-told : (net : Net) (u : ℕ) (g : History) → g ≡ [] → values_told net u g ≡ []
none-told net u [] e = let z : upto_of net u [] ≡ 0 = omega (arith, upto-id net u []) in ap (λ n. map (λ k. counted k []) (range_with_len 1 n)) z
none-told net u (s ∷ g) e = absurd (cc)

start-kept : TakesTurns → (net : Net) (a : ℕ) (vs : List ServedUnit) → map (λ v. no_values (unit_place net v.unit)) vs ≡ map (kept_told net (history (start net)) a) vs
start-kept turns net a [] = refl
start-kept turns net a (v ∷ vs) =
    let x = none-told net v.unit (told_of (history (start net)) v (history (start net) a)) (first-none (dumped v.dump (history (start net) a)) (history (start net) v.unit) (turns.starts net v.unit)) in
    let y = start-kept turns net a vs in λ i. record { unit = unit_place net v.unit; values = sym x i } ∷ y i

-- the first state of an actor
pub first-is : (i : Input) (a : ℕ) (state : ValueNodeState) → slice_get (first_values i) a ≡ Some state → first_at first_value i a ≡ state
first-is i a state here =
    let n = slice_get_within (first_values i) a state here in
    let m = length-map-range_with_len (first_at first_value i) 0 (length i.net.actors) in
    sym (get_or-map-range_with_len (first_at first_value i) 0 (length i.net.actors) a _ state (omega (arith, n, m)) (zero-add a)) ∙ get_or_from_slice_get (first_values i) a state state here

pub first-keeps : TakesTurns → (i : Input) (a : ℕ) (x : ActorId) → KeepsValues i.net (start i.net) a (first_node first_value i a x)
first-keeps turns i a Observer = tt
first-keeps turns i a (Control d) = start-kept turns i.net a (served i.net a)
first-keeps turns i a (OfUnit u) = tt
first-keeps turns i a (OfHost h) = tt

abbrev pub Starts : Type 0
Starts = (i : Input) (a : ℕ) (state : NodeState) → IsRanged i.snapshot → slice_get (first_states i) a ≡ Some state → NodeStands (setup_of i) i.snapshot (start i.net) a state

abbrev pub begun : TakesTurns → (i : Input) (v : Scene ValueNodeState Msg) → IsValueRun i v → IsRanged i.snapshot → Starts
    → FollowHistories (setup_of i) (losses i) (sizes_of i.snapshot) (ValueStands (setup_of i) i.snapshot) value_node_rules → Begun (ValueStands (setup_of i) i.snapshot)
begun turns i v r ranged starts follow = record {
  setup = setup_of i;
  lost = losses i;
  sizes = sizes_of i.snapshot;
  rules = value_node_rules;
  states = first_values i;
  losses = r.losses_are;
  follow = follow;
  first = record {
    states_each = length-map-range_with_len (first_at first_value i) 0 (length i.net.actors);
    states_stand = λ a state e. record {
      node = starts i a (plain state) ranged (ap (λ ss. slice_get ss a) (sym (first-states-plain i (below (length i.net.actors)))) ∙ slice_get-map plain (first_values i) a ∙ ap (option_map plain) e);
      values = subst (KeepsValues i.net (start i.net) a) (first-is i a state e) (first-keeps turns i a (actor_of i.net a));
    };
    losses_each = r.new.each;
    losses_go = r.new.go;
  };
}
