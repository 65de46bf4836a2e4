-- A scene of nodes that keep values takes the turns of the scene without the values.
use Rattle.std.proofs.Common.{◌≡◌, ℕ, ◌+◌, List, [], ◌∷◌, length, map, refl, sym, ap, ◌∙◌, Option, Some, None}
use Rattle.std.specs.Prelude.{Bool, true, false, cond, if◌then◌else◌, nat_lt, slice_get, slice_set, option_map, unwrap_or}
use Rattle.std.proofs.lemmas.List.{map-set}
use Rattle.std.proofs.lemmas.Option.{slice_get-map}
use Rattle.sl_machine.specs.Machine.{After}
use Rattle.sl_machine.specs.Plan.{link_in}
use Rattle.sl_layout.specs.declared.actor.ActorId.{ActorId}
use Rattle.sl_layout.specs.declared.actor.ActorId.TheVariants.{Observer, Control, Unit as OfUnit, Host as OfHost}
use Rattle.sl_layout.specs.Net.{actor_of}
use Rattle.sl_net.specs.Input.{Input}
use Rattle.sl_wire.specs.declared.message.Msg.{Msg}
use Rattle.sl_observe.specs.Observer.{observer_rules, observer_counts}
use Rattle.sl_control.specs.Control.{ControlState, control_act}
use Rattle.sl_control.specs.Wires.{first_control}
use Rattle.sl_unit.specs.Step.{unit_rules}
use Rattle.sl_host.specs.Host.{host_rules, host_counts}
use Rattle.sl_world.specs.Scene.{Line, Scene, done, without_first, take_first, take_turn, act_turn, turn_of, after_turn, after_all}
use Rattle.sl_proto.specs.Built.{first_node, first_at}
use Rattle.sl_proto.specs.Nodes.{ObserverNode, ControlNode, UnitNode, HostNode, as_node, node_rules}
use Rattle.sl_value.specs.Valued.{first_value, with_kept}
use Rattle.sl_value.specs.Nodes.{ValueNodeState, value_node_rules, plain, plain_scene}

pub take-plain : (s : ValueNodeState) (c : ℕ) (m : Msg) → node_rules.take (plain s) c m ≡ as_node plain (value_node_rules.take s c m)
take-plain (ObserverNode s) c m = refl
take-plain (ControlNode s) c m = refl
take-plain (UnitNode s) c m = refl
take-plain (HostNode s) c m = refl

-- an action of a machine that keeps no values, where it is one of it
acts-plain : {S : Type 0} (wrap : S → ValueNodeState) (b : Bool) (o : Option (After S Msg))
    → (if b then option_map (as_node (λ s. plain (wrap s))) o else None) ≡ option_map (as_node plain) (if b then option_map (as_node wrap) o else None)
acts-plain wrap true None = refl
acts-plain wrap true (Some a) = refl
acts-plain wrap false o = refl

pub act-plain : (s : ValueNodeState) (c : ℕ) → node_rules.act (plain s) c ≡ option_map (as_node plain) (value_node_rules.act s c)
act-plain (ObserverNode s) c = acts-plain ObserverNode (nat_lt c ((observer_counts s).ins + (observer_counts s).actions)) (observer_rules.act s c)
act-plain (UnitNode s) c = acts-plain UnitNode true (unit_rules.act s c)
act-plain (HostNode s) c = acts-plain HostNode (nat_lt c (host_counts.ins + host_counts.actions)) (host_rules.act s c)
act-plain (ControlNode s) c = by_act (control_act s.control c)
  where
    by_act : (o : Option (After ControlState Msg)) → option_map (as_node ControlNode) o ≡ option_map (as_node plain) (option_map (as_node ControlNode) (option_map (with_kept s.kept) o))
    by_act None = refl
    by_act (Some a) = refl

done-plain : (w : Scene ValueNodeState Msg) (actor choice : ℕ) (lines : List (Line Msg)) (a : After ValueNodeState Msg) → done (plain_scene w) actor choice lines (as_node plain a) ≡ plain_scene (done w actor choice lines a)
done-plain w actor choice lines a = ap (λ ss. record (plain_scene (done w actor choice lines a)) { states = ss }) (sym (map-set plain w.states actor a.state))

first-plain : (w : Scene ValueNodeState Msg) (actor choice link : ℕ) (s : ValueNodeState) (line : Line Msg) (queue : List Msg)
    → take_first node_rules (plain_scene w) actor choice link (plain s) line queue ≡ option_map plain_scene (take_first value_node_rules w actor choice link s line queue)
first-plain w actor choice link s line [] = refl
first-plain w actor choice link s line (m ∷ rest) = ap Some (ap (done (plain_scene w) actor choice (slice_set w.lines link (without_first line rest))) (take-plain s choice m)
    ∙ done-plain w actor choice (slice_set w.lines link (without_first line rest)) (value_node_rules.take s choice m))

turned-plain : (w : Scene ValueNodeState Msg) (actor choice link : ℕ) (o : Option ValueNodeState) (line : Option (Line Msg))
    → take_turn node_rules (plain_scene w) actor choice link (option_map plain o) line ≡ option_map plain_scene (take_turn value_node_rules w actor choice link o line)
turned-plain w actor choice link None line = refl
turned-plain w actor choice link (Some s) None = refl
turned-plain w actor choice link (Some s) (Some line) = first-plain w actor choice link s line line.queue

acted-plain : (w : Scene ValueNodeState Msg) (actor choice : ℕ) (o : Option ValueNodeState) → act_turn node_rules (plain_scene w) actor choice (option_map plain o) ≡ option_map plain_scene (act_turn value_node_rules w actor choice o)
acted-plain w actor choice None = refl
acted-plain w actor choice (Some s) = ap (option_map (done (plain_scene w) actor choice w.lines)) (act-plain s choice) ∙ by_act (value_node_rules.act s choice)
  where
    by_act : (o : Option (After ValueNodeState Msg)) → option_map (done (plain_scene w) actor choice w.lines) (option_map (as_node plain) o) ≡ option_map plain_scene (option_map (done w actor choice w.lines) o)
    by_act None = refl
    by_act (Some a) = ap Some (done-plain w actor choice w.lines a)

pub turn-plain : (w : Scene ValueNodeState Msg) (actor choice : ℕ) → turn_of node_rules (plain_scene w) actor choice ≡ option_map plain_scene (turn_of value_node_rules w actor choice)
turn-plain w actor choice = by_link (nat_lt (link_in w.plan.links actor choice) (length w.plan.links))
  where
    link : ℕ
    link = link_in w.plan.links actor choice

    by_link : (b : Bool) → cond b (take_turn node_rules (plain_scene w) actor choice link (slice_get (map plain w.states) actor) (slice_get w.lines link)) (act_turn node_rules (plain_scene w) actor choice (slice_get (map plain w.states) actor))
        ≡ option_map plain_scene (cond b (take_turn value_node_rules w actor choice link (slice_get w.states actor) (slice_get w.lines link)) (act_turn value_node_rules w actor choice (slice_get w.states actor)))
    by_link true = ap (λ o. take_turn node_rules (plain_scene w) actor choice link o (slice_get w.lines link)) (slice_get-map plain w.states actor) ∙ turned-plain w actor choice link (slice_get w.states actor) (slice_get w.lines link)
    by_link false = ap (act_turn node_rules (plain_scene w) actor choice) (slice_get-map plain w.states actor) ∙ acted-plain w actor choice (slice_get w.states actor)

pub after-plain : (w : Scene ValueNodeState Msg) (e : ℕ × ℕ) → plain_scene (after_turn value_node_rules w e) ≡ after_turn node_rules (plain_scene w) e
after-plain w e = by_turn (turn_of value_node_rules w e.0 e.1) ∙ sym (ap (λ o. unwrap_or o (plain_scene w)) (turn-plain w e.0 e.1))
  where
    by_turn : (o : Option (Scene ValueNodeState Msg)) → plain_scene (unwrap_or o w) ≡ unwrap_or (option_map plain_scene o) (plain_scene w)
    by_turn None = refl
    by_turn (Some v) = refl

pub all-plain : (w : Scene ValueNodeState Msg) (es : List (ℕ × ℕ)) → plain_scene (after_all value_node_rules w es) ≡ after_all node_rules (plain_scene w) es
all-plain w [] = refl
all-plain w (e ∷ es) = all-plain (after_turn value_node_rules w e) es ∙ ap (λ v. after_all node_rules v es) (after-plain w e)

-- The first nodes.

pub first-states-plain : (i : Input) (actors : List ℕ) → map plain (map (first_at first_value i) actors) ≡ map (first_at first_control i) actors
first-states-plain i [] = refl
first-states-plain i (a ∷ actors) = let x = by_actor (actor_of i.net a) in let y = first-states-plain i actors in λ k. x k ∷ y k
  where
    by_actor : (x : ActorId) → plain (first_node first_value i a x) ≡ first_node first_control i a x
    by_actor Observer = refl
    by_actor (Control d) = refl
    by_actor (OfUnit u) = refl
    by_actor (OfHost h) = refl
