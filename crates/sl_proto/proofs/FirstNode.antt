-- The observer's node stays where it is.
use Rattle.std.proofs.Common.{◌≡◌, ℕ, zero, suc, ◌+◌, List, [], ◌∷◌, sym, ap, ◌∙◌, Option, Some, None}
use Rattle.std.specs.Prelude.{Bool, true, false, if◌then◌else◌, nat_lt, slice_get, slice_set, option_map}
use Rattle.sl_machine.specs.Machine.{After}
use Rattle.sl_wire.specs.declared.message.Msg.{Msg}
use Rattle.sl_observe.specs.Observer.{ObserverState, observer_rules, observer_counts}
use Rattle.sl_world.proofs.TurnLaws.{KeptByTurns, all_kept}
use Rattle.sl_world.specs.Scene.{Scene, after_all}
use Rattle.sl_proto.specs.Nodes.{NodeState, ObserverNode, as_node, node_rules}
use Rattle.sl_proto.specs.Standing.{HasObserver}

abbrev IsObserverNode : NodeState → Type 0
IsObserverNode s = (o : ObserverState) × (s ≡ ObserverNode o)

take-keeps : (s : NodeState) (link : ℕ) (m : Msg) → IsObserverNode s → IsObserverNode (node_rules.take s link m).state
take-keeps s link m h = ((observer_rules.take h.0 link m).state, ap (λ t. (node_rules.take t link m).state) h.1)

act-keeps : (s : NodeState) (action : ℕ) (after : After NodeState Msg) → node_rules.act s action ≡ Some after → IsObserverNode s → IsObserverNode after.state
act-keeps s action after acts h = by_test (nat_lt action ((observer_counts h.0).ins + (observer_counts h.0).actions)) (observer_rules.act h.0 action) (ap (λ t. node_rules.act t action) (sym h.1) ∙ acts)
  where
    by_test : (b : Bool) (acted : Option (After ObserverState Msg)) → (if b then option_map (as_node ObserverNode) acted else None) ≡ Some after → IsObserverNode after.state
    by_test true (Some a) e = let is : after ≡ as_node ObserverNode a = cc in (a.state, ap (λ (t : After NodeState Msg). t.state) is)
    by_test true None e = absurd (cc)
    by_test false acted e = absurd (cc)

set-keeps : (states : List NodeState) (actor : ℕ) (old new : NodeState) → slice_get states actor ≡ Some old → (IsObserverNode old → IsObserverNode new)
    → (o : ObserverState) → slice_get states 0 ≡ Some (ObserverNode o) → (p : ObserverState) × (slice_get (slice_set states actor new) 0 ≡ Some (ObserverNode p))
set-keeps [] actor old new here keeps o first = absurd (cc)
set-keeps (s ∷ states) zero old new here keeps o first = let is : old ≡ ObserverNode o = cc in let k = keeps (o, is) in (k.0, ap Some k.1)
set-keeps (s ∷ states) (suc actor) old new here keeps o first = (o, first)

kept-by-turns : KeptByTurns node_rules HasObserver
kept-by-turns = record {
  by_take = λ w actor choice t h. let k = set-keeps w.states actor t.state (node_rules.take t.state choice t.message).state t.state_is (take-keeps t.state choice t.message) h.observer h.first in
      record { observer = k.0; first = k.1 };
  by_act = λ w actor choice t h. let k = set-keeps w.states actor t.state t.after.state t.state_is (act-keeps t.state choice t.after t.act_is) h.observer h.first in
      record { observer = k.0; first = k.1 };
}

pub observer-after : (v : Scene NodeState Msg) (es : List (ℕ × ℕ)) → HasObserver v → HasObserver (after_all node_rules v es)
observer-after v es h = all_kept node_rules HasObserver kept-by-turns v es h
