-- The world of nodes that keep values goes on to be what the turns of its book make of the first one.
use Rattle.std.proofs.Common.{◌≡◌, ℕ, ◌+◌, List, [], ◌∷◌, ◌++◌, take, refl, sym, ap, subst, ◌∙◌, Some, None, Ok, Err}
use Rattle.std.specs.Prelude.{Result, OnOk, OnErr, option_map}
use Rattle.std.proofs.lemmas.List.{map-append}
use Rattle.sl_machine.specs.declared.wiring.Entry.{Entry}
use Rattle.sl_net.specs.Input.{Input}
use Rattle.sl_wire.specs.declared.message.Msg.{Msg}
use Rattle.sl_world.specs.Scene.{Scene, last_number, turn_of, after_turn, after_all, run_of, kept, schedule_of, IsFront}
use Rattle.sl_world.specs.Legal.{numbered_from}
use Rattle.sl_proto.specs.Nodes.{node_rules}
use Rattle.sl_value.specs.Nodes.{ValueNodeState, value_node_rules, plain_scene}
use Rattle.sl_value.specs.Run.{first_scene_of, IsValueRun}
use Rattle.sl_value.proofs.Plain.{turn-plain, after-plain, all-plain}

-- What the laws of worlds say.

abbrev pub Legal : Type 0
Legal = (w : Scene ValueNodeState Msg) (es : List (ℕ × ℕ)) → run_of value_node_rules w (kept value_node_rules w es) ≡ Some (after_all value_node_rules w es)

abbrev pub Books : Type 0
Books = (w : Scene ValueNodeState Msg) (es : List (ℕ × ℕ)) → (after_all value_node_rules w es).book ≡ w.book ++ numbered_from (last_number w.book) (kept value_node_rules w es)

abbrev pub Only : Type 0
Only = (w v : Scene ValueNodeState Msg) (es : List (ℕ × ℕ)) → run_of value_node_rules w es ≡ Some v → after_all value_node_rules w es ≡ v

after-append : (w : Scene ValueNodeState Msg) (xs ys : List (ℕ × ℕ)) → after_all value_node_rules w (xs ++ ys) ≡ after_all value_node_rules (after_all value_node_rules w xs) ys
after-append w [] ys = refl
after-append w (x ∷ xs) ys = after-append (after_turn value_node_rules w x) xs ys

numbered : (n : ℕ) (es : List (ℕ × ℕ)) → schedule_of (numbered_from n es) ≡ es
numbered n [] = refl
numbered n (e ∷ es) = ap (λ fs. e ∷ fs) (numbered (n + 1) es)

pub run-on : Legal → Books → Only → (i : Input) (w : Scene ValueNodeState Msg) (es : List (ℕ × ℕ)) → IsValueRun i w → IsValueRun i (after_all value_node_rules w es)
run-on legal books only i w es r = record {
  losses_are = r.losses_are;
  new = r.new;
  reached = ap (after_all value_node_rules (first_scene_of i r.losses_are))
      (ap schedule_of (books w es) ∙ map-append (λ (e : Entry). (e.actor, e.choice)) w.book (numbered_from (last_number w.book) (kept value_node_rules w es))
      ∙ ap (λ fs. schedule_of w.book ++ fs) (numbered (last_number w.book) (kept value_node_rules w es)))
      ∙ after-append (first_scene_of i r.losses_are) (schedule_of w.book) (kept value_node_rules w es)
      ∙ ap (λ v. after_all value_node_rules v (kept value_node_rules w es)) r.reached
      ∙ only w (after_all value_node_rules w es) (kept value_node_rules w es) (legal w es);
}

-- after a turn, which may be refused
pub run-turn : {T E : Type 0} → Legal → Books → Only → (i : Input) (w v : Scene ValueNodeState Msg) (e : ℕ × ℕ) (r : Result T E) → OnOk r (v ≡ after_turn value_node_rules w e) → OnErr r (v ≡ w) → IsValueRun i w → IsValueRun i v
run-turn legal books only i w v e (Ok t) h k x = subst (IsValueRun i) (sym h) (run-on legal books only i w (e ∷ []) x)
run-turn legal books only i w v e (Err t) h k x = subst (IsValueRun i) (sym k) x

-- after a front of a schedule
pub run-front : Legal → Books → Only → (i : Input) (w v : Scene ValueNodeState Msg) (es : List (ℕ × ℕ)) → IsFront value_node_rules w es v → IsValueRun i w → IsValueRun i v
run-front legal books only i w v es f x = subst (IsValueRun i) (sym f.is) (run-on legal books only i w (take f.entries es) x)

-- Without the values.

pub plain-turned : (w : Scene ValueNodeState Msg) (v : Scene ValueNodeState Msg) (e : ℕ × ℕ) → v ≡ after_turn value_node_rules w e → plain_scene v ≡ after_turn node_rules (plain_scene w) e
plain-turned w v e h = ap plain_scene h ∙ after-plain w e

pub plain-did : (w v : Scene ValueNodeState Msg) (a c : ℕ) → turn_of value_node_rules w a c ≡ Some v → turn_of node_rules (plain_scene w) a c ≡ Some (plain_scene v)
plain-did w v a c h = turn-plain w a c ∙ ap (option_map plain_scene) h

pub plain-idle : (w : Scene ValueNodeState Msg) (a c : ℕ) → turn_of value_node_rules w a c ≡ None → turn_of node_rules (plain_scene w) a c ≡ None
plain-idle w a c h = turn-plain w a c ∙ ap (option_map plain_scene) h

pub plain-all : (w v : Scene ValueNodeState Msg) (es : List (ℕ × ℕ)) → v ≡ after_all value_node_rules w es → plain_scene v ≡ after_all node_rules (plain_scene w) es
plain-all w v es h = ap plain_scene h ∙ all-plain w es

pub plain-front : (w v : Scene ValueNodeState Msg) (es : List (ℕ × ℕ)) → IsFront value_node_rules w es v → IsFront node_rules (plain_scene w) es (plain_scene v)
plain-front w v es f = record { entries = f.entries; within = f.within; is = plain-all w v (take f.entries es) f.is }
