-- What the nodes of an input come to that run each in a thread of its own, in the words of the input.
use Rattle.std.proofs.Common.{◌≡◌, ℕ, ◌^◌, ◌<◌, List, length, map, sym, ap, ◌∙◌, subst, Option}
use Rattle.std.specs.Prelude.{Result, Ok, Err, IfOk}
use Rattle.sl_machine.specs.Plan.{Plan}
use Rattle.sl_machine.specs.declared.wiring.Entry.{Entry as BookEntry}
use Rattle.sl_loss.specs.Loss.{Loss}
use Rattle.sl_layout.specs.Net.{link_numbers}
use Rattle.sl_layout.specs.Wiring.{plan_of}
use Rattle.sl_net.specs.Input.{Input}
use Rattle.sl_wire.specs.declared.message.Msg.{Msg}
use Rattle.sl_model.specs.Losses.{loss_on}
use Rattle.sl_model.specs.World.{Entry}
use Rattle.sl_model.specs.Books.{schedule_of, numbers_of}
use Rattle.sl_world.specs.Scene.{Scene}
use Rattle.sl_merge.specs.Lamport.{lamport_numbers}
use Rattle.sl_merge.specs.Merging.{IsAscending}
use Rattle.sl_merge.specs.RunOfActors.{StandsAsRun}
use Rattle.sl_threads.specs.Threads.{ArePlanned, AreAtRest}
use Rattle.sl_proto.specs.Nodes.{NodeState, node_rules}
use Rattle.sl_proto.specs.Built.{first_states}
use Rattle.sl_emul.specs.Threaded.{plans_of}

-- the numbers that clocks beside the input's nodes show
abbrev clock_of : Input → List Entry → List ℕ
clock_of i es = lamport_numbers node_rules (plan_of i.net) (first_states i) (map (loss_on i) (link_numbers i.net)) es

pub record HasCome (i : Input) (v : Scene NodeState Msg) : Type 0 where
  pub run : StandsAsRun node_rules (plan_of i.net) (first_states i) (map (loss_on i) (link_numbers i.net)) v
  pub plan : v.plan ≡ plan_of i.net
  pub short : length v.book < 2 ^ 39
  pub planned : ArePlanned (plans_of i.net) v.book
  pub order : IsAscending v.book
  pub numbers : numbers_of v.book ≡ clock_of i (schedule_of v.book)
  pub rest : length v.book < 2 ^ 27 → AreAtRest node_rules (plan_of i.net).ins (plans_of i.net) v.states

module _ (i : Input) (plan : Plan) (states : List NodeState) (ls : List (Option Loss)) (plans : List (List ℕ))
    (plan-is : plan ≡ plan_of i.net) (states-are : states ≡ first_states i) (losses-are : ls ≡ map (loss_on i) (link_numbers i.net)) (plans-are : plans ≡ plans_of i.net) where
  run-in-words : (v : Scene NodeState Msg) → StandsAsRun node_rules plan states ls v → StandsAsRun node_rules (plan_of i.net) (first_states i) (map (loss_on i) (link_numbers i.net)) v
  run-in-words v h = subst (λ (p : Plan). StandsAsRun node_rules p (first_states i) (map (loss_on i) (link_numbers i.net)) v) plan-is
      (subst (λ (s : List NodeState). StandsAsRun node_rules plan s (map (loss_on i) (link_numbers i.net)) v) states-are
      (subst (λ (l : List (Option Loss)). StandsAsRun node_rules plan states l v) losses-are h))

  clock-in-words : (book : List BookEntry) → lamport_numbers node_rules plan states ls (schedule_of book) ≡ numbers_of book → numbers_of book ≡ clock_of i (schedule_of book)
  clock-in-words book h = sym h ∙ ap (λ (p : Plan). lamport_numbers node_rules p states ls (schedule_of book)) plan-is
      ∙ ap (λ (s : List NodeState). lamport_numbers node_rules (plan_of i.net) s ls (schedule_of book)) states-are
      ∙ ap (λ (l : List (Option Loss)). lamport_numbers node_rules (plan_of i.net) (first_states i) l (schedule_of book)) losses-are

  rest-in-words : (v : Scene NodeState Msg) → (length v.book < 2 ^ 27 → AreAtRest node_rules plan.ins plans v.states) → length v.book < 2 ^ 27 → AreAtRest node_rules (plan_of i.net).ins (plans_of i.net) v.states
  rest-in-words v h few = subst (λ (p : Plan). AreAtRest node_rules p.ins (plans_of i.net) v.states) plan-is (subst (λ (p : List (List ℕ)). AreAtRest node_rules plan.ins p v.states) plans-are (h few))

  pub has-come : {W E : Type 0} (r : Result W E) (scene : W → Scene NodeState Msg)
      → IfOk r (λ w. StandsAsRun node_rules plan states ls (scene w)) → IfOk r (λ w. lamport_numbers node_rules plan states ls (schedule_of (scene w).book) ≡ numbers_of (scene w).book)
      → IfOk r (λ w. IsAscending (scene w).book) → IfOk r (λ w. (scene w).plan ≡ plan) → IfOk r (λ w. length (scene w).book < 2 ^ 39) → IfOk r (λ w. ArePlanned plans (scene w).book)
      → IfOk r (λ w. length (scene w).book < 2 ^ 27 → AreAtRest node_rules plan.ins plans (scene w).states) → IfOk r (λ w. HasCome i (scene w))
  has-come (Ok w) scene stood numbered ascending same few planned at_rest = record {
    run = run-in-words (scene w) stood;
    plan = same ∙ plan-is;
    short = few;
    planned = subst (λ (p : List (List ℕ)). ArePlanned p (scene w).book) plans-are planned;
    order = ascending;
    numbers = clock-in-words (scene w).book numbered;
    rest = rest-in-words (scene w) at_rest;
  }
  has-come (Err e) scene stood numbered ascending same few planned at_rest = tt
