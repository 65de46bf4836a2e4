-- What is told of a run, and what the law of cuts says.
use Rattle.std.proofs.Common.{ℕ, List, sym, subst}
use Rattle.sl_machine.specs.declared.wiring.Entry.{Entry as BookEntry}
use Rattle.sl_net.specs.Input.{Input}
use Rattle.sl_net.specs.Wired.{IsNet}
use Rattle.sl_wire.specs.declared.message.Msg.{Msg}
use Rattle.sl_model.specs.History.{Losses}
use Rattle.sl_model.specs.Setup.{Setup}
use Rattle.sl_model.specs.declared.findings.Findings.{Findings}
use Rattle.sl_model.specs.World.{Entry, world}
use Rattle.sl_model.specs.Cut.{cuts}
use Rattle.sl_model.specs.Matching.{IsConsistentCut}
use Rattle.sl_world.specs.Scene.{Scene}
use Rattle.sl_proto.specs.Nodes.{NodeState}
use Rattle.sl_proto.specs.Standing.{case_of, world_of, StandsFor}
use Rattle.sl_emul.specs.Run.{HasEnded, AreNodesOf, IsOutcomeOf}
use Rattle.sl_emul.specs.Finishing.{IsToldOf}

abbrev pub Consistent : Type 0
Consistent = (s : Setup) (lost : Losses) (es : List Entry) (k : ℕ) → IsNet s.net → IsConsistentCut s.net lost (world s lost es) (cuts (world s lost es) k)

-- the nodes of a scene are those of the world of its book
pub nodes-of : (i : Input) (lost : Losses) (v : Scene NodeState Msg) → StandsFor i.net (case_of i lost) v → AreNodesOf i (world_of (case_of i lost) v) v.states
nodes-of i lost v stands = record { each = stands.image.states_each; stand = stands.image.states }

-- what is told of the scene to which a run came
pub outcome-of : (IsBook : Input → Losses → List BookEntry → ℕ → Type 0) (i : Input) (lost : Losses) (v : Scene NodeState Msg) (last : ℕ) (book : List BookEntry) (front : ℕ) (found : Findings) (nodes : List NodeState)
    → HasEnded IsBook i lost v last → IsToldOf i lost v last book front found nodes → IsOutcomeOf IsBook i lost book front found nodes
outcome-of IsBook i lost v last book front found nodes ended told =
    subst (λ b. IsOutcomeOf IsBook i lost b front found nodes) (sym told.book_is) (subst (λ n. IsOutcomeOf IsBook i lost v.book n found nodes) (sym told.front_is) (record {
      run = ended.run;
      tells = told.tells;
      stand = subst (AreNodesOf i (world_of (case_of i lost) v)) (sym told.nodes_are) (nodes-of i lost v ended.stands);
    }))
