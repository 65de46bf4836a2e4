-- A world that stands as a run of the first nodes stands for the world of its book.
use Rattle.std.proofs.Common.{◌≡◌, ℕ, ◌^◌, ◌<◌, List, length, refl, sym, ap, ◌∙◌, subst, arith, Option, Some}
use Rattle.std.specs.Prelude.{slice_get}
use Rattle.std.proofs.lemmas.List.{length-map}
use Rattle.sl_loss.specs.Loss.{Loss}
use Rattle.sl_layout.specs.Wiring.{plan_of}
use Rattle.sl_net.specs.Input.{Input}
use Rattle.sl_unit.specs.Made.{IsRanged}
use Rattle.sl_wire.specs.declared.message.Msg.{Msg}
use Rattle.sl_model.specs.History.{World, Losses}
use Rattle.sl_model.specs.Setup.{setup_of}
use Rattle.sl_model.specs.World.{Entry, start, world, IsLegal}
use Rattle.sl_model.specs.Books.{schedule_of}
use Rattle.sl_world.specs.Scene.{Scene, after_all, run_of}
use Rattle.sl_merge.specs.RunOfActors.{StandsAsRun}
use Rattle.sl_proto.specs.Nodes.{NodeState, node_rules}
use Rattle.sl_proto.specs.Meaning.{NodeStands, IsRunnable}
use Rattle.sl_proto.specs.Built.{first_states}
use Rattle.sl_proto.specs.Standing.{Case, case_of, world_of, IsImageOf, StandsFor, HasObserver, FirstNodes, scene_of, AreNewLosses}

-- What the laws of lower crates say.

abbrev pub Only : Type 0
Only = (w v : Scene NodeState Msg) (es : List Entry) → run_of node_rules w es ≡ Some v → after_all node_rules w es ≡ v

abbrev pub Image : Type 0
Image = (x : Case) (f : FirstNodes x) (es : List Entry) → length es < 2 ^ 40 → IsImageOf x (world x.setup x.lost es) (after_all node_rules (scene_of f) es)

abbrev pub Legal : Type 0
Legal = (x : Case) (f : FirstNodes x) (es : List Entry) (v : Scene NodeState Msg) → length es < 2 ^ 40 → run_of node_rules (scene_of f) es ≡ Some v → IsLegal x.setup x.lost es

abbrev pub Starts : Type 0
Starts = (i : Input) (a : ℕ) (state : NodeState) → IsRanged i.snapshot → slice_get (first_states i) a ≡ Some state → NodeStands (setup_of i) i.snapshot (start i.net) a state

pub below40 : (n : ℕ) → n < 2 ^ 39 → n < 2 ^ 40
below40 n low = omega (arith, low)

-- the first nodes of an input
abbrev pub first-nodes : (i : Input) (lost : Losses) (ls : List (Option Loss)) → IsRunnable (setup_of i) i.snapshot lost → IsRanged i.snapshot → length (first_states i) ≡ length i.net.actors → Starts → AreNewLosses i.net lost ls → FirstNodes (case_of i lost)
first-nodes i lost ls run ranged each starts new = record {
  states = first_states i;
  losses = ls;
  runnable = run;
  first = record { states_each = each; states_stand = λ a state here. starts i a state ranged here; losses_each = new.each; losses_go = new.go };
}

-- what a scene stands for doesn't hang on its book
rebooked : (x : Case) (w : World) (v u : Scene NodeState Msg) → v ≡ record u { book = v.book } → IsImageOf x w u → IsImageOf x w v
rebooked x w v u same at = subst (IsImageOf x w) (sym same) (record { plan = at.plan; states_each = at.states_each; states = at.states; lines_each = at.lines_each; lines = at.lines })

module _ (x : Case) (f : FirstNodes x) (v : Scene NodeState Msg) (only : Only) (r : StandsAsRun node_rules (plan_of x.setup.net) f.states f.losses v) where
  reached : after_all node_rules (scene_of f) (schedule_of v.book) ≡ r.world
  reached = only (scene_of f) r.world (schedule_of v.book) r.run

  pub stands-by-run : Image → Legal → length v.book < 2 ^ 40 → StandsFor x.setup.net x v
  stands-by-run image legal few =
      let short : length (schedule_of v.book) < 2 ^ 40 = subst (λ (n : ℕ). n < 2 ^ 40) (sym (length-map v.book _)) few in
      record {
        net_is = refl;
        runnable = f.runnable;
        legal = legal x f (schedule_of v.book) r.world short r.run;
        image = rebooked x (world_of x v) v r.world r.same (subst (IsImageOf x (world_of x v)) reached (image x f (schedule_of v.book) short));
      }

  pub has-observer : HasObserver (after_all node_rules (scene_of f) (schedule_of v.book)) → HasObserver v
  has-observer o =
      let u = subst HasObserver reached o in
      record { observer = u.observer; first = ap (λ (s : Scene NodeState Msg). slice_get s.states 0) r.same ∙ u.first }
