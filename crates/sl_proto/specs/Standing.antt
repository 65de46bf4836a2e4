-- Scenes of nodes that stand for the worlds of their own books.
--     Case                what a scene can stand for: a setup, its snapshot table and a loss table
--     world_of x v        the world of histories that the book of the scene v leads to
--     run_at x v          this world beside the book
--     IsImageOf x w v     the scene v of nodes stands for the world w
--     StandsFor net x v   the scene v of nodes of the net stands for the world of its book
--     StandsSomehow i v   it does so in a run of the input under some loss table
--     WhenFinished i v P  P is true of the findings of each finished world of such a run
--     FirstNodes x        what the first scene of nodes is made of; scene_of f is this scene
--     SettlesTo, FinishesTo    from one scene to another by settling, by finishing
use Rattle.std.specs.Prelude.{◌≡◌, ℕ, ◌<◌, List, length, Option, Some, None, slice_get, slice_index_or}
use Rattle.sl_loss.specs.Loss.{Loss}
use Rattle.sl_net.specs.declared.input.Snapshot.{Snapshot}
use Rattle.sl_layout.specs.Net.{Net}
use Rattle.sl_net.specs.Input.{Input}
use Rattle.sl_layout.specs.Wiring.{plan_of}
use Rattle.sl_wire.specs.declared.message.Msg.{Msg}
use Rattle.sl_wire.specs.Sizes.{sizes_of}
use Rattle.sl_observe.specs.Observer.{ObserverState}
use Rattle.sl_model.specs.declared.findings.Findings.{Findings}
use Rattle.sl_model.specs.History.{World, Losses}
use Rattle.sl_model.specs.Setup.{Setup, setup_of}
use Rattle.sl_model.specs.World.{Entry, world, IsLegal}
use Rattle.sl_model.specs.Books.{schedule_of}
use Rattle.sl_model.specs.End.{settle, Settled, IsFin, IsFinished}
use Rattle.sl_model.specs.Findings.{findings}
use Rattle.sl_world.specs.Scene.{Scene, first_scene}
use Rattle.sl_proto.specs.Runs.{Run, Goes}
use Rattle.sl_proto.specs.Nodes.{NodeState, ObserverNode}
use Rattle.sl_proto.specs.Image.{GoesOn, IsImage, IsFirst}
use Rattle.sl_proto.specs.Meaning.{NodeStands, IsRunnable}

pub record Case : Type 0 where
  pub setup : Setup
  pub table : Snapshot
  pub lost : Losses

-- an input under a loss table
abbrev pub case_of : Input → Losses → Case
case_of i lost = record { setup = setup_of i; table = i.snapshot; lost = lost }

abbrev pub world_of : Case → Scene NodeState Msg → World
world_of x v = world x.setup x.lost (schedule_of v.book)

abbrev pub run_at : Case → Scene NodeState Msg → Run
run_at x v = record { world = world_of x v; book = v.book }

abbrev pub IsImageOf : Case → World → Scene NodeState Msg → Type 0
IsImageOf x w v = IsImage x.setup x.lost (sizes_of x.table) (NodeStands x.setup x.table) w v

-- the book is legal, however its entries are numbered, and the nodes and links stand for the world that it leads to
pub record StandsFor (net : Net) (x : Case) (v : Scene NodeState Msg) : Type 0 where
  pub net_is : x.setup.net ≡ net
  pub runnable : IsRunnable x.setup x.table x.lost
  pub legal : IsLegal x.setup x.lost (schedule_of v.book)
  pub image : IsImageOf x (world_of x v) v

abbrev pub StandsSomehow : Input → Scene NodeState Msg → Type 0
StandsSomehow i v = (lost : Losses) × StandsFor i.net (case_of i lost) v

abbrev pub WhenFinished : Input → Scene NodeState Msg → (Findings → Type 0) → Type 0
WhenFinished i v P = (lost : Losses) → StandsFor i.net (case_of i lost) v → IsFinished (setup_of i) lost (world_of (case_of i lost) v)
    → P (findings (setup_of i) lost (schedule_of v.book))

pub record FirstNodes (x : Case) : Type 0 where
  pub states : List NodeState
  pub losses : List (Option Loss)
  pub runnable : IsRunnable x.setup x.table x.lost
  pub first : IsFirst x.setup x.lost (NodeStands x.setup x.table) states losses

abbrev pub scene_of : {x : Case} → FirstNodes x → Scene NodeState Msg
scene_of {x} f = first_scene (plan_of x.setup.net) f.states f.losses

-- the losses of an input's links go on from no put
pub record AreNewLosses (net : Net) (lost : Losses) (losses : List (Option Loss)) : Type 0 where
  pub each : length losses ≡ length net.links
  pub go : (l : ℕ) → l < length net.links → GoesOn (lost l) 0 (slice_index_or losses l None)

-- the first node is an observer
pub record HasObserver (v : Scene NodeState Msg) : Type 0 where
  pub observer : ObserverState
  pub first : slice_get v.states 0 ≡ Some (ObserverNode observer)

pub record SettlesTo (x : Case) (v u : Scene NodeState Msg) : Type 0 where
  pub fuel : ℕ
  pub turns : List Entry
  pub settles : settle fuel x.setup x.lost (world_of x v) ≡ Some turns
  pub goes : Goes x.setup x.lost (run_at x v) turns (run_at x u)
  pub settled : Settled x.setup x.lost (world_of x u)

pub record FinishesTo (x : Case) (v u : Scene NodeState Msg) : Type 0 where
  pub turns : List Entry
  pub finishes : IsFin x.setup x.lost (world_of x v) turns
  pub goes : Goes x.setup x.lost (run_at x v) turns (run_at x u)
  pub finished : IsFinished x.setup x.lost (world_of x u)
