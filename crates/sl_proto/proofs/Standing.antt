-- Scenes of nodes that stand for the worlds of their own books, along schedules.
use Rattle.std.proofs.Common.{◌≡◌, ◌+◌, ◌^◌, ◌<◌, List, [], ◌++◌, length, refl, sym, ap, subst, ◌∙◌, arith, append-nil}
use Rattle.std.proofs.lemmas.List.{length-map}
use Rattle.sl_layout.specs.Net.{Net}
use Rattle.sl_layout.specs.Wiring.{plan_of}
use Rattle.sl_wire.specs.declared.message.Msg.{Msg}
use Rattle.sl_wire.specs.Sizes.{sizes_of}
use Rattle.sl_model.specs.History.{Losses}
use Rattle.sl_model.specs.Setup.{Setup}
use Rattle.sl_model.specs.World.{Entry, start, run, world, IsLegal, kept_from}
use Rattle.sl_model.specs.Books.{schedule_of}
use Rattle.sl_world.specs.Scene.{Scene, after_all, last_number}
use Rattle.sl_world.specs.Legal.{numbered_from}
use Rattle.sl_proto.specs.Image.{IsImage}
use Rattle.sl_proto.specs.Meaning.{NodeStands}
use Rattle.sl_proto.specs.Nodes.{NodeState, node_rules}
use Rattle.sl_proto.specs.Runs.{Run, Follows}
use Rattle.sl_proto.specs.Standing.{Case, world_of, run_at, StandsFor}
use Rattle.sl_proto.specs.Calls.{Keeps}
use Rattle.sl_proto.proofs.Turned.{Given}
use Rattle.sl_proto.proofs.Schedules.{all-image, grown-book, schedule-grown}

-- Schedules.

module _ (net : Net) (x : Case) (given : Given x.setup x.lost (sizes_of x.table) (NodeStands x.setup x.table) node_rules) (v : Scene NodeState Msg) (es : List Entry) (st : StandsFor net x v) (few : length v.book + length es < 2 ^ 40) where
  abbrev book : List Entry
  book = schedule_of v.book

  abbrev after : Scene NodeState Msg
  after = after_all node_rules v es

  abbrev done : List Entry
  done = kept_from x.setup x.lost (world_of x v) es

  within : length book + length es < 2 ^ 40
  within = let n : length (schedule_of v.book) ≡ length v.book = length-map v.book _ in omega (arith, few, n)

  grown-by : after.book ≡ v.book ++ numbered_from (last_number v.book) done
  grown-by = grown-book x.setup x.lost (sizes_of x.table) (NodeStands x.setup x.table) node_rules given book es v within st.image

  schedule : schedule_of after.book ≡ book ++ done
  schedule = schedule-grown v.book after.book (last_number v.book) done grown-by

  reached : world_of x after ≡ run x.setup x.lost (world_of x v) es
  reached = ap (world x.setup x.lost) schedule ∙ given.turns.parts x.setup x.lost (start x.setup.net) book done ∙ given.turns.kept x.setup x.lost (world_of x v) es

  pub follows-after : Follows x.setup x.lost (run_at x v) es (run_at x after)
  follows-after = record { reached = reached; book = grown-by }

  pub stands-after : StandsFor net x after
  stands-after = record {
    net_is = st.net_is;
    runnable = st.runnable;
    legal = subst (IsLegal x.setup x.lost) (sym schedule) (given.turns.legal_parts x.setup x.lost (start x.setup.net) book done st.legal (given.turns.legal x.setup x.lost (world_of x v) es));
    image = subst (λ w. IsImage x.setup x.lost (sizes_of x.table) (NodeStands x.setup x.table) w after) (sym reached)
        (all-image x.setup x.lost (sizes_of x.table) (NodeStands x.setup x.table) node_rules given book es v within st.image);
  }

-- Nothing follows an empty schedule.
pub follows-none : (s : Setup) (lost : Losses) (old : Run) → Follows s lost old [] old
follows-none s lost old = record { reached = refl; book = sym (append-nil old.book) }

-- What calls keep: one that takes no turn, and one after another.

pub keeps_none : {T F : Type 0} (scene_of : T → Scene NodeState Msg) (fixed_of : T → F) (net : Net) (t : T) → (scene_of t).plan ≡ plan_of net → Keeps scene_of fixed_of net t t
keeps_none scene_of fixed_of net t plan = record { plan = plan; observer = λ h. h; stands = λ x st. st; fixed = refl }

pub keeps_on : {T F : Type 0} (scene_of : T → Scene NodeState Msg) (fixed_of : T → F) (net : Net) (old mid new : T) → Keeps scene_of fixed_of net old mid → Keeps scene_of fixed_of net mid new → Keeps scene_of fixed_of net old new
keeps_on scene_of fixed_of net old mid new one next = record {
  plan = next.plan;
  observer = λ h. next.observer (one.observer h);
  stands = λ x st. next.stands x (one.stands x st);
  fixed = next.fixed ∙ one.fixed;
}
